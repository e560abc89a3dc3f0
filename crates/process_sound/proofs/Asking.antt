-- What threads ask on an end keeps what holds of it.
use Rattle.std.proofs.Common.{arith, ◌≡◌, ◌⊎◌, inl, inr, ℕ, ◌+◌, ◌≤◌, Bool, true, false, not, List, [], ◌∷◌, ◌++◌, map, drop, Option, Some, None, is_some, if◌then◌else◌, refl, sym, subst, true≢false, ⊎_elim}
use Rattle.std.specs.Prelude.{IfSome, ◌==◌}
use Rattle.std.proofs.Common.{eqb-true}
use Rattle.std.proofs.Math.Nat.{min-le_right}
use Rattle.std.specs.List.{AllByRecursion, filter}
use Rattle.charlotte_calls.specs.Ranges.{IsU32}
use Rattle.charlotte_calls.specs.declared.names.EndId.{EndId}
use Rattle.lynx_packets.specs.declared.packet.RtPacket.TheVariants as packets
use Rattle.machine_sound.specs.Sound.{times}
use Rattle.machine_turns.specs.Turns.{Turns}
use Rattle.end_protocol.specs.declared.kept.Accept.{Accept}
use Rattle.end_protocol.specs.declared.kept.Binding.{Binding}
use Rattle.end_protocol.specs.declared.kept.Kept.{Kept}
use Rattle.end_protocol.specs.declared.kept.Response.{Response}
use Rattle.end_protocol.specs.declared.kept.Taker.{Taker}
use Rattle.end_protocol.specs.declared.kept.Taker.TheVariants as takers
use Rattle.end_protocol.specs.declared.kept.Wanted.{Wanted as Coming}
use Rattle.end_protocol.specs.declared.messages.Connect.{Connect}
use Rattle.end_protocol.specs.declared.messages.Message.{Message}
use Rattle.end_protocol.specs.Asking.{accepts_too, asked, binds, connected, is_bound, is_owed, later, lined_up, replied, replies, unbinds}
use Rattle.end_protocol.specs.Falling.{outstanding_thread}
use Rattle.end_protocol.specs.Messages.{further, most_of, request_of}
use Rattle.process_run.specs.States.{Module}
use Rattle.process_run.specs.Actions.{served}
use Rattle.process_sound.specs.Packets.{MayAsk, MaySend}
use Rattle.process_sound.specs.Ends.{AreWaiting, IsAccepting, IsAmong, IsComing, IsConnect, IsConnecting, IsKept, IsReply, IsTaker, waiting}
use Rattle.process_sound.proofs.Every.{every_append, every_filter}
use Rattle.process_sound.proofs.Sends.{further_send}
use Rattle.process_sound.proofs.Times.{times_three}

pub later_fits : (n : ℕ) → IsU32 (later n)
later_fits n = let most : later n ≤ 4294967295 = min-le_right (n + 1) 4294967295 in omega arith

-- a reply is in part only while a request is outstanding
pub no_reply : (r : Option Response) (o p : Option Connect) → is_some o ≡ false → IfSome r (λ x. IsReply x o) → IfSome r (λ x. IsReply x p)
no_reply None o p none is = tt
no_reply (Some r) None p none is = absurd is
no_reply (Some r) (Some c) p none is = absurd (true≢false none)

module _ (version : ℕ) (m : Module) where
  -- ---- connects

  pub asked_kept : (c : Connect) (k : Kept) → IsConnect c → IfSome k.reply (λ r. IsReply r (Some c)) → IsKept version m k → IsKept version m (asked version c k)
  unfolding asked
  asked_kept c k is reply kept = record {
    queue = every_append (λ (message : Message). MaySend version message.packet) k.queue (request_of version c ∷ []) kept.queue (is.sends version c.number is.number, tt);
    last = kept.last;
    outstanding = record { number = is.number; sends = is.sends };
    behind = kept.behind;
    owed = kept.owed;
    forbade = kept.forbade;
    request = kept.request;
    reply = reply;
    bindings = kept.bindings;
  }

  behind_kept : (c : Connect) (k : Kept) → IsConnect c → IsKept version m k → IsKept version m (record k { behind = k.behind ++ c ∷ [] })
  behind_kept c k is kept = record {
    queue = kept.queue;
    last = kept.last;
    outstanding = kept.outstanding;
    behind = every_append IsConnect k.behind (c ∷ []) kept.behind (is, tt);
    owed = kept.owed;
    forbade = kept.forbade;
    request = kept.request;
    reply = kept.reply;
    bindings = kept.bindings;
  }

  lined_kept : (c : Connect) (k : Kept) → IsConnect c → IsKept version m k → IsKept version m (lined_up version c k)
  unfolding lined_up
  lined_kept c k is kept = by_outstanding (is_some k.outstanding) refl
    where
      by_outstanding : (b : Bool) → is_some k.outstanding ≡ b → IsKept version m (if b then record k { behind = k.behind ++ c ∷ [] } else asked version c k)
      by_outstanding true some = behind_kept c k is kept
      by_outstanding false none = asked_kept c k is (no_reply k.reply k.outstanding (Some c) none kept.reply) kept

  numbered_kept : (n : ℕ) (k : Kept) → IsU32 n → IsKept version m k → IsKept version m (record k { last = n })
  numbered_kept n k fits kept = record {
    queue = kept.queue;
    last = fits;
    outstanding = kept.outstanding;
    behind = kept.behind;
    owed = kept.owed;
    forbade = kept.forbade;
    request = kept.request;
    reply = kept.reply;
    bindings = kept.bindings;
  }

  pub connected_kept : (c : Connect) (k : Kept) → MayAsk c.signature c.values → IsKept version m k → IsKept version m (connected version c k)
  connected_kept c k sends kept =
      lined_kept (record c { number = later k.last }) (record k { last = later k.last }) (record { number = later_fits k.last; sends = sends }) (numbered_kept (later k.last) k (later_fits k.last) kept)

  -- ---- accepts and bindings

  among_more : (thread : ℕ) (signature : List ℕ) (as' : List Accept) (a : Accept) → IsAmong thread signature as' → IsAmong thread signature (as' ++ a ∷ [])
  among_more thread signature [] a is = absurd is
  among_more thread signature (b ∷ as') a is =
      ⊎_elim (λ (here : (b.thread ≡ thread) × (b.signature ≡ signature)). inl here) (λ (there : IsAmong thread signature as'). inr (among_more thread signature as' a there)) is

  taker_more : (as' : List Accept) (a : Accept) (signature : List ℕ) (t : Taker) → IsTaker m as' signature t → IsTaker m (as' ++ a ∷ []) signature t
  taker_more as' a signature (takers.Thread thread) is = among_more thread signature as' a is
  taker_more as' a signature (takers.Entry entry) is = is

  coming_more : (as' : List Accept) (a : Accept) (o : Option Coming) → IfSome o (IsComing m as') → IfSome o (IsComing m (as' ++ a ∷ []))
  coming_more as' a None is = tt
  coming_more as' a (Some w) is = record { number = is.number; each = is.each; op = is.op; request = is.request; taker = taker_more as' a w.signature w.by is.taker }

  pub accepting_kept : (a : Accept) (k : Kept) → IsKept version m k → IsKept version m (accepts_too a k)
  accepting_kept a k kept = record {
    queue = kept.queue;
    last = kept.last;
    outstanding = kept.outstanding;
    behind = kept.behind;
    owed = kept.owed;
    forbade = kept.forbade;
    request = coming_more k.accepts a k.request kept.request;
    reply = kept.reply;
    bindings = kept.bindings;
  }

  with_bindings : (bs : List Binding) (k : Kept) → AllByRecursion (λ b. served m b.entry ≡ Some b.signature) bs → IsKept version m k → IsKept version m (record k { bindings = bs })
  with_bindings bs k all kept = record {
    queue = kept.queue;
    last = kept.last;
    outstanding = kept.outstanding;
    behind = kept.behind;
    owed = kept.owed;
    forbade = kept.forbade;
    request = kept.request;
    reply = kept.reply;
    bindings = all;
  }

  pub binding_kept : (b : Binding) (k : Kept) → served m b.entry ≡ Some b.signature → IsKept version m k → IsKept version m (binds b k)
  binding_kept b k serves kept = by_bound (is_bound b.entry k)
    where
      by_bound : (is : Bool) → IsKept version m (if is then k else record k { bindings = k.bindings ++ b ∷ [] })
      by_bound true = kept
      by_bound false =
          with_bindings (k.bindings ++ b ∷ []) k (every_append (λ (x : Binding). served m x.entry ≡ Some x.signature) k.bindings (b ∷ []) kept.bindings (serves, tt)) kept

  pub unbinding_kept : (entry : ℕ) (k : Kept) → IsKept version m k → IsKept version m (unbinds entry k)
  unbinding_kept entry k kept =
      with_bindings (filter (λ b. not (b.entry == entry)) k.bindings) k
      (every_filter (λ (x : Binding). served m x.entry ≡ Some x.signature) (λ b. not (b.entry == entry)) k.bindings kept.bindings) kept

  -- ---- replies

  -- the reply may be sent where its number is one
  pub record IsAnswer (r : Response) : Type 0 where
    pub sends : IsU32 r.number → MaySend version (packets.Reply r.number r.status r.values)
    -- in version 2 all of its ends travel with it
    pub ends : (version ≡ 1) ⊎ (drop (most_of version) r.ends ≡ [])

  abbrev AllSend : List Message → Type 0
  AllSend ms = AllByRecursion (λ message. MaySend version message.packet) ms

  answer_sends : (r : Response) → IsU32 r.number → IsAnswer r → AllSend (replies version r)
  answer_sends r fits is = (
    is.sends fits,
    ⊎_elim
        (λ (first : version ≡ 1). further_send version 2 r.number (drop (most_of version) r.ends) first (omega arith) (omega arith) fits)
        (λ (none : drop (most_of version) r.ends ≡ []). subst (λ (xs : List EndId). AllSend (further 2 r.number xs)) (sym none) tt)
        is.ends,
  )

  owed_fits : (number : ℕ) (o : Option ℕ) → is_owed number o ≡ true → IfSome o IsU32 → IsU32 number
  owed_fits number None owed fits = absurd (true≢false (sym owed))
  owed_fits number (Some n) owed fits = subst IsU32 (eqb-true n number owed) fits

  -- what is queued, where nothing is owed any longer
  paid_kept : (ms : List Message) (k : Kept) → AllSend ms → IsKept version m k → IsKept version m (record k { owed = None; queue = ms })
  paid_kept ms k sends kept = record {
    queue = sends;
    last = kept.last;
    outstanding = kept.outstanding;
    behind = kept.behind;
    owed = tt;
    forbade = kept.forbade;
    request = kept.request;
    reply = kept.reply;
    bindings = kept.bindings;
  }

  pub replied_kept : (r : Response) (k : Kept) → IsAnswer r → IsKept version m k → IsKept version m (replied version r k)
  unfolding replied
  replied_kept r k is kept = by_owed (is_owed r.number k.owed) refl
    where
      by_dead : (b : Bool) → IsU32 r.number → IsKept version m (if b then record k { owed = None } else record k { owed = None; queue = k.queue ++ replies version r })
      by_dead true fits = paid_kept k.queue k kept.queue kept
      by_dead false fits =
          paid_kept (k.queue ++ replies version r) k
          (every_append (λ (message : Message). MaySend version message.packet) k.queue (replies version r) kept.queue (answer_sends r fits is)) kept

      by_owed : (b : Bool) → is_owed r.number k.owed ≡ b →
          IsKept version m (if not b then k else if k.dead then record k { owed = None } else record k { owed = None; queue = k.queue ++ replies version r })
      by_owed true owed = by_dead k.dead (owed_fits r.number k.owed owed kept.owed)
      by_owed false owed = kept

-- ---- who waits

module _ (m : Module) (t : Turns) where
  pub waits_as : (k j : Kept) → j.outstanding ≡ k.outstanding → j.behind ≡ k.behind → j.accepts ≡ k.accepts → AreWaiting m t k → AreWaiting m t j
  waits_as k j outstanding behind accepts are = record {
    outstanding = subst (λ (o : Option Connect). IfSome o (IsConnecting m t)) (sym outstanding) are.outstanding;
    behind = subst (λ (cs : List Connect). AllByRecursion (IsConnecting m t) cs) (sym behind) are.behind;
    accepts = subst (λ (as' : List Accept). AllByRecursion (IsAccepting m t) as') (sym accepts) are.accepts;
  }

  lined_waiting : (version : ℕ) (c : Connect) (k : Kept) → IsConnecting m t c → AreWaiting m t k → AreWaiting m t (lined_up version c k)
  unfolding lined_up asked
  lined_waiting version c k is are = by_outstanding (is_some k.outstanding)
    where
      by_outstanding : (b : Bool) → AreWaiting m t (if b then record k { behind = k.behind ++ c ∷ [] } else asked version c k)
      by_outstanding true =
          record { outstanding = are.outstanding; behind = every_append (IsConnecting m t) k.behind (c ∷ []) are.behind (is, tt); accepts = are.accepts }
      by_outstanding false = record { outstanding = is; behind = are.behind; accepts = are.accepts }

  pub connected_waiting : (version : ℕ) (c : Connect) (k : Kept) → IsConnecting m t c → AreWaiting m t k → AreWaiting m t (connected version c k)
  connected_waiting version c k is are =
      lined_waiting version (record c { number = later k.last }) (record k { last = later k.last }) is (waits_as k (record k { last = later k.last }) refl refl refl are)

  pub accepting_waiting : (a : Accept) (k : Kept) → IsAccepting m t a → AreWaiting m t k → AreWaiting m t (accepts_too a k)
  accepting_waiting a k is are =
      record { outstanding = are.outstanding; behind = are.behind; accepts = every_append (IsAccepting m t) k.accepts (a ∷ []) are.accepts (is, tt) }

  pub binding_waiting : (b : Binding) (k : Kept) → AreWaiting m t k → AreWaiting m t (binds b k)
  binding_waiting b k are = by_bound (is_bound b.entry k)
    where
      by_bound : (is : Bool) → AreWaiting m t (if is then k else record k { bindings = k.bindings ++ b ∷ [] })
      by_bound true = are
      by_bound false = waits_as k (record k { bindings = k.bindings ++ b ∷ [] }) refl refl refl are

  pub unbinding_waiting : (entry : ℕ) (k : Kept) → AreWaiting m t k → AreWaiting m t (unbinds entry k)
  unbinding_waiting entry k are = waits_as k (unbinds entry k) refl refl refl are

  pub replied_waiting : (version : ℕ) (r : Response) (k : Kept) → AreWaiting m t k → AreWaiting m t (replied version r k)
  unfolding replied
  replied_waiting version r k are = by_owed (is_owed r.number k.owed) k.dead
    where
      by_owed : (b d : Bool) → AreWaiting m t (if not b then k else if d then record k { owed = None } else record k { owed = None; queue = k.queue ++ replies version r })
      by_owed false d = are
      by_owed true true = waits_as k (record k { owed = None }) refl refl refl are
      by_owed true false = waits_as k (record k { owed = None; queue = k.queue ++ replies version r }) refl refl refl are

-- ---- how many wait

threads_more : (n : ℕ) (cs : List Connect) (c : Connect) → times n (map (λ c. c.thread) (cs ++ c ∷ [])) ≡ times n (map (λ c. c.thread) cs) + times n (c.thread ∷ [])
threads_more n [] c = omega arith
threads_more n (d ∷ cs) c = let rest = threads_more n cs c in omega arith

accepts_more : (n : ℕ) (as' : List Accept) (a : Accept) → times n (map (λ a. a.thread) (as' ++ a ∷ [])) ≡ times n (map (λ a. a.thread) as') + times n (a.thread ∷ [])
accepts_more n [] a = omega arith
accepts_more n (b ∷ as') a = let rest = accepts_more n as' a in omega arith

none_outstanding : (n : ℕ) (o : Option Connect) → is_some o ≡ false → times n (outstanding_thread o) ≡ 0
none_outstanding n None none = refl
none_outstanding n (Some c) none = absurd (true≢false none)

lined_waits : (version n : ℕ) (c : Connect) (k : Kept) → times n (waiting (lined_up version c k)) ≡ times n (waiting k) + times n (c.thread ∷ [])
unfolding lined_up asked
lined_waits version n c k = by_outstanding (is_some k.outstanding) refl
  where
    by_outstanding : (b : Bool) → is_some k.outstanding ≡ b → times n (waiting (if b then record k { behind = k.behind ++ c ∷ [] } else asked version c k)) ≡ times n (waiting k) + times n (c.thread ∷ [])
    by_outstanding true some =
        let before = times_three n (outstanding_thread k.outstanding) (map (λ (d : Connect). d.thread) k.behind) (map (λ (a : Accept). a.thread) k.accepts) in
        let after = times_three n (outstanding_thread k.outstanding) (map (λ (d : Connect). d.thread) (k.behind ++ c ∷ [])) (map (λ (a : Accept). a.thread) k.accepts) in
        let more = threads_more n k.behind c in
        omega arith
    by_outstanding false none =
        let before = times_three n (outstanding_thread k.outstanding) (map (λ (d : Connect). d.thread) k.behind) (map (λ (a : Accept). a.thread) k.accepts) in
        let after = times_three n (c.thread ∷ []) (map (λ (d : Connect). d.thread) k.behind) (map (λ (a : Accept). a.thread) k.accepts) in
        let nobody = none_outstanding n k.outstanding none in
        omega arith

pub connected_waits : (version n : ℕ) (c : Connect) (k : Kept) → times n (waiting (connected version c k)) ≡ times n (waiting k) + times n (c.thread ∷ [])
connected_waits version n c k = lined_waits version n (record c { number = later k.last }) (record k { last = later k.last })

pub accepting_waits : (n : ℕ) (a : Accept) (k : Kept) → times n (waiting (accepts_too a k)) ≡ times n (waiting k) + times n (a.thread ∷ [])
accepting_waits n a k =
    let bs = map (λ (d : Connect). d.thread) k.behind in
    let before = times_three n (outstanding_thread k.outstanding) bs (map (λ (b : Accept). b.thread) k.accepts) in
    let after = times_three n (outstanding_thread k.outstanding) bs (map (λ (b : Accept). b.thread) (k.accepts ++ a ∷ [])) in
    let more = accepts_more n k.accepts a in
    omega arith

pub binding_waits : (b : Binding) (k : Kept) → waiting (binds b k) ≡ waiting k
binding_waits b k = by_bound (is_bound b.entry k)
  where
    by_bound : (is : Bool) → waiting (if is then k else record k { bindings = k.bindings ++ b ∷ [] }) ≡ waiting k
    by_bound true = refl
    by_bound false = refl

pub replied_waits : (version : ℕ) (r : Response) (k : Kept) → waiting (replied version r k) ≡ waiting k
unfolding replied
replied_waits version r k = by_owed (is_owed r.number k.owed) k.dead
  where
    by_owed : (b d : Bool) → waiting (if not b then k else if d then record k { owed = None } else record k { owed = None; queue = k.queue ++ replies version r }) ≡ waiting k
    by_owed false d = refl
    by_owed true true = refl
    by_owed true false = refl
