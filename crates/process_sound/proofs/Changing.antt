-- What changes at an end as packets are heard.
use Rattle.std.proofs.Common.{arith, ◌≡◌, inl, inr, ℕ, ◌+◌, ◌≤◌, Bool, true, false, List, [], ◌∷◌, ◌++◌, map, Option, Some, None, if◌then◌else◌, refl, sym, ap, subst, ◌∙◌}
use Rattle.std.specs.Prelude.{IfSome, not, ◌==◌}
use Rattle.std.specs.Str.{bytes_eq}
use Rattle.std.proofs.lemmas.Slice.Eq.{bytes_eq-Decides}
use Rattle.std.specs.List.{AllByRecursion}
use Rattle.charlotte_calls.specs.Ranges.{IsU32}
use Rattle.charlotte_calls.specs.declared.names.EndId.{EndId}
use Rattle.lynx_packets.specs.declared.packet.RtPacket.TheVariants as packets
use Rattle.machine_sound.specs.Sound.{times}
use Rattle.machine_turns.specs.Turns.{Turns}
use Rattle.end_protocol.specs.declared.kept.Accept.{Accept}
use Rattle.end_protocol.specs.declared.kept.Binding.{Binding}
use Rattle.end_protocol.specs.declared.kept.Kept.{Kept}
use Rattle.end_protocol.specs.declared.kept.Response.{Response}
use Rattle.end_protocol.specs.declared.kept.Taker.{Taker}
use Rattle.end_protocol.specs.declared.kept.Taker.TheVariants as takers
use Rattle.end_protocol.specs.declared.kept.Wanted.{Wanted as Coming}
use Rattle.end_protocol.specs.declared.messages.Connect.{Connect}
use Rattle.end_protocol.specs.declared.messages.Message.{Message}
use Rattle.end_protocol.specs.Asking.{asked}
use Rattle.end_protocol.specs.Falling.{outstanding_thread}
use Rattle.end_protocol.specs.Hearing.{accepted, forbade, gone_on, let_come, next_asked, still_accepting}
use Rattle.end_protocol.specs.Kept.{queued}
use Rattle.end_protocol.specs.Lists.{head, tail}
use Rattle.end_protocol.specs.Wanting.{accepting, bound, or_else, taker}
use Rattle.process_run.specs.States.{Module}
use Rattle.process_run.specs.Actions.{served}
use Rattle.process_sound.specs.Packets.{MaySend}
use Rattle.process_sound.specs.Ends.{AreWaiting, IsAccepting, IsComing, IsConnect, IsConnecting, IsKept, IsReply, IsTaker, waiting}
use Rattle.process_sound.specs.Hearing.{taken_by}
use Rattle.process_sound.proofs.Asking.{asked_kept}
use Rattle.process_sound.proofs.Every.{every_append, every_filter, every_head, every_tail, some_is}
use Rattle.process_sound.proofs.Sends.{forbid_sends, goahead_sends}
use Rattle.process_sound.proofs.Times.{among_times, goes_from, threads_of, times_three}

-- ---- who wants a request

module _ (m : Module) (signature : List ℕ) where
  taker_behind : (a : Accept) (as' : List Accept) (t : Taker) → IsTaker m as' signature t → IsTaker m (a ∷ as') signature t
  taker_behind a as' (takers.Thread thread) is = inr is
  taker_behind a as' (takers.Entry entry) is = is

  accepting_is : (as' : List Accept) (t : Taker) → accepting signature as' ≡ Some t → IsTaker m as' signature t
  accepting_is [] t found = let no : None ≡ Some t = found in absurd cc
  accepting_is (a ∷ as') t found = by_this (bytes_eq a.signature signature) refl (accepting_is as' t) found
    where
      by_this : (b : Bool) → bytes_eq a.signature signature ≡ b → (accepting signature as' ≡ Some t → IsTaker m as' signature t) → (if b then Some (takers.Thread a.thread) else accepting signature as') ≡ Some t →
          IsTaker m (a ∷ as') signature t
      by_this true same rest e =
          subst (λ (u : Taker). IsTaker m (a ∷ as') signature u) (some_is (takers.Thread a.thread) t e) (inl (refl, (bytes_eq-Decides a.signature signature).0 same))
      by_this false other rest e = taker_behind a as' t (rest e)

  bound_is : (as' : List Accept) (bs : List Binding) (t : Taker) → AllByRecursion (λ b. served m b.entry ≡ Some b.signature) bs → bound signature bs ≡ Some t → IsTaker m as' signature t
  bound_is as' [] t all found = let no : None ≡ Some t = found in absurd cc
  bound_is as' (b ∷ bs) t all found = by_this (bytes_eq b.signature signature) refl (bound_is as' bs t all.1) found
    where
      by_this : (is : Bool) → bytes_eq b.signature signature ≡ is → (bound signature bs ≡ Some t → IsTaker m as' signature t) → (if is then Some (takers.Entry b.entry) else bound signature bs) ≡ Some t →
          IsTaker m as' signature t
      by_this true same rest e =
          subst (λ (u : Taker). IsTaker m as' signature u) (some_is (takers.Entry b.entry) t e)
          (all.0 ∙ ap (λ (s : List ℕ). Some s) ((bytes_eq-Decides b.signature signature).0 same))
      by_this false other rest e = rest e

  either_is : (as' : List Accept) (t : Taker) (o p : Option Taker) → ((u : Taker) → o ≡ Some u → IsTaker m as' signature u) → ((u : Taker) → p ≡ Some u → IsTaker m as' signature u) → or_else o p ≡ Some t →
      IsTaker m as' signature t
  either_is as' t None p first second found = second t found
  either_is as' t (Some u) p first second found = first t found

  room_is : (as' : List Accept) (bs : List Binding) (room : Bool) (t : Taker) → AllByRecursion (λ b. served m b.entry ≡ Some b.signature) bs → (if room then bound signature bs else None) ≡ Some t → IsTaker m as' signature t
  room_is as' bs true t all found = bound_is as' bs t all found
  room_is as' bs false t all found = let no : None ≡ Some t = found in absurd cc

  pub taker_is : (version : ℕ) (room : Bool) (k : Kept) (t : Taker) → IsKept version m k → taker room signature k ≡ Some t → IsTaker m k.accepts signature t
  unfolding taker
  taker_is version room k t kept found =
      either_is k.accepts t (accepting signature k.accepts) (if room then bound signature k.bindings else None) (accepting_is k.accepts)
      (λ u e. room_is k.accepts k.bindings room u kept.bindings e) found

-- ---- requests

module _ (version : ℕ) (m : Module) where
  pub queued_kept : (ms : List Message) (k : Kept) → AllByRecursion (λ message. MaySend version message.packet) ms → IsKept version m k → IsKept version m (queued ms k)
  unfolding queued
  queued_kept ms k sends kept = record {
    queue = every_append (λ (message : Message). MaySend version message.packet) k.queue ms kept.queue sends;
    last = kept.last;
    outstanding = kept.outstanding;
    behind = kept.behind;
    owed = kept.owed;
    forbade = kept.forbade;
    request = kept.request;
    reply = kept.reply;
    bindings = kept.bindings;
  }

  pub forbade_kept : (number : ℕ) (signature : List ℕ) (xs : List EndId) (k : Kept) → IsU32 number → IsKept version m k → IsKept version m (forbade number signature xs k)
  unfolding forbade
  forbade_kept number signature xs k fits kept = record {
    queue = every_append (λ (message : Message). MaySend version message.packet) k.queue (record { packet = packets.Forbid number; ends = xs } ∷ []) kept.queue (forbid_sends version number fits, tt);
    last = kept.last;
    outstanding = kept.outstanding;
    behind = kept.behind;
    owed = kept.owed;
    forbade = fits;
    request = kept.request;
    reply = kept.reply;
    bindings = kept.bindings;
  }

  pub accepted_kept : (w : Coming) (k : Kept) → IsU32 w.number → IsKept version m k → IsKept version m (accepted w k)
  unfolding accepted
  accepted_kept w k fits kept = record {
    queue = kept.queue;
    last = kept.last;
    outstanding = kept.outstanding;
    behind = kept.behind;
    owed = fits;
    forbade = kept.forbade;
    request = tt;
    reply = kept.reply;
    bindings = kept.bindings;
  }

  -- a request is in part
  pub coming_kept : (w : Coming) (k : Kept) → IsComing m k.accepts w → IsKept version m k → IsKept version m (record k { request = Some w })
  coming_kept w k is kept = record {
    queue = kept.queue;
    last = kept.last;
    outstanding = kept.outstanding;
    behind = kept.behind;
    owed = kept.owed;
    forbade = kept.forbade;
    request = is;
    reply = kept.reply;
    bindings = kept.bindings;
  }

  pub let_come_kept : (w : Coming) (k : Kept) → version ≡ 1 → IsComing m k.accepts w → IsKept version m k → IsKept version m (let_come w k)
  unfolding let_come
  let_come_kept w k first is kept = record {
    queue = every_append (λ (message : Message). MaySend version message.packet) k.queue (record { packet = packets.GoAhead w.number; ends = [] } ∷ []) kept.queue (goahead_sends version w.number first is.number, tt);
    last = kept.last;
    outstanding = kept.outstanding;
    behind = kept.behind;
    owed = kept.owed;
    forbade = kept.forbade;
    request = is;
    reply = kept.reply;
    bindings = kept.bindings;
  }

  -- ---- replies

  pub with_reply : (o : Option Response) (k : Kept) → IfSome o (λ r. IsReply r k.outstanding) → IsKept version m k → IsKept version m (record k { reply = o })
  with_reply o k is kept = record {
    queue = kept.queue;
    last = kept.last;
    outstanding = kept.outstanding;
    behind = kept.behind;
    owed = kept.owed;
    forbade = kept.forbade;
    request = kept.request;
    reply = is;
    bindings = kept.bindings;
  }

  -- nobody connects first
  left_kept : (k : Kept) → IsKept version m k → IsKept version m (record k { reply = None; outstanding = None; barred = false; behind = tail k.behind })
  left_kept k kept = record {
    queue = kept.queue;
    last = kept.last;
    outstanding = tt;
    behind = every_tail IsConnect k.behind kept.behind;
    owed = kept.owed;
    forbade = kept.forbade;
    request = kept.request;
    reply = tt;
    bindings = kept.bindings;
  }

  next_kept : (o : Option Connect) (k : Kept) → k.reply ≡ None → IfSome o IsConnect → IsKept version m k → IsKept version m (next_asked version o k)
  next_kept None k none is kept = kept
  next_kept (Some c) k none is kept = asked_kept version m c k is (subst (λ (r : Option Response). IfSome r (λ x. IsReply x (Some c))) (sym none) tt) kept

  pub gone_on_kept : (k : Kept) → IsKept version m k → IsKept version m (gone_on version k)
  unfolding gone_on
  gone_on_kept k kept =
      next_kept (head k.behind) (record k { reply = None; outstanding = None; barred = false; behind = tail k.behind }) refl (every_head IsConnect k.behind kept.behind) (left_kept k kept)

  -- ---- the outstanding request

  -- it is another one, to which a reply in part belongs as well
  pub outstanding_kept : (c : Connect) (ms : List Message) (b : Bool) (k : Kept) → IsConnect c → IfSome k.reply (λ r. IsReply r (Some c)) → AllByRecursion (λ message. MaySend version message.packet) ms → IsKept version m k →
      IsKept version m (record k { queue = k.queue ++ ms; outstanding = Some c; barred = b })
  outstanding_kept c ms b k is reply sends kept = record {
    queue = every_append (λ (message : Message). MaySend version message.packet) k.queue ms kept.queue sends;
    last = kept.last;
    outstanding = is;
    behind = kept.behind;
    owed = kept.owed;
    forbade = kept.forbade;
    request = kept.request;
    reply = reply;
    bindings = kept.bindings;
  }

-- ---- who waits

-- these are fewer by the thread that takes the request
pub still_fewer : (m : Module) (n : ℕ) (signature : List ℕ) (as' : List Accept) (t : Taker) → IsTaker m as' signature t → times n (threads_of (still_accepting t as')) + times n (taken_by t) ≤ times n (threads_of as')
still_fewer m n signature as' (takers.Thread thread) is = goes_from n thread as' (among_times thread signature as' is)
still_fewer m n signature as' (takers.Entry entry) is = omega arith

pub accepted_waits : (m : Module) (n : ℕ) (w : Coming) (k : Kept) → IsTaker m k.accepts w.signature w.by → times n (waiting (accepted w k)) + times n (taken_by w.by) ≤ times n (waiting k)
unfolding accepted
accepted_waits m n w k is =
    let one = outstanding_thread k.outstanding in
    let two = map (λ (c : Connect). c.thread) k.behind in
    let before = times_three n one two (threads_of k.accepts) in
    let after = times_three n one two (threads_of (still_accepting w.by k.accepts)) in
    let fewer = still_fewer m n w.signature k.accepts w.by is in
    omega arith

front_and_rest : (n : ℕ) (cs : List Connect) → times n (outstanding_thread (head cs)) + times n (map (λ c. c.thread) (tail cs)) ≡ times n (map (λ c. c.thread) cs)
front_and_rest n [] = omega arith
front_and_rest n (c ∷ cs) = omega arith

next_waits : (version n : ℕ) (o : Option Connect) (k : Kept) → k.outstanding ≡ None →
    times n (waiting (next_asked version o k)) ≡ times n (outstanding_thread o) + times n (map (λ c. c.thread) k.behind) + times n (threads_of k.accepts)
unfolding asked
next_waits version n None k none =
    let all = times_three n (outstanding_thread k.outstanding) (map (λ (c : Connect). c.thread) k.behind) (threads_of k.accepts) in
    let nobody : times n (outstanding_thread k.outstanding) ≡ 0 = ap (λ (o : Option Connect). times n (outstanding_thread o)) none in
    omega arith
next_waits version n (Some c) k none = times_three n (c.thread ∷ []) (map (λ (d : Connect). d.thread) k.behind) (threads_of k.accepts)

pub gone_on_waits : (version n : ℕ) (c : Connect) (k : Kept) → k.outstanding ≡ Some c → times n (waiting (gone_on version k)) + times n (c.thread ∷ []) ≡ times n (waiting k)
unfolding gone_on
gone_on_waits version n c k there =
    let j : Kept = record k { reply = None; outstanding = None; barred = false; behind = tail k.behind } in
    let after = next_waits version n (head k.behind) j refl in
    let before = times_three n (outstanding_thread k.outstanding) (map (λ (d : Connect). d.thread) k.behind) (threads_of k.accepts) in
    let first : times n (outstanding_thread k.outstanding) ≡ times n (c.thread ∷ []) = ap (λ (o : Option Connect). times n (outstanding_thread o)) there in
    let both = front_and_rest n k.behind in
    omega arith

module _ (m : Module) (t : Turns) where
  still_accept : (as' : List Accept) (by : Taker) → AllByRecursion (IsAccepting m t) as' → AllByRecursion (IsAccepting m t) (still_accepting by as')
  still_accept as' (takers.Thread thread) all = every_filter (IsAccepting m t) (λ a. not (a.thread == thread)) as' all
  still_accept as' (takers.Entry entry) all = all

  pub accepted_waiting : (w : Coming) (k : Kept) → AreWaiting m t k → AreWaiting m t (accepted w k)
  unfolding accepted
  accepted_waiting w k are = record { outstanding = are.outstanding; behind = are.behind; accepts = still_accept k.accepts w.by are.accepts }

  next_waiting : (version : ℕ) (o : Option Connect) (k : Kept) → IfSome o (IsConnecting m t) → AreWaiting m t k → AreWaiting m t (next_asked version o k)
  unfolding asked
  next_waiting version None k is are = are
  next_waiting version (Some c) k is are = record { outstanding = is; behind = are.behind; accepts = are.accepts }

  pub gone_on_waiting : (version : ℕ) (k : Kept) → AreWaiting m t k → AreWaiting m t (gone_on version k)
  unfolding gone_on
  gone_on_waiting version k are =
      next_waiting version (head k.behind) (record k { reply = None; outstanding = None; barred = false; behind = tail k.behind }) (every_head (IsConnecting m t) k.behind are.behind)
      (record { outstanding = tt; behind = every_tail (IsConnecting m t) k.behind are.behind; accepts = are.accepts })

  pub outstanding_waiting : (c : Connect) (ms : List Message) (b : Bool) (k : Kept) → IsConnecting m t c → AreWaiting m t k → AreWaiting m t (record k { queue = k.queue ++ ms; outstanding = Some c; barred = b })
  outstanding_waiting c ms b k is are = record { outstanding = is; behind = are.behind; accepts = are.accepts }
