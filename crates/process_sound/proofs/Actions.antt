-- Actions of threads keep what holds of a process.
use Rattle.std.proofs.Common.{arith, ◌≡◌, inl, inr, ℕ, zero, suc, ◌+◌, Bool, true, false, List, [], ◌∷◌, drop, Option, Some, None, Ok, Err, slice_get, if◌then◌else◌, refl, sym, ap, subst, ◌∙◌, ⊎_elim}
use Rattle.charlotte_calls.specs.declared.names.EndId.{EndId}
use Rattle.typing_rules.specs.declared.exception.Exception.{Exception}
use Rattle.typing_rules.specs.declared.exception.Exception.TheVariants as exceptions
use Rattle.typing_rules.specs.Signatures.{signature_text}
use Rattle.lynx_meaning.specs.Courses.{Action, Outcome}
use Rattle.lynx_meaning.specs.Courses as actions
use Rattle.lynx_meaning.specs.Needs.{Arguments, Closing, NoValue, OpTypes, Results, Wanted, wanted_types}
use Rattle.lynx_meaning.specs.Values.{HaveTypes, Value}
use Rattle.machine_never_stuck.specs.Sound.{AreResults}
use Rattle.machine_sound.specs.Sound.{one_if, times}
use Rattle.machine_turns.specs.Turns.{is_ready_after}
use Rattle.end_protocol.specs.declared.kept.Accept.{Accept}
use Rattle.end_protocol.specs.declared.kept.Binding.{Binding}
use Rattle.end_protocol.specs.declared.kept.Response.{Response}
use Rattle.end_protocol.specs.declared.messages.Connect.{Connect}
use Rattle.end_protocol.specs.Asking.{accepts_too, binds, connected, replied, unbinds}
use Rattle.end_protocol.specs.Falling.{fallen, raised}
use Rattle.process_run.specs.States.{Done, Held, Open, State, quietly}
use Rattle.process_run.specs.Actions.{acts, and_then, answers_on, asking, closes, done_with, failed, fails, fault_among, issues, on_held, on_live, opened_in, replies, replies_on, served, tested, unless, with_opened, with_signature}
use Rattle.process_run.specs.Deaths.{destroys, does, raises, raises_in}
use Rattle.process_run.specs.Ends.{ends_at, held_at, keeps, lets_go, link_of, links_in, values_of}
use Rattle.process_sound.specs.Acting.{IsActing}
use Rattle.process_sound.specs.Ends.{waiting, waits}
use Rattle.process_sound.specs.Machine.{asks}
use Rattle.process_sound.specs.Packets.{MayAsk}
use Rattle.process_sound.specs.Processes.{IsGoing}
use Rattle.process_sound.proofs.Asking.{IsAnswer, accepting_kept, accepting_waiting, accepting_waits, binding_kept, binding_waiting, binding_waits, connected_kept, connected_waiting, connected_waits, replied_kept, replied_waiting, replied_waits, unbinding_kept, unbinding_waiting}
use Rattle.process_sound.proofs.Deaths.{IsHeldAs, destroy_going, fallen_waits}
use Rattle.process_sound.proofs.Giving.{gives_going, owed_fits, pays_going}
use Rattle.process_sound.proofs.Held.{held_as, keeps_going, keeps_let_going, opened_going, place_waits}
use Rattle.end_protocol.specs.Messages.{most_of}
use Rattle.process_sound.proofs.Every.{some_is}
use Rattle.process_sound.proofs.Ops.{op_typed}
use Rattle.process_sound.proofs.Threads.{asking_of, given_others}
use Rattle.process_sound.proofs.Times.{once_itself}
use Rattle.process_sound.proofs.Values.{may_ask, may_fail, may_reply, reply_ends}

-- ---- outcomes of a thread that waits at no end

module _ (n : ℕ) (w : Wanted) (s : State) (asking : asks n s.turns ≡ Some w) (free : is_ready_after (Some w) ≡ false) (is : IsGoing [] s) where
  pub free_waits : waits n s.places + times n [] ≡ 0
  free_waits =
      let once = is.ends.once n in
      let none : one_if (is_ready_after (asks n s.turns)) ≡ 0 = ap (λ (o : Option Wanted). one_if (is_ready_after o)) asking ∙ ap one_if free in
      omega arith

  pub raise_going : (x : Exception) → IsGoing [] (raises n x s)
  raise_going x = gives_going [] s n (Err x) free_waits (w, asking_of n w s.turns asking, tt) is

  pub do_going : wanted_types s.code.types.ops w ≡ [] → IsGoing [] (does n s)
  do_going none = gives_going [] s n (Ok []) free_waits (w, asking_of n w s.turns asking, subst (λ ts. HaveTypes ts []) (sym none) tt) is

-- one that is still to have its outcome
pub raise_owed : (n : ℕ) (s : State) (x : Exception) → IsGoing (n ∷ []) s → IsGoing [] (raises n x s)
raise_owed n s x is = pays_going n [] s (Err x) (owed_fits s.version s.code s.turns n [] s.places is.ends x) is

-- ---- tests before an action

module _ (n : ℕ) (s : State) (raise : (x : Exception) → IsGoing [] (raises n x s)) where
  on_held_going : (o : Option Held) (next : Held → Done) → ((h : Held) → o ≡ Some h → IsGoing [] (next h).state) → IsGoing [] (on_held n o s next).state
  on_held_going None next each = raise exceptions.NoLink
  on_held_going (Some h) next each = each h refl

  on_live_going : (dead : Bool) (d : Done) → IsGoing [] d.state → IsGoing [] (on_live dead n s d).state
  on_live_going true d done = raise exceptions.DeadLink
  on_live_going false d done = done

  unless_going : (o : Option Exception) (d : Done) → IsGoing [] d.state → IsGoing [] (unless n o s d).state
  unless_going (Some x) d done = raise x
  unless_going None d done = done

with_signature_going : (n : ℕ) (s : State) (o : Option (List ℕ)) (next : List ℕ → Done) → (o ≡ None → IsGoing [] (does n s)) → ((signature : List ℕ) → o ≡ Some signature → IsGoing [] (next signature).state) →
    IsGoing [] (with_signature n o s next).state
with_signature_going n s None next none each = none refl
with_signature_going n s (Some signature) next none each = each signature refl

-- ---- destroys

raised_asks : (ns : List ℕ) (n : ℕ) (x : Exception) (s : State) → times n ns ≡ 0 → asks n (raises_in ns x s).turns ≡ asks n s.turns
raised_asks [] n x s none = refl
raised_asks (k ∷ ns) n x s none =
    raised_asks ns n x (raises k x s) (omega (arith, none)) ∙ given_others k n (Err x) s.turns (other k none)
  where
    other : (i : ℕ) → times n (i ∷ ns) ≡ 0 → n ≡ i → ⊥
    other i none same = let one : times i (i ∷ ns) ≡ 0 = ap (λ j. times j (i ∷ ns)) (sym same) ∙ none in let once = once_itself i in absurd (omega arith)

pub destroyed_asks : (h : Held) (n : ℕ) (s : State) → times n (raised (fallen h.kept)) ≡ 0 → asks n (destroys h s).turns ≡ asks n s.turns
unfolding destroys
destroyed_asks h n s none = raised_asks (raised (fallen h.kept)) n exceptions.DeadLink _ none

-- the thread that destroys it goes on to ask for what it asked for
pub destroy_asks : (n : ℕ) (h : Held) (s : State) → asks n s.turns ≡ Some NoValue → IsHeldAs h s → IsGoing [] s → asks n (destroys h s).turns ≡ Some NoValue
destroy_asks n h s wants held is =
    let free = free_waits n NoValue s wants refl is in
    let fewer = held.fewer n in
    let there = place_waits n h.number s.places held.place held.there in
    let all : times n (raised (fallen h.kept)) ≡ times n (waiting h.kept) = ap (times n) (fallen_waits h.kept) in
    let none : times n (raised (fallen h.kept)) ≡ 0 = omega arith in
    destroyed_asks h n s none ∙ wants

destroy_acts : (n : ℕ) (h : Held) (s : State) → asks n s.turns ≡ Some NoValue → IsHeldAs h s → IsGoing [] s → IsGoing [] (does n (destroys h s))
destroy_acts n h s wants held is = do_going n NoValue (destroys h s) (destroy_asks n h s wants held is) refl (destroy_going h s held is) refl

-- ---- binds

module _ (n : ℕ) (entry : ℕ) (s : State) (asking : asks n s.turns ≡ Some NoValue) (is : IsGoing [] s) where
  bind_acts : (signature : List ℕ) (h : Held) → served s.code entry ≡ Some signature → IsHeldAs h s → IsGoing [] (does n (keeps h (binds (record { entry = entry; signature = signature }) h.kept) s))
  bind_acts signature h serves held =
      let b : Binding = record { entry = entry; signature = signature } in
      let there = keeps_going [] [] h (binds b h.kept) s held (binding_kept s.version s.code b h.kept serves held.kept) (binding_waiting s.code s.turns b h.kept held.waits)
      (λ k. let same : times k (waiting (binds b h.kept)) ≡ times k (waiting h.kept) = ap (times k) (binding_waits b h.kept) in omega arith) is in
      do_going n NoValue (keeps h (binds b h.kept) s) asking refl there refl

  unbind_acts : (h : Held) → IsHeldAs h s → IsGoing [] (does n (keeps h (unbinds entry h.kept) s))
  unbind_acts h held =
      let there = keeps_going [] [] h (unbinds entry h.kept) s held (unbinding_kept s.version s.code entry h.kept held.kept) (unbinding_waiting s.code s.turns entry h.kept held.waits) (λ k. omega arith) is in
      do_going n NoValue (keeps h (unbinds entry h.kept) s) asking refl there refl

-- ---- connects and accepts

module _ (n op : ℕ) (s : State) (o : OpTypes) (there : slice_get s.code.types.ops op ≡ Some o) (is : IsGoing (n ∷ []) s) where
  -- the operation has a signature
  signed : slice_get s.code.signatures op ≡ None → IsGoing [] (does n s)
  signed none =
      let found = op_typed s.code is.code op o there in
      let no : None ≡ Some (signature_text found.0) = sym none ∙ found.1.signature in absurd cc

  sends : (signature : List ℕ) (vs : List Value) → slice_get s.code.signatures op ≡ Some signature → HaveTypes o.arguments vs → MayAsk signature (values_of vs)
  sends signature vs at have =
      let found = op_typed s.code is.code op o there in
      let typed : HaveTypes found.0.arguments vs = subst (λ (x : OpTypes). HaveTypes x.arguments vs) (sym found.2) have in
      subst (λ (text : List ℕ). MayAsk text (values_of vs)) (some_is (signature_text found.0) signature (sym found.1.signature ∙ at)) (may_ask found.0 vs found.1.facts typed)

  connect_acts : (signature : List ℕ) (vs : List Value) (h : Held) → asks n s.turns ≡ Some (Results op) → slice_get s.code.signatures op ≡ Some signature → HaveTypes o.arguments vs → IsHeldAs h s →
      IsGoing [] (issues (asking n op signature vs s) h vs s).state
  connect_acts signature vs h wants at have held =
      let c : Connect = asking n op signature vs s in
      keeps_let_going (n ∷ []) [] (links_in vs) h (connected s.version c h.kept) s held (connected_kept s.version s.code c h.kept (sends signature vs at have) held.kept)
      (connected_waiting s.code s.turns s.version c h.kept (op, wants, refl) held.waits) (λ k. let more = connected_waits s.version k c h.kept in omega arith) is

  accept_acts : (signature : List ℕ) (h : Held) → asks n s.turns ≡ Some (Arguments op) → slice_get s.code.signatures op ≡ Some signature → IsHeldAs h s →
      IsGoing [] (keeps h (accepts_too (record { thread = n; signature = signature }) h.kept) s)
  accept_acts signature h wants at held =
      let a : Accept = record { thread = n; signature = signature } in
      keeps_going (n ∷ []) [] h (accepts_too a h.kept) s held (accepting_kept s.version s.code a h.kept held.kept) (accepting_waiting s.code s.turns a h.kept (op, wants, at) held.waits)
      (λ k. let more = accepting_waits k a h.kept in omega arith) is

-- ---- replies and closes

replies_with : (s : State) (h : Held) (r : Response) (ns : List ℕ) → IsAnswer s.version s.code r → IsHeldAs h s → IsGoing [] s → IsGoing [] (keeps h (replied s.version r h.kept) (lets_go ns s))
replies_with s h r ns answers held is =
    keeps_let_going [] [] ns h (replied s.version r h.kept) s held (replied_kept s.version s.code r h.kept answers held.kept) (replied_waiting s.code s.turns s.version r h.kept held.waits)
    (λ k. let same : times k (waiting (replied s.version r h.kept)) ≡ times k (waiting h.kept) = ap (times k) (replied_waits s.version r h.kept) in omega arith) is

-- a reply has the results of its operation
done_answers : (requests : List ℕ) (vs : List Value) (o : Open) (s : State) (owed : List ℕ) → IsGoing owed s → AreResults s.code.types requests vs → IsAnswer s.version s.code (done_with o vs s)
done_answers [] vs o s owed is results = absurd results
done_answers (op ∷ requests) vs o s owed is results =
    let found = op_typed s.code is.code op results.0 results.1 in
    let typed : HaveTypes found.0.results vs = subst (λ (x : OpTypes). HaveTypes x.results vs) (sym found.2) results.2 in
    record {
      sends = may_reply found.0 vs s.version o.number found.1.facts typed;
      ends =
          ⊎_elim (λ (first : s.version ≡ 1). inl first)
          (λ (second : s.version ≡ 2). inr (ap (λ (v : ℕ). drop (most_of v) (ends_at (links_in vs) s)) second ∙ reply_ends found.0 vs s found.1.facts typed))
          is.version;
    }

failed_answers : (o : Open) (s : State) → IsAnswer s.version s.code (failed o)
failed_answers o s = record { sends = may_fail s.version o.number; ends = inr (none_left (most_of s.version)) }
  where
    none_left : (k : ℕ) → ◌≡◌ {A = List EndId} (drop k []) []
    none_left zero = refl
    none_left (suc k) = refl

module _ (n : ℕ) (s : State) (wants : asks n s.turns ≡ Some NoValue) (is : IsGoing [] s) where
  reply_acts : (vs : List Value) (requests : List ℕ) (o : Open) (os : List Open) (h : Held) → AreResults s.code.types requests vs → IsHeldAs h s →
      IsGoing [] (does n (with_opened n os (keeps h (replied s.version (done_with o vs s) h.kept) (lets_go (links_in vs) s))))
  reply_acts vs requests o os h results held =
      do_going n NoValue (with_opened n os (keeps h (replied s.version (done_with o vs s) h.kept) (lets_go (links_in vs) s))) wants refl
      (opened_going [] n os (keeps h (replied s.version (done_with o vs s) h.kept) (lets_go (links_in vs) s))
      (replies_with s h (done_with o vs s) (links_in vs) (done_answers requests vs o s [] is results) held is)) refl

  reply_on : (vs : List Value) (requests : List ℕ) (o : Open) (os : List Open) (held : Option Held) → held_at o.on s ≡ held → AreResults s.code.types requests vs → IsGoing [] (replies_on n vs o os held s).state
  reply_on vs requests o os None at results = raise_going n NoValue s wants refl is exceptions.DeadLink
  reply_on vs requests o os (Some h) at results =
      let raise : (x : Exception) → IsGoing [] (raises n x s) = raise_going n NoValue s wants refl is in
      let done : Done = and_then (answers_on h (done_with o vs s) (lets_go (links_in vs) s)) (λ t. does n (with_opened n (record o { answered = true } ∷ os) t)) in
      on_live_going n s raise h.kept.dead (tested n h vs s done)
      (unless_going n s raise (fault_among h [] (links_in vs) s) done (reply_acts vs requests o (record o { answered = true } ∷ os) h results (held_as [] s is o.on h at)))

  replies_acts : (vs : List Value) (requests : List ℕ) (os : List Open) → AreResults s.code.types requests vs → IsGoing [] (replies n vs os s).state
  replies_acts vs requests [] results = do_going n NoValue s wants refl is refl
  replies_acts vs requests (o ∷ os) results = by_answered o.answered
    where
      by_answered : (b : Bool) → IsGoing [] (if b then quietly (raises n exceptions.Replied s) else replies_on n vs o os (held_at o.on s) s).state
      by_answered true = raise_going n NoValue s wants refl is exceptions.Replied
      by_answered false = reply_on vs requests o os (held_at o.on s) refl results

module _ (n : ℕ) (s : State) (wants : asks n s.turns ≡ Some Closing) (is : IsGoing [] s) where
  close_done : (os : List Open) (t : State) → asks n t.turns ≡ Some Closing → IsGoing [] t → IsGoing [] (does n (with_opened n os t))
  close_done os t closing going = do_going n Closing (with_opened n os t) closing refl (opened_going [] n os t going) refl

  close_acts : (o : Open) (os : List Open) (held : Option Held) → held_at o.on s ≡ held → IsGoing [] (does n (with_opened n os (fails o held s).state))
  close_acts o os None at = close_done os s wants is
  close_acts o os (Some h) at = by_answered o.answered
    where
      by_answered : (b : Bool) → IsGoing [] (does n (with_opened n os (if b then quietly s else answers_on h (failed o) s).state))
      by_answered true = close_done os s wants is
      by_answered false =
          close_done os (keeps h (replied s.version (failed o) h.kept) s) wants (replies_with s h (failed o) [] (failed_answers o s) (held_as [] s is o.on h at) is)

  closes_acts : (os : List Open) → IsGoing [] (closes n os s).state
  closes_acts [] = do_going n Closing s wants refl is refl
  closes_acts (o ∷ os) = close_acts o os (held_at o.on s) refl

-- ---- all actions

pub acts_going : (n : ℕ) (a : Action) (s : State) → (a ≡ actions.New → ⊥) → IsActing n a s → IsGoing [] (acts n a s).state
acts_going n (actions.Destroy link) s other is =
    let raise : (x : Exception) → IsGoing [] (raises n x s) = raise_going n NoValue s is.asking refl is.going in
    on_held_going n s raise (held_at (link_of link) s) (λ h. quietly (does n (destroys h s)))
    (λ h at. destroy_acts n h s is.asking (held_as [] s is.going (link_of link) h at) is.going)
acts_going n (actions.Bind link entry) s other is =
    let raise : (x : Exception) → IsGoing [] (raises n x s) = raise_going n NoValue s is.asking refl is.going in
    with_signature_going n s (served s.code entry)
    (λ signature. on_held n (held_at (link_of link) s) s
    (λ h. on_live h.kept.dead n s (quietly (does n (keeps h (binds (record { entry = entry; signature = signature }) h.kept) s)))))
    (λ none. do_going n NoValue s is.asking refl is.going refl)
    (λ signature serves. on_held_going n s raise (held_at (link_of link) s)
    (λ h. on_live h.kept.dead n s (quietly (does n (keeps h (binds (record { entry = entry; signature = signature }) h.kept) s))))
    (λ h at. on_live_going n s raise h.kept.dead (quietly (does n (keeps h (binds (record { entry = entry; signature = signature }) h.kept) s)))
    (bind_acts n entry s is.asking is.going signature h serves (held_as [] s is.going (link_of link) h at))))
acts_going n (actions.Unbind link entry) s other is =
    let raise : (x : Exception) → IsGoing [] (raises n x s) = raise_going n NoValue s is.asking refl is.going in
    with_signature_going n s (served s.code entry)
    (λ signature. on_held n (held_at (link_of link) s) s (λ h. quietly (does n (keeps h (unbinds entry h.kept) s))))
    (λ none. do_going n NoValue s is.asking refl is.going refl)
    (λ signature serves. on_held_going n s raise (held_at (link_of link) s) (λ h. quietly (does n (keeps h (unbinds entry h.kept) s)))
    (λ h at. unbind_acts n entry s is.asking is.going h (held_as [] s is.going (link_of link) h at)))
acts_going n (actions.Connect link op vs) s other is =
    let raise : (x : Exception) → IsGoing [] (raises n x s) = λ x. raise_owed n s x is.going in
    let o = is.of_module.0 in
    let there = is.of_module.1 in
    with_signature_going n s (slice_get s.code.signatures op)
    (λ signature. on_held n (held_at (link_of link) s) s (λ h. on_live h.kept.dead n s (tested n h vs s (issues (asking n op signature vs s) h vs s))))
    (signed n op s o there is.going)
    (λ signature at. on_held_going n s raise (held_at (link_of link) s) (λ h. on_live h.kept.dead n s (tested n h vs s (issues (asking n op signature vs s) h vs s)))
    (λ h holds. on_live_going n s raise h.kept.dead (tested n h vs s (issues (asking n op signature vs s) h vs s))
    (unless_going n s raise (fault_among h [] (links_in vs) s) (issues (asking n op signature vs s) h vs s)
    (connect_acts n op s o there is.going signature vs h is.asking at is.of_module.2 (held_as (n ∷ []) s is.going (link_of link) h holds)))))
acts_going n (actions.Accept link op) s other is =
    let raise : (x : Exception) → IsGoing [] (raises n x s) = λ x. raise_owed n s x is.going in
    let o = is.of_module.0 in
    let there = is.of_module.1 in
    with_signature_going n s (slice_get s.code.signatures op)
    (λ signature. on_held n (held_at (link_of link) s) s
    (λ h. on_live h.kept.dead n s (quietly (keeps h (accepts_too (record { thread = n; signature = signature }) h.kept) s))))
    (signed n op s o there is.going)
    (λ signature at. on_held_going n s raise (held_at (link_of link) s)
    (λ h. on_live h.kept.dead n s (quietly (keeps h (accepts_too (record { thread = n; signature = signature }) h.kept) s)))
    (λ h holds. on_live_going n s raise h.kept.dead (quietly (keeps h (accepts_too (record { thread = n; signature = signature }) h.kept) s))
    (accept_acts n op s o there is.going signature h is.asking at (held_as (n ∷ []) s is.going (link_of link) h holds))))
acts_going n (actions.Reply vs) s other is = replies_acts n s is.asking is.going vs is.requests (opened_in n s) is.of_module
acts_going n actions.Close s other is = closes_acts n s is.asking is.going (opened_in n s)
acts_going n actions.Stop s other is = record { version = is.going.version; code = is.going.code; process = is.going.process; ends = is.going.ends }
acts_going n actions.New s other is = absurd (other refl)
acts_going n (actions.Write bytes) s other is = do_going n NoValue s is.asking refl is.going refl
acts_going n actions.Await s other is = do_going n NoValue s is.asking refl is.going refl
