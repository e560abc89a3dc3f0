-- What a process does to the open requests.
use Rattle.std.proofs.Common.{◌≡◌, ℕ, zero, suc, List, [], ◌∷◌, ◌++◌, replicate, Bool, true, false, if◌then◌else◌, Option, Some, None, slice_get, slice_set, refl, sym, ap, subst, ◌∙◌}
use Rattle.std.proofs.lemmas.Option.{slice_get_within}
use Rattle.lynx_code.specs.declared.instruction.Instruction.{Instruction}
use Rattle.lynx_meaning.specs.Code.{Program}
use Rattle.lynx_meaning.specs.Courses.{Outcome}
use Rattle.lynx_meaning.specs.Needs.{Wanted}
use Rattle.lynx_meaning.specs.Values.{Value}
use Rattle.code_shapes.specs.Shapes.{ModuleTypes, PartTypes, program}
use Rattle.machine_turns.specs.Threads.{Standing, begun, goes_on}
use Rattle.machine_turns.specs.Turns.{IsFree, Turns, at_start, given_to, gives_to, is_ready_after, spawned, with_thread}
use Rattle.machine_sound.specs.Sound.{AreSound, IsAsking}
use Rattle.machine_sound.proofs.Outside.{given_stay}
use Rattle.machine_requests.specs.Open.{open_in, open_of, opens}
use Rattle.machine_requests.specs.Heard.{AreHeard, IsHeard}
use Rattle.machine_requests.proofs.Amid.{amid_more, sound, told, wants_next}
use Rattle.machine_requests.proofs.Hearing.{asks_waits, fresh_heard, given_heard}
use Rattle.machine_requests.proofs.Beats.{heard_changed, open_other, open_there}

-- ---- an outcome

-- the thread with its outcome
abbrev pub heard_one : Standing → Outcome → Standing
heard_one s o = record s { given = s.given ++ o ∷ []; wanted = None }

pub given_threads : (n : ℕ) (o : Outcome) (s : Standing) (t : Turns) → (gives_to n o (Some (Some s)) t).threads ≡ slice_set t.threads n (Some (heard_one s o))
given_threads n o s t = by_blocked (is_ready_after s.wanted)
  where
    by_blocked : (b : Bool) → (with_thread n (Some (heard_one s o)) (if b then record t { ready = t.ready ++ n ∷ [] } else t)).threads ≡ slice_set t.threads n (Some (heard_one s o))
    by_blocked true = refl
    by_blocked false = refl

pub given_heard_there : (p : Program) (t : Turns) (n : ℕ) (o : Outcome) (w : Wanted) → AreHeard p t → IsAsking n w t → AreHeard p (given_to n o t)
given_heard_there p t n o w heard asking =
    let s = asking.0 in
    subst (λ (q : Option (Option Standing)). AreHeard p (gives_to n o q t)) (sym asking.1) (by_blocked s asking.1 asking.2 (is_ready_after s.wanted))
  where
    by_blocked : (s : Standing) → slice_get t.threads n ≡ Some (Some s) → s.wanted ≡ Some w → (b : Bool) → AreHeard p (with_thread n (Some (heard_one s o)) (if b then record t { ready = t.ready ++ n ∷ [] } else t))
    by_blocked s here wants true =
        heard_changed p t (with_thread n (Some (heard_one s o)) (record t { ready = t.ready ++ n ∷ [] })) n (Some (heard_one s o)) heard (slice_get_within t.threads n (Some s) here) refl (λ k them other turn. turn)
        (λ r them e turn. let it : heard_one s o ≡ r = cc in subst (IsHeard p them) it (given_heard p them s o (asks_waits w (goes_on p them s) ((heard n s them here turn).asks w wants))))
    by_blocked s here wants false =
        heard_changed p t (with_thread n (Some (heard_one s o)) t) n (Some (heard_one s o)) heard (slice_get_within t.threads n (Some s) here) refl (λ k them other turn. turn)
        (λ r them e turn. let it : heard_one s o ≡ r = cc in subst (IsHeard p them) it (given_heard p them s o (asks_waits w (goes_on p them s) ((heard n s them here turn).asks w wants))))

pub given_open : (m : ModuleTypes) (parts : List PartTypes) (instructions : List Instruction) (t : Turns) (n : ℕ) (o : Outcome) (w : Wanted) → AreSound m parts instructions t → AreHeard (program m instructions) t → IsAsking n w t →
    open_of instructions n (given_to n o t) ≡ opens w o (open_of instructions n t)
given_open m parts instructions t n o w are heard asking =
    let s = asking.0 in
    let here : slice_get t.threads n ≡ Some (Some s) = asking.1 in
    let p = program m instructions in
    let i = slice_get instructions s.address in
    let is = are.threads n s here in
    let asks = (heard n s t.globals here (λ e. refl)).asks w asking.2 in
    let next = wants_next m instructions t.globals s are.shapes w (goes_on p t.globals s) (sound m instructions t.globals s parts are.shapes are.are is) (told m instructions t.globals s parts are.shapes are.are is) asks in
    let threads : (given_to n o t).threads ≡ slice_set t.threads n (Some (heard_one s o)) = ap (λ (q : Option (Option Standing)). (gives_to n o q t).threads) here ∙ given_threads n o s t in
    open_there instructions t (given_to n o t) n (Some (heard_one s o)) (slice_get_within t.threads n (Some s) here) threads
    ∙ amid_more i s.given o s.requests
    ∙ ap (λ (v : Wanted). opens v o (open_in instructions (Some (Some s)))) (sym next)
    ∙ ap (λ (q : Option (Option Standing)). opens w o (open_in instructions q)) (sym here)

pub given_others : (instructions : List Instruction) (t : Turns) (n k : ℕ) (o : Outcome) → (k ≡ n → ⊥) → open_of instructions k (given_to n o t) ≡ open_of instructions k t
given_others instructions t n k o other = ap (open_in instructions) ((given_stay t n o).threads k other)

-- ---- a new thread

pub spawned_heard : (p : Program) (t : Turns) (n : ℕ) (requests : List ℕ) (start : ℕ) (locals : List Value) → IsFree n t → AreHeard p t → AreHeard p (spawned n requests start locals t)
spawned_heard p t n requests start locals free heard =
    heard_changed p t (spawned n requests start locals t) n (Some (begun requests start locals)) heard (slice_get_within t.threads n None free) refl (λ k them other turn. turn)
    (λ r them e turn. let it : begun requests start locals ≡ r = cc in subst (IsHeard p them) it (fresh_heard p them (begun requests start locals)))

pub spawned_open : (instructions : List Instruction) (t : Turns) (n : ℕ) (requests : List ℕ) (start : ℕ) (locals : List Value) → IsFree n t → open_of instructions n (spawned n requests start locals t) ≡ requests
spawned_open instructions t n requests start locals free =
    open_there instructions t (spawned n requests start locals t) n (Some (begun requests start locals)) (slice_get_within t.threads n None free) refl

pub spawned_others : (instructions : List Instruction) (t : Turns) (n k : ℕ) (requests : List ℕ) (start : ℕ) (locals : List Value) → (k ≡ n → ⊥) →
    open_of instructions k (spawned n requests start locals t) ≡ open_of instructions k t
spawned_others instructions t n k requests start locals other = open_other instructions t (spawned n requests start locals t) n k (Some (begun requests start locals)) refl other

-- ---- the start

none_there : (instructions : List Instruction) (r k : ℕ) → open_in instructions (slice_get (replicate r None) k) ≡ []
none_there instructions zero k = refl
none_there instructions (suc r) zero = refl
none_there instructions (suc r) (suc k) = none_there instructions r k

no_thread : (r k : ℕ) (s : Standing) → slice_get (replicate r None) k ≡ Some (Some s) → ⊥
no_thread zero k s e = cc
no_thread (suc r) zero s e = cc
no_thread (suc r) (suc k) s e = no_thread r k s e

pub start_open : (instructions : List Instruction) (globals : List Value) (k : ℕ) → open_of instructions k (at_start globals) ≡ []
start_open instructions globals zero = refl
start_open instructions globals (suc k) = none_there instructions 31 k

pub start_heard : (p : Program) (globals : List Value) → AreHeard p (at_start globals)
start_heard p globals zero s them e turn = let it : begun [] 0 [] ≡ s = cc in subst (IsHeard p them) it (fresh_heard p them (begun [] 0 []))
start_heard p globals (suc k) s them e turn = absurd (no_thread 31 k s e)
