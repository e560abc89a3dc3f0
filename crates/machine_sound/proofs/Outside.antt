-- What a process does to sound threads.
use Rattle.std.proofs.Common.{arith, ◌≡◌, ℕ, zero, suc, nat_eq, List, [], ◌∷◌, ◌++◌, replicate, Bool, true, false, if◌then◌else◌, Option, Some, None, IfOk, slice_get, refl, sym, subst}
use Rattle.std.proofs.lemmas.Bool.Decides.{nat_tests}
use Rattle.std.proofs.lemmas.Option.{slice_get_within}
use Rattle.lynx_tree.specs.declared.declaration.TypeName.{TypeName}
use Rattle.lynx_code.specs.declared.instruction.Instruction.{Instruction}
use Rattle.lynx_meaning.specs.Values.{Value, HaveTypes}
use Rattle.code_shapes.specs.Shapes.{ModuleTypes, Shapes, AreShapes, PartTypes, opened_by}
use Rattle.machine_turns.specs.Threads.{Standing, answers, begun}
use Rattle.lynx_meaning.specs.Courses.{Outcome}
use Rattle.lynx_meaning.specs.Needs.{Wanted, wanted_types}
use Rattle.machine_turns.specs.Turns.{Turns, IsFree, at_start, given_to, gives_to, is_ready_after, spawned, with_thread}
use Rattle.machine_never_stuck.specs.Sound.{FirstFits, needs}
use Rattle.machine_never_stuck.proofs.Whole.{begins_placed}
use Rattle.machine_sound.specs.Sound.{AreSound, FitsAction, IsSoundThread, one_if, places, places_for, StayOthers}
use Rattle.machine_sound.specs.Taken.{takes_by, takes_turn}
use Rattle.machine_sound.proofs.Keeping.{some_wanted}
use Rattle.machine_sound.proofs.Placing.{is_given, is_new, is_ready, turn_taken, get_other}
use Rattle.machine_sound.proofs.Turning.{with_changed}

module _ (m : ModuleTypes) (parts : List PartTypes) (instructions : List Instruction) where
  -- ---- an outcome

  first_given : (needed : List TypeName) (globals : List Value) (outcome : Outcome) (os : List Outcome) → (os ≡ [] → IfOk outcome (HaveTypes needed)) → FirstFits needed (answers globals os) →
      FirstFits needed (answers globals (os ++ outcome ∷ []))
  first_given needed globals outcome [] first fits = first refl
  first_given needed globals outcome (o ∷ os) first fits = fits

  given_thread : (shapes : Shapes) (globals : List Value) (s : Standing) (outcome : Outcome) (w : Wanted) → IsSoundThread m instructions shapes globals s → s.wanted ≡ Some w → IfOk outcome (HaveTypes (wanted_types m.ops w)) →
      IsSoundThread m instructions shapes globals (record s { given = s.given ++ outcome ∷ []; wanted = None })
  given_thread shapes globals s outcome w is wants fits = record {
    thread = record {
      shape = is.thread.shape;
      there = is.thread.there;
      has = record { locals = is.thread.has.locals; stack = is.thread.has.stack; tries = is.thread.has.tries; requests = is.thread.has.requests; pending = is.thread.has.pending };
      globals = is.thread.globals;
    };
    given = first_given (needs m (slice_get instructions s.address)) globals outcome s.given (λ none. subst (λ (ts : List TypeName). IfOk outcome (HaveTypes ts)) (is.wanted w wants none) fits) is.given;
    wanted = λ v e none. absurd (some_wanted v e);
  }

  given_by : (t : Turns) (n : ℕ) (outcome : Outcome) (s : Standing) (w : Wanted) (blocked : Bool) → is_ready_after s.wanted ≡ blocked → AreSound m parts instructions t → slice_get t.threads n ≡ Some (Some s) → s.wanted ≡ Some w →
      IfOk outcome (HaveTypes (wanted_types m.ops w)) →
      AreSound m parts instructions (with_thread n (Some (record s { given = s.given ++ outcome ∷ []; wanted = None })) (if blocked then record t { ready = t.ready ++ n ∷ [] } else t))
  given_by t n outcome s w true blocked is here wants fits =
      let now : Standing = record s { given = s.given ++ outcome ∷ []; wanted = None } in
      with_changed m parts instructions t (with_thread n (Some now) (record t { ready = t.ready ++ n ∷ [] })) n (Some now) is (slice_get_within t.threads n (Some s) here) refl is.globals
      (λ r e. let same : now ≡ r = cc in subst (λ (q : Standing). IsSoundThread m instructions is.shapes t.globals q) same (given_thread is.shapes t.globals s outcome w (is.threads n s here) wants fits))
      (is_ready t n s now here blocked refl is.placed)
  given_by t n outcome s w false blocked is here wants fits =
      let now : Standing = record s { given = s.given ++ outcome ∷ []; wanted = None } in
      with_changed m parts instructions t (with_thread n (Some now) t) n (Some now) is (slice_get_within t.threads n (Some s) here) refl is.globals
      (λ r e. let same : now ≡ r = cc in subst (λ (q : Standing). IsSoundThread m instructions is.shapes t.globals q) same (given_thread is.shapes t.globals s outcome w (is.threads n s here) wants fits))
      (is_given t n s now here blocked refl is.placed)

  pub given_sound : (t : Turns) (n : ℕ) (outcome : Outcome) → AreSound m parts instructions t → FitsAction m n outcome t → AreSound m parts instructions (given_to n outcome t)
  given_sound t n outcome is fits =
      let s = fits.1.0 in
      subst (λ (o : Option (Option Standing)). AreSound m parts instructions (gives_to n outcome o t)) (sym fits.1.1)
      (given_by t n outcome s fits.0 (is_ready_after s.wanted) refl is fits.1.1 fits.1.2 fits.2)

  -- ---- a new thread

  begun_thread : (shapes : Shapes) (globals : List Value) (i : ℕ) (p : PartTypes) (locals : List Value) → AreShapes m parts instructions shapes → HaveTypes m.globals globals →
      slice_get parts i ≡ Some p → HaveTypes p.locals locals → IsSoundThread m instructions shapes globals (begun (opened_by p.op) p.start locals)
  begun_thread shapes globals i p locals are known part typed =
      let placed = begins_placed m parts instructions shapes i p (record { globals = globals; locals = locals }) [] are part typed in
      record {
        thread = record { shape = placed.shape; there = placed.there; has = record { locals = placed.has.locals; stack = placed.has.stack; tries = placed.has.tries; requests = placed.has.requests; pending = placed.has.pending }; globals = known };
        given = tt;
        wanted = λ w e none. absurd (some_wanted w e);
      }

  pub spawned_sound : (t : Turns) (n i : ℕ) (p : PartTypes) (locals : List Value) → AreSound m parts instructions t → IsFree n t → slice_get parts i ≡ Some p → HaveTypes p.locals locals →
      AreSound m parts instructions (spawned n (opened_by p.op) p.start locals t)
  spawned_sound t n i p locals is free part typed =
      let now : Standing = begun (opened_by p.op) p.start locals in
      with_changed m parts instructions t (spawned n (opened_by p.op) p.start locals t) n (Some now) is (slice_get_within t.threads n None free) refl is.globals
      (λ r e. let same : now ≡ r = cc in subst (λ (q : Standing). IsSoundThread m instructions is.shapes t.globals q) same (begun_thread is.shapes t.globals i p locals is.are is.globals part typed))
      (is_new t n now free refl is.placed)

  -- ---- the start

  -- the body, which serves no operation
  abbrev pub body_types : PartTypes
  body_types = record { start = 0; op = None; locals = [] }

  no_thread : (r k : ℕ) (s : Standing) → slice_get (replicate r None) k ≡ Some (Some s) → ⊥
  no_thread zero k s e = cc
  no_thread (suc r) zero s e = cc
  no_thread (suc r) (suc k) s e = no_thread r k s e

  free_place : (r k : ℕ) → places_for (slice_get (replicate r None) k) ≡ 0
  free_place zero k = refl
  free_place (suc r) zero = refl
  free_place (suc r) (suc k) = free_place r k

  elsewhere : (k : ℕ) → one_if (nat_eq (suc k) 0) ≡ 0
  elsewhere k = grind (arith, nat_tests)

  first_only : (shapes : Shapes) (globals : List Value) → AreShapes m parts instructions shapes → HaveTypes m.globals globals → slice_get parts 0 ≡ Some body_types → (k : ℕ) (s : Standing) →
      slice_get (at_start globals).threads k ≡ Some (Some s) → IsSoundThread m instructions shapes globals s
  first_only shapes globals are typed body zero s e =
      let same : begun [] 0 [] ≡ s = cc in
      subst (λ (q : Standing). IsSoundThread m instructions shapes globals q) same (begun_thread shapes globals 0 body_types [] are typed body tt)
  first_only shapes globals are typed body (suc k) s e = absurd (no_thread 31 k s e)

  first_place : (globals : List Value) (k : ℕ) → places k (at_start globals) ≡ places_for (slice_get (at_start globals).threads k)
  first_place globals zero = omega arith
  first_place globals (suc k) = let none = elsewhere k in let no_place = free_place 31 k in omega arith

  pub start_sound : (shapes : Shapes) (globals : List Value) → AreShapes m parts instructions shapes → HaveTypes m.globals globals → slice_get parts 0 ≡ Some body_types → AreSound m parts instructions (at_start globals)
  start_sound shapes globals are typed body = record {
    shapes = shapes;
    are = are;
    globals = typed;
    threads = first_only shapes globals are typed body;
    placed = first_place globals;
    many = refl;
  }

  -- ---- a turn is taken

  taken : (t : Turns) (running : Option ℕ) (ready : List ℕ) → t.running ≡ running → t.ready ≡ ready → AreSound m parts instructions t → AreSound m parts instructions (takes_by t running ready)
  taken t (Some n) ready runs waits is = is
  taken t None [] runs waits is = is
  taken t None (n ∷ ready) runs waits is = record {
    shapes = is.shapes;
    are = is.are;
    globals = is.globals;
    threads = is.threads;
    placed = turn_taken t n ready runs waits is.placed;
    many = is.many;
  }

  pub taken_sound : (t : Turns) → AreSound m parts instructions t → AreSound m parts instructions (takes_turn t)
  taken_sound t is = taken t t.running t.ready refl refl is

-- ---- what stays

given_others : (t : Turns) (n : ℕ) (outcome : Outcome) (o : Option (Option Standing)) → StayOthers n t (gives_to n outcome o t)
given_others t n outcome None = record { threads = λ k other. refl; globals = refl }
given_others t n outcome (Some None) = record { threads = λ k other. refl; globals = refl }
given_others t n outcome (Some (Some s)) = by_blocked (is_ready_after s.wanted)
  where
    by_blocked : (blocked : Bool) → StayOthers n t (with_thread n (Some (record s { given = s.given ++ outcome ∷ []; wanted = None })) (if blocked then record t { ready = t.ready ++ n ∷ [] } else t))
    by_blocked true = record { threads = λ k other. get_other t.threads n k (Some (record s { given = s.given ++ outcome ∷ []; wanted = None })) other; globals = refl }
    by_blocked false = record { threads = λ k other. get_other t.threads n k (Some (record s { given = s.given ++ outcome ∷ []; wanted = None })) other; globals = refl }

pub given_stay : (t : Turns) (n : ℕ) (outcome : Outcome) → StayOthers n t (given_to n outcome t)
given_stay t n outcome = given_others t n outcome (slice_get t.threads n)

pub spawned_stay : (t : Turns) (n : ℕ) (requests : List ℕ) (start : ℕ) (locals : List Value) → StayOthers n t (spawned n requests start locals t)
spawned_stay t n requests start locals = record { threads = λ k other. get_other t.threads n k (Some (begun requests start locals)) other; globals = refl }
