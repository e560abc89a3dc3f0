-- Where a run stops: why, and with how much fuel.
use Rattle.std.proofs.Common.{arith, ◌≡◌, ℕ, zero, suc, ◌-◌, ◌<◌, ◌≤◌, le_refl, zero-lt-suc, List, [], ◌∷◌, length, Bool, true, false, Option, None, Some, inl, inr, if◌then◌else◌, slice_get, nat_eq, refl, sym, ap, subst, ◌∙◌, true≢false, eqb-true, Contains}
use Rattle.std.specs.List.{list_any}
use Rattle.std.specs.Option.{is_some}
use Rattle.lynx_meaning.specs.Code.{Program}
use Rattle.machine_turns.specs.Threads.{Standing, Made, Went, Acts, Awaits, Ends, comes_of, fuel_after, is_fresh}
use Rattle.machine_turns.specs.Threads as threads
use Rattle.machine_turns.specs.Turns.{Beat, RunsOn, Stops, Stop, Spent, Act, AllBlocked, Finished, Turns, beat, beats, comes, is_ready_after, next_turn, stands, turn_of, with_fuel}
use Rattle.machine_turns.specs.Turns as turns
use Rattle.machine_sound.specs.Sound.{IsStopped, IsWaiting, one_if, places_for, times, times_in}
use Rattle.machine_sound.proofs.Placing.{ArePlaced}

-- ---- why

-- with no more fuel than so much
abbrev Why : ℕ → Beat → Type 0
Why most (RunsOn left t) = left ≤ most
Why most (Stops Spent left t) = (left ≡ 0) × (left ≤ most)
Why most (Stops AllBlocked left t) = (t.running ≡ None) × (t.ready ≡ []) × (left ≤ most)
Why most (Stops Finished left t) = (stands t ≡ false) × (left ≤ most)
Why most (Stops (Act n a) left t) = left ≤ most
Why most turns.Broken = Unit {0}

by_fresh : (fresh : Bool) (fuel : ℕ) → (if fresh then fuel - 1 else fuel) ≤ fuel
by_fresh true fuel = omega arith
by_fresh false fuel = omega arith

comes_why : (most fuel n : ℕ) (t : Turns) (made : Made) → fuel ≤ most → Why most (comes fuel n t made)
comes_why most fuel n t (Went globals s) le = le
comes_why most fuel n t (Acts a globals s) le = le
comes_why most fuel n t (Awaits globals s) le = le
comes_why most fuel n t (Ends globals) le = le
comes_why most fuel n t threads.Broken le = tt

module _ (p : Program) where
  turn_why : (fuel n : ℕ) (o : Option (Option Standing)) (t : Turns) → Why fuel (turn_of p fuel n o t)
  turn_why fuel n (Some (Some s)) t = comes_why fuel (fuel_after fuel s) n t (comes_of p t.globals s) (by_fresh (is_fresh s) fuel)
  turn_why fuel n (Some None) t = tt
  turn_why fuel n None t = tt

  fuel_why : (fuel n : ℕ) (t chosen : Turns) → Why fuel (with_fuel p fuel n t chosen)
  fuel_why zero n t chosen = (refl, omega arith)
  fuel_why (suc fuel) n t chosen = turn_why (suc fuel) n (slice_get chosen.threads n) chosen

  next_why : (fuel : ℕ) (t : Turns) (running : Option ℕ) (ready : List ℕ) → t.running ≡ running → t.ready ≡ ready → Why fuel (next_turn p fuel t running ready)
  next_why fuel t (Some n) ready runs waits = fuel_why fuel n t t
  next_why fuel t None (n ∷ ready) runs waits = fuel_why fuel n t (record t { running = Some n; ready = ready })
  next_why fuel t None [] runs waits = (runs, waits, omega arith)

  by_stands : (fuel : ℕ) (t : Turns) (b : Bool) → stands t ≡ b → Why fuel (if b then next_turn p fuel t t.running t.ready else Stops Finished fuel t)
  by_stands fuel t true stand = next_why fuel t t.running t.ready refl refl
  by_stands fuel t false none = (none, omega arith)

  less_why : (most fuel : ℕ) (b : Beat) → fuel ≤ most → Why fuel b → Why most b
  less_why most fuel (RunsOn left t) le why = omega arith
  less_why most fuel (Stops Spent left t) le why = (why.0, omega (arith, why.1))
  less_why most fuel (Stops AllBlocked left t) le why = (why.0, why.1, omega (arith, why.2))
  less_why most fuel (Stops Finished left t) le why = (why.0, omega (arith, why.1))
  less_why most fuel (Stops (Act n a) left t) le why = omega arith
  less_why most fuel turns.Broken le why = tt

  beats_why : (most k : ℕ) (b : Beat) → Why most b → Why most (beats p k b)
  beats_why most zero b why = why
  beats_why most (suc k) (RunsOn fuel t) why = beats_why most k (beat p fuel t) (less_why most fuel (beat p fuel t) why (by_stands fuel t (stands t) refl))
  beats_why most (suc k) (Stops stop left t) why = why
  beats_why most (suc k) turns.Broken why = tt

-- ---- what that says

some_times : (n : ℕ) (ks : List ℕ) → 0 < times n ks → Contains ks n
some_times n [] some = absurd (omega arith)
some_times n (k ∷ ks) some = by_first (nat_eq n k) refl (λ more. some_times n ks more)
  where
    by_first : (b : Bool) → nat_eq n k ≡ b → (0 < times n ks → Contains ks n) → Contains (k ∷ ks) n
    by_first true e others = (0, zero-lt-suc (length ks), sym (eqb-true n k e))
    by_first false e others =
        let none = ap one_if e in
        let rest = others (omega (arith, some, none)) in
        (suc rest.0, omega (arith, rest.1), rest.2)

by_blocked : (b : Bool) → zero ≡ (if b then 0 else 1) → b ≡ true
by_blocked true none = refl
by_blocked false none = absurd (omega arith)

waiting : (t : Turns) (n : ℕ) (s : Standing) → ArePlaced t → t.running ≡ None → t.ready ≡ [] → slice_get t.threads n ≡ Some (Some s) → IsWaiting n s t
waiting t n s placed runs none here = by_times (times n t.awaiting) refl
  where
    at_n : times n t.awaiting ≡ places_for (Some (Some s))
    at_n =
        let a = ap (times_in n) runs in
        let b = ap (times n) none in
        let c = placed n in
        let d = ap places_for here in
        omega (arith, a, b, c, d)

    by_times : (k : ℕ) → times n t.awaiting ≡ k → IsWaiting n s t
    by_times zero e = inl (by_blocked (is_ready_after s.wanted) (sym e ∙ at_n))
    by_times (suc k) e = inr (some_times n t.awaiting (omega arith))

none_stands : (ts : List (Option Standing)) (n : ℕ) (s : Standing) → list_any is_some ts ≡ false → slice_get ts n ≡ Some (Some s) → ⊥
none_stands [] n s none here = cc
none_stands (Some r ∷ ts) n s none here = true≢false none
none_stands (None ∷ ts) zero s none here = cc
none_stands (None ∷ ts) (suc n) s none here = none_stands ts n s none here

stopped : (most : ℕ) (stop : Stop) (left : ℕ) (t : Turns) → ArePlaced t → Why most (Stops stop left t) → IsStopped stop left t × (left ≤ most)
stopped most Spent left t placed why = (why.0, why.1)
stopped most AllBlocked left t placed why = ((λ n s here. waiting t n s placed why.0 why.1 here), why.2)
stopped most Finished left t placed why = ((λ n s here. none_stands t.threads n s why.0 here), why.1)
stopped most (Act n a) left t placed why = (tt, why)

-- a run that stopped so
pub run_stopped : (p : Program) (fuel : ℕ) (before : Turns) (k : ℕ) (stop : Stop) (left : ℕ) (now : Turns) → ArePlaced now → beats p k (RunsOn fuel before) ≡ Stops stop left now → IsStopped stop left now × (left ≤ fuel)
run_stopped p fuel before k stop left now placed is = stopped fuel stop left now placed (subst (λ (b : Beat). Why fuel b) is (beats_why p fuel k (RunsOn fuel before) (le_refl fuel)))
