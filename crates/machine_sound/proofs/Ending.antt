-- A run is a function: each beat after which it goes on lowers what is left to do, so it ends within so many beats.
use Rattle.std.proofs.Common.{arith, ◌≡◌, ℕ, zero, suc, ◌+◌, ◌*◌, ◌<◌, ◌≤◌, List, [], ◌∷◌, Bool, true, false, if◌then◌else◌, Option, Some, None, length, slice_get, refl, sym, ap, subst, ◌∙◌, not-suc-le-zero}
use Rattle.lynx_meaning.specs.Code.{Program}
use Rattle.machine_turns.specs.Threads.{Standing, comes_of, fuel_after, is_fresh}
use Rattle.machine_turns.specs.Turns.{Beat, RunsOn, Stops, Stop, Turns, beat, beats, most_beats, most_threads, next_turn, run, stands, turn_of, with_fuel}
use Rattle.machine_turns.specs.Turns as turns
use Rattle.machine_sound.specs.Weights.{amid_there, count_amid, one_unless, weight, Ends}
use Rattle.machine_sound.proofs.Advancing.{at_most_one, first_advances, turn_weighs}

-- ---- one beat

turn_lowers : (p : Program) (fuel n : ℕ) (t : Turns) (o : Option (Option Standing)) (left : ℕ) (now : Turns) → slice_get t.threads n ≡ o → turn_of p (suc fuel) n o t ≡ RunsOn left now → weight left now < weight (suc fuel) t
turn_lowers p fuel n t None left now here e = cc
turn_lowers p fuel n t (Some None) left now here e = cc
turn_lowers p fuel n t (Some (Some s)) left now here e =
    turn_weighs (suc fuel) (fuel_after (suc fuel) s) n t s (comes_of p t.globals s) left now here (first_advances p fuel t.globals s) e

fuel_lowers : (p : Program) (fuel n : ℕ) (t chosen : Turns) (left : ℕ) (now : Turns) → weight fuel chosen ≡ weight fuel t → with_fuel p fuel n t chosen ≡ RunsOn left now → weight left now < weight fuel t
fuel_lowers p zero n t chosen left now same e = cc
fuel_lowers p (suc fuel) n t chosen left now same e =
    subst (λ (k : ℕ). weight left now < k) same (turn_lowers p fuel n chosen (slice_get chosen.threads n) left now refl e)

next_lowers : (p : Program) (fuel : ℕ) (t : Turns) (running : Option ℕ) (ready : List ℕ) (left : ℕ) (now : Turns) → next_turn p fuel t running ready ≡ RunsOn left now → weight left now < weight fuel t
next_lowers p fuel t (Some n) ready left now e = fuel_lowers p fuel n t t left now refl e
next_lowers p fuel t None (n ∷ ready) left now e = fuel_lowers p fuel n t (record t { running = Some n; ready = ready }) left now refl e
next_lowers p fuel t None [] left now e = cc

stands_lowers : (p : Program) (fuel : ℕ) (t : Turns) (stand : Bool) (left : ℕ) (now : Turns) →
    (if stand then next_turn p fuel t t.running t.ready else Stops turns.Finished fuel t) ≡ RunsOn left now → weight left now < weight fuel t
stands_lowers p fuel t true left now e = next_lowers p fuel t t.running t.ready left now e
stands_lowers p fuel t false left now e = cc

pub beat_lowers : (p : Program) (fuel : ℕ) (t : Turns) (left : ℕ) (now : Turns) → beat p fuel t ≡ RunsOn left now → weight left now < weight fuel t
beat_lowers p fuel t left now e = stands_lowers p fuel t (stands t) left now e

-- ---- so many beats

-- less is left to do than so much
abbrev Within : ℕ → Beat → Type 0
Within w (RunsOn fuel t) = weight fuel t < w
Within w (Stops stop fuel t) = Unit {0}
Within w turns.Broken = Unit {0}

next_within : (w weighs : ℕ) (b : Beat) → weighs < suc w → ((left : ℕ) (now : Turns) → b ≡ RunsOn left now → weight left now < weighs) → Within w b
next_within w weighs (RunsOn left now) within lowers = let less = lowers left now refl in omega arith
next_within w weighs (Stops stop left now) within lowers = tt
next_within w weighs turns.Broken within lowers = tt

stays : (p : Program) (k : ℕ) (stop : Stop) (left : ℕ) (now : Turns) → beats p k (Stops stop left now) ≡ Stops stop left now
stays p zero stop left now = refl
stays p (suc k) stop left now = refl

breaks : (p : Program) (k : ℕ) → beats p k turns.Broken ≡ turns.Broken
breaks p zero = refl
breaks p (suc k) = refl

ended : (p : Program) (w k : ℕ) (b : Beat) (stop : Stop) (left : ℕ) (now : Turns) → Within w b → beats p k b ≡ Stops stop left now → beats p w b ≡ Stops stop left now
ended p w k (Stops s f u) stop left now within is = stays p w s f u ∙ sym (stays p k s f u) ∙ is
ended p w k turns.Broken stop left now within is = let never : turns.Broken ≡ Stops stop left now = sym (breaks p k) ∙ is in cc
ended p zero k (RunsOn f t) stop left now within is = absurd (not-suc-le-zero within)
ended p (suc w) zero (RunsOn f t) stop left now within is = cc
ended p (suc w) (suc k) (RunsOn f t) stop left now within is = ended p w k (beat p f t) stop left now (next_within w (weight f t) (beat p f t) within (beat_lowers p f t)) is

ends_within : (p : Program) (w : ℕ) (b : Beat) → Within w b → Ends (beats p w b)
ends_within p zero (RunsOn f t) within = absurd (not-suc-le-zero within)
ends_within p zero (Stops s f u) within = tt
ends_within p zero turns.Broken within = tt
ends_within p (suc w) (RunsOn f t) within = ends_within p w (beat p f t) (next_within w (weight f t) (beat p f t) within (beat_lowers p f t))
ends_within p (suc w) (Stops s f u) within = tt
ends_within p (suc w) turns.Broken within = tt

-- ---- a run

count_within : (ts : List (Option Standing)) → count_amid ts ≤ length ts
count_within [] = omega arith
count_within (None ∷ ts) = let rest = count_within ts in omega arith
count_within (Some s ∷ ts) = let rest = count_within ts in let one = at_most_one (is_fresh s) in omega arith

first_within : (fuel : ℕ) (t : Turns) → length t.threads ≡ most_threads → weight fuel t < most_beats fuel
first_within fuel t many = let most = count_within t.threads in omega arith

-- however many beats led to a stop, the run is this
pub run_is : (p : Program) (fuel k : ℕ) (t : Turns) (stop : Stop) (left : ℕ) (now : Turns) → length t.threads ≡ most_threads → beats p k (RunsOn fuel t) ≡ Stops stop left now → run p fuel t ≡ Stops stop left now
run_is p fuel k t stop left now many is = ended p (most_beats fuel) k (RunsOn fuel t) stop left now (first_within fuel t many) is

pub run_ends : (p : Program) (fuel : ℕ) (t : Turns) → length t.threads ≡ most_threads → Ends (run p fuel t)
run_ends p fuel t many = ends_within p (most_beats fuel) (RunsOn fuel t) (first_within fuel t many)
