-- Runs of the machine keep what holds of a process: threads that wait at ends go on to ask for the same.
use Rattle.std.proofs.Common.{arith, ◌≡◌, ℕ, zero, suc, ◌≤◌, Bool, true, false, List, [], ◌∷◌, Option, Some, None, slice_get, if◌then◌else◌, refl, sym, ap, subst, ◌∙◌}
use Rattle.code_shapes.specs.Shapes.{ModuleTypes, PartTypes, program}
use Rattle.lynx_code.specs.declared.instruction.Instruction.{Instruction}
use Rattle.lynx_meaning.specs.Code.{Program}
use Rattle.lynx_meaning.specs.Courses.{Action}
use Rattle.lynx_meaning.specs.Needs.{Wanted, wanted_by}
use Rattle.machine_requests.proofs.Beats.{one_course}
use Rattle.machine_sound.specs.Sound.{AreSound, IsAsking, StayBlocked, one_if}
use Rattle.machine_sound.specs.Taken.{takes_by, takes_turn}
use Rattle.machine_sound.proofs.Outside.{taken_sound}
use Rattle.machine_sound.proofs.Placing.{running_there}
use Rattle.machine_sound.proofs.Rounds.{KeepsBlocked, round}
use Rattle.machine_sound.proofs.Turning.{SoundBeat, goes_on_beat, taken_beat}
use Rattle.machine_turns.specs.Threads.{Acts, Awaits, Ends, Made, Standing, Went, comes_of, fuel_after}
use Rattle.machine_turns.specs.Threads as threads
use Rattle.machine_turns.specs.Turns.{Act, Beat, RunsOn, Stop, Stops, Turns, asks_for, awaits, beat, beats, comes, is_ready_after, most_beats, next_turn, run, stands, wakes, with_thread}
use Rattle.machine_turns.specs.Turns as turns
use Rattle.process_run.specs.States.{Place}
use Rattle.process_sound.specs.Ends.{waits}
use Rattle.process_sound.specs.Machine.{asks, wanted_in}
use Rattle.process_sound.proofs.Threads.{asking_of, asks_of, waits_for}

-- each thread that waits at an end asks for something that it has to wait for
abbrev pub AllWait : List Place → Turns → Type 0
AllWait ps t = (n : ℕ) → waits n ps ≤ one_if (is_ready_after (asks n t))

-- and goes on to ask for it
abbrev pub StayAsking : List Place → Turns → Turns → Type 0
StayAsking ps t u = (n : ℕ) → 1 ≤ waits n ps → asks n u ≡ asks n t

-- so it is behind a beat; a thread that asks for an action waits at no end
abbrev pub KeepsAsking : List Place → Turns → Beat → Type 0
KeepsAsking ps t (RunsOn left u) = StayAsking ps t u
KeepsAsking ps t (Stops (Act n a) left u) = StayAsking ps t u × (waits n ps ≡ 0) × IsAsking n (wanted_by a) u
KeepsAsking ps t (Stops stop left u) = StayAsking ps t u
KeepsAsking ps t turns.Broken = Unit {0}

by_test : (b : Bool) → 1 ≤ one_if b → b ≡ true
by_test true some = refl
by_test false some = absurd (omega (arith, some))

blocked_asks : (ps : List Place) (t u : Turns) → AllWait ps t → StayBlocked t u → StayAsking ps t u
blocked_asks ps t u all stay n some =
    let once = all n in
    let waiting : 1 ≤ one_if (is_ready_after (asks n t)) = omega (arith, some, once) in
    let blocked = waits_for (asks n t) waiting in
    let asking = asking_of n blocked.0 t blocked.1 in
    let ready : is_ready_after asking.0.wanted ≡ true = ap is_ready_after (asking.2 ∙ sym blocked.1) ∙ by_test (is_ready_after (asks n t)) waiting in
    asks_of n blocked.0 u (asking.0, stay n asking.0 asking.1 ready, asking.2) ∙ sym blocked.1

-- of one that is not blocked none waits
none_waits : (ps : List Place) (t : Turns) (n : ℕ) (s : Standing) → AllWait ps t → slice_get t.threads n ≡ Some (Some s) → is_ready_after s.wanted ≡ false → waits n ps ≡ 0
none_waits ps t n s all here free =
    let once = all n in
    let asked : asks n t ≡ s.wanted = ap wanted_in here in
    let none : one_if (is_ready_after (asks n t)) ≡ 0 = ap (λ (o : Option Wanted). one_if (is_ready_after o)) asked ∙ ap one_if free in
    omega (arith, once, none)

waits_still : (ps : List Place) (t u : Turns) → AllWait ps t → StayAsking ps t u → AllWait ps u
waits_still ps t u all stay n = by_count (waits n ps) (stay n) (all n)
  where
    by_count : (k : ℕ) → (1 ≤ k → asks n u ≡ asks n t) → k ≤ one_if (is_ready_after (asks n t)) → k ≤ one_if (is_ready_after (asks n u))
    by_count zero same once = omega arith
    by_count (suc k) same once = subst (λ (o : Option Wanted). suc k ≤ one_if (is_ready_after o)) (sym (same (omega arith))) once

taken_asks : (t : Turns) (running : Option ℕ) (ready : List ℕ) (n : ℕ) → asks n (takes_by t running ready) ≡ asks n t
taken_asks t (Some k) ready n = refl
taken_asks t None [] n = refl
taken_asks t None (k ∷ ready) n = refl

module _ (m : ModuleTypes) (parts : List PartTypes) (instructions : List Instruction) (ps : List Place) where
  abbrev p : Program
  p = program m instructions

  -- sound threads, which ask for the same where they wait
  abbrev Good : Turns → Beat → Type 0
  Good t b = SoundBeat m parts instructions b × KeepsAsking ps t b

  comes_good : (t u : Turns) (left n : ℕ) (last : Made) → AllWait ps t → waits n ps ≡ 0 → KeepsBlocked t (comes left n u last) →
      ((k now : ℕ) (a : Action) (v : Turns) → comes left n u last ≡ Stops (Act k a) now v → IsAsking k (wanted_by a) v) → KeepsAsking ps t (comes left n u last)
  comes_good t u left n (Went globals s) all none stay asked = blocked_asks ps t (with_thread n (Some s) (record u { globals = globals; running = Some n })) all stay
  comes_good t u left n (Acts a globals s) all none stay asked =
      let v = with_thread n (Some s) (asks_for n a (record u { globals = globals })) in (blocked_asks ps t v all stay, none, asked n left a v refl)
  comes_good t u left n (Awaits globals s) all none stay asked = blocked_asks ps t (with_thread n (Some s) (awaits n s.again (record u { globals = globals }))) all stay
  comes_good t u left n (Ends globals) all none stay asked = blocked_asks ps t (with_thread n None (wakes (record u { globals = globals }))) all stay
  comes_good t u left n threads.Broken all none stay asked = tt

  -- a thread that goes on
  turn_good : (fuel n : ℕ) (t : Turns) → AreSound m parts instructions t → AllWait ps t → stands t ≡ true → (takes_turn t).running ≡ Some n → Good t (beat p (suc fuel) t)
  turn_good fuel n t is all stand runs =
      let taken = taken_sound m parts instructions t is in
      let placed = running_there (takes_turn t) n taken.placed runs in
      let s = placed.0 in
      let here : slice_get (takes_turn t).threads n ≡ Some (Some s) = placed.1 in
      let left = fuel_after (suc fuel) s in
      let last = comes_of p (takes_turn t).globals s in
      let r = round m parts instructions (suc fuel) left t n zero s last (comes left n (takes_turn t) last) is stand (omega arith) runs here (one_course left last) refl in
      let none = none_waits ps (takes_turn t) n s (λ k. subst (λ (o : Option Wanted). waits k ps ≤ one_if (is_ready_after o)) (sym (taken_asks t t.running t.ready k)) (all k)) here placed.2 in
      subst (λ (b : Beat). Good t b) (sym (taken_beat m parts instructions t fuel stand ∙ goes_on_beat m parts instructions (takes_turn t) n s fuel runs here))
      (r.sound, comes_good t (takes_turn t) left n last all none r.blocked r.asked)

  -- nothing has changed
  abbrev IsCalm : Stop → Type 0
  IsCalm (Act n a) = ⊥
  IsCalm _ = Unit {0}

  calm_good : (stop : Stop) (fuel : ℕ) (t : Turns) → IsCalm stop → AreSound m parts instructions t → Good t (Stops stop fuel t)
  calm_good turns.Spent fuel t calm is = (is, λ n some. refl)
  calm_good (Act n a) fuel t calm is = absurd calm
  calm_good turns.AllBlocked fuel t calm is = (is, λ n some. refl)
  calm_good turns.Finished fuel t calm is = (is, λ n some. refl)

  beat_by : (fuel : ℕ) (t : Turns) (b : Bool) (running : Option ℕ) (ready : List ℕ) → stands t ≡ b → t.running ≡ running → t.ready ≡ ready → AreSound m parts instructions t → AllWait ps t → Good t (beat p fuel t)
  beat_by fuel t false running ready stand runs waiting is all =
      subst (λ (c : Beat). Good t c) (sym (ap (λ (c : Bool). if c then next_turn p fuel t t.running t.ready else Stops turns.Finished fuel t) stand)) (calm_good turns.Finished fuel t tt is)
  beat_by (suc fuel) t true (Some n) ready stand runs waiting is all =
      turn_good fuel n t is all stand (ap (λ (r : Option ℕ). (takes_by t r t.ready).running) runs ∙ runs)
  beat_by (suc fuel) t true None (n ∷ ready) stand runs waiting is all =
      turn_good fuel n t is all stand (ap (λ (r : Option ℕ). (takes_by t r t.ready).running) runs ∙ ap (λ (xs : List ℕ). (takes_by t None xs).running) waiting)
  beat_by zero t true (Some n) ready stand runs waiting is all =
      subst (λ (c : Beat). Good t c)
      (sym (ap (λ (c : Bool). if c then next_turn p zero t t.running t.ready else Stops turns.Finished zero t) stand ∙ ap (λ (r : Option ℕ). next_turn p zero t r t.ready) runs))
      (calm_good turns.Spent zero t tt is)
  beat_by zero t true None (n ∷ ready) stand runs waiting is all =
      subst (λ (c : Beat). Good t c)
      (sym (ap (λ (c : Bool). if c then next_turn p zero t t.running t.ready else Stops turns.Finished zero t) stand ∙ ap (λ (r : Option ℕ). next_turn p zero t r t.ready) runs
      ∙ ap (λ (xs : List ℕ). next_turn p zero t None xs) waiting))
      (calm_good turns.Spent zero t tt is)
  beat_by fuel t true None [] stand runs waiting is all =
      subst (λ (c : Beat). Good t c)
      (sym (ap (λ (c : Bool). if c then next_turn p fuel t t.running t.ready else Stops turns.Finished fuel t) stand ∙ ap (λ (r : Option ℕ). next_turn p fuel t r t.ready) runs
      ∙ ap (λ (xs : List ℕ). next_turn p fuel t None xs) waiting))
      (calm_good turns.AllBlocked fuel t tt is)

  onward : (t u : Turns) (b : Beat) → StayAsking ps t u → KeepsAsking ps u b → KeepsAsking ps t b
  onward t u (RunsOn left v) stay keeps = λ n some. keeps n some ∙ stay n some
  onward t u (Stops turns.Spent left v) stay keeps = λ n some. keeps n some ∙ stay n some
  onward t u (Stops (Act k a) left v) stay keeps = ((λ n some. keeps.0 n some ∙ stay n some), keeps.1, keeps.2)
  onward t u (Stops turns.AllBlocked left v) stay keeps = λ n some. keeps n some ∙ stay n some
  onward t u (Stops turns.Finished left v) stay keeps = λ n some. keeps n some ∙ stay n some
  onward t u turns.Broken stay keeps = tt

  beats_good : (k : ℕ) (t : Turns) (b : Beat) → AllWait ps t → Good t b → Good t (beats p k b)
  beats_good zero t b all good = good
  beats_good (suc k) t (RunsOn fuel u) all good =
      let next = beat_by fuel u (stands u) u.running u.ready refl refl refl good.0 (waits_still ps t u all good.1) in
      beats_good k t (beat p fuel u) all (next.0, onward t u (beat p fuel u) good.1 next.1)
  beats_good (suc k) t (Stops stop left u) all good = good
  beats_good (suc k) t turns.Broken all good = good

  pub run_asks : (fuel : ℕ) (t : Turns) → AreSound m parts instructions t → AllWait ps t → KeepsAsking ps t (run p fuel t)
  run_asks fuel t is all = (beats_good (most_beats fuel) t (RunsOn fuel t) all (is, λ n some. refl)).1
