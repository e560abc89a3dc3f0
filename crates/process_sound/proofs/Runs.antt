-- Steps keep what holds of a process.
use Rattle.std.proofs.Common.{arith, ◌≡◌, ⊎_elim, ℕ, zero, suc, ◌+◌, ◌≤◌, Bool, true, false, List, [], ◌∷◌, Option, Some, refl, sym, ap, subst}
use Rattle.std.specs.List.{list_any}
use Rattle.charlotte_calls.specs.declared.calls.Answer.{Answer}
use Rattle.code_shapes.specs.Shapes.{program}
use Rattle.lynx_meaning.specs.Courses.{Action}
use Rattle.lynx_meaning.specs.Courses as actions
use Rattle.lynx_meaning.specs.Needs.{wanted_by}
use Rattle.machine_requests.specs.Open.{open_of}
use Rattle.machine_requests.specs.Heard.{AreHeard}
use Rattle.machine_requests.proofs.Beats.{KeepsBeat, beats_come}
use Rattle.machine_sound.specs.Sound.{AreSound, one_if, times}
use Rattle.machine_sound.proofs.Placing.{decided}
use Rattle.machine_turns.specs.Turns.{Act, Beat, RunsOn, Stop, Stops, Turns, is_ready_after, most_beats, run}
use Rattle.machine_turns.specs.Turns as turns
use Rattle.process_run.specs.States.{Asked, Done, State}
use Rattle.process_run.specs.States as process
use Rattle.process_run.specs.Actions.{acts}
use Rattle.process_run.specs.Reports.{answered}
use Rattle.process_run.specs.Runs.{Did, exits, finishes, goes_on, is_in_use, machine_run, most_actions, most_instructions, pauses, proceeds, settles, step, stopped, unless_over, waits as waits_next, with_deeds}
use Rattle.process_sound.specs.Acting.{IsActing, owed_for}
use Rattle.process_sound.specs.Ends.{waits}
use Rattle.process_sound.specs.Machine.{asks}
use Rattle.process_sound.specs.Processes.{IsFor, IsGoing, IsRunning}
use Rattle.process_sound.specs.Told.{IsTold}
use Rattle.process_sound.proofs.Actions.{acts_going}
use Rattle.process_sound.proofs.Answers.{answered_going}
use Rattle.process_sound.proofs.Beating.{AllWait, KeepsAsking, StayAsking, run_asks}
use Rattle.process_sound.proofs.Calls.{calls_running}
use Rattle.process_sound.proofs.Staying.{ends_stay}
use Rattle.process_sound.proofs.Threads.{asks_of}
use Rattle.process_sound.proofs.Times.{never_other, once_itself}

-- ---- the machine stopped so

-- with these turns
abbrev pub with_turns : Turns → State → State
with_turns t s = record s { turns = t }

-- what holds where the machine stopped
abbrev pub IsStoppedSo : State → Beat → Type 0
IsStoppedSo s (RunsOn left t) = Unit {0}
IsStoppedSo s (Stops (Act n a) left t) = IsActing n a (with_turns t s)
IsStoppedSo s (Stops stop left t) = IsGoing [] (with_turns t s)
IsStoppedSo s turns.Broken = Unit {0}

turns_going : (s : State) (u : Turns) → AreSound s.code.types s.code.parts s.code.instructions u → AreHeard (program s.code.types s.code.instructions) u → StayAsking s.places s.turns u → IsGoing [] s → IsGoing [] (with_turns u s)
turns_going s u sound heard stay is = record {
  version = is.version;
  code = is.code;
  process = record { sound = sound; parts = is.process.parts; heard = heard; lists = is.process.lists };
  ends = ends_stay s.code s.turns u s.version [] s.places (λ n some. stay n (omega (arith, some))) is.ends;
}

-- a thread that has to wait, and waits at no end yet
owes : (n : ℕ) (s : State) → waits n s.places ≡ 0 → is_ready_after (asks n s.turns) ≡ true → IsGoing [] s → IsGoing (n ∷ []) s
owes n s none blocked is = record {
  version = is.version;
  code = is.code;
  process = is.process;
  ends = record { each = is.ends.each; once = once };
}
  where
    here : waits n s.places + times n (n ∷ []) ≤ one_if (is_ready_after (asks n s.turns))
    here = let one = once_itself n in let may : one_if (is_ready_after (asks n s.turns)) ≡ 1 = ap one_if blocked in omega (arith, none, one, may)

    once : (k : ℕ) → waits k s.places + times k (n ∷ []) ≤ one_if (is_ready_after (asks k s.turns))
    once k =
        ⊎_elim
        (λ (e : k ≡ n). subst (λ i. waits i s.places + times i (n ∷ []) ≤ one_if (is_ready_after (asks i s.turns))) (sym e) here)
        (λ (e : k ≡ n → ⊥). let other = never_other k n e in let was = is.ends.once k in omega (arith, other, was))
        (decided k n)

acting_going : (n : ℕ) (a : Action) (s : State) → waits n s.places ≡ 0 → asks n s.turns ≡ Some (wanted_by a) → IsGoing [] s → IsGoing (owed_for n a) s
acting_going n (actions.Connect link op vs) s none wants is = owes n s none (ap is_ready_after wants) is
acting_going n (actions.Accept link op) s none wants is = owes n s none (ap is_ready_after wants) is
acting_going n _ s none wants is = is

-- what holds of its beats
module _ (s : State) (is : IsGoing [] s) where
  abbrev Kept : Beat → Type 0
  Kept b = KeepsBeat s.code.types s.code.parts s.code.instructions (λ k. open_of s.code.instructions k s.turns) b

  stops_so : (b : Beat) → Kept b → KeepsAsking s.places s.turns b → IsStoppedSo s b
  stops_so (RunsOn left u) kept keeps = tt
  stops_so (Stops turns.Spent left u) kept keeps = turns_going s u kept.0.sound kept.0.heard keeps is
  stops_so (Stops (Act n a) left u) kept keeps =
      let wants = asks_of n (wanted_by a) u keeps.2 in
      record {
        going = acting_going n a (with_turns u s) keeps.1 wants (turns_going s u kept.0.sound kept.0.heard keeps.0 is);
        asking = wants;
        requests = open_of s.code.instructions n u;
        of_module = kept.1;
      }
  stops_so (Stops turns.AllBlocked left u) kept keeps = turns_going s u kept.0.sound kept.0.heard keeps is
  stops_so (Stops turns.Finished left u) kept keeps = turns_going s u kept.0.sound kept.0.heard keeps is
  stops_so turns.Broken kept keeps = tt

  all_wait : AllWait s.places s.turns
  all_wait n = let once = is.ends.once n in omega (arith, once)

  pub run_stops : (fuel : ℕ) → IsStoppedSo s (machine_run fuel s)
  run_stops fuel =
      let p = program s.code.types s.code.instructions in
      stops_so (machine_run fuel s)
      (beats_come s.code.types s.code.parts s.code.instructions (most_beats fuel) fuel s.turns (run p fuel s.turns) is.process.sound is.process.heard refl)
      (run_asks s.code.types s.code.parts s.code.instructions s.places fuel s.turns is.process.sound all_wait)

-- ---- what a step leaves

exits_running : (s : State) → IsGoing [] s → IsRunning (exits s).state
exits_running s is = record { going = record { version = is.version; code = is.code; process = is.process; ends = is.ends }; asked = tt }

pauses_running : (s : State) → IsGoing [] s → IsRunning (pauses s).state
pauses_running s is = record { going = record { version = is.version; code = is.code; process = is.process; ends = is.ends }; asked = tt }

waits_running : (s : State) → IsGoing [] s → IsRunning (waits_next s).state
waits_running s is = record { going = record { version = is.version; code = is.code; process = is.process; ends = is.ends }; asked = tt }

finishes_running : (b : Bool) (s : State) → IsGoing [] s → IsRunning (finishes b s).state
finishes_running true s is = waits_running s is
finishes_running false s is = exits_running s is

unless_running : (b : Bool) (s : State) (next : State → Did) → IsGoing [] s → (b ≡ false → IsRunning (next s).state) → IsRunning (unless_over b s next).state
unless_running true s next is each = exits_running s is
unless_running false s next is each = each refl

module _ (s : State) (next : ℕ → Done → Did) (each : (left : ℕ) (d : Done) → IsGoing [] d.state → IsRunning (next left d).state) where
  make_running : (n left : ℕ) (t : Turns) → IsActing n actions.New (with_turns t s) → IsRunning (stopped (Stops (Act n actions.New) left t) s next).state
  make_running n left t is = record {
    going = record { version = is.going.version; code = is.going.code; process = is.going.process; ends = is.going.ends };
    asked = is.asking;
  }

  print_running : (n left : ℕ) (bytes : List ℕ) (t : Turns) → IsActing n (actions.Write bytes) (with_turns t s) → IsRunning (stopped (Stops (Act n (actions.Write bytes)) left t) s next).state
  print_running n left bytes t is = record {
    going = record { version = is.going.version; code = is.going.code; process = is.going.process; ends = is.going.ends };
    asked = is.asking;
  }

  acting_running : (n left : ℕ) (a : Action) (t : Turns) → IsActing n a (with_turns t s) → IsRunning (stopped (Stops (Act n a) left t) s next).state
  acting_running n left actions.New t is = make_running n left t is
  acting_running n left (actions.Write bytes) t is = print_running n left bytes t is
  acting_running n left (actions.Destroy link) t is = each left (acts n (actions.Destroy link) (with_turns t s)) (acts_going n (actions.Destroy link) (with_turns t s) (λ e. cc) is)
  acting_running n left (actions.Bind link entry) t is = each left (acts n (actions.Bind link entry) (with_turns t s)) (acts_going n (actions.Bind link entry) (with_turns t s) (λ e. cc) is)
  acting_running n left (actions.Unbind link entry) t is = each left (acts n (actions.Unbind link entry) (with_turns t s)) (acts_going n (actions.Unbind link entry) (with_turns t s) (λ e. cc) is)
  acting_running n left (actions.Connect link op vs) t is = each left (acts n (actions.Connect link op vs) (with_turns t s)) (acts_going n (actions.Connect link op vs) (with_turns t s) (λ e. cc) is)
  acting_running n left (actions.Accept link op) t is = each left (acts n (actions.Accept link op) (with_turns t s)) (acts_going n (actions.Accept link op) (with_turns t s) (λ e. cc) is)
  acting_running n left actions.Close t is = each left (acts n actions.Close (with_turns t s)) (acts_going n actions.Close (with_turns t s) (λ e. cc) is)
  acting_running n left (actions.Reply vs) t is = each left (acts n (actions.Reply vs) (with_turns t s)) (acts_going n (actions.Reply vs) (with_turns t s) (λ e. cc) is)
  acting_running n left actions.Await t is = each left (acts n actions.Await (with_turns t s)) (acts_going n actions.Await (with_turns t s) (λ e. cc) is)
  acting_running n left actions.Stop t is = each left (acts n actions.Stop (with_turns t s)) (acts_going n actions.Stop (with_turns t s) (λ e. cc) is)

  stopped_running : (b : Beat) → IsGoing [] s → IsStoppedSo s b → IsRunning (stopped b s next).state
  stopped_running (RunsOn left t) is so = pauses_running s is
  stopped_running (Stops turns.Spent left t) is so = pauses_running (with_turns t s) so
  stopped_running (Stops (Act n a) left t) is so = acting_running n left a t so
  stopped_running (Stops turns.AllBlocked left t) is so = calls_running (with_turns t s) waits_next so (λ now none. waits_running _ now)
  stopped_running (Stops turns.Finished left t) is so =
      calls_running (with_turns t s) (λ now. finishes (list_any (λ p. is_in_use p.holding) now.places) now) so (λ now none. finishes_running _ _ now)
  stopped_running turns.Broken is so = pauses_running s is

pub goes_on_running : (k fuel : ℕ) (s : State) → IsGoing [] s → IsRunning (goes_on k fuel s).state
goes_on_running zero fuel s is =
    calls_running s (λ t. unless_over t.over t pauses) is (λ now none. unless_running (settles s).over (settles s) pauses now (λ on. pauses_running (settles s) now))
goes_on_running (suc k) fuel s is =
    calls_running s (λ t. unless_over t.over t (λ u. stopped (machine_run fuel u) u (λ left d. with_deeds d.deeds (goes_on k left d.state)))) is
    (λ now none. unless_running (settles s).over (settles s) (λ u. stopped (machine_run fuel u) u (λ left d. with_deeds d.deeds (goes_on k left d.state))) now
    (λ on. stopped_running (settles s) (λ left d. with_deeds d.deeds (goes_on k left d.state)) (λ left d going. goes_on_running k left d.state going)
    (machine_run fuel (settles s)) now (run_stops (settles s) now fuel)))

-- ---- steps

proceeds_running : (s : State) (given : Option Answer) (a : Asked) → IsFor a s.turns → IsTold given → IsRunning s → IsRunning (proceeds a (answered a given s)).state
proceeds_running s given process.Exit for told is = is
proceeds_running s given process.Nothing for told is = goes_on_running (most_actions s) most_instructions s is.going
proceeds_running s given process.Destroy for told is = goes_on_running (most_actions s) most_instructions s is.going
proceeds_running s given (process.Make n) for told is =
    let d = answered (process.Make n) given s in goes_on_running (most_actions d.state) most_instructions d.state (answered_going s is.going (process.Make n) given for told)
proceeds_running s given (process.Print n) for told is =
    let d = answered (process.Print n) given s in goes_on_running (most_actions d.state) most_instructions d.state (answered_going s is.going (process.Print n) given for told)
proceeds_running s given (process.Send n) for told is =
    let d = answered (process.Send n) given s in goes_on_running (most_actions d.state) most_instructions d.state (answered_going s is.going (process.Send n) given for told)
proceeds_running s given (process.Receive n) for told is =
    let d = answered (process.Receive n) given s in goes_on_running (most_actions d.state) most_instructions d.state (answered_going s is.going (process.Receive n) given for told)
proceeds_running s given (process.Cancel n) for told is =
    let d = answered (process.Cancel n) given s in goes_on_running (most_actions d.state) most_instructions d.state (answered_going s is.going (process.Cancel n) given for told)
proceeds_running s given process.Wait for told is =
    let d = answered process.Wait given s in goes_on_running (most_actions d.state) most_instructions d.state (answered_going s is.going process.Wait given for told)

-- A step keeps it, whatever the kernel answers.
pub step_running : (s : State) (given : Option Answer) → IsTold given → IsRunning s → IsRunning (step s given).1
step_running s given told is = proceeds_running s given s.asked is.asked told is
