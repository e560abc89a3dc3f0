-- A round of a machine, from what its functions tell.
use Rattle.std.proofs.Common.{◌≡◌, ℕ, suc, ◌+◌, List, Option, Some, None, length, option_map, slice_get, refl, sym, ap, subst, ◌∙◌, ◌≤◌}
use Rattle.std.proofs.lemmas.Option.{slice_get_within}
use Rattle.lynx_code.specs.declared.instruction.Instruction.{Instruction}
use Rattle.lynx_meaning.specs.Code.{Program}
use Rattle.code_shapes.specs.Shapes.{program}
use Rattle.machine_turns.specs.Threads.{Standing, Made, course}
use Rattle.machine_turns.specs.Turns.{Act, Beat, Turns, RunsOn, Stops, beats, comes, most_threads, run, with_thread}
use Rattle.machine_thread.specs.Told.{action_of, told}
use Rattle.machine_thread.specs.declared.action.Action.{Action}
use Rattle.machine_thread.specs.declared.action.Move.{Move}
use Rattle.machine_sound.specs.Sound.{AreSound, StayBlocked, IsStopped}
use Rattle.machine_sound.specs.Taken.{takes_turn}
use Rattle.machine_sound.proofs.Outside.{taken_sound}
use Rattle.machine_sound.proofs.Placing.{get_set}
use Rattle.machine_sound.proofs.Rounds as rounds
use Rattle.machine_sound.proofs.Stopping.{run_stopped}
use Rattle.machine_sound.proofs.Ending.{run_is}
use Rattle.machine_never_stuck.specs.Sound.{IsAction}
use Rattle.machine_requests.specs.Heard.{AreHeard}
use Rattle.machine_requests.specs.Open.{open_of}
use Rattle.machine_requests.proofs.Beats as requests
use Rattle.lynx_interp.specs.Machines.{IsMachine, State}
use Rattle.lynx_interp.specs.Runs.{CanGoOn, Comes, IsAsked, IsOfCode, IsRound, IsTurn, KeepRequests, MayGoOn, Settles, StopsAt, after_turn, stop_of}
use Rattle.lynx_interp.specs.declared.stop.Stop.{Stop}
use Rattle.lynx_interp.specs.declared.stop.Stop.TheVariants as stop

-- all threads are sound where the round led to this
abbrev pub round_of : ℕ → State → Beat → Type 0
round_of fuel before b = rounds.IsRound before.types before.parts before.instructions fuel before.turns b

-- the same machine with other turns
with_turns : (before now : State) → now ≡ record before { turns = now.turns } → IsMachine before → AreSound before.types before.parts before.instructions now.turns → AreHeard (program before.types before.instructions) now.turns → IsMachine now
with_turns before now same is sound heard = subst (λ (s : State). IsMachine s) (sym same) (record { sound = sound; parts = is.parts; heard = heard })

-- what beats of a machine came to
came : (fuel : ℕ) (before : State) (b : Beat) → IsMachine before → Comes (program before.types before.instructions) fuel before.turns b →
    requests.KeepsBeat before.types before.parts before.instructions (requests.opened before.types before.parts before.instructions before.turns) b
came fuel before b is come = requests.beats_come before.types before.parts before.instructions come.0 fuel before.turns b is.sound is.heard come.1

asked_of_code : (before now : State) (over : Stop) → now ≡ record before { turns = now.turns } → requests.IsAsked before.types before.parts before.instructions (stop_of over) now.turns → IsOfCode over now
asked_of_code before now stop.Spent same asked = tt
asked_of_code before now (stop.Act n a) same asked = subst (λ (s : State). IsAction s.types (open_of s.instructions n now.turns) (action_of a)) (sym same) asked
asked_of_code before now stop.AllBlocked same asked = tt
asked_of_code before now stop.Finished same asked = tt

told_round : (fuel left n : ℕ) (before now : State) (action : Option Action) → IsMachine before → now ≡ record before { turns = now.turns } → round_of fuel before (after_turn left n action now.turns) →
    IsRound fuel before (option_map (λ asked. stop.Act n asked) action) left now
told_round fuel left n before now None is same round =
    let kept = came fuel before (RunsOn left now.turns) is round.come in
    record {
      come = round.come;
      asked = tt;
      of_code = tt;
      blocked = round.blocked;
      requests = kept.same;
      less = round.less left now.turns refl;
      machine = with_turns before now same is kept.sound kept.heard;
      same = same;
    }
told_round fuel left n before now (Some a) is same round =
    let kept = came fuel before (Stops (Act n (action_of a)) left now.turns) is round.come in
    record {
      come = round.come;
      asked = round.asked n left (action_of a) now.turns refl;
      of_code = asked_of_code before now (stop.Act n a) same kept.1;
      blocked = round.blocked;
      requests = kept.0.same;
      less = tt;
      machine = with_turns before now same is kept.0.sound kept.0.heard;
      same = same;
    }

-- a run that stops at once
pub stopped_round : (fuel : ℕ) (before : State) (stop : Stop) → IsMachine before → StopsAt fuel before.turns stop → IsRound fuel before (Some stop) fuel before
stopped_round fuel before stop is at = record {
  come = (1, at.stops (program before.types before.instructions));
  asked = at.asked;
  of_code = asked_of_code before before stop refl (came fuel before (Stops (stop_of stop) fuel before.turns) is (1, at.stops (program before.types before.instructions))).1;
  requests = λ n. refl;
  blocked = λ n s there blocked. there;
  less = tt;
  machine = is;
  same = refl;
}

-- the thread that takes its turn can go on
pub taken_goes : (n : ℕ) (before taken : State) → IsMachine before → taken ≡ record before { turns = takes_turn before.turns } → taken.turns.running ≡ Some n → CanGoOn n taken
taken_goes n before taken is takes runs =
    let first : State = record before { turns = takes_turn before.turns } in
    let sound = taken_sound before.types before.parts before.instructions before.turns is.sound in
    subst (λ (s : State). CanGoOn n s) (sym takes)
    (rounds.can_go_on before.types before.parts before.instructions first.turns n sound (ap (λ (s : State). s.turns.running) (sym takes) ∙ runs))

-- after its turn it stands
pub gone_stands : (n fuel left : ℕ) (taken gone : State) (made : Move) → IsTurn n fuel taken gone made left → (s : Standing) × (slice_get gone.turns.threads n ≡ Some (Some s))
gone_stands n fuel left taken gone made turn =
    (turn.1, ap (λ (s : State). slice_get s.turns.threads n) turn.3 ∙ get_set taken.turns.threads n (Some turn.1) (slice_get_within taken.turns.threads n (Some turn.0) turn.2))

module _ (fuel left n : ℕ) (before taken gone now : State) (made : Move) (action : Option Action) (is : IsMachine before) (may : MayGoOn fuel before.turns)
    (takes : taken ≡ record before { turns = takes_turn before.turns }) (runs : taken.turns.running ≡ Some n) (turn : IsTurn n fuel taken gone made left) (settles : Settles n made action gone now) where
  -- the turn was taken in a machine that is the same but for its turns
  same_machine : now ≡ record before { turns = now.turns }
  same_machine =
      settles.0 ∙ ap (λ (s : State). record s { turns = now.turns }) turn.3 ∙ ap (λ (s : State). record s { turns = now.turns }) takes

  pub round_told : IsRound fuel before (option_map (λ asked. stop.Act n asked) action) left now
  round_told =
      let first = takes_turn before.turns in
      let same_turns : taken.turns ≡ first = ap (λ (s : State). s.turns) takes in
      let s = turn.0 in
      let t = turn.1 in
      let j = turn.4.0 in
      let last : Made = told made gone.turns.globals t in
      let runs_first : first.running ≡ Some n = subst (λ (u : Turns). u.running ≡ Some n) same_turns runs in
      let here : slice_get first.threads n ≡ Some (Some s) = subst (λ (u : Turns). slice_get u.threads n ≡ Some (Some s)) same_turns turn.2 in
      let ran : course (program before.types before.instructions) (suc j) fuel first.globals s ≡ (left, last) =
      subst (λ (m : State). course (program m.types m.instructions) (suc j) fuel m.turns.globals s ≡ (left, last)) takes turn.4.1 in
      let gone_turns : gone.turns ≡ with_thread n (Some t) (record first { globals = gone.turns.globals }) =
      ap (λ (m : State). m.turns) turn.3 ∙ ap (λ (u : Turns). with_thread n (Some t) (record u { globals = gone.turns.globals })) same_turns in
      let there : slice_get gone.turns.threads n ≡ Some (Some t) =
      ap (λ (u : Turns). slice_get u.threads n) gone_turns ∙ get_set first.threads n (Some t) (slice_get_within first.threads n (Some s) here) in
      let made_beat : after_turn left n action now.turns ≡ comes left n first last =
      settles.1 left t there
      ∙ ap (λ (u : Turns). comes left n u last) gone_turns
      ∙ rounds.comes_there before.types before.parts before.instructions left n first gone.turns.globals t last runs_first in
      told_round fuel left n before now action is same_machine
      (rounds.round before.types before.parts before.instructions fuel left before.turns n j s last (after_turn left n action now.turns) is.sound may.stands may.fueled runs_first here ran made_beat)

-- ---- a run

-- rounds of a run led here
pub record IsSoFar (fuel : ℕ) (start : State) (left : ℕ) (now : State) : Type 0 where
  pub come : Comes (program start.types start.instructions) fuel start.turns (RunsOn left now.turns)
  pub many : length start.turns.threads ≡ most_threads
  pub blocked : StayBlocked start.turns now.turns
  pub requests : KeepRequests start now
  pub machine : IsMachine now
  pub same : now ≡ record start { turns = now.turns }

pub at_first : (fuel : ℕ) (start : State) → IsMachine start → IsSoFar fuel start fuel start
at_first fuel start is = record { come = (0, refl); many = is.sound.many; blocked = λ n s there blocked. there; requests = λ n. refl; machine = is; same = refl }

-- what a run tells where it stops
pub record IsOver (fuel : ℕ) (start : State) (over : Stop) (left : ℕ) (now : State) : Type 0 where
  pub runs : run (program start.types start.instructions) fuel start.turns ≡ Stops (stop_of over) left now.turns
  pub asked : IsAsked over now.turns
  pub of_code : IsOfCode over now
  pub blocked : StayBlocked start.turns now.turns
  pub requests : KeepRequests start now
  pub machine : IsMachine now
  pub same : now ≡ record start { turns = now.turns }
  pub stopped : IsStopped (stop_of over) left now.turns × (left ≤ fuel)

module _ (fuel left rest : ℕ) (start before now : State) (far : IsSoFar fuel start left before) where
  -- the round was one of the same code
  more : (b : Beat) → Comes (program before.types before.instructions) left before.turns b → Comes (program start.types start.instructions) fuel start.turns b
  more b come =
      let p : Program = program start.types start.instructions in
      let here : beats p come.0 (RunsOn left before.turns) ≡ b = subst (λ (s : State). beats (program s.types s.instructions) come.0 (RunsOn left before.turns) ≡ b) far.same come.1 in
      (far.come.0 + come.0, rounds.beats_on p far.come.0 come.0 (RunsOn fuel start.turns) b left before.turns far.come.1 here)

  same_code : now ≡ record before { turns = now.turns } → now ≡ record start { turns = now.turns }
  same_code same = same ∙ ap (λ (s : State). record s { turns = now.turns }) far.same

  -- the open requests of each thread are as they were at the start
  unchanged : KeepRequests before now → KeepRequests start now
  unchanged same n =
      subst (λ (is : List Instruction). open_of is n now.turns ≡ open_of is n before.turns) (ap (λ (s : State). s.instructions) far.same) (same n) ∙ far.requests n

  pub goes_far : IsRound left before None rest now → IsSoFar fuel start rest now
  goes_far round = record {
    come = more (RunsOn rest now.turns) round.come;
    many = far.many;
    blocked = λ n s there blocked. round.blocked n s (far.blocked n s there blocked) blocked;
    requests = unchanged round.requests;
    machine = round.machine;
    same = same_code round.same;
  }

  pub goes_over : (over : Stop) → IsRound left before (Some over) rest now → IsOver fuel start over rest now
  goes_over over round =
      let come = more (Stops (stop_of over) rest now.turns) round.come in
      record {
        runs = run_is (program start.types start.instructions) fuel come.0 start.turns (stop_of over) rest now.turns far.many come.1;
        asked = round.asked;
        of_code = round.of_code;
        requests = unchanged round.requests;
        blocked = λ n s there blocked. round.blocked n s (far.blocked n s there blocked) blocked;
        machine = round.machine;
        same = same_code round.same;
        stopped = run_stopped (program start.types start.instructions) fuel start.turns come.0 (stop_of over) rest now.turns round.machine.sound.placed come.1;
      }
