-- The laws of the service's steps that the invariant stands on, as they are stated in `service_custody`.
use Rattle.std.specs.Prelude.{◌≡◌, false}
use Rattle.charlotte_calls.specs.Names.{opposite}
use Rattle.charlotte_calls.specs.declared.calls.ServiceStep.{ServiceStep}
use Rattle.charlotte_calls.specs.declared.names.EndId.{EndId}
use Rattle.service_step.specs.State.{State}
use Rattle.service_step.specs.Steps.{IsServiceStep}
use Rattle.service_lawful.specs.Consistent.{IsConsistent}
use Rattle.service_streams.specs.Streams.{cancels_send}
use Rattle.run_invariant.specs.Coming.{AreMatched, ComesSo}
use Rattle.run_invariant.specs.Deaths.{AreDeathsTrue, AreReceives}
use Rattle.run_invariant.specs.Moves.{Moves}
use Rattle.run_invariant.specs.Phases.{ArePhases}

pub record Laws : Type 0 where
  pub matches_stay : (s : State) (made : ServiceStep) (t : State) → IsConsistent s → AreMatched s → IsServiceStep s made t → AreMatched t
  pub messages_come_in_order : (s : State) (made : ServiceStep) (t : State) (x : EndId) → IsConsistent s → AreMatched s → cancels_send (opposite x) made ≡ false
      → IsServiceStep s made t → ComesSo s made t x
  pub each_end_moves : (s : State) (made : ServiceStep) (t : State) (x : EndId) → IsConsistent s → ((e : EndId) → cancels_send e made ≡ false)
      → IsServiceStep s made t → Moves s made t x
  pub processes_go_on : (s : State) (made : ServiceStep) (t : State) → IsConsistent s → IsServiceStep s made t → ArePhases s made t
  pub deaths_are_true : (s : State) (made : ServiceStep) (t : State) → IsConsistent s → IsServiceStep s made t → AreDeathsTrue s made t
  pub receives_are_told : (s : State) (made : ServiceStep) (t : State) → IsConsistent s → IsServiceStep s made t → AreReceives s made t
