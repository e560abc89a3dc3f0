-- The service goes with one event.
use Rattle.std.proofs.Common.{◌≡◌, ℕ, ◌+◌, List, map}
use Rattle.charlotte_calls.specs.declared.calls.ServiceStep.{ServiceStep}
use Rattle.kernel_world.specs.World.{World, Event, happens, outcome}
use Rattle.service_step.specs.Run.{IsRunFrom, state_after}
use Rattle.service_step.specs.State.{State}
use Rattle.theorem_meaning.specs.Invariant.{Invariant}

-- the service goes with an event, and what is true of every world is true afterwards
pub record Goes (i : ℕ) (w : World) (s : State) (e : Event) : Type 0 where
  pub part : List (ServiceStep × State)
  pub steps : map (λ made. made.0) part ≡ (outcome w e).steps
  pub run : IsRunFrom s part
  pub after : Invariant (i + 1) (happens w e) (state_after s part)
  pub homes : (state_after s part).homes ≡ s.homes
