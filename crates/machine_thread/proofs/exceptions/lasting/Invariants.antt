use Rattle.std.proofs.Common.{◌≡◌, drop, map}
use Rattle.machine_thread.specs.Closes.{lasting}
use Rattle.machine_thread.specs.Told.{outcome_of}
use Rattle.machine_thread.proofs.exceptions.lasting.Given as goal

-- the outcomes that are left lead to the same exception
abbrev pub invariant-loop-outcome : goal.invariant-loop-outcome
invariant-loop-outcome l = lasting l.last (map outcome_of (drop l.outcome-index l.given)) ≡ lasting l.fn.exception (map outcome_of l.given)
