use Rattle.std.proofs.Common.{◌≡◌, length}
use Rattle.std.specs.List.{flat_map}
use Rattle.end_protocol.specs.Falling.{own_ends}
use Rattle.process_run.specs.Ends.{holds_again}
use Rattle.lynx_rt.proofs.process.Running.hold_queue.Given as goal

abbrev pub invariant-loop-message : goal.invariant-loop-message
invariant-loop-message l = holds_again (flat_map own_ends l.queue) l.self ≡ holds_again (flat_map own_ends l.initial.queue) l.initial.self

abbrev pub decreases-loop-message : goal.decreases-loop-message
decreases-loop-message l = length l.queue
