-- the links before this one are wired
use Rattle.std.proofs.Common.{◌≡◌}
use Rattle.kernel_start.specs.Wired.{HasWired}
use Rattle.kernel_start.proofs.start.wire_each.Given as goal

abbrev pub invariant-loop-index : goal.invariant-loop-index
invariant-loop-index l = record { wired : HasWired l.setting l.index l.wiring; kernel : l.wiring.table.kernel ≡ l.id }
