-- so many processes were made, and no one has made a call
use Rattle.std.proofs.Common.{◌≡◌, length, All}
use Rattle.kernel_process.specs.Fresh.{IsFresh}
use Rattle.kernel_process.proofs.process.fresh_blocks.Given as goal

abbrev pub invariant-loop-number : goal.invariant-loop-number
invariant-loop-number l = record { count : length l.blocks.items ≡ l._number; fresh : All IsFresh l.blocks.items }
