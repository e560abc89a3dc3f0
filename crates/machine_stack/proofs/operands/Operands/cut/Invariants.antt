use Rattle.std.proofs.Common.{◌≡◌, ◌-◌, length, drop}
use Rattle.machine_stack.proofs.operands.Operands.cut.Given as goal

-- the lowest operands are still the same
abbrev pub invariant-above : goal.invariant-above
invariant-above l = drop (length l.self - l.height) l.self ≡ drop (length l.fn.self - l.height) l.fn.self

abbrev pub decreases-above : goal.decreases-above
decreases-above l = length l.self
