use Rattle.std.proofs.Common.{◌≡◌, map, take}
use Rattle.lynx_code.specs.Told.{op_told}
use Rattle.lynx_code.proofs.copies.copy_ops.Given as goal

-- those so far are told alike
abbrev pub invariant-loop-op : goal.invariant-loop-op
invariant-loop-op l = map op_told l.copies.items ≡ map op_told (take l.op-index l.ops)
