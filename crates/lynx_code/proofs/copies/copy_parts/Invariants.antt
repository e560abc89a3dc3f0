use Rattle.std.proofs.Common.{◌≡◌, map, take}
use Rattle.lynx_code.specs.Told.{part_told}
use Rattle.lynx_code.proofs.copies.copy_parts.Given as goal

-- those so far are told alike
abbrev pub invariant-loop-part : goal.invariant-loop-part
invariant-loop-part l = map part_told l.copies.items ≡ map part_told (take l.part-index l.parts)
