use Rattle.std.proofs.Common.{◌≡◌, ◌≤◌, length, take}
use Rattle.std.specs.Prelude.{vec_len, vec_capacity}
use Rattle.lynx_code.proofs.copies.copy_instructions.Given as goal

-- those so far are there, with room for all
abbrev pub invariant-loop-instruction : goal.invariant-loop-instruction
invariant-loop-instruction l =
    (l.copies.items ≡ take l.instruction-index l.instructions) × (vec_len l.copies ≡ l.instruction-index) × (length l.instructions ≤ vec_capacity l.copies)
