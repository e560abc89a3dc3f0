use Rattle.std.proofs.Common.{◌≡◌, ◌+◌, ◌++◌, drop}
use Rattle.lynx_code.specs.Listing.{lines_text}
use Rattle.lynx_code.proofs.texts.push_lines.Given as goal

-- what is written and what is left to write are the whole
abbrev pub invariant-loop-instruction : goal.invariant-loop-instruction
invariant-loop-instruction l = record {
  address : l.address ≡ l.start + l.instruction-index;
  whole : l.out.items ++ lines_text l.address (drop l.instruction-index l.instructions) ≡ l.fn.out.items ++ lines_text l.start l.instructions;
}
