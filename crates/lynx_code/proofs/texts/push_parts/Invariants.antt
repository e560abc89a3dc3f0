use Rattle.std.proofs.Common.{◌≡◌, ◌++◌, drop}
use Rattle.lynx_code.specs.Listing.{parts_in, parts_text}
use Rattle.lynx_code.proofs.texts.push_parts.Given as goal

-- what is written and what is left to write are the whole
abbrev pub invariant-loop-index : goal.invariant-loop-index
invariant-loop-index l = l.out.items ++ parts_text (parts_in l.instructions (drop l.index l.parts)) ≡ l.fn.out.items ++ parts_text (parts_in l.instructions l.parts)
