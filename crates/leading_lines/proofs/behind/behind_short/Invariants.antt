use Rattle.std.proofs.Common.{◌≡◌, ◌++◌, take}
use Rattle.leading_lines.proofs.behind.behind_short.Given as goal

abbrev pub invariant-loop-byte : goal.invariant-loop-byte
invariant-loop-byte l = l.text ≡ take l.byte-index l.word ++ l.rest
