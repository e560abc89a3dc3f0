use Rattle.std.proofs.Common.{◌≡◌, ◌++◌, drop}
use Rattle.transcript_items.specs.Texts.{filled}
use Rattle.transcript_items.proofs.texts.fill.Given as goal

abbrev pub invariant-loop-byte : goal.invariant-loop-byte
invariant-loop-byte l = l.out.items ++ filled (drop l.byte-index l.text) l.left ≡ l.fn.out.items ++ filled l.text l.fn.numbers
