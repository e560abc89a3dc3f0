use Rattle.std.proofs.Common.{string_bytes}
use Rattle.lynx_outside.proofs.Readings.{Read}
use Rattle.lynx_outside.proofs.words.read_words.Given as goal

abbrev pub invariant-loop-number : goal.invariant-loop-number
invariant-loop-number g l = Read string_bytes (g.W.Words.told l.host) l.words.items l.number
