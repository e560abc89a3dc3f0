use Rattle.std.proofs.Common.{◌-◌, length, map}
use Rattle.lynx_lexer.specs.Lexemes.{token_of}
use Rattle.lynx_lexer.proofs.Reached.{Reached}
use Rattle.lynx_lexer.proofs.reading.read_lexemes.Given as goal

-- what is read so far
abbrev pub invariant-loop-at : goal.invariant-loop-at
invariant-loop-at l = Reached l.source l.at (map (token_of l.source) l.all.items)

abbrev pub decreases-loop-at : goal.decreases-loop-at
decreases-loop-at l = length l.source - l.at
