use Rattle.std.proofs.Common.{◌≡◌, take}
use Rattle.lynx_lexer.specs.Pieces.{decimal}
use Rattle.lynx_lexer.proofs.front.number.Given as goal

-- the value so far
abbrev pub invariant-loop-digit : goal.invariant-loop-digit
invariant-loop-digit l = l.value ≡ decimal (take l.digit-index l.digits)
