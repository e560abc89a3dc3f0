use Rattle.std.proofs.Common.{◌≡◌, map, take}
use Rattle.lynx_lexer.specs.Lexemes.{lexeme_of}
use Rattle.lynx_lexer.proofs.lexemes.Lexemes.of_tokens.Given as goal

-- the places of the tokens so far
abbrev pub invariant-loop-token : goal.invariant-loop-token
invariant-loop-token l = l.all.items ≡ map lexeme_of (take l.token-index l.tokens)
