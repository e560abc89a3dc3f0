use Rattle.std.proofs.Common.{◌≡◌, map, take}
use Rattle.lynx_lexer.specs.Lexemes.{token_of}
use Rattle.lynx_lexer.proofs.lexemes.Lexemes.tokens.Given as goal

-- the tokens at the places so far
abbrev pub invariant-loop-lexeme : goal.invariant-loop-lexeme
invariant-loop-lexeme l = l.tokens.items ≡ map (token_of l.source) (take l.lexeme-index l.all)
