use Rattle.lynx_lexer.specs.Lexemes.{bytes_between}
use Rattle.lynx_lexer.proofs.Placed.{number_digits}
use Rattle.lynx_lexer.proofs.lexeme.kind_at.Goals as goal

pub number_within-requires-clause-digits : goal.number_within-requires-clause-digits
number_within-requires-clause-digits c =
    rw c.bytes_between-text.ensures (number_digits (bytes_between c.args.source.now c.args.lexeme.from c.args.lexeme.to) c.args.lexeme.shape c.in-Number.is c.requires.spelling)
