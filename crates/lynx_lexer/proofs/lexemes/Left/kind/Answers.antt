use Rattle.std.proofs.Common.{sym}
use Rattle.lynx_lexer.proofs.Placed.{stands_first}
use Rattle.lynx_lexer.proofs.lexemes.Left.kind.Goals as goal

pub kind_at-requires : goal.kind_at-requires
kind_at-requires c = stands_first c.self.inside.source.now c.in-Some.lexeme.now c.self.inside.rest.now (sym c.in-Some.ensures.value) c.self.invariant
