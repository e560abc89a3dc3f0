use Rattle.std.proofs.Common.{ap, length, arith}
use Rattle.lynx_lexer.proofs.Placed.{stands_at}
use Rattle.lynx_lexer.proofs.lexemes.Lexemes.tokens.Goals as goal

pub kind_at-requires : goal.kind_at-requires
kind_at-requires c =
    rw c.as_slice-all.ensures.value (stands_at c.self.inside.source.now c.self.inside.all.items c.loop-lexeme.lexeme-index _
    (omega (arith, c.loop-lexeme-test.true, c.loop-lexeme.auto.lexeme-index-end, ap length c.as_slice-all.ensures.value)) c.self.invariant)
