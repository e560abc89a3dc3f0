use Rattle.lynx_lexer.proofs.Placed.{stand_within}
use Rattle.lynx_lexer.proofs.lexemes.Left.advance.Goals as goal

pub invariant_of-self : goal.invariant_of-self
invariant_of-self c = stand_within c.self.inside.source.now c.self.inside.rest.now _ c.self.invariant
