use Rattle.std.proofs.Common.{◌∙◌}
use Rattle.process_ends.proofs.Members.{grows_but, fewer}
use Rattle.process_ends.proofs.sets.discard.Goals as goal

pub returns-clause-others : goal.returns-clause-others
returns-clause-others c = grows_but _ _ _ c.remove.ensures.updates

pub returns-clause-fewer : goal.returns-clause-fewer
returns-clause-fewer c = λ is. fewer _ _ _ (c.remove.ensures.test ∙ is) c.remove.ensures.len
