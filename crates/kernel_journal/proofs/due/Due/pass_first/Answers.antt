use Rattle.std.proofs.Common.{◌∙◌}
use Rattle.kernel_journal.proofs.Left.{others_left}
use Rattle.kernel_journal.proofs.due.Due.pass_first.Goals as goal

pub returns : goal.returns
returns c s others e = others_left c.self.inside.shown c.self.inside.steps.items s others (c.self.view_is ∙ e)
