-- A Cancel ends by its way.
use Rattle.std.proofs.Common.{ap, sym, ◌∙◌}
use Rattle.kernel_core.specs.Finishing.{ending_of}
use Rattle.kernel_core.proofs.calling.ending_of.Goals as goal

pub returns-in-Cancel : goal.returns-in-Cancel
returns-in-Cancel c = c.ending_of_cancel.ensures c.args.kernel c.args.made c.in-Cancel.on ∙ ap (ending_of c.args.kernel c.args.made) (sym c.in-Cancel.is)
