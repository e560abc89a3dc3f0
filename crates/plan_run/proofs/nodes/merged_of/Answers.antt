use Rattle.plan_run.proofs.Journals.{merge-of}
use Rattle.plan_run.proofs.nodes.merged_of.Goals as goal

pub returns : goal.returns
returns g c = merge-of c.args.nodes.items c.in_ok-journals.journals.items c.in_ok-of_journals.field-0 c.in_ok-journals.ensures c.in_ok-of_journals.ensures.merge
