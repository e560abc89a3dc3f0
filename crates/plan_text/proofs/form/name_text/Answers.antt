use Rattle.plan_text.proofs.Names.{name_is_text}
use Rattle.plan_text.proofs.form.name_text.Goals as goal

pub unreachable-requires : goal.unreachable-requires
unreachable-requires c = c.in_default.ensures.cases.0 (name_is_text c.args.name.now c.requires)
