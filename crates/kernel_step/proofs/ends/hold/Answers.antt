use Rattle.end_table.specs.declared.entry.Entry.TheVariants.{Here}
use Rattle.kernel_step.proofs.Steps.{IsHere-idle, held-set, kept-IfHere}
use Rattle.kernel_step.proofs.ends.hold.Goals as goal

pub set_holder-requires : goal.set_holder-requires
set_holder-requires c = IsHere-idle _ c.requires.idle

pub returns-clause-part : goal.returns-clause-part
returns-clause-part c = λ out. held-set _ _ c.args.end c.args.holder _ out (IsHere-idle _ c.requires.idle) c.set_holder.ensures.own c.set_holder.ensures.set

pub returns-clause-kept : goal.returns-clause-kept
returns-clause-kept c = kept-IfHere _ _ c.args.end (λ v. Here (record v { holder = c.args.holder })) (IsHere-idle _ c.requires.idle) c.set_holder.ensures.set
