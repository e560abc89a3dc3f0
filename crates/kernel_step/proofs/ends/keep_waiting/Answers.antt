use Rattle.end_table.specs.declared.entry.Entry.TheVariants.{Here}
use Rattle.end_table.specs.declared.entry.Outward.TheVariants.{Waiting}
use Rattle.kernel_step.proofs.Steps.{progress-IfHere, kept-IfHere}
use Rattle.kernel_step.proofs.ends.keep_waiting.Goals as goal

pub returns-clause-part : goal.returns-clause-part
returns-clause-part c = progress-IfHere _ _ c.args.on (λ v. Here (record v { value = c.args.value; outward = Waiting c.args.n c.args.bytes c.args.enclosed })) c.wait.ensures

pub returns-clause-kept : goal.returns-clause-kept
returns-clause-kept c = kept-IfHere _ _ c.args.on (λ v. Here (record v { value = c.args.value; outward = Waiting c.args.n c.args.bytes c.args.enclosed })) c.requires.here c.wait.ensures
