use Rattle.end_table.specs.Message.{outward_of}
use Rattle.end_table.specs.declared.entry.Entry.TheVariants.{Here}
use Rattle.kernel_step.proofs.Steps.{progress-IfHere, kept-IfHere}
use Rattle.kernel_step.proofs.ends.keep_sending.Goals as goal

pub returns-clause-part : goal.returns-clause-part
returns-clause-part c = progress-IfHere _ _ c.args.on (λ v. Here (record v { value = c.args.value; outward = outward_of c.args.sending })) c.set_sending.ensures

pub returns-clause-kept : goal.returns-clause-kept
returns-clause-kept c = kept-IfHere _ _ c.args.on (λ v. Here (record v { value = c.args.value; outward = outward_of c.args.sending })) c.requires.here c.set_sending.ensures
