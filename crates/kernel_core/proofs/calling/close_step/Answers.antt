-- The step is all that the event adds.
use Rattle.std.proofs.Common.{length, sym, subst}
use Rattle.end_table.specs.Table.{entries}
use Rattle.kernel_core.proofs.Begun.{step-answers, step-closes, step-reports}
use Rattle.kernel_process.specs.Closing.{HaveSpareFor}
use Rattle.kernel_process.specs.Steady.{TakesAtMost}
use Rattle.kernel_sound.specs.Sound.{AreFor}
use Rattle.kernel_core.proofs.calling.close_step.Goals as goal

pub close-requires-clause-reports : goal.close-requires-clause-reports
close-requires-clause-reports c =
    subst (AreFor (length c.args.state.now.processes)) (sym (step-reports (entries c.args.state.now.table) c.args.meant c.args.state.now.event.work _ (c.push_step.ensures.part (entries c.args.state.now.table)) c.requires.reports)) tt

pub close-requires-clause-answers : goal.close-requires-clause-answers
close-requires-clause-answers c =
    subst (AreFor (length c.args.state.now.processes)) (sym (step-answers (entries c.args.state.now.table) c.args.meant c.args.state.now.event.work _ (c.push_step.ensures.part (entries c.args.state.now.table)) c.requires.answers)) tt

pub close-requires-clause-spare : goal.close-requires-clause-spare
close-requires-clause-spare c =
    subst (λ rs. HaveSpareFor rs c.args.state.now.processes) (sym (step-reports (entries c.args.state.now.table) c.args.meant c.args.state.now.event.work _ (c.push_step.ensures.part (entries c.args.state.now.table)) c.requires.reports)) tt

pub close-requires-clause-room : goal.close-requires-clause-room
close-requires-clause-room c =
    step-closes 0 0 c.args.state.now.event c.push_step.new.out
    (step-reports (entries c.args.state.now.table) c.args.meant c.args.state.now.event.work _ (c.push_step.ensures.part (entries c.args.state.now.table)) c.requires.reports)
    (step-answers (entries c.args.state.now.table) c.args.meant c.args.state.now.event.work _ (c.push_step.ensures.part (entries c.args.state.now.table)) c.requires.answers)
    c.push_step.ensures.room c.requires.closes

pub returns-clause-kept : goal.returns-clause-kept
returns-clause-kept c =
    subst (λ rs. TakesAtMost (length rs) c.args.state.now.processes c.close.new.processes)
    (step-reports (entries c.args.state.now.table) c.args.meant c.args.state.now.event.work _ (c.push_step.ensures.part (entries c.args.state.now.table)) c.requires.reports) c.close.ensures.kept

pub returns-clause-places : goal.returns-clause-places
returns-clause-places c = λ a s room.
    c.close.ensures.places a s (step-closes a s c.args.state.now.event c.push_step.new.out
    (step-reports (entries c.args.state.now.table) c.args.meant c.args.state.now.event.work _ (c.push_step.ensures.part (entries c.args.state.now.table)) c.requires.reports)
    (step-answers (entries c.args.state.now.table) c.args.meant c.args.state.now.event.work _ (c.push_step.ensures.part (entries c.args.state.now.table)) c.requires.answers)
    c.push_step.ensures.room room)
