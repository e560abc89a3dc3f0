-- The report is told, and the answer stands.
use Rattle.std.proofs.Common.{[], ap, ◌∙◌}
use Rattle.charlotte_calls.specs.declared.calls.Answer.TheVariants as answer
use Rattle.end_table.specs.Table.{entries}
use Rattle.kernel_process.proofs.Closes.{answers_wait-told}
use Rattle.kernel_process.specs.Parts.{ended, with_parts}
use Rattle.kernel_step.specs.Kernel.{stands}
use Rattle.kernel_process.proofs.closing.answer_wait.Goals as goal

pub returns-clause-part : goal.returns-clause-part
unfolding ended
returns-clause-part c =
    λ s. c.stand.ensures.part s (entries c.tell.new.table)
    ∙ ap (stands c.args.p (answer.Reported c.args.report)) (c.tell.ensures.part s c.args.processes.now [])
    ∙ answers_wait-told c.args.p c.args.report (ended (with_parts (entries c.args.table.now) c.args.processes.now s) c.args.effect.now)
