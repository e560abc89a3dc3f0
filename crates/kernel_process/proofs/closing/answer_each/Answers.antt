-- Where there are none, nothing changes.
use Rattle.kernel_process.proofs.Closes.{is_empty-none, join_answers-none}
use Rattle.kernel_process.proofs.closing.answer_each.Goals as goal

pub returns-else-not-is_empty-clause-part : goal.returns-else-not-is_empty-clause-part
returns-else-not-is_empty-clause-part c = λ s t. join_answers-none c.args.answers.now.items _ (is_empty-none c.args.answers.now.items _ _ c.is_empty.ensures c.if-not-is_empty.false c.args.answers.now.ok.0)
