-- The first answer comes to stand, and then the others.
use Rattle.std.proofs.Common.{◌∙◌, ap, sym, arith}
use Rattle.kernel_process.proofs.Closes.{drop-same, join_answers-more, join_answers-none, takes-both}
use Rattle.kernel_process.specs.Parts.{ended, with_parts}
use Rattle.kernel_step.specs.Kernel.{join_answers}
use Rattle.kernel_process.proofs.closing.+answer_all.Goals as goal

pub returns-in-Some-clause-part : goal.returns-in-Some-clause-part
returns-in-Some-clause-part t c =
    λ s u. c.answer_all.ensures.part s u
    ∙ join_answers-more c.in-Some.p c.in-Some.answer c.take_first.new.list.items (ended (with_parts u c.args.processes.now s) c.args.effect.now) _ (c.stand.ensures.part s u)
    ∙ ap (λ xs. join_answers xs (ended (with_parts u c.args.processes.now s) c.args.effect.now)) (sym c.in-Some.ensures.items)

pub returns-in-Some-clause-kept : goal.returns-in-Some-clause-kept
returns-in-Some-clause-kept t c = takes-both 0 0 0 _ _ _ (omega arith) c.stand.ensures.kept c.answer_all.ensures.kept

pub returns-in_default-clause-part : goal.returns-in_default-clause-part
returns-in_default-clause-part t c =
    λ s u. join_answers-none c.args.answers.now.items _ (drop-same c.args.answers.now.items (c.in_default.ensures.items ∙ c.in_default.ensures.rest))
