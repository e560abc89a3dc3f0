use Rattle.std.proofs.Common.{ap, sym, ◌∙◌}
use Rattle.kernel_step.specs.Actions.{tell_arrivals}
use Rattle.kernel_step.specs.Progress.{progress}
use Rattle.move_core.proofs.Arrivals.{tell_arrivals-more}
use Rattle.move_core.proofs.settling.+tell_arrivals.Goals as goal

pub returns-in-Some-clause-part : goal.returns-in-Some-clause-part
returns-in-Some-clause-part t c = λ table.
    c.tell_arrivals.ensures.part table ∙ tell_arrivals-more _ _ _ _ _ _ c.in-Some.ensures (c.tell_arrival.ensures.part table)

pub returns-in-None-clause-part : goal.returns-in-None-clause-part
unfolding tell_arrivals
returns-in-None-clause-part t c = λ table. ap (λ ms. tell_arrivals c.args.kernel ms (progress table c.args.out.now)) (sym c.in-None.ensures)
