use Rattle.std.proofs.Common.{sym, ap, ◌∙◌}
use Rattle.process_run.specs.States.{State}
use Rattle.process_run.specs.Reports.{answered}
use Rattle.lynx_rt.specs.Steps.{is_exit}
use Rattle.lynx_rt.proofs.Stepping.{may_slice, step_ended, step_goes_on}
use Rattle.lynx_rt.proofs.process.Running.step.Goals as goal

pub slice-requires-clause-may : goal.slice-requires-clause-may
slice-requires-clause-may c =
    may_slice c.args.answer.now c.args.self.now c.hear_answer.new.self (ap (λ (s : State). is_exit s.asked) (sym c.self.view_is) ∙ sym c.is_exit.ensures ∙ c.if-is_exit.false)
    (c.in_ok-hear_answer.ensures.heard ∙ ap (λ (s : State). (answered s.asked c.args.answer.now c.args.self.now).state) c.self.view_is) c.requires.may

pub returns-then-is_exit-clause-step : goal.returns-then-is_exit-clause-step
returns-then-is_exit-clause-step c = step_ended c.args.answer.now c.args.self.now (ap (λ (s : State). is_exit s.asked) (sym c.self.view_is) ∙ sym c.is_exit.ensures ∙ c.if-is_exit.true)
