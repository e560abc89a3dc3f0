-- The event is the step of a call that is refused.
use Rattle.std.proofs.Common.{ap, ◌∙◌, sym, length, subst, arith}
use Rattle.charlotte_calls.specs.declared.calls.Answer.TheVariants as answer
use Rattle.charlotte_calls.specs.declared.calls.ServiceStep.TheVariants as step
use Rattle.end_table.specs.Table.{entries}
use Rattle.kernel_core.proofs.Begun.{begun-step, step-begun}
use Rattle.kernel_core.proofs.Callings.{keeps-calm}
use Rattle.kernel_core.specs.Stepping.{IsStepOf}
use Rattle.kernel_core.proofs.Stepped.{all_ends, refused-steps}
use Rattle.kernel_process.proofs.Closes.{takes-both}
use Rattle.kernel_process.specs.Parts.{ended, with_parts}
use Rattle.kernel_step.specs.Kernel.{closes, stands}
use Rattle.kernel_step.specs.Progress.{means, progress}
use Rattle.kernel_core.proofs.deciding.refuse.Goals as goal

pub close_step-requires-clause-room : goal.close_step-requires-clause-room
close_step-requires-clause-room c = begun-step (length c.args.mine.now) c.args.request.now.call c.args.state.now.event c.requires.ready.begun

pub close_step-requires-clause-closes : goal.close_step-requires-clause-closes
close_step-requires-clause-closes c =
    let closes = step-begun (length c.args.mine.now) c.args.request.now.call c.args.state.now.event c.requires.ready.begun in
    record { nobody = closes.nobody; answered = omega (arith, closes.answered); steps = closes.steps }

pub stand-requires-clause-places : goal.stand-requires-clause-places
stand-requires-clause-places c = c.close_step.ensures.places 1 0 (step-begun (length c.args.mine.now) c.args.request.now.call c.args.state.now.event c.requires.ready.begun)

pub returns-clause-step : goal.returns-clause-step
returns-clause-step c =
    let listed = c.has_list_of.ensures in
    let all = all_ends c.args.request.now.p c.args.state.now.table c.args.mine.now listed.0 c.args.request.now.call c.requires.request.listed listed.1 in (
      all.0,
      all.1,
      subst (λ n. IsStepOf c.args.state.now.table c.args.state.now.processes c.args.state.now.made c.args.state.now.event.work.stamp c.close_step.new.state.table c.stand.new.processes n c.stand.new.effect c.args.request.now.p all.0 c.args.request.now.call)
          (sym c.close_step.ensures.made)
          (refused-steps c.args.state.now.table c.close_step.new.state.table c.args.state.now.processes c.stand.new.processes c.args.state.now.made c.args.state.now.event.work.stamp c.args.state.now.event.work
          c.stand.new.effect c.args.request.now.p all.0 c.requires.ready.begins c.args.request.now.call c.args.cause all.1 c.requires.refused
          (λ s. ap (λ n. ended (with_parts (entries c.close_step.new.state.table) c.stand.new.processes (record s { stamp = n })) c.stand.new.effect) c.stand.ensures.stamp
          ∙ c.stand.ensures.part (record s { stamp = c.close_step.new.effect.stamp }) (entries c.close_step.new.state.table)
          ∙ ap (stands c.args.request.now.p (answer.Refused c.args.cause))
          (c.close_step.ensures.part s
          ∙ ap (λ call. closes (with_parts (entries c.args.state.now.table) c.args.state.now.processes s) (means (step.Refuse c.args.request.now.p call c.args.cause) (progress (entries c.args.state.now.table) c.args.state.now.event.work))) c.copy-call.ensures))),
    )

pub returns-clause-keeps : goal.returns-clause-keeps
returns-clause-keeps c =
    keeps-calm c.args.state.now _ c.close_step.ensures.made c.close_step.ensures.calm
    (takes-both 0 0 0 _ _ _ (omega arith) c.close_step.ensures.kept c.stand.ensures.kept) c.requires.consistent
