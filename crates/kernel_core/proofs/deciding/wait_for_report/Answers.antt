-- The event is the step of a Wait.
use Rattle.std.proofs.Common.{ap, ◌∙◌, sym, length, subst, arith}
use Rattle.charlotte_calls.specs.declared.calls.Call.TheVariants as call
use Rattle.end_table.specs.Table.{entries}
use Rattle.kernel_core.proofs.Begun.{begun-step, step-begun, wait-begun}
use Rattle.kernel_core.proofs.Callings.{keeps-calm}
use Rattle.kernel_core.proofs.Stepped.{wait-steps}
use Rattle.kernel_core.specs.Finishing.{finishes}
use Rattle.kernel_core.specs.Stepping.{IsCalled, IsRefusedFor, IsStepOf}
use Rattle.kernel_process.proofs.Closes.{calm-both, takes-both}
use Rattle.kernel_process.specs.Parts.{ended, with_parts}
use Rattle.kernel_core.proofs.deciding.wait_for_report.Goals as goal

pub close_step-requires-clause-room : goal.close_step-requires-clause-room
close_step-requires-clause-room c = begun-step (length c.args.mine.now) c.args.request.now.call c.args.state.now.event c.requires.ready.begun

pub close_step-requires-clause-closes : goal.close_step-requires-clause-closes
close_step-requires-clause-closes c =
    let closes = step-begun (length c.args.mine.now) c.args.request.now.call c.args.state.now.event c.requires.ready.begun in
    record { nobody = closes.nobody; answered = omega (arith, closes.answered); steps = closes.steps }

pub wait-requires-clause-places : goal.wait-requires-clause-places
wait-requires-clause-places c = c.close_step.ensures.places 1 1 (wait-begun (length c.args.mine.now) c.args.request.now.call c.args.state.now.event c.requires.wait c.requires.ready.begun)

pub returns-clause-step : goal.returns-clause-step
unfolding finishes ended
returns-clause-step c =
    let listed = c.has_list_of.ensures in
    subst (IsCalled c.args.state.now c.args.state.now.event.work.stamp (record { table = c.wait.new.table; processes = c.wait.new.processes; made = c.close_step.new.state.made; event = c.close_step.new.state.event }) c.wait.new.effect c.args.request.now.p) (sym c.requires.wait) (
      listed.0,
      listed.1,
      subst (λ n. IsStepOf c.args.state.now.table c.args.state.now.processes c.args.state.now.made c.args.state.now.event.work.stamp c.wait.new.table c.wait.new.processes n c.wait.new.effect c.args.request.now.p listed.0 call.Wait)
          (sym c.close_step.ensures.made)
          (wait-steps c.args.state.now.table c.wait.new.table c.args.state.now.processes c.wait.new.processes c.args.state.now.made c.args.state.now.event.work.stamp c.args.state.now.event.work c.wait.new.effect c.args.request.now.p listed.0 c.requires.ready.begins listed.1
          (subst (λ k. IsRefusedFor c.args.state.now.table c.args.state.now.processes c.args.state.now.made c.args.request.now.p k _) c.requires.wait c.requires.granted)
          (λ s k made. ap (λ n. ended (with_parts (entries c.wait.new.table) c.wait.new.processes (record s { stamp = n })) c.wait.new.effect) c.wait.ensures.stamp
          ∙ c.wait.ensures.part (record s { stamp = c.close_step.new.effect.stamp })
          ∙ ap (finishes c.args.request.now.p k made call.Wait) (c.close_step.ensures.part s))),
    )

pub returns-clause-keeps : goal.returns-clause-keeps
returns-clause-keeps c =
    keeps-calm c.args.state.now _ c.close_step.ensures.made
    (calm-both c.args.state.now.table c.close_step.new.state.table c.wait.new.table c.close_step.ensures.calm c.wait.ensures.calm)
    (takes-both 0 0 0 _ _ _ (omega arith) c.close_step.ensures.kept c.wait.ensures.kept) c.requires.consistent
