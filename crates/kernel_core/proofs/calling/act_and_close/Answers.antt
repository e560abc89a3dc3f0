-- The call does its part, and the event closes.
use Rattle.end_table.specs.Table.{entries}
use Rattle.kernel_core.proofs.Callings.{acted-none, acted-answers, acted-calm, acted-closes, acted-reports, acted-sound, finished-by}
use Rattle.kernel_core.specs.Finishing.{ending_of, finished}
use Rattle.kernel_process.proofs.Closes.{takes-both}
use Rattle.kernel_process.specs.Parts.{ended, with_parts}
use Rattle.kernel_sound.specs.Acts.{made_after}
use Rattle.kernel_sound.specs.Sound.{IsSound}
use Rattle.std.proofs.Common.{length, ap, sym, subst, ◌∙◌, arith}
use Rattle.kernel_core.proofs.Begun.{part-closes}
use Rattle.kernel_event.specs.Room.{room_of_call}
use Rattle.kernel_step.specs.Room.{and_ends}
use Rattle.kernel_process.specs.Closing.{HaveSpareFor}
use Rattle.kernel_process.specs.Steady.{TakesAtMost}
use Rattle.kernel_core.proofs.calling.act_and_close.Goals as goal

pub act-requires-clause-sound : goal.act-requires-clause-sound
act-requires-clause-sound c = (length c.args.state.now.processes, c.requires.consistent.sound)

pub close-requires-clause-reports : goal.close-requires-clause-reports
close-requires-clause-reports c =
    acted-reports c.args.request.now.p c.args.state.now.table.kernel c.args.state.now.made c.args.mine.now c.args.request.now.call (entries c.args.state.now.table) (entries c.act.new.table) c.args.state.now.event.work c.act.new.out c.act.ensures.part _ c.requires.ready.begun.reports

pub close-requires-clause-answers : goal.close-requires-clause-answers
close-requires-clause-answers c =
    acted-answers c.args.request.now.p c.args.state.now.table.kernel c.args.state.now.made c.args.mine.now c.args.request.now.call (entries c.args.state.now.table) (entries c.act.new.table) c.args.state.now.event.work c.act.new.out c.act.ensures.part _ c.requires.ready.begun.answers

pub close-requires-clause-spare : goal.close-requires-clause-spare
close-requires-clause-spare c =
    subst (λ rs. HaveSpareFor rs c.turn_caller.new.processes)
    (sym (acted-none c.args.request.now.p c.args.state.now.table.kernel c.args.state.now.made c.args.mine.now c.args.request.now.call (entries c.args.state.now.table) (entries c.act.new.table) c.args.state.now.event.work c.act.new.out c.act.ensures.part c.requires.ready.begun.reports)) tt

pub close-requires-clause-room : goal.close-requires-clause-room
close-requires-clause-room c =
    let closes = part-closes (and_ends (length c.args.mine.now) (room_of_call c.args.request.now.call)) 1 c.args.state.now.event c.act.new.out c.requires.ready.begun c.act.ensures.within.added in
    record { nobody = closes.nobody; answered = omega (arith, closes.answered); steps = closes.steps }

pub finish-requires-clause-places : goal.finish-requires-clause-places
finish-requires-clause-places c =
    c.close.ensures.places 1 0 (part-closes (and_ends (length c.args.mine.now) (room_of_call c.args.request.now.call)) 1 c.args.state.now.event c.act.new.out c.requires.ready.begun c.act.ensures.within.added)

pub returns-clause-part : goal.returns-clause-part
returns-clause-part c = λ s.
    ap (λ n. ended (with_parts (entries c.close.new.table) c.finish.new.processes (record s { made = made_after c.args.request.now.call c.args.state.now.made; stamp = n })) c.finish.new.effect)
    (c.finish.ensures.stamp ∙ c.close.ensures.stamp)
    ∙ c.finish.ensures.part (record s { made = made_after c.args.request.now.call c.args.state.now.made; stamp = c.act.new.out.stamp }) (entries c.close.new.table)
    ∙ ap (finished c.args.request.now.p c.ending_of-ending.result)
    (c.close.ensures.part (record s { made = made_after c.args.request.now.call c.args.state.now.made })
    ∙ acted-closes c.args.request.now.p c.args.state.now.table.kernel c.args.state.now.made (made_after c.args.request.now.call c.args.state.now.made) c.args.mine.now c.args.request.now.call s
    (entries c.args.state.now.table) (entries c.act.new.table) c.args.state.now.processes c.turn_caller.new.processes c.args.state.now.event.work c.act.new.out c.turn_caller.ensures.part c.act.ensures.part)
    ∙ finished-by c.args.request.now.p c.args.state.now.table.kernel c.args.state.now.made c.args.request.now.call c.ending_of-ending.result _ c.requires.other
    (c.ending_of-ending.ensures ∙ ap (λ k. ending_of k c.args.state.now.made c.args.request.now.call) c.kernel.ensures.kernel)

pub returns-clause-sound : goal.returns-clause-sound
returns-clause-sound c =
    c.close.ensures.calm.sound (made_after c.args.request.now.call c.args.state.now.made) (length c.args.state.now.processes)
    (subst (λ k. IsSound k (made_after c.args.request.now.call c.args.state.now.made) (length c.args.state.now.processes) (entries c.act.new.table)) (sym c.act.ensures.within.kernel)
    (acted-sound c.args.request.now.p c.args.state.now.table.kernel c.args.state.now.made c.args.mine.now c.args.request.now.call (entries c.args.state.now.table) (entries c.act.new.table) c.args.state.now.event.work c.act.new.out c.act.ensures.part
    (length c.args.state.now.processes) c.requires.ready.begun.reports c.requires.ready.begun.answers c.requires.consistent.sound c.requires.request.process c.requires.granted.0 c.requires.granted.1 (c.requires.request.listed c.requires.other)))

pub returns-clause-calm : goal.returns-clause-calm
returns-clause-calm c =
    acted-calm c.args.request.now.p c.args.state.now.table.kernel c.args.state.now.made c.args.mine.now c.args.request.now.call (entries c.args.state.now.table) (entries c.act.new.table) c.args.state.now.event.work c.act.new.out c.act.ensures.part
    (length c.args.state.now.processes) c.requires.ready.begun.reports c.requires.ready.begun.answers c.requires.consistent.sound c.requires.request.process c.requires.granted.0 c.requires.granted.1 (c.requires.request.listed c.requires.other)
    (entries c.close.new.table) c.close.ensures.calm.calm

pub returns-clause-kept : goal.returns-clause-kept
returns-clause-kept c =
    takes-both 0 0 0 _ _ _ (omega arith) c.turn_caller.ensures.kept
    (takes-both 0 0 0 _ _ _ (omega arith) (subst (λ rs. TakesAtMost (length rs) c.turn_caller.new.processes c.close.new.processes)
    (acted-none c.args.request.now.p c.args.state.now.table.kernel c.args.state.now.made c.args.mine.now c.args.request.now.call (entries c.args.state.now.table) (entries c.act.new.table) c.args.state.now.event.work
    c.act.new.out c.act.ensures.part c.requires.ready.begun.reports)
    c.close.ensures.kept)
    c.finish.ensures.kept)
