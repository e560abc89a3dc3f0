-- The values that came are away and apart, the death is noticed at the end, and the parts are put in order.
use Rattle.std.proofs.Common.{◌≡◌, length, IfSome, ap, sym, subst, ◌∙◌, arith}
use Rattle.end_table.specs.Table.{entries}
use Rattle.end_table.specs.declared.entry.Outward.TheVariants as outward
use Rattle.kernel_event.proofs.Brought.{came-away, came-apart, back-at, back-ready, back-gives, back-taken, back-behind}
use Rattle.kernel_step.specs.Progress.{progress}
use Rattle.kernel_step.specs.Rows.{notices_first}
use Rattle.move_core.specs.Arriving.{AreApart}
use Rattle.kernel_event.proofs.back.take_back.Goals as goal

pub give_back-requires-clause-away : goal.give_back-requires-clause-away
give_back-requires-clause-away c =
    came-away c.args.table.now c.args.made c.args.moving.now c.requires.placed c.args.view.holder c.arriving-came.result (c.arriving-came.ensures c.args.view.holder)

pub give_back-requires-clause-apart : goal.give_back-requires-clause-apart
give_back-requires-clause-apart c =
    subst (λ o. IfSome o (λ _. AreApart c.arriving-came.result)) (sym c.requires.matched)
    (came-apart c.args.table.now.kernel c.args.made (entries c.args.table.now) c.args.moving.now c.args.view.holder c.arriving-came.result (c.arriving-came.ensures c.args.view.holder))

pub notice_first-requires-clause-here : goal.notice_first-requires-clause-here
notice_first-requires-clause-here c =
    back-at c.args.table.now c.give_back.new.table c.args.made c.args.returned.to c.args.returned.n c.args.moving.now c.arriving-came.result c.push_step.new.out c.give_back.new.out c.args.view c.requires.here
    c.requires.matched c.requires.placed c.arriving-came.ensures c.give_back.ensures.part

pub notice_first-requires-clause-ready : goal.notice_first-requires-clause-ready
notice_first-requires-clause-ready c =
    back-ready c.args.table.now c.give_back.new.table c.args.made c.args.returned.to c.args.returned.n c.args.moving.now c.arriving-came.result c.push_step.new.out c.give_back.new.out c.args.view c.requires.here
    c.requires.matched c.requires.placed c.arriving-came.ensures c.give_back.ensures.part

pub len-moves-requires : goal.len-moves-requires
len-moves-requires c =
    let none : length c.args.out.now.packets.items ≡ 0 = ap length c.requires.first in
    omega (arith, none, c.push_step.ensures.room.packets, c.give_back.ensures.within.added.packets)

pub len-sent-requires : goal.len-sent-requires
len-sent-requires c =
    let none : length c.args.out.now.packets.items ≡ 0 = ap length c.requires.first in
    omega (arith, none, c.push_step.ensures.room.packets, c.give_back.ensures.within.added.packets, c.notice_first.ensures.within.added.packets)

pub put_behind-requires-clause-few : goal.put_behind-requires-clause-few
put_behind-requires-clause-few c =
    let none : length c.args.out.now.packets.items ≡ 0 = ap length c.requires.first in
    omega (arith, none, c.len-sent.ensures, c.push_step.ensures.room.packets, c.give_back.ensures.within.added.packets, c.notice_first.ensures.within.added.packets)

pub put_behind-requires-clause-first : goal.put_behind-requires-clause-first
put_behind-requires-clause-first c =
    let more = back-behind c.give_back.new.table.kernel c.args.returned.from (record c.args.view { outward = outward.Unreported }) (entries c.give_back.new.table) (entries c.notice_first.new.table) c.give_back.new.out c.notice_first.new.out c.notice_first.ensures.part in
    omega (arith, more, c.len-moves.ensures, c.len-sent.ensures)

pub returns-clause-part : goal.returns-clause-part
returns-clause-part c =
    back-taken c.args.table.now.kernel c.args.made c.args.returned.from c.args.returned.to c.args.returned.n c.args.moving.now c.arriving-came.result c.args.view c.answers_cancel-dead.result (entries c.args.table.now)
    (entries c.give_back.new.table) (entries c.notice_first.new.table) c.args.out.now c.push_step.new.out c.give_back.new.out c.notice_first.new.out c.put_behind.new.out c.len-moves.result c.len-sent.result
    c.requires.first c.answers_cancel-dead.ensures c.push_step.ensures.part (c.arriving-came.ensures c.args.view.holder)
    (back-gives c.args.table.now c.give_back.new.table c.args.made c.args.returned.to c.args.returned.n c.args.moving.now c.arriving-came.result c.push_step.new.out c.give_back.new.out c.args.view c.requires.here c.requires.matched c.requires.placed c.arriving-came.ensures c.give_back.ensures.part)
    (c.notice_first.ensures.part ∙ ap (λ k. notices_first k c.args.returned.from (record c.args.view { outward = outward.Unreported }) (progress (entries c.give_back.new.table) c.give_back.new.out)) c.give_back.ensures.within.kernel)
    c.len-moves.ensures c.len-sent.ensures
    (c.put_behind.ensures.part (entries c.notice_first.new.table))
