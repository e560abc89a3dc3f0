-- The answers stand, and then the reports join.
use Rattle.std.proofs.Common.{◌∙◌, length, ap, arith}
use Rattle.charlotte_packets.specs.declared.work.Effect.{Effect}
use Rattle.end_table.specs.Table.{entries}
use Rattle.kernel_process.proofs.Closes.{closes-by, spare-kept, takes-both}
use Rattle.kernel_step.specs.Kernel.{Kernel}
use Rattle.kernel_process.proofs.closing.close.Goals as goal

pub join_each-requires-clause-spare : goal.join_each-requires-clause-spare
join_each-requires-clause-spare c = spare-kept c.args.event.now.work.reports.items c.args.processes.now c.answer_each.new.processes c.answer_each.ensures.kept c.requires.spare

pub returns-clause-part : goal.returns-clause-part
returns-clause-part c = λ s.
    let first : Effect = record { stamp = c.args.event.now.work.stamp; packets = c.take.result; answered = c.take_list.result; steps = c.take_list-2.result } in
    let begun : Kernel = record s { stamp = c.args.event.now.work.stamp } in
    closes-by s (entries c.args.table.now) c.args.processes.now c.args.event.now.work first _ _
    (ap (λ l. l.items) c.take.ensures.same) (ap (λ l. l.items) c.take_list.ensures ∙ c.requires.room.nobody) (ap (λ l. l.items) c.take_list-2.ensures)
    (c.answer_each.ensures.part begun (entries c.args.table.now))
    (c.join_each.ensures.part begun)

pub returns-clause-kept : goal.returns-clause-kept
returns-clause-kept c =
    takes-both 0 (length c.args.event.now.work.reports.items) (length c.args.event.now.work.reports.items) _ _ _ (omega arith) c.answer_each.ensures.kept c.join_each.ensures.kept
