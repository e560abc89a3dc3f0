-- The first report joins, and then the others.
use Rattle.std.proofs.Common.{◌∙◌, length, ap, sym, refl, arith, rules}
use Rattle.end_table.specs.Table.{entries}
use Rattle.kernel_process.proofs.Closes.{are_for-rest, calm-both, calm-none, drop-same, join_reports-more, join_reports-none, spare-first, spare-rest, takes-both, takes-none}
use Rattle.kernel_process.specs.Parts.{ended, with_parts}
use Rattle.kernel_step.specs.Kernel.{join_reports}
use Rattle.kernel_process.proofs.closing.+join_all.Goals as goal

pub join_all-requires : goal.join_all-requires
join_all-requires t c = (
  search rules,
  (
    are_for-rest _ _ _ _ _ c.in-Some.ensures.items c.join.ensures.kept.length c.requires.reports,
    (
      record { answered = omega (arith, ap length c.in-Some.ensures.items); steps = omega (arith, ap length c.in-Some.ensures.items) },
      spare-rest c.in-Some.p c.in-Some.report c.take_first.new.list.items c.args.reports.now.items c.args.processes.now c.join.new.processes c.in-Some.ensures.items c.join.ensures.kept c.requires.spare,
    ),
  ),
)

pub join-requires-clause-spare : goal.join-requires-clause-spare
join-requires-clause-spare t c = spare-first c.in-Some.p c.in-Some.report c.take_first.new.list.items c.args.reports.now.items c.args.processes.now c.in-Some.ensures.items c.requires.spare

pub returns-in-Some : goal.returns-in-Some
returns-in-Some t c =
    let longer = ap length c.in-Some.ensures.items in
    let one = c.join.ensures.places in
    let others = c.join_all.ensures.places in
    record {
      part = λ s. c.join_all.ensures.part s
          ∙ join_reports-more c.in-Some.p c.in-Some.report c.take_first.new.list.items (with_parts (entries c.args.table.now) c.args.processes.now s) c.args.effect.now _ (c.join.ensures.part s)
          ∙ ap (λ xs. join_reports xs (ended (with_parts (entries c.args.table.now) c.args.processes.now s) c.args.effect.now)) (sym c.in-Some.ensures.items);
      calm = calm-both _ _ _ c.join.ensures.calm c.join_all.ensures.calm;
      kept = takes-both 1 (length c.take_first.new.list.items) (length c.args.reports.now.items) _ _ _ (omega (arith, longer)) c.join.ensures.kept c.join_all.ensures.kept;
      places = record {
        answered = omega (arith, longer, one.answered, others.answered);
        steps = omega (arith, longer, one.steps, others.steps);
        answered_in_place = others.answered_in_place ∙ one.answered_in_place;
        steps_in_place = others.steps_in_place ∙ one.steps_in_place;
      };
      stamp = c.join_all.ensures.stamp ∙ c.join.ensures.stamp;
    }

pub returns-in_default : goal.returns-in_default
returns-in_default t c = record {
  part = λ s. join_reports-none c.args.reports.now.items _ (drop-same c.args.reports.now.items (c.in_default.ensures.items ∙ c.in_default.ensures.rest));
  calm = calm-none c.args.table.now;
  kept = takes-both 0 0 (length c.args.reports.now.items) _ _ _ (omega arith) (takes-none c.args.processes.now) (takes-none c.args.processes.now);
  places = record { answered = omega arith; steps = omega arith; answered_in_place = refl; steps_in_place = refl };
  stamp = refl;
}
