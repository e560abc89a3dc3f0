-- Where there are none, nothing changes.
use Rattle.std.proofs.Common.{◌≡◌, [], length, refl, arith}
use Rattle.kernel_process.proofs.Closes.{calm-none, is_empty-none, join_reports-none, takes-both, takes-none}
use Rattle.kernel_process.proofs.closing.join_each.Goals as goal

pub returns-else-not-is_empty : goal.returns-else-not-is_empty
returns-else-not-is_empty c =
    let none : c.args.reports.now.items ≡ [] = is_empty-none c.args.reports.now.items _ _ c.is_empty.ensures c.if-not-is_empty.false c.args.reports.now.ok.0 in
    record {
      part = λ s. join_reports-none c.args.reports.now.items _ none;
      calm = calm-none c.args.table.now;
      kept = takes-both 0 0 (length c.args.reports.now.items) _ _ _ (omega arith) (takes-none c.args.processes.now) (takes-none c.args.processes.now);
      places = record { answered = omega arith; steps = omega arith; answered_in_place = refl; steps_in_place = refl };
      stamp = refl;
    }
