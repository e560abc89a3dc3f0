use Rattle.std.proofs.Common.{nat_eq, not, ◌<◌, ◌≤◌, length, ap, sym, ◌∙◌, arith}
use Rattle.std.specs.List.{find}
use Rattle.script_run.specs.Recorded.{AreQuietBelow, sent_from, world_at}
use Rattle.script_run.specs.declared.recorded.Recorded.{Recorded}
use Rattle.script_run.proofs.Settling.{is_under_way, pairs-quiet, pairs_from-none, find-from_zero, quiet-more, some_target}
use Rattle.script_run.proofs.lines.first_sent.Goals as goal

pub loop-from-init : goal.loop-from-init
loop-from-init c = c.requires.before

pub loop-from-preserved : goal.loop-from-preserved
loop-from-preserved c = quiet-more c.args.kernels c.loop-from.from c.args.run.now (sym c.in_default.is ∙ c.first_target.ensures) c.loop-from.invariant

pub returns-in-Some : goal.returns-in-Some
returns-in-Some c =
    let run : Recorded = c.args.run.now in
    let within : c.loop-from.from < c.args.kernels = c.loop-from-test.true in
    record {
      first = λ s. sym (pairs-quiet s run c.args.kernels c.loop-from.from (omega (arith, within)) c.loop-from.invariant ∙ some_target s run c.args.kernels c.loop-from.from c.in-Some.to within c.in-Some.ensures);
      within = (within, find-from_zero (λ to. not (nat_eq (length (sent_from run c.loop-from.from to)) 0)) c.args.kernels c.in-Some.to (sym c.in-Some.ensures));
      before = c.loop-from.invariant;
    }

pub returns : goal.returns
returns c =
    let run : Recorded = c.args.run.now in
    let all : c.args.kernels ≤ c.loop-from.from = c.loop-from-test.false in
    let quiet : AreQuietBelow c.args.kernels c.args.kernels run = λ k below. c.loop-from.invariant k (omega (arith, below, all)) in
    record {
      first = λ s. sym (pairs-quiet s run c.args.kernels c.args.kernels (omega arith) quiet ∙ ap (find (is_under_way (world_at s run))) (pairs_from-none c.args.kernels c.args.kernels (omega arith)));
      within = tt;
      before = tt;
    }
