-- After a piece the front is longer by what it took.
use Rattle.std.proofs.Common.{◌+◌, ◌∙◌, ap, sym, drop}
use Rattle.std.proofs.lemmas.List.{drop-drop, take_rest}
use Rattle.lynx_outside.specs.Writing.{begun}
use Rattle.lynx_outside.proofs.Pieces.{Appends-take, Made-then, Made-to, failed_leaves}
use Rattle.lynx_outside.proofs.host_sink.write_whole.Goals as goal

pub returns-in_err-taken-clause-asked : goal.returns-in_err-taken-clause-asked
returns-in_err-taken-clause-asked g c =
    Made-to (sym (failed_leaves c.args.bytes.now c.from_residual.result c.from_residual.ensures.0))
    (Made-then c.loop-rest.invariant.made c.in_err-taken.ensures.asked)

pub loop-rest-preserved : goal.loop-rest-preserved
loop-rest-preserved g c =
    let so_far = c.loop-rest.invariant.front in
    let same = take_rest c.loop-rest.rest.now c.in_ok-taken.taken in
    record {
      front = (
        so_far.0 + c.in_ok-taken.taken,
        same ∙ (ap (drop c.in_ok-taken.taken) so_far.1 ∙ drop-drop c.in_ok-taken.taken so_far.0 c.args.bytes.now),
        Appends-take _ _ _ _ _ _ so_far.2 (rw (← so_far.1) c.in_ok-taken.ensures.written),
      );
      made = Made-to (ap begun (sym same)) (Made-then c.loop-rest.invariant.made c.in_ok-taken.ensures.asked);
    }
