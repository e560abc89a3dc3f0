use Rattle.std.proofs.Common.{◌<◌, arith, false, length, refl}
use Rattle.std.proofs.lemmas.Option.{slice_get_within}
use Rattle.kernel_turns.specs.Goes.{IsAtRest}
use Rattle.kernel_worker.proofs.Each.{all-at, all-from}
use Rattle.kernel_worker.proofs.Found.{at-index, false-not, more-at}
use Rattle.kernel_worker.proofs.standing.are_at_rest.Goals as goal

pub returns-then-not-is_at_rest : goal.returns-then-not-is_at_rest
returns-then-not-is_at_rest g c =
    let below : c.loop-place.place < length c.args.nodes.now = omega arith in (
      (λ e. absurd (false-not false refl e)),
      (λ all. absurd (false-not c.is_at_rest.result c.if-not-is_at_rest.true (c.is_at_rest.ensures.1 (all-at IsAtRest c.args.nodes.now c.loop-place.place c.index-nodes-place.result all (at-index c.args.nodes.now c.loop-place.place c.index-nodes-place.result below c.index-nodes-place.is))))),
    )

pub loop-place-preserved : goal.loop-place-preserved
loop-place-preserved g c =
    let below : c.loop-place.place < length c.args.nodes.now = omega arith in
    more-at IsAtRest c.args.nodes.now c.loop-place.place c.index-nodes-place.result (at-index c.args.nodes.now c.loop-place.place c.index-nodes-place.result below c.index-nodes-place.is) (c.is_at_rest.ensures.0 c.if-not-is_at_rest.false) c.loop-place.invariant

pub returns : goal.returns
returns g c =
    ((λ e. all-from IsAtRest c.args.nodes.now (λ k n at. c.loop-place.invariant k n (let within : k < length c.args.nodes.now = slice_get_within c.args.nodes.now k n at in let below : k < c.loop-place.place = omega arith in below) at)), (λ all. refl))
