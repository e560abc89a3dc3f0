use Rattle.std.proofs.Common.{◌<◌, arith, length}
use Rattle.std.proofs.lemmas.Option.{slice_get_within}
use Rattle.kernel_worker.proofs.Found.{at-index, false-not, more-at}
use Rattle.kernel_worker.specs.Ends.{IsAtLimit}
use Rattle.kernel_worker.proofs.standing.first_spent.Goals as goal

pub returns-then-is_at_limit-clause-some : goal.returns-then-is_at_limit-clause-some
returns-then-is_at_limit-clause-some g c =
    let below : c.loop-kernel.kernel < length c.args.nodes.now = omega arith in
    record { node = c.index-nodes-kernel.result; at = (at-index c.args.nodes.now c.loop-kernel.kernel c.index-nodes-kernel.result below c.index-nodes-kernel.is); used = c.is_at_limit.ensures.0 c.if-is_at_limit.true; least = c.loop-kernel.invariant }

pub loop-kernel-preserved : goal.loop-kernel-preserved
loop-kernel-preserved g c =
    let below : c.loop-kernel.kernel < length c.args.nodes.now = omega arith in
    more-at (λ n. IsAtLimit n → ⊥) c.args.nodes.now c.loop-kernel.kernel c.index-nodes-kernel.result (at-index c.args.nodes.now c.loop-kernel.kernel c.index-nodes-kernel.result below c.index-nodes-kernel.is) (λ used. false-not c.is_at_limit.result c.if-is_at_limit.false (c.is_at_limit.ensures.1 used)) c.loop-kernel.invariant

pub returns-clause-none : goal.returns-clause-none
returns-clause-none g c =
    λ k n at used. c.loop-kernel.invariant k n (let within : k < length c.args.nodes.now = slice_get_within c.args.nodes.now k n at in let below : k < c.loop-kernel.kernel = omega arith in below) at used
