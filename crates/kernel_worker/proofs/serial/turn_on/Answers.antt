use Rattle.std.proofs.Common.{◌≡◌, arith, inl, inr, length, refl}
use Rattle.kernel_worker.proofs.Each.{each-length}
use Rattle.kernel_worker.proofs.Idle.{idle-all}
use Rattle.kernel_worker.proofs.Progress.{all-both, all-none, all-some, works-joined}
use Rattle.kernel_worker.proofs.Turning.{not-false}
use Rattle.kernel_worker.specs.Rounds.{GoesOn}
use Rattle.kernel_worker.proofs.serial.turn_on.Goals as goal

pub again-init : goal.again-init
again-init g c =
    record { some = c.requires.nodes; goes = all-none (record { step = g.P.Program.step; state = g.P.Program.state; last = g.P.Program.last; version = g.P.Program.version }) g.W.Watch.HasSeen g.W.Watch.made c.args.nodes.now; idle = idle-all c.all-awake.result 0 c.args.nodes.now c.all-awake.ensures; works = inl refl }

pub turn_each-requires-clause-few : goal.turn_each-requires-clause-few
turn_each-requires-clause-few g c =
    let count : length c.again.nodes ≡ length c.args.nodes.now = each-length (GoesOn (record { step = g.P.Program.step; state = g.P.Program.state; last = g.P.Program.last; version = g.P.Program.version }) g.W.Watch.HasSeen g.W.Watch.made) c.args.nodes.now c.again.nodes c.again.invariant.goes in
    omega (arith, count, c.requires.few)

pub again-preserved : goal.again-preserved
again-preserved g c =
    record {
      some = all-some (record { step = g.P.Program.step; state = g.P.Program.state; last = g.P.Program.last; version = g.P.Program.version }) g.W.Watch.HasSeen g.W.Watch.made c.again.nodes c.turn_each.new.nodes c.again.invariant.some c.turn_each.ensures.goes;
      goes = all-both (record { step = g.P.Program.step; state = g.P.Program.state; last = g.P.Program.last; version = g.P.Program.version }) g.W.Watch.HasSeen g.W.Watch.made c.args.nodes.now c.again.nodes c.turn_each.new.nodes c.again.invariant.goes c.turn_each.ensures.goes;
      idle = c.in_ok-round.ensures.idle;
      works = inr (works-joined c.args.nodes.now c.again.nodes c.turn_each.new.nodes c.again.invariant.works c.in_ok-round.ensures.works);
    }

pub again-smaller : goal.again-smaller
again-smaller g c =
    c.in_ok-round.ensures.falls (not-false c.in_ok-round.round.event c.if-not-round.false)

pub returns-in_err-round-clause-goes : goal.returns-in_err-round-clause-goes
returns-in_err-round-clause-goes g c =
    all-both (record { step = g.P.Program.step; state = g.P.Program.state; last = g.P.Program.last; version = g.P.Program.version }) g.W.Watch.HasSeen g.W.Watch.made c.args.nodes.now c.again.nodes c.turn_each.new.nodes c.again.invariant.goes c.turn_each.ensures.goes

pub returns-then-not-round-clause-goes : goal.returns-then-not-round-clause-goes
returns-then-not-round-clause-goes g c =
    all-both (record { step = g.P.Program.step; state = g.P.Program.state; last = g.P.Program.last; version = g.P.Program.version }) g.W.Watch.HasSeen g.W.Watch.made c.args.nodes.now c.again.nodes c.turn_each.new.nodes c.again.invariant.goes c.turn_each.ensures.goes

pub returns-then-not-round-clause-works : goal.returns-then-not-round-clause-works
returns-then-not-round-clause-works g c =
    works-joined c.args.nodes.now c.again.nodes c.turn_each.new.nodes c.again.invariant.works c.in_ok-round.ensures.works
