use Rattle.std.proofs.Common.{arith, inl, inr, refl}
use Rattle.kernel_turns.proofs.Goes.{goes-some}
use Rattle.kernel_worker.proofs.Going.{on-both, on-none}
use Rattle.kernel_worker.proofs.Leaving.{work-joined}
use Rattle.kernel_worker.proofs.working.make_turns.Goals as goal

pub turns-init : goal.turns-init
turns-init g c =
    record { some = c.requires.node; goes = on-none (record { step = g.P.Program.step; state = g.P.Program.state; last = g.P.Program.last; version = g.P.Program.version }) g.W.Watch.HasSeen g.W.Watch.made c.args.node.now; works = inl refl; idle = omega (arith, c.none-idle.ensures) }

pub turns-preserved : goal.turns-preserved
turns-preserved g c =
    record {
      some = goes-some (record { step = g.P.Program.step; state = g.P.Program.state; last = g.P.Program.last; version = g.P.Program.version }) g.W.Watch.HasSeen g.W.Watch.made c.turns.node c.make_turn.new.node c.make_turn.ensures.goes.goes c.turns.invariant.some;
      goes = on-both (record { step = g.P.Program.step; state = g.P.Program.state; last = g.P.Program.last; version = g.P.Program.version }) g.W.Watch.HasSeen g.W.Watch.made c.args.node.now c.turns.node c.make_turn.new.node c.turns.invariant.goes c.make_turn.ensures.goes;
      works = inr (work-joined c.args.node.now c.turns.node c.make_turn.new.node c.turns.invariant.works c.in_ok-make_turn.ensures.works);
      idle = c.in_ok-make_turn.ensures.idle c.if-branch.false;
    }

pub returns-in_err-make_turn-clause-goes : goal.returns-in_err-make_turn-clause-goes
returns-in_err-make_turn-clause-goes g c =
    on-both (record { step = g.P.Program.step; state = g.P.Program.state; last = g.P.Program.last; version = g.P.Program.version }) g.W.Watch.HasSeen g.W.Watch.made c.args.node.now c.turns.node c.make_turn.new.node c.turns.invariant.goes c.make_turn.ensures.goes

pub returns-then-branch-clause-goes : goal.returns-then-branch-clause-goes
returns-then-branch-clause-goes g c =
    on-both (record { step = g.P.Program.step; state = g.P.Program.state; last = g.P.Program.last; version = g.P.Program.version }) g.W.Watch.HasSeen g.W.Watch.made c.args.node.now c.turns.node c.make_turn.new.node c.turns.invariant.goes c.make_turn.ensures.goes

pub returns-then-branch-clause-works : goal.returns-then-branch-clause-works
returns-then-branch-clause-works g c =
    work-joined c.args.node.now c.turns.node c.make_turn.new.node c.turns.invariant.works c.in_ok-make_turn.ensures.works
