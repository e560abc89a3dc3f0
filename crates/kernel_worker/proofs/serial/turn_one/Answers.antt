use Rattle.std.proofs.Common.{rules, ◌≡◌, true}
use Rattle.kernel_worker.proofs.Going.{on-turned, turn-works, works-reached}
use Rattle.kernel_worker.proofs.Idle.{event-falls, turned-idle}
use Rattle.kernel_worker.proofs.Leaving.{turned-reached}
use Rattle.kernel_worker.specs.Awake.{is_awake}
use Rattle.kernel_worker.proofs.serial.turn_one.Goals as goal

pub returns-clause-goes : goal.returns-clause-goes
returns-clause-goes g c =
    turned-reached (record { step = g.P.Program.step; state = g.P.Program.state; last = g.P.Program.last; version = g.P.Program.version }) g.W.Watch.HasSeen g.W.Watch.made c.args.node.now c.turn.new.self c.follow.new.node
    (on-turned (record { step = g.P.Program.step; state = g.P.Program.state; last = g.P.Program.last; version = g.P.Program.version }) g.W.Watch.HasSeen g.W.Watch.made c.turn.result c.args.node.now c.turn.new.self c.turn.ensures.goes c.turn.ensures.turn c.turn.ensures.same) c.follow.ensures.rest

pub returns-clause-works : goal.returns-clause-works
returns-clause-works g c =
    works-reached c.args.node.now c.turn.new.self c.follow.new.node c.follow.ensures.rest
    (turn-works (record { step = g.P.Program.step; state = g.P.Program.state; last = g.P.Program.last; version = g.P.Program.version }) g.W.Watch.HasSeen c.in_ok-turn.turn c.args.node.now c.turn.new.self c.requires.node c.in_ok-turn.ensures.unspoiled c.in_ok-turn.ensures.turn c.in_ok-turn.ensures.left)

pub returns-clause-falls : goal.returns-clause-falls
returns-clause-falls g c =
    λ e. event-falls c.in_ok-turn.turn c.args.node.now c.turn.new.self c.follow.new.node (c.is_event.ensures e) c.in_ok-turn.ensures.left c.follow.ensures.rest

pub returns-clause-idle : goal.returns-clause-idle
returns-clause-idle g c =
    let asked : is_awake c.args.awake.now c.args.number ≡ true = search rules in
    λ e. turned-idle (record { step = g.P.Program.step; state = g.P.Program.state; last = g.P.Program.last; version = g.P.Program.version }) c.in_ok-turn.turn c.args.node.now c.turn.new.self c.follow.new.node c.in_ok-turn.ensures.turn
    (turn-works (record { step = g.P.Program.step; state = g.P.Program.state; last = g.P.Program.last; version = g.P.Program.version }) g.W.Watch.HasSeen c.in_ok-turn.turn c.args.node.now c.turn.new.self c.requires.node c.in_ok-turn.ensures.unspoiled c.in_ok-turn.ensures.turn c.in_ok-turn.ensures.left)
    c.follow.ensures.rest (is_awake c.args.awake.now c.args.number) asked (c.follow.ensures.rests c.args.number e)
