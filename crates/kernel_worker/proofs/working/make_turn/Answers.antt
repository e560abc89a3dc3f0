use Rattle.kernel_turns.specs.Left.{weight}
use Rattle.kernel_worker.proofs.Leaving.{made-less, made-works, passed-some, passed-turned, turned-reached, turns-fall}
use Rattle.kernel_worker.proofs.working.make_turn.Goals as goal

pub turn-requires : goal.turn-requires
turn-requires g c =
    record { node = passed-some (record { step = g.P.Program.step; state = g.P.Program.state; last = g.P.Program.last; version = g.P.Program.version }) g.W.Watch.HasSeen g.W.Watch.made c.args.node.now c.pass.new.self c.pass.ensures.rest c.requires.node }

pub returns-in_err-turn-clause-goes : goal.returns-in_err-turn-clause-goes
returns-in_err-turn-clause-goes g c =
    passed-turned (record { step = g.P.Program.step; state = g.P.Program.state; last = g.P.Program.last; version = g.P.Program.version }) g.W.Watch.HasSeen g.W.Watch.made c.turn.result c.args.node.now c.pass.new.self c.turn.new.self c.pass.ensures.rest c.turn.ensures.goes c.turn.ensures.turn c.turn.ensures.same

pub returns-clause-goes : goal.returns-clause-goes
returns-clause-goes g c =
    turned-reached (record { step = g.P.Program.step; state = g.P.Program.state; last = g.P.Program.last; version = g.P.Program.version }) g.W.Watch.HasSeen g.W.Watch.made c.args.node.now c.turn.new.self c.follow-enough.new.node
    (passed-turned (record { step = g.P.Program.step; state = g.P.Program.state; last = g.P.Program.last; version = g.P.Program.version }) g.W.Watch.HasSeen g.W.Watch.made c.turn.result c.args.node.now c.pass.new.self c.turn.new.self c.pass.ensures.rest c.turn.ensures.goes c.turn.ensures.turn c.turn.ensures.same) c.follow-enough.ensures.rest

pub returns-clause-works : goal.returns-clause-works
returns-clause-works g c =
    made-works (record { step = g.P.Program.step; state = g.P.Program.state; last = g.P.Program.last; version = g.P.Program.version }) g.W.Watch.HasSeen g.W.Watch.made c.in_ok-turn.turn c.args.node.now c.pass.new.self c.turn.new.self c.follow-enough.new.node
    (record { some = c.requires.node; pass = c.pass.ensures.rest; whole = c.in_ok-turn.ensures.unspoiled; made = c.in_ok-turn.ensures.turn; less = c.in_ok-turn.ensures.left; reach = c.follow-enough.ensures.rest })

pub returns-clause-left : goal.returns-clause-left
returns-clause-left g c stays =
    turns-fall c.in_ok-turn.turn (weight c.args.node.now.base) (weight c.follow-enough.new.node.base) c.args.idle.now.turns c.follow-enough.new.idle.turns c.follow-enough.result
    (made-less (record { step = g.P.Program.step; state = g.P.Program.state; last = g.P.Program.last; version = g.P.Program.version }) g.W.Watch.HasSeen g.W.Watch.made c.in_ok-turn.turn c.args.node.now c.pass.new.self c.turn.new.self c.follow-enough.new.node
    (record { some = c.requires.node; pass = c.pass.ensures.rest; whole = c.in_ok-turn.ensures.unspoiled; made = c.in_ok-turn.ensures.turn; less = c.in_ok-turn.ensures.left; reach = c.follow-enough.ensures.rest }))
    c.requires.idle (c.follow-enough.ensures.few (c.either.ensures stays)) c.follow-enough.ensures.rests c.follow-enough.ensures.spent (c.either.ensures stays)
