use Rattle.std.proofs.Common.{◌≡◌, ◌∷◌, ◌<◌, ◌+◌, ap, arith, length}
use Rattle.kernel_turns.specs.Amid.{IsSomeNode}
use Rattle.kernel_turns.specs.Left.{weight}
use Rattle.kernel_worker.proofs.Idle.{idle-fewer, idle-first, none-work}
use Rattle.kernel_worker.proofs.Progress.{all-none}
use Rattle.kernel_worker.proofs.Turning.{all-first, all-rest, each-split, either-fell, split-falls}
use Rattle.kernel_worker.specs.Rounds.{GoesOn, Works, all_left}
use Rattle.kernel_worker.proofs.serial.+turn_each.Goals as goal

pub returns-then-none_from-clause-goes : goal.returns-then-none_from-clause-goes
returns-then-none_from-clause-goes g t c = all-none (record { step = g.P.Program.step; state = g.P.Program.state; last = g.P.Program.last; version = g.P.Program.version }) g.W.Watch.HasSeen g.W.Watch.made c.args.nodes.now

pub returns-then-none_from-clause-works : goal.returns-then-none_from-clause-works
returns-then-none_from-clause-works g t c = none-work c.args.awake.now c.args.first c.args.nodes.now (c.none_from.ensures c.if-none_from.true) c.requires.few c.requires.idle

pub turn_one-requires-clause-node : goal.turn_one-requires-clause-node
turn_one-requires-clause-node g t c =
    all-first (IsSomeNode (record { step = g.P.Program.step; state = g.P.Program.state; last = g.P.Program.last; version = g.P.Program.version }) g.W.Watch.HasSeen) c.args.nodes.now c.in-Some.node.now c.in-Some.others.now c.in-Some.ensures.cases.0 c.requires.nodes

pub turn_one-requires-clause-idle : goal.turn_one-requires-clause-idle
turn_one-requires-clause-idle g t c = (idle-first c.args.awake.now c.args.first c.args.nodes.now c.in-Some.node.now c.in-Some.others.now c.in-Some.ensures.cases.0 c.requires.idle).0

pub turn_each-requires : goal.turn_each-requires
turn_each-requires g t c κs within =
    let long : length c.args.nodes.now ≡ length (c.in-Some.node.now ∷ c.in-Some.others.now) = ap length c.in-Some.ensures.cases.0 in (
      omega (arith, long, c.decreases),
      (
        within.0,
        (
          within.1,
          (
            all-rest (IsSomeNode (record { step = g.P.Program.step; state = g.P.Program.state; last = g.P.Program.last; version = g.P.Program.version }) g.W.Watch.HasSeen) c.args.nodes.now c.in-Some.node.now c.in-Some.others.now c.in-Some.ensures.cases.0 c.requires.nodes,
            (
              omega (arith, long, c.requires.few),
              idle-fewer c.args.awake.now c.turn_one.new.awake (c.args.first + 1) c.in-Some.others.now
                  (λ j from e. c.in_ok-here.ensures.others j (λ same. omega (arith, from, same)) e)
                  (idle-first c.args.awake.now c.args.first c.args.nodes.now c.in-Some.node.now c.in-Some.others.now c.in-Some.ensures.cases.0 c.requires.idle).1,
            ),
          ),
        ),
      ),
    )

pub returns-in_err-here-clause-goes : goal.returns-in_err-here-clause-goes
returns-in_err-here-clause-goes g t c =
    each-split (GoesOn (record { step = g.P.Program.step; state = g.P.Program.state; last = g.P.Program.last; version = g.P.Program.version }) g.W.Watch.HasSeen g.W.Watch.made) c.args.nodes.now c.in-Some.node.now c.in-Some.others.now c.turn_one.new.node c.in-Some.others.now c.in-Some.ensures.cases.0 c.turn_one.ensures.goes (all-none (record { step = g.P.Program.step; state = g.P.Program.state; last = g.P.Program.last; version = g.P.Program.version }) g.W.Watch.HasSeen g.W.Watch.made c.in-Some.others.now)

pub returns-in_err-rest-clause-goes : goal.returns-in_err-rest-clause-goes
returns-in_err-rest-clause-goes g t c =
    each-split (GoesOn (record { step = g.P.Program.step; state = g.P.Program.state; last = g.P.Program.last; version = g.P.Program.version }) g.W.Watch.HasSeen g.W.Watch.made) c.args.nodes.now c.in-Some.node.now c.in-Some.others.now c.turn_one.new.node c.turn_each.new.nodes c.in-Some.ensures.cases.0 c.turn_one.ensures.goes c.turn_each.ensures.goes

pub returns-clause-goes : goal.returns-clause-goes
returns-clause-goes g t c =
    each-split (GoesOn (record { step = g.P.Program.step; state = g.P.Program.state; last = g.P.Program.last; version = g.P.Program.version }) g.W.Watch.HasSeen g.W.Watch.made) c.args.nodes.now c.in-Some.node.now c.in-Some.others.now c.turn_one.new.node c.turn_each.new.nodes c.in-Some.ensures.cases.0 c.turn_one.ensures.goes c.turn_each.ensures.goes

pub returns-clause-works : goal.returns-clause-works
returns-clause-works g t c =
    each-split Works c.args.nodes.now c.in-Some.node.now c.in-Some.others.now c.turn_one.new.node c.turn_each.new.nodes c.in-Some.ensures.cases.0 c.in_ok-here.ensures.works c.in_ok-rest.ensures.works

pub returns-clause-falls : goal.returns-clause-falls
returns-clause-falls g t c =
    λ e.
    split-falls c.args.nodes.now c.in-Some.node.now c.in-Some.others.now c.turn_one.new.node c.turn_each.new.nodes c.in-Some.ensures.cases.0 c.in_ok-here.ensures.works c.in_ok-rest.ensures.works
    (either-fell c.in_ok-here.here.event c.in_ok-rest.rest.event (weight c.turn_one.new.node.base < weight c.in-Some.node.now.base) (all_left c.turn_each.new.nodes < all_left c.in-Some.others.now)
    c.in_ok-here.ensures.falls c.in_ok-rest.ensures.falls (c.one_of-any.ensures e))

pub returns-clause-idle : goal.returns-clause-idle
returns-clause-idle g t c = (λ e. c.in_ok-here.ensures.idle (c.in_ok-rest.ensures.others c.args.first (omega arith) e), c.in_ok-rest.ensures.idle)

pub returns-clause-others : goal.returns-clause-others
returns-clause-others g t c =
    λ k below e. c.in_ok-here.ensures.others k (λ same. omega (arith, below, same)) (c.in_ok-rest.ensures.others k (omega (arith, below)) e)
