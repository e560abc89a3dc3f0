use denote.Param.Send.{sendable}
use Rattle.node_runs.specs.Net.{AreUnspoiled, HaveMet}
use Rattle.kernel_worker.proofs.Found.{false-not}
use Rattle.kernel_worker.proofs.Progress.{all-both, all-none, go-learned, ran-learned, round-less, some-each, some-learned, some-may, some-worked, unspoiled-learned}
use Rattle.kernel_worker.proofs.Stopping.{ends-with, was-unstopped}
use Rattle.kernel_worker.specs.Ends.{RunTogether}
use Rattle.kernel_worker.specs.Rounds.{IsNumberOf}
use Rattle.kernel_worker.proofs.beside.run_beside.Goals as goal

pub rounds-init : goal.rounds-init
rounds-init g c =
    record { some = c.requires.nodes; goes = all-none (record { step = g.P.Program.step; state = g.P.Program.state; last = g.P.Program.last; version = g.P.Program.version }) g.W.Watch.HasSeen g.W.Watch.made c.args.nodes.now; follows = (g.met.B.Beside g.world.𝓛 g.world.𝓜 g.world.𝓡 ((λ s x. x), (λ x. x), (λ x. x), λ x. x)).itself c.args.beside.now; unstopped = λ never is. never is }

pub end_of-requires-clause-meet : goal.end_of-requires-clause-meet
end_of-requires-clause-meet g c =
    some-may (record { step = g.P.Program.step; state = g.P.Program.state; last = g.P.Program.last; version = g.P.Program.version }) g.W.Watch.HasSeen c.rounds.nodes c.rounds.invariant.some

pub returns-in-Some-clause-goes : goal.returns-in-Some-clause-goes
returns-in-Some-clause-goes g c =
    go-learned (record { step = g.P.Program.step; state = g.P.Program.state; last = g.P.Program.last; version = g.P.Program.version }) g.W.Watch.HasSeen g.W.Watch.made (IsNumberOf c.rounds.nodes) c.args.nodes.now c.rounds.nodes c.end_of.new.nodes c.rounds.invariant.goes c.end_of.ensures.learned

pub returns-in-Some-clause-ends : goal.returns-in-Some-clause-ends
returns-in-Some-clause-ends g c =
    ends-with (g.B.Beside.stopped c.rounds.beside) c.end_of.new.nodes c.in-Some.end c.with_end.result c.with_end.ensures c.in-Some.ensures.some

pub returns-in-Some-clause-met : goal.returns-in-Some-clause-met
returns-in-Some-clause-met g c =
    was-unstopped (HaveMet c.end_of.new.nodes × AreUnspoiled c.end_of.new.nodes) c.in-Some.end c.with_end.result c.with_end.ensures
    (c.end_of.ensures.met, unspoiled-learned (IsNumberOf c.rounds.nodes) c.rounds.nodes c.end_of.new.nodes c.end_of.ensures.learned c.rounds.invariant.some.unspoiled)

pub returns-in-Some-clause-run : goal.returns-in-Some-clause-run
returns-in-Some-clause-run g c =
    was-unstopped (RunTogether (record { step = g.P.Program.step; state = g.P.Program.state; last = g.P.Program.last; version = g.P.Program.version }) g.W.Watch.HasSeen c.args.nodes.now c.end_of.new.nodes) c.in-Some.end c.with_end.result c.with_end.ensures
    (ran-learned (record { step = g.P.Program.step; state = g.P.Program.state; last = g.P.Program.last; version = g.P.Program.version }) g.W.Watch.HasSeen g.W.Watch.made (IsNumberOf c.rounds.nodes) c.args.nodes.now c.rounds.nodes c.end_of.new.nodes c.rounds.invariant.some c.rounds.invariant.goes c.end_of.ensures.learned c.end_of.ensures.met)

pub returns-in-Some-clause-unstopped : goal.returns-in-Some-clause-unstopped
returns-in-Some-clause-unstopped g c =
    was-unstopped ((g.B.Beside.stopped c.args.beside.now → ⊥) → g.B.Beside.stopped c.rounds.beside → ⊥) c.in-Some.end c.with_end.result c.with_end.ensures c.rounds.invariant.unstopped

pub round_beside-requires : goal.round_beside-requires
round_beside-requires g c =
    (search sendable depth 20, (search sendable depth 20, (search sendable depth 20, (search sendable depth 20, (search sendable depth 20, some-each (record { step = g.P.Program.step; state = g.P.Program.state; last = g.P.Program.last; version = g.P.Program.version }) g.W.Watch.HasSeen c.end_of.new.nodes (some-learned (record { step = g.P.Program.step; state = g.P.Program.state; last = g.P.Program.last; version = g.P.Program.version }) g.W.Watch.HasSeen g.W.Watch.made (IsNumberOf c.rounds.nodes) c.rounds.nodes c.end_of.new.nodes c.rounds.invariant.some c.end_of.ensures.learned))))))

pub returns-in_err-round_beside-clause-goes : goal.returns-in_err-round_beside-clause-goes
returns-in_err-round_beside-clause-goes g c =
    all-both (record { step = g.P.Program.step; state = g.P.Program.state; last = g.P.Program.last; version = g.P.Program.version }) g.W.Watch.HasSeen g.W.Watch.made c.args.nodes.now c.end_of.new.nodes c.round_beside.new.nodes (go-learned (record { step = g.P.Program.step; state = g.P.Program.state; last = g.P.Program.last; version = g.P.Program.version }) g.W.Watch.HasSeen g.W.Watch.made (IsNumberOf c.rounds.nodes) c.args.nodes.now c.rounds.nodes c.end_of.new.nodes c.rounds.invariant.goes c.end_of.ensures.learned) c.round_beside.ensures.goes

pub returns-in_err-round_beside-clause-follows : goal.returns-in_err-round_beside-clause-follows
returns-in_err-round_beside-clause-follows g c =
    (g.met.B.Beside g.world.𝓛 g.world.𝓜 g.world.𝓡 ((λ s x. x), (λ x. x), (λ x. x), λ x. x)).chains c.args.beside.now c.rounds.beside c.round_beside.new.beside c.rounds.invariant.follows c.round_beside.ensures.follows

pub returns-then-not-branch-clause-goes : goal.returns-then-not-branch-clause-goes
returns-then-not-branch-clause-goes g c =
    all-both (record { step = g.P.Program.step; state = g.P.Program.state; last = g.P.Program.last; version = g.P.Program.version }) g.W.Watch.HasSeen g.W.Watch.made c.args.nodes.now c.end_of.new.nodes c.round_beside.new.nodes (go-learned (record { step = g.P.Program.step; state = g.P.Program.state; last = g.P.Program.last; version = g.P.Program.version }) g.W.Watch.HasSeen g.W.Watch.made (IsNumberOf c.rounds.nodes) c.args.nodes.now c.rounds.nodes c.end_of.new.nodes c.rounds.invariant.goes c.end_of.ensures.learned) c.round_beside.ensures.goes

pub returns-then-not-branch-clause-follows : goal.returns-then-not-branch-clause-follows
returns-then-not-branch-clause-follows g c =
    (g.met.B.Beside g.world.𝓛 g.world.𝓜 g.world.𝓡 ((λ s x. x), (λ x. x), (λ x. x), λ x. x)).chains c.args.beside.now c.rounds.beside c.round_beside.new.beside c.rounds.invariant.follows c.round_beside.ensures.follows

pub rounds-preserved : goal.rounds-preserved
rounds-preserved g c =
    record {
      some = some-worked (record { step = g.P.Program.step; state = g.P.Program.state; last = g.P.Program.last; version = g.P.Program.version }) g.W.Watch.HasSeen g.W.Watch.made c.end_of.new.nodes c.round_beside.new.nodes (some-learned (record { step = g.P.Program.step; state = g.P.Program.state; last = g.P.Program.last; version = g.P.Program.version }) g.W.Watch.HasSeen g.W.Watch.made (IsNumberOf c.rounds.nodes) c.rounds.nodes c.end_of.new.nodes c.rounds.invariant.some c.end_of.ensures.learned) c.round_beside.ensures.goes c.in_ok-round_beside.ensures.works;
      goes = all-both (record { step = g.P.Program.step; state = g.P.Program.state; last = g.P.Program.last; version = g.P.Program.version }) g.W.Watch.HasSeen g.W.Watch.made c.args.nodes.now c.end_of.new.nodes c.round_beside.new.nodes (go-learned (record { step = g.P.Program.step; state = g.P.Program.state; last = g.P.Program.last; version = g.P.Program.version }) g.W.Watch.HasSeen g.W.Watch.made (IsNumberOf c.rounds.nodes) c.args.nodes.now c.rounds.nodes c.end_of.new.nodes c.rounds.invariant.goes c.end_of.ensures.learned) c.round_beside.ensures.goes;
      follows = (g.met.B.Beside g.world.𝓛 g.world.𝓜 g.world.𝓡 ((λ s x. x), (λ x. x), (λ x. x), λ x. x)).chains c.args.beside.now c.rounds.beside c.round_beside.new.beside c.rounds.invariant.follows c.round_beside.ensures.follows;
      unstopped = λ never is. false-not c.in_ok-round_beside.field-0 (c.in_ok-round_beside.ensures.stopped.1 is) c.if-not-branch.false;
    }

pub rounds-smaller : goal.rounds-smaller
rounds-smaller g c =
    round-less (record { step = g.P.Program.step; state = g.P.Program.state; last = g.P.Program.last; version = g.P.Program.version }) g.W.Watch.HasSeen g.W.Watch.made (IsNumberOf c.rounds.nodes) c.rounds.nodes c.end_of.new.nodes c.round_beside.new.nodes c.rounds.invariant.some c.end_of.ensures.learned c.end_of.ensures.met c.in_default.ensures.none c.in_ok-round_beside.ensures.works
