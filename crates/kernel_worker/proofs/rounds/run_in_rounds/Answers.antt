use denote.Param.Send.{sendable}
use Rattle.kernel_worker.proofs.Progress.{all-both, all-none, go-learned, ran-learned, round-less, some-each, some-learned, some-may, some-worked, unspoiled-learned}
use Rattle.kernel_worker.specs.Rounds.{IsNumberOf}
use Rattle.kernel_worker.proofs.rounds.run_in_rounds.Goals as goal

pub rounds-init : goal.rounds-init
rounds-init g c =
    record { some = c.requires.nodes; goes = all-none (record { step = g.P.Program.step; state = g.P.Program.state; last = g.P.Program.last; version = g.P.Program.version }) g.W.Watch.HasSeen g.W.Watch.made c.args.nodes.now }

pub end_of-requires-clause-meet : goal.end_of-requires-clause-meet
end_of-requires-clause-meet g c =
    some-may (record { step = g.P.Program.step; state = g.P.Program.state; last = g.P.Program.last; version = g.P.Program.version }) g.W.Watch.HasSeen c.rounds.nodes c.rounds.invariant.some

pub returns-in-Some-clause-goes : goal.returns-in-Some-clause-goes
returns-in-Some-clause-goes g c =
    go-learned (record { step = g.P.Program.step; state = g.P.Program.state; last = g.P.Program.last; version = g.P.Program.version }) g.W.Watch.HasSeen g.W.Watch.made (IsNumberOf c.rounds.nodes) c.args.nodes.now c.rounds.nodes c.end_of.new.nodes c.rounds.invariant.goes c.end_of.ensures.learned

pub returns-in-Some-clause-met : goal.returns-in-Some-clause-met
returns-in-Some-clause-met g c =
    (c.end_of.ensures.met, unspoiled-learned (IsNumberOf c.rounds.nodes) c.rounds.nodes c.end_of.new.nodes c.end_of.ensures.learned c.rounds.invariant.some.unspoiled)

pub returns-in-Some-clause-run : goal.returns-in-Some-clause-run
returns-in-Some-clause-run g c =
    ran-learned (record { step = g.P.Program.step; state = g.P.Program.state; last = g.P.Program.last; version = g.P.Program.version }) g.W.Watch.HasSeen g.W.Watch.made (IsNumberOf c.rounds.nodes) c.args.nodes.now c.rounds.nodes c.end_of.new.nodes c.rounds.invariant.some c.rounds.invariant.goes c.end_of.ensures.learned c.end_of.ensures.met

pub round-requires : goal.round-requires
round-requires g c =
    (search sendable depth 20, (search sendable depth 20, (search sendable depth 20, (search sendable depth 20, some-each (record { step = g.P.Program.step; state = g.P.Program.state; last = g.P.Program.last; version = g.P.Program.version }) g.W.Watch.HasSeen c.end_of.new.nodes (some-learned (record { step = g.P.Program.step; state = g.P.Program.state; last = g.P.Program.last; version = g.P.Program.version }) g.W.Watch.HasSeen g.W.Watch.made (IsNumberOf c.rounds.nodes) c.rounds.nodes c.end_of.new.nodes c.rounds.invariant.some c.end_of.ensures.learned)))))

pub returns-in_err-round-clause-goes : goal.returns-in_err-round-clause-goes
returns-in_err-round-clause-goes g c =
    all-both (record { step = g.P.Program.step; state = g.P.Program.state; last = g.P.Program.last; version = g.P.Program.version }) g.W.Watch.HasSeen g.W.Watch.made c.args.nodes.now c.end_of.new.nodes c.round.new.nodes (go-learned (record { step = g.P.Program.step; state = g.P.Program.state; last = g.P.Program.last; version = g.P.Program.version }) g.W.Watch.HasSeen g.W.Watch.made (IsNumberOf c.rounds.nodes) c.args.nodes.now c.rounds.nodes c.end_of.new.nodes c.rounds.invariant.goes c.end_of.ensures.learned) c.round.ensures.goes

pub rounds-preserved : goal.rounds-preserved
rounds-preserved g c =
    record {
      some = some-worked (record { step = g.P.Program.step; state = g.P.Program.state; last = g.P.Program.last; version = g.P.Program.version }) g.W.Watch.HasSeen g.W.Watch.made c.end_of.new.nodes c.round.new.nodes (some-learned (record { step = g.P.Program.step; state = g.P.Program.state; last = g.P.Program.last; version = g.P.Program.version }) g.W.Watch.HasSeen g.W.Watch.made (IsNumberOf c.rounds.nodes) c.rounds.nodes c.end_of.new.nodes c.rounds.invariant.some c.end_of.ensures.learned) c.round.ensures.goes c.in_ok-round.ensures.works;
      goes = all-both (record { step = g.P.Program.step; state = g.P.Program.state; last = g.P.Program.last; version = g.P.Program.version }) g.W.Watch.HasSeen g.W.Watch.made c.args.nodes.now c.end_of.new.nodes c.round.new.nodes (go-learned (record { step = g.P.Program.step; state = g.P.Program.state; last = g.P.Program.last; version = g.P.Program.version }) g.W.Watch.HasSeen g.W.Watch.made (IsNumberOf c.rounds.nodes) c.args.nodes.now c.rounds.nodes c.end_of.new.nodes c.rounds.invariant.goes c.end_of.ensures.learned) c.round.ensures.goes;
    }

pub rounds-smaller : goal.rounds-smaller
rounds-smaller g c =
    round-less (record { step = g.P.Program.step; state = g.P.Program.state; last = g.P.Program.last; version = g.P.Program.version }) g.W.Watch.HasSeen g.W.Watch.made (IsNumberOf c.rounds.nodes) c.rounds.nodes c.end_of.new.nodes c.round.new.nodes c.rounds.invariant.some c.end_of.ensures.learned c.end_of.ensures.met c.in_default.ensures.none c.in_ok-round.ensures.works
