use Rattle.kernel_worker.proofs.Progress.{all-both, go-learned, ran-learned, round-less, some-each, some-few, some-learned, some-may, some-worked, unspoiled-learned}
use Rattle.kernel_worker.specs.Rounds.{IsNumberOf}
use Rattle.kernel_worker.proofs.serial.run_in_turns.Goals as goal

pub turn_on-requires : goal.turn_on-requires
turn_on-requires g c =
    record { nodes = some-each (record { step = g.P.Program.step; state = g.P.Program.state; last = g.P.Program.last; version = g.P.Program.version }) g.W.Watch.HasSeen c.args.nodes.now c.requires.nodes; few = some-few (record { step = g.P.Program.step; state = g.P.Program.state; last = g.P.Program.last; version = g.P.Program.version }) g.W.Watch.HasSeen c.args.nodes.now c.requires.nodes }

pub rounds-init : goal.rounds-init
rounds-init g c =
    record { some = some-worked (record { step = g.P.Program.step; state = g.P.Program.state; last = g.P.Program.last; version = g.P.Program.version }) g.W.Watch.HasSeen g.W.Watch.made c.args.nodes.now c.turn_on.new.nodes c.requires.nodes c.turn_on.ensures.goes c.in_ok-turn_on.ensures.works; goes = c.turn_on.ensures.goes }

pub end_of-requires-clause-meet : goal.end_of-requires-clause-meet
end_of-requires-clause-meet g c =
    some-may (record { step = g.P.Program.step; state = g.P.Program.state; last = g.P.Program.last; version = g.P.Program.version }) g.W.Watch.HasSeen c.rounds.nodes c.rounds.invariant.some

pub returns-in-Some-clause-goes : goal.returns-in-Some-clause-goes
returns-in-Some-clause-goes g c =
    go-learned (record { step = g.P.Program.step; state = g.P.Program.state; last = g.P.Program.last; version = g.P.Program.version }) g.W.Watch.HasSeen g.W.Watch.made (IsNumberOf c.rounds.nodes) c.args.nodes.now c.rounds.nodes c.end_of.new.nodes c.rounds.invariant.goes c.end_of.ensures.learned

pub returns-in-Some-clause-met : goal.returns-in-Some-clause-met
returns-in-Some-clause-met g c =
    (c.end_of.ensures.met, unspoiled-learned (IsNumberOf c.rounds.nodes) c.rounds.nodes c.end_of.new.nodes c.end_of.ensures.learned c.rounds.invariant.some.unspoiled)

pub returns-in-Some-clause-run : goal.returns-in-Some-clause-run
returns-in-Some-clause-run g c =
    ran-learned (record { step = g.P.Program.step; state = g.P.Program.state; last = g.P.Program.last; version = g.P.Program.version }) g.W.Watch.HasSeen g.W.Watch.made (IsNumberOf c.rounds.nodes) c.args.nodes.now c.rounds.nodes c.end_of.new.nodes c.rounds.invariant.some c.rounds.invariant.goes c.end_of.ensures.learned c.end_of.ensures.met

pub turn_on-requires-in-rounds : goal.turn_on-requires-in-rounds
turn_on-requires-in-rounds g c =
    let some = some-learned (record { step = g.P.Program.step; state = g.P.Program.state; last = g.P.Program.last; version = g.P.Program.version }) g.W.Watch.HasSeen g.W.Watch.made (IsNumberOf c.rounds.nodes) c.rounds.nodes c.end_of.new.nodes c.rounds.invariant.some c.end_of.ensures.learned in
    record { nodes = some-each (record { step = g.P.Program.step; state = g.P.Program.state; last = g.P.Program.last; version = g.P.Program.version }) g.W.Watch.HasSeen c.end_of.new.nodes some; few = some-few (record { step = g.P.Program.step; state = g.P.Program.state; last = g.P.Program.last; version = g.P.Program.version }) g.W.Watch.HasSeen c.end_of.new.nodes some }

pub returns-in_err-turn_on-2-clause-goes : goal.returns-in_err-turn_on-2-clause-goes
returns-in_err-turn_on-2-clause-goes g c =
    all-both (record { step = g.P.Program.step; state = g.P.Program.state; last = g.P.Program.last; version = g.P.Program.version }) g.W.Watch.HasSeen g.W.Watch.made c.args.nodes.now c.end_of.new.nodes c.turn_on-in-rounds.new.nodes (go-learned (record { step = g.P.Program.step; state = g.P.Program.state; last = g.P.Program.last; version = g.P.Program.version }) g.W.Watch.HasSeen g.W.Watch.made (IsNumberOf c.rounds.nodes) c.args.nodes.now c.rounds.nodes c.end_of.new.nodes c.rounds.invariant.goes c.end_of.ensures.learned) c.turn_on-in-rounds.ensures.goes

pub rounds-preserved : goal.rounds-preserved
rounds-preserved g c =
    record {
      some = some-worked (record { step = g.P.Program.step; state = g.P.Program.state; last = g.P.Program.last; version = g.P.Program.version }) g.W.Watch.HasSeen g.W.Watch.made c.end_of.new.nodes c.turn_on-in-rounds.new.nodes (some-learned (record { step = g.P.Program.step; state = g.P.Program.state; last = g.P.Program.last; version = g.P.Program.version }) g.W.Watch.HasSeen g.W.Watch.made (IsNumberOf c.rounds.nodes) c.rounds.nodes c.end_of.new.nodes c.rounds.invariant.some c.end_of.ensures.learned) c.turn_on-in-rounds.ensures.goes c.in_ok-turn_on-2.ensures.works;
      goes = all-both (record { step = g.P.Program.step; state = g.P.Program.state; last = g.P.Program.last; version = g.P.Program.version }) g.W.Watch.HasSeen g.W.Watch.made c.args.nodes.now c.end_of.new.nodes c.turn_on-in-rounds.new.nodes (go-learned (record { step = g.P.Program.step; state = g.P.Program.state; last = g.P.Program.last; version = g.P.Program.version }) g.W.Watch.HasSeen g.W.Watch.made (IsNumberOf c.rounds.nodes) c.args.nodes.now c.rounds.nodes c.end_of.new.nodes c.rounds.invariant.goes c.end_of.ensures.learned) c.turn_on-in-rounds.ensures.goes;
    }

pub rounds-smaller : goal.rounds-smaller
rounds-smaller g c =
    round-less (record { step = g.P.Program.step; state = g.P.Program.state; last = g.P.Program.last; version = g.P.Program.version }) g.W.Watch.HasSeen g.W.Watch.made (IsNumberOf c.rounds.nodes) c.rounds.nodes c.end_of.new.nodes c.turn_on-in-rounds.new.nodes c.rounds.invariant.some c.end_of.ensures.learned c.end_of.ensures.met c.in_default.ensures.none c.in_ok-turn_on-2.ensures.works
