use Rattle.std.proofs.Common.{Option, subst}
use Rattle.lynx_interp.specs.Runs.{IsRound}
use Rattle.lynx_interp.specs.declared.stop.Stop.{Stop}
use Rattle.lynx_interp.proofs.Rounds.{goes_far, goes_over}
use Rattle.lynx_interp.proofs.machine.Machine.run.Goals as goal

pub returns-in-Some-clause-runs : goal.returns-in-Some-clause-runs
returns-in-Some-clause-runs c =
    let round = subst (λ (o : Option Stop). IsRound c.rounds.left c.rounds.self o c.in_ok-stopped.rest c.round.new.self) c.in-Some.is c.in_ok-stopped.ensures in
    (goes_over c.args.fuel c.rounds.left c.in_ok-stopped.rest c.args.self.now c.rounds.self c.round.new.self c.rounds.invariant c.in-Some.stop round).runs

pub returns-in-Some-clause-left : goal.returns-in-Some-clause-left
returns-in-Some-clause-left c =
    let round = subst (λ (o : Option Stop). IsRound c.rounds.left c.rounds.self o c.in_ok-stopped.rest c.round.new.self) c.in-Some.is c.in_ok-stopped.ensures in
    (goes_over c.args.fuel c.rounds.left c.in_ok-stopped.rest c.args.self.now c.rounds.self c.round.new.self c.rounds.invariant c.in-Some.stop round).stopped.1

pub returns-in-Some-clause-stops : goal.returns-in-Some-clause-stops
returns-in-Some-clause-stops c =
    let round = subst (λ (o : Option Stop). IsRound c.rounds.left c.rounds.self o c.in_ok-stopped.rest c.round.new.self) c.in-Some.is c.in_ok-stopped.ensures in
    (goes_over c.args.fuel c.rounds.left c.in_ok-stopped.rest c.args.self.now c.rounds.self c.round.new.self c.rounds.invariant c.in-Some.stop round).stopped.0

pub rounds-preserved : goal.rounds-preserved
rounds-preserved c =
    let round = subst (λ (o : Option Stop). IsRound c.rounds.left c.rounds.self o c.in_ok-stopped.rest c.round.new.self) c.in-None.is c.in_ok-stopped.ensures in
    goes_far c.args.fuel c.rounds.left c.in_ok-stopped.rest c.args.self.now c.rounds.self c.round.new.self c.rounds.invariant round

pub returns-in-Some-clause-of_code : goal.returns-in-Some-clause-of_code
returns-in-Some-clause-of_code c =
    let round = subst (λ (o : Option Stop). IsRound c.rounds.left c.rounds.self o c.in_ok-stopped.rest c.round.new.self) c.in-Some.is c.in_ok-stopped.ensures in
    (goes_over c.args.fuel c.rounds.left c.in_ok-stopped.rest c.args.self.now c.rounds.self c.round.new.self c.rounds.invariant c.in-Some.stop round).of_code

pub returns-in-Some-clause-requests : goal.returns-in-Some-clause-requests
returns-in-Some-clause-requests c =
    let round = subst (λ (o : Option Stop). IsRound c.rounds.left c.rounds.self o c.in_ok-stopped.rest c.round.new.self) c.in-Some.is c.in_ok-stopped.ensures in
    (goes_over c.args.fuel c.rounds.left c.in_ok-stopped.rest c.args.self.now c.rounds.self c.round.new.self c.rounds.invariant c.in-Some.stop round).requests
