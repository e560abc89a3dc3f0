use Rattle.std.proofs.Common.{arith, length, Bool, ap, subst}
use Rattle.std.specs.Prelude.{sum_by}
use Rattle.process_run.specs.States.{State}
use Rattle.lynx_rt.specs.Steps.{IsRound, next_if}
use Rattle.lynx_rt.proofs.Stepping.{goes_far, goes_over, is_more, starts}
use Rattle.lynx_rt.proofs.process.Running.slice.Goals as goal

pub rounds-init : goal.rounds-init
rounds-init c = starts _ c.args.self.now (omega (arith, c.count.ensures, ap (λ (s : State). sum_by length s.opened) c.self.view_is)) c.requires.process c.requires.may

pub returns-then-is_next-clause-slice : goal.returns-then-is_next-clause-slice
returns-then-is_next-clause-slice c =
    let round = subst (λ (b : Bool). IsRound c.rounds.actions c.rounds.fuel c.rounds.self (next_if b c.round.new.out) c.in_ok-is_next.left c.round.new.self) c.if-is_next.true c.in_ok-is_next.ensures.round in
    goes_over c.args.self.now c.rounds.actions c.rounds.fuel c.in_ok-is_next.left c.rounds.self c.round.new.self _ c.rounds.invariant round

pub rounds-preserved : goal.rounds-preserved
rounds-preserved c =
    let round = subst (λ (b : Bool). IsRound c.rounds.actions c.rounds.fuel c.rounds.self (next_if b c.round.new.out) c.in_ok-is_next.left c.round.new.self) c.if-is_next.false c.in_ok-is_next.ensures.round in
    goes_far c.args.self.now c.rounds.actions c.rounds.fuel c.in_ok-is_next.left c.rounds.self c.round.new.self c.rounds.invariant round c.in_ok-is_next.ensures.process
