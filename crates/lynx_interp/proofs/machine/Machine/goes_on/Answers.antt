use Rattle.std.proofs.Common.{Option, subst, sym}
use Rattle.lynx_interp.specs.Runs.{IsRound}
use Rattle.lynx_interp.specs.declared.stop.Stop.{Stop}
use Rattle.lynx_interp.proofs.Rounds.{gone_stands, round_told, taken_goes}
use Rattle.lynx_interp.proofs.machine.Machine.goes_on.Goals as goal

pub turn-requires : goal.turn-requires
turn-requires c =
    taken_goes c.takes_turn-number.result c.args.self.now c.takes_turn-number.new.self c.requires.machine c.takes_turn-number.ensures.turn c.takes_turn-number.ensures.number

pub settles-requires-clause-stands : goal.settles-requires-clause-stands
settles-requires-clause-stands c =
    gone_stands c.takes_turn-number.result c.args.fuel c.in_ok-made.left c.takes_turn-number.new.self c.turn.new.self c.in_ok-made.made c.in_ok-made.ensures

pub returns : goal.returns
returns c =
    subst (λ (o : Option Stop). IsRound c.args.fuel c.args.self.now o c.in_ok-made.left c.settles.new.self) (sym c.stop_for.ensures)
    (round_told c.args.fuel c.in_ok-made.left c.takes_turn-number.result c.args.self.now c.takes_turn-number.new.self c.turn.new.self c.settles.new.self c.in_ok-made.made c.in_ok-action.action c.requires.machine
    c.requires.goes_on c.takes_turn-number.ensures.turn c.takes_turn-number.ensures.number c.in_ok-made.ensures c.in_ok-action.ensures)
