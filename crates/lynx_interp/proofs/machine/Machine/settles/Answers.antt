use Rattle.std.proofs.Common.{◌∙◌, None, ap, subst, sym}
use Rattle.machine_turns.specs.Threads.{Acts}
use Rattle.machine_thread.specs.Told.{action_of, told}
use Rattle.machine_thread.specs.declared.action.Action.{Action}
use Rattle.machine_thread.specs.declared.action.Move.{Move}
use Rattle.lynx_interp.specs.Runs.{Settles}
use Rattle.lynx_interp.proofs.Settling.{asked_for, awaited, went_on}
use Rattle.lynx_interp.proofs.machine.Machine.settles.Goals as goal

pub returns-in-GoesOn : goal.returns-in-GoesOn
returns-in-GoesOn c =
    subst (λ (m : Move). Settles c.args.number m None c.args.self.now c.args.self.now) (sym c.in-GoesOn.is) (went_on c.args.number c.args.self.now c.requires.runs)

pub returns-in_ok-awaits-in-Awaits : goal.returns-in_ok-awaits-in-Awaits
returns-in_ok-awaits-in-Awaits c =
    subst (λ (m : Move). Settles c.args.number m None c.args.self.now c.awaits.new.self) (sym c.in-Awaits.is)
    (awaited c.args.number c.args.self.now c.awaits.new.self c.requires.stands c.in_ok-awaits-in-Awaits.ensures)

pub returns-in_ok-blocks_for-in-Acts : goal.returns-in_ok-blocks_for-in-Acts
returns-in_ok-blocks_for-in-Acts c =
    let action = c.into_inner-action.result in
    asked_for c.args.number c.args.made action c.args.self.now c.blocks_for.new.self
    (λ globals s. ap (λ (m : Move). told m globals s) c.in-Acts.is ∙ ap (λ (a : Action). Acts (action_of a) globals s) (sym c.into_inner-action.ensures)) c.requires.runs c.in_ok-blocks_for-in-Acts.ensures
