use Rattle.std.proofs.Common.{◌≡◌, sym, subst}
use Rattle.std.proofs.lemmas.Result.{IfOk-weaker}
use Rattle.machine_turns.specs.Turns.{at_start}
use Rattle.lynx_interp.specs.Machines.{IsMachine, State, start_globals, state_of}
use Rattle.lynx_interp.proofs.Machines.{params_fit, start_machine}
use Rattle.lynx_interp.proofs.machine.Machine.start.Goals as goal

pub fresh-requires-clause-params : goal.fresh-requires-clause-params
fresh-requires-clause-params c =
    let is = c.requires.code.params in
    params_fit c.args.code.globals.items is.0 c.args.code.params _ is.1 c.requires.params

pub returns-clause-machine : goal.returns-clause-machine
returns-clause-machine c =
    let first = state_of c.args.code (at_start (start_globals c.args.code.globals.items c.args.links.items)) in
    IfOk-weaker c.fresh.result (λ (s : State). s ≡ first) IsMachine (λ s e. subst (λ (m : State). IsMachine m) (sym e) (start_machine c.args.code c.args.links.items c.requires.code c.requires.params)) c.fresh.ensures
