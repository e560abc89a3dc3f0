use Rattle.machine_sound.proofs.Outside.{given_stay}
use Rattle.machine_sound.specs.Sound.{StayOthers}
use Rattle.std.proofs.Common.{◌≡◌, sym, subst}
use Rattle.std.proofs.lemmas.Result.{on_ok_weaker}
use Rattle.machine_turns.specs.Turns.{given_to}
use Rattle.machine_thread.specs.Told.{outcome_of}
use Rattle.lynx_interp.specs.Machines.{GivesRequests, IsMachine, State}
use Rattle.lynx_interp.proofs.Machines.{given_machine, gives_requests}
use Rattle.lynx_interp.proofs.machine.Machine.give.Goals as goal

pub gives-requires : goal.gives-requires
gives-requires c = (c.requires.fits.1.0, c.requires.fits.1.1)

pub returns-clause-machine : goal.returns-clause-machine
returns-clause-machine c =
    let before = c.args.self.now in
    let outcome = outcome_of c.args.outcome in
    on_ok_weaker c.gives.result
    (λ (e : c.gives.new.self ≡ record before { turns = given_to c.args.thread outcome before.turns }).
    subst (λ (m : State). IsMachine m) (sym e) (given_machine before c.args.thread outcome c.requires.machine c.requires.fits))
    c.gives.ensures

pub returns-clause-others : goal.returns-clause-others
returns-clause-others c =
    let before = c.args.self.now in
    let outcome = outcome_of c.args.outcome in
    on_ok_weaker c.gives.result
    (λ (e : c.gives.new.self ≡ record before { turns = given_to c.args.thread outcome before.turns }).
    subst (λ (m : State). StayOthers c.args.thread before.turns m.turns) (sym e) (given_stay before.turns c.args.thread outcome))
    c.gives.ensures

pub returns-clause-requests : goal.returns-clause-requests
returns-clause-requests c =
    let before = c.args.self.now in
    let outcome = outcome_of c.args.outcome in
    on_ok_weaker c.gives.result
    (λ (e : c.gives.new.self ≡ record before { turns = given_to c.args.thread outcome before.turns }).
    subst (λ (m : State). GivesRequests c.args.thread outcome before m) (sym e) (gives_requests before c.args.thread outcome c.requires.machine))
    c.gives.ensures
