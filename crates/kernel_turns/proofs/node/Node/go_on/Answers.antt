use Rattle.std.proofs.Common.{rules, ◌≡◌, true, false}
use Rattle.kernel_turns.specs.Turns.{Idles, SendsOnly}
use Rattle.kernel_turns.proofs.node.Node.go_on.Goals as goal

pub returns-in-None-clause-turn : goal.returns-in-None-clause-turn
returns-in-None-clause-turn g c =
    let is : c.args.put ≡ true = search rules in
    SendsOnly c.args.self.now c.requires.amid.turns c.requires.letter c.in-None.ensures.none is

pub returns-in-None-2-clause-turn : goal.returns-in-None-2-clause-turn
returns-in-None-2-clause-turn g c =
    let is : c.args.put ≡ false = search rules in
    Idles c.args.self.now c.requires.amid.turns c.requires.letter c.in-None.ensures.none is
