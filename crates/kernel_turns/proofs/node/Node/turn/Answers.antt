use Rattle.kernel_turns.proofs.Goes.{goes-turned}
use Rattle.kernel_turns.proofs.Left.{turn-lessens}
use Rattle.kernel_turns.proofs.node.Node.turn.Goals as goal

pub returns-clause-goes : goal.returns-clause-goes
returns-clause-goes g c =
    let said = c.turn_unspoiled-turn.ensures in
    goes-turned _ _ _ c.turn_unspoiled-turn.result c.is_err-self.result c.args.self.now c.turn_unspoiled-turn.new.self c.is_err-self.ensures.value said.turn said.in_range said.seen said.same c.if-self.false said.spoiled
    said.place said.orders said.count said.made

pub returns-clause-left : goal.returns-clause-left
returns-clause-left g c = turn-lessens _ _ c.args.self.now c.requires.node c.if-self.false c.turn_unspoiled-turn.result c.turn_unspoiled-turn.new.self c.turn_unspoiled-turn.ensures.turn
