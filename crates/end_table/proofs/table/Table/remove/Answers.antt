use Rattle.end_table.proofs.Holding.{ChangesAt-HasAt, HoldsMessages-Clears, room-fewer, none-HasAt}
use Rattle.end_table.proofs.table.Table.remove.Goals as goal

pub invariant_of-self : goal.invariant_of-self
invariant_of-self c =
    HoldsMessages-Clears _ _ c.args.end _ _ (ChangesAt-HasAt c.args.end c.self.inside.messages c.forget.new.self _ c.forget.ensures.none) c.self.invariant
    (room-fewer c.self.inside.places c.remove.new.self c.self.inside.messages c.forget.new.self c.args.end c.self.invariant c.remove.ensures.count c.remove.ensures.fewer c.forget.ensures.absent c.forget.ensures.room)
    c.remove.ensures.cleared (none-HasAt c.self.inside.messages c.forget.new.self c.args.end c.forget.ensures.none)
