use Rattle.std.proofs.Common.{ap, subst, sym, ◌∙◌, arith}
use Rattle.end_table.specs.Table.{IsHere, entries}
use Rattle.end_table.specs.declared.entry.Entry.TheVariants.{Here}
use Rattle.end_table.specs.Message.{outward_of}
use Rattle.end_table.specs.declared.entry.Sending.TheVariants as sending
use Rattle.end_table.proofs.Change.{HasPlace-here}
use Rattle.end_table.proofs.Holding.{ChangesAt-HasAt, HasRoom-placed, HoldsMessages-changes, is-HasAt, seen}
use Rattle.end_table.proofs.table.Table.wait.Goals as goal

pub put-requires : goal.put-requires
put-requires c = HasRoom-placed _ _ c.args.end c.self.invariant (HasPlace-here _ _ (subst (λ t. IsHere (entries t c.args.end)) (sym c.self.view_is) c.requires.here))

pub invariant_of-self : goal.invariant_of-self
invariant_of-self c =
    HoldsMessages-changes _ _ c.args.end _ _ (ChangesAt-HasAt c.args.end c.self.inside.messages c.put.new.self _ c.put.ensures.put) c.self.invariant
    (let count = c.set_outward.ensures.count in let fits = c.self.invariant.room in let room = c.put.ensures.room in omega arith)
    (λ v. Here (record v { value = c.args.value; outward = outward_of (sending.Waiting c.args.n c.of.result) })) (λ v is. is-HasAt c.self.inside.messages c.put.new.self c.args.end _ c.put.ensures.put ∙ sym (ap seen c.of.ensures))
    (subst (λ t. IsHere (entries t c.args.end)) (sym c.self.view_is) c.requires.here) c.set_outward.ensures.set
