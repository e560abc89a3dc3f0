use Rattle.std.proofs.Common.{refl, subst, sym, arith}
use Rattle.end_table.specs.Table.{IsHere, entries}
use Rattle.end_table.specs.declared.entry.Entry.TheVariants.{Here}
use Rattle.end_table.specs.Message.{outward_of}
use Rattle.end_table.proofs.Holding.{HoldsMessages-changes}
use Rattle.end_table.proofs.table.Table.set_sending.Goals as goal

pub invariant_of-self : goal.invariant_of-self
invariant_of-self c =
    HoldsMessages-changes _ _ c.args.end _ _ (λ q apart. refl) c.self.invariant (let count = c.set_outward.ensures.count in let fits = c.self.invariant.room in omega arith)
    (λ v. Here (record v { value = c.args.value; outward = outward_of c.args.sending })) (λ v is. rw c.requires.no_message tt)
    (subst (λ t. IsHere (entries t c.args.end)) (sym c.self.view_is) (c.requires.here)) c.set_outward.ensures.set
