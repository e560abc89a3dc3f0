use Rattle.std.proofs.Common.{None, subst, sym}
use Rattle.written_journal.specs.Kept.{IsStored}
use Rattle.written_journal.specs.Told.{Told}
use Rattle.written_journal.proofs.Journals.{cut-stored}
use Rattle.written_journal.proofs.stored.Stored.cut.Goals as goal

pub invariant_of-self : goal.invariant_of-self
invariant_of-self c =
    subst (λ (t : Told). IsStored c.cut.new.self c.clear.new.self None t) (sym c.then-self-inside.ensures)
    (cut-stored c.self.inside.written c.cut.new.self c.self.inside.begun c.clear.new.self c.self.inside.from c.self.inside.history.told c.args.first c.self.invariant (c.cut.ensures c.self.inside.history.told.entries c.self.invariant.kept) c.clear.ensures)
