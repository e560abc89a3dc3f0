use Rattle.written_journal.proofs.Journals.{one-stored, one-told}
use Rattle.written_journal.proofs.stored.Stored.one.Goals as goal

pub invariant_of-result : goal.invariant_of-result
invariant_of-result c =
    one-stored c.self.inside.written c.in_ok-one.field-0 c.self.inside.begun c.nothing.result c.self.inside.from c.self.inside.history.told c.new.result.told c.then.result.told c.args.self.now c.args.number c.self.invariant c.self.view_is c.requires
    (c.in_ok-one.ensures c.self.inside.history.told.entries c.self.invariant.kept) c.nothing.ensures c.new.ensures c.then.ensures

pub returns : goal.returns
returns c = one-told c.self.inside.history.told c.new.result.told c.then.result.told c.args.self.now c.args.number c.self.view_is c.requires c.new.ensures c.then.ensures
