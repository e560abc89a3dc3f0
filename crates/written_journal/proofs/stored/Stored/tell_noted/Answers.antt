use Rattle.written_journal.proofs.Journals.{noted-range}
use Rattle.written_journal.proofs.stored.Stored.tell_noted.Goals as goal

pub returns : goal.returns
returns c =
    noted-range c.self.inside.written c.self.inside.begun c.self.inside.from c.self.inside.history.told c.args.self.now c.args.stamp c.args.steps.now c.self.invariant c.self.view_is c.tell_u64.ensures c.tell_steps.ensures
