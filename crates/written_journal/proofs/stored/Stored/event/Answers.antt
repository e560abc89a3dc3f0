use Rattle.std.proofs.Common.{◌∙◌}
use Rattle.written_journal.proofs.Kept.{are-kept, event-at}
use Rattle.written_journal.proofs.stored.Stored.event.Goals as goal

pub returns-clause-same : goal.returns-clause-same
returns-clause-same c =
    λ e es left.
    let kept = are-kept c.self.inside.written c.self.inside.begun c.self.inside.from c.self.inside.history.told c.args.self.now c.self.invariant c.self.view_is in
    c.index.ensures ∙ (event-at c.self.inside.written c.args.self.now.entries c.args.number e es kept left).is c.index.result.now
