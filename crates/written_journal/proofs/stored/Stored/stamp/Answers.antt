use Rattle.std.proofs.Common.{◌≡◌, ◌∙◌, Some, option_map, ap, sym}
use Rattle.std.specs.List.{slice_get}
use Rattle.written_journal.specs.declared.written.Event.{Event}
use Rattle.written_journal.proofs.Kept.{are-kept, first_stamp-is}
use Rattle.written_journal.proofs.stored.Stored.stamp.Goals as goal

pub returns-clause-same : goal.returns-clause-same
returns-clause-same c =
    let kept = are-kept c.self.inside.written c.self.inside.begun c.self.inside.from c.self.inside.history.told c.args.self.now c.self.invariant c.self.view_is in
    let found : slice_get c.self.inside.written.events.items c.args.number ≡ Some c.in_ok-event.event = sym c.event.ensures ∙ c.in_ok-event.was in
    sym (ap (option_map (λ (ev : Event). ev.stamp)) found) ∙ sym (first_stamp-is c.self.inside.written c.args.self.now.entries c.args.number kept)
