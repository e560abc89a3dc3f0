use Rattle.std.proofs.Common.{◌≡◌, ◌∙◌, List, [], ◌∷◌, ◌++◌, All, Some, ap, subst, sym}
use Rattle.charlotte_calls.specs.declared.calls.ServiceStep.{ServiceStep}
use Rattle.kernel_entries.specs.Ranges.{IsEntryInRange}
use Rattle.kernel_entries.specs.declared.entry.Entry.{Entry}
use Rattle.written_journal.specs.Kept.{Happenings}
use Rattle.written_journal.proofs.Late.{begun-none, late-begun, stored-begun, with-none}
use Rattle.written_journal.proofs.journal.WrittenJournal.note.Goals as goal

pub returns-in-Ok-clause-begun : goal.returns-in-Ok-clause-begun
returns-in-Ok-clause-begun c =
    let what = c.requires.begun.0 in
    late-begun c.note.new.self c.self.inside.late (ap (λ (h : Happenings). h.begun) (c.in-Ok.ensures.noted what (stored-begun c.self.inside.stored c.self.inside.late c.args.self.now what c.self.view_is c.requires.begun.1)))

pub returns-in-Ok-clause-in_range : goal.returns-in-Ok-clause-in_range
returns-in-Ok-clause-in_range c =
    let what = c.requires.begun.0 in
    let begun = stored-begun c.self.inside.stored c.self.inside.late c.args.self.now what c.self.view_is c.requires.begun.1 in
    let none = begun-none c.self.inside.stored c.self.inside.late what (ap (λ (h : Happenings). h.begun) c.self.view_is ∙ c.requires.begun.1) in
    let entry : List ServiceStep → Entry = λ steps. record { stamp = c.args.stamp; what = what; steps = steps } in
    subst (λ (h : Happenings). All IsEntryInRange h.entries) (sym (with-none c.note.new.self c.self.inside.late none ∙ c.in-Ok.ensures.noted what begun))
    (subst (λ (steps : List ServiceStep). All IsEntryInRange (c.self.inside.stored.entries ++ entry steps ∷ [])) (c.as_slice.ensures.value ∙ sym c.as_slice-2.ensures.value) (c.tell_noted.ensures what begun))
