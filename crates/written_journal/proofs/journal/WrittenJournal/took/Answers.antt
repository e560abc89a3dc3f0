use Rattle.std.proofs.Common.{◌≡◌, ◌∙◌, Option, None, Ok, Err, ap}
use Rattle.std.specs.Prelude.{OnErr}
use Rattle.written_journal.specs.Kept.{Happenings}
use Rattle.written_journal.specs.Late.{with_late}
use Rattle.written_journal.specs.declared.journal.Late.{Late}
use Rattle.written_journal.proofs.journal.WrittenJournal.took.Goals as goal

pub returns-in_err-store-clause-forgotten : goal.returns-in_err-store-clause-forgotten
returns-in_err-store-clause-forgotten c =
    let none : (with_late c.store.new.stored c.store.new.late).begun ≡ None =
    ap (λ (s : Happenings). (with_late s c.store.new.late).begun) c.in_err-store.ensures.same ∙ ap (λ (l : Option Late). (with_late c.self.inside.stored l).begun) c.in_err-store.ensures.late_same ∙ c.in_err-store.ensures.none_begun in
    elim c.from_residual.result as (λ r. OnErr r ((with_late c.store.new.stored c.store.new.late).begun ≡ None)) [ Ok u ↦ tt | Err e ↦ none ]
