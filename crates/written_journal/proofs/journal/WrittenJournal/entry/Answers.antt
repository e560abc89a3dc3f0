use Rattle.std.proofs.Common.{◌≡◌, ◌∙◌, ℕ, Option, Some, ap, arith, length, rules, sym}
use Rattle.std.specs.List.{slice_get}
use Rattle.kernel_entries.specs.declared.entry.Entry.{Entry}
use Rattle.written_journal.specs.Kept.{Happenings}
use Rattle.written_journal.specs.Late.{with_late}
use Rattle.written_journal.proofs.Late.{late-alone, stored-place}
use Rattle.written_journal.proofs.journal.WrittenJournal.entry.Goals as goal

pub of-requires : goal.of-requires
of-requires c =
    let at : c.self.inside.late ≡ Some c.in-Some.late = search rules in
    let last = late-alone c.self.inside.stored c.self.inside.late c.in-Some.late c.in_ok-alone-in-Some.alone c.note.new.self c.as_slice.result.now c.self.invariant at c.in_ok-alone-in-Some.ensures c.as_slice.ensures.value c.in_ok-note-in-Some.ensures.noted in
    (last.0, last.1)

pub of-requires-in_default : goal.of-requires-in_default
of-requires-in_default c = (c.in_ok-one-in_default.ensures.0, ap (λ (h : Happenings). h.entries) c.in_ok-one-in_default.ensures.1)

pub returns-in_ok-note-in-Some : goal.returns-in_ok-note-in-Some
returns-in_ok-note-in-Some c =
    let at : c.self.inside.late ≡ Some c.in-Some.late = search rules in
    let last = late-alone c.self.inside.stored c.self.inside.late c.in-Some.late c.in_ok-alone-in-Some.alone c.note.new.self c.as_slice.result.now c.self.invariant at c.in_ok-alone-in-Some.ensures c.as_slice.ensures.value c.in_ok-note-in-Some.ensures.noted in
    let place : c.args.place ≡ length c.self.inside.stored.entries = omega (arith, c.if-len-place.true, c.len.ensures) in
    ap (λ (h : Happenings). slice_get h.entries c.args.place) (sym c.self.view_is) ∙ ap (λ (n : ℕ). slice_get (with_late c.self.inside.stored c.self.inside.late).entries n) place ∙ last.2 ∙ ap Some (sym (c.of.ensures last.0 last.1))

pub returns-in_ok-one-in_default : goal.returns-in_ok-one-in_default
returns-in_ok-one-in_default c =
    let one = c.in_ok-one-in_default.ensures in
    ap (λ (h : Happenings). slice_get h.entries c.args.place) (sym c.self.view_is) ∙ stored-place c.self.inside.stored c.self.inside.late c.args.place one.0 c.self.invariant one.2
    ∙ ap Some (sym (c.of-in_default.ensures one.0 (ap (λ (h : Happenings). h.entries) one.1)))
