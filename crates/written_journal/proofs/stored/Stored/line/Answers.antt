use Rattle.std.proofs.Common.{◌≡◌, ◌∙◌, ℕ, List, [], ◌+◌, ◌/◌, ◌%◌, ap, eqb, get_or, length, arith}
use Rattle.std.specs.List.{slice_range}
use Rattle.written_journal.specs.Lines.{lines_of}
use Rattle.packed_lines.specs.Packed.{given, kept, line_note, packs}
use Rattle.written_journal.proofs.Kept.{line-of}
use Rattle.packed_lines.proofs.Packed.{given-kept, note-half, note-odd}
use Rattle.written_journal.proofs.stored.Stored.line.Goals as goal

pub overflow_add-result : goal.overflow_add-result
overflow_add-result c =
    let at = line-of c.self.inside.written c.self.inside.begun c.self.inside.from c.self.inside.history.told c.args.self.now c.args.number c.args.from c.self.invariant c.self.view_is c.requires.within c.requires.from in
    let here : List ℕ = get_or (lines_of c.args.self.now.entries) c.args.number [] in
    let within = at.part_within in
    let long : c.from-length.result ≡ length (kept here) = c.from-length.ensures ∙ ap (λ n. n / 2) (c.index-note.ensures ∙ at.note c.index-note.result.now) ∙ note-half (packs here) (length (kept here)) in
    omega (arith, within, long)

pub slice_bounds-result-end : goal.slice_bounds-result-end
slice_bounds-result-end c =
    let at = line-of c.self.inside.written c.self.inside.begun c.self.inside.from c.self.inside.history.told c.args.self.now c.args.number c.args.from c.self.invariant c.self.view_is c.requires.within c.requires.from in
    let here : List ℕ = get_or (lines_of c.args.self.now.entries) c.args.number [] in
    let within = at.part_within in
    let long : c.from-length.result ≡ length (kept here) = c.from-length.ensures ∙ ap (λ n. n / 2) (c.index-note.ensures ∙ at.note c.index-note.result.now) ∙ note-half (packs here) (length (kept here)) in
    omega (arith, within, long, ap length c.deref.ensures.value)

pub returns-clause-text : goal.returns-clause-text
returns-clause-text c =
    let at = line-of c.self.inside.written c.self.inside.begun c.self.inside.from c.self.inside.history.told c.args.self.now c.args.number c.args.from c.self.invariant c.self.view_is c.requires.within c.requires.from in
    let here : List ℕ = get_or (lines_of c.args.self.now.entries) c.args.number [] in
    let note : c.index-note.result.now ≡ line_note here = c.index-note.ensures ∙ at.note c.index-note.result.now in
    let long : c.from-length.result ≡ length (kept here) = c.from-length.ensures ∙ ap (λ n. n / 2) note ∙ note-half (packs here) (length (kept here)) in
    let bytes : slice_range c.deref.result.now c.args.from (c.args.from + c.from-length.result) ≡ kept here =
    ap (λ (t : List ℕ). slice_range t c.args.from (c.args.from + c.from-length.result)) c.deref.ensures.value
    ∙ ap (λ (n : ℕ). slice_range c.self.inside.written.text.items c.args.from (c.args.from + n)) long ∙ at.part in
    ap (λ n. given (eqb (n % 2) 1) (slice_range c.deref.result.now c.args.from (c.args.from + c.from-length.result))) note
    ∙ ap (λ p. given p (slice_range c.deref.result.now c.args.from (c.args.from + c.from-length.result))) (note-odd (packs here) (length (kept here)))
    ∙ ap (given (packs here)) bytes ∙ given-kept here

pub returns-clause-long : goal.returns-clause-long
returns-clause-long c =
    let at = line-of c.self.inside.written c.self.inside.begun c.self.inside.from c.self.inside.history.told c.args.self.now c.args.number c.args.from c.self.invariant c.self.view_is c.requires.within c.requires.from in
    let here : List ℕ = get_or (lines_of c.args.self.now.entries) c.args.number [] in
    let long : c.from-length.result ≡ length (kept here) = c.from-length.ensures ∙ ap (λ n. n / 2) (c.index-note.ensures ∙ at.note c.index-note.result.now) ∙ note-half (packs here) (length (kept here)) in
    ap (λ (t : List ℕ). length (slice_range t c.args.from (c.args.from + c.from-length.result))) c.deref.ensures.value
    ∙ ap (λ (n : ℕ). length (slice_range c.self.inside.written.text.items c.args.from (c.args.from + n))) long ∙ ap length at.part
