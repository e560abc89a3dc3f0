use Rattle.std.proofs.Common.{◌≡◌, ◌∙◌, ℕ, List, [], ◌∷◌, ◌++◌, ◌+◌, ◌-◌, ◌<◌, ap, take, drop, get_or, length, refl, sym, arith}
use Rattle.written_journal.specs.Given.{Rest}
use Rattle.written_journal.specs.Lines.{lines_of}
use Rattle.packed_lines.specs.Packed.{given}
use Rattle.written_journal.proofs.Given.{line-below, stepped}
use Rattle.written_journal.proofs.reader.Reader.step_line.Goals as goal

pub line-line-requires-clause-within : goal.line-line-requires-clause-within
line-line-requires-clause-within c =
    let some : 0 < c.self.inside.place.left = omega (arith, c.if-self-eq0.false) in
    line-below c.self.inside.journal.entries c.self.inside.place c.self.invariant some

pub invariant_of-self : goal.invariant_of-self
invariant_of-self c =
    let some : 0 < c.self.inside.place.left = omega (arith, c.if-self-eq0.false) in
    (stepped c.self.inside.journal.entries c.self.inside.place (get_or (lines_of c.self.inside.journal.entries) c.self.inside.place.lines []) (length c.line-line.result.bytes.now) c.self.invariant some refl c.line-line.ensures.long).place

pub returns-clause-given : goal.returns-clause-given
returns-clause-given c =
    let some : 0 < c.self.inside.place.left = omega (arith, c.if-self-eq0.false) in
    let here : List ℕ = get_or (lines_of c.self.inside.journal.entries) c.self.inside.place.lines [] in
    let text : c.push_line.new.out.items ≡ here = c.in_ok-push_line.ensures ∙ ap (λ t. t ++ given c.line-line.result.packed c.line-line.result.bytes.now) c.requires ∙ c.line-line.ensures.text in
    sym (ap (λ (r : Rest). r.lines) c.self.view_is) ∙ (stepped c.self.inside.journal.entries c.self.inside.place here (length c.line-line.result.bytes.now) c.self.invariant some refl c.line-line.ensures.long).given
    ∙ ap (λ (t : List ℕ). t ∷ take (c.self.inside.place.left - 1) (drop (c.self.inside.place.lines + 1) (lines_of c.self.inside.journal.entries))) (sym text)
