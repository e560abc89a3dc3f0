use Rattle.std.proofs.Common.{◌≡◌, ◌∙◌, ℕ, List, ◌++◌, ◌-◌, ap, codes, length, sym, arith}
use Rattle.charlotte_text.specs.Spelling.{number_text}
use Rattle.written_journal.specs.Given.{Rest}
use Rattle.packed_lines.specs.Packed.{given}
use Rattle.written_journal.specs.declared.written.Event.{Event}
use Rattle.written_journal.proofs.Given.{begun, first, first-text, none-left}
use Rattle.written_journal.proofs.reader.Reader.first_line.Goals as goal

pub line-line-requires-clause-within : goal.line-line-requires-clause-within
line-line-requires-clause-within c =
    let none = none-left c.self.inside.journal.entries c.self.inside.place c.self.invariant (ap (λ (r : Rest). r.lines) c.self.view_is ∙ c.requires.none) in
    let left = ap (λ (r : Rest). r.entries) c.self.view_is ∙ c.requires.some.2 in
    (first c.self.inside.journal.entries c.self.inside.place c.requires.some.0 c.requires.some.1 c.self.invariant none left).below

pub overflow_sub-self : goal.overflow_sub-self
overflow_sub-self c =
    let left = ap (λ (r : Rest). r.entries) c.self.view_is ∙ c.requires.some.2 in
    let lines = ap (λ (ev : Event). ev.lines) (c.event-event.ensures.same c.requires.some.0 c.requires.some.1 left) in
    omega (arith, lines)

pub invariant_of-self : goal.invariant_of-self
invariant_of-self c =
    let e = c.requires.some.0 in
    let none = none-left c.self.inside.journal.entries c.self.inside.place c.self.invariant (ap (λ (r : Rest). r.lines) c.self.view_is ∙ c.requires.none) in
    let left = ap (λ (r : Rest). r.entries) c.self.view_is ∙ c.requires.some.2 in
    let many : c.event-event.result.lines - 1 ≡ length e.steps = ap (λ (ev : Event). ev.lines - 1) (c.event-event.ensures.same e c.requires.some.1 left) ∙ omega arith in
    (begun c.self.inside.journal.entries c.self.inside.place e c.requires.some.1 c.self.invariant none left (c.event-event.result.lines - 1) (length c.line-line.result.bytes.now) many c.line-line.ensures.long).place

pub returns-clause-given : goal.returns-clause-given
returns-clause-given c =
    λ e es some.
    let none = none-left c.self.inside.journal.entries c.self.inside.place c.self.invariant (ap (λ (r : Rest). r.lines) c.self.view_is ∙ c.requires.none) in
    let left = ap (λ (r : Rest). r.entries) c.self.view_is ∙ some in
    let event = c.event-event.ensures.same e es left in
    let many : c.event-event.result.lines - 1 ≡ length e.steps = ap (λ (ev : Event). ev.lines - 1) event ∙ omega arith in
    let here = c.line-line.ensures.text ∙ (first c.self.inside.journal.entries c.self.inside.place e es c.self.invariant none left).here in
    let head : c.push_head.new.out.items ≡ number_text e.stamp ++ codes " k" ++ number_text c.args.kernel =
    c.in_ok-push_head.ensures ∙ ap (λ (t : List ℕ). t ++ number_text c.event-event.result.stamp ++ codes " k" ++ number_text c.args.kernel) c.requires.empty
    ∙ ap (λ (ev : Event). number_text ev.stamp ++ codes " k" ++ number_text c.args.kernel) event in (
      c.in_ok-push_line.ensures ∙ ap (λ (t : List ℕ). t ++ given c.line-line.result.packed c.line-line.result.bytes.now) head ∙ ap (λ (t : List ℕ). (number_text e.stamp ++ codes " k" ++ number_text c.args.kernel) ++ t) here ∙ sym (first-text c.args.kernel e),
      (begun c.self.inside.journal.entries c.self.inside.place e es c.self.invariant none left (c.event-event.result.lines - 1) (length c.line-line.result.bytes.now) many c.line-line.ensures.long).left,
    )
