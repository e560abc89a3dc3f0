use Rattle.std.proofs.Common.{◌∙◌, Bool, subst, sym}
use Rattle.written_journal.specs.Left.{GivesFirst}
use Rattle.written_journal.proofs.Alone.{lines-begun, some-of}
use Rattle.written_journal.proofs.entry_lines.LinesLeft.next_line.Goals as goal

pub first_line-requires-clause-some : goal.first_line-requires-clause-some
first_line-requires-clause-some c = some-of c.step_line.new.self.entries c.is_at_end.result c.is_at_end.ensures c.if-is_at_end.false

pub returns-clause-given : goal.returns-clause-given
returns-clause-given c =
    let some = some-of c.step_line.new.self.entries c.is_at_end.result c.is_at_end.ensures c.if-is_at_end.false in
    let first = c.in_ok-first_line.ensures.given some.0 some.1 some.2 in
    let nothing = subst (λ (b : Bool). GivesFirst b c.self.inside.reader.lines c.step_line.new.self.lines c.step_line.new.out.items) c.if-branch.false c.in_ok-step_line.ensures.given in
    sym c.self.view_is ∙ lines-begun c.self.inside.kernel c.self.inside.reader c.step_line.new.self c.first_line.new.self some.0 some.1 c.first_line.new.out.items nothing.0 c.in_ok-step_line.ensures.entries some.2 first.0 first.1
