use Rattle.std.proofs.Common.{◌≡◌, ◌∙◌, ℕ, ap, get_or, set, subst, sym, arith}
use Rattle.written_journal.specs.Given.{AreLeft, Rest}
use Rattle.written_journal.proofs.InOrder.{left-stepped}
use Rattle.written_journal.proofs.lines.step_line.Goals as goal

pub returns-clause-left : goal.returns-clause-left
returns-clause-left c =
    λ placed left.
    let at : c.index-readers-place.result ≡ get_or c.args.readers.now c.args.kernel c.index-readers-place.result = c.index-readers-place.is ∙ ap (λ (n : ℕ). get_or c.args.readers.now n c.index-readers-place.result) c.from-place.ensures in
    let kept : c.step_line.new.self.entries ≡ c.index-readers-place.result.entries = c.step_line.ensures.entries ∙ ap (λ (r : Rest). r.entries) (sym c.index-readers-place.is) in
    subst (λ (n : ℕ). AreLeft (set c.args.readers.now n c.step_line.new.self) c.args.kernel placed) (sym c.from-place.ensures)
    (left-stepped c.args.readers.now c.args.kernel c.index-readers-place.result c.step_line.new.self placed (omega (arith, c.if-readers-place.false, c.from-place.ensures)) at kept left)
