-- A line more is passed; behind one that cannot stand none is.
use Rattle.std.proofs.Common.{◌≡◌, List, Some, Ok, ap, arith, sym, ◌∙◌}
use Rattle.transcript_reader.specs.Lines.{Unread, next_line}
use Rattle.transcript_reader.specs.Next.{Skips}
use Rattle.transcript_reading.specs.declared.line.LineKind.{LineKind}
use Rattle.transcript_why.specs.Before.{first_lines, shown_next}
use Rattle.transcript_why.proofs.Lines.{first-all, first-more, none-yet}
use Rattle.transcript_why.proofs.reached.pass_lines.Goals as goal

pub loop-init : goal.loop-init
loop-init c = ap (λ (r : List LineKind × Unread). r.1) (sym (none-yet c.args.reader.now))

pub loop-preserved : goal.loop-preserved
loop-preserved c =
    let n = c.loop.counter in
    let u = c.args.reader.now in
    let left = c.skip_line.new.reader in
    let skips : Skips c.loop.reader left = c.if-not-skip_line.ensures in
    let e : next_line (first_lines n u).1 ≡ Ok (Some (skips.0, left)) = ap next_line (sym c.loop.invariant) ∙ skips.1 in
    sym (ap (λ (r : List LineKind × Unread). r.1) (first-more n u left skips.0 e))

pub returns-then-not-skip_line : goal.returns-then-not-skip_line
returns-then-not-skip_line c =
    let n = c.loop.counter in
    let u = c.args.reader.now in
    let all = first-all n c.args.lines u (omega (arith, c.loop-test.true)) (ap (λ (r : Unread). shown_next (next_line r)) (sym c.loop.invariant) ∙ c.if-not-skip_line.ensures.0) in
    c.if-not-skip_line.ensures.1 ∙ c.loop.invariant ∙ ap (λ (r : List LineKind × Unread). r.1) (sym all)
