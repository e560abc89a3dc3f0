-- A line more is told; behind one that cannot stand none is, and behind the header none tells more.
use Rattle.std.proofs.Common.{◌≡◌, ◌≤◌, List, Some, Ok, ap, arith, refl, subst, sym, ◌∙◌}
use Rattle.transcript_reader.specs.Lines.{Unread, next_line}
use Rattle.transcript_reading.specs.Order.{Place}
use Rattle.transcript_reading.specs.declared.line.LineKind.{LineKind}
use Rattle.transcript_replay.specs.Header.{tell_all, tells}
use Rattle.transcript_why.specs.Before.{IsBehindHeader, first_lines, shown_next}
use Rattle.transcript_why.proofs.Header.{told-all}
use Rattle.transcript_why.proofs.Lines.{first-all, first-more, none-yet, tells-more}
use Rattle.transcript_why.proofs.reached.tell_lines.Goals as goal

pub loop-init : goal.loop-init
loop-init c =
    let e = none-yet c.args.reader.now in
    (ap (λ (r : List LineKind × Unread). tell_all r.0 c.args.draft.now) (sym e), ap (λ (r : List LineKind × Unread). r.1) (sym e))

pub loop-preserved : goal.loop-preserved
loop-preserved c =
    let n = c.loop.counter in
    let u = c.args.reader.now in
    let left = c.next_line.new.reader in
    let line = c.in-Some.line in
    let e : next_line (first_lines n u).1 ≡ Ok (Some (line, left)) = ap next_line (sym c.loop.invariant.1) ∙ c.in-Some.ensures in (
      c.in_ok-tell.ensures ∙ ap (tells line.what) c.loop.invariant.0 ∙ sym (tells-more n u left line c.args.draft.now e),
      sym (ap (λ (r : List LineKind × Unread). r.1) (first-more n u left line e)),
    )

pub returns-in_default : goal.returns-in_default
returns-in_default c =
    let n = c.loop.counter in
    let u = c.args.reader.now in
    let all : first_lines c.args.lines u ≡ first_lines n u =
    first-all n c.args.lines u (omega (arith, c.loop-test.true)) (ap (λ (r : Unread). shown_next (next_line r)) (sym c.loop.invariant.1) ∙ c.in_default.ensures.0) in
    c.loop.invariant.0 ∙ ap (λ (r : List LineKind × Unread). tell_all r.0 c.args.draft.now) (sym all)

pub returns-then-is_behind_header : goal.returns-then-is_behind_header
returns-then-is_behind_header c =
    let n = c.loop.counter in
    let u = c.args.reader.now in
    let behind : IsBehindHeader (first_lines n u).1.place =
    subst IsBehindHeader (c.place.ensures ∙ ap (λ (r : Unread). r.place) c.loop.invariant.1) (c.if-is_behind_header.ensures.0 refl) in
    c.loop.invariant.0 ∙ sym (told-all n c.args.lines u c.args.draft.now (omega (arith, c.loop-test.true)) behind)
