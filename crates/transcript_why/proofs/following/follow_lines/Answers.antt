-- A line more is followed.
use Rattle.std.proofs.Common.{◌≡◌, List, true, Some, Ok, ap, refl, subst, sym, ◌∙◌}
use Rattle.transcript_items.specs.Kept.{FollowAll}
use Rattle.transcript_items.specs.Next.{FollowsNext}
use Rattle.transcript_reader.specs.Lines.{Unread, next_line}
use Rattle.transcript_reading.specs.declared.line.LineKind.{LineKind}
use Rattle.transcript_why.specs.Before.{first_lines}
use Rattle.transcript_why.proofs.Lines.{first-more, follows-more, none-yet}
use Rattle.transcript_why.proofs.following.follow_lines.Goals as goal

pub loop-init : goal.loop-init
loop-init g c =
    let k = g.K.Kernels.kept c.args.run.now in
    let e = sym (none-yet c.args.reader.now) in
    (c.requires, subst (λ (r : List LineKind × Unread). FollowAll k r.0 k) e refl, ap (λ (r : List LineKind × Unread). r.1) e)

pub loop-preserved : goal.loop-preserved
loop-preserved g c =
    let n = c.loop.counter in
    let u = c.args.reader.now in
    let left = c.follow_next.new.reader in
    let kept = g.K.Kernels.kept in
    let next : FollowsNext (kept c.loop.run) c.loop.reader true (kept c.follow_next.new.run) left = rw c.if-not-branch.false at c.in_ok-follow_next.ensures.follows in
    let e : next_line (first_lines n u).1 ≡ Ok (Some (next.line, left)) = ap next_line (sym c.loop.invariant.2) ∙ next.read in (
      rw c.if-not-branch.false at c.in_ok-follow_next.ensures.stand,
      follows-more n u left next.line (kept c.args.run.now) (kept c.loop.run) (kept c.follow_next.new.run) e c.loop.invariant.1 next.follows,
      sym (ap (λ (r : List LineKind × Unread). r.1) (first-more n u left next.line e)),
    )
