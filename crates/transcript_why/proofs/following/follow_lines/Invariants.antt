use Rattle.std.proofs.Common.{◌≡◌}
use Rattle.transcript_items.specs.Kept.{FollowAll}
use Rattle.transcript_why.specs.Before.{first_lines}
use Rattle.transcript_why.proofs.following.follow_lines.Given as goal

abbrev pub invariant-loop : goal.invariant-loop
invariant-loop g l = g.K.Kernels.stand l.run
    × FollowAll (g.K.Kernels.kept l.fn.run) (first_lines l.counter l.fn.reader).0 (g.K.Kernels.kept l.run)
    × (l.reader ≡ (first_lines l.counter l.fn.reader).1)
