use Rattle.std.proofs.Common.{IfOk, MatchBool, subst, sym}
use Rattle.transcript_items.specs.Kept.{Follows, Refuses}
use Rattle.transcript_kept.specs.Run.{kept_of}
use Rattle.transcript_reading.specs.declared.line.LineKind.{LineKind}
use Rattle.transcript_kept.proofs.run.RunKernels.follow.Goals as goal

pub returns-in-PacketEntry-clause-follows : goal.returns-in-PacketEntry-clause-follows
returns-in-PacketEntry-clause-follows c =
    subst (λ (kind : LineKind). IfOk c.take.result (λ went. MatchBool went (Follows (kept_of c.args.self.now) kind (kept_of c.take.new.self)) (Refuses (kept_of c.args.self.now) kind)))
    (sym c.in-PacketEntry.is) c.take.ensures.takes
