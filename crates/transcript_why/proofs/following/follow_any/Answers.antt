use Rattle.transcript_why.proofs.Lines.{line-went}
use Rattle.transcript_why.proofs.following.follow_any.Goals as goal

pub returns-clause-follows : goal.returns-clause-follows
returns-clause-follows g c =
    let kept = g.K.Kernels.kept in
    line-went c.follow.result c.in-Some.line (kept c.args.run.now) (kept c.follow.new.self) c.args.reader.now c.next_line.new.reader c.in-Some.ensures c.follow.ensures.follows
