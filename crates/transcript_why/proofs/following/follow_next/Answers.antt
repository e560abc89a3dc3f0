use Rattle.std.proofs.Common.{◌≡◌, Some, None}
use Rattle.transcript_why.proofs.Lines.{none-went, some-went}
use Rattle.transcript_why.proofs.following.follow_next.Goals as goal

pub returns-in-Some-clause-follows : goal.returns-in-Some-clause-follows
returns-in-Some-clause-follows g c =
    let kept = g.K.Kernels.kept in
    let is : c.in_ok-went.field-0 ≡ Some c.in-Some.went = cc in
    some-went c.in_ok-went.field-0 c.in-Some.went _ (kept c.args.run.now) (kept c.follow_expected.new.self) c.args.reader.now c.follow_expected.new.reader is c.in_ok-went.ensures.follows

pub returns-in-None-clause-follows : goal.returns-in-None-clause-follows
returns-in-None-clause-follows g c =
    let kept = g.K.Kernels.kept in
    let is : c.in_ok-went.field-0 ≡ None = cc in
    none-went c.follow_any.result c.in_ok-went.field-0 _ (kept c.args.run.now) (kept c.follow_expected.new.self) (kept c.follow_any.new.run) c.args.reader.now c.follow_expected.new.reader c.follow_any.new.reader is
    c.in_ok-went.ensures.follows c.follow_any.ensures.follows
