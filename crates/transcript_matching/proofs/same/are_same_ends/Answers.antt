use Rattle.transcript_matching.specs.Equal.{end_eq}
use Rattle.transcript_matching.proofs.Lists.{ends-tell}
use Rattle.transcript_matching.proofs.same.are_same_ends.Goals as goal

pub returns : goal.returns
unfolding end_eq
returns c = ends-tell c.eq.result c.args.a.now c.args.b.now c.as_slice.result.now c.as_slice-2.result.now c.as_slice.ensures.same c.as_slice-2.ensures.same c.eq.ensures
