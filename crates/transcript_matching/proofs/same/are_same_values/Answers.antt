use Rattle.std.proofs.Common.{refl}
use Rattle.transcript_matching.specs.Equal.{value_eq}
use Rattle.transcript_matching.proofs.Lists.{values-tell}
use Rattle.transcript_matching.proofs.same.are_same_values.Goals as goal

pub returns : goal.returns
unfolding value_eq
returns c = values-tell c.eq.result c.args.a.now c.args.b.now c.args.a.now c.as_slice.result.now refl c.as_slice.ensures.same c.eq.ensures
