use Rattle.std.proofs.Common.{eqb}
use Rattle.lynx_plan.proofs.Places.{found_first, found_within}
use Rattle.lynx_plan.proofs.read.line_feed_at.Goals as goal

pub returns-clause-exact : goal.returns-clause-exact
returns-clause-exact c = found_first (λ b. eqb b 10) c.args.text.now c.memchr.result c.memchr.ensures

pub returns-clause-within : goal.returns-clause-within
returns-clause-within c = found_within (λ b. eqb b 10) c.args.text.now c.memchr.result c.memchr.ensures
