use Rattle.std.proofs.Common.{arith, rules}
use Rattle.std.proofs.lemmas.Grind.{common_steps}
use Rattle.lynx_parser.proofs.Made.{term_made}
use Rattle.lynx_parser.proofs.make_expression.term_of.Goals as goal

pub returns-then-len-gt1 : goal.returns-then-len-gt1
returns-then-len-gt1 c = term_made c.args.first c.in_ok-rest.rest c.args.rest.items (first_of (search rules, cc)) (first_of (search rules, omega arith, grind (arith, common_steps)))
