use Rattle.std.proofs.Common.{arith}
use Rattle.charlotte_text.proofs.Clauses.{below_found, below_only}
use Rattle.charlotte_text.proofs.number.read_below.Goals as goal

pub returns-clause-found : goal.returns-clause-found
returns-clause-found c = below_found c.args.limit c.args.word.now c.parse_below.result c.parse_below.ensures.exact

pub returns-clause-only : goal.returns-clause-only
returns-clause-only c = λ n lt s. below_only c.args.limit c.args.word.now c.parse_below.result n c.parse_below.ensures.exact (omega arith) lt s
