use Rattle.std.proofs.Common.{arith}
use Rattle.transcript_reader.proofs.Clauses.{few_lines}
use Rattle.transcript_reader.proofs.reader.Reader.new.Goals as goal

pub invariant_of-result : goal.invariant_of-result
invariant_of-result c = omega (arith, few_lines c.args.bytes.now)
