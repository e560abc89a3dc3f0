use Rattle.std.proofs.Common.{length}
use Rattle.transcript_audit.proofs.Taken.{IsReading}
use Rattle.transcript_audit.proofs.auditing.read_rest.Given as goal

abbrev pub invariant-loop : goal.invariant-loop
invariant-loop l = IsReading l.fn.reader l.reader

abbrev pub decreases-loop : goal.decreases-loop
decreases-loop l = length l.reader.texts
