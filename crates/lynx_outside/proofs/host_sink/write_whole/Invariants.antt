-- What was written is the front of the bytes, what is left is their back, and the writes lead from the one to the other.
use Rattle.std.proofs.Common.{ℕ, ◌≡◌, length, take, drop}
use Rattle.std.specs.Io.KnownBytes.{Appends}
use Rattle.lynx_outside.specs.Writing.{Made, begun}
use Rattle.lynx_outside.proofs.host_sink.write_whole.Given as goal

abbrev pub invariant-loop-rest : goal.invariant-loop-rest
invariant-loop-rest g l = record {
  front : (n : ℕ) × (l.rest ≡ drop n l.bytes) × Appends (g.O.Writer.held l.initial.writer) (g.O.Writer.held l.writer) (take n l.bytes);
  made : Made (g.O.Writer.calls l.initial.writer) (g.O.Writer.calls l.writer) (begun l.bytes) (begun l.rest);
}

abbrev pub decreases-loop-rest : goal.decreases-loop-rest
decreases-loop-rest g l = length l.rest
