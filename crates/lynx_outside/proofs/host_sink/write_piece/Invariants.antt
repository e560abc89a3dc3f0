-- Each write so far was interrupted, and kept what was held.
use Rattle.std.specs.Io.KnownBytes.{Keeps}
use Rattle.lynx_outside.specs.Writing.{Made, begun, left_tried}
use Rattle.lynx_outside.proofs.host_sink.write_piece.Given as goal

abbrev pub invariant-loop : goal.invariant-loop
invariant-loop g l = record {
  held : Keeps (g.O.Writer.held l.initial.writer) (g.O.Writer.held l.writer);
  made : Made (g.O.Writer.calls l.initial.writer) (g.O.Writer.calls l.writer) (begun l.bytes) (left_tried l.bytes l.counter);
}
