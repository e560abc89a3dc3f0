-- A place counts no more than the bytes before it, and each byte is a line or a column more.
use Rattle.std.proofs.Common.{arith}
use Rattle.lynx_source.proofs.Lines.{column_small}
use Rattle.lynx_source.proofs.place.place_behind.Goals as goal

pub overflow_add-place-else-byte-eq10 : goal.overflow_add-place-else-byte-eq10
overflow_add-place-else-byte-eq10 c = omega (arith, column_small c.args.bytes.now c.loop-byte.byte-index c.loop-byte.place c.loop-byte.invariant, c.requires, c.loop-byte.auto.byte-index-end)
