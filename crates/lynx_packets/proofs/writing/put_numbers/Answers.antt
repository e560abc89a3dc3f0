use Rattle.std.proofs.Common.{pos, arith}
use Rattle.lynx_packets.specs.Spelling.{int_text}
use Rattle.lynx_packets.proofs.Overflow.{overflows, at_err}
use Rattle.lynx_packets.proofs.writing.put_numbers.Goals as goal

pub returns-in_err-put_int-clause-long : goal.returns-in_err-put_int-clause-long
returns-in_err-put_int-clause-long c = at_err c.from_residual.result (overflows int_text c.args.out.now.items c.loop-number.out.items c.args.numbers.now c.loop-number.number-index (pos 0) (omega arith) c.loop-number.invariant (c.in_err-put_int.ensures.long))
