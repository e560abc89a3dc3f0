use Rattle.std.proofs.Common.{length, arith, ◌++◌, ◌<◌, subst}
use Rattle.lynx_packets.specs.declared.value.RtValue.{RtValue}
use Rattle.lynx_packets.specs.Spelling.{value_text}
use Rattle.lynx_packets.proofs.Overflow.{overflows, at_err}
use Rattle.lynx_packets.proofs.writing.put_values.Goals as goal

pub returns-in_err-put_value-clause-long : goal.returns-in_err-put_value-clause-long
returns-in_err-put_value-clause-long c = at_err c.from_residual.result (overflows value_text c.args.out.now.items c.loop-value.out.items c.args.values.now c.loop-value.value-index c.value-item.result (omega arith) c.loop-value.invariant (subst (λ (v : RtValue). 256 < length (c.loop-value.out.items ++ value_text v)) c.value-item.is c.in_err-put_value.ensures.long))
