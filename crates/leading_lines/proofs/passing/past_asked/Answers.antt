use Rattle.std.proofs.lemmas.Option.{IfSome_then}
use Rattle.leading_lines.proofs.Past.{asked_line}
use Rattle.leading_lines.proofs.passing.past_asked.Goals as goal

pub returns : goal.returns
returns c = IfSome_then c.past_call.result c.past_call.ensures (λ rest h. asked_line c.args.version c.args.ahead c.args.text.now rest.now c.tell_u64.ensures c.tell_u8.ensures c.tell_pid.ensures h)
