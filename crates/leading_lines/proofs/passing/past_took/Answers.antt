use Rattle.std.proofs.lemmas.Option.{IfSome_then}
use Rattle.leading_lines.proofs.Past.{took_line}
use Rattle.leading_lines.proofs.passing.past_took.Goals as goal

pub returns : goal.returns
returns c = IfSome_then c.past_packet.result c.past_packet.ensures (λ rest h. took_line c.args.version c.args.ahead c.args.text.now rest.now c.tell_u64.ensures c.tell_u8.ensures c.tell_u8-2.ensures h)
