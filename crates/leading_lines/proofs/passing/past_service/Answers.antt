use Rattle.std.proofs.lemmas.Option.{IfSome_then}
use Rattle.leading_lines.proofs.Past.{service_line}
use Rattle.leading_lines.proofs.passing.past_service.Goals as goal

pub returns : goal.returns
returns c = IfSome_then c.past_step.result c.past_step.ensures (λ rest h. service_line c.args.version c.args.text.now rest.now h)
