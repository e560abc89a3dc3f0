use Rattle.std.proofs.lemmas.Option.{IfSome_then}
use Rattle.leading_lines.proofs.Past.{received_result}
use Rattle.leading_lines.proofs.passing.past_received.Goals as goal

pub returns : goal.returns
returns c =
    IfSome_then c.past_ends.result c.past_ends.ensures
    (λ rest h. received_result c.args.version c.args.text.now c.in_ok-behind_word.field-0.now c.in_ok-behind.behind.now rest.now c.in_ok-behind_word.ensures c.in_ok-behind.ensures (rw c.most_ends.ensures.exact at h))
