use Rattle.std.proofs.lemmas.Option.{IfSome_then}
use Rattle.leading_lines.proofs.Past.{send_call}
use Rattle.leading_lines.proofs.passing.past_send_call.Goals as goal

pub returns : goal.returns
returns c =
    IfSome_then c.past_ends.result c.past_ends.ensures
    (λ rest h. send_call c.args.version c.in_ok-on.on c.args.text.now c.in_ok-behind_word.field-0.now c.in_ok-on.rest.now c.in_ok-behind_byte.field-0.now c.in_ok-behind.behind.now rest.now
    c.in_ok-behind_word.ensures c.in_ok-on.ensures.spelled c.in_ok-behind_byte.ensures c.in_ok-on.ensures.fits c.in_ok-behind.ensures (rw c.most_ends.ensures.exact at h))
