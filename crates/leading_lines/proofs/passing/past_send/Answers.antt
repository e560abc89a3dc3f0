use Rattle.std.proofs.lemmas.Option.{IfSome_then}
use Rattle.leading_lines.proofs.Past.{send_step}
use Rattle.leading_lines.proofs.passing.past_send.Goals as goal

pub returns : goal.returns
returns c =
    IfSome_then c.past_ends.result c.past_ends.ensures
    (λ rest h. send_step c.args.version c.in_ok-on.on c.in_ok-on.n c.args.text.now c.in_ok-on.rest.now rest.now c.in_ok-on.ensures.spelled c.in_ok-on.ensures.fits.0 c.in_ok-on.ensures.fits.1 (rw c.most_ends.ensures.exact at h))
