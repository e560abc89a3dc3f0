use Rattle.std.proofs.lemmas.Option.{IfSome_then}
use Rattle.leading_lines.proofs.Past.{back_packet}
use Rattle.leading_lines.proofs.passing.past_back.Goals as goal

pub returns : goal.returns
returns c =
    IfSome_then c.past_values.result c.past_values.ensures
    (λ rest h. back_packet c.args.version c.in_ok-to.to c.in_ok-to.n c.args.text.now c.in_ok-to.rest.now rest.now c.in_ok-to.ensures.spelled c.in_ok-to.ensures.fits.0 c.in_ok-to.ensures.fits.1 (rw c.most_ends.ensures.exact at h))
