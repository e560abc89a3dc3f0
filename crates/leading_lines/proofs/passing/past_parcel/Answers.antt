use Rattle.std.proofs.lemmas.Option.{IfSome_then}
use Rattle.leading_lines.proofs.Past.{parcel_packet}
use Rattle.leading_lines.proofs.passing.past_parcel.Goals as goal

pub returns : goal.returns
returns c =
    IfSome_then c.past_values.result c.past_values.ensures
    (λ rest h. parcel_packet c.args.version c.in_ok-to.to c.in_ok-to.n c.in_ok-w.w c.in_ok-at.at c.in_ok-at.hops c.args.text.now c.in_ok-to.rest.now c.in_ok-w.rest.now c.in_ok-at.rest.now c.in_ok-behind_byte.field-0.now c.in_ok-behind.behind.now rest.now
    c.in_ok-to.ensures.spelled c.in_ok-w.ensures.spelled c.in_ok-at.ensures.spelled c.in_ok-behind_byte.ensures c.in_ok-to.ensures.fits c.in_ok-w.ensures.fits c.in_ok-at.ensures.fits c.in_ok-behind.ensures (rw c.most_ends.ensures.exact at h))
