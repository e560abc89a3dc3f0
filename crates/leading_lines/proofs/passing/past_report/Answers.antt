use Rattle.std.proofs.lemmas.Option.{IfSome_then}
use Rattle.leading_lines.proofs.Past.{report_step}
use Rattle.leading_lines.proofs.passing.past_report.Goals as goal

pub returns : goal.returns
returns c =
    IfSome_then c.past_result.result c.past_result.ensures
    (λ rest h. report_step c.args.version c.in_ok-p.p c.in_ok-on.on c.args.text.now c.in_ok-p.rest.now c.in_ok-on.rest.now rest.now c.in_ok-p.ensures.spelled c.in_ok-on.ensures.spelled c.in_ok-p.ensures.fits c.in_ok-on.ensures.fits h)
