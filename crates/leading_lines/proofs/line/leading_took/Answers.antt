use Rattle.std.proofs.Common.{refl}
use Rattle.leading_lines.proofs.Leading.{took_then}
use Rattle.leading_lines.proofs.line.leading_took.Goals as goal

pub returns-clause-spelled : goal.returns-clause-spelled
returns-clause-spelled c = took_then c.args.ahead c.in_ok-what.what c.args.text.now c.in_ok-what.rest.now c.in_ok-what.ensures.spelled

pub returns-clause-fits : goal.returns-clause-fits
returns-clause-fits c = (c.tell_u64.ensures, c.tell_u8.ensures, c.tell_u8-2.ensures, refl, c.in_ok-what.ensures.range, c.in_ok-what.ensures.few c.args.version)
