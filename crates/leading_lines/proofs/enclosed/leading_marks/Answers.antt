use Rattle.std.proofs.Common.{◌≤◌, rules}
use Rattle.leading_lines.proofs.Past.{marks_then}
use Rattle.leading_lines.proofs.enclosed.leading_marks.Goals as goal

pub returns-clause-spelled : goal.returns-clause-spelled
returns-clause-spelled c =
    let few : c.in_ok-said.said ≤ 1 = search rules in
    marks_then c.in_ok-said.said c.in_ok-trail.trail c.args.text.now c.in_ok-said.rest.now c.in_ok-trail.rest.now few c.in_ok-said.ensures.spelled c.in_ok-trail.ensures.spelled
