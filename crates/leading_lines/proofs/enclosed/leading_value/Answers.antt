use Rattle.leading_lines.proofs.Past.{value_then}
use Rattle.leading_lines.proofs.enclosed.leading_value.Goals as goal

pub returns-clause-spelled : goal.returns-clause-spelled
returns-clause-spelled c =
    value_then
    (record {
      end = c.in_ok-end.end;
      hops = c.in_ok-hops.hops;
      hint = c.in_ok-hops.hint;
      sent = c.in_ok-sent.sent;
      asked = c.in_ok-sent.asked;
      served = c.in_ok-sent.served;
      want = c.in_ok-sent.want;
      dead = c.in_ok-dead.dead;
      trail = c.in_ok-dead.trail;
    })
    c.args.text.now c.in_ok-end.rest.now c.in_ok-hops.rest.now c.in_ok-sent.rest.now c.in_ok-dead.rest.now c.in_ok-end.ensures.spelled c.in_ok-hops.ensures.spelled c.in_ok-sent.ensures.spelled c.in_ok-dead.ensures.spelled
