use Rattle.leading_lines.proofs.passing.past_other_packet.Goals as goal

pub returns : goal.returns
returns c = record { value = c.in_ok-what.what; spelled = c.in_ok-what.ensures.spelled; fits = (c.in_ok-what.ensures.range, c.in_ok-what.ensures.few c.args.version) }
