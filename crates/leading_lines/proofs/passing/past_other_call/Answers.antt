use Rattle.leading_lines.proofs.passing.past_other_call.Goals as goal

pub returns : goal.returns
returns c = record { value = c.read_leading_call.new.call; spelled = c.in_ok-rest.ensures.spelled; fits = c.in_ok-rest.ensures.fits }
