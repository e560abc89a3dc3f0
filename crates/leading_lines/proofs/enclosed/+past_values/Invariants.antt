-- each call allows one less
use Rattle.leading_lines.proofs.enclosed.+past_values.Given as goal

abbrev pub decreases-past_values : goal.decreases-past_values
decreases-past_values l = l.most
