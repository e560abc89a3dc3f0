-- each call allows one less
use Rattle.leading_lines.proofs.enclosed.+past_ends.Given as goal

abbrev pub decreases-past_ends : goal.decreases-past_ends
decreases-past_ends l = l.most
