use Rattle.charlotte_text.proofs.Clauses.{same_end}
use Rattle.charlotte_text.proofs.law.one_end.Goals as goal

pub returns : goal.returns
returns c = same_end
