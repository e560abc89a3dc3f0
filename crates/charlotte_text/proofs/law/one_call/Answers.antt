use Rattle.charlotte_text.proofs.Clauses.{same_call}
use Rattle.charlotte_text.proofs.law.one_call.Goals as goal

pub returns : goal.returns
returns c = same_call
