use Rattle.told_answers.proofs.Local.{told-answers}
use Rattle.told_answers.proofs.law.told_answers.Goals as goal

pub returns : goal.returns
returns c = told-answers
