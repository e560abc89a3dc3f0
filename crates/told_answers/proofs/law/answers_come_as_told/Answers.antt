use Rattle.told_answers.proofs.Local.{answers-come}
use Rattle.told_answers.proofs.law.answers_come_as_told.Goals as goal

pub returns : goal.returns
returns c = answers-come
