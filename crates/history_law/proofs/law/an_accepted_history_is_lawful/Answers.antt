use Rattle.history_law.proofs.Steps.{accepted_is_lawful}
use Rattle.history_law.proofs.law.an_accepted_history_is_lawful.Goals as goal

pub returns : goal.returns
returns c = accepted_is_lawful
