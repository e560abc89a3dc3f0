use Rattle.service_custody.proofs.Coming.{deaf-nothing}
use Rattle.service_custody.proofs.law.deaf_ends_get_nothing.Goals as goal

pub returns : goal.returns
returns c = deaf-nothing
