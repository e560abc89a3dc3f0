use Rattle.service_custody.proofs.Coming.{comes-so}
use Rattle.service_custody.proofs.law.messages_come_in_order.Goals as goal

pub returns : goal.returns
returns c = comes-so
