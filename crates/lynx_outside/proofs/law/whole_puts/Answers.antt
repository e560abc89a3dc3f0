use Rattle.lynx_outside.proofs.Chains.{whole_held, whole_counted}
use Rattle.lynx_outside.proofs.law.whole_puts.Goals as goal

pub returns-clause-held : goal.returns-clause-held
returns-clause-held c = whole_held

pub returns-clause-counted : goal.returns-clause-counted
returns-clause-counted c = whole_counted
