use Rattle.lynx_outside.proofs.Chains.{part_held}
use Rattle.lynx_outside.proofs.law.part_put.Goals as goal

pub returns : goal.returns
returns c = part_held
