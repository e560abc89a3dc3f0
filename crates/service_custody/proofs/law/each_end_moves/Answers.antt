use Rattle.service_custody.proofs.Moving.{each-moves}
use Rattle.service_custody.proofs.law.each_end_moves.Goals as goal

pub returns : goal.returns
returns c = each-moves
