use Rattle.lynx_interp.proofs.Counting.{fits_one}
use Rattle.lynx_interp.proofs.machine.Machine.has_room.Goals as goal

pub returns : goal.returns
returns c = fits_one c.args.self.now.turns c.free_number.result c.is_some.result c.free_number.ensures.places c.is_some.ensures c.free_number.ensures.free
