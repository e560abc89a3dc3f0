use Rattle.end_table.specs.Place.{end_eq}
use Rattle.end_table.proofs.kept.Kept.get.Goals as goal

pub returns : goal.returns
unfolding end_eq
returns g c = rw (← c.self.view_is) c.get.ensures.value
