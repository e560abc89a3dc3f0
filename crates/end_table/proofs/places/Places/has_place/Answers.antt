use Rattle.std.proofs.Common.{rules}
use Rattle.end_table.specs.Place.{end_eq}
use Rattle.end_table.specs.Table.{HasPlace}
use Rattle.end_table.proofs.places.Places.has_place.Goals as goal

pub returns : goal.returns
unfolding end_eq HasPlace
returns c = rw (← c.self.view_is) (search rules)
