use Rattle.end_table.proofs.Listed.{AreEndsOf-listed}
use Rattle.end_table.proofs.table.Table.has_list_of.Goals as goal

pub returns : goal.returns
returns c = rw (← c.self.view_is) (AreEndsOf-listed _ c.args.p c.has_distinct_places.ensures)
