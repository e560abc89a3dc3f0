use Rattle.end_table.proofs.Change.{Puts-each}
use Rattle.end_table.proofs.table.Table.change.Goals as goal

pub returns : goal.returns
returns c = Puts-each _ _ _ _ c.args.end c.args.view c.requires.here c.set_outward.ensures c.set_inward.ensures c.set_holder.ensures.set
