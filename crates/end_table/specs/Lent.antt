-- Entries that a table lends.
use Rattle.end_table.specs.declared.entry.Entry.{Entry}
use Rattle.end_table.specs.declared.entry.Entry.TheVariants as entry
use Rattle.end_table.specs.declared.entry.Lent.{Lent}
use Rattle.end_table.specs.declared.entry.Lent.TheVariants as lent

-- what is lent, as an entry
abbrev pub lent_entry : Lent → Entry
lent_entry lent.Nothing = entry.Nothing
lent_entry (lent.Here l) = entry.Here l.now
lent_entry (lent.Left to hops) = entry.Left to hops
lent_entry (lent.Destroyed m) = entry.Destroyed m
