-- The entries of all ends, as a function of the end, and what it is to put one entry.
use Rattle.std.specs.Prelude.{if◌then◌else◌}
use Rattle.charlotte_calls.specs.declared.names.EndId.{EndId}
unfoldable pub use Rattle.charlotte_calls.specs.EndEq.{end_eq}
use Rattle.end_table.specs.declared.entry.Entry.{Entry}

-- the entries with this one at an end, and at every other end as they were
unfoldable pub put : (EndId → Entry) → EndId → Entry → (EndId → Entry)
put table end x = λ q. if end_eq end q then x else table q
