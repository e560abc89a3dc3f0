-- What a table keeps at its places.
use Rattle.std.specs.Prelude.{List, filter, is_some}
use Rattle.std.specs.Map.{keys_of}
use Rattle.charlotte_calls.specs.declared.names.EndId.{EndId}
use Rattle.charlotte_calls.specs.declared.names.Pid.{Pid}
use Rattle.end_table.specs.declared.entry.Entry.{Entry}
use Rattle.end_table.specs.declared.entry.Entry.TheVariants as entry
use Rattle.end_table.specs.declared.slot.Content.{Content}
use Rattle.end_table.specs.declared.slot.Content.TheVariants as content
use Rattle.end_table.specs.Owned.{owned}

-- what stands in a slot, as an entry
abbrev pub entry_of : Content → Entry
entry_of content.Nothing = entry.Nothing
entry_of (content.Here v) = entry.Here v
entry_of (content.Left to hops) = entry.Left to hops
entry_of (content.Destroyed m) = entry.Destroyed m

-- the ends at these places that a process owns
abbrev pub owned_ends : Pid → List (EndId × Entry) → List EndId
owned_ends p places = keys_of (filter (λ e. is_some (owned p e.1)) places)
