-- Values that became Here, one after the other.
use Rattle.std.specs.List.{fold}
use Rattle.std.specs.Prelude.{List}
use Rattle.charlotte_calls.specs.declared.names.EndId.{EndId}
use Rattle.charlotte_packets.specs.declared.picture.MovingPicture.{MovingPicture}
use Rattle.end_table.specs.Entries.{settled}
use Rattle.end_table.specs.Place.{put}
use Rattle.end_table.specs.declared.entry.Entry.{Entry}
use Rattle.end_table.specs.declared.entry.Entry.TheVariants as entry
use Rattle.end_table.specs.declared.entry.Holder.{Holder}

-- the entries after these values became Here for a holder
unfoldable pub with_here : Holder → List MovingPicture → (EndId → Entry) → (EndId → Entry)
with_here h ms t = fold (λ so_far m. put so_far m.end (entry.Here (settled h m))) t ms
