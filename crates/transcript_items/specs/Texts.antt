-- How items of what is kept are written.
use Rattle.std.specs.Prelude.{ℕ, ◌==◌, is_some, if◌then◌else◌, List, [], ◌∷◌, ◌++◌, drop, Option, Some, None, option_map, codes}
use Rattle.std.specs.List.{flat_map, range_with_len}
use Rattle.charlotte_calls.specs.declared.names.Pid.{Pid}
use Rattle.charlotte_packets.specs.declared.picture.MovingPicture.{MovingPicture}
use Rattle.charlotte_packets.specs.declared.picture.Picture.{Picture}
use Rattle.charlotte_text.specs.Spelling.{end_text, number_text}
use Rattle.end_table.specs.declared.entry.Entry.{Entry}
use Rattle.end_table.specs.declared.entry.Entry.TheVariants as entry
use Rattle.end_table.specs.declared.entry.HereView.{HereView}
use Rattle.end_table.specs.declared.entry.Holder.{Holder}
use Rattle.end_table.specs.declared.entry.Holder.TheVariants as holder
use Rattle.end_table.specs.declared.entry.Inward.{Inward}
use Rattle.end_table.specs.declared.entry.Inward.TheVariants as inward
use Rattle.end_table.specs.declared.entry.Outward.{Outward}
use Rattle.end_table.specs.declared.entry.Outward.TheVariants as outward
use Rattle.service_step.specs.declared.state.Place.{Place}
use Rattle.service_step.specs.declared.state.Place.TheVariants as place
use Rattle.transcript_lines.specs.Transcript.{bit, packet_text}
use Rattle.transcript_reading.specs.declared.line.LineKind.{LineKind}
use Rattle.transcript_reading.specs.declared.line.LineKind.TheVariants as line
use Rattle.transcript_items.specs.Bearing.{Known, bearing}
use Rattle.transcript_items.specs.Kept.{Kept, doing_of, entry_at, first_due, first_packet, stamp_of}
use Rattle.transcript_items.specs.declared.bearing.Item.{Item}
use Rattle.transcript_items.specs.declared.bearing.Item.TheVariants as item
use Rattle.transcript_items.specs.declared.kernels.Doing.{Doing}
use Rattle.transcript_items.specs.declared.kernels.Doing.TheVariants as doing

-- the first of some numbers
abbrev pub first_number : List ℕ → ℕ
first_number [] = 0
first_number (n ∷ ns) = n

-- a text with the next number in the place of each `#`
unfoldable pub filled : List ℕ → List ℕ → List ℕ
filled [] numbers = []
filled (b ∷ bs) numbers = if b == 35 then number_text (first_number numbers) ++ filled bs (drop 1 numbers) else b ∷ filled bs numbers

-- ---- one item

-- the last stamp of a kernel
abbrev pub stamp_text : ℕ → Option ℕ → List ℕ
stamp_text kernel None = filled (codes "k# not there") (kernel ∷ [])
stamp_text kernel (Some stamp) = filled (codes "k# stamp #") (kernel ∷ stamp ∷ [])

-- what a process is doing, and at which kernel
abbrev pub process_text : Pid → Option (ℕ × Doing) → List ℕ
process_text p None = filled (codes "p# not there") (p.0 ∷ [])
process_text p (Some (kernel, doing.Runs)) = filled (codes "p# at k# runs") (p.0 ∷ kernel ∷ [])
process_text p (Some (kernel, doing.Waits)) = filled (codes "p# at k# waits") (p.0 ∷ kernel ∷ [])
process_text p (Some (kernel, doing.Exited)) = filled (codes "p# at k# exited") (p.0 ∷ kernel ∷ [])

-- the first packet from one kernel to another
abbrev pub way_text : ℕ → ℕ → Option Picture → List ℕ
way_text from to None = filled (codes "k# to k# no packet") (from ∷ to ∷ [])
way_text from to (Some q) =
    filled (codes "k# to k# ") (from ∷ to ∷ []) ++ packet_text q.what ++ filled (codes ", sent at #") (q.stamp ∷ [])

abbrev pub holder_text : Holder → List ℕ
holder_text (holder.Owner p) = filled (codes ", owner p#") (p.0 ∷ [])
holder_text (holder.EnclosedIn end) = codes ", in a message of " ++ end_text end

abbrev pub outward_text : Outward → List ℕ
outward_text outward.Idle = codes ", out idle"
outward_text (outward.Waiting n bytes enclosed) = filled (codes ", out waiting #") (n ∷ [])
outward_text (outward.Matched n) = filled (codes ", out matched #") (n ∷ [])
outward_text outward.Unreported = codes ", out unreported"

abbrev pub inward_text : Inward → List ℕ
inward_text inward.Idle = codes ", in idle"
inward_text (inward.Posted w) = filled (codes ", in posted #") (w ∷ [])
inward_text (inward.Withdrawing w) = filled (codes ", in withdrawing #") (w ∷ [])
inward_text inward.Unreported = codes ", in unreported"

-- the numbers of the value of an end on which service steps depend
abbrev pub fields_text : MovingPicture → List ℕ
fields_text m =
    filled (codes ", sent #, asked #, served #, want #, dead #") (m.sent ∷ m.asked ∷ m.served ∷ m.want ∷ bit m.dead ∷ [])

abbrev pub here_text : HereView → List ℕ
here_text v = holder_text v.holder ++ outward_text v.outward ++ inward_text v.inward ++ fields_text v.value

-- what a kernel keeps of an end
abbrev pub held_text : ℕ → Entry → List ℕ
held_text kernel entry.Nothing = filled (codes " at k# no entry") (kernel ∷ [])
held_text kernel (entry.Here v) = filled (codes " at k# here") (kernel ∷ []) ++ here_text v
held_text kernel (entry.Left to hops) = filled (codes " at k# left to k#") (kernel ∷ to ∷ [])
held_text kernel (entry.Destroyed m) = filled (codes " at k# destroyed") (kernel ∷ []) ++ fields_text m

-- where an end is in the link service
abbrev pub place_text : Place → List ℕ
place_text (place.Owned p) = filled (codes " in the service: owned by p#") (p.0 ∷ [])
place_text (place.InMessage on n) = filled (codes " in the service: in message # of ") (n ∷ []) ++ end_text on
place_text place.Destroyed = codes " in the service: destroyed"
place_text place.Unmade = codes " in the service: not made"

abbrev pub item_text : Kept → Item → List ℕ
item_text k (item.LastEntry stamp kernel) = filled (codes "last entry # k#") (stamp ∷ kernel ∷ [])
item_text k (item.Stamp kernel) = stamp_text kernel (stamp_of k kernel)
item_text k (item.Process p) = process_text p (doing_of k p)
item_text k (item.Way from to) = way_text from to (first_packet k from to)
item_text k item.NoPacket = codes "no packet under way"
item_text k (item.Entry kernel end) = end_text end ++ held_text kernel (entry_at k kernel end)
item_text k (item.Place end) = end_text end ++ place_text (k.service.ends end).place

-- ---- all items

-- a text behind those so far, with `; ` between them
abbrev pub add_text : List ℕ → List ℕ → List ℕ
add_text [] text = text
add_text (b ∷ bs) text = (b ∷ bs) ++ codes "; " ++ text

-- the texts of items behind those so far
abbrev pub add_items : Kept → List Item → List ℕ → List ℕ
add_items k [] so_far = so_far
add_items k (x ∷ xs) so_far = add_items k xs (add_text so_far (item_text k x))

abbrev pub items_text : Kept → List Item → List ℕ
items_text k [] = codes "nothing"
items_text k (x ∷ xs) = add_items k (x ∷ xs) []

-- ---- of what is kept, what decides which items bear on a line

-- the kernel of the process that a call names
abbrev pub home_of : Kept → LineKind → Option ℕ
home_of k (line.CallEntry stamp kernel p call) = option_map (λ d. d.0) (doing_of k p)
home_of k other = None

-- a way on which a packet waits, from a kernel to a kernel
abbrev pub way_with_packet : Kept → ℕ → ℕ → List (ℕ × ℕ)
way_with_packet k to from = if is_some (first_packet k from to) then (from, to) ∷ [] else []

abbrev pub ways_to : Kept → ℕ → List (ℕ × ℕ)
ways_to k to = flat_map (way_with_packet k to) (range_with_len 0 k.setting.kernels)

abbrev pub ways_with_packets : Kept → List (ℕ × ℕ)
ways_with_packets k = flat_map (ways_to k) (range_with_len 0 k.setting.kernels)

abbrev pub known_of : Kept → LineKind → Known
known_of k kind = record { latest = k.latest; due = first_due k; home = home_of k kind; waiting = ways_with_packets k }

-- the items that bear on a line
abbrev pub kept_text : Kept → LineKind → List ℕ
kept_text k kind = items_text k (bearing (known_of k kind) kind)
