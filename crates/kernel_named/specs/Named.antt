-- Which kernels are named. There are n kernels, and their numbers are below n.
use Rattle.std.specs.Prelude.{◌≡◌, ℕ, ◌<◌, true, List, All}
use Rattle.charlotte_packets.specs.Packets.{is_addressed, names_kernels_below, what_picture}
use Rattle.charlotte_calls.specs.declared.names.EndId.{EndId}
use Rattle.charlotte_packets.specs.declared.packet.Packet.{Packet}
use Rattle.charlotte_packets.specs.declared.picture.Picture.{Picture}
use Rattle.charlotte_packets.specs.declared.picture.PictureWhat.{PictureWhat}
use Rattle.end_table.specs.declared.entry.Entry.{Entry}
use Rattle.end_table.specs.declared.entry.Entry.TheVariants as entry

-- each kernel that an entry names is there
abbrev pub NamesBelow : ℕ → Entry → Type 0
NamesBelow n entry.Nothing = Unit {0}
NamesBelow n (entry.Here v) = names_kernels_below n v.value ≡ true
NamesBelow n (entry.Left to hops) = to < n
NamesBelow n (entry.Destroyed m) = names_kernels_below n m ≡ true

-- a table names no other kernels
abbrev pub TableNamesBelow : ℕ → (EndId → Entry) → Type 0
TableNamesBelow n t = (e : EndId) → NamesBelow n (t e)

-- a packet goes to a kernel that is there, and names no other
abbrev pub IsSentWithin : ℕ → ℕ → PictureWhat → Type 0
IsSentWithin n to what = (to < n) × (is_addressed what n ≡ true)

-- so does each packet that an event sent, as plain data
abbrev pub AreSentWithin : ℕ → List (ℕ × Picture) → Type 0
AreSentWithin n sent = All (λ s. IsSentWithin n s.0 s.1.what) sent

-- and as an `Effect` has them
abbrev pub GoWithin : ℕ → List (ℕ × Packet) → Type 0
GoWithin n sent = All (λ s. IsSentWithin n s.0 (what_picture s.1.what)) sent
