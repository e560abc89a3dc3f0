-- The end that a packet is addressed to, and whether it is heard there.
use Rattle.std.specs.Prelude.{◌≡◌, ◌↔◌, Bool, true, false, IsTrue}
use Rattle.charlotte_packets.specs.Packets.{what_picture}
use Rattle.charlotte_calls.specs.declared.names.EndId.{EndId}
use Rattle.charlotte_packets.specs.declared.packet.What.{What}
use Rattle.charlotte_packets.specs.declared.picture.PictureWhat.{PictureWhat}
use Rattle.charlotte_packets.specs.declared.picture.PictureWhat.TheVariants as packet
use Rattle.end_table.specs.Table.{IsHere}
use Rattle.end_table.specs.declared.entry.Entry.{Entry}
use Rattle.kernel_sound.specs.Owners.{owner_of}
use Rattle.kernel_sound.specs.Sound.{addressee}
use Rattle.kernel_touched.specs.declared.found.Found.{Found}

-- a packet of this kind changes no activity, and gives no report
abbrev pub is_silent : PictureWhat → Bool
is_silent (packet.Want to w at hops) = true
is_silent (packet.Unwant to w at hops) = true
is_silent (packet.Unwanted to w at hops) = false
is_silent (packet.Parcel to n w at hops bytes ms) = false
is_silent (packet.Taken to n at hops) = false
is_silent (packet.Back to n ms) = false
is_silent (packet.Gone to at) = false
is_silent (packet.Moved to at hops) = true
is_silent (packet.Known to hops) = true
is_silent (packet.Forget to hops) = true
is_silent (packet.GoneSeen to) = true

-- a packet may change activities and give reports: it is not silent, and is to an end that is here
abbrev pub IsHeard : (EndId → Entry) → PictureWhat → Type 0
IsHeard t what = IsHere (t (addressee what)) × (is_silent what ≡ false)

-- this is how the end that a packet is addressed to is found
pub record IsFound (t : EndId → Entry) (what : What) (to : Found) : Type 0 where
  pub end : to.end ≡ addressee (what_picture what)
  pub heard : IsTrue to.heard ↔ IsHeard t (what_picture what)
  pub owner : to.heard ≡ true → to.owner ≡ owner_of (t to.end)
