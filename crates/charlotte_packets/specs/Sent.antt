-- The packets of an event, as they lie.
use Rattle.std.specs.Prelude.{◌≡◌, ℕ, ◌+◌, ◌^◌, ◌<◌, ◌≤◌, List, [], ◌∷◌, length, suc, Option, None, Some}
use Rattle.std.specs.Global.{Box}
use Rattle.charlotte_packets.specs.declared.brief.Brief.{Brief}
use Rattle.charlotte_packets.specs.declared.brief.Brief.TheVariants as brief
use Rattle.charlotte_packets.specs.declared.packet.Packet.{Packet}
use Rattle.charlotte_packets.specs.declared.packet.What.TheVariants as packet

-- packets, each with the kernel that it goes to, and for how many there is room
pub record ListView : Type 0 where
  pub items : List (ℕ × Packet)
  pub fits : ℕ

-- packets, each with the kernel that it goes to
pub record UnsentView : Type 0 where
  pub items : List (ℕ × Packet)

-- the packets of which these lie whole
abbrev pub packets_of : List Brief → List Packet → List (ℕ × Packet)
packets_of [] ps = []
packets_of (brief.Gone to at end stamp ∷ bs) ps = (to, record { stamp = stamp; what = packet.Gone end at }) ∷ packets_of bs ps
packets_of (brief.Whole to ∷ bs) [] = packets_of bs []
packets_of (brief.Whole to ∷ bs) (p ∷ ps) = (to, p) ∷ packets_of bs ps

-- so many of them lie whole
abbrev pub wholes : List Brief → ℕ
wholes [] = 0
wholes (brief.Gone to at end stamp ∷ bs) = wholes bs
wholes (brief.Whole to ∷ bs) = suc (wholes bs)

-- the packets that lie whole are those, and the lists have room for so many
pub record AreBrief (bs : List Brief) (ps : List Packet) (briefs_room whole_room fits : ℕ) : Type 0 where
  pub all : wholes bs ≡ length ps
  pub briefs : fits ≤ briefs_room
  pub whole : fits ≤ whole_room

-- so many packets of an event lie whole, at most
abbrev pub most_whole : ℕ
most_whole = 64

-- others lie behind these alone, and there is room for so many, which is no more than a list holds
pub record IsListed (whole : List (ℕ × Packet)) (whole_room : ℕ) (behind : ListView) (fits : ℕ) : Type 0 where
  pub few : length whole < most_whole → behind.items ≡ []
  pub first : (n : ℕ) → n < most_whole → n < fits → n < whole_room
  pub others : fits ≤ most_whole + behind.fits
  pub room : fits < 2 ^ 63
  pub within : length whole + length behind.items ≤ fits

-- nothing is held, or a list
abbrev pub held : Option (Box ListView) → ListView
held None = record { items = []; fits = 0 }
held (Some list) = list.value
