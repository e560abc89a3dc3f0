-- Which ends an event does not touch.
use Rattle.std.specs.Prelude.{◌≡◌, ℕ, false, IfSome}
use Rattle.std.specs.List.{list_any}
use Rattle.charlotte_calls.specs.Names.{opposite}
use Rattle.charlotte_calls.specs.declared.names.EndId.{EndId}
use Rattle.charlotte_packets.specs.declared.picture.PictureWhat.{PictureWhat}
use Rattle.end_table.specs.Place.{end_eq}
use Rattle.kernel_sound.specs.Sound.{addressee}
use Rattle.kernel_step.specs.Rows.{ends_in}
use Rattle.theorem_meaning.specs.Packets.{Links, values_of}
use Rattle.theorem_effects.specs.Change.{Change}
use Rattle.theorem_effects.specs.Sums.{AllSent}

-- no packet that is addressed to the end is taken or sent
pub record IsUnaddressed (c : Change) (e : EndId) : Type 0 where
  pub taken : IfSome c.taken (λ t. end_eq e (addressee t.1.what) ≡ false)
  pub sent : AllSent (λ to what. end_eq e (addressee what) ≡ false) c.packets

-- no packet that brings the end is taken or sent
pub record IsUnbrought (c : Change) (e : EndId) : Type 0 where
  pub taken : IfSome c.taken (λ t. list_any (end_eq e) (ends_in (values_of t.1.what)) ≡ false)
  pub sent : AllSent (λ to what. list_any (end_eq e) (ends_in (values_of what)) ≡ false) c.packets

-- the entry of the end stays
abbrev pub IsKept : Links → Change → EndId → Type 0
IsKept w c e = c.entry e (w.entry c.kernel e) ≡ w.entry c.kernel e

-- an event passes an end by: its entry stays, and no packet that is addressed to it or brings it is taken or sent
pub record IsAside (w : Links) (c : Change) (e : EndId) : Type 0 where
  pub kept : IsKept w c e
  pub addressed : IsUnaddressed c e
  pub brought : IsUnbrought c e

-- ---- packets that have nothing to do with an end

-- an end is neither x nor its opposite
abbrev pub IsFar : EndId → EndId → Type 0
IsFar q x = (end_eq q x ≡ false) × (end_eq (opposite q) x ≡ false)

-- a packet is not addressed to the end, and does not bring it
abbrev pub IsClear : EndId → ℕ × PictureWhat → Type 0
IsClear q s = (end_eq q (addressee s.1) ≡ false) × (list_any (end_eq q) (ends_in (values_of s.1)) ≡ false)
