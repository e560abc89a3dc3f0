-- Which packets an event took, left and sent.
use Rattle.std.specs.Prelude.{◌≡◌, ℕ, Contains, Some}
use Rattle.charlotte_packets.specs.declared.picture.Picture.{Picture}
use Rattle.charlotte_packets.specs.declared.picture.PictureWhat.{PictureWhat}
use Rattle.theorem_meaning.specs.Packets.{Links}
use Rattle.theorem_effects.specs.Change.{Change, Changes}

-- this is true of the packet that was taken
pub record IsTaken (c : Change) (P : PictureWhat → Type 0) : Type 0 where
  pub from : ℕ
  pub packet : Picture
  pub taken : c.taken ≡ Some (from, packet)
  pub is : P packet.what

-- a packet of which this is true was left where it stood
pub record IsLeft {w u : Links} {c : Change} (b : Changes w c u) (P : PictureWhat → Type 0) : Type 0 where
  pub from : ℕ
  pub to : ℕ
  pub packet : Picture
  pub there : Contains (b.left from to) packet
  pub is : P packet.what

-- a packet of which this is true was sent
pub record IsSent (c : Change) (P : PictureWhat → Type 0) : Type 0 where
  pub to : ℕ
  pub what : PictureWhat
  pub there : Contains c.packets (to, what)
  pub is : P what
