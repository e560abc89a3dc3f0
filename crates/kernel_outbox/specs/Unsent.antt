-- The packets of an event that are not sent yet.
use Rattle.std.specs.Prelude.{◌≡◌, ◌<◌, ℕ, List, ◌∷◌}
use Rattle.charlotte_packets.specs.declared.packet.Packet.{Packet}

-- packets, each with the kernel that it goes to, and how many of them, the first ones, lie whole
pub record UnsentView : Type 0 where
  pub items : List (ℕ × Packet)
  pub whole : ℕ

-- the first of these packets lies whole, and goes to this kernel
pub record GoesFirst (to : ℕ) (u : UnsentView) : Type 0 where
  pub some : 0 < u.whole
  pub packet : Packet
  pub rest : List (ℕ × Packet)
  pub items : u.items ≡ (to, packet) ∷ rest
