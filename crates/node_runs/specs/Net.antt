-- Nodes of one net, by the numbers of their kernels: what is under way between them, and when they are nodes of one setting.
use Rattle.std.specs.Prelude.{◌≡◌, ℕ, ◌<◌, ◌≤◌, false, List, [], ◌∷◌, ◌++◌, All, length, map, slice_get, slice_index_or, Some}
use Rattle.charlotte_calls.specs.Setting.{IsValid}
use Rattle.charlotte_calls.specs.declared.names.Pid.{Pid}
use Rattle.charlotte_calls.specs.declared.setting.Setting.{Setting}
use Rattle.charlotte_packets.specs.declared.picture.Picture.{Picture}
use Rattle.kernel_entries.specs.declared.entry.Entry.{Entry}
use Rattle.kernel_net.specs.Ports.{AreAllThere, IsNet, Place, place_of, room_to, there_of}
use Rattle.kernel_outbox.specs.Letters.{outbox_to}
use Rattle.kernel_turns.specs.Letters.{AMarker, APacket, Told, told}
use Rattle.kernel_turns.specs.Nodes.{IsNode, Meaning}
use Rattle.kernel_turns.specs.declared.node.Node.{Node}
use Rattle.kernel_turns.specs.Local.{LocalEvent}

-- ---- what is under way

-- the packets among letters
abbrev pub pictures : List Told → List Picture
pictures [] = []
pictures (APacket q ∷ ls) = q ∷ pictures ls
pictures (AMarker ∷ ls) = pictures ls

module _ {P W : Type 0} where
  -- the packets from one node to another that are in the net, as the other knows, and those in the outbox
  abbrev pub left_between : Node P W → Node P W → List Picture
  left_between a b = pictures (told (there_of a.base.port b.base.port ++ outbox_to a.base.outbox b.base.port.kernel))

  -- the packets from one kernel to another, if both have their nodes here
  abbrev pub left_at : List (Node P W) → ℕ → ℕ → List Picture
  left_at ns from to = slice_index_or (map (λ a. slice_index_or (map (left_between a) ns) to []) ns) from []

  abbrev pub journals_of : List (Node P W) → List (List Entry)
  journals_of ns = map (λ n. n.base.journal.entries) ns

  abbrev pub places_of : List (Node P W) → List Place
  places_of ns = map (λ n. place_of n.base.port) ns

  -- none has answered that memory is wanting
  abbrev pub AreUnspoiled : List (Node P W) → Type 0
  AreUnspoiled ns = All (λ n. n.spoiled ≡ false) ns

  -- each two have met, and each with itself: what one put to the other is what this one got, followed by what is there
  abbrev pub HaveMet : List (Node P W) → Type 0
  HaveMet ns = (j k : ℕ) (a b : Node P W) → slice_get ns j ≡ Some a → slice_get ns k ≡ Some b → AreAllThere a.base.port b.base.port

-- ---- nodes of one setting and one net

-- The nodes of a setting, one for each of its kernels in order, which began with these programs and made these events. Their ports are
-- those of one net, whose rings have room
pub record AreNodes {P S W : Type 0} (m : Meaning P S) (HasSeen : W → List Entry → Type 0) (s : Setting) (first : ℕ → List (Pid × P)) (made : ℕ → List LocalEvent) (ns : List (Node P W)) : Type 0 where
  pub valid : IsValid s
  pub count : length ns ≡ s.kernels
  pub each : (k : ℕ) (n : Node P W) → slice_get ns k ≡ Some n → IsNode m HasSeen s k (first k) (made k) n
  -- where there is no kernel, no event was made
  pub none : (k : ℕ) → s.kernels ≤ k → made k ≡ []
  -- each event used a turn
  pub few : (k : ℕ) (n : Node P W) → slice_get ns k ≡ Some n → length n.base.journal.entries ≤ n.base.used
  pub net : IsNet (places_of ns)
  pub room : (k to : ℕ) (n : Node P W) → slice_get ns k ≡ Some n → to < s.kernels → 0 < room_to (place_of n.base.port) to
