-- What a process is told of one of its ends, as events at the link of that end.
use Rattle.std.specs.Prelude.{◌≡◌, ℕ, true, List, [], ◌∷◌, Ok, ⊤}
use Rattle.charlotte_calls.specs.declared.names.EndId.{EndId}
use Rattle.lynx_packets.specs.Packets.{packet_of}
use Rattle.end_protocol.specs.declared.messages.Message.{Message}
use Rattle.end_protocol.specs.Deeds.{Deed}
use Rattle.end_protocol.specs.Lists.{tail}
use Rattle.end_protocol.specs.Wanting.{is_deaf}
use Rattle.process_changes.specs.States.{DeedOn, Gone, Holding, Keeps}
use Rattle.process_changes.specs.Ends.{number_of}
use Rattle.process_changes.specs.Ledgers.{Ledger}
use Rattle.process_changes.specs.Telling.{Turn}
use Rattle.process_changes.specs.AtEnd.{IsToldAt, ToldAt, deeds_at, seen}
use Rattle.process_changes.specs.AtEnd as told
use Rattle.request_runs.specs.Changing.{IsReceiving}
use Rattle.request_runs.specs.Sides.{Destroyed, Pair}

-- ---- what is told is true

-- a message with these bytes and ends is the first that is coming
pub record IsFirst (version : ℕ) (bytes : List ℕ) (xs : List EndId) (ms : List Message) : Type 0 where
  pub message : Message
  pub rest : List Message
  pub first : ms ≡ message ∷ rest
  pub packet : packet_of version bytes ≡ Ok message.packet
  pub ends : message.ends ≡ xs

-- what is reported is the first that is coming, and a link is dead of which the service destroyed the other end
abbrev pub IsTrue : (version : ℕ) (t : Turn) (x : EndId) (n : ℕ) → Pair
    → (g : Holding) (ds : List Deed) (h : Holding) → ToldAt version t x n g ds h → Type 0
IsTrue version t x n p g ds h (told.Otherwise f untold) = ⊤
IsTrue version t x n p g ds h (told.Answers k what is) = ⊤
IsTrue version t x n p g ds h (told.Hears k room bytes packet xs brings spelled readable) = IsFirst version bytes xs p.near.coming
IsTrue version t x n p g ds h (told.Ignores k bytes left xs brings e) = IsFirst version bytes xs p.near.coming
IsTrue version t x n p g ds h (told.Breaks k own bytes xs brings) = IsFirst version bytes xs p.near.coming
IsTrue version t x n p g ds h (told.Dies k death) = p.far.standing ≡ Destroyed
IsTrue version t x n p g ds h (told.DiesWith k what death) = p.far.standing ≡ Destroyed

-- what is coming afterwards
abbrev pub left : (version : ℕ) (t : Turn) (x : EndId) (n : ℕ) (g : Holding) (ds : List Deed) (h : Holding) → ToldAt version t x n g ds h
    → List Message → List Message
left version t x n g ds h (told.Hears k room bytes packet xs brings spelled readable) ms = tail ms
left version t x n g ds h (told.Breaks k own bytes xs brings) ms = tail ms
left version t x n g ds h _ ms = ms

-- the same of all that is told of an end
abbrev pub IsTrueAt : (version : ℕ) (t : Turn) (x : EndId) (b : Ledger) (ds : List DeedOn) (c : Ledger) → Pair → IsToldAt version t x b ds c → Type 0
IsTrueAt version t x b ds c p is =
    IsTrue version t x (number_of x b.places) p (seen x b).holding (deeds_at x ds) (seen x c).holding is.told

abbrev pub left_at : (version : ℕ) (t : Turn) (x : EndId) (b : Ledger) (ds : List DeedOn) (c : Ledger) → IsToldAt version t x b ds c
    → List Message → List Message
left_at version t x b ds c is ms = left version t x (number_of x b.places) (seen x b).holding (deeds_at x ds) (seen x c).holding is.told ms

-- no receive is started
abbrev pub IsDeaf : Holding → Type 0
IsDeaf (Keeps k) = is_deaf k.receiving ≡ true
IsDeaf (Gone own) = ⊥

-- over a dead link nothing is coming once a receive is over
abbrev pub IsSpent : Pair → (g h : Holding) → List Message → Type 0
IsSpent p g h ms = IsReceiving g → IsDeaf h → p.far.standing ≡ Destroyed → ms ≡ []
