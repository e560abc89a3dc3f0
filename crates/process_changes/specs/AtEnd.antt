-- What the changes of a process are at one of its ends.
use Rattle.std.specs.Prelude.{◌≡◌, Bool, false, if◌then◌else◌, ℕ, suc, ◌+◌, ◌==◌, ◌≤◌, List, [], ◌∷◌, ◌++◌, map, filter, Option, Some, Ok, Err, ⊤}
use Rattle.charlotte_calls.specs.EndEq.{end_eq}
use Rattle.charlotte_calls.specs.declared.calls.Answer.{Answer}
use Rattle.charlotte_calls.specs.declared.calls.Answer.TheVariants as answer
use Rattle.charlotte_calls.specs.declared.names.EndId.{EndId}
use Rattle.lynx_packets.specs.declared.packet.RtPacket.{RtPacket}
use Rattle.lynx_packets.specs.Packets.{packet_of}
use Rattle.end_protocol.specs.declared.kept.Kept.{Kept}
use Rattle.end_protocol.specs.Deeds.{Deed, heard_deeds}
use Rattle.end_protocol.specs.Falling.{dies}
use Rattle.end_protocol.specs.Going.{receive_over, returns, sent, settled}
use Rattle.end_protocol.specs.Happenings.{Happening, after, deeds_of}
use Rattle.end_protocol.specs.Hearing.{hears}
use Rattle.end_protocol.specs.Kept.{fresh}
use Rattle.end_protocol.specs.Wanting.{is_busy}
use Rattle.process_run.specs.States.{Asked, DeedOn, Gone, Holding, Keeps, Place}
use Rattle.process_run.specs.States as process
use Rattle.process_run.specs.Ends.{number_of, place_at}
use Rattle.process_run.specs.Reports.{holding_of}
use Rattle.process_changes.specs.Changes.{IsHeld, IsWhole, MayDo}
use Rattle.process_changes.specs.Ledgers.{Ledger, carried_at, how_often}
use Rattle.process_changes.specs.Telling.{Brings, IsAnswer, IsDeath, IsDeathWith, IsReadable, IsTold, Turn}

-- what the process has of an end, under its number
abbrev pub holding_at : EndId → List Place → Holding
holding_at x ps = holding_of (place_at (number_of x ps) ps)

-- what is done on an end, among these deeds
abbrev pub deeds_at : EndId → List DeedOn → List Deed
deeds_at x ds = map (λ d. d.deed) (filter (λ d. end_eq d.on x) ds)

-- no end is held under two numbers: where it is held, that is its number
abbrev pub AreSingle : List Place → Type 0
AreSingle ps = (n : ℕ) (x : EndId) (k : Kept) → IsHeld n x k ps → n ≡ number_of x ps

-- ---- a Send that was answered counts already

-- a Send was asked on the end of this number, and is answered Ok
abbrev pub is_sent : Asked → Option Answer → ℕ → Bool
is_sent (process.Send m) (Some answer.Ok) n = m == n
is_sent asked given n = false

-- What is kept for the end: the kernel has the message, and its process makes the next step with that answer
abbrev pub known : Turn → ℕ → Kept → Kept
known t n k = if is_sent t.asked t.given n then sent k else k

abbrev pub known_holding : Turn → ℕ → Holding → Holding
known_holding t n (Keeps k) = Keeps (known t n k)
known_holding t n (Gone own) = Gone own

-- of the places from this number on
abbrev pub known_from : Turn → ℕ → List Place → List Place
known_from t n [] = []
known_from t n (p ∷ ps) = record p { holding = known_holding t n p.holding } ∷ known_from t (n + 1) ps

abbrev pub known_ledger : Turn → Ledger → Ledger
known_ledger t b = record b { places = known_from t 1 b.places }

-- ---- where an end is

-- what the process has of it, how often it is carried or in the hand, and how often it is to be destroyed
pub record Seen : Type 0 where
  pub holding : Holding
  pub out : ℕ
  pub doomed : ℕ

abbrev pub seen : EndId → Ledger → Seen
seen x b =
    record {
      holding = holding_at x b.places;
      out = how_often x (carried_at b.places) + how_often x b.hand;
      doomed = how_often x b.doomed;
    }

-- in how many places it is
abbrev pub held_count : Holding → ℕ
held_count (Keeps k) = 1
held_count (Gone own) = 0

abbrev pub total : Seen → ℕ
total a = held_count a.holding + a.out + a.doomed

-- it is in no more places than before, and is not carried where it was to be destroyed
pub record IsLess (a b : Seen) : Type 0 where
  pub out : b.out ≤ a.out
  pub all : b.out + b.doomed ≤ a.out + a.doomed

-- ---- changes

-- one change, seen at one end
pub data ChangeAt (version : ℕ) : Seen → List Deed → Seen → Type 0 where
  -- it is at another end
  Elsewhere : (a b : Seen) → b.holding ≡ a.holding → IsLess a b → ChangeAt version a [] b
  Does : (k : Kept) (h : Happening) (a b : Seen) → a.holding ≡ Keeps k → b.holding ≡ Keeps (after version h k) → MayDo h k → IsLess a b
      → ChangeAt version a (deeds_of version h k) b
  Settles : (room : Bool) (k : Kept) (a b : Seen) → a.holding ≡ Keeps k → b.holding ≡ Keeps (settled room k) → IsLess a b
      → ChangeAt version a [] b
  -- it is taken into the hand
  LetsGo : (k : Kept) (a b : Seen) → a.holding ≡ Keeps k → b.holding ≡ Gone false → is_busy k ≡ false → IsWhole k
      → b.out + b.doomed ≤ suc (a.out + a.doomed) → ChangeAt version a [] b
  Destroys : (k : Kept) (a b : Seen) → a.holding ≡ Keeps k → b.holding ≡ Gone (returns k.sending) → b.out ≤ a.out
      → b.out + b.doomed ≤ suc (a.out + a.doomed) → ChangeAt version a [] b
  -- it comes out of the hand
  Holds : (a b : Seen) → b.holding ≡ Keeps fresh → suc b.out ≤ a.out → suc (b.out + b.doomed) ≤ a.out + a.doomed → ChangeAt version a [] b

-- one after the other
pub data ChangesAt (version : ℕ) : Seen → List Deed → Seen → Type 0 where
  None : (a : Seen) → ChangesAt version a [] a
  Then : (a : Seen) (ds : List Deed) (b : Seen) (es : List Deed) (c : Seen) → ChangeAt version a ds b → ChangesAt version b es c
      → ChangesAt version a (ds ++ es) c

-- the changes are these at one end, and afterwards no end is held under two numbers
pub record AreAt (version : ℕ) (x : EndId) (b : Ledger) (ds : List DeedOn) (c : Ledger) : Type 0 where
  pub changes : ChangesAt version (seen x b) (deeds_at x ds) (seen x c)
  pub single : AreSingle c.places

-- ---- what is told

-- nothing is told of an end of this number: no Send on it is answered Ok, and no message is reported
pub record IsUntold (t : Turn) (x : EndId) (n : ℕ) : Type 0 where
  pub unsent : IsTold t (process.Send n) answer.Ok → ⊥
  pub unheard : (bytes : List ℕ) (xs : List EndId) → Brings t x bytes xs → ⊥

-- where it is held
abbrev pub IsUntoldOf : Turn → EndId → ℕ → Holding → Type 0
IsUntoldOf t x n (Keeps k) = IsUntold t x n
IsUntoldOf t x n (Gone own) = ⊤

-- what is told of an end of this number
pub data ToldAt (version : ℕ) (t : Turn) (x : EndId) (n : ℕ) : Holding → List Deed → Holding → Type 0 where
  -- it is about another end, or about none
  Otherwise : (g : Holding) → IsUntoldOf t x n g → ToldAt version t x n g [] g
  Answers : (k : Kept) (h : Happening) → IsAnswer t n x h → ToldAt version t x n (Keeps k) [] (Keeps (after version h k))
  -- a message that can be read; one that is ignored; one with which the end is destroyed
  Hears : (k : Kept) (room : Bool) (bytes : List ℕ) (packet : RtPacket) (xs : List EndId) → Brings t x bytes xs → packet_of version bytes ≡ Ok packet
      → IsReadable (hears version room packet xs (receive_over k)).1
      → ToldAt version t x n (Keeps k) (heard_deeds (hears version room packet xs (receive_over k)).1)
      (Keeps (hears version room packet xs (receive_over k)).0)
  Ignores : (k : Kept) (bytes : List ℕ) (left : ℕ) (xs : List EndId) → Brings t x bytes xs → packet_of version bytes ≡ Err left
      → ToldAt version t x n (Keeps k) [] (Keeps (receive_over k))
  Breaks : (k : Kept) (own : Bool) (bytes : List ℕ) (xs : List EndId) → Brings t x bytes xs → ToldAt version t x n (Keeps k) [] (Gone own)
  -- the link is dead
  Dies : (k : Kept) → IsDeath t n → ToldAt version t x n (Keeps k) [] (Keeps (dies k))
  DiesWith : (k : Kept) (h : Happening) → IsDeathWith t n x h → ToldAt version t x n (Keeps k) [] (Keeps (dies (after version h k)))

-- What is told is this at one end, which is in no more places than before; and afterwards no end is held under two numbers
pub record IsToldAt (version : ℕ) (t : Turn) (x : EndId) (b : Ledger) (ds : List DeedOn) (c : Ledger) : Type 0 where
  pub told : ToldAt version t x (number_of x b.places) (seen x b).holding (deeds_at x ds) (seen x c).holding
  pub out : (seen x c).out ≤ (seen x (known_ledger t b)).out
  pub all : total (seen x c) ≤ total (seen x (known_ledger t b))
  pub single : AreSingle c.places
