-- What becomes of the ends of a process, one change after the other, and the deeds of that.
use Rattle.std.specs.Prelude.{◌≡◌, Bool, false, ℕ, ◌≤◌, List, [], ◌∷◌, ◌++◌, length, map, Some, ⊤}
use Rattle.std.specs.Prelude as prelude
use Rattle.charlotte_calls.specs.declared.calls.Call.TheVariants as call
use Rattle.charlotte_calls.specs.declared.names.EndId.{EndId}
use Rattle.charlotte_calls.specs.declared.program.Next.{Next}
use Rattle.charlotte_calls.specs.declared.program.Next.TheVariants as next
use Rattle.lynx_packets.specs.Spelling.{links_of}
use Rattle.end_protocol.specs.declared.kept.Kept.{Kept}
use Rattle.end_protocol.specs.Going.{returns}
use Rattle.end_protocol.specs.Happenings.{Happening, Connects, Accepts, Binds, Unbinds, Replies, after, deeds_of}
use Rattle.end_protocol.specs.Kept.{fresh}
use Rattle.end_protocol.specs.Wanting.{is_busy}
use Rattle.process_run.specs.States.{DeedOn, Gone, Keeps, Place, deeds_on}
use Rattle.process_run.specs.Ends.{gets_one, number_of, place_at, with_holding}
use Rattle.process_run.specs.Runs.{settled_at}
use Rattle.process_changes.specs.Ledgers.{Ledger, given_back, how_often}

-- What a thread may do at an end. Nobody connects on a dead end; requests and replies have an end for each link among their values, and eight at most
abbrev pub MayDo : Happening → Kept → Type 0
MayDo (Connects c) k = (k.dead ≡ false) × (length c.ends ≡ links_of c.values) × (length c.ends ≤ 8)
MayDo (Replies r) k = (length r.ends ≡ links_of r.values) × (length r.ends ≤ 8)
MayDo (Accepts a) k = ⊤
MayDo (Binds b) k = ⊤
MayDo (Unbinds entry) k = ⊤
MayDo _ k = ⊥

-- the ends that a connect or reply takes along
abbrev pub taken_along : Happening → List EndId
taken_along (Connects c) = c.ends
taken_along (Replies r) = r.ends
taken_along _ = []

-- under this number the process holds this end, and keeps this for it
abbrev pub IsHeld : ℕ → EndId → Kept → List Place → Type 0
IsHeld n x k ps = place_at n ps ≡ Some (record { end = x; holding = Keeps k })

-- no request is in part on an end, unless that is dead
abbrev pub IsWhole : Kept → Type 0
IsWhole k = k.dead ≡ false → k.request ≡ prelude.None

-- each end that is at rest is so
abbrev pub RestWhole : List Place → Type 0
RestWhole ps = (n : ℕ) (x : EndId) (k : Kept) → IsHeld n x k ps → is_busy k ≡ false → IsWhole k

-- one change of the ends of a process, with its deeds
pub data Change (version : ℕ) : Ledger → List DeedOn → Ledger → Type 0 where
  -- a thread does something at an end, with ends from the hand
  Does : (n : ℕ) (x : EndId) (k : Kept) (h : Happening) (b : Ledger) (rest : List EndId) → IsHeld n x k b.places → MayDo h k
      → b.hand ≡ taken_along h ++ rest
      → Change version b (deeds_on x (deeds_of version h k)) (record b { places = with_holding n (Keeps (after version h k)) b.places; hand = rest })
  -- each allow that is due is queued
  Settle : (room : Bool) (b : Ledger) → Change version b [] (record b { places = map (settled_at room) b.places })
  -- an end that is at rest is taken into the hand, to go with a message, and no request is in part there
  LetsGo : (n : ℕ) (x : EndId) (k : Kept) (b : Ledger) → IsHeld n x k b.places → is_busy k ≡ false → IsWhole k
      → Change version b [] (record b { places = with_holding n (Gone false) b.places; hand = x ∷ b.hand })
  -- an end is to be destroyed, and what it carried is in the hand
  Destroys : (n : ℕ) (x : EndId) (k : Kept) (b : Ledger) → IsHeld n x k b.places
      → Change version b []
      (record {
        places = with_holding n (Gone (returns k.sending)) b.places;
        doomed = b.doomed ++ x ∷ [];
        hand = given_back k ++ b.hand;
      })
  -- an end in the hand is held again; is got, under the next number; or is to be destroyed
  Holds : (x : EndId) (rest : List EndId) (b : Ledger) → b.hand ≡ x ∷ rest
      → Change version b [] (record b { places = with_holding (number_of x b.places) (Keeps fresh) b.places; hand = rest })
  Gets : (x : EndId) (rest : List EndId) (b : Ledger) → b.hand ≡ x ∷ rest
      → Change version b [] (record b { places = gets_one x b.places; hand = rest })
  Dooms : (x : EndId) (rest : List EndId) (b : Ledger) → b.hand ≡ x ∷ rest
      → Change version b [] (record b { doomed = b.doomed ++ x ∷ []; hand = rest })
  -- the hand is ordered anew, and what it does not need is dropped
  Sorts : (hand : List EndId) (b : Ledger) → ((x : EndId) → how_often x hand ≤ how_often x b.hand) → Change version b [] (record b { hand = hand })

-- one after the other
pub data Changes (version : ℕ) : Ledger → List DeedOn → Ledger → Type 0 where
  None : (b : Ledger) → Changes version b [] b
  Then : (b : Ledger) (ds : List DeedOn) (c : Ledger) (es : List DeedOn) (d : Ledger) → Change version b ds c → Changes version c es d
      → Changes version b (ds ++ es) d

-- the end that is destroyed with this step is not to be destroyed any more
abbrev pub AreLeft : Next → List EndId → List EndId → Type 0
AreLeft (next.Ask (call.Destroy x)) doomed rest = doomed ≡ x ∷ rest
AreLeft n doomed rest = doomed ≡ rest
