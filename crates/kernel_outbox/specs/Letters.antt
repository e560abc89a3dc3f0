-- The letters of an outbox, and how they are put.
use Rattle.std.specs.Prelude.{◌≡◌, ◌≢◌, ℕ, Bool, true, false, ◌<◌, ◌≤◌, nat_eq, nat_lt, if◌then◌else◌, List, [], ◌∷◌, ◌++◌, length, map, slice_index_or}
use Rattle.charlotte_packets.specs.declared.packet.Packet.{Packet}
use Rattle.kernel_net.specs.Letters.{MayBePut}
use Rattle.kernel_net.specs.Ports.{PortView, place_of, put_to, places_to}
use Rattle.kernel_net.specs.declared.letter.Letter.{Letter}
use Rattle.kernel_net.specs.declared.letter.Letter.TheVariants as letter
use Rattle.kernel_outbox.specs.declared.outbox.Outbox.{Outbox}

-- ---- the outbox

-- the letters to a kernel that wait
abbrev pub waiting_to : Outbox → ℕ → List Letter
waiting_to o to = slice_index_or (map (λ list. list.items) o.waiting.items) to []

-- a letter to a kernel, seen from each
abbrev pub if_to : ℕ → ℕ → Letter → List Letter
if_to to target l = if nat_eq to target then l ∷ [] else []

-- the packets to a kernel among these
abbrev pub letters_for : ℕ → List (ℕ × Packet) → List Letter
letters_for to [] = []
letters_for to (sent ∷ others) = if_to to sent.0 (letter.Packet sent.1) ++ letters_for to others

-- the letters to a kernel, in the order in which they are put
abbrev pub outbox_to : Outbox → ℕ → List Letter
outbox_to o to = waiting_to o to ++ letters_for to o.unsent.items

-- a marker to each of so many kernels
abbrev pub markers_to : ℕ → ℕ → List Letter
markers_to kernels to = if nat_lt to kernels then letter.Marker ∷ [] else []

-- ---- what may be put, and was

-- behind these letters of a ring all of these may be put, one after the other
abbrev pub MayAllBePut : List Letter → List Letter → Type 0
MayAllBePut before [] = Unit {0}
MayAllBePut before (l ∷ ls) = MayBePut before l × MayAllBePut (before ++ l ∷ []) ls

-- The first letters of a list to a kernel were put, behind those that were put before. The others are left
pub record PutsSome (to : ℕ) (before after : List Letter) (old new : PortView) : Type 0 where
  pub letters : put_to new to ++ after ≡ put_to old to ++ before
  pub fewer : length after ≤ length before
  pub others : (q : ℕ) → q ≢ to → (put_to new q ≡ put_to old q) × (places_to new q ≡ places_to old q)
  pub into : new.into ≡ old.into
  pub place : place_of new ≡ place_of old

-- as many as were accepted
pub record PutsFirst (to : ℕ) (before after : List Letter) (old new : PortView) : Type 0 where
  pub some : PutsSome to before after old new
  pub full : 0 < length after → places_to new to ≡ 0

-- A letter to a kernel was put where none waited, or waits behind those that do, where it is known that no place is free
pub record PutsOne (put : Bool) (to : ℕ) (letter : Letter) (before after : ℕ → List Letter) (old new : PortView) : Type 0 where
  pub letters : (q : ℕ) → put_to new q ++ after q ≡ put_to old q ++ before q ++ if_to q to letter
  pub waits : (q : ℕ) → after q ≡ before q ++ (if put then [] else if_to q to letter)
  pub full : put ≡ false → places_to new to ≡ 0
  pub none : put ≡ true → before to ≡ []
  pub others : (q : ℕ) → q ≢ to → places_to new q ≡ places_to old q
  pub into : new.into ≡ old.into
  pub place : place_of new ≡ place_of old

-- the first unsent packet was put where none waited, or waits
pub record PutsNext (put : Bool) (before after : Outbox) (old new : PortView) : Type 0 where
  pub sent : ℕ × Packet
  pub first : before.unsent.items ≡ sent ∷ after.unsent.items
  pub one : PutsOne put sent.0 (letter.Packet sent.1) (waiting_to before) (waiting_to after) old new

-- Of each kernel's letters the first were put, behind those that were put before, while they were accepted. The others are left, and else
-- nothing changed
pub record Flushes (before after : ℕ → List Letter) (old new : PortView) : Type 0 where
  pub letters : (to : ℕ) → put_to new to ++ after to ≡ put_to old to ++ before to
  pub fewer : (to : ℕ) → length (after to) ≤ length (before to)
  pub full : (to : ℕ) → 0 < length (after to) → places_to new to ≡ 0
  pub into : new.into ≡ old.into
  pub place : place_of new ≡ place_of old
