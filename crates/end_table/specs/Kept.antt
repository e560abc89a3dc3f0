-- What is kept of ends beside their places: the messages of sends that wait.
use Rattle.std.specs.Prelude.{◌≡◌, ◌≤◌, ◌++◌, ℕ, List, length, min, cond, Option, IsSome}
use Rattle.std.specs.Map.{lookup}
use Rattle.charlotte_calls.specs.declared.names.EndId.{EndId}
use Rattle.end_table.specs.declared.entry.Entry.{Entry}
use Rattle.end_table.specs.declared.message.Message.{Message}
use Rattle.end_table.specs.Place.{end_eq}

-- what is kept, with the end that it is kept of, and of how many ends there is room for it
pub record KeptView (A : Type 0) : Type 0 where
  pub kept : List (EndId × A)
  pub most : ℕ

-- messages, as they are kept
abbrev pub MessagesView : Type 0
MessagesView = KeptView Message

-- what is kept of one end is this afterwards, if anything, and what is kept of every other end stays
abbrev pub HasAt : {A : Type 0} → KeptView A → KeptView A → EndId → Option A → Type 0
HasAt old new end x = (q : EndId) → lookup (end_eq q) new.kept ≡ cond (end_eq end q) x (lookup (end_eq q) old.kept)

-- only ends with a place have something kept
abbrev pub AreAmong : {A : Type 0} → List (EndId × A) → List (EndId × Entry) → Type 0
AreAmong kept places = (q : EndId) → IsSome (lookup (end_eq q) kept) → IsSome (lookup (end_eq q) places)

-- there is room for this end: it is one of the ends with a place, of which alone something is kept, and there is room for them all
pub record HasRoom {A : Type 0} (v : KeptView A) (end : EndId) : Type 0 where
  pub places : List (EndId × Entry)
  pub place : IsSome (lookup (end_eq end) places)
  pub among : AreAmong v.kept places
  pub room : length places ≤ v.most

-- a brief message
abbrev pub IsBrief : Message → Type 0
IsBrief m = (length m.bytes ≤ 48) × (length m.enclosed ≤ 1)

-- two lists, of which the first is looked at first
abbrev pub joined : {A : Type 0} → KeptView A → KeptView A → KeptView A
joined first second = record { kept = first.kept ++ second.kept; most = min first.most second.most }
