-- The entries of a table, and what a call changes of them.
use Rattle.std.specs.Prelude.{◌≡◌, ℕ, ◌<◌, ◌≤◌, false, List, IsSome, unwrap_or}
use Rattle.std.specs.Map.{lookup}
use Rattle.charlotte_calls.specs.declared.names.EndId.{EndId}
use Rattle.charlotte_packets.specs.declared.picture.MovingPicture.{MovingPicture}
use Rattle.end_table.specs.declared.entry.Entry.{Entry}
use Rattle.end_table.specs.declared.entry.Entry.TheVariants as entry
use Rattle.end_table.specs.declared.entry.HereView.{HereView}
use Rattle.end_table.specs.declared.entry.Outward.TheVariants as outward
use Rattle.end_table.specs.declared.entry.Inward.TheVariants as inward
use Rattle.end_table.specs.Place.{end_eq, put}

-- the entry is Here, with this true of it
abbrev pub IsHereAnd : Entry → (HereView → Type 0) → Type 0
IsHereAnd (entry.Here v) p = p v
IsHereAnd _ p = ⊥

-- the entry is Here
abbrev pub IsHere : Entry → Type 0
IsHere x = IsHereAnd x (λ _. Unit {0})

-- where the entry is Here, this is true of it
abbrev pub IfHere : Entry → (HereView → Type 0) → Type 0
IfHere (entry.Here v) p = p v
IfHere _ p = Unit {0}

-- the entry is Destroyed
abbrev pub IsDestroyed : Entry → Type 0
IsDestroyed (entry.Destroyed m) = Unit {0}
IsDestroyed _ = ⊥

-- where the entry is Destroyed, this is true of its mark
abbrev pub IfDestroyed : Entry → (MovingPicture → Type 0) → Type 0
IfDestroyed (entry.Destroyed m) p = p m
IfDestroyed _ p = Unit {0}

-- the entry is Left with hops at most these
abbrev pub HasLeftUpTo : ℕ → Entry → Type 0
HasLeftUpTo upto (entry.Left to hops) = hops ≤ upto
HasLeftUpTo upto _ = ⊥

-- no activity is started or unreported
pub record IsIdle (v : HereView) : Type 0 where
  pub outward : v.outward ≡ outward.Idle
  pub inward : v.inward ≡ inward.Idle

-- what contracts see of a table: the number of its kernel, and the entry at each place
pub record TableView : Type 0 where
  pub kernel : ℕ
  pub places : List (EndId × Entry)

-- what the kernel keeps of each end
unfoldable pub entries : TableView → EndId → Entry
entries t end = unwrap_or (lookup (end_eq end) t.places) entry.Nothing

-- an entry that is Here or Destroyed is of this end
abbrev pub IsOfEnd : EndId → Entry → Type 0
IsOfEnd end (entry.Here v) = v.value.end ≡ end
IsOfEnd end (entry.Destroyed m) = m.end ≡ end
IsOfEnd end _ = Unit {0}

-- what is true of every table
pub record IsWellKept (t : TableView) : Type 0 where
  pub kernel : t.kernel < 8
  pub own : (end : EndId) → IsOfEnd end (entries t end)

-- the end has a place: an `install` there takes no memory
unfoldable pub HasPlace : TableView → EndId → Type 0
HasPlace t end = IsSome (lookup (end_eq end) t.places)

-- every place is kept
abbrev pub KeepsPlaces : TableView → TableView → Type 0
KeepsPlaces old new = (q : EndId) → HasPlace old q → HasPlace new q

-- every other end keeps its entry, and the kernel's number stays
pub record KeepsOthers (old new : TableView) (end : EndId) : Type 0 where
  pub others : (q : EndId) → end_eq end q ≡ false → entries new q ≡ entries old q
  pub kernel : new.kernel ≡ old.kernel

-- this entry is put at an end: every other end keeps its entry, every place is kept, and the kernel's number stays
pub record Puts (old new : TableView) (end : EndId) (x : Entry) : Type 0 where
  pub after : entries new ≡ put (entries old) end x
  pub at : entries new end ≡ x
  pub others : (q : EndId) → end_eq end q ≡ false → entries new q ≡ entries old q
  pub placed : HasPlace new end
  pub places : KeepsPlaces old new
  pub kernel : new.kernel ≡ old.kernel

-- the entry and the place of an end are taken away: every other end keeps both, and the kernel's number stays
pub record Clears (old new : TableView) (end : EndId) : Type 0 where
  pub after : entries new ≡ put (entries old) end entry.Nothing
  pub at : entries new end ≡ entry.Nothing
  pub no_place : HasPlace new end → ⊥
  pub others : (q : EndId) → end_eq end q ≡ false → entries new q ≡ entries old q
  pub places : (q : EndId) → end_eq end q ≡ false → HasPlace old q → HasPlace new q
  pub kernel : new.kernel ≡ old.kernel
