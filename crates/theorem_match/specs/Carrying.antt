-- Ends leave in a packet.
use Rattle.std.specs.Prelude.{◌≡◌, ℕ, ◌⊎◌, true, List, Contains}
use Rattle.charlotte_calls.specs.declared.names.EndId.{EndId}
use Rattle.charlotte_calls.specs.declared.names.Pid.{Pid}
use Rattle.charlotte_packets.specs.declared.picture.MovingPicture.{MovingPicture}
use Rattle.end_table.specs.Entries.{left_value}
use Rattle.end_table.specs.Table.{IfHere, IsIdle}
use Rattle.end_table.specs.declared.entry.Entry.{Entry}
use Rattle.end_table.specs.declared.entry.Entry.TheVariants as entry
use Rattle.end_table.specs.declared.entry.HereView.{HereView}
use Rattle.service_step.specs.Ends.{is_idle}
use Rattle.service_step.specs.declared.state.End.{End}
use Rattle.service_step.specs.declared.state.Place.TheVariants as place
use Rattle.theorem_meaning.specs.Fields.{Stand, Flying, HasFields}
use Rattle.theorem_meaning.specs.Packets.{Links}
use Rattle.theorem_meaning.specs.StandsFor.{entry_at}

-- a kernel keeps no fields of an end: it knows nothing of it, or where it went
abbrev pub IsAway : Entry → Type 0
IsAway entry.Nothing = Unit {0}
IsAway (entry.Here v) = ⊥
IsAway (entry.Left to hops) = Unit {0}
IsAway (entry.Destroyed m) = ⊥

-- an end is here before and afterwards, and differs at most in its activity outward
pub record IsTurned (x y : Entry) : Type 0 where
  pub old : HereView
  pub new : HereView
  pub was : x ≡ entry.Here old
  pub now : y ≡ entry.Here new
  pub like : new ≡ record old { outward = new.outward }

-- these are fields that an end had, as it leaves kernel k
pub record HasLeft (w : Links) (k : ℕ) (e : EndId) (m : MovingPicture) : Type 0 where
  pub stand : Stand
  pub value : MovingPicture
  pub had : HasFields w e stand value
  pub left : m ≡ left_value k value

-- from w to u, of which t are the ends of the service before, kernel k sends the ends xs in a packet; of the others, entries and
-- fields stay, but for the activity outward of one
pub record IsCarrying (w u : Links) (t : EndId → End) (k : ℕ) (xs : List EndId) (mine : EndId) : Type 0 where
  -- ends that are carried were idle, and no process owned them
  pub unowned : (e : EndId) (p : Pid) → Contains xs e → (t e).place ≡ place.Owned p → ⊥
  pub idle : (e : EndId) → Contains xs e → is_idle (t e) ≡ true
  pub resting : (j : ℕ) (e : EndId) → Contains xs e → IfHere (entry_at w j e) IsIdle
  pub entry : (j : ℕ) (e : EndId)
      → (entry_at u j e ≡ entry_at w j e) ⊎ (Contains xs e × IsAway (entry_at u j e))
      ⊎ ((e ≡ mine) × IsTurned (entry_at w j e) (entry_at u j e))
  pub fields : (e : EndId) (at : Stand) (m : MovingPicture) → HasFields u e at m
      → HasFields w e at m ⊎ (Contains xs e × (at ≡ Flying) × HasLeft w k e m)
