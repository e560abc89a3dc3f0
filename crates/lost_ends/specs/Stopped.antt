-- A run in which no end is lost: the link of an end that its process is to destroy still has what was kept for it, and what is coming there.
use Rattle.std.specs.Prelude.{◌≡◌, ◌⊎◌, ℕ, ◌+◌, ◌≤◌, List, [], ⊤}
use Rattle.std.specs.List.{flat_map}
use Rattle.charlotte_calls.specs.Names.{opposite}
use Rattle.charlotte_calls.specs.declared.calls.Call.{Call}
use Rattle.charlotte_calls.specs.declared.calls.Call.TheVariants as call
use Rattle.charlotte_calls.specs.declared.names.EndId.{EndId}
use Rattle.charlotte_calls.specs.declared.names.Pid.{Pid}
use Rattle.service_step.specs.State.{State as Service}
use Rattle.service_step.specs.declared.state.Message.{Message}
use Rattle.service_step.specs.declared.state.Place.TheVariants as place
use Rattle.followed_links.specs.Coming.{coming}
use Rattle.followed_links.specs.Deaths.{IsGone}
use Rattle.end_protocol.specs.declared.kept.Kept.{Kept}
use Rattle.end_protocol.specs.Deeds.{Deed}
use Rattle.followed_links.specs.Ledgers.{carried, how_often}
use Rattle.request_law.specs.Law.{ends_in}
use Rattle.followed_links.specs.Sides.{Courses, Held, Lost, Pair, Side, new_pair}
use Rattle.followed_links.specs.Invariant.{IsSide, Owners}
use Rattle.followed_links.specs.Owners.{Asks, Over, Owner, Pends, Runs, Status, Told, destroying}

-- ---- processes

-- a call that destroys an end
abbrev pub IsDestroy : Call → Type 0
IsDestroy (call.Destroy y) = ⊤
IsDestroy c = ⊥

-- its last call is a Destroy
abbrev pub IsDestroying : Status → Type 0
IsDestroying (Asks c) = IsDestroy c
IsDestroying (Pends c) = IsDestroy c
IsDestroying (Told c a) = IsDestroy c
IsDestroying Runs = ⊥
IsDestroying Over = ⊥

-- as long as it is to destroy an end, it asks nothing else
abbrev pub IsHasty : Owner → Type 0
IsHasty o = (o.state.doomed ≡ []) ⊎ IsDestroying o.status

-- how often its process is to destroy an end
abbrev pub doomed_of : EndId → Owner → ℕ
doomed_of x o = how_often x o.state.doomed + destroying x o.status

-- ---- links

-- the ends of messages
abbrev pub ends_of : List Message → List EndId
ends_of gs = flat_map (λ g. g.carried) gs

-- y is with this process, which owns x, or is coming to x; or it was destroyed
abbrev pub IsBy : Service → Pid → EndId → EndId → Type 0
IsBy s p x y = ((s.ends y).place ≡ place.Owned p) ⊎ ((1 ≤ how_often y (ends_of (coming s x))) ⊎ IsGone s y)

-- Its owner held the end and is to destroy it: on the link it stands as it did then
pub record IsStopped (s : Service) (os : Owners) (x : EndId) (side : Side) : Type 0 where
  pub owner : Pid
  pub own : (s.ends x).place ≡ place.Owned owner
  pub doomed : 1 ≤ doomed_of x (os owner.0)
  pub kept : Kept
  pub standing : side.standing ≡ Held kept
  pub there : (y : EndId) → 1 ≤ how_often y (carried kept) + how_often y (ends_in side.coming) → IsBy s owner x y

-- it is not lost
abbrev pub IsFound : Side → Type 0
IsFound side = side.standing ≡ Lost → ⊥

-- it stands as the invariant says, and is not lost; or it is stopped
abbrev pub IsSideSo : ℕ → Service → Owners → EndId → Side → Type 0
IsSideSo version s os x side = (IsSide version s os x side × IsFound side) ⊎ IsStopped s os x side

-- a link that stands so, with these deeds on each end
pub record IsFollowedSo (version : ℕ) (s : Service) (os : Owners) (deeds : EndId → List Deed) (x : EndId) : Type 0 where
  pub pair : Pair
  pub course : Courses version new_pair pair
  pub near : IsSideSo version s os x pair.near
  pub far : IsSideSo version s os (opposite x) pair.far
  pub near_deeds : pair.near_deeds ≡ deeds x
  pub far_deeds : pair.far_deeds ≡ deeds (opposite x)

-- each link of which no end is destroyed is so
pub record AreFollowedSo (version : ℕ) (s : Service) (os : Owners) (deeds : EndId → List Deed) : Type 0 where
  pub hasty : (i : ℕ) → IsHasty (os i)
  pub links : (x : EndId) → (IsGone s x → ⊥) → (IsGone s (opposite x) → ⊥) → IsFollowedSo version s os deeds x
