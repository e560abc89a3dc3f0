-- The invariant of a run: how the service, the owners of ends and each link by itself stand to each other.
use Rattle.std.specs.Prelude.{◌≡◌, ◌⊎◌, ℕ, ◌+◌, ◌*◌, ◌≤◌, ◌<◌, List, [], ◌∷◌, ◌++◌, length, Option, Some, Ok, ⊤}
use Rattle.charlotte_calls.specs.Names.{opposite}
use Rattle.charlotte_calls.specs.declared.calls.Answer.{Answer}
use Rattle.charlotte_calls.specs.declared.calls.Answer.TheVariants as answer
use Rattle.charlotte_calls.specs.declared.calls.Call.TheVariants as call
use Rattle.charlotte_calls.specs.declared.calls.Cause.TheVariants as cause
use Rattle.charlotte_calls.specs.declared.calls.Report.{Report}
use Rattle.charlotte_calls.specs.declared.names.EndId.{EndId}
use Rattle.charlotte_calls.specs.declared.names.Outcome.TheVariants as outcome
use Rattle.charlotte_calls.specs.declared.names.Way.TheVariants as way
use Rattle.service_lawful.specs.Consistent.{IsConsistent}
use Rattle.service_step.specs.State.{State as Service}
use Rattle.service_step.specs.declared.state.Inward.TheVariants as inward
use Rattle.service_step.specs.declared.state.Message.{Message as Told}
use Rattle.service_step.specs.declared.state.Phase.TheVariants as phase
use Rattle.service_step.specs.declared.state.Place.{Place}
use Rattle.service_step.specs.declared.state.Place.TheVariants as place
use Rattle.service_streams.specs.Streams.{told_by}
use Rattle.service_custody.specs.Coming.{AreMatched, coming}
use Rattle.service_custody.specs.Deaths.{IsGone, IsOn}
use Rattle.service_custody.specs.Moves.{brings}
use Rattle.lynx_packets.specs.Packets.{packet_of}
use Rattle.end_protocol.specs.declared.kept.Receiving.TheVariants as receiving
use Rattle.end_protocol.specs.declared.messages.Message.{Message}
use Rattle.end_protocol.specs.Deeds.{Deed}
use Rattle.request_runs.specs.States.{Gone, Holding, Keeps}
use Rattle.request_runs.specs.States as asked
use Rattle.request_runs.specs.Ends.{number_of}
use Rattle.request_runs.specs.AtEnd.{AreSingle, Seen, total}
use Rattle.request_runs.specs.Telling.{IsTold, Turn}
use Rattle.request_acts.specs.Processes.{IsRunning}
use Rattle.request_runs.specs.Sides.{Courses, Destroyed, Free, Held, Lost, Pair, Side, Standing, new_pair, new_side}
use Rattle.request_acts.specs.Acted.{process}
use Rattle.run_invariant.specs.Owners.{IsAskedFor, Owner, Status, destroying, given_of, phase_of, seen_of, turn_of}
use Rattle.run_invariant.specs.Owners as owners

-- the owner of each number
abbrev pub Owners : Type 0
Owners = ℕ → Owner

abbrev pub IsAlive : Owner → Type 0
IsAlive o = phase_of o.status ≡ phase.Ended → ⊥

-- ---- processes

-- A report that was told: of a death that is true, of a receive that is over, on an end that the process owns as long as it lives
pub record IsReportTrue (s : Service) (i : ℕ) (r : Report) : Type 0 where
  pub death : r.outcome ≡ outcome.Destroyed → IsGone s r.on ⊎ IsGone s (opposite r.on)
  pub over : r.way ≡ way.Inward → (s.ends r.on).inward ≡ inward.Idle
  pub own : IsGone s r.on ⊎ ((s.ends r.on).place ≡ place.Owned (process i))

-- what was told a process is true until it makes its next step
abbrev pub IsToldTrue : Service → ℕ → Status → Type 0
IsToldTrue s i (owners.Told c (answer.Refused cause.Dead)) = (x : EndId) → IsOn x c → IsGone s x ⊎ IsGone s (opposite x)
IsToldTrue s i (owners.Told (call.Cancel x w) answer.Ok) = (s.ends x).inward ≡ inward.Idle
IsToldTrue s i (owners.Told c (answer.Reported r)) = (c ≡ call.Wait) × IsReportTrue s i r
IsToldTrue s i status = ⊤

-- an answer brings eight ends at most
abbrev pub most_brought : Status → ℕ
most_brought (owners.Told c a) = 8
most_brought status = 0

-- what the process has of an end: held, carried, in the hand, to be destroyed, or in the call that destroys it
abbrev pub has_of : Owner → EndId → ℕ
has_of o x = total (seen_of o x) + destroying x o.status

-- The end is in one place at most: there, or brought by a report that stands. Then the process owns it
pub record IsInOnePlace (s : Service) (o : Owner) (i : ℕ) (x : EndId) : Type 0 where
  pub one : has_of o x + brings s (process i) x ≤ 1
  pub own : 1 ≤ has_of o x + brings s (process i) x → (s.ends x).place ≡ place.Owned (process i)

-- a process, after so many entries
pub record IsOwner (version : ℕ) (s : Service) (entries : ℕ) (i : ℕ) (o : Owner) : Type 0 where
  pub phase : (s.process i).phase ≡ phase_of o.status
  pub version_is : o.state.version ≡ version
  pub running : IsRunning o.state
  pub asked : IsAskedFor o.state o.status
  pub single : AreSingle o.state.places
  pub few : length o.state.places + most_brought o.status ≤ 8192 + 8 * entries
  pub told : IsToldTrue s i o.status
  pub custody : IsAlive o → (x : EndId) → IsInOnePlace s o i x

pub record AreOwners (version count : ℕ) (s : Service) (entries : ℕ) (os : Owners) : Type 0 where
  pub consistent : IsConsistent s
  pub matched : AreMatched s
  pub version_is : s.version ≡ version
  pub count_is : length s.homes ≡ count
  pub each : (i : ℕ) → i < count → IsOwner version s entries i (os i)

-- ---- links

-- the message spells that one, and has its ends
pub record IsSpelled (version : ℕ) (m : Message) (g : Told) : Type 0 where
  pub packet : packet_of version g.bytes ≡ Ok m.packet
  pub ends : m.ends ≡ g.carried

abbrev pub AreSpelled : ℕ → List Message → List Told → Type 0
AreSpelled version [] [] = ⊤
AreSpelled version [] (g ∷ gs) = ⊥
AreSpelled version (m ∷ ms) [] = ⊥
AreSpelled version (m ∷ ms) (g ∷ gs) = IsSpelled version m g × AreSpelled version ms gs

-- the message of which the answer tells that its process gets, as a list of one
abbrev pub told_to : EndId → Option Answer → List Told
told_to x (Some (answer.Reported r)) = told_by x r
told_to x given = []

-- how an end stands of which its owner has this, and which so many reports bring
abbrev pub IsStandingIn : ℕ → Seen → Holding → Standing → Type 0
IsStandingIn n a (Keeps k) s = s ≡ Held k
IsStandingIn n a (Gone own) s = ((s ≡ Free) ⊎ (s ≡ Lost)) × (1 ≤ a.out + n → s ≡ Free)

-- a receive is started on the end, or was answered
abbrev pub HasReceive : Turn → ℕ → Holding → Type 0
HasReceive t n (Keeps k) = (k.receiving ≡ receiving.Idle → ⊥) ⊎ IsTold t (asked.Receive n) answer.Ok
HasReceive t n (Gone own) = ⊥

-- a receive of the end is not over, or its process is to hear of it
abbrev pub IsReceived : Service → Owner → EndId → Type 0
IsReceived s o x = ((s.ends x).inward ≡ inward.Idle → ⊥) ⊎ (told_to x (given_of o.status) ≡ [] → ⊥)

-- how an end stands that this process owns, and what is coming to it
pub record IsOwned (version : ℕ) (s : Service) (o : Owner) (i : ℕ) (x : EndId) (side : Side) : Type 0 where
  pub standing : IsStandingIn (brings s (process i) x) (seen_of o x) (seen_of o x).holding side.standing
  pub receive : IsReceived s o x → HasReceive (turn_of o) (number_of x o.state.places) (seen_of o x).holding ⊎ (side.standing ≡ Lost)
  pub coming_is : AreSpelled version side.coming (told_to x (given_of o.status) ++ coming s x) ⊎ (side.standing ≡ Lost)

abbrev pub IsSideAt : ℕ → Service → Owners → EndId → Side → Place → Type 0
IsSideAt version s os x side place.Unmade = side ≡ new_side
IsSideAt version s os x side (place.Owned p) = IsOwned version s (os p.0) p.0 x side
IsSideAt version s os x side (place.InMessage e n) = (side.standing ≡ Free) × AreSpelled version side.coming (coming s x)
IsSideAt version s os x side place.Destroyed = side.standing ≡ Destroyed

abbrev pub IsSide : ℕ → Service → Owners → EndId → Side → Type 0
IsSide version s os x side = IsSideAt version s os x side (s.ends x).place

-- a link that stands so, with these deeds on each end
pub record IsFollowedTo (version : ℕ) (s : Service) (os : Owners) (deeds : EndId → List Deed) (x : EndId) : Type 0 where
  pub pair : Pair
  pub course : Courses version new_pair pair
  pub near : IsSide version s os x pair.near
  pub far : IsSide version s os (opposite x) pair.far
  pub near_deeds : pair.near_deeds ≡ deeds x
  pub far_deeds : pair.far_deeds ≡ deeds (opposite x)

-- the invariant: after so many entries, with these deeds on each end
pub record Stands (version count : ℕ) (s : Service) (entries : ℕ) (os : Owners) (deeds : EndId → List Deed) : Type 0 where
  pub owners : AreOwners version count s entries os
  pub links : (x : EndId) → IsFollowedTo version s os deeds x
