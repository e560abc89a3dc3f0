-- Where a step of the service brings an end, and with which report.
use Rattle.std.specs.Prelude.{◌≡◌, ◌⊎◌, ℕ, ◌+◌, ◌≤◌, nat_eq, if◌then◌else◌, List, [], ◌∷◌, flat_map}
use Rattle.std.specs.List.{Contains}
use Rattle.charlotte_calls.specs.EndEq.{end_eq}
use Rattle.charlotte_calls.specs.declared.calls.Report.{Report}
use Rattle.charlotte_calls.specs.declared.calls.ServiceStep.{ServiceStep}
use Rattle.charlotte_calls.specs.declared.calls.ServiceStep.TheVariants as step
use Rattle.charlotte_calls.specs.declared.names.EndId.{EndId}
use Rattle.charlotte_calls.specs.declared.names.Pid.{Pid}
use Rattle.service_step.specs.State.{State}
use Rattle.service_step.specs.declared.state.Place.TheVariants as place

-- how often an end is among these
abbrev pub how_often : EndId → List EndId → ℕ
how_often x [] = 0
how_often x (y ∷ ys) = (if end_eq y x then 1 else 0) + how_often x ys

-- the ends that these reports bring
abbrev pub enclosed_in : List Report → List EndId
enclosed_in rs = flat_map (λ r. r.enclosed) rs

-- how often the reports that stand for a process bring the end
abbrev pub brings : State → Pid → EndId → ℕ
brings s q x = how_often x (enclosed_in (s.process q.0).reports)

-- the report that a step gives to this process
abbrev pub given_to : Pid → ServiceStep → List Report
given_to q (step.Report p r) = if nat_eq p.0 q.0 then r ∷ [] else []
given_to q _ = []

abbrev pub gives : Pid → EndId → ServiceStep → ℕ
gives q x made = how_often x (enclosed_in (given_to q made))

-- what a step does with an end
pub data Moves (s : State) (made : ServiceStep) (t : State) (x : EndId) : Type 0 where
  -- it stays, and a report that brings it may be given. The reports of a process go as it ends
  Stays : (t.ends x).place ≡ (s.ends x).place
      → ((q : Pid) → (brings t q x + gives q x made ≡ brings s q x) ⊎ ((made ≡ step.Exit q) × (brings t q x ≡ 0)))
      → Moves s made t x
  -- it is made
  Makes : (p : Pid) (a b : EndId) → made ≡ step.Make p a b → (x ≡ a) ⊎ (x ≡ b)
      → (s.ends x).place ≡ place.Unmade → (t.ends x).place ≡ place.Owned p
      → ((q : Pid) → brings t q x ≡ brings s q x) → Moves s made t x
  -- its owner sends it
  Leaves : (p : Pid) (e : EndId) (n : ℕ) (bytes : List ℕ) (xs : List EndId) → made ≡ step.Send e n bytes xs → Contains xs x
      → (s.ends e).place ≡ place.Owned p → (s.ends x).place ≡ place.Owned p → (t.ends x).place ≡ place.InMessage e n
      → ((q : Pid) → brings t q x ≡ brings s q x) → Moves s made t x
  -- it comes to an owner, with a report that brings it
  Lands : (p : Pid) (e : EndId) (n : ℕ) → (s.ends x).place ≡ place.InMessage e n → (t.ends x).place ≡ place.Owned p
      → ((q : Pid) → brings t q x ≡ brings s q x + (if nat_eq p.0 q.0 then 1 else 0)) → ((q : Pid) → gives q x made ≡ 0) → Moves s made t x
  -- it is destroyed: by its owner, or with the message in which it is
  Ends : (t.ends x).place ≡ place.Destroyed
      → (made ≡ step.Destroy x) ⊎ ((p : Pid) × (made ≡ step.Exit p) × ((s.ends x).place ≡ place.Owned p))
      ⊎ ((e : EndId) × (n : ℕ) × ((s.ends x).place ≡ place.InMessage e n))
      → ((q : Pid) → brings t q x ≤ brings s q x) → Moves s made t x
