-- What is asked of a step of the service or of a process, that the invariant is kept by it.
use Rattle.std.specs.Prelude.{◌≡◌, ◌⊎◌, ℕ, ◌+◌, ◌*◌, ◌≤◌, ◌<◌, List, [], ◌∷◌, ◌++◌, length, ⊤}
use Rattle.charlotte_calls.specs.declared.calls.Call.{Call}
use Rattle.charlotte_calls.specs.declared.calls.Call.TheVariants as call
use Rattle.charlotte_calls.specs.declared.calls.Cause.{Cause}
use Rattle.charlotte_calls.specs.declared.calls.ServiceStep.{ServiceStep}
use Rattle.charlotte_calls.specs.declared.calls.ServiceStep.TheVariants as step
use Rattle.charlotte_calls.specs.Ranges.{AreBytes}
use Rattle.charlotte_calls.specs.declared.names.EndId.{EndId}
use Rattle.charlotte_calls.specs.declared.program.Next.{Next}
use Rattle.charlotte_calls.specs.declared.program.Next.TheVariants as next
use Rattle.service_step.specs.State.{State as Service}
use Rattle.service_step.specs.declared.state.Place.TheVariants as place
use Rattle.entry_steps.specs.Entries.{IsOwn}
use Rattle.end_protocol.specs.Deeds.{Deed}
use Rattle.request_runs.specs.Runs.{Did}
use Rattle.request_runs.specs.AtEnd.{deeds_at}
use Rattle.request_acts.specs.Acted.{process}
use Rattle.run_invariant.specs.Hearing.{with_owner}
use Rattle.run_invariant.specs.Invariant.{Owners, Stands}
use Rattle.run_invariant.specs.Owners.{Asks, Over, Owner, Runs, Status, Told}

-- there is room for eight ends more
abbrev pub HasRoom : ℕ → ℕ → Owners → Type 0
HasRoom count n os = (i : ℕ) → i < count → length (os i).state.places ≤ 8192 + 8 * n

-- the step is the call's refusal, or its own
abbrev pub IsFirst : ℕ → Call → ServiceStep → Type 0
IsFirst i c made = ((cause : Cause) × (made ≡ step.Refuse (process i) c cause)) ⊎ IsOwn (process i) c (made ∷ [])

-- the end that is sent on or destroyed is the process's own
abbrev pub IsMine : Service → ℕ → Call → Type 0
IsMine s i (call.Destroy on) = (s.ends on).place ≡ place.Owned (process i)
IsMine s i (call.Send on bytes xs) = (s.ends on).place ≡ place.Owned (process i)
IsMine s i c = ⊤

abbrev pub HasBytes : Call → Type 0
HasBytes (call.Send on bytes xs) = AreBytes bytes
HasBytes c = ⊤

-- ---- a step of a process

-- it has its answer, or asked nothing
abbrev pub MayStep : Status → Type 0
MayStep Runs = ⊤
MayStep (Told c a) = ⊤
MayStep status = ⊥

abbrev pub after_step : Next → Status
after_step (next.Ask c) = Asks c
after_step next.Pause = Runs
after_step next.Ended = Over

abbrev pub owner_after : Did → Owner
owner_after d = record { state = d.state; status = after_step d.next }

-- with the deeds of process i in this step the invariant stands. It does them at its own ends, and a call is on an end of its own
pub record IsStepped (version count : ℕ) (s : Service) (entries : ℕ) (os : Owners) (deeds : EndId → List Deed) (i : ℕ) (d : Did) : Type 0 where
  pub stands : Stands version count s entries (with_owner i (owner_after d) os) (λ x. deeds x ++ deeds_at x d.deeds)
  pub mine : (c : Call) → d.next ≡ next.Ask c → IsMine s i c
  pub elsewhere : (x : EndId) → ((s.ends x).place ≡ place.Owned (process i) → ⊥) → deeds_at x d.deeds ≡ []
