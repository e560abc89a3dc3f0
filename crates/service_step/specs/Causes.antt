-- When a call is refused in the service, and for which cause: the table of causes, read from the service's state, and the cause of
-- a Wait.
use Rattle.std.specs.Prelude.{◌≡◌, ℕ, Bool, false, nat_eq, ◌⊎◌, IsTrue, Option, Some, None, []}
use Rattle.charlotte_calls.specs.Calls.{cause_number}
use Rattle.charlotte_calls.specs.Causes.{Seen, first_cause}
use Rattle.charlotte_calls.specs.declared.calls.Call.{Call}
use Rattle.charlotte_calls.specs.declared.calls.Call.TheVariants as call
use Rattle.charlotte_calls.specs.declared.calls.Cause.{Cause}
use Rattle.charlotte_calls.specs.declared.calls.Cause.TheVariants as cause
use Rattle.charlotte_calls.specs.declared.names.EndId.{EndId}
use Rattle.charlotte_calls.specs.declared.names.LinkId.{LinkId}
use Rattle.charlotte_calls.specs.declared.names.Pid.{Pid}
use Rattle.service_step.specs.Ends.{is_owned_by, is_active, outward_activity, inward_activity}
use Rattle.service_step.specs.State.{State, next_link}
use Rattle.service_step.specs.declared.state.End.{End}

-- what p sees of an end
abbrev pub seen : Pid → End → Seen
seen p x =
    record {
      owned = is_owned_by p x.place;
      outward = outward_activity x.outward;
      inward = inward_activity x.inward;
      dead = x.noticed;
    }

-- what p sees of each end
abbrev pub sees : Pid → (EndId → End) → EndId → Seen
sees p t e = seen p (t e)

-- how many links a kernel has made, by the name of its next one
abbrev pub made_before : Option LinkId → ℕ
made_before None = 0
made_before (Some link) = link.count

-- the first cause that holds of every call but Wait
abbrev pub refusal : State → Pid → Call → Option Cause
refusal s p c = first_cause (sees p s.ends) (made_before (next_link s p)) c

-- an activity is started on an end that p owns
abbrev pub HasStarted : (EndId → End) → Pid → Type 0
HasStarted t p = (e : EndId) × IsTrue (is_owned_by p (t e).place) × IsTrue (is_active (t e))

-- a report of p stands, or an activity is started on an end that p owns: a Wait is not refused
abbrev pub HasActivity : State → Pid → Type 0
HasActivity s p = (((s.process p.0).reports ≡ []) → ⊥) ⊎ HasStarted s.ends p

-- there is a cause, and it is c
abbrev pub is_cause : Cause → Option Cause → Bool
is_cause c None = false
is_cause c (Some first) = nat_eq (cause_number c) (cause_number first)

-- the first cause of the call that holds is this one
abbrev pub IsRefusedFor : State → Pid → Call → Cause → Type 0
IsRefusedFor s p call.Wait c = IsTrue (is_cause c (Some cause.NoActivity)) × (HasActivity s p → ⊥)
IsRefusedFor s p c why = IsTrue (is_cause why (refusal s p c))
