-- Programs: which answers a call can have, and what a program may be given and may do.
use Rattle.std.specs.Prelude.{◌≡◌, ℕ, ◌≤◌, ◌<◌, Bool, true, false, IsTrue, nat_eq, List, [], ◌∷◌, length, Option, Some, None}
use Rattle.std.specs.List.{list_any}
use Rattle.charlotte_calls.specs.Calls.{cause_number}
use Rattle.charlotte_calls.specs.declared.calls.Answer.{Answer}
use Rattle.charlotte_calls.specs.declared.calls.Answer.TheVariants as answer
use Rattle.charlotte_calls.specs.declared.calls.Call.{Call}
use Rattle.charlotte_calls.specs.declared.calls.Call.TheVariants as call
use Rattle.charlotte_calls.specs.declared.calls.Cause.{Cause}
use Rattle.charlotte_calls.specs.declared.calls.Cause.TheVariants.{NoEnd, Busy, Dead, EncloseNoEnd, EncloseBusy}
use Rattle.charlotte_calls.specs.declared.calls.Cause.TheVariants.{EncloseSame, Late, NoActivity, LinksFull, EncloseTwice}
use Rattle.charlotte_calls.specs.declared.program.Next.{Next}
use Rattle.charlotte_calls.specs.declared.program.Next.TheVariants as next

-- the causes for which a call can be refused
abbrev pub causes : Call → List Cause
causes call.Make = LinksFull ∷ []
causes (call.Destroy on) = NoEnd ∷ []
causes (call.Send on bytes enclose) =
    NoEnd ∷ Busy ∷ Dead ∷ EncloseNoEnd ∷ EncloseBusy ∷ EncloseSame ∷ EncloseTwice ∷ []
causes (call.Receive on) = NoEnd ∷ Busy ∷ Dead ∷ []
causes (call.Cancel on way) = NoEnd ∷ Dead ∷ Late ∷ NoActivity ∷ []
causes call.Wait = NoActivity ∷ []
causes (call.Print bytes) = []
causes call.Exit = []

-- a call can be refused for this cause
abbrev pub is_cause_of : Call → Cause → Bool
is_cause_of c cause = list_any (λ named. nat_eq (cause_number named) (cause_number cause)) (causes c)

-- a call can have this answer
abbrev pub is_answer_to : Call → Answer → Bool
is_answer_to c (answer.Refused cause) = is_cause_of c cause
is_answer_to call.Make (answer.Made a b) = true
is_answer_to call.Make _ = false
is_answer_to call.Wait (answer.Reported report) = true
is_answer_to call.Wait _ = false
is_answer_to _ answer.Ok = true
is_answer_to _ _ = false

-- an answer fits a call
abbrev pub FitsCall : Call → Answer → Type 0
FitsCall c a = IsTrue (is_answer_to c a)

-- what a program may be given: nothing at its start and after a pause, after a call an answer that fits, and after it
-- has ended it makes no step
abbrev pub MayFollow : Option Next → Option Answer → Type 0
MayFollow None None = Unit {0}
MayFollow (Some next.Pause) None = Unit {0}
MayFollow (Some (next.Ask c)) (Some a) = FitsCall c a
MayFollow _ _ = ⊥

-- after the answer to an Exit a program has ended
abbrev pub EndsAfterExit : Option Next → Next → Type 0
EndsAfterExit (Some (next.Ask call.Exit)) n = n ≡ next.Ended
EndsAfterExit _ n = Unit {0}

-- in version 1 a program asks no Send that encloses more than one end
abbrev pub IsOfVersion : ℕ → Next → Type 0
IsOfVersion version (next.Ask (call.Send on bytes enclose)) = version < 2 → length enclose ≤ 1
IsOfVersion version _ = Unit {0}

-- the steps that a step function makes from a state on, where it is given this in order
abbrev pub steps : {S : Type 0} → (S → Option Answer → Next × S) → S → List (Option Answer) → List Next
steps step s [] = []
steps step s (a ∷ given) = (step s a).0 ∷ steps step (step s a).1 given

-- the state after these steps
abbrev pub state_after : {S : Type 0} → (S → Option Answer → Next × S) → S → List (Option Answer) → S
state_after step s [] = s
state_after step s (a ∷ given) = state_after step (step s a).1 given

-- a step function may be given this in order, from a state on and after its last step
abbrev pub MayBeGiven : {S : Type 0} → (S → Option Answer → Next × S) → S → Option Next → List (Option Answer) → Type 0
MayBeGiven step s last [] = Unit {0}
MayBeGiven step s last (a ∷ given) = MayFollow last a × MayBeGiven step (step s a).1 (Some (step s a).0) given
