-- The step of a process's own call, and what the process hears of it.
use Rattle.std.proofs.Common.{◌≡◌, inl, inr, ℕ, nat_eq, Bool, true, false, true≢false, if◌then◌else◌, Option, Some, None, List, [], ◌∷◌, refl, sym, ap, subst, ◌∙◌}
use Rattle.charlotte_calls.specs.declared.calls.Answer.{Answer}
use Rattle.charlotte_calls.specs.declared.calls.Answer.TheVariants as answer
use Rattle.charlotte_calls.specs.declared.calls.Call.{Call}
use Rattle.charlotte_calls.specs.declared.calls.Call.TheVariants as call
use Rattle.charlotte_calls.specs.declared.calls.Cause.{Cause}
use Rattle.charlotte_calls.specs.declared.calls.ServiceStep.{ServiceStep}
use Rattle.charlotte_calls.specs.declared.calls.ServiceStep.TheVariants as step
use Rattle.charlotte_calls.specs.declared.names.EndId.{EndId}
use Rattle.charlotte_calls.specs.declared.names.Pid.{Pid}
use Rattle.charlotte_calls.specs.declared.names.Way.TheVariants as way
use Rattle.service_change.proofs.Counts.{pid_tells}
use Rattle.service_step.specs.Ends.{is_owned_by}
use Rattle.service_step.specs.State.{State as Service}
use Rattle.service_step.specs.Steps.{IsServiceStep}
use Rattle.service_step.specs.declared.state.Phase.{Phase}
use Rattle.service_step.specs.declared.state.Phase.TheVariants as phase
use Rattle.service_step.specs.declared.state.Place.{Place}
use Rattle.service_step.specs.declared.state.Place.TheVariants as place
use Rattle.service_streams.specs.Streams.{cancels_send}
use Rattle.run_invariant.specs.Moves.{given_to}
use Rattle.run_invariant.specs.Phases.{next_phase, turned_by, unless_answered}
use Rattle.run_invariant.specs.Told.{cancel_in, own_told, report_in}
use Rattle.run_invariant.specs.Entries.{IsOwn}
use Rattle.run_invariant.specs.States.{State}
use Rattle.run_invariant.specs.Asking.{IsCallOf}
use Rattle.run_invariant.specs.Acted.{process}
use Rattle.run_invariant.specs.Hearing.{told_of}
use Rattle.run_invariant.specs.Owners.{IsAskedFor, Pends, Status, Told, phase_of}

-- the call is refused, or this is its step; and this is what its process hears
pub data Owns (i : ℕ) (made : ServiceStep) : Call → Status → Type 0 where
  Refuses : (c : Call) (why : Cause) → made ≡ step.Refuse (process i) c why → Owns i made c (Told c (answer.Refused why))
  Makes : (a b : EndId) → made ≡ step.Make (process i) a b → Owns i made call.Make (Told call.Make (answer.Made a b))
  Destroys : (x : EndId) → made ≡ step.Destroy x → Owns i made (call.Destroy x) (Told (call.Destroy x) answer.Ok)
  Sends : (e : EndId) (bytes : List ℕ) (xs : List EndId) (n : ℕ) → made ≡ step.Send e n bytes xs
      → Owns i made (call.Send e bytes xs) (Told (call.Send e bytes xs) answer.Ok)
  Receives : (x : EndId) → made ≡ step.Receive x → Owns i made (call.Receive x) (Told (call.Receive x) answer.Ok)
  Cancels : (x : EndId) → made ≡ step.Cancel x way.Inward → Owns i made (call.Cancel x way.Inward) (Pends (call.Cancel x way.Inward))
  Waits : made ≡ step.Wait (process i) → Owns i made call.Wait (Pends call.Wait)
  Exits : made ≡ step.Exit (process i) → Owns i made call.Exit (Told call.Exit answer.Ok)

only-one : (a b : ServiceStep) → a ∷ [] ≡ b ∷ [] → a ≡ b
only-one a b e = cc

-- what the process hears of the step
abbrev pub own_status : ℕ → Call → ServiceStep → Status
own_status i c made = told_of c (own_told (process i) c (made ∷ []))

hears-so : (i : ℕ) (made one : ServiceStep) (c : Call) → made ∷ [] ≡ one ∷ [] → Owns i made c (own_status i c one) → Owns i made c (own_status i c made)
hears-so i made one c so is = subst (λ (z : ServiceStep). Owns i made c (own_status i c z)) (sym (only-one made one so)) is

pub owns-refused : (i : ℕ) (made : ServiceStep) (c : Call) (why : Cause) → made ≡ step.Refuse (process i) c why → Owns i made c (own_status i c made)
owns-refused i made c why so = hears-so i made (step.Refuse (process i) c why) c (ap (λ (z : ServiceStep). z ∷ []) so) (Refuses c why so)

pub owns-granted : (i : ℕ) (made : ServiceStep) (state : State) (c : Call) → IsCallOf state c → IsOwn (process i) c (made ∷ []) → Owns i made c (own_status i c made)
owns-granted i made state call.Make asked own =
    hears-so i made (step.Make (process i) own.0 own.1) call.Make own.2 (Makes own.0 own.1 (only-one made (step.Make (process i) own.0 own.1) own.2))
owns-granted i made state (call.Destroy x) asked own = hears-so i made (step.Destroy x) (call.Destroy x) own (Destroys x (only-one made (step.Destroy x) own))
owns-granted i made state (call.Send e bytes xs) asked own =
    hears-so i made (step.Send e own.0 bytes xs) (call.Send e bytes xs) own.1 (Sends e bytes xs own.0 (only-one made (step.Send e own.0 bytes xs) own.1))
owns-granted i made state (call.Receive x) asked own = hears-so i made (step.Receive x) (call.Receive x) own (Receives x (only-one made (step.Receive x) own))
owns-granted i made state (call.Cancel x way.Inward) asked own =
    hears-so i made (step.Cancel x way.Inward) (call.Cancel x way.Inward) own (Cancels x (only-one made (step.Cancel x way.Inward) own))
owns-granted i made state (call.Cancel x way.Outward) asked own = let differ : way.Outward ≡ way.Inward = asked.1 in absurd (cc)
owns-granted i made state call.Wait asked own = hears-so i made (step.Wait (process i)) call.Wait own (Waits (only-one made (step.Wait (process i)) own))
owns-granted i made state (call.Print bytes) asked own = let differ : made ∷ [] ≡ [] = own in absurd (cc)
owns-granted i made state call.Exit asked own = hears-so i made (step.Exit (process i)) call.Exit own (Exits (only-one made (step.Exit (process i)) own))

-- ---- what no such step does

pub record IsQuiet (made : ServiceStep) : Type 0 where
  pub given : (j : ℕ) → given_to (process j) made ≡ []
  pub report : (j : ℕ) → report_in (process j) made ≡ None
  pub cancel : (e : EndId) → cancel_in e made ≡ None
  pub keeps : (e : EndId) → cancels_send e made ≡ false

quiet-so : (made one : ServiceStep) → made ≡ one → IsQuiet one → IsQuiet made
quiet-so made one so is = subst IsQuiet (sym so) is

pub own-quiet : (i : ℕ) (made : ServiceStep) (c : Call) (st : Status) → Owns i made c st → IsQuiet made
own-quiet i made _ _ (Refuses c why so) = quiet-so made (step.Refuse (process i) c why) so (record { given = λ j. refl; report = λ j. refl; cancel = λ e. refl; keeps = λ e. refl })
own-quiet i made _ _ (Makes a b so) = quiet-so made (step.Make (process i) a b) so (record { given = λ j. refl; report = λ j. refl; cancel = λ e. refl; keeps = λ e. refl })
own-quiet i made _ _ (Destroys x so) = quiet-so made (step.Destroy x) so (record { given = λ j. refl; report = λ j. refl; cancel = λ e. refl; keeps = λ e. refl })
own-quiet i made _ _ (Sends e bytes xs n so) = quiet-so made (step.Send e n bytes xs) so (record { given = λ j. refl; report = λ j. refl; cancel = λ f. refl; keeps = λ f. refl })
own-quiet i made _ _ (Receives x so) = quiet-so made (step.Receive x) so (record { given = λ j. refl; report = λ j. refl; cancel = λ e. refl; keeps = λ e. refl })
own-quiet i made _ _ (Cancels x so) = quiet-so made (step.Cancel x way.Inward) so (record { given = λ j. refl; report = λ j. refl; cancel = λ e. refl; keeps = λ e. refl })
own-quiet i made _ _ (Waits so) = quiet-so made (step.Wait (process i)) so (record { given = λ j. refl; report = λ j. refl; cancel = λ e. refl; keeps = λ e. refl })
own-quiet i made _ _ (Exits so) = quiet-so made (step.Exit (process i)) so (record { given = λ j. refl; report = λ j. refl; cancel = λ e. refl; keeps = λ e. refl })

-- ---- phases

pub same-pid : (i : ℕ) → nat_eq i i ≡ true
same-pid i = elim (pid_tells (process i) (process i)) [ inl same ↦ same.0 | inr apart ↦ absurd (apart.1 refl) ]

pub other-pid : (i j : ℕ) → (i ≡ j → ⊥) → nat_eq i j ≡ false
other-pid i j apart = elim (pid_tells (process i) (process j)) [ inl same ↦ absurd (apart (ap (λ (z : Pid). z.0) same.1)) | inr other ↦ other.0 ]

-- the end of the step, if it goes by one
abbrev pub on_of : Call → Option EndId
on_of (call.Destroy x) = Some x
on_of (call.Send x bytes xs) = Some x
on_of (call.Receive x) = Some x
on_of (call.Cancel x w) = Some x
on_of c = None

module _ (s : Service) (made : ServiceStep) (t : Service) (is : IsServiceStep s made t) (i : ℕ) where
  refused-runs : (c : Call) (why : Cause) → made ≡ step.Refuse (process i) c why → phase.Running ≡ phase_of (Told c (answer.Refused why))
  refused-runs call.Exit why so =
      let step-is : IsServiceStep s (step.Refuse (process i) call.Exit why) t = subst (λ (z : ServiceStep). IsServiceStep s z t) so is in absurd (true≢false (sym step-is.allowed.1))
  refused-runs _ why so = refl

  pub own-phase : (c : Call) (st : Status) → Owns i made c st → ((x : EndId) → on_of c ≡ Some x → (s.ends x).place ≡ place.Owned (process i)) → turned_by s (process i) made ≡ phase_of st
  own-phase _ _ (Refuses c why so) own = ap (turned_by s (process i)) so ∙ refused-runs c why so
  own-phase _ _ (Makes a b so) own = ap (turned_by s (process i)) so
  own-phase _ _ (Destroys x so) own = ap (turned_by s (process i)) so
  own-phase _ _ (Sends e bytes xs n so) own = ap (turned_by s (process i)) so
  own-phase _ _ (Receives x so) own = ap (turned_by s (process i)) so
  own-phase _ _ (Cancels x so) own =
      ap (turned_by s (process i)) so ∙ ap (λ (at : Place). if is_owned_by (process i) at then phase.Cancelling x else phase.Running) (own x refl)
      ∙ ap (λ (b : Bool). if b then phase.Cancelling x else phase.Running) (same-pid i)
  own-phase _ _ (Waits so) own = ap (turned_by s (process i)) so ∙ ap (λ (b : Bool). if b then phase.Waiting else phase.Running) (same-pid i)
  own-phase _ _ (Exits so) own = ap (turned_by s (process i)) so ∙ ap (λ (b : Bool). if b then phase.Ended else phase.Running) (same-pid i)

  -- of another process
  module _ (j : ℕ) (apart : i ≡ j → ⊥) where
    pub others-run : (c : Call) (st : Status) → Owns i made c st → ((x : EndId) → on_of c ≡ Some x → (s.ends x).place ≡ place.Owned (process i)) → turned_by s (process j) made ≡ phase.Running
    others-run _ _ (Refuses c why so) own = ap (turned_by s (process j)) so
    others-run _ _ (Makes a b so) own = ap (turned_by s (process j)) so
    others-run _ _ (Destroys x so) own = ap (turned_by s (process j)) so
    others-run _ _ (Sends e bytes xs n so) own = ap (turned_by s (process j)) so
    others-run _ _ (Receives x so) own = ap (turned_by s (process j)) so
    others-run _ _ (Cancels x so) own =
        ap (turned_by s (process j)) so ∙ ap (λ (at : Place). if is_owned_by (process j) at then phase.Cancelling x else phase.Running) (own x refl)
        ∙ ap (λ (b : Bool). if b then phase.Cancelling x else phase.Running) (other-pid j i (λ same. apart (sym same)))
    others-run _ _ (Waits so) own = ap (turned_by s (process j)) so ∙ ap (λ (b : Bool). if b then phase.Waiting else phase.Running) (other-pid i j apart)
    others-run _ _ (Exits so) own = ap (turned_by s (process j)) so ∙ ap (λ (b : Bool). if b then phase.Ended else phase.Running) (other-pid i j apart)

    pub others-stay : IsQuiet made → turned_by s (process j) made ≡ phase.Running → (at : Phase) → next_phase s (process j) made at ≡ at
    others-stay quiet runs phase.Running = runs
    others-stay quiet runs phase.Waiting = ap (λ (o : Option Answer). unless_answered o phase.Waiting) (quiet.report j)
    others-stay quiet runs (phase.Cancelling e) = ap (λ (o : Option Answer). unless_answered o (phase.Cancelling e)) (quiet.cancel e)
    others-stay quiet runs phase.Ended = refl

pub own-asked : (i : ℕ) (made : ServiceStep) (state : State) (c : Call) (st : Status) → Owns i made c st → IsCallOf state c → IsAskedFor state st
own-asked i made state _ _ (Refuses c why so) asked = asked
own-asked i made state _ _ (Makes a b so) asked = asked
own-asked i made state _ _ (Destroys x so) asked = asked
own-asked i made state _ _ (Sends e bytes xs n so) asked = asked
own-asked i made state _ _ (Receives x so) asked = asked
own-asked i made state _ _ (Cancels x so) asked = asked
own-asked i made state _ _ (Waits so) asked = asked
own-asked i made state _ _ (Exits so) asked = asked
