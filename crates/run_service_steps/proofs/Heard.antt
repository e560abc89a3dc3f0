-- What a process hears of a step that is no process's call.
use Rattle.std.proofs.Common.{◌≡◌, ◌⊎◌, inl, inr, ℕ, nat_eq, Bool, true, false, ◌&&◌, if◌then◌else◌, Option, Some, None, [], ◌∷◌, refl, sym, ap, subst, ◌∙◌}
use Rattle.charlotte_calls.specs.Names.{opposite}
use Rattle.charlotte_calls.specs.declared.calls.Answer.{Answer}
use Rattle.charlotte_calls.specs.declared.calls.Answer.TheVariants as answer
use Rattle.charlotte_calls.specs.declared.calls.Call.{Call}
use Rattle.charlotte_calls.specs.declared.calls.Call.TheVariants as call
use Rattle.charlotte_calls.specs.declared.calls.Cause.TheVariants as cause
use Rattle.charlotte_calls.specs.declared.calls.Report.{Report}
use Rattle.charlotte_calls.specs.declared.calls.ServiceStep.{ServiceStep}
use Rattle.charlotte_calls.specs.declared.calls.ServiceStep.TheVariants as step
use Rattle.charlotte_calls.specs.declared.names.EndId.{EndId}
use Rattle.charlotte_calls.specs.declared.names.Pid.{Pid}
use Rattle.charlotte_calls.specs.declared.names.Way.TheVariants as way
use Rattle.service_change.proofs.Counts.{pid_tells}
use Rattle.service_lawful.specs.Consistent.{IsConsistent}
use Rattle.service_step.specs.State.{State as Service}
use Rattle.service_step.specs.Steps.{IsServiceStep}
use Rattle.service_step.specs.declared.state.Phase.{Phase}
use Rattle.service_step.specs.declared.state.Phase.TheVariants as phase
use Rattle.run_invariant.specs.Moves.{given_to}
use Rattle.run_invariant.specs.Phases.{next_phase, turned_by, unless_answered}
use Rattle.run_invariant.specs.Told.{cancel_in, or_else, report_in}
use Rattle.run_invariant.specs.Entries.{IsUncalled}
use Rattle.end_table.specs.Place.{end_eq}
use Rattle.run_invariant.specs.Acted.{process}
use Rattle.run_invariant.specs.Hearing.{hears_step, told_of}
use Rattle.run_invariant.specs.Owners.{Asks, Over, Pends, Runs, Status, Told, phase_of}
use Rattle.run_service_steps.proofs.StepFacts.{waited}

abbrev pub IsCancelAnswer : Answer → Type 0
IsCancelAnswer a = (a ≡ answer.Ok) ⊎ (a ≡ answer.Refused cause.Late) ⊎ (a ≡ answer.Refused cause.Dead)

-- nothing; the report for which it waits; or an answer to its Cancel
pub data Hears (i : ℕ) (made : ServiceStep) : Status → Status → Type 0 where
  Same : (st : Status) → given_to (process i) made ≡ [] → Hears i made st st
  Reports : (r : Report) → made ≡ step.Report (process i) r → Hears i made (Pends call.Wait) (Told call.Wait (answer.Reported r))
  Cancels : (on : EndId) (a : Answer) → cancel_in on made ≡ Some a → IsCancelAnswer a → given_to (process i) made ≡ []
      → Hears i made (Pends (call.Cancel on way.Inward)) (Told (call.Cancel on way.Inward) a)

-- a Cancel is answered so
same-answer : (a b : Answer) → ◌≡◌ {A = Option Answer} (Some a) (Some b) → b ≡ a
same-answer a b e = cc

none-answer : (a : Answer) → ◌≡◌ {A = Option Answer} None (Some a) → ⊥
none-answer a e = cc

unless-answer : (b : Bool) (c a : Answer) → IsCancelAnswer c → (if b then Some c else None) ≡ Some a → IsCancelAnswer a
unless-answer true c a is e = subst IsCancelAnswer (sym (same-answer c a e)) is
unless-answer false c a is e = absurd (none-answer a e)

cancel-answer : (on : EndId) (made : ServiceStep) (a : Answer) → cancel_in on made ≡ Some a → IsCancelAnswer a
cancel-answer on (step.Free e) a is = unless-answer (end_eq on e) answer.Ok a (inl refl) is
cancel-answer on (step.Take e n p late) a is = unless-answer (end_eq (opposite on) e && late) (answer.Refused cause.Late) a (inr (inl refl)) is
cancel-answer on (step.Notice e dead) a is = unless-answer (end_eq on e && dead) (answer.Refused cause.Dead) a (inr (inr refl)) is
cancel-answer on (step.Back e n dead) a is = unless-answer (end_eq on e && dead) (answer.Refused cause.Dead) a (inr (inr refl)) is
cancel-answer on _ a is = absurd (none-answer a is)

turned-none : (s : Service) (i : ℕ) (made : ServiceStep) → IsUncalled made → turned_by s (process i) made ≡ phase.Running
turned-none s i (step.Make p a b) out = absurd out
turned-none s i (step.Refuse p c why) out = absurd out
turned-none s i (step.Destroy e) out = absurd out
turned-none s i (step.Send e n bytes xs) out = absurd out
turned-none s i (step.Receive e) out = absurd out
turned-none s i (step.Cancel e w) out = absurd out
turned-none s i (step.Wait p) out = absurd out
turned-none s i (step.Exit p) out = absurd out
turned-none s i _ out = refl

module _ (s : Service) (made : ServiceStep) (t : Service) (k : IsConsistent s) (is : IsServiceStep s made t) (uncalled : IsUncalled made) (i : ℕ) where
  -- who does not wait is given no report
  none-given : (made : ServiceStep) → IsServiceStep s made t → ((s.process i).phase ≡ phase.Waiting → ⊥) → given_to (process i) made ≡ []
  none-given (step.Report p r) is busy = by (pid_tells p (process i))
    where
      by : ((nat_eq p.0 i ≡ true) × (p ≡ process i)) ⊎ ((nat_eq p.0 i ≡ false) × (p.0 ≡ i → ⊥)) → (if nat_eq p.0 i then r ∷ [] else []) ≡ []
      by (inl same) = absurd (busy (subst (λ (z : Pid). (s.process z.0).phase ≡ phase.Waiting) same.1 (waited s k p r t is)))
      by (inr other) = ap (λ (b : Bool). if b then r ∷ [] else []) other.0
  none-given _ is busy = refl

  not-waiting : (at : Phase) → (s.process i).phase ≡ at → (at ≡ phase.Waiting → ⊥) → given_to (process i) made ≡ []
  not-waiting at e busy = none-given made is (λ waits. busy (sym e ∙ waits))

  by-wait : (made : ServiceStep) → Hears i made (Pends call.Wait) (told_of call.Wait (or_else (report_in (process i) made) None))
  by-wait (step.Report p r) = by (pid_tells (process i) p) (pid_tells p (process i))
    where
      by : ((nat_eq i p.0 ≡ true) × (process i ≡ p)) ⊎ ((nat_eq i p.0 ≡ false) × (i ≡ p.0 → ⊥)) → ((nat_eq p.0 i ≡ true) × (p ≡ process i)) ⊎ ((nat_eq p.0 i ≡ false) × (p.0 ≡ i → ⊥))
          → Hears i (step.Report p r) (Pends call.Wait) (told_of call.Wait (or_else (if nat_eq i p.0 then Some (answer.Reported r) else None) None))
      by (inl same) other =
          subst (λ (b : Bool). Hears i (step.Report p r) (Pends call.Wait) (told_of call.Wait (or_else (if b then Some (answer.Reported r) else None) None))) (sym same.0)
          (Reports r (ap (λ (z : Pid). step.Report z r) (sym same.1)))
      by (inr apart) (inl same) = absurd (apart.1 (ap (λ (z : Pid). z.0) (sym same.1)))
      by (inr apart) (inr other) =
          subst (λ (b : Bool). Hears i (step.Report p r) (Pends call.Wait) (told_of call.Wait (or_else (if b then Some (answer.Reported r) else None) None))) (sym apart.0)
          (Same (Pends call.Wait) (ap (λ (b : Bool). if b then r ∷ [] else []) other.0))
  by-wait _ = Same (Pends call.Wait) refl

  by-cancel : (on : EndId) (o : Option Answer) → cancel_in on made ≡ o → given_to (process i) made ≡ []
      → Hears i made (Pends (call.Cancel on way.Inward)) (told_of (call.Cancel on way.Inward) (or_else o None))
  by-cancel on None e none = Same (Pends (call.Cancel on way.Inward)) none
  by-cancel on (Some a) e none = Cancels on a e (cancel-answer on made a e) none

  pub hears : (st : Status) → (s.process i).phase ≡ phase_of st → Hears i made st (hears_step i made st)
  hears Runs at = Same Runs (not-waiting phase.Running at (λ e. cc))
  hears (Asks c) at = Same (Asks c) (not-waiting phase.Running at (λ e. cc))
  hears (Pends call.Make) at = Same (Pends call.Make) (not-waiting phase.Running at (λ e. cc))
  hears (Pends (call.Destroy on)) at = Same (Pends (call.Destroy on)) (not-waiting phase.Running at (λ e. cc))
  hears (Pends (call.Send on bytes xs)) at = Same (Pends (call.Send on bytes xs)) (not-waiting phase.Running at (λ e. cc))
  hears (Pends (call.Receive on)) at = Same (Pends (call.Receive on)) (not-waiting phase.Running at (λ e. cc))
  hears (Pends (call.Cancel on way.Inward)) at = by-cancel on (cancel_in on made) refl (not-waiting (phase.Cancelling on) at (λ e. cc))
  hears (Pends (call.Cancel on way.Outward)) at = Same (Pends (call.Cancel on way.Outward)) (not-waiting phase.Running at (λ e. cc))
  hears (Pends call.Wait) at = by-wait made
  hears (Pends (call.Print bytes)) at = Same (Pends (call.Print bytes)) (not-waiting phase.Running at (λ e. cc))
  hears (Pends call.Exit) at = Same (Pends call.Exit) (not-waiting phase.Running at (λ e. cc))
  hears (Told call.Exit a) at = Same (Told call.Exit a) (not-waiting phase.Ended at (λ e. cc))
  hears (Told call.Make a) at = Same (Told call.Make a) (not-waiting phase.Running at (λ e. cc))
  hears (Told (call.Destroy on) a) at = Same (Told (call.Destroy on) a) (not-waiting phase.Running at (λ e. cc))
  hears (Told (call.Send on bytes xs) a) at = Same (Told (call.Send on bytes xs) a) (not-waiting phase.Running at (λ e. cc))
  hears (Told (call.Receive on) a) at = Same (Told (call.Receive on) a) (not-waiting phase.Running at (λ e. cc))
  hears (Told (call.Cancel on w) a) at = Same (Told (call.Cancel on w) a) (not-waiting phase.Running at (λ e. cc))
  hears (Told call.Wait a) at = Same (Told call.Wait a) (not-waiting phase.Running at (λ e. cc))
  hears (Told (call.Print bytes) a) at = Same (Told (call.Print bytes) a) (not-waiting phase.Running at (λ e. cc))
  hears Over at = Same Over (not-waiting phase.Ended at (λ e. cc))

  -- its phase is that of what it heard

  answered-phase : (c : Call) (from : Phase) (o : Option Answer) → phase_of (Pends c) ≡ from → ((a : Answer) → phase_of (Told c a) ≡ phase.Running)
      → unless_answered o from ≡ phase_of (told_of c (or_else o None))
  answered-phase c from None e runs = sym e
  answered-phase c from (Some a) e runs = sym (runs a)

  pub goes-on : (st : Status) → next_phase s (process i) made (phase_of st) ≡ phase_of (hears_step i made st)
  goes-on Runs = turned-none s i made uncalled
  goes-on (Asks c) = turned-none s i made uncalled
  goes-on (Pends call.Make) = turned-none s i made uncalled
  goes-on (Pends (call.Destroy on)) = turned-none s i made uncalled
  goes-on (Pends (call.Send on bytes xs)) = turned-none s i made uncalled
  goes-on (Pends (call.Receive on)) = turned-none s i made uncalled
  goes-on (Pends (call.Cancel on way.Inward)) = answered-phase (call.Cancel on way.Inward) (phase.Cancelling on) (cancel_in on made) refl (λ a. refl)
  goes-on (Pends (call.Cancel on way.Outward)) = turned-none s i made uncalled
  goes-on (Pends call.Wait) = answered-phase call.Wait phase.Waiting (report_in (process i) made) refl (λ a. refl)
  goes-on (Pends (call.Print bytes)) = turned-none s i made uncalled
  goes-on (Pends call.Exit) = turned-none s i made uncalled
  goes-on (Told call.Exit a) = refl
  goes-on (Told call.Make a) = turned-none s i made uncalled
  goes-on (Told (call.Destroy on) a) = turned-none s i made uncalled
  goes-on (Told (call.Send on bytes xs) a) = turned-none s i made uncalled
  goes-on (Told (call.Receive on) a) = turned-none s i made uncalled
  goes-on (Told (call.Cancel on w) a) = turned-none s i made uncalled
  goes-on (Told call.Wait a) = turned-none s i made uncalled
  goes-on (Told (call.Print bytes) a) = turned-none s i made uncalled
  goes-on Over = refl
