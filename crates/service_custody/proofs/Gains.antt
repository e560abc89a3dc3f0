-- The reports of a process, after one step: those that stood, but for one that is given, and behind them those that the step adds.
use Rattle.std.proofs.Common.{◌≡◌, ◌≢◌, ℕ, Bool, true, false, nat_eq, ◌⊎◌, inl, inr, if◌then◌else◌, Option, Some, None, List, [], ◌∷◌, ◌++◌, append-nil, refl, sym, ap, subst, ◌∙◌}
use Rattle.charlotte_calls.specs.Names.{opposite}
use Rattle.charlotte_calls.specs.declared.calls.Report.{Report}
use Rattle.charlotte_calls.specs.declared.calls.ServiceStep.{ServiceStep}
use Rattle.charlotte_calls.specs.declared.calls.ServiceStep.TheVariants as step
use Rattle.charlotte_calls.specs.declared.names.EndId.{EndId}
use Rattle.charlotte_calls.specs.declared.names.Outcome.TheVariants as outcome
use Rattle.charlotte_calls.specs.declared.names.Pid.{Pid}
use Rattle.charlotte_calls.specs.declared.names.Way.{Way}
use Rattle.charlotte_calls.specs.declared.names.Way.TheVariants as way
use Rattle.service_change.proofs.Counts.{pid_tells}
use Rattle.service_change.proofs.Facts.{put_process-at, put_process-other, wakes-woken}
use Rattle.service_custody.specs.Moves.{given_to}
use Rattle.service_step.specs.Ends.{matched_message, owner, waiting_message}
use Rattle.service_step.specs.State.{State, Process, ends_process, gains, given, later, no_process, put_process, send_report, tells, turns}
use Rattle.service_step.specs.Steps.{IsServiceStep, after_cancel, dead_reports, done_reports, gains_owner, returned_reports, wakes_owner}
use Rattle.service_step.specs.declared.state.Phase.{Phase}
use Rattle.service_step.specs.declared.state.Phase.TheVariants as phase
use Rattle.service_streams.proofs.Places.{oldest-first}

-- reports for the owner, where q is it
abbrev pub to_each : Option Pid → List Report → Pid → List Report
to_each None rs q = []
to_each (Some p) rs q = if nat_eq p.0 q.0 then rs else []

-- the reports that a step adds for q
abbrev pub gained : State → ServiceStep → Pid → List Report
gained s (step.Take e n p late) q = to_each (Some p) (done_reports (opposite e) (matched_message (s.ends e).outward)) q
gained s (step.Complete e n) q = to_each (owner (s.ends e).place) (send_report e outcome.Done [] ∷ []) q
gained s (step.Notice e dead) q = to_each (owner (s.ends e).place) (returned_reports e (waiting_message (s.ends e).outward) ++ dead_reports e (s.ends e)) q
gained s (step.Back e n dead) q =
    to_each (owner (s.ends e).place)
    (if (s.ends e).noticed then returned_reports e (matched_message (s.ends e).outward) else returned_reports e (matched_message (s.ends e).outward) ++ dead_reports e (s.ends e)) q
gained s _ q = []

-- the reports of q before and after
pub data Gain (s : State) (made : ServiceStep) (t : State) (q : Pid) : Type 0 where
  adds : given_to q made ++ (t.process q.0).reports ≡ (s.process q.0).reports ++ gained s made q → Gain s made t q
  ended : made ≡ step.Exit q → (t.process q.0).reports ≡ [] → Gain s made t q

same-adds : (a b : List Report) → a ≡ b → a ≡ b ++ []
same-adds a b same = same ∙ sym (append-nil b)

put-reports : (p : Pid) (x : Process) (f : ℕ → Process) (q : Pid) (rs : List Report) → x.reports ≡ (f p.0).reports ++ rs → (put_process p x f q.0).reports ≡ (f q.0).reports ++ to_each (Some p) rs q
put-reports p x f q rs is = by (pid_tells p q)
  where
    by : ((nat_eq p.0 q.0 ≡ true) × (p ≡ q)) ⊎ ((nat_eq p.0 q.0 ≡ false) × (p.0 ≢ q.0)) → (put_process p x f q.0).reports ≡ (f q.0).reports ++ to_each (Some p) rs q
    by (inl same) =
        subst (λ z. (put_process p x f z.0).reports ≡ (f z.0).reports ++ rs) same.1 (ap (λ z. z.reports) (put_process-at p x f) ∙ is)
        ∙ ap (λ b. (f q.0).reports ++ (if b then rs else [])) (sym same.0)
    by (inr apart) = ap (λ z. z.reports) (put_process-other p x f q apart.0) ∙ sym (append-nil (f q.0).reports) ∙ ap (λ b. (f q.0).reports ++ (if b then rs else [])) (sym apart.0)

turns-reports : (p : Pid) (to : Phase) (f : ℕ → Process) (q : Pid) → (turns p to f q.0).reports ≡ (f q.0).reports
unfolding turns
turns-reports p to f q = by (pid_tells p q)
  where
    x : Process
    x = record (f p.0) { phase = to }

    by : ((nat_eq p.0 q.0 ≡ true) × (p ≡ q)) ⊎ ((nat_eq p.0 q.0 ≡ false) × (p.0 ≢ q.0)) → (put_process p x f q.0).reports ≡ (f q.0).reports
    by (inl same) = subst (λ z. (put_process p x f z.0).reports ≡ (f z.0).reports) same.1 (ap (λ z. z.reports) (put_process-at p x f))
    by (inr apart) = ap (λ z. z.reports) (put_process-other p x f q apart.0)

gains-reports : (p : Pid) (rs : List Report) (f : ℕ → Process) (q : Pid) → (gains p rs f q.0).reports ≡ (f q.0).reports ++ to_each (Some p) rs q
unfolding gains
gains-reports p rs f q = put-reports p (record (f p.0) { reports = (f p.0).reports ++ rs }) f q rs refl

owner-reports : (o : Option Pid) (rs : List Report) (f : ℕ → Process) (q : Pid) → (gains_owner o rs f q.0).reports ≡ (f q.0).reports ++ to_each o rs q
owner-reports None rs f q = sym (append-nil (f q.0).reports)
owner-reports (Some p) rs f q = gains-reports p rs f q

tells-reports : (o : Option Pid) (e : EndId) (rs : List Report) (f : ℕ → Process) (q : Pid) → (tells o e rs f q.0).reports ≡ (f q.0).reports ++ to_each o rs q
tells-reports None e rs f q = sym (append-nil (f q.0).reports)
tells-reports (Some p) e rs f q = (wakes-woken p e (gains p rs f)).reports q ∙ gains-reports p rs f q

wakes_owner-reports : (o : Option Pid) (e : EndId) (f : ℕ → Process) (q : Pid) → (wakes_owner o e f q.0).reports ≡ (f q.0).reports
wakes_owner-reports None e f q = refl
wakes_owner-reports (Some p) e f q = (wakes-woken p e f).reports q

cancel-reports : (s : State) (o : Option Pid) (e : EndId) (w : Way) (q : Pid) → ((after_cancel o e w s).process q.0).reports ≡ (s.process q.0).reports
cancel-reports s None e w q = refl
cancel-reports s (Some p) e way.Outward q = refl
cancel-reports s (Some p) e way.Inward q = turns-reports p (phase.Cancelling e) s.process q

given-reports : (s : State) (p : Pid) (r : Report) (rest : List Report) → (s.process p.0).reports ≡ r ∷ rest → (q : Pid) → given_to q (step.Report p r) ++ (given p s.process q.0).reports ≡ (s.process q.0).reports
unfolding given
given-reports s p r rest front q = by (pid_tells p q)
  where
    x : Process
    x = record { phase = phase.Running; reports = later (s.process p.0).reports }

    by : ((nat_eq p.0 q.0 ≡ true) × (p ≡ q)) ⊎ ((nat_eq p.0 q.0 ≡ false) × (p.0 ≢ q.0)) → (if nat_eq p.0 q.0 then r ∷ [] else []) ++ (put_process p x s.process q.0).reports ≡ (s.process q.0).reports
    by (inl same) =
        ap (λ b. (if b then r ∷ [] else []) ++ (put_process p x s.process q.0).reports) same.0
        ∙ subst (λ z. r ∷ (put_process p x s.process z.0).reports ≡ (s.process z.0).reports) same.1 (ap (λ z. r ∷ z.reports) (put_process-at p x s.process) ∙ ap (λ l. r ∷ later l) front ∙ sym front)
    by (inr apart) = ap (λ b. (if b then r ∷ [] else []) ++ (put_process p x s.process q.0).reports) apart.0 ∙ ap (λ z. z.reports) (put_process-other p x s.process q apart.0)

ends-gain : (s : State) (p : Pid) (q : Pid) (t : State) → t.process ≡ ends_process p s.process → Gain s (step.Exit p) t q
unfolding ends_process
ends-gain s p q t after = by (pid_tells p q)
  where
    by : ((nat_eq p.0 q.0 ≡ true) × (p ≡ q)) ⊎ ((nat_eq p.0 q.0 ≡ false) × (p.0 ≢ q.0)) → Gain s (step.Exit p) t q
    by (inl same) = ended (ap step.Exit same.1) (ap (λ f. (f q.0).reports) after ∙ subst (λ z. (put_process p no_process s.process z.0).reports ≡ []) same.1 (ap (λ z. z.reports) (put_process-at p no_process s.process)))
    by (inr apart) = adds (same-adds _ _ (ap (λ f. (f q.0).reports) after ∙ ap (λ z. z.reports) (put_process-other p no_process s.process q apart.0)))

back-reports : (b : Bool) (o : Option Pid) (e : EndId) (sent all : List Report) (f : ℕ → Process) (q : Pid) → ((if b then gains_owner o sent f else tells o e all f) q.0).reports ≡ (f q.0).reports ++ to_each o (if b then sent else all) q
back-reports true o e sent all f q = owner-reports o sent f q
back-reports false o e sent all f q = tells-reports o e all f q

-- each step
pub gain : (s : State) (made : ServiceStep) (t : State) (q : Pid) → IsServiceStep s made t → Gain s made t q
gain s (step.Make p a b) t q is = adds (same-adds _ _ (ap (λ z. (z.process q.0).reports) is.after))
gain s (step.Refuse p call cause) t q is = adds (same-adds _ _ (ap (λ z. (z.process q.0).reports) is.after))
gain s (step.Destroy e) t q is = adds (same-adds _ _ (ap (λ z. (z.process q.0).reports) is.after))
gain s (step.Send e n bytes xs) t q is = adds (same-adds _ _ (ap (λ z. (z.process q.0).reports) is.after))
gain s (step.Receive e) t q is = adds (same-adds _ _ (ap (λ z. (z.process q.0).reports) is.after))
gain s (step.Cancel e w) t q is = adds (same-adds _ _ (ap (λ z. (z.process q.0).reports) is.after ∙ cancel-reports s (owner (s.ends e).place) e w q))
gain s (step.Wait p) t q is = adds (same-adds _ _ (ap (λ z. (z.process q.0).reports) is.after ∙ turns-reports p phase.Waiting s.process q))
gain s (step.Report p r) t q is =
    let found = oldest-first (s.process p.0).reports r is.allowed.1 in
    adds (same-adds _ _ (ap (λ z. given_to q (step.Report p r) ++ (z.process q.0).reports) is.after ∙ given-reports s p r found.0 found.1 q))
gain s (step.Exit p) t q is = ends-gain s p q t (ap (λ z. z.process) is.after.after)
gain s (step.Match e n) t q is = adds (same-adds _ _ (ap (λ z. (z.process q.0).reports) is.after))
gain s (step.Take e n p late) t q is = adds (ap (λ z. (z.process q.0).reports) is.after ∙ tells-reports (Some p) (opposite e) (done_reports (opposite e) (matched_message (s.ends e).outward)) s.process q)
gain s (step.Complete e n) t q is = adds (ap (λ z. (z.process q.0).reports) is.after ∙ owner-reports (owner (s.ends e).place) (send_report e outcome.Done [] ∷ []) s.process q)
gain s (step.Withdraw e) t q is = adds (same-adds _ _ (ap (λ z. (z.process q.0).reports) is.after))
gain s (step.Free e) t q is = adds (same-adds _ _ (ap (λ z. (z.process q.0).reports) is.after ∙ wakes_owner-reports (owner (s.ends e).place) e s.process q))
gain s (step.Notice e dead) t q is =
    adds (ap (λ z. (z.process q.0).reports) is.after ∙ tells-reports (owner (s.ends e).place) e (returned_reports e (waiting_message (s.ends e).outward) ++ dead_reports e (s.ends e)) s.process q)
gain s (step.Back e n dead) t q is =
    adds
    (ap (λ z. (z.process q.0).reports) is.after
    ∙ back-reports (s.ends e).noticed (owner (s.ends e).place) e (returned_reports e (matched_message (s.ends e).outward)) (returned_reports e (matched_message (s.ends e).outward) ++ dead_reports e (s.ends e)) s.process q)
