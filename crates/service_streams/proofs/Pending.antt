-- A report that stands after a step or does not: it goes by being given, or where its process ends. And the report that a take adds.
use Rattle.std.proofs.Common.{◌≡◌, ◌≢◌, ℕ, zero, suc, Bool, true, false, nat_eq, ◌⊎◌, inl, inr, if◌then◌else◌, Option, Some, None, List, [], ◌∷◌, ◌++◌, Contains, refl, sym, ap, subst, ◌∙◌, arith}
use Rattle.std.proofs.lemmas.List.Elements.{Contains-append_cases, Contains-append_left, Contains-append_right}
use Rattle.charlotte_calls.specs.Names.{opposite}
use Rattle.charlotte_calls.specs.declared.calls.Report.{Report}
use Rattle.charlotte_calls.specs.declared.calls.ServiceStep.{ServiceStep}
use Rattle.charlotte_calls.specs.declared.calls.ServiceStep.TheVariants as step
use Rattle.charlotte_calls.specs.declared.names.EndId.{EndId}
use Rattle.charlotte_calls.specs.declared.names.Pid.{Pid}
use Rattle.charlotte_calls.specs.declared.names.Way.{Way}
use Rattle.charlotte_calls.specs.declared.names.Way.TheVariants as way
use Rattle.service_change.proofs.Counts.{pid_tells}
use Rattle.service_change.proofs.Facts.{put_process-at, put_process-other, wakes-woken}
use Rattle.service_step.specs.Ends.{matched_message, owner, waiting_message}
use Rattle.service_step.specs.State.{State, Process, ends_process, gains, given, later, no_process, put_process, receive_report, tells, turns, wakes}
use Rattle.service_step.specs.Steps.{IsServiceStep, after_cancel, dead_reports, done_reports, gains_owner, returned_reports, wakes_owner}
use Rattle.service_step.specs.declared.state.Message.{Message}
use Rattle.service_step.specs.declared.state.Outward.TheVariants as outward
use Rattle.service_step.specs.declared.state.Phase.{Phase}
use Rattle.service_step.specs.declared.state.Phase.TheVariants as phase
use Rattle.service_streams.proofs.Places.{oldest-first}

only : (x r : Report) → Contains (x ∷ []) r → x ≡ r
only x r (zero, below, same) = same
only x r (suc k, below, same) = absurd (omega arith)

-- the step gives the report to its process, or ends this
abbrev pub IsDue : ServiceStep → Pid → Report → Type 0
IsDue x p r = (x ≡ step.Report p r) ⊎ (x ≡ step.Exit p)

-- a process has what it had, but for what is due
abbrev KeepsAll : State → ServiceStep → (ℕ → Process) → Type 0
KeepsAll s x g = (p : Pid) (r : Report) → Contains (s.process p.0).reports r → Contains (g p.0).reports r ⊎ IsDue x p r

keeps-same : (s : State) (x : ServiceStep) → KeepsAll s x s.process
keeps-same s x p r is = inl is

keeps-put : (s : State) (x : ServiceStep) (p : Pid) (z : Process) → ((r : Report) → Contains (s.process p.0).reports r → Contains z.reports r ⊎ IsDue x p r) → KeepsAll s x (put_process p z s.process)
keeps-put s x p z its q r is = by (pid_tells p q)
  where
    by : ((nat_eq p.0 q.0 ≡ true) × (p ≡ q)) ⊎ ((nat_eq p.0 q.0 ≡ false) × (p.0 ≢ q.0)) → Contains (put_process p z s.process q.0).reports r ⊎ IsDue x q r
    by (inl same) =
        subst (λ v. Contains (put_process p z s.process v.0).reports r ⊎ IsDue x v r) same.1
        (subst (λ y. Contains y.reports r ⊎ IsDue x p r) (sym (put_process-at p z s.process)) (its r (subst (λ v. Contains (s.process v.0).reports r) (sym same.1) is)))
    by (inr apart) = inl (subst (λ y. Contains y.reports r) (sym (put_process-other p z s.process q apart.0)) is)

keeps-turns : (s : State) (x : ServiceStep) (p : Pid) (to : Phase) → KeepsAll s x (turns p to s.process)
unfolding turns
keeps-turns s x p to = keeps-put s x p (record (s.process p.0) { phase = to }) (λ r is. inl is)

keeps-gains : (s : State) (x : ServiceStep) (p : Pid) (rs : List Report) → KeepsAll s x (gains p rs s.process)
unfolding gains
keeps-gains s x p rs = keeps-put s x p (record (s.process p.0) { reports = (s.process p.0).reports ++ rs }) (λ r is. inl (Contains-append_left (s.process p.0).reports rs r is))

keeps-wakes : (s : State) (x : ServiceStep) (p : Pid) (e : EndId) (g : ℕ → Process) → KeepsAll s x g → KeepsAll s x (wakes p e g)
keeps-wakes s x p e g keeps q r is = subst (λ l. Contains l r ⊎ IsDue x q r) (sym ((wakes-woken p e g).reports q)) (keeps q r is)

keeps-gains_owner : (s : State) (x : ServiceStep) (o : Option Pid) (rs : List Report) → KeepsAll s x (gains_owner o rs s.process)
keeps-gains_owner s x None rs = keeps-same s x
keeps-gains_owner s x (Some p) rs = keeps-gains s x p rs

keeps-tells : (s : State) (x : ServiceStep) (o : Option Pid) (e : EndId) (rs : List Report) → KeepsAll s x (tells o e rs s.process)
keeps-tells s x None e rs = keeps-same s x
keeps-tells s x (Some p) e rs = keeps-wakes s x p e (gains p rs s.process) (keeps-gains s x p rs)

keeps-wakes_owner : (s : State) (x : ServiceStep) (o : Option Pid) (e : EndId) → KeepsAll s x (wakes_owner o e s.process)
keeps-wakes_owner s x None e = keeps-same s x
keeps-wakes_owner s x (Some p) e = keeps-wakes s x p e s.process (keeps-same s x)

keeps-cancel : (s : State) (x : ServiceStep) (o : Option Pid) (e : EndId) (w : Way) → KeepsAll s x (after_cancel o e w s).process
keeps-cancel s x None e w = keeps-same s x
keeps-cancel s x (Some p) e way.Outward = keeps-same s x
keeps-cancel s x (Some p) e way.Inward = keeps-turns s x p (phase.Cancelling e)

keeps-returned : (s : State) (x : ServiceStep) (e : EndId) (o : Option Pid) (b : Bool) (sent dead : List Report) → KeepsAll s x (if b then gains_owner o sent s.process else tells o e (sent ++ dead) s.process)
keeps-returned s x e o true sent dead = keeps-gains_owner s x o sent
keeps-returned s x e o false sent dead = keeps-tells s x o e (sent ++ dead)

keeps-given : (s : State) (p : Pid) (r : Report) (others : List Report) → (s.process p.0).reports ≡ r ∷ others → KeepsAll s (step.Report p r) (given p s.process)
unfolding given
keeps-given s p r others first = keeps-put s (step.Report p r) p (record { phase = phase.Running; reports = later (s.process p.0).reports }) (λ q is. by q (Contains-append_cases (r ∷ []) others q (subst (λ l. Contains l q) first is)))
  where
    by : (q : Report) → Contains (r ∷ []) q ⊎ Contains others q → Contains (later (s.process p.0).reports) q ⊎ IsDue (step.Report p r) p q
    by q (inl it) = inr (inl (ap (step.Report p) (only r q it)))
    by q (inr rest) = inl (subst (λ l. Contains (later l) q) (sym first) rest)

keeps-ends : (s : State) (p : Pid) → KeepsAll s (step.Exit p) (ends_process p s.process)
unfolding ends_process
keeps-ends s p = keeps-put s (step.Exit p) p no_process (λ r is. inr (inr refl))

pub reports-stay : (s : State) (x : ServiceStep) (t : State) → IsServiceStep s x t → KeepsAll s x t.process
reports-stay s (step.Make p a b) t is = subst (λ z. KeepsAll s (step.Make p a b) z.process) (sym is.after) (keeps-same s _)
reports-stay s (step.Refuse p call cause) t is = subst (λ z. KeepsAll s (step.Refuse p call cause) z.process) (sym is.after) (keeps-same s _)
reports-stay s (step.Destroy e) t is = subst (λ z. KeepsAll s (step.Destroy e) z.process) (sym is.after) (keeps-same s _)
reports-stay s (step.Send e n bytes xs) t is = subst (λ z. KeepsAll s (step.Send e n bytes xs) z.process) (sym is.after) (keeps-same s _)
reports-stay s (step.Receive e) t is = subst (λ z. KeepsAll s (step.Receive e) z.process) (sym is.after) (keeps-same s _)
reports-stay s (step.Cancel e w) t is = subst (λ z. KeepsAll s (step.Cancel e w) z.process) (sym is.after) (keeps-cancel s _ (owner (s.ends e).place) e w)
reports-stay s (step.Wait p) t is = subst (λ z. KeepsAll s (step.Wait p) z.process) (sym is.after) (keeps-turns s _ p phase.Waiting)
reports-stay s (step.Report p r) t is =
    let found = oldest-first (s.process p.0).reports r is.allowed.1 in subst (λ z. KeepsAll s (step.Report p r) z.process) (sym is.after) (keeps-given s p r found.0 found.1)
reports-stay s (step.Exit p) t is = subst (λ z. KeepsAll s (step.Exit p) z.process) (sym is.after.after) (keeps-ends s p)
reports-stay s (step.Match e n) t is = subst (λ z. KeepsAll s (step.Match e n) z.process) (sym is.after) (keeps-same s _)
reports-stay s (step.Take e n p late) t is =
    subst (λ z. KeepsAll s (step.Take e n p late) z.process) (sym is.after) (keeps-tells s _ (Some p) (opposite e) (done_reports (opposite e) (matched_message (s.ends e).outward)))
reports-stay s (step.Complete e n) t is = subst (λ z. KeepsAll s (step.Complete e n) z.process) (sym is.after) (keeps-gains_owner s _ (owner (s.ends e).place) _)
reports-stay s (step.Withdraw e) t is = subst (λ z. KeepsAll s (step.Withdraw e) z.process) (sym is.after) (keeps-same s _)
reports-stay s (step.Free e) t is = subst (λ z. KeepsAll s (step.Free e) z.process) (sym is.after) (keeps-wakes_owner s _ (owner (s.ends e).place) e)
reports-stay s (step.Notice e dead) t is =
    subst (λ z. KeepsAll s (step.Notice e dead) z.process) (sym is.after) (keeps-tells s _ (owner (s.ends e).place) e (returned_reports e (waiting_message (s.ends e).outward) ++ dead_reports e (s.ends e)))
reports-stay s (step.Back e n dead) t is =
    subst (λ z. KeepsAll s (step.Back e n dead) z.process) (sym is.after) (keeps-returned s _ e (owner (s.ends e).place) (s.ends e).noticed (returned_reports e (matched_message (s.ends e).outward)) (dead_reports e (s.ends e)))

-- who takes a message has its report
pub take-stands : (s : State) (e : EndId) (n : ℕ) (p : Pid) (late : Bool) (t : State) (m : Message) → IsServiceStep s (step.Take e n p late) t → (s.ends e).outward ≡ outward.Matched m
    → Contains (t.process p.0).reports (receive_report (opposite e) m.bytes m.carried)
unfolding gains
take-stands s e n p late t m is matched =
    subst (λ z. Contains (z.process p.0).reports r) (sym is.after)
    (subst (λ o. Contains (wakes p (opposite e) (gains p (done_reports (opposite e) (matched_message o)) s.process) p.0).reports r) (sym matched)
    (subst (λ l. Contains l r) (sym ((wakes-woken p (opposite e) (gains p (r ∷ []) s.process)).reports p))
    (subst (λ y. Contains y.reports r) (sym (put_process-at p (record (s.process p.0) { reports = (s.process p.0).reports ++ r ∷ [] }) s.process))
    (Contains-append_right (s.process p.0).reports (r ∷ []) r (0, (omega arith), refl)))))
  where
    r : Report
    r = receive_report (opposite e) m.bytes m.carried

-- a process that ended has no reports
pub exit-none : (s : State) (p : Pid) (t : State) → IsServiceStep s (step.Exit p) t → t.process p.0 ≡ no_process
unfolding ends_process
exit-none s p t is = ap (λ z. z.process p.0) is.after.after ∙ put_process-at p no_process s.process
