-- Each step, as which reports a process has after it: those that it had, and new ones, of which a report Done of a receive is of a take.
use Rattle.std.proofs.Common.{◌≡◌, ◌≢◌, ℕ, zero, suc, Bool, true, false, nat_eq, ◌⊎◌, inl, inr, if◌then◌else◌, Option, Some, None, List, [], ◌∷◌, ◌++◌, Contains, refl, sym, subst, ◌∙◌, arith}
use Rattle.std.proofs.lemmas.List.Elements.{Contains-append_cases, Contains-append_right}
use Rattle.charlotte_calls.specs.Names.{opposite}
use Rattle.charlotte_calls.specs.declared.calls.Report.{Report}
use Rattle.charlotte_calls.specs.declared.names.EndId.{EndId}
use Rattle.charlotte_calls.specs.declared.names.Outcome.TheVariants as outcome
use Rattle.charlotte_calls.specs.declared.names.Pid.{Pid}
use Rattle.charlotte_calls.specs.declared.names.Way.{Way}
use Rattle.charlotte_calls.specs.declared.names.Way.TheVariants as way
use Rattle.charlotte_calls.specs.declared.calls.ServiceStep.{ServiceStep}
use Rattle.charlotte_calls.specs.declared.calls.ServiceStep.TheVariants as step
use Rattle.service_change.proofs.Counts.{pid_tells}
use Rattle.service_change.proofs.Facts.{put_process-at, put_process-other, wakes-woken}
use Rattle.service_lawful.specs.Consistent.{IsConsistent}
use Rattle.service_consistent.proofs.StepsOfMessages.{take-matched}
use Rattle.service_step.specs.Ends.{is_started_inward, matched_message, owner, waiting_message}
use Rattle.service_step.specs.State.{State, Process, dead_receive_report, ends_process, gains, given, later, no_process, put_process, receive_report, send_report, tells, turns, wakes}
use Rattle.service_step.specs.Steps.{IsServiceStep, after_cancel, dead_reports, done_reports, gains_owner, returned_reports, wakes_owner}
use Rattle.service_step.specs.declared.state.Message.{Message}
use Rattle.service_step.specs.declared.state.Outward.TheVariants as outward
use Rattle.service_step.specs.declared.state.Phase.{Phase}
use Rattle.service_step.specs.declared.state.Phase.TheVariants as phase

-- the report of a receive that a take gives
pub record IsOfTake (s : State) (x : ServiceStep) (p : Pid) (r : Report) : Type 0 where
  pub f : EndId
  pub n : ℕ
  pub late : Bool
  pub m : Message
  pub took : x ≡ step.Take f n p late
  pub its : (s.ends f).outward ≡ outward.Matched m
  pub is : r ≡ receive_report (opposite f) m.bytes m.carried

-- a report is no report Done of a receive, or is of a take
abbrev pub IsNew : State → ServiceStep → Pid → Report → Type 0
IsNew s x p r = r.way ≡ way.Inward → r.outcome ≡ outcome.Done → IsOfTake s x p r

-- each of some reports is so
abbrev AreNew : State → ServiceStep → Pid → List Report → Type 0
AreNew s x p [] = Unit {0}
AreNew s x p (r ∷ rs) = IsNew s x p r × AreNew s x p rs

only : (x r : Report) → Contains (x ∷ []) r → x ≡ r
only x r (zero, below, same) = same
only x r (suc k, below, same) = absurd (omega arith)

new-each : (s : State) (x : ServiceStep) (p : Pid) (rs : List Report) (r : Report) → AreNew s x p rs → Contains rs r → IsNew s x p r
new-each s x p [] r are (k, below, same) = absurd (omega arith)
new-each s x p (y ∷ rs) r are is = by (Contains-append_cases (y ∷ []) rs r is) (new-each s x p rs r are.1)
  where
    by : Contains (y ∷ []) r ⊎ Contains rs r → (Contains rs r → IsNew s x p r) → IsNew s x p r
    by (inl first) rest = subst (IsNew s x p) (only y r first) are.0
    by (inr later) rest = rest later

new-append : (s : State) (x : ServiceStep) (p : Pid) (a b : List Report) → AreNew s x p a → AreNew s x p b → AreNew s x p (a ++ b)
new-append s x p [] b are_a are_b = are_b
new-append s x p (r ∷ a) b are_a are_b = (are_a.0, new-append s x p a b are_a.1 are_b)

-- a process has what it had, and new reports
abbrev pub HasFrom : State → ServiceStep → (ℕ → Process) → Type 0
HasFrom s x g = (p : Pid) (r : Report) → Contains (g p.0).reports r → Contains (s.process p.0).reports r ⊎ IsNew s x p r

from-same : (s : State) (x : ServiceStep) → HasFrom s x s.process
from-same s x p r is = inl is

from-put : (s : State) (x : ServiceStep) (p : Pid) (z : Process) → ((r : Report) → Contains z.reports r → Contains (s.process p.0).reports r ⊎ IsNew s x p r) → HasFrom s x (put_process p z s.process)
from-put s x p z its q r is = by (pid_tells p q)
  where
    by : ((nat_eq p.0 q.0 ≡ true) × (p ≡ q)) ⊎ ((nat_eq p.0 q.0 ≡ false) × (p.0 ≢ q.0)) → Contains (s.process q.0).reports r ⊎ IsNew s x q r
    by (inl same) =
        subst (λ v. Contains (s.process v.0).reports r ⊎ IsNew s x v r) same.1
        (its r (subst (λ v. Contains v.reports r) (put_process-at p z s.process) (subst (λ v. Contains (put_process p z s.process v.0).reports r) (sym same.1) is)))
    by (inr apart) = inl (subst (λ v. Contains v.reports r) (put_process-other p z s.process q apart.0) is)

from-turns : (s : State) (x : ServiceStep) (p : Pid) (to : Phase) → HasFrom s x (turns p to s.process)
unfolding turns
from-turns s x p to = from-put s x p (record (s.process p.0) { phase = to }) (λ r is. inl is)

from-gains : (s : State) (x : ServiceStep) (p : Pid) (rs : List Report) → AreNew s x p rs → HasFrom s x (gains p rs s.process)
unfolding gains
from-gains s x p rs are = from-put s x p (record (s.process p.0) { reports = (s.process p.0).reports ++ rs }) (λ r is. by r (Contains-append_cases (s.process p.0).reports rs r is))
  where
    by : (r : Report) → Contains (s.process p.0).reports r ⊎ Contains rs r → Contains (s.process p.0).reports r ⊎ IsNew s x p r
    by r (inl old) = inl old
    by r (inr new) = inr (new-each s x p rs r are new)

from-wakes : (s : State) (x : ServiceStep) (p : Pid) (e : EndId) (g : ℕ → Process) → HasFrom s x g → HasFrom s x (wakes p e g)
from-wakes s x p e g from q r is = from q r (subst (λ l. Contains l r) ((wakes-woken p e g).reports q) is)

from-gains_owner : (s : State) (x : ServiceStep) (o : Option Pid) (rs : List Report) → ((p : Pid) → AreNew s x p rs) → HasFrom s x (gains_owner o rs s.process)
from-gains_owner s x None rs are = from-same s x
from-gains_owner s x (Some p) rs are = from-gains s x p rs (are p)

from-tells : (s : State) (x : ServiceStep) (o : Option Pid) (e : EndId) (rs : List Report) → ((p : Pid) → AreNew s x p rs) → HasFrom s x (tells o e rs s.process)
from-tells s x None e rs are = from-same s x
from-tells s x (Some p) e rs are = from-wakes s x p e (gains p rs s.process) (from-gains s x p rs (are p))

from-wakes_owner : (s : State) (x : ServiceStep) (o : Option Pid) (e : EndId) → HasFrom s x (wakes_owner o e s.process)
from-wakes_owner s x None e = from-same s x
from-wakes_owner s x (Some p) e = from-wakes s x p e s.process (from-same s x)

later-Contains : (rs : List Report) (r : Report) → Contains (later rs) r → Contains rs r
later-Contains [] r is = is
later-Contains (x ∷ rs) r is = Contains-append_right (x ∷ []) rs r is

from-given : (s : State) (x : ServiceStep) (p : Pid) → HasFrom s x (given p s.process)
unfolding given
from-given s x p = from-put s x p (record { phase = phase.Running; reports = later (s.process p.0).reports }) (λ r is. inl (later-Contains (s.process p.0).reports r is))

from-ends : (s : State) (x : ServiceStep) (p : Pid) → HasFrom s x (ends_process p s.process)
unfolding ends_process
from-ends s x p = from-put s x p no_process (λ r is. absurd (empty r is))
  where
    empty : (r : Report) → Contains [] r → ⊥
    empty r (i, below, same) = absurd (omega arith)

-- a report of a send, or of a death, is no report Done of a receive

new-send : (s : State) (x : ServiceStep) (p : Pid) (r : Report) → r.way ≡ way.Outward → IsNew s x p r
new-send s x p r sent received done = let differ : way.Outward ≡ way.Inward = sym sent ∙ received in absurd (cc)

new-dead : (s : State) (x : ServiceStep) (p : Pid) (r : Report) → r.outcome ≡ outcome.Destroyed → IsNew s x p r
new-dead s x p r dead received done = let differ : outcome.Destroyed ≡ outcome.Done = sym dead ∙ done in absurd (cc)

new-returned : (s : State) (x : ServiceStep) (e : EndId) (o : Option Message) (p : Pid) → AreNew s x p (returned_reports e o)
new-returned s x e None p = tt
new-returned s x e (Some m) p = (new-send s x p (send_report e outcome.Destroyed m.carried) refl, tt)

new-dead_reports : (s : State) (x : ServiceStep) (e : EndId) (b : Bool) (p : Pid) → AreNew s x p (if b then dead_receive_report e ∷ [] else [])
new-dead_reports s x e true p = (new-dead s x p (dead_receive_report e) refl, tt)
new-dead_reports s x e false p = tt

from-take : (s : State) (e : EndId) (n : ℕ) (p : Pid) (late : Bool) (m : Message) → (s.ends e).outward ≡ outward.Matched m → HasFrom s (step.Take e n p late) (tells (Some p) (opposite e) (done_reports (opposite e) (matched_message (s.ends e).outward)) s.process)
from-take s e n p late m matched =
    subst (λ o. HasFrom s (step.Take e n p late) (tells (Some p) (opposite e) (done_reports (opposite e) (matched_message o)) s.process)) (sym matched)
    (from-wakes s (step.Take e n p late) p (opposite e) (gains p (receive_report (opposite e) m.bytes m.carried ∷ []) s.process)
    (from-gains s (step.Take e n p late) p (receive_report (opposite e) m.bytes m.carried ∷ [])
    ((λ received done. record { f = e; n = n; late = late; m = m; took = refl; its = matched; is = refl }), tt)))

from-returned : (s : State) (x : ServiceStep) (e : EndId) (o : Option Pid) (b : Bool)
    → HasFrom s x (if b then gains_owner o (returned_reports e (matched_message (s.ends e).outward)) s.process else tells o e (returned_reports e (matched_message (s.ends e).outward) ++ dead_reports e (s.ends e)) s.process)
from-returned s x e o true = from-gains_owner s x o (returned_reports e (matched_message (s.ends e).outward)) (new-returned s x e (matched_message (s.ends e).outward))
from-returned s x e o false =
    from-tells s x o e (returned_reports e (matched_message (s.ends e).outward) ++ dead_reports e (s.ends e))
    (λ p. new-append s x p (returned_reports e (matched_message (s.ends e).outward)) (dead_reports e (s.ends e)) (new-returned s x e (matched_message (s.ends e).outward) p) (new-dead_reports s x e (is_started_inward (s.ends e).inward) p))

from-cancel : (s : State) (x : ServiceStep) (o : Option Pid) (e : EndId) (w : Way) → HasFrom s x (after_cancel o e w s).process
from-cancel s x None e w = from-same s x
from-cancel s x (Some p) e way.Outward = from-same s x
from-cancel s x (Some p) e way.Inward = from-turns s x p (phase.Cancelling e)

pub reports-from : (s : State) (x : ServiceStep) (t : State) → IsConsistent s → IsServiceStep s x t → HasFrom s x t.process
reports-from s (step.Make p a b) t k is = subst (λ z. HasFrom s (step.Make p a b) z.process) (sym is.after) (from-same s _)
reports-from s (step.Refuse p call cause) t k is = subst (λ z. HasFrom s (step.Refuse p call cause) z.process) (sym is.after) (from-same s _)
reports-from s (step.Destroy e) t k is = subst (λ z. HasFrom s (step.Destroy e) z.process) (sym is.after) (from-same s _)
reports-from s (step.Send e n bytes xs) t k is = subst (λ z. HasFrom s (step.Send e n bytes xs) z.process) (sym is.after) (from-same s _)
reports-from s (step.Receive e) t k is = subst (λ z. HasFrom s (step.Receive e) z.process) (sym is.after) (from-same s _)
reports-from s (step.Cancel e w) t k is = subst (λ z. HasFrom s (step.Cancel e w) z.process) (sym is.after) (from-cancel s _ (owner (s.ends e).place) e w)
reports-from s (step.Wait p) t k is = subst (λ z. HasFrom s (step.Wait p) z.process) (sym is.after) (from-turns s _ p phase.Waiting)
reports-from s (step.Report p r) t k is = subst (λ z. HasFrom s (step.Report p r) z.process) (sym is.after) (from-given s _ p)
reports-from s (step.Exit p) t k is = subst (λ z. HasFrom s (step.Exit p) z.process) (sym is.after.after) (from-ends s _ p)
reports-from s (step.Match e n) t k is = subst (λ z. HasFrom s (step.Match e n) z.process) (sym is.after) (from-same s _)
reports-from s (step.Take e n p late) t k is =
    let found = take-matched s e n p late k is.allowed in
    subst (λ z. HasFrom s (step.Take e n p late) z.process) (sym is.after) (from-take s e n p late found.0 found.1)
reports-from s (step.Complete e n) t k is =
    subst (λ z. HasFrom s (step.Complete e n) z.process) (sym is.after)
    (from-gains_owner s _ (owner (s.ends e).place) (send_report e outcome.Done [] ∷ []) (λ p. (new-send s _ p (send_report e outcome.Done []) refl, tt)))
reports-from s (step.Withdraw e) t k is = subst (λ z. HasFrom s (step.Withdraw e) z.process) (sym is.after) (from-same s _)
reports-from s (step.Free e) t k is = subst (λ z. HasFrom s (step.Free e) z.process) (sym is.after) (from-wakes_owner s _ (owner (s.ends e).place) e)
reports-from s (step.Notice e dead) t k is =
    subst (λ z. HasFrom s (step.Notice e dead) z.process) (sym is.after)
    (from-tells s _ (owner (s.ends e).place) e (returned_reports e (waiting_message (s.ends e).outward) ++ dead_reports e (s.ends e))
    (λ p. new-append s _ p (returned_reports e (waiting_message (s.ends e).outward)) (dead_reports e (s.ends e)) (new-returned s _ e (waiting_message (s.ends e).outward) p) (new-dead_reports s _ e (is_started_inward (s.ends e).inward) p)))
reports-from s (step.Back e n dead) t k is = subst (λ z. HasFrom s (step.Back e n dead) z.process) (sym is.after) (from-returned s _ e (owner (s.ends e).place) (s.ends e).noticed)
