-- What the conditions of the steps say, and what the words of the steps make of the processes and of one end.
use Rattle.std.proofs.Common.{◌≡◌, ◌≢◌, ℕ, Bool, true, false, true≢false, nat_eq, ◌||◌, not, is_some, is_none, ◌⊎◌, inl, inr, if◌then◌else◌, Option, Some, None, List, ◌++◌, refl, sym, ap, subst, ◌∙◌}
use Rattle.charlotte_calls.specs.declared.calls.Report.{Report}
use Rattle.charlotte_calls.specs.declared.names.EndId.{EndId}
use Rattle.charlotte_calls.specs.declared.names.Pid.{Pid}
use Rattle.charlotte_calls.specs.declared.names.Way.{Way}
use Rattle.charlotte_calls.specs.declared.names.Way.TheVariants as way
use Rattle.charlotte_calls.specs.declared.calls.Cause.{Cause}
use Rattle.service_change.proofs.Change.{IsWell, idle-parts, none-some}
use Rattle.service_change.proofs.Counts.{pid_tells}
use Rattle.service_change.proofs.EndEq.{end_eq-refl}
use Rattle.service_change.proofs.Shapes.{IsLed, IsNext, IsTold}
use Rattle.service_lawful.specs.Consistent.{IsConsistent, is_over}
use Rattle.service_step.specs.Ends.{is_made, is_living, owner, is_owned_by, is_idle, is_posted, is_unreported_outward, is_unreported_inward, is_started_inward, is_taken, is_withdrawn, is_matched_with, is_matched_inward, matched_message, waiting_message}
use Rattle.service_step.specs.Lawful.{message_of}
use Rattle.service_step.specs.State.{State, Process, is_running, is_waiting, is_cancelling, owner_cancels, put_process, turns, gains, wakes}
use Rattle.service_step.specs.Steps.{is_running_owner}
use Rattle.service_step.specs.declared.state.End.{End}
use Rattle.service_step.specs.declared.state.Inward.{Inward}
use Rattle.service_step.specs.declared.state.Inward.TheVariants as inward
use Rattle.service_step.specs.declared.state.Message.{Message}
use Rattle.service_step.specs.declared.state.Outward.{Outward}
use Rattle.service_step.specs.declared.state.Outward.TheVariants as outward
use Rattle.service_step.specs.declared.state.Phase.{Phase}
use Rattle.service_step.specs.declared.state.Phase.TheVariants as phase
use Rattle.service_step.specs.declared.state.Place.{Place}
use Rattle.service_step.specs.declared.state.Place.TheVariants as place

-- tests

pub not-true : (b : Bool) → not b ≡ true → b ≡ false
not-true true is = absurd (true≢false (sym is))
not-true false is = refl

pub not-false : (b : Bool) → not b ≡ false → b ≡ true
not-false true is = refl
not-false false is = absurd (true≢false is)

-- no cause holds: the first does not, and none of the others
pub none-first : (b : Bool) (c : Cause) (rest : Option Cause) → is_none (if b then Some c else rest) ≡ true → (b ≡ false) × (is_none rest ≡ true)
none-first true c rest is = absurd (true≢false (sym is))
none-first false c rest is = (refl, is)

pub some-is : {A : Type 0} (o : Option A) → is_some o ≡ true → (a : A) × (o ≡ Some a)
some-is None is = absurd (true≢false (sym is))
some-is (Some a) is = (a, refl)

pub owner-Owned : (at : Place) (p : Pid) → owner at ≡ Some p → at ≡ place.Owned p
owner-Owned (place.Owned q) p is = cc
owner-Owned (place.InMessage f n) p is = absurd (none-some None p refl is)
owner-Owned place.Destroyed p is = absurd (none-some None p refl is)
owner-Owned place.Unmade p is = absurd (none-some None p refl is)

pub owned_by-Owned : (p : Pid) (at : Place) → is_owned_by p at ≡ true → at ≡ place.Owned p
owned_by-Owned p (place.Owned q) is = by (pid_tells p q)
  where
    by : ((nat_eq p.0 q.0 ≡ true) × (p ≡ q)) ⊎ ((nat_eq p.0 q.0 ≡ false) × (p.0 ≢ q.0)) → place.Owned q ≡ place.Owned p
    by (inl same) = ap place.Owned (sym same.1)
    by (inr apart) = absurd (true≢false (sym is ∙ apart.0))
owned_by-Owned p (place.InMessage f n) is = absurd (true≢false (sym is))
owned_by-Owned p place.Destroyed is = absurd (true≢false (sym is))
owned_by-Owned p place.Unmade is = absurd (true≢false (sym is))

pub running-is : (x : Phase) → is_running x ≡ true → x ≡ phase.Running
running-is phase.Running is = refl
running-is phase.Waiting is = absurd (true≢false (sym is))
running-is (phase.Cancelling e) is = absurd (true≢false (sym is))
running-is phase.Ended is = absurd (true≢false (sym is))

pub waiting-is : (x : Phase) → is_waiting x ≡ true → x ≡ phase.Waiting
waiting-is phase.Waiting is = refl
waiting-is phase.Running is = absurd (true≢false (sym is))
waiting-is (phase.Cancelling e) is = absurd (true≢false (sym is))
waiting-is phase.Ended is = absurd (true≢false (sym is))

-- the owner that runs
pub running-owner : (s : State) (o : Option Pid) → is_running_owner s o ≡ true → (p : Pid) × (o ≡ Some p) × ((s.process p.0).phase ≡ phase.Running)
running-owner s None is = absurd (true≢false (sym is))
running-owner s (Some p) is = (p, refl, running-is (s.process p.0).phase is)

-- the owner that is in a Cancel
pub owner_cancels-is : (o : Option Pid) (e : EndId) (process : ℕ → Process) → owner_cancels o e process ≡ true → (p : Pid) × (o ≡ Some p)
owner_cancels-is None e process is = absurd (true≢false (sym is))
owner_cancels-is (Some p) e process is = (p, refl)

pub waiting-Waiting : (o : Outward) → is_some (waiting_message o) ≡ true → (m : Message) × (o ≡ outward.Waiting m)
waiting-Waiting (outward.Waiting m) is = (m, refl)
waiting-Waiting outward.Idle is = absurd (true≢false (sym is))
waiting-Waiting (outward.Matched m) is = absurd (true≢false (sym is))
waiting-Waiting outward.Taken is = absurd (true≢false (sym is))
waiting-Waiting outward.Unreported is = absurd (true≢false (sym is))

pub matched-Matched : (o : Outward) → is_some (matched_message o) ≡ true → (m : Message) × (o ≡ outward.Matched m)
matched-Matched (outward.Matched m) is = (m, refl)
matched-Matched outward.Idle is = absurd (true≢false (sym is))
matched-Matched (outward.Waiting m) is = absurd (true≢false (sym is))
matched-Matched outward.Taken is = absurd (true≢false (sym is))
matched-Matched outward.Unreported is = absurd (true≢false (sym is))

pub taken-Taken : (o : Outward) → is_taken o ≡ true → o ≡ outward.Taken
taken-Taken outward.Taken is = refl
taken-Taken outward.Idle is = absurd (true≢false (sym is))
taken-Taken (outward.Waiting m) is = absurd (true≢false (sym is))
taken-Taken (outward.Matched m) is = absurd (true≢false (sym is))
taken-Taken outward.Unreported is = absurd (true≢false (sym is))

pub posted-Posted : (i : Inward) → is_posted i ≡ true → i ≡ inward.Posted
posted-Posted inward.Posted is = refl
posted-Posted inward.Idle is = absurd (true≢false (sym is))
posted-Posted inward.Withdrawn is = absurd (true≢false (sym is))
posted-Posted (inward.Matched n) is = absurd (true≢false (sym is))
posted-Posted inward.Unreported is = absurd (true≢false (sym is))

pub withdrawn-Withdrawn : (i : Inward) → is_withdrawn i ≡ true → i ≡ inward.Withdrawn
withdrawn-Withdrawn inward.Withdrawn is = refl
withdrawn-Withdrawn inward.Idle is = absurd (true≢false (sym is))
withdrawn-Withdrawn inward.Posted is = absurd (true≢false (sym is))
withdrawn-Withdrawn (inward.Matched n) is = absurd (true≢false (sym is))
withdrawn-Withdrawn inward.Unreported is = absurd (true≢false (sym is))

pub matched_with-Matched : (n : ℕ) (i : Inward) → is_matched_with n i ≡ true → (k : ℕ) × (i ≡ inward.Matched k)
matched_with-Matched n (inward.Matched k) is = (k, refl)
matched_with-Matched n inward.Idle is = absurd (true≢false (sym is))
matched_with-Matched n inward.Posted is = absurd (true≢false (sym is))
matched_with-Matched n inward.Withdrawn is = absurd (true≢false (sym is))
matched_with-Matched n inward.Unreported is = absurd (true≢false (sym is))

pub posted-started : (i : Inward) → is_posted i || is_matched_inward i ≡ true → is_started_inward i ≡ true
posted-started inward.Posted is = refl
posted-started (inward.Matched n) is = refl
posted-started inward.Idle is = absurd (true≢false (sym is))
posted-started inward.Withdrawn is = absurd (true≢false (sym is))
posted-started inward.Unreported is = absurd (true≢false (sym is))

-- an end that is owned, or destroyed, is not in a message
abbrev pub IsAway : Place → Type 0
IsAway at = (f : EndId) (n : ℕ) → at ≡ place.InMessage f n → ⊥

pub away-owned : (at : Place) (p : Pid) → at ≡ place.Owned p → IsAway at
away-owned at p is f n inside = cc

pub away-gone : (at : Place) → at ≡ place.Destroyed → IsAway at
away-gone at is f n inside = cc

pub made-owned : (at : Place) (p : Pid) → at ≡ place.Owned p → is_made at ≡ true
made-owned at p is = ap is_made is

-- an end that is not idle was made, and is not in a message
pub busy-made : (s : State) (e : EndId) → IsConsistent s → is_idle (s.ends e) ≡ false → is_made (s.ends e).place ≡ true
busy-made s e k busy = by (s.ends e).place refl
  where
    by : (at : Place) → (s.ends e).place ≡ at → is_made at ≡ true
    by (place.Owned p) is = refl
    by (place.InMessage f n) is = refl
    by place.Destroyed is = refl
    by place.Unmade is = absurd (true≢false (sym (sym busy ∙ ap is_idle (k.kept.unmade e is))))

pub busy-away : (s : State) (e : EndId) → IsConsistent s → is_idle (s.ends e) ≡ false → IsAway (s.ends e).place
busy-away s e k busy f n inside = true≢false (sym (k.kept.resting e f n inside) ∙ busy)

pub busy-outward : (x : End) → (x.outward ≡ outward.Idle → ⊥) → is_idle x ≡ false
busy-outward x busy = by (is_idle x) refl
  where
    by : (b : Bool) → is_idle x ≡ b → b ≡ false
    by true is = absurd (busy (idle-parts x is).0)
    by false is = refl

pub busy-inward : (x : End) → (x.inward ≡ inward.Idle → ⊥) → is_idle x ≡ false
busy-inward x busy = by (is_idle x) refl
  where
    by : (b : Bool) → is_idle x ≡ b → b ≡ false
    by true is = absurd (busy (idle-parts x is).1)
    by false is = refl

-- the end itself

pub IsWell-changed : (e : EndId) (x y : End) → IsWell e x → y.place ≡ x.place → is_made x.place ≡ true → IsAway x.place → ((m : Message) → message_of y.outward ≡ Some m → message_of x.outward ≡ Some m)
    → ((m : Message) → y.outward ≡ outward.Waiting m → (x.outward ≡ outward.Waiting m) × (y.noticed ≡ true → x.noticed ≡ true)) → (y.noticed ≡ true → is_living y.place ≡ true → is_started_inward y.inward ≡ false) → IsWell e y
IsWell-changed e x y w same made away message waits deaf =
    record {
      unmade = λ is. absurd (true≢false (sym made ∙ ap is_made (sym same ∙ is)));
      apart = λ m is. w.apart m (message m is);
      others = λ m is. w.others m (message m is);
      waiting = λ m is. ap (λ p. is_some (owner p)) same ∙ w.waiting m (waits m is).0;
      resting = λ f n is. absurd (away f n (sym same ∙ is));
      silent = λ noticed living. silent noticed living y.outward refl;
      deaf = deaf;
    }
  where
    silent : y.noticed ≡ true → is_living y.place ≡ true → (o : Outward) → y.outward ≡ o → waiting_message o ≡ None
    silent noticed living outward.Idle is = refl
    silent noticed living (outward.Waiting m) is =
        absurd (none-some (waiting_message x.outward) m (w.silent ((waits m is).1 noticed) (ap is_living (sym same) ∙ living)) (ap waiting_message (waits m is).0))
    silent noticed living (outward.Matched m) is = refl
    silent noticed living outward.Taken is = refl
    silent noticed living outward.Unreported is = refl

pub next-same : (s : State) (e : EndId) (y : End) → IsConsistent s → is_made (s.ends e).place ≡ true → y.place ≡ (s.ends e).place → y.noticed ≡ (s.ends e).noticed → IsWell e y → IsNext s e y
next-same s e y k made same noticed well =
    record {
      was = made;
      after = inl same;
      leaves = λ f n is. same;
      well = well;
      noticed = λ is. k.noticed.opposite e (sym noticed ∙ is);
      sooner = λ is. noticed ∙ is;
    }

pub over-both : (x y : End) → is_unreported_outward y.outward ≡ is_unreported_outward x.outward → is_unreported_inward y.inward ≡ is_unreported_inward x.inward → (w : Way) → is_over w y ≡ is_over w x
over-both x y out inn way.Outward = out
over-both x y out inn way.Inward = inn

-- processes

pub put_process-at : (p : Pid) (x : Process) (f : ℕ → Process) → put_process p x f p.0 ≡ x
put_process-at p x f = by (pid_tells p p)
  where
    by : ((nat_eq p.0 p.0 ≡ true) × (p ≡ p)) ⊎ ((nat_eq p.0 p.0 ≡ false) × (p.0 ≢ p.0)) → put_process p x f p.0 ≡ x
    by (inl same) = ap (λ b. if b then x else f p.0) same.0
    by (inr apart) = absurd (apart.1 refl)

pub put_process-other : (p : Pid) (x : Process) (f : ℕ → Process) (q : Pid) → nat_eq p.0 q.0 ≡ false → put_process p x f q.0 ≡ f q.0
put_process-other p x f q apart = ap (λ b. if b then x else f q.0) apart

pub told-gains : (s t : State) (p : Pid) (rs : List Report) → t.process ≡ gains p rs s.process → IsTold s t p rs
unfolding gains
told-gains s t p rs after =
    record {
      led =
          record {
            others = λ q apart. ap (λ f. f q.0) after ∙ put_process-other p _ s.process q apart;
            phase = inl (ap (λ f. (f p.0).phase) after ∙ ap (λ z. z.phase) (put_process-at p _ s.process));
          };
      reports = ap (λ f. (f p.0).reports) after ∙ ap (λ z. z.reports) (put_process-at p _ s.process);
    }

-- a process runs again where it is in a Cancel of the receive on e
pub record IsWoken (f g : ℕ → Process) (p : Pid) (e : EndId) : Type 0 where
  pub others : (q : Pid) → nat_eq p.0 q.0 ≡ false → g q.0 ≡ f q.0
  pub reports : (q : Pid) → (g q.0).reports ≡ (f q.0).reports
  pub woken : (g p.0).phase ≡ phase.Cancelling e → ⊥
  pub phase : ((g p.0).phase ≡ (f p.0).phase) ⊎ ((g p.0).phase ≡ phase.Running)

pub wakes-woken : (p : Pid) (e : EndId) (f : ℕ → Process) → IsWoken f (wakes p e f) p e
unfolding wakes turns
wakes-woken p e f = by (is_cancelling e (f p.0).phase) refl
  where
    reports : (q : Pid) → ((nat_eq p.0 q.0 ≡ true) × (p ≡ q)) ⊎ ((nat_eq p.0 q.0 ≡ false) × (p.0 ≢ q.0)) → (put_process p (record (f p.0) { phase = phase.Running }) f q.0).reports ≡ (f q.0).reports
    reports q (inl same) = subst (λ z. (put_process p (record (f p.0) { phase = phase.Running }) f z.0).reports ≡ (f z.0).reports) same.1 (ap (λ z. z.reports) (put_process-at p _ f))
    reports q (inr apart) = ap (λ z. z.reports) (put_process-other p _ f q apart.0)

    differ : (x : Phase) → x ≡ phase.Running → x ≡ phase.Cancelling e → ⊥
    differ x a b = cc

    by : (b : Bool) → is_cancelling e (f p.0).phase ≡ b → IsWoken f (if b then put_process p (record (f p.0) { phase = phase.Running }) f else f) p e
    by true is =
        record {
          others = λ q apart. put_process-other p _ f q apart;
          phase = inr (ap (λ z. z.phase) (put_process-at p _ f));
          reports = λ q. reports q (pid_tells p q);
          woken = λ is. differ _ (ap (λ z. z.phase) (put_process-at p (record (f p.0) { phase = phase.Running }) f)) is;
        }
    by false not =
        record {
          others = λ q apart. refl;
          phase = inl refl;
          reports = λ q. refl;
          woken = λ is. true≢false (sym (ap (is_cancelling e) is ∙ end_eq-refl e) ∙ not);
        }

pub led-wakes : (s t : State) (p : Pid) (e : EndId) → t.process ≡ wakes p e s.process → IsLed s t p
led-wakes s t p e after =
    let w = wakes-woken p e s.process in
    record { others = λ q apart. ap (λ f. f q.0) after ∙ w.others q apart; phase = subst (λ g. ((g p.0).phase ≡ (s.process p.0).phase) ⊎ ((g p.0).phase ≡ phase.Running)) (sym after) w.phase }

pub told-tells : (s t : State) (p : Pid) (e : EndId) (rs : List Report) → t.process ≡ wakes p e (gains p rs s.process) → IsTold s t p rs × ((t.process p.0).phase ≡ phase.Cancelling e → ⊥)
unfolding gains
told-tells s t p e rs after = (
  record {
    led =
        record {
          others = λ q apart. ap (λ f. f q.0) after ∙ w.others q apart ∙ put_process-other p _ s.process q apart;
          phase =
              subst (λ g. ((g p.0).phase ≡ (s.process p.0).phase) ⊎ ((g p.0).phase ≡ phase.Running)) (sym after)
              (subst (λ z. ((wakes p e (put_process p (record (s.process p.0) { reports = (s.process p.0).reports ++ rs }) s.process) p.0).phase ≡ z)
              ⊎ ((wakes p e (put_process p (record (s.process p.0) { reports = (s.process p.0).reports ++ rs }) s.process) p.0).phase ≡ phase.Running))
              (ap (λ z. z.phase) at_p) w.phase);
        };
    reports = ap (λ f. (f p.0).reports) after ∙ w.reports p ∙ ap (λ z. z.reports) at_p;
  },
  λ is. w.woken (sym (ap (λ f. (f p.0).phase) after) ∙ is),
)
  where
    at_p : put_process p (record (s.process p.0) { reports = (s.process p.0).reports ++ rs }) s.process p.0 ≡ record (s.process p.0) { reports = (s.process p.0).reports ++ rs }
    at_p = put_process-at p _ s.process

    w : IsWoken (put_process p (record (s.process p.0) { reports = (s.process p.0).reports ++ rs }) s.process) (wakes p e (put_process p (record (s.process p.0) { reports = (s.process p.0).reports ++ rs }) s.process)) p e
    w = wakes-woken p e _
