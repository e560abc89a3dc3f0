-- In which phase each step leaves a process.
use Rattle.std.proofs.Common.{◌≡◌, ◌≢◌, ℕ, Bool, true, false, true≢false, nat_eq, ◌&&◌, not, is_some, ◌⊎◌, inl, inr, if◌then◌else◌, Option, Some, None, List, ◌++◌, refl, sym, ap, subst, ◌∙◌}
use Rattle.charlotte_calls.specs.Names.{opposite}
use Rattle.charlotte_calls.specs.declared.calls.Answer.{Answer}
use Rattle.charlotte_calls.specs.declared.calls.Answer.TheVariants as answer
use Rattle.charlotte_calls.specs.declared.calls.Cause.TheVariants as cause
use Rattle.charlotte_calls.specs.declared.calls.Report.{Report}
use Rattle.charlotte_calls.specs.declared.calls.ServiceStep.{ServiceStep}
use Rattle.charlotte_calls.specs.declared.calls.ServiceStep.TheVariants as step
use Rattle.charlotte_calls.specs.declared.names.EndId.{EndId}
use Rattle.charlotte_calls.specs.declared.names.Pid.{Pid}
use Rattle.charlotte_calls.specs.declared.names.Way.TheVariants as way
use Rattle.service_change.proofs.Counts.{and-true, pid_tells}
use Rattle.service_change.proofs.EndEq.{end_eq-refl, end_eq-same, end_eq-sym, opposite-opposite}
use Rattle.service_change.proofs.Facts.{owner-Owned, put_process-at, put_process-other, running-is, waiting-is}
use Rattle.service_consistent.proofs.StepsOfMessages.{take-owned}
use Rattle.service_custody.specs.Phases.{ArePhases, next_phase, turned_by, unless_answered}
use Rattle.service_lawful.specs.Consistent.{IsConsistent}
use Rattle.service_step.specs.Ends.{end_eq, is_owned_by, matched_message, owner, waiting_message}
use Rattle.service_step.specs.State.{State, Process, ends_process, gains, given, is_cancelling, later, no_process, owner_cancels, put_process, tells, turns, wakes}
use Rattle.service_step.specs.Steps.{IsServiceStep, after_cancel, agree, dead_reports, done_reports, gains_owner, is_running_owner, returned_reports, wakes_owner}
use Rattle.service_step.specs.declared.state.Phase.{Phase}
use Rattle.service_step.specs.declared.state.Phase.TheVariants as phase
use Rattle.service_step.specs.declared.state.Place.TheVariants as place
use Rattle.told_answers.specs.Told.{cancel_in, report_in}

-- the next phase is the same, where the process makes no call and is not answered
next-same : (s : State) (q : Pid) (made : ServiceStep) (x : Phase) → turned_by s q made ≡ phase.Running → report_in q made ≡ None → ((g : EndId) → x ≡ phase.Cancelling g → cancel_in g made ≡ None) → next_phase s q made x ≡ x
next-same s q made phase.Running turned none quiet = turned
next-same s q made phase.Waiting turned none quiet = ap (λ o. unless_answered o phase.Waiting) none
next-same s q made (phase.Cancelling g) turned none quiet = ap (λ o. unless_answered o (phase.Cancelling g)) (quiet g refl)
next-same s q made phase.Ended turned none quiet = refl

-- one process comes to another phase
abbrev Tells : Pid → Pid → Type 0
Tells p q = ((nat_eq p.0 q.0 ≡ true) × (p ≡ q)) ⊎ ((nat_eq p.0 q.0 ≡ false) × (p.0 ≢ q.0))

put-phase : (s : State) (made : ServiceStep) (p : Pid) (z : Process) (q : Pid) → (nat_eq p.0 q.0 ≡ true → p ≡ q → z.phase ≡ next_phase s q made (s.process q.0).phase)
    → (nat_eq p.0 q.0 ≡ false → next_phase s q made (s.process q.0).phase ≡ (s.process q.0).phase) → (put_process p z s.process q.0).phase ≡ next_phase s q made (s.process q.0).phase
put-phase s made p z q its others = by (pid_tells p q)
  where
    by : Tells p q → (put_process p z s.process q.0).phase ≡ next_phase s q made (s.process q.0).phase
    by (inl same) = subst (λ v. (put_process p z s.process v.0).phase ≡ z.phase) same.1 (ap (λ v. v.phase) (put_process-at p z s.process)) ∙ its same.0 same.1
    by (inr apart) = ap (λ v. v.phase) (put_process-other p z s.process q apart.0) ∙ sym (others apart.0)

eq-sym : (p q : Pid) → nat_eq p.0 q.0 ≡ false → nat_eq q.0 p.0 ≡ false
eq-sym p q apart = by (pid_tells q p)
  where
    by : Tells q p → nat_eq q.0 p.0 ≡ false
    by (inl same) = absurd (true≢false (sym (subst (λ z. nat_eq z.0 q.0 ≡ true) same.1 (eq-refl q)) ∙ apart))
      where
        eq-refl : (a : Pid) → nat_eq a.0 a.0 ≡ true
        eq-refl a = at (pid_tells a a)
          where
            at : Tells a a → nat_eq a.0 a.0 ≡ true
            at (inl is) = is.0
            at (inr is) = absurd (is.1 refl)
    by (inr is) = is.0

-- gains leave each phase
gains-phase : (p : Pid) (rs : List Report) (f : ℕ → Process) (q : Pid) → (gains p rs f q.0).phase ≡ (f q.0).phase
unfolding gains
gains-phase p rs f q = by (pid_tells p q)
  where
    z : Process
    z = record (f p.0) { reports = (f p.0).reports ++ rs }

    by : Tells p q → (put_process p z f q.0).phase ≡ (f q.0).phase
    by (inl same) = subst (λ v. (put_process p z f v.0).phase ≡ (f v.0).phase) same.1 (ap (λ v. v.phase) (put_process-at p z f))
    by (inr apart) = ap (λ v. v.phase) (put_process-other p z f q apart.0)

owner-phase : (o : Option Pid) (rs : List Report) (f : ℕ → Process) (q : Pid) → (gains_owner o rs f q.0).phase ≡ (f q.0).phase
owner-phase None rs f q = refl
owner-phase (Some p) rs f q = gains-phase p rs f q

-- the owner runs again where it is in a Cancel of the receive on e
data Woken (o : Option Pid) (e : EndId) (q : Pid) (x y : Phase) : Type 0 where
  kept : y ≡ x → (o ≡ Some q → is_cancelling e x ≡ false) → Woken o e q x y
  woke : o ≡ Some q → is_cancelling e x ≡ true → y ≡ phase.Running → Woken o e q x y

none-woken : (e : EndId) (q : Pid) (x : Phase) → Woken None e q x x
none-woken e q x = kept refl (λ is. absurd (differ is))
  where
    differ : None ≡ Some q → ⊥
    differ is = true≢false (sym (ap is_some is))

wakes-woken : (p : Pid) (e : EndId) (f : ℕ → Process) (q : Pid) → Woken (Some p) e q (f q.0).phase (wakes p e f q.0).phase
unfolding wakes turns
wakes-woken p e f q = by (pid_tells p q) (is_cancelling e (f p.0).phase) refl
  where
    z : Process
    z = record (f p.0) { phase = phase.Running }

    one : Some p ≡ Some q → p ≡ q
    one is = cc

    by : Tells p q → (b : Bool) → is_cancelling e (f p.0).phase ≡ b → Woken (Some p) e q (f q.0).phase ((if b then put_process p (record (f p.0) { phase = phase.Running }) f else f) q.0).phase
    by (inl same) true is = woke (ap Some same.1) (subst (λ v. is_cancelling e (f v.0).phase ≡ true) same.1 is) (subst (λ v. (put_process p z f v.0).phase ≡ phase.Running) same.1 (ap (λ v. v.phase) (put_process-at p z f)))
    by (inl same) false is = kept refl (λ o. subst (λ v. is_cancelling e (f v.0).phase ≡ false) same.1 is)
    by (inr apart) true is = kept (ap (λ v. v.phase) (put_process-other p z f q apart.0)) (λ o. absurd (apart.1 (ap (λ v. v.0) (one o))))
    by (inr apart) false is = kept refl (λ o. absurd (apart.1 (ap (λ v. v.0) (one o))))

tells-woken : (o : Option Pid) (e : EndId) (rs : List Report) (f : ℕ → Process) (q : Pid) → Woken o e q (f q.0).phase (tells o e rs f q.0).phase
tells-woken None e rs f q = none-woken e q (f q.0).phase
tells-woken (Some p) e rs f q = subst (λ x. Woken (Some p) e q x (wakes p e (gains p rs f) q.0).phase) (gains-phase p rs f q) (wakes-woken p e (gains p rs f) q)

wakes_owner-woken : (o : Option Pid) (e : EndId) (f : ℕ → Process) (q : Pid) → Woken o e q (f q.0).phase (wakes_owner o e f q.0).phase
wakes_owner-woken None e f q = none-woken e q (f q.0).phase
wakes_owner-woken (Some p) e f q = wakes-woken p e f q

cancelling-is : (x : Phase) (e : EndId) → is_cancelling e x ≡ true → x ≡ phase.Cancelling e
cancelling-is (phase.Cancelling g) e is = ap phase.Cancelling (sym (end_eq-same e g is))
cancelling-is phase.Running e is = absurd (true≢false (sym is))
cancelling-is phase.Waiting e is = absurd (true≢false (sym is))
cancelling-is phase.Ended e is = absurd (true≢false (sym is))

next-woken : (s : State) (q : Pid) (made : ServiceStep) (e : EndId) (y : Phase) → IsConsistent s → Woken (owner (s.ends e).place) e q (s.process q.0).phase y → turned_by s q made ≡ phase.Running → report_in q made ≡ None
    → ((g : EndId) → end_eq g e ≡ false → cancel_in g made ≡ None) → (owner (s.ends e).place ≡ Some q → is_cancelling e (s.process q.0).phase ≡ true → (a : Answer) × (cancel_in e made ≡ Some a))
    → y ≡ next_phase s q made (s.process q.0).phase
next-woken s q made e y k (woke owns is runs) turned none others answered =
    let told = answered owns is in
    runs ∙ sym (ap (next_phase s q made) (cancelling-is (s.process q.0).phase e is) ∙ ap (λ o. unless_answered o (phase.Cancelling e)) told.1)
next-woken s q made e y k (kept same not) turned none others answered = same ∙ sym (next-same s q made (s.process q.0).phase turned none (λ g is. quiet g is (end_eq g e) refl))
  where
    quiet : (g : EndId) → (s.process q.0).phase ≡ phase.Cancelling g → (b : Bool) → end_eq g e ≡ b → cancel_in g made ≡ None
    quiet g is false apart = others g apart
    quiet g is true one =
        let its = end_eq-same g e one in
        absurd
        (true≢false
        (sym (ap (is_cancelling e) is ∙ end_eq-sym e g ∙ one)
        ∙ not (subst (λ z. owner (s.ends z).place ≡ Some q) its (ap owner (k.processes.cancelling q g is).0))))

agree-same : (a b : Bool) → agree a b ≡ true → a ≡ b
agree-same true true is = refl
agree-same true false is = absurd (true≢false (sym is))
agree-same false true is = absurd (true≢false (sym is))
agree-same false false is = refl

-- an answer where a test holds
if-none : (b c : Bool) (a : Answer) → b ≡ false → (if b && c then Some a else None) ≡ None
if-none true c a is = absurd (true≢false is)
if-none false c a is = refl

if-some : (b c : Bool) (a : Answer) → b ≡ true → c ≡ true → (if b && c then Some a else None) ≡ Some a
if-some true true a is so = refl
if-some true false a is so = absurd (true≢false (sym so))
if-some false c a is so = absurd (true≢false (sym is))

and-false : (b : Bool) → b && false ≡ false
and-false true = refl
and-false false = refl

module _ (s : State) (t : State) (q : Pid) (k : IsConsistent s) where
  abbrev Next : ServiceStep → Type 0
  Next made = (t.process q.0).phase ≡ next_phase s q made (s.process q.0).phase

  -- nothing changes at processes
  quiet : (made : ServiceStep) → t.process ≡ s.process → turned_by s q made ≡ phase.Running → report_in q made ≡ None → ((g : EndId) → cancel_in g made ≡ None) → Next made
  quiet made same turned none silent = ap (λ f. (f q.0).phase) same ∙ sym (next-same s q made (s.process q.0).phase turned none (λ g is. silent g))

  phase-wait : (p : Pid) → IsServiceStep s (step.Wait p) t → Next (step.Wait p)
  unfolding turns
  phase-wait p is =
      ap (λ z. (z.process q.0).phase) is.after
      ∙ put-phase s (step.Wait p) p (record (s.process p.0) { phase = phase.Waiting }) q
      (λ one its. sym (ap (next_phase s q (step.Wait p)) (subst (λ z. (s.process z.0).phase ≡ phase.Running) its (running-is (s.process p.0).phase is.allowed.0)) ∙ ap (λ b. if b then phase.Waiting else phase.Running) one))
      (λ apart. next-same s q (step.Wait p) (s.process q.0).phase (ap (λ b. if b then phase.Waiting else phase.Running) apart) refl (λ g is. refl))

  phase-exit : (p : Pid) → IsServiceStep s (step.Exit p) t → Next (step.Exit p)
  unfolding ends_process
  phase-exit p is =
      ap (λ z. (z.process q.0).phase) is.after.after
      ∙ put-phase s (step.Exit p) p no_process q
      (λ one its. sym (ap (next_phase s q (step.Exit p)) (subst (λ z. (s.process z.0).phase ≡ phase.Running) its (running-is (s.process p.0).phase is.allowed)) ∙ ap (λ b. if b then phase.Ended else phase.Running) one))
      (λ apart. next-same s q (step.Exit p) (s.process q.0).phase (ap (λ b. if b then phase.Ended else phase.Running) apart) refl (λ g is. refl))

  phase-report : (p : Pid) (r : Report) → IsServiceStep s (step.Report p r) t → Next (step.Report p r)
  unfolding given
  phase-report p r is =
      ap (λ z. (z.process q.0).phase) is.after
      ∙ put-phase s (step.Report p r) p (record { phase = phase.Running; reports = later (s.process p.0).reports }) q
      (λ one its.
      sym
      (ap (next_phase s q (step.Report p r)) (subst (λ z. (s.process z.0).phase ≡ phase.Waiting) its (waiting-is (s.process p.0).phase is.allowed.0))
      ∙ ap (λ b. unless_answered (if b then Some (answer.Reported r) else None) phase.Waiting) (subst (λ z. nat_eq z.0 p.0 ≡ true) its (subst (λ z. nat_eq p.0 z.0 ≡ true) (sym its) one))))
      (λ apart. next-same s q (step.Report p r) (s.process q.0).phase refl (ap (λ b. if b then Some (answer.Reported r) else None) (eq-sym p q apart)) (λ g is. refl))

  phase-cancel : (e : EndId) → IsServiceStep s (step.Cancel e way.Inward) t → Next (step.Cancel e way.Inward)
  unfolding turns
  phase-cancel e is = by (owner (s.ends e).place) refl (and-true _ _ (and-true _ _ is.allowed).0).0 is.after
    where
      by : (o : Option Pid) → owner (s.ends e).place ≡ o → is_running_owner s o ≡ true → t ≡ after_cancel o e way.Inward s → Next (step.Cancel e way.Inward)
      by None is runs after = absurd (true≢false (sym runs))
      by (Some p) owns runs after =
          ap (λ z. (z.process q.0).phase) after
          ∙ put-phase s (step.Cancel e way.Inward) p (record (s.process p.0) { phase = phase.Cancelling e }) q
          (λ one its.
          sym
          (ap (next_phase s q (step.Cancel e way.Inward)) (subst (λ z. (s.process z.0).phase ≡ phase.Running) its (running-is (s.process p.0).phase runs))
          ∙ ap (λ b. if b then phase.Cancelling e else phase.Running) (ap (is_owned_by q) at ∙ subst (λ z. nat_eq z.0 p.0 ≡ true) its (subst (λ z. nat_eq p.0 z.0 ≡ true) (sym its) one))))
          (λ apart. next-same s q (step.Cancel e way.Inward) (s.process q.0).phase (ap (λ b. if b then phase.Cancelling e else phase.Running) (ap (is_owned_by q) at ∙ eq-sym p q apart)) refl (λ g is. refl))
        where
          at : (s.ends e).place ≡ place.Owned p
          at = owner-Owned (s.ends e).place p owns

  phase-free : (e : EndId) → IsServiceStep s (step.Free e) t → Next (step.Free e)
  phase-free e is =
      next-woken s q (step.Free e) e (t.process q.0).phase k
      (subst (λ z. Woken (owner (s.ends e).place) e q (s.process q.0).phase (z.process q.0).phase) (sym is.after) (wakes_owner-woken (owner (s.ends e).place) e s.process q)) refl refl
      (λ g apart. ap (λ b. if b then Some answer.Ok else None) apart) (λ owns so. (answer.Ok, ap (λ b. if b then Some answer.Ok else None) (end_eq-refl e)))

  phase-take : (e : EndId) (n : ℕ) (p : Pid) (late : Bool) → IsServiceStep s (step.Take e n p late) t → Next (step.Take e n p late)
  phase-take e n p late is =
      next-woken s q (step.Take e n p late) (opposite e) (t.process q.0).phase k
      (subst (λ o. Woken o (opposite e) q (s.process q.0).phase (t.process q.0).phase) (sym (ap owner at))
      (subst (λ z. Woken (Some p) (opposite e) q (s.process q.0).phase (z.process q.0).phase) (sym is.after) (tells-woken (Some p) (opposite e) (done_reports (opposite e) (matched_message (s.ends e).outward)) s.process q)))
      refl refl (λ g apart. if-none (end_eq (opposite g) e) late (answer.Refused cause.Late) (apart-too g apart (end_eq (opposite g) e) refl))
      (λ owns so. (answer.Refused cause.Late, if-some (end_eq (opposite (opposite e)) e) late (answer.Refused cause.Late) (subst (λ z. end_eq z e ≡ true) (sym (opposite-opposite e)) (end_eq-refl e)) (late-so (and-true _ _ is.allowed).1 owns so)))
    where
      at : (s.ends (opposite e)).place ≡ place.Owned p
      at = take-owned s e n p late k is.allowed

      one : Some p ≡ Some q → p ≡ q
      one same = cc

      late-so : agree late (is_cancelling (opposite e) (s.process p.0).phase) ≡ true → owner (s.ends (opposite e)).place ≡ Some q → is_cancelling (opposite e) (s.process q.0).phase ≡ true → late ≡ true
      late-so agreed owns so = agree-same late (is_cancelling (opposite e) (s.process p.0).phase) agreed ∙ subst (λ z. is_cancelling (opposite e) (s.process z.0).phase ≡ true) (sym (one (sym (ap owner at) ∙ owns))) so

      apart-too : (g : EndId) → end_eq g (opposite e) ≡ false → (b : Bool) → end_eq (opposite g) e ≡ b → b ≡ false
      apart-too g apart true same = absurd (true≢false (sym (subst (λ z. end_eq g z ≡ true) (sym (opposite-opposite g) ∙ ap opposite (end_eq-same (opposite g) e same)) (end_eq-refl g)) ∙ apart))
      apart-too g apart false other = refl

  phase-notice : (e : EndId) (dead : Bool) → IsServiceStep s (step.Notice e dead) t → Next (step.Notice e dead)
  phase-notice e dead is =
      next-woken s q (step.Notice e dead) e (t.process q.0).phase k
      (subst (λ z. Woken (owner (s.ends e).place) e q (s.process q.0).phase (z.process q.0).phase) (sym is.after)
      (tells-woken (owner (s.ends e).place) e (returned_reports e (waiting_message (s.ends e).outward) ++ dead_reports e (s.ends e)) s.process q))
      refl refl (λ g apart. if-none (end_eq g e) dead (answer.Refused cause.Dead) apart)
      (λ owns so.
      (answer.Refused cause.Dead, if-some (end_eq e e) dead (answer.Refused cause.Dead) (end_eq-refl e) (agree-same dead _ (and-true _ _ is.allowed).1 ∙ ap (λ o. owner_cancels o e s.process) owns ∙ so)))

  phase-back : (e : EndId) (n : ℕ) (dead : Bool) → IsServiceStep s (step.Back e n dead) t → Next (step.Back e n dead)
  phase-back e n dead is = by (and-true _ _ is.allowed).1 (s.ends e).noticed refl (ap (λ z. z.process) is.after)
    where
      sent : List Report
      sent = returned_reports e (matched_message (s.ends e).outward)

      Agreed : Type 0
      Agreed = agree dead (not (s.ends e).noticed && owner_cancels (owner (s.ends e).place) e s.process) ≡ true

      agrees : Agreed → (b : Bool) → (s.ends e).noticed ≡ b → dead ≡ (not b && owner_cancels (owner (s.ends e).place) e s.process)
      agrees agreed b is_b = agree-same dead (not (s.ends e).noticed && owner_cancels (owner (s.ends e).place) e s.process) agreed ∙ ap (λ c. not c && owner_cancels (owner (s.ends e).place) e s.process) is_b

      silent : (g : EndId) → dead ≡ false → cancel_in g (step.Back e n dead) ≡ None
      silent g alive = ap (λ c. if end_eq g e && c then Some (answer.Refused cause.Dead) else None) alive ∙ ap (λ c. if c then Some (answer.Refused cause.Dead) else None) (and-false (end_eq g e))

      by : Agreed → (b : Bool) → (s.ends e).noticed ≡ b → t.process ≡ (if b then gains_owner (owner (s.ends e).place) sent s.process else tells (owner (s.ends e).place) e (sent ++ dead_reports e (s.ends e)) s.process) → Next (step.Back e n dead)
      by agreed true noticed after =
          ap (λ f. (f q.0).phase) after ∙ owner-phase (owner (s.ends e).place) sent s.process q ∙ sym (next-same s q (step.Back e n dead) (s.process q.0).phase refl refl (λ g is_g. silent g (agrees agreed true noticed)))
      by agreed false not_yet after =
          next-woken s q (step.Back e n dead) e (t.process q.0).phase k
          (subst (λ f. Woken (owner (s.ends e).place) e q (s.process q.0).phase (f q.0).phase) (sym after) (tells-woken (owner (s.ends e).place) e (sent ++ dead_reports e (s.ends e)) s.process q))
          refl refl (λ g apart. if-none (end_eq g e) dead (answer.Refused cause.Dead) apart)
          (λ owns so. (answer.Refused cause.Dead, if-some (end_eq e e) dead (answer.Refused cause.Dead) (end_eq-refl e) (agrees agreed false not_yet ∙ ap (λ o. owner_cancels o e s.process) owns ∙ so)))

  pub phase-of : (made : ServiceStep) → IsServiceStep s made t → Next made
  phase-of (step.Make p a b) is = quiet (step.Make p a b) (ap (λ z. z.process) is.after) refl refl (λ g. refl)
  phase-of (step.Refuse p call why) is = quiet (step.Refuse p call why) (ap (λ z. z.process) is.after) refl refl (λ g. refl)
  phase-of (step.Destroy e) is = quiet (step.Destroy e) (ap (λ z. z.process) is.after) refl refl (λ g. refl)
  phase-of (step.Send e n bytes xs) is = quiet (step.Send e n bytes xs) (ap (λ z. z.process) is.after) refl refl (λ g. refl)
  phase-of (step.Receive e) is = quiet (step.Receive e) (ap (λ z. z.process) is.after) refl refl (λ g. refl)
  phase-of (step.Cancel e way.Outward) is = quiet (step.Cancel e way.Outward) (ap (λ z. z.process) is.after ∙ by (owner (s.ends e).place)) refl refl (λ g. refl)
    where
      by : (o : Option Pid) → (after_cancel o e way.Outward s).process ≡ s.process
      by None = refl
      by (Some p) = refl
  phase-of (step.Cancel e way.Inward) is = phase-cancel e is
  phase-of (step.Wait p) is = phase-wait p is
  phase-of (step.Report p r) is = phase-report p r is
  phase-of (step.Exit p) is = phase-exit p is
  phase-of (step.Match e n) is = quiet (step.Match e n) (ap (λ z. z.process) is.after) refl refl (λ g. refl)
  phase-of (step.Take e n p late) is = phase-take e n p late is
  phase-of (step.Complete e n) is =
      ap (λ z. (z.process q.0).phase) is.after ∙ owner-phase (owner (s.ends e).place) _ s.process q ∙ sym (next-same s q (step.Complete e n) (s.process q.0).phase refl refl (λ g is_g. refl))
  phase-of (step.Withdraw e) is = quiet (step.Withdraw e) (ap (λ z. z.process) is.after) refl refl (λ g. refl)
  phase-of (step.Free e) is = phase-free e is
  phase-of (step.Notice e dead) is = phase-notice e dead is
  phase-of (step.Back e n dead) is = phase-back e n dead is

pub phases-next : (s : State) (made : ServiceStep) (t : State) → IsConsistent s → IsServiceStep s made t → ArePhases s made t
phases-next s made t k is q = phase-of s t q k made is
