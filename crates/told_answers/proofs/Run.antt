-- Along a local run: what stands at a kernel is what its entries told.
use Rattle.std.proofs.Common.{◌≡◌, ◌≢◌, ◌⊎◌, inl, inr, ℕ, ◌<◌, ◌≤◌, Bool, true, false, true≢false, nat_eq, ◌||◌, is_some, List, [], ◌∷◌, ◌++◌, map, length, Option, Some, None, refl, sym, ap, subst, ◌∙◌, append-nil, arith, eq-eqb, if◌then◌else◌}
use Rattle.std.proofs.lemmas.Bool.{eqb-true}
use Rattle.std.specs.List.{list_any}
use Rattle.charlotte_calls.specs.Names.{opposite}
use Rattle.charlotte_calls.specs.Program.{FitsCall}
use Rattle.charlotte_calls.specs.declared.calls.Answer.{Answer}
use Rattle.charlotte_calls.specs.declared.calls.Answer.TheVariants as answer
use Rattle.charlotte_calls.specs.declared.calls.Call.{Call}
use Rattle.charlotte_calls.specs.declared.calls.Call.TheVariants as call
use Rattle.charlotte_calls.specs.declared.calls.Cause.{Cause}
use Rattle.charlotte_calls.specs.declared.calls.Report.{Report}
use Rattle.charlotte_calls.specs.declared.calls.ServiceStep.{ServiceStep}
use Rattle.charlotte_calls.specs.declared.calls.ServiceStep.TheVariants as step
use Rattle.charlotte_calls.specs.declared.names.EndId.{EndId}
use Rattle.charlotte_calls.specs.declared.names.Pid.{Pid}
use Rattle.charlotte_calls.specs.declared.names.Way.TheVariants as way
use Rattle.charlotte_packets.specs.declared.picture.Picture.{Picture}
use Rattle.end_table.proofs.EndEq.{end_eq-refl, end_eq-same}
use Rattle.end_table.specs.Place.{end_eq}
use Rattle.end_table.specs.declared.entry.Entry.{Entry}
use Rattle.kernel_effects.specs.Calls.{act_effect}
use Rattle.kernel_outcomes.proofs.Called.{call-gives, call-refused}
use Rattle.kernel_outcomes.specs.Closing.{CallGives, Gives, call_answered, call_told, called, cancelling, cancelling_on, oldest, waited}
use Rattle.kernel_sound.specs.Acts.{made_after}
use Rattle.kernel_sound.specs.Sound.{IsSound}
use Rattle.kernel_step.specs.Calls.{IsCallWith, refusal}
use Rattle.kernel_step.specs.Kernel.{Kernel, Outcome, Process, call_step, has_report, process_of, take_step, without_answer}
use Rattle.kernel_step.specs.declared.phase.Phase.{Phase}
use Rattle.kernel_step.specs.declared.phase.Phase.TheVariants.{Running, Waiting, Cancelling, Exited}
use Rattle.told_answers.proofs.Calls.{IsPrompt, IsUntold, Withdraws, act-calm, act-untold, act-withdraws, call-sound, refusal-fits}
use Rattle.told_answers.proofs.Cancellers.{canceller, canceller-told}
use Rattle.told_answers.proofs.Rows.{IsAnswer, IsSilent}
use Rattle.told_answers.proofs.Taken.{IsRunBy, Taking, TellsNobody, TellsReport, take-taking}
use Rattle.told_answers.specs.Standing.{HasFitting, IsPhaseOf, StandsAsTold, is_answered}
use Rattle.told_answers.specs.Told.{Answered, Heard, NoCall, Pending, answer_of, cancel_in, first_in, granted_told, heard_of, hears_by, later_told, or_else, own_told, refusal_in, report_in, tells_by}

-- ---- steps

first_in-append : (tells : ServiceStep → Option Answer) (xs ys : List ServiceStep) → first_in tells (xs ++ ys) ≡ or_else (first_in tells xs) (first_in tells ys)
first_in-append tells [] ys = refl
first_in-append tells (x ∷ xs) ys = by (tells x) (first_in-append tells xs ys)
  where
    by : (a : Option Answer) → first_in tells (xs ++ ys) ≡ or_else (first_in tells xs) (first_in tells ys) → or_else a (first_in tells (xs ++ ys)) ≡ or_else (or_else a (first_in tells xs)) (first_in tells ys)
    by None same = same
    by (Some a) same = refl

-- where the first steps tell nothing
pub first_in-later : (tells : ServiceStep → Option Answer) (xs ys : List ServiceStep) → first_in tells xs ≡ None → first_in tells (xs ++ ys) ≡ first_in tells ys
first_in-later tells xs ys none = first_in-append tells xs ys ∙ ap (λ a. or_else a (first_in tells ys)) none

-- ---- what was heard of a process, by its phase

-- a call whose answer is not told is a Wait or a Cancel of a receive
pending-phase : (c : Call) (phase : Phase) → IsPhaseOf (Pending c) phase → ((c ≡ call.Wait) × (phase ≡ Waiting)) ⊎ ((on : EndId) × (c ≡ call.Cancel on way.Inward) × (phase ≡ Cancelling on))
pending-phase call.Make phase is = absurd is
pending-phase (call.Destroy on) phase is = absurd is
pending-phase (call.Send on bytes xs) phase is = absurd is
pending-phase (call.Receive on) phase is = absurd is
pending-phase (call.Cancel on way.Outward) phase is = absurd is
pending-phase (call.Cancel on way.Inward) phase is = inr (on, refl, is)
pending-phase call.Wait phase is = inl (refl, is)
pending-phase (call.Print bytes) phase is = absurd is
pending-phase call.Exit phase is = absurd is

answered-phase : (c : Call) (a : Answer) (phase : Phase) → IsPhaseOf (Answered c a) phase → (phase ≡ Running) ⊎ (phase ≡ Exited)
answered-phase call.Make a phase is = inl is
answered-phase (call.Destroy on) a phase is = inl is
answered-phase (call.Send on bytes xs) a phase is = inl is
answered-phase (call.Receive on) a phase is = inl is
answered-phase (call.Cancel on w) a phase is = inl is
answered-phase call.Wait a phase is = inl is
answered-phase (call.Print bytes) a phase is = inl is
answered-phase call.Exit a phase is = inr is

pub running-not_waiting : (phase : Phase) → phase ≡ Running → phase ≡ Waiting → ⊥
running-not_waiting phase runs waits = let no : Running ≡ Waiting = sym runs ∙ waits in cc

pub running-not_cancelling : (phase : Phase) (e : EndId) → phase ≡ Running → phase ≡ Cancelling e → ⊥
running-not_cancelling phase e runs cancels = let no : Running ≡ Cancelling e = sym runs ∙ cancels in cc

pub waiting-not_cancelling : (phase : Phase) (e : EndId) → phase ≡ Waiting → phase ≡ Cancelling e → ⊥
waiting-not_cancelling phase e waits cancels = let no : Waiting ≡ Cancelling e = sym waits ∙ cancels in cc

pub exited-not_waiting : (phase : Phase) → phase ≡ Exited → phase ≡ Waiting → ⊥
exited-not_waiting phase ended waits = let no : Exited ≡ Waiting = sym ended ∙ waits in cc

pub exited-not_cancelling : (phase : Phase) (e : EndId) → phase ≡ Exited → phase ≡ Cancelling e → ⊥
exited-not_cancelling phase e ended cancels = let no : Exited ≡ Cancelling e = sym ended ∙ cancels in cc

same-cancelling : (phase : Phase) (e f : EndId) → phase ≡ Cancelling e → phase ≡ Cancelling f → e ≡ f
same-cancelling phase e f first second = let same : Cancelling e ≡ Cancelling f = sym first ∙ second in cc

heard-waiting : (h : Heard) (phase : Phase) → IsPhaseOf h phase → phase ≡ Waiting → h ≡ Pending call.Wait
heard-waiting NoCall phase is waits = absurd (running-not_waiting phase is waits)
heard-waiting (Pending c) phase is waits = by (pending-phase c phase is)
  where
    by : ((c ≡ call.Wait) × (phase ≡ Waiting)) ⊎ ((on : EndId) × (c ≡ call.Cancel on way.Inward) × (phase ≡ Cancelling on)) → Pending c ≡ Pending call.Wait
    by (inl x) = ap Pending x.0
    by (inr x) = absurd (waiting-not_cancelling phase x.0 waits x.2)
heard-waiting (Answered c a) phase is waits = by (answered-phase c a phase is)
  where
    by : (phase ≡ Running) ⊎ (phase ≡ Exited) → Answered c a ≡ Pending call.Wait
    by (inl runs) = absurd (running-not_waiting phase runs waits)
    by (inr ended) = absurd (exited-not_waiting phase ended waits)

heard-cancelling : (h : Heard) (phase : Phase) (e : EndId) → IsPhaseOf h phase → phase ≡ Cancelling e → h ≡ Pending (call.Cancel e way.Inward)
heard-cancelling NoCall phase e is cancels = absurd (running-not_cancelling phase e is cancels)
heard-cancelling (Pending c) phase e is cancels = by (pending-phase c phase is)
  where
    by : ((c ≡ call.Wait) × (phase ≡ Waiting)) ⊎ ((on : EndId) × (c ≡ call.Cancel on way.Inward) × (phase ≡ Cancelling on)) → Pending c ≡ Pending (call.Cancel e way.Inward)
    by (inl x) = absurd (waiting-not_cancelling phase e x.1 cancels)
    by (inr x) = ap Pending (x.1 ∙ ap (λ on. call.Cancel on way.Inward) (same-cancelling phase x.0 e x.2 cancels))
heard-cancelling (Answered c a) phase e is cancels = by (answered-phase c a phase is)
  where
    by : (phase ≡ Running) ⊎ (phase ≡ Exited) → Answered c a ≡ Pending (call.Cancel e way.Inward)
    by (inl runs) = absurd (running-not_cancelling phase e runs cancels)
    by (inr ended) = absurd (exited-not_cancelling phase e ended cancels)

-- ---- one process over one event

-- the process is as told after an entry with these steps, in which it makes this call or none, and is answered just where the entry tells so
pub record Goes (p : Pid) (h : Heard) (w : Option Call) (steps : List ServiceStep) (z : Process) (answered : Bool) : Type 0 where
  pub stands : StandsAsTold (hears_by p h w steps) z
  pub who : answered ≡ is_some (tells_by p h w steps)

-- an entry that tells nothing of a process that is left as it was
pub goes-still : (p : Pid) (h : Heard) (steps : List ServiceStep) (y z : Process) (answered : Bool) → StandsAsTold h y → z.answer ≡ y.answer → z.phase ≡ y.phase → answered ≡ false
    → first_in (report_in p) steps ≡ None → ((on : EndId) → h ≡ Pending (call.Cancel on way.Inward) → first_in (cancel_in on) steps ≡ None) → Goes p h None steps z answered
goes-still p h steps y z answered stands answer phase not report cancel = by h refl
  where
    after : StandsAsTold h z
    after = record { answer = answer ∙ stands.answer; fits = stands.fits; phase = subst (IsPhaseOf h) (sym phase) stands.phase }

    untold : (c : Call) → h ≡ Pending c → later_told p c steps ≡ None
    untold call.Make is = refl
    untold (call.Destroy on) is = refl
    untold (call.Send on bytes xs) is = refl
    untold (call.Receive on) is = refl
    untold (call.Cancel on way.Outward) is = refl
    untold (call.Cancel on way.Inward) is = cancel on is
    untold call.Wait is = report
    untold (call.Print bytes) is = refl
    untold call.Exit is = refl

    by : (g : Heard) → h ≡ g → Goes p h None steps z answered
    by NoCall is = subst (λ g. Goes p g None steps z answered) (sym is) (record { stands = subst (λ g. StandsAsTold g z) is after; who = not })
    by (Answered c a) is = subst (λ g. Goes p g None steps z answered) (sym is) (record { stands = subst (λ g. StandsAsTold g z) is after; who = not })
    by (Pending c) is =
        subst (λ g. Goes p g None steps z answered) (sym is)
        (record {
          stands = subst (λ g. StandsAsTold g z) (is ∙ ap (heard_of c) (sym (untold c is))) after;
          who = not ∙ ap is_some (sym (untold c is));
        })

-- an entry that answers a call that was made before
goes-answered : (p : Pid) (h : Heard) (steps : List ServiceStep) (z : Process) (answered : Bool) (c : Call) (a : Answer) → h ≡ Pending c → later_told p c steps ≡ Some a
    → FitsCall c a → z.answer ≡ Some a → IsPhaseOf (Answered c a) z.phase → answered ≡ true → Goes p h None steps z answered
goes-answered p h steps z answered c a is told fits answer phase it_is =
    subst (λ g. Goes p g None steps z answered) (sym is)
    (record {
      stands = subst (λ g. StandsAsTold g z) (ap (heard_of c) (sym told)) (record { answer = answer; fits = fits; phase = phase });
      who = it_is ∙ ap is_some (sym told);
    })

-- ---- a kernel over one event

-- what is true of a kernel whose entries so far told this of each process
pub record AsTold (n : ℕ) (h : Pid → Heard) (x : Kernel) : Type 0 where
  pub sound : IsSound x.number x.made n x.table
  pub told : (p : Pid) → StandsAsTold (h p) (process_of p x)
  -- the Cancel of a receive waits at its end, and there alone
  pub cancelling : (p : Pid) (e : EndId) → canceller (x.table e) ≡ Some p → (process_of p x).phase ≡ Cancelling e
  pub withdrawing : (p : Pid) (e : EndId) → (process_of p x).phase ≡ Cancelling e → canceller (x.table e) ≡ Some p
  -- a process that waits has no report
  pub rests : (p : Pid) → (process_of p x).phase ≡ Waiting → (process_of p x).reports ≡ []

-- and after an event with these steps, in which each process makes this call or none
pub record Stepped (n : ℕ) (h : Pid → Heard) (w : Pid → Option Call) (o : Outcome) : Type 0 where
  pub inv : AsTold n (λ p. hears_by p (h p) (w p) o.steps) o.kernel
  pub who : (p : Pid) → is_answered p o ≡ is_some (tells_by p (h p) (w p) o.steps)
  pub once : length o.answered ≤ 1

pub apart-sym : (a b : ℕ) → nat_eq a b ≡ false → nat_eq b a ≡ false
apart-sym a b apart = grind arith

pub same-pid : (p q : Pid) → nat_eq p.0 q.0 ≡ true → p ≡ q
same-pid p q same = ap (λ (i : ℕ). record { 0 = i }) (eqb-true p.0 q.0 same)

-- whom an event answers: nobody, or p alone
pub none-answered : (q : Pid) (o : Outcome) → o.answered ≡ [] → is_answered q o ≡ false
none-answered q o none = ap (list_any (λ (r : Pid). nat_eq q.0 r.0)) none

pub one-answered : (p : Pid) (o : Outcome) → o.answered ≡ p ∷ [] → is_answered p o ≡ true
one-answered p o one = ap (list_any (λ (r : Pid). nat_eq p.0 r.0)) one ∙ ap (λ b. b || false) (eq-eqb p.0 p.0 refl)

pub other-answered : (p q : Pid) (o : Outcome) → o.answered ≡ p ∷ [] → nat_eq p.0 q.0 ≡ false → is_answered q o ≡ false
other-answered p q o one apart = ap (list_any (λ (r : Pid). nat_eq q.0 r.0)) one ∙ ap (λ b. b || false) (apart-sym p.0 q.0 apart)

pub none-once : (o : Outcome) → o.answered ≡ [] → length o.answered ≤ 1
none-once o none = subst (λ l. length l ≤ 1) (sym none) (omega arith)

pub one-once : (p : Pid) (o : Outcome) → o.answered ≡ p ∷ [] → length o.answered ≤ 1
one-once p o one = subst (λ l. length l ≤ 1) (sym one) (omega arith)

module _ (n : ℕ) (h : Pid → Heard) (x : Kernel) (inv : AsTold n h x) where
  -- an event after which the same Cancels wait
  pub still : (w : Pid → Option Call) (o : Outcome) → IsSound o.kernel.number o.kernel.made n o.kernel.table → ((q : EndId) → canceller (o.kernel.table q) ≡ canceller (x.table q))
      → ((p : Pid) (e : EndId) → ((process_of p o.kernel).phase ≡ Cancelling e → (process_of p x).phase ≡ Cancelling e) × ((process_of p x).phase ≡ Cancelling e → (process_of p o.kernel).phase ≡ Cancelling e))
      → ((p : Pid) → (process_of p o.kernel).phase ≡ Waiting → (process_of p o.kernel).reports ≡ [])
      → ((p : Pid) → Goes p (h p) (w p) o.steps (process_of p o.kernel) (is_answered p o)) → length o.answered ≤ 1 → Stepped n h w o
  still w o sound same phases rests goes once =
      record {
        inv =
            record {
              sound = sound;
              told = λ p. (goes p).stands;
              cancelling = λ p e is. (phases p e).1 (inv.cancelling p e (sym (same e) ∙ is));
              withdrawing = λ p e is. same e ∙ inv.withdrawing p e ((phases p e).0 is);
              rests = rests;
            };
        who = λ p. (goes p).who;
        once = once;
      }

  -- ---- a packet is taken

  module _ (o : Outcome) (t : Taking n x o) where
    -- where one process is answered
    run-rests : (p : Pid) (a : Answer) → IsRunBy x p a o → (q : Pid) → (process_of q o.kernel).phase ≡ Waiting → (process_of q o.kernel).reports ≡ []
    run-rests p a run q waits = by (nat_eq p.0 q.0) refl
      where
        by : (b : Bool) → nat_eq p.0 q.0 ≡ b → (process_of q o.kernel).reports ≡ []
        by true same = absurd (running-not_waiting _ (subst (λ z. (process_of z o.kernel).phase ≡ Running) (same-pid p q same) run.phase) waits)
        by false apart = let stay = run.others q apart in ap (λ (z : Process). z.reports) stay ∙ inv.rests q (sym (ap (λ (z : Process). z.phase) stay) ∙ waits)

    nobody-told : IsSilent x.table t.effect → TellsNobody x o t.effect.steps → Stepped n h (λ p. None) o
    nobody-told is tn =
        still (λ p. None) o t.sound (λ q. t.cancellers q ∙ is.cancellers q) (λ p e. (λ a. sym (tn.phases p) ∙ a, λ a. tn.phases p ∙ a))
        (λ p waits. tn.reports p (sym (tn.phases p) ∙ waits) ∙ inv.rests p (sym (tn.phases p) ∙ waits))
        (λ p. goes-still p (h p) o.steps (process_of p x) (process_of p o.kernel) (is_answered p o) (inv.told p) (tn.answers p) (tn.phases p) (none-answered p o tn.answered)
        (ap (first_in (report_in p)) tn.meant ∙ is.reports p) (λ on cancels. ap (first_in (cancel_in on)) tn.meant ∙ is.cancels on)) (none-once o tn.answered)

    report-told : IsSilent x.table t.effect → TellsReport x o t.effect.steps → Stepped n h (λ p. None) o
    report-told is tr = still (λ p. None) o t.sound (λ q. t.cancellers q ∙ is.cancellers q) phases (run-rests tr.p (answer.Reported tr.r) tr.run) goes (one-once tr.p o tr.run.answered)
      where
        phases : (p : Pid) (e : EndId) → ((process_of p o.kernel).phase ≡ Cancelling e → (process_of p x).phase ≡ Cancelling e) × ((process_of p x).phase ≡ Cancelling e → (process_of p o.kernel).phase ≡ Cancelling e)
        phases p e = by (nat_eq tr.p.0 p.0) refl
          where
            by : (b : Bool) → nat_eq tr.p.0 p.0 ≡ b → ((process_of p o.kernel).phase ≡ Cancelling e → (process_of p x).phase ≡ Cancelling e) × ((process_of p x).phase ≡ Cancelling e → (process_of p o.kernel).phase ≡ Cancelling e)
            by true same =
                subst (λ z. ((process_of z o.kernel).phase ≡ Cancelling e → (process_of z x).phase ≡ Cancelling e) × ((process_of z x).phase ≡ Cancelling e → (process_of z o.kernel).phase ≡ Cancelling e)) (same-pid tr.p p same)
                (λ a. absurd (running-not_cancelling _ e tr.run.phase a), λ a. absurd (waiting-not_cancelling _ e tr.waits a))
            by false apart = let stay = tr.run.others p apart in (λ a. sym (ap (λ (z : Process). z.phase) stay) ∙ a, λ a. ap (λ (z : Process). z.phase) stay ∙ a)

        tells : (p : Pid) → first_in (report_in p) o.steps ≡ (if nat_eq p.0 tr.p.0 then Some (answer.Reported tr.r) else None)
        tells p = ap (first_in (report_in p)) tr.meant ∙ first_in-later (report_in p) t.effect.steps (step.Report tr.p tr.r ∷ []) (is.reports p) ∙ by (nat_eq p.0 tr.p.0)
          where
            by : (b : Bool) → or_else (if b then Some (answer.Reported tr.r) else None) None ≡ (if b then Some (answer.Reported tr.r) else None)
            by true = refl
            by false = refl

        goes : (p : Pid) → Goes p (h p) None o.steps (process_of p o.kernel) (is_answered p o)
        goes p = by (nat_eq tr.p.0 p.0) refl
          where
            by : (b : Bool) → nat_eq tr.p.0 p.0 ≡ b → Goes p (h p) None o.steps (process_of p o.kernel) (is_answered p o)
            by true same =
                subst (λ z. Goes z (h z) None o.steps (process_of z o.kernel) (is_answered z o)) (same-pid tr.p p same)
                (goes-answered tr.p (h tr.p) o.steps (process_of tr.p o.kernel) (is_answered tr.p o) call.Wait (answer.Reported tr.r) (heard-waiting (h tr.p) _ (inv.told tr.p).phase tr.waits)
                (tells tr.p ∙ ap (λ b. if b then Some (answer.Reported tr.r) else None) (eq-eqb tr.p.0 tr.p.0 refl)) refl tr.run.answer tr.run.phase (one-answered tr.p o tr.run.answered))
            by false apart =
                let stay = tr.run.others p apart in
                goes-still p (h p) o.steps (process_of p x) (process_of p o.kernel) (is_answered p o) (inv.told p) (ap (λ (z : Process). z.answer) stay) (ap (λ (z : Process). z.phase) stay) (other-answered tr.p p o tr.run.answered apart)
                (tells p ∙ ap (λ b. if b then Some (answer.Reported tr.r) else None) (apart-sym tr.p.0 p.0 apart))
                (λ on cancels. ap (first_in (cancel_in on)) tr.meant ∙ first_in-later (cancel_in on) t.effect.steps (step.Report tr.p tr.r ∷ []) (is.cancels on))

    cancel-told : (is : IsAnswer x.table t.effect) → IsRunBy x is.p is.a o → o.steps ≡ t.effect.steps → Stepped n h (λ p. None) o
    cancel-told is run steps =
        record {
          inv = record { sound = t.sound; told = λ p. (goes p).stands; cancelling = cancelling; withdrawing = withdrawing; rests = run-rests is.p is.a run };
          who = λ p. (goes p).who;
          once = one-once is.p o run.answered;
        }
      where
        was : (process_of is.p x).phase ≡ Cancelling is.e
        was = inv.cancelling is.p is.e is.before

        goes : (p : Pid) → Goes p (h p) None o.steps (process_of p o.kernel) (is_answered p o)
        goes p = by (nat_eq is.p.0 p.0) refl
          where
            by : (b : Bool) → nat_eq is.p.0 p.0 ≡ b → Goes p (h p) None o.steps (process_of p o.kernel) (is_answered p o)
            by true same =
                subst (λ z. Goes z (h z) None o.steps (process_of z o.kernel) (is_answered z o)) (same-pid is.p p same)
                (goes-answered is.p (h is.p) o.steps (process_of is.p o.kernel) (is_answered is.p o) (call.Cancel is.e way.Inward) is.a (heard-cancelling (h is.p) _ is.e (inv.told is.p).phase was)
                (ap (first_in (cancel_in is.e)) steps ∙ is.cancel) is.fits run.answer run.phase (one-answered is.p o run.answered))
            by false apart =
                let stay = run.others p apart in
                goes-still p (h p) o.steps (process_of p x) (process_of p o.kernel) (is_answered p o) (inv.told p) (ap (λ (z : Process). z.answer) stay) (ap (λ (z : Process). z.phase) stay) (other-answered is.p p o run.answered apart)
                (ap (first_in (report_in p)) steps ∙ is.reports p) (λ on cancels. ap (first_in (cancel_in on)) steps ∙ is.cancels on (other_end on cancels (end_eq is.e on) refl))
              where
                other_end : (on : EndId) → h p ≡ Pending (call.Cancel on way.Inward) → (b : Bool) → end_eq is.e on ≡ b → end_eq is.e on ≡ false
                other_end on cancels false apart_ends = apart_ends
                other_end on cancels true same =
                    let e : is.e ≡ on = end_eq-same is.e on same in
                    let phase : (process_of p x).phase ≡ Cancelling on = subst (λ g. IsPhaseOf g (process_of p x).phase) cancels (inv.told p).phase in
                    let both : Some is.p ≡ Some p = sym is.before ∙ ap (λ z. canceller (x.table z)) e ∙ inv.withdrawing p on phase in
                    let who : is.p ≡ p = cc in
                    absurd (true≢false (sym (eq-eqb is.p.0 p.0 (ap (λ (z : Pid). z.0) who)) ∙ apart))

        cancelling : (p : Pid) (e : EndId) → canceller (o.kernel.table e) ≡ Some p → (process_of p o.kernel).phase ≡ Cancelling e
        cancelling p e at = by (end_eq is.e e) refl
          where
            by : (b : Bool) → end_eq is.e e ≡ b → (process_of p o.kernel).phase ≡ Cancelling e
            by true same =
                let no : None ≡ Some p = sym is.after ∙ sym (t.cancellers is.e) ∙ ap (λ z. canceller (o.kernel.table z)) (end_eq-same is.e e same) ∙ at in
                absurd cc
            by false apart = ap (λ (z : Process). z.phase) (run.others p (other (nat_eq is.p.0 p.0) refl)) ∙ before
              where
                before : (process_of p x).phase ≡ Cancelling e
                before = inv.cancelling p e (sym (t.cancellers e ∙ is.others e apart) ∙ at)

                other : (b : Bool) → nat_eq is.p.0 p.0 ≡ b → nat_eq is.p.0 p.0 ≡ false
                other false differ = differ
                other true same =
                    let e_is : is.e ≡ e = same-cancelling (process_of p x).phase is.e e (subst (λ z. (process_of z x).phase ≡ Cancelling is.e) (same-pid is.p p same) was) before in
                    absurd (true≢false (sym (subst (λ z. end_eq is.e z ≡ true) e_is (end_eq-refl is.e)) ∙ apart))

        withdrawing : (p : Pid) (e : EndId) → (process_of p o.kernel).phase ≡ Cancelling e → canceller (o.kernel.table e) ≡ Some p
        withdrawing p e at = by (nat_eq is.p.0 p.0) refl
          where
            by : (b : Bool) → nat_eq is.p.0 p.0 ≡ b → canceller (o.kernel.table e) ≡ Some p
            by true same = absurd (running-not_cancelling _ e (subst (λ z. (process_of z o.kernel).phase ≡ Running) (same-pid is.p p same) run.phase) at)
            by false apart = t.cancellers e ∙ is.others e (other (end_eq is.e e) refl) ∙ before
              where
                before : canceller (x.table e) ≡ Some p
                before = inv.withdrawing p e (sym (ap (λ (z : Process). z.phase) (run.others p apart)) ∙ at)

                other : (b : Bool) → end_eq is.e e ≡ b → end_eq is.e e ≡ false
                other false differ = differ
                other true same =
                    let both : Some is.p ≡ Some p = sym is.before ∙ ap (λ z. canceller (x.table z)) (end_eq-same is.e e same) ∙ before in
                    let who : is.p ≡ p = cc in
                    absurd (true≢false (sym (eq-eqb is.p.0 p.0 (ap (λ (z : Pid). z.0) who)) ∙ apart))

    taking-stepped : Stepped n h (λ p. None) o
    taking-stepped = by t.tells
      where
        silent : (is : IsSilent x.table t.effect) → TellsNobody x o t.effect.steps ⊎ TellsReport x o t.effect.steps → Stepped n h (λ p. None) o
        silent is (inl tn) = nobody-told is tn
        silent is (inr tr) = report-told is tr

        by : IsSilent x.table t.effect ⊎ IsAnswer x.table t.effect → Stepped n h (λ p. None) o
        by (inl is) = silent is (t.silent is)
        by (inr is) = cancel-told is (t.answer is).0 (t.answer is).1

  pub take-stepped : (from : ℕ) (q : Picture) → Stepped n h (λ p. None) (take_step x from q)
  take-stepped from q = taking-stepped (take_step x from q) (take-taking n x inv.sound inv.rests from q)
