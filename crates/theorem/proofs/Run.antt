-- The service goes with a run, event by event.
use Rattle.std.proofs.Common.{◌≡◌, ℕ, suc, ◌+◌, ◌^◌, ◌<◌, ◌≤◌, Bool, true, false, nat_eq, cond, IsTrue, List, [], ◌∷◌, ◌++◌, length, slice_index, Option, Some, None, refl, sym, ap, subst, ◌∙◌, arith}
use Rattle.charlotte_calls.specs.Setting.{IsValid}
use Rattle.charlotte_calls.specs.declared.calls.Answer.{Answer}
use Rattle.charlotte_calls.specs.declared.calls.Answer.TheVariants as answer
use Rattle.charlotte_calls.specs.declared.calls.Call.{Call}
use Rattle.charlotte_calls.specs.declared.calls.Call.TheVariants as call
use Rattle.charlotte_calls.specs.declared.calls.Cause.{Cause}
use Rattle.charlotte_calls.specs.declared.calls.Report.{Report}
use Rattle.charlotte_calls.specs.declared.calls.ServiceStep.{ServiceStep}
use Rattle.charlotte_calls.specs.declared.calls.ServiceStep.TheVariants as step
use Rattle.charlotte_calls.specs.declared.names.EndId.{EndId}
use Rattle.charlotte_calls.specs.declared.names.Pid.{Pid}
use Rattle.charlotte_calls.specs.declared.names.Way.TheVariants as way
use Rattle.charlotte_packets.specs.declared.picture.Picture.{Picture}
use Rattle.charlotte_calls.specs.declared.setting.Setting.{Setting}
use Rattle.kernel_step.specs.Calls.{refusal, IsCallWith}
use Rattle.kernel_step.specs.Kernel.{Kernel, Outcome, Process as KernelProcess, begins, call_step, closes, decides, granted, has_report, join_answers, join_reports, next_stamp, performs, process_of, refuses, without_answer}
use Rattle.kernel_step.specs.Progress.{means}
use Rattle.kernel_step.specs.declared.phase.Phase.TheVariants as kernel_phase
use Rattle.kernel_world.specs.Run.{IsAllowed, IsCallOf, AreAllowed, IsRun}
use Rattle.kernel_world.specs.World.{World, Event, Calls, Takes, happens, start}
use Rattle.service_step.specs.Run.{IsRunFrom, state_after, start_state}
use Rattle.service_step.specs.Causes.{IsRefusedFor}
use Rattle.service_step.specs.Steps.{IsServiceStep, runs}
use Rattle.service_step.specs.declared.state.Phase.TheVariants as phase
use Rattle.end_table.specs.Owned.{AreEndsOf}
use Rattle.service_step.specs.State.{State}
use Rattle.service_runs.proofs.Lawful.{runs_are_lawful}
use Rattle.service_lawful.proofs.Turned.{turned}
use Rattle.theorem.proofs.Takings.{takes-goes}
use Rattle.theorem_call_end.proofs.Makes.{make-goes}
use Rattle.theorem_call_end.proofs.Receives.{receive-goes}
use Rattle.theorem_call_cancel.proofs.ReceiveCancels.{cancel-receive-goes}
use Rattle.theorem_call_cancel.proofs.SendCancels.{cancel-send-goes}
use Rattle.theorem_call_end.proofs.Destroys.{destroy-goes}
use Rattle.theorem_call_end.proofs.Exits.{exit-goes}
use Rattle.theorem_meaning.proofs.Goes.{Goes}
use Rattle.theorem_call_cancel.proofs.Calm.{IsAnswered, answered-invariant}
use Rattle.theorem_call_cancel.proofs.Refused.{IsCaller, caller-process, caller-runs, refused-for, wait-granted}
use Rattle.theorem_call_cancel.proofs.Reports.{reports-goes, telling-is}
use Rattle.theorem.proofs.Start.{starts-well}
use Rattle.theorem_call_cancel.proofs.Version.{run-version}
use Rattle.theorem_take_parcel_unmet.proofs.Sends.{send-goes}
use Rattle.theorem_call_cancel.proofs.Waits.{IsWaiting, wait-is, waits-invariant}
use Rattle.theorem_meaning.specs.Invariant.{Invariant}
use Rattle.theorem.specs.Law.{GoesWithEach, joined, IsServedLawfully}
use Rattle.theorem_meaning.specs.StandsFor.{home_of, service_phase}

-- ---- calls that only answer their process

-- a process after its standing answer was taken away and another came to stand
twice : (b c : Bool) (own other : KernelProcess) (a : Answer)
    → cond b (record (cond c (record own { answer = None }) own) { phase = kernel_phase.Running; answer = Some a }) (cond b (record own { answer = None }) other)
    ≡ cond b (record { phase = kernel_phase.Running; reports = own.reports; answer = Some a }) other
twice true true own other a = refl
twice true false own other a = refl
twice false true own other a = refl
twice false false own other a = refl

-- a Print answers its process, and no more
print-is : (k : Kernel) (p : Pid) (mine : List EndId) (bytes : List ℕ) → IsAnswered k p (call_step (without_answer p k) p mine (call.Print bytes))
unfolding call_step performs closes join_reports join_answers
print-is k p mine bytes =
    record {
      calm = record { number = refl; kernels = refl; version = refl; table = refl; made = refl };
      packets = refl;
      answer = answer.Ok;
      process = λ q. twice (nat_eq p.0 q) (nat_eq p.0 p.0) (k.process p.0) (k.process q) answer.Ok;
    }

print-steps : (k : Kernel) (p : Pid) (mine : List EndId) (bytes : List ℕ) → (call_step (without_answer p k) p mine (call.Print bytes)).steps ≡ []
unfolding call_step performs closes join_reports join_answers
print-steps k p mine bytes = refl

-- so does a call that is refused
refuses-is : (k : Kernel) (p : Pid) (c : Call) (cause : Cause) (stamp : ℕ) → IsAnswered k p (refuses p (without_answer p k) c cause (begins (without_answer p k) stamp))
unfolding closes join_reports join_answers means
refuses-is k p c cause stamp =
    record {
      calm = record { number = refl; kernels = refl; version = refl; table = refl; made = refl };
      packets = refl;
      answer = answer.Refused cause;
      process = λ q. twice (nat_eq p.0 q) (nat_eq p.0 p.0) (k.process p.0) (k.process q) (answer.Refused cause);
    }

refuses-steps : (k : Kernel) (p : Pid) (c : Call) (cause : Cause) (stamp : ℕ) → (refuses p (without_answer p k) c cause (begins (without_answer p k) stamp)).steps ≡ step.Refuse p c cause ∷ []
unfolding closes join_reports join_answers means
refuses-steps k p c cause stamp = refl

same-reports : (k : Kernel) (p : Pid) → has_report (process_of p (without_answer p k)) ≡ has_report (process_of p k)
same-reports k p = by (nat_eq p.0 p.0)
  where
    by : (b : Bool) → has_report (cond b (record (k.process p.0) { answer = None }) (k.process p.0)) ≡ has_report (k.process p.0)
    by true = refl
    by false = refl

-- what a call does that is refused
refused-is : (k : Kernel) (p : Pid) (mine : List EndId) (c : Call) (cause : Cause) → refusal p k.table k.made mine (has_report (process_of p k)) c ≡ Some cause
    → call_step (without_answer p k) p mine c ≡ refuses p (without_answer p k) c cause (begins (without_answer p k) (next_stamp k.stamp))
unfolding call_step
refused-is k p mine c cause is =
    ap (λ r. decides p (without_answer p k) mine c r (begins (without_answer p k) (next_stamp k.stamp))) (ap (λ b. refusal p k.table k.made mine b c) (same-reports k p) ∙ is)

module _ (i : ℕ) (w : World) (s : State) (k : ℕ) (p : Pid) (mine : List EndId) (is : Invariant i w s) (running : ((w.kernel k).process p.0).phase ≡ kernel_phase.Running) where
  goes-print : (bytes : List ℕ) → Goes i w s (Calls k p (call.Print bytes) mine)
  goes-print bytes =
      record {
        part = [];
        steps = sym (print-steps (w.kernel k) p mine bytes);
        run = tt;
        after = answered-invariant i w s k p (call.Print bytes) mine is (print-is (w.kernel k) p mine bytes) running;
        homes = refl;
      }

  goes-refused : (c : Call) (cause : Cause) → refusal p (w.kernel k).table (w.kernel k).made mine (has_report (process_of p (w.kernel k))) c ≡ Some cause
      → IsTrue (runs s p) → IsRefusedFor s p c cause → Goes i w s (Calls k p c mine)
  goes-refused c cause refused runs_is for =
      record {
        part = (step.Refuse p c cause, s) ∷ [];
        steps = sym (ap (λ (o : Outcome). o.steps) did ∙ refuses-steps (w.kernel k) p c cause (next_stamp (w.kernel k).stamp));
        run = (record { allowed = (runs_is, for); after = refl }, tt);
        after = answered-invariant i w s k p c mine is (subst (IsAnswered (w.kernel k) p) (sym did) (refuses-is (w.kernel k) p c cause (next_stamp (w.kernel k).stamp))) running;
        homes = refl;
      }
    where
      did : call_step (without_answer p (w.kernel k)) p mine c ≡ refuses p (without_answer p (w.kernel k)) c cause (begins (without_answer p (w.kernel k)) (next_stamp (w.kernel k).stamp))
      did = refused-is (w.kernel k) p mine c cause refused

  -- a Wait that its kernel does not refuse is allowed in the service
  wait-step : IsCaller w s p k mine → AreEndsOf p (w.kernel k).table mine → refusal p (w.kernel k).table (w.kernel k).made mine (has_report (process_of p (w.kernel k))) call.Wait ≡ None → IsServiceStep s (step.Wait p) (turned s p phase.Waiting)
  wait-step calls ends granted = record { allowed = (caller-runs w s p k mine is.stands calls, wait-granted i w s p k mine is calls ends granted); after = refl }

  ran : IsCaller w s p k mine → (s.process p.0).phase ≡ phase.Running
  ran calls = (caller-process w s p k mine is.stands calls).phase ∙ ap service_phase calls.running

  goes-wait : IsCaller w s p k mine → AreEndsOf p (w.kernel k).table mine → refusal p (w.kernel k).table (w.kernel k).made mine (has_report (process_of p (w.kernel k))) call.Wait ≡ None → (process_of p (w.kernel k)).reports ≡ []
      → Goes i w s (Calls k p call.Wait mine)
  goes-wait calls ends granted none =
      let does : IsWaiting (w.kernel k) p (call_step (without_answer p (w.kernel k)) p mine call.Wait) = wait-is (w.kernel k) p mine granted none in
      record {
        part = (step.Wait p, turned s p phase.Waiting) ∷ [];
        steps = sym does.steps;
        run = (wait-step calls ends granted, tt);
        after = waits-invariant i w s k p mine is does calls.below calls.at (ran calls) none;
        homes = refl;
      }

  goes-report : IsCaller w s p k mine → AreEndsOf p (w.kernel k).table mine → refusal p (w.kernel k).table (w.kernel k).made mine (has_report (process_of p (w.kernel k))) call.Wait ≡ None
      → (r : Report) (rs : List Report) → (process_of p (w.kernel k)).reports ≡ r ∷ rs → Goes i w s (Calls k p call.Wait mine)
  goes-report calls ends granted r rs front =
      reports-goes i w s k p mine r rs is (telling-is (w.kernel k) p mine r rs granted front) calls.below calls.at (ran calls) front (wait-step calls ends granted)

-- ---- all events of a run

run-append : (s : State) (xs ys : List (ServiceStep × State)) → IsRunFrom s xs → IsRunFrom (state_after s xs) ys → IsRunFrom s (xs ++ ys)
run-append s [] ys first rest = rest
run-append s (x ∷ xs) ys first rest = (first.0, run-append x.1 xs ys first.1 rest)

-- the service goes with the rest of a run
record GoesOn (w : World) (s : State) (es : List Event) : Type 0 where
  parts : List (List (ServiceStep × State))
  each : GoesWithEach w s es parts
  run : IsRunFrom s (joined parts)

-- the service goes with an event
pub goes-event : (g : Setting) (i : ℕ) (w : World) (s : State) (e : Event) → Invariant i w s → s.homes ≡ g.homes → s.version ≡ g.version → i < 2 ^ 31 → IsAllowed g w e → Goes i w s e
goes-event g i w s (Takes k from) is homes version few allowed = by (w.packets from k) refl
  where
    by : (qs : List Picture) → w.packets from k ≡ qs → Goes i w s (Takes k from)
    by [] none = absurd (allowed none)
    by (q ∷ others) there = takes-goes i w s is few k from q.stamp others q.what there
goes-event g i w s (Calls k p c mine) is homes version few allowed = by c (refusal p (w.kernel k).table (w.kernel k).made mine (has_report (process_of p (w.kernel k))) c) refl
  where
    below : p.0 < length s.homes
    below = subst (λ hs. p.0 < length hs) (sym homes) allowed.0

    at : home_of s p ≡ k
    at = ap (λ hs. slice_index hs p.0) homes ∙ allowed.1

    running : ((w.kernel k).process p.0).phase ≡ kernel_phase.Running
    running = allowed.2

    calls : IsCaller w s p k mine
    calls = record { below = below; at = at; running = running }

    refused : (c : Call) (cause : Cause) → IsCallWith p (w.kernel k).table mine c → refusal p (w.kernel k).table (w.kernel k).made mine (has_report (process_of p (w.kernel k))) c ≡ Some cause → Goes i w s (Calls k p c mine)
    refused c cause with_mine is_refused = goes-refused i w s k p mine is running c cause is_refused (caller-runs w s p k mine is.stands calls) (refused-for i w s p k mine is calls c cause with_mine is_refused)

    by : (d : Call) (r : Option Cause) → refusal p (w.kernel k).table (w.kernel k).made mine (has_report (process_of p (w.kernel k))) c ≡ r → Goes i w s (Calls k p c mine)
    by d (Some cause) is_refused = refused c cause allowed.4 is_refused
    by d None is_granted = granted_is c allowed.3 allowed.4 is_granted
      where
        granted_is : (c : Call) → IsCallOf g.version c → IsCallWith p (w.kernel k).table mine c → refusal p (w.kernel k).table (w.kernel k).made mine (has_report (process_of p (w.kernel k))) c ≡ None → Goes i w s (Calls k p c mine)
        granted_is (call.Print bytes) fits ends granted = goes-print i w s k p mine is running bytes
        granted_is call.Make fits ends granted = make-goes g i w s k p mine is homes (allowed.0, allowed.1, allowed.2, fits, ends) granted
        granted_is (call.Destroy on) fits ends granted = destroy-goes g i w s k p on mine is homes (allowed.0, allowed.1, allowed.2, fits, ends) granted
        granted_is (call.Send on bytes xs) fits ends granted = send-goes g i w s k p on bytes xs mine is homes version few (allowed.0, allowed.1, allowed.2, fits, ends) granted
        granted_is (call.Receive on) fits ends granted = receive-goes g i w s k p on mine is homes (allowed.0, allowed.1, allowed.2, fits, ends) granted
        granted_is (call.Cancel on way.Outward) fits ends granted = cancel-send-goes g i w s k p on mine is homes (allowed.0, allowed.1, allowed.2, fits, ends) granted
        granted_is (call.Cancel on way.Inward) fits ends granted = cancel-receive-goes g i w s k p on mine is homes (allowed.0, allowed.1, allowed.2, fits, ends) granted
        granted_is call.Wait fits ends granted = waited (process_of p (w.kernel k)).reports refl
          where
            waited : (rs : List Report) → (process_of p (w.kernel k)).reports ≡ rs → Goes i w s (Calls k p call.Wait mine)
            waited [] none = goes-wait i w s k p mine is running calls ends granted none
            waited (r ∷ rs) front = goes-report i w s k p mine is running calls ends granted r rs front
        granted_is call.Exit fits ends granted = exit-goes g i w s k p mine is homes (allowed.0, allowed.1, allowed.2, fits, ends) granted

-- where events are left, fewer were than there may be
fewer : (i l most : ℕ) → i + suc l ≤ most → i < most
fewer i l most few = omega (arith, few)

one-on : (i l most : ℕ) → i + suc l ≤ most → (i + 1) + l ≤ most
one-on i l most few = omega (arith, few)

from-none : (l most : ℕ) → l ≤ most → 0 + l ≤ most
from-none l most few = omega (arith, few)

goes-on : (g : Setting) (i : ℕ) (w : World) (s : State) (es : List Event) → Invariant i w s → s.homes ≡ g.homes → s.version ≡ g.version → i + length es ≤ 2 ^ 31 → AreAllowed g w es → GoesOn w s es
goes-on g i w s [] is homes version few allowed = record { parts = []; each = tt; run = tt }
goes-on g i w s (e ∷ es) is homes version few allowed =
    let first = goes-event g i w s e is homes version (fewer i (length es) (2 ^ 31) few) allowed.0 in
    let rest = goes-on g (i + 1) (happens w e) (state_after s first.part) es first.after (first.homes ∙ homes) (run-version s first.part first.run ∙ version) (one-on i (length es) (2 ^ 31) few) allowed.1 in
    record {
      parts = first.part ∷ rest.parts;
      each = (record { steps = first.steps; run = first.run; stands = first.after.stands }, rest.each);
      run = run-append s first.part (joined rest.parts) first.run rest.run;
    }

-- the service goes lawfully with each run of a valid setting
pub run-is-lawful : (g : Setting) (es : List Event) → IsValid g → IsRun g es → IsServedLawfully g es
run-is-lawful g es valid run =
    let on = goes-on g 0 (start g) (start_state g) es (starts-well g valid) refl refl (from-none (length es) (2 ^ 31) run.few) run.allowed in
    record {
      served = record { parts = on.parts; begins = (starts-well g valid).stands; each = on.each; run = on.run };
      lawful = runs_are_lawful g (joined on.parts) valid on.run;
    }
