-- When a receive starts, and when it is over.
use Rattle.std.proofs.Common.{◌≡◌, ℕ, Bool, true, false, ◌&&◌, ◌⊎◌, inl, inr, if◌then◌else◌, Some, None, refl, sym, ap, subst, ◌∙◌}
use Rattle.charlotte_calls.specs.Names.{opposite}
use Rattle.charlotte_calls.specs.declared.calls.Answer.TheVariants as answer
use Rattle.charlotte_calls.specs.declared.calls.Cause.{Cause}
use Rattle.charlotte_calls.specs.declared.calls.Cause.TheVariants as cause
use Rattle.charlotte_calls.specs.declared.calls.ServiceStep.{ServiceStep}
use Rattle.charlotte_calls.specs.declared.calls.ServiceStep.TheVariants as step
use Rattle.charlotte_calls.specs.declared.names.EndId.{EndId}
use Rattle.service_change.proofs.Change.{none-some}
use Rattle.service_change.proofs.Counts.{and-true}
use Rattle.service_change.proofs.EndEq.{end_eq-same, puts-at}
use Rattle.service_change.proofs.Facts.{withdrawn-Withdrawn}
use Rattle.service_custody.proofs.Turns.{Turn, busy-is, frees, gets, marked, meets, posted-busy, report-its, starts, stays, tells, turn, withdrawn-busy, withdraws}
use Rattle.service_custody.specs.Deaths.{AreReceives}
use Rattle.service_lawful.specs.Consistent.{IsConsistent}
use Rattle.service_step.specs.Ends.{end_eq, noticed_inward, turns_inward}
use Rattle.service_step.specs.State.{State}
use Rattle.service_step.specs.Steps.{IsServiceStep}
use Rattle.service_step.specs.declared.state.Inward.{Inward}
use Rattle.service_step.specs.declared.state.Inward.TheVariants as inward
use Rattle.told_answers.specs.Told.{cancel_in}

-- an answer that is a refusal, or none, is not Ok
not-ok : (b : Bool) (c : Cause) → (if b then Some (answer.Refused c) else None) ≡ Some answer.Ok → ⊥
not-ok true c is = cc
not-ok false c is = none-some None answer.Ok refl is

-- a receive that is answered Ok to its Cancel is idle
pub cancelled-idle : (s : State) (made : ServiceStep) (t : State) (x : EndId) → IsConsistent s → IsServiceStep s made t → cancel_in x made ≡ Some answer.Ok → (t.ends x).inward ≡ inward.Idle
unfolding turns_inward
cancelled-idle s (step.Free e) t x k is told = by (end_eq x e) refl told
  where
    was : (s.ends e).inward ≡ inward.Withdrawn
    was = withdrawn-Withdrawn (s.ends e).inward (and-true _ _ is.allowed).0

    by : (b : Bool) → end_eq x e ≡ b → (if b then Some answer.Ok else None) ≡ Some answer.Ok → (t.ends x).inward ≡ inward.Idle
    by true same told =
        subst (λ z. (t.ends z).inward ≡ inward.Idle) (sym (end_eq-same x e same))
        (ap (λ z. (z.ends e).inward) is.after ∙ ap (λ z. z.inward) (puts-at e (record (s.ends e) { inward = inward.Idle }) s.ends (busy-is s e inward.Withdrawn k was withdrawn-busy)))
    by false apart told = absurd (none-some None answer.Ok refl told)
cancelled-idle s (step.Take e n p late) t x k is told = absurd (not-ok (end_eq (opposite x) e && late) cause.Late told)
cancelled-idle s (step.Notice e dead) t x k is told = absurd (not-ok (end_eq x e && dead) cause.Dead told)
cancelled-idle s (step.Back e n dead) t x k is told = absurd (not-ok (end_eq x e && dead) cause.Dead told)
cancelled-idle s _ t x k is told = absurd (none-some None answer.Ok refl told)

pub receives-told : (s : State) (made : ServiceStep) (t : State) → IsConsistent s → IsServiceStep s made t → AreReceives s made t
receives-told s made t k is =
    record {
      starts = λ x busy. started x busy (turn s t x k made is);
      reported = λ p r its received. ap (λ z. z.inward) (report-its s p r t k (subst (λ z. IsServiceStep s z t) its is) received).0;
      cancelled = λ x told. cancelled-idle s made t x k is told;
    }
  where
    differ : (i j : Inward) → i ≡ j → i ≡ inward.Idle → (j ≡ inward.Idle → ⊥) → ⊥
    differ i j same idle not = not (sym same ∙ idle)

    matched-busy : (n : ℕ) → inward.Matched n ≡ inward.Idle → ⊥
    matched-busy n is = cc

    started : (x : EndId) → ((t.ends x).inward ≡ inward.Idle → ⊥) → Turn s made t x → ((s.ends x).inward ≡ inward.Idle → ⊥) ⊎ (made ≡ step.Receive x)
    started x busy (stays same) = inl (λ idle. busy (ap (λ z. z.inward) same ∙ idle))
    started x busy (starts its was now) = inr its
    started x busy (meets n its was now same) = inl (λ idle. differ _ _ was idle posted-busy)
    started x busy (gets n i p late its was now same) = inl (λ idle. differ _ _ was idle (matched-busy i))
    started x busy (withdraws its was now) = inl (λ idle. differ _ _ was idle posted-busy)
    started x busy (frees its was now) = absurd (busy (ap (λ z. z.inward) now))
    started x busy (tells p r its on received was now) = absurd (busy (ap (λ z. z.inward) now))
    started x busy (marked dead its noticed now) = inl (λ idle. busy (now ∙ ap noticed_inward idle))
