-- A message that is matched is so with the receive of its opposite: at the start, and after each step.
use Rattle.std.proofs.Common.{◌≡◌, ℕ, false, true≢false, inl, inr, [], ◌∷◌, sym, ap, subst, ◌∙◌}
use Rattle.charlotte_calls.specs.Names.{opposite}
use Rattle.charlotte_calls.specs.Setting.{IsValid}
use Rattle.charlotte_calls.specs.declared.calls.ServiceStep.{ServiceStep}
use Rattle.charlotte_calls.specs.declared.names.EndId.{EndId}
use Rattle.charlotte_calls.specs.declared.setting.Setting.{Setting}
use Rattle.service_change.proofs.Change.{idle-parts}
use Rattle.service_change.proofs.EndEq.{opposite-opposite}
use Rattle.service_consistent.proofs.Starts.{start-idle}
use Rattle.service_custody.proofs.Turns.{Turn, frees, gets, marked, match-its, meets, starts, stays, tells, turn, withdraws}
use Rattle.service_custody.specs.Coming.{AreMatched}
use Rattle.service_lawful.specs.Consistent.{IsConsistent}
use Rattle.service_runs.proofs.Moves.{Move, completed, matched, number-its, over, sent, still, taken}
use Rattle.service_runs.proofs.MovesOfSteps.{move}
use Rattle.service_step.specs.Lawful.{take_number}
use Rattle.service_step.specs.Run.{start_state}
use Rattle.service_step.specs.State.{State}
use Rattle.service_step.specs.Steps.{IsServiceStep}
use Rattle.service_step.specs.declared.state.Inward.{Inward}
use Rattle.service_step.specs.declared.state.Inward.TheVariants as inward
use Rattle.service_step.specs.declared.state.Message.{Message}
use Rattle.service_step.specs.declared.state.Outward.{Outward}
use Rattle.service_step.specs.declared.state.Outward.TheVariants as outward
use Rattle.service_streams.proofs.Places.{IsGone, gone-stays}

-- a send that is matched is not one of these
matched-idle : (o : Outward) (m : Message) → o ≡ outward.Idle → o ≡ outward.Matched m → ⊥
matched-idle o m a b = cc

matched-waits : (o : Outward) (m n : Message) → o ≡ outward.Waiting n → o ≡ outward.Matched m → ⊥
matched-waits o m n a b = cc

matched-taken : (o : Outward) (m : Message) → o ≡ outward.Taken → o ≡ outward.Matched m → ⊥
matched-taken o m a b = cc

matched-over : (o : Outward) (m : Message) → o ≡ outward.Unreported → o ≡ outward.Matched m → ⊥
matched-over o m a b = cc

-- nor a receive
idle-not : (i : Inward) (n : ℕ) → i ≡ inward.Matched n → i ≡ inward.Idle → ⊥
idle-not i n a b = cc

posted-not : (i : Inward) (n : ℕ) → i ≡ inward.Matched n → i ≡ inward.Posted → ⊥
posted-not i n a b = cc

withdrawn-not : (i : Inward) (n : ℕ) → i ≡ inward.Matched n → i ≡ inward.Withdrawn → ⊥
withdrawn-not i n a b = cc

unreported-not : (i : Inward) (n : ℕ) → i ≡ inward.Matched n → i ≡ inward.Unreported → ⊥
unreported-not i n a b = cc

pub start-matched : (s : Setting) → IsValid s → AreMatched (start_state s)
start-matched s valid f m is lives not = absurd (matched-idle ((start_state s).ends f).outward m (idle-parts ((start_state s).ends f) (start-idle s valid f)).0 is)

-- the mark of an end does not go
pub noticed-before : (s : State) (made : ServiceStep) (t : State) (o : EndId) → Turn s made t o → (t.ends o).noticed ≡ false → (s.ends o).noticed ≡ false
noticed-before s made t o (stays same) not = sym (ap (λ z. z.noticed) same) ∙ not
noticed-before s made t o (starts its was is) not = sym (ap (λ z. z.noticed) is) ∙ not
noticed-before s made t o (meets n its was is same) not = sym same ∙ not
noticed-before s made t o (gets n i p late its was is same) not = sym same ∙ not
noticed-before s made t o (withdraws its was is) not = sym (ap (λ z. z.noticed) is) ∙ not
noticed-before s made t o (frees its was is) not = sym (ap (λ z. z.noticed) is) ∙ not
noticed-before s made t o (tells p r its on received was is) not = sym (ap (λ z. z.noticed) is) ∙ not
noticed-before s made t o (marked dead its noticed is) not = absurd (true≢false (sym noticed ∙ not))

module _ (s : State) (made : ServiceStep) (t : State) (k : IsConsistent s) (a : AreMatched s) (is : IsServiceStep s made t) (f : EndId) (m : Message) (now : (t.ends f).outward ≡ outward.Matched m)
    (lives : IsGone t.ends (opposite f) → ⊥) (not : (t.ends (opposite f)).noticed ≡ false) where
  -- it was so before
  stays-matched : (s.ends f).outward ≡ outward.Matched m → take_number f (made, t) ≡ [] → Turn s made t (opposite f) → (t.ends (opposite f)).inward ≡ inward.Matched (s.ends f).sent
  stays-matched before none turned = by turned
    where
      was : (s.ends (opposite f)).inward ≡ inward.Matched (s.ends f).sent
      was = a f m before (λ gone. lives (gone-stays s made t (opposite f) k is gone)) (noticed-before s made t (opposite f) turned not)

      one-more : (n : ℕ) → n ∷ [] ≡ [] → ⊥
      one-more n same = cc

      by : Turn s made t (opposite f) → (t.ends (opposite f)).inward ≡ inward.Matched (s.ends f).sent
      by (stays same) = ap (λ z. z.inward) same ∙ was
      by (starts its idle is) = absurd (idle-not _ _ was idle)
      by (meets n its posted is same) = absurd (posted-not _ _ was posted)
      by (gets n i p late its before is same) = absurd (one-more n (sym (ap (λ z. take_number f (z, t)) its ∙ number-its f (opposite (opposite f)) n (sym (opposite-opposite f))) ∙ none))
      by (withdraws its posted is) = absurd (posted-not _ _ was posted)
      by (frees its withdrawn is) = absurd (withdrawn-not _ _ was withdrawn)
      by (tells p r its on received before is) = absurd (unreported-not _ _ was before)
      by (marked dead its noticed is) = absurd (true≢false (sym noticed ∙ not))

  pub next-matched : (t.ends (opposite f)).inward ≡ inward.Matched (t.ends f).sent
  next-matched = by (move s made t f k is)
    where
      by : Move s made t f → (t.ends (opposite f)).inward ≡ inward.Matched (t.ends f).sent
      by (still out number sooner ns) = stays-matched (sym out ∙ now) ns.takes (turn s t (opposite f) k made is) ∙ ap inward.Matched (sym number)
      by (sent n was out number ns) = absurd (matched-waits _ m n out now)
      by (matched n was out number its ns) = ap (λ z. z.inward) (match-its s f (s.ends f).sent t k (subst (λ z. IsServiceStep s z t) its is)).0 ∙ ap inward.Matched (sym number)
      by (taken n p late was out number its owned ns) = absurd (matched-taken _ m out now)
      by (completed was out number ns) = absurd (matched-over _ m out now)
      by (over (inl idle) number ns) = absurd (matched-idle _ m idle now)
      by (over (inr both) number ns) = absurd (matched-over _ m both.0 now)

pub matched-after : (s : State) (made : ServiceStep) (t : State) → IsConsistent s → AreMatched s → IsServiceStep s made t → AreMatched t
matched-after s made t k a is f m now lives not = next-matched s made t k a is f m now lives not
