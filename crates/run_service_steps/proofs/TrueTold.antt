-- What a process was told is true after a step too.
use Rattle.std.proofs.Common.{◌≡◌, ◌⊎◌, inl, inr, ℕ, false, true≢false, Option, Some, None, refl, sym, ap, subst, ◌∙◌}
use Rattle.charlotte_calls.specs.Names.{opposite}
use Rattle.charlotte_calls.specs.declared.calls.Answer.{Answer}
use Rattle.charlotte_calls.specs.declared.calls.Answer.TheVariants as answer
use Rattle.charlotte_calls.specs.declared.calls.Call.{Call}
use Rattle.charlotte_calls.specs.declared.calls.Call.TheVariants as call
use Rattle.charlotte_calls.specs.declared.calls.Cause.{Cause}
use Rattle.charlotte_calls.specs.declared.calls.Cause.TheVariants as cause
use Rattle.charlotte_calls.specs.declared.calls.Report.{Report}
use Rattle.charlotte_calls.specs.declared.calls.ServiceStep.{ServiceStep}
use Rattle.charlotte_calls.specs.declared.calls.ServiceStep.TheVariants as step
use Rattle.charlotte_calls.specs.declared.names.EndId.{EndId}
use Rattle.charlotte_calls.specs.declared.names.Way.{Way}
use Rattle.charlotte_calls.specs.declared.names.Way.TheVariants as way
use Rattle.service_lawful.specs.Consistent.{IsConsistent, is_over}
use Rattle.service_step.specs.Ends.{unmade}
use Rattle.service_step.specs.State.{State as Service}
use Rattle.service_step.specs.Steps.{IsServiceStep}
use Rattle.service_step.specs.declared.state.Inward.{Inward}
use Rattle.service_step.specs.declared.state.Inward.TheVariants as inward
use Rattle.service_step.specs.declared.state.Place.{Place}
use Rattle.service_step.specs.declared.state.Place.TheVariants as place
use Rattle.service_streams.proofs.Places.{gone-stays}
use Rattle.run_invariant.specs.Deaths.{AreDeathsTrue, AreReceives, IsGone, IsOn}
use Rattle.run_invariant.specs.Deaths as deaths
use Rattle.run_invariant.specs.Moves.{Moves}
use Rattle.run_invariant.specs.Moves as moves
use Rattle.run_invariant.specs.Told.{cancel_in}
use Rattle.run_invariant.specs.Acted.{process}
use Rattle.run_invariant.specs.Invariant.{IsReportTrue, IsToldTrue}
use Rattle.run_invariant.specs.Owners.{Asks, Over, Pends, Runs, Status, Told}
use Rattle.run_service_steps.proofs.Heard.{Hears, IsCancelAnswer}
use Rattle.run_service_steps.proofs.Heard as heard
use Rattle.run_service_steps.proofs.StepFacts.{its-own, stood}

-- the end of a call
abbrev on_of : Call → Option EndId
on_of (call.Send x bytes xs) = Some x
on_of (call.Receive x) = Some x
on_of (call.Cancel x w) = Some x
on_of _ = None

is-on : (x : EndId) (c : Call) → IsOn x c → on_of c ≡ Some x
is-on x _ (deaths.Sends bytes xs) = refl
is-on x _ (deaths.Receives) = refl
is-on x _ (deaths.Cancels w) = refl

same-end : (x y : EndId) → ◌≡◌ {A = Option EndId} (Some x) (Some y) → x ≡ y
same-end x y e = cc

pub on-cancel : (x on : EndId) (w : Way) → IsOn x (call.Cancel on w) → on ≡ x
on-cancel x on w is = same-end on x (is-on x (call.Cancel on w) is)

idle-or : (y : Inward) → (y ≡ inward.Idle) ⊎ (y ≡ inward.Idle → ⊥)
idle-or inward.Idle = inl refl
idle-or inward.Posted = inr (λ e. cc)
idle-or inward.Withdrawn = inr (λ e. cc)
idle-or (inward.Matched n) = inr (λ e. cc)
idle-or inward.Unreported = inr (λ e. cc)

module _ (s : Service) (made : ServiceStep) (t : Service) (k : IsConsistent s) (is : IsServiceStep s made t) (receives : AreReceives s made t) (i : ℕ) where
  -- unless the step starts a receive on this end, or sends it
  abbrev Unasked : EndId → Type 0
  Unasked x = made ≡ step.Receive x → ⊥

  abbrev Unsent : EndId → Type 0
  Unsent x = (e : EndId) (n : ℕ) → (t.ends x).place ≡ place.InMessage e n → (s.ends x).place ≡ place.Owned (process i) → ⊥

  still-idle : (x : EndId) → Unasked x → (s.ends x).inward ≡ inward.Idle → (t.ends x).inward ≡ inward.Idle
  still-idle x unasked idle = elim (idle-or (t.ends x).inward) [ inl is-idle ↦ is-idle | inr busy ↦ absurd (by (receives.starts x busy)) ]
    where
      by : ((s.ends x).inward ≡ inward.Idle → ⊥) ⊎ (made ≡ step.Receive x) → ⊥
      by (inl was) = was idle
      by (inr so) = unasked so

  still-gone : (x : EndId) → IsGone s x → IsGone t x
  still-gone x gone = gone-stays s made t x k is gone

  either-gone : (x y : EndId) → IsGone s x ⊎ IsGone s y → IsGone t x ⊎ IsGone t y
  either-gone x y (inl gone) = inl (still-gone x gone)
  either-gone x y (inr gone) = inr (still-gone y gone)

  module _ (moved : (x : EndId) → Moves s made t x) where
    still-own : (x : EndId) → Unsent x → (s.ends x).place ≡ place.Owned (process i) → IsGone t x ⊎ ((t.ends x).place ≡ place.Owned (process i))
    still-own x unsent own = by (moved x)
      where
        by : Moves s made t x → IsGone t x ⊎ ((t.ends x).place ≡ place.Owned (process i))
        by (moves.Stays same brought) = inr (same ∙ own)
        by (moves.Makes p a b made-so its was to same) = let differ : place.Unmade ≡ place.Owned (process i) = sym was ∙ own in absurd (cc)
        by (moves.Leaves p e n bytes xs made-so among on was to same) = absurd (unsent e n to own)
        by (moves.Lands p e n was to more none) = let differ : place.InMessage e n ≡ place.Owned (process i) = sym was ∙ own in absurd (cc)
        by (moves.Ends gone how less) = inl gone

    -- what was told before
    module _ (unasked : (x : EndId) → IsGone s x ⊎ ((s.ends x).place ≡ place.Owned (process i)) → Unasked x) (unsent : (x : EndId) → Unsent x) where
      report-stays : (r : Report) → IsReportTrue s i r → IsReportTrue t i r
      report-stays r so =
          record {
            death = λ dead. either-gone r.on (opposite r.on) (so.death dead);
            over = λ in_way. still-idle r.on (unasked r.on so.own) (so.over in_way);
            own = elim so.own as (λ z. IsGone t r.on ⊎ ((t.ends r.on).place ≡ place.Owned (process i))) [ inl gone ↦ inl (still-gone r.on gone) | inr own ↦ still-own r.on (unsent r.on) own ];
          }

      refused-stays : (c : Call) (why : Cause) → IsToldTrue s i (Told c (answer.Refused why)) → IsToldTrue t i (Told c (answer.Refused why))
      refused-stays c cause.Dead so = λ x on. either-gone x (opposite x) (so x on)
      refused-stays c _ so = tt

      -- a Cancel that was answered Ok is of an end of the process
      abbrev Cancelled : Status → Type 0
      Cancelled st = (x : EndId) (w : Way) → st ≡ Told (call.Cancel x w) answer.Ok → Unasked x

      ok-stays : (c : Call) → Cancelled (Told c answer.Ok) → IsToldTrue s i (Told c answer.Ok) → IsToldTrue t i (Told c answer.Ok)
      ok-stays (call.Cancel x w) its so = still-idle x (its x w refl) so
      ok-stays _ its so = tt

      pub told-stays : (st : Status) → Cancelled st → IsToldTrue s i st → IsToldTrue t i st
      told-stays Runs its so = tt
      told-stays (Asks c) its so = tt
      told-stays (Pends c) its so = tt
      told-stays (Told c answer.Ok) its so = ok-stays c its so
      told-stays (Told c (answer.Made a b)) its so = tt
      told-stays (Told c (answer.Reported r)) its so = (so.0, report-stays r so.1)
      told-stays (Told c (answer.Refused why)) its so = refused-stays c why so
      told-stays Over its so = tt

      -- ---- what is told now

      over-unmade : (w : Way) → is_over w unmade ≡ false
      over-unmade way.Inward = refl
      over-unmade way.Outward = refl

      report-now : (r : Report) → made ≡ step.Report (process i) r → AreDeathsTrue s made t → IsReportTrue t i r
      report-now r made-so truly =
          record {
            death = truly.reported (process i) r made-so;
            over = receives.reported (process i) r made-so;
            own = by (s.ends r.on).place refl;
          }
        where
          step-is : IsServiceStep s (step.Report (process i) r) t
          step-is = subst (λ (z : ServiceStep). IsServiceStep s z t) made-so is

          by : (at : Place) → (s.ends r.on).place ≡ at → IsGone t r.on ⊎ ((t.ends r.on).place ≡ place.Owned (process i))
          by (place.Owned p) at = still-own r.on (unsent r.on) (at ∙ its-own s k (process i) r t step-is (place.Owned p) at refl)
          by (place.InMessage e n) at = still-own r.on (unsent r.on) (at ∙ its-own s k (process i) r t step-is (place.InMessage e n) at refl)
          by place.Destroyed at = inl (still-gone r.on at)
          by place.Unmade at =
              absurd (true≢false (sym (k.reported.over (process i) r (stood s k (process i) r t step-is)) ∙ ap (is_over r.way) (k.kept.unmade r.on at) ∙ over-unmade r.way))

      cancel-now : (on : EndId) (a : Answer) → cancel_in on made ≡ Some a → IsCancelAnswer a → AreDeathsTrue s made t → IsToldTrue t i (Told (call.Cancel on way.Inward) a)
      cancel-now on a so (inl ok) truly =
          subst (λ (z : Answer). IsToldTrue t i (Told (call.Cancel on way.Inward) z)) (sym ok) (receives.cancelled on (subst (λ (z : Answer). cancel_in on made ≡ Some z) ok so))
      cancel-now on a so (inr (inl late)) truly = subst (λ (z : Answer). IsToldTrue t i (Told (call.Cancel on way.Inward) z)) (sym late) tt
      cancel-now on a so (inr (inr dead)) truly = subst (λ (z : Answer). IsToldTrue t i (Told (call.Cancel on way.Inward) z)) (sym dead) all
        where
          gone : IsGone t on ⊎ IsGone t (opposite on)
          gone = truly.cancelled on (subst (λ (z : Answer). cancel_in on made ≡ Some z) dead so)

          all : (x : EndId) → IsOn x (call.Cancel on way.Inward) → IsGone t x ⊎ IsGone t (opposite x)
          all x its = subst (λ (z : EndId). IsGone t z ⊎ IsGone t (opposite z)) (on-cancel x on way.Inward its) gone

      pub told-now : (st now : Status) → Hears i made st now → Cancelled st → AreDeathsTrue s made t → IsToldTrue s i st → IsToldTrue t i now
      told-now _ _ (heard.Same st nothing) its truly so = told-stays st its so
      told-now _ _ (heard.Reports r made-so) its truly so = (refl, report-now r made-so truly)
      told-now _ _ (heard.Cancels on a told cancel nothing) its truly so = cancel-now on a told cancel truly
