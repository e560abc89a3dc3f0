-- The two ends that a Make makes.
use Rattle.std.proofs.Common.{◌≡◌, ◌⊎◌, inl, inr, Bool, true, false, true≢false, if◌then◌else◌, Option, Some, None, refl, sym, ap, ◌∙◌}
use Rattle.charlotte_calls.specs.Names.{opposite}
use Rattle.charlotte_calls.specs.declared.calls.ServiceStep.TheVariants as step
use Rattle.charlotte_calls.specs.declared.names.EndId.{EndId}
use Rattle.charlotte_calls.specs.declared.names.LinkId.{LinkId}
use Rattle.charlotte_calls.specs.declared.names.Pid.{Pid}
use Rattle.service_change.proofs.Counts.{and-true}
use Rattle.service_change.proofs.EndEq.{end_eq-refl, end_eq-same, opposite-apart, put-at}
use Rattle.service_change.proofs.Facts.{not-true}
use Rattle.service_step.specs.Ends.{end_eq, fresh, is_made, makes, put}
use Rattle.service_step.specs.State.{State as Service, next_link}
use Rattle.service_step.specs.Steps.{IsServiceStep, is_new_pair}
use Rattle.service_step.specs.declared.state.End.{End}
use Rattle.service_step.specs.declared.state.Place.TheVariants as place
use Rattle.run_service_steps.proofs.Sides.{unmade-place}

new-pair : (t : EndId → End) (o : Option LinkId) (a b : EndId) → is_new_pair t o a b ≡ true
    → (is_made (t a).place ≡ false) × (is_made (t b).place ≡ false) × (b ≡ opposite a)
new-pair t None a b may = absurd (true≢false (sym may))
new-pair t (Some link) a b may =
    let five = and-true _ _ may in
    (not-true _ (and-true _ _ five.0).1, not-true _ five.1, end_eq-same b (opposite a) (and-true _ _ (and-true _ _ five.0).0).1)

module _ (s : Service) (p : Pid) (a b : EndId) (t : Service) (is : IsServiceStep s (step.Make p a b) t) where
  pair : (is_made (s.ends a).place ≡ false) × (is_made (s.ends b).place ≡ false) × (b ≡ opposite a)
  pair = new-pair s.ends (next_link s p) a b (and-true _ _ is.allowed).1

  pub born-was : (x : EndId) → (x ≡ a) ⊎ (x ≡ b) → (s.ends x).place ≡ place.Unmade
  born-was x (inl its) = ap (λ (z : EndId). (s.ends z).place) its ∙ unmade-place (s.ends a).place pair.0
  born-was x (inr its) = ap (λ (z : EndId). (s.ends z).place) its ∙ unmade-place (s.ends b).place pair.1

  first-now : (makes p a b s.ends a).place ≡ place.Owned p
  unfolding makes
  first-now = by (end_eq b a)
    where
      by : (c : Bool) → (if c then fresh (place.Owned p) else put s.ends a (fresh (place.Owned p)) a).place ≡ place.Owned p
      by true = refl
      by false = ap (λ (z : End). z.place) (put-at s.ends a (fresh (place.Owned p)))

  second-now : (makes p a b s.ends b).place ≡ place.Owned p
  unfolding makes
  second-now = ap (λ (z : End). z.place) (put-at (put s.ends a (fresh (place.Owned p))) b (fresh (place.Owned p)))

  pub born-now : (x : EndId) → (x ≡ a) ⊎ (x ≡ b) → (t.ends x).place ≡ place.Owned p
  born-now x (inl its) = ap (λ (z : EndId). (t.ends z).place) its ∙ ap (λ (z : Service). (z.ends a).place) is.after ∙ first-now
  born-now x (inr its) = ap (λ (z : EndId). (t.ends z).place) its ∙ ap (λ (z : Service). (z.ends b).place) is.after ∙ second-now

  pub born-apart : a ≡ b → ⊥
  born-apart same = true≢false (sym (ap (λ (z : EndId). end_eq z a) (sym pair.2 ∙ sym same) ∙ end_eq-refl a) ∙ opposite-apart a)
