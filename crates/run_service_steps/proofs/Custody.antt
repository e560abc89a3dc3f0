-- An end stays in one place at most.
use Rattle.std.proofs.Common.{◌≡◌, ◌⊎◌, inl, inr, ℕ, zero, suc, ◌+◌, ◌≤◌, nat_eq, Bool, true, false, if◌then◌else◌, List, refl, sym, ap, subst, ◌∙◌, arith}
use Rattle.std.specs.List.{Contains}
use Rattle.charlotte_calls.specs.declared.calls.ServiceStep.{ServiceStep}
use Rattle.charlotte_calls.specs.declared.calls.ServiceStep.TheVariants as step
use Rattle.charlotte_calls.specs.declared.names.EndId.{EndId}
use Rattle.charlotte_calls.specs.declared.names.Pid.{Pid}
use Rattle.service_step.specs.State.{State as Service}
use Rattle.service_step.specs.declared.state.Place.TheVariants as place
use Rattle.service_change.proofs.Counts.{pid_tells}
use Rattle.run_invariant.specs.Moves.{Moves, brings, gives}
use Rattle.run_invariant.specs.Moves as moves
use Rattle.run_invariant.specs.Acted.{process}
use Rattle.run_service_steps.proofs.StepFacts.{stays-less}
use Rattle.run_invariant.specs.Invariant.{IsInOnePlace, has_of}
use Rattle.run_invariant.specs.Owners.{Owner}

-- the step does not make the end
abbrev pub IsUnborn : Service → ServiceStep → Service → EndId → Type 0
IsUnborn s made t x = (p : Pid) (a b : EndId) → made ≡ step.Make p a b → (s.ends x).place ≡ place.Unmade → (t.ends x).place ≡ place.Unmade

-- how what a process has of an end changes with a step
pub record Takes (s : Service) (made : ServiceStep) (t : Service) (i : ℕ) (o q : Owner) (x : EndId) : Type 0 where
  pub within : IsUnborn s made t x → has_of q x ≤ has_of o x + gives (process i) x made
  pub given : gives (process i) x made ≤ brings s (process i) x
  pub makes : (p : Pid) (a b : EndId) → made ≡ step.Make p a b → (x ≡ a) ⊎ (x ≡ b) → has_of o x ≡ 0 → has_of q x ≤ (if nat_eq p.0 i then 1 else 0)
  pub leaves : (e : EndId) (n : ℕ) (bytes : List ℕ) (xs : List EndId) → made ≡ step.Send e n bytes xs → Contains xs x
      → (s.ends e).place ≡ place.Owned (process i) → suc (has_of q x) ≤ has_of o x
  pub ends : made ≡ step.Destroy x → (s.ends x).place ≡ place.Owned (process i) → suc (has_of q x) ≤ has_of o x
  pub exits : made ≡ step.Exit (process i) → ⊥

pub same-owner : (p q : Pid) → place.Owned p ≡ place.Owned q → p ≡ q
same-owner p q e = cc

module _ (s : Service) (made : ServiceStep) (t : Service) (i : ℕ) (o q : Owner) (x : EndId) (before : IsInOnePlace s o i x) (takes : Takes s made t i o q x) where
  -- where it owns the end, or has nothing of it
  abbrev Elsewhere : Type 0
  Elsewhere = has_of o x + brings s (process i) x ≡ 0

  had : (n : ℕ) → n ≡ has_of o x + brings s (process i) x → (((s.ends x).place ≡ place.Owned (process i)) ⊎ Elsewhere)
  had zero e = inr (sym e)
  had (suc n) e = inl (before.own (omega arith))

  elsewhere : ((s.ends x).place ≡ place.Owned (process i) → ⊥) → Elsewhere
  elsewhere not = by (had (has_of o x + brings s (process i) x) refl)
    where
      by : ((s.ends x).place ≡ place.Owned (process i)) ⊎ Elsewhere → Elsewhere
      by (inl own) = absurd (not own)
      by (inr none) = none

  -- nothing is left of it
  nothing : has_of q x ≡ 0 → brings t (process i) x ≡ 0 → IsInOnePlace t q i x
  nothing none left = record { one = omega arith; own = λ some. absurd (omega arith) }

  -- it had nothing of the end, and gets nothing
  none-more : IsUnborn s made t x → Elsewhere → brings t (process i) x ≤ brings s (process i) x → IsInOnePlace t q i x
  none-more unborn none less =
      let within = takes.within unborn in
      let given = takes.given in
      nothing (omega arith) (omega arith)

  one-less : suc (has_of q x) ≤ has_of o x → brings t (process i) x ≤ brings s (process i) x → IsInOnePlace t q i x
  one-less fewer less =
      let one = before.one in
      nothing (omega arith) (omega arith)

  stays : (t.ends x).place ≡ (s.ends x).place → brings t (process i) x + gives (process i) x made ≤ brings s (process i) x → IsInOnePlace t q i x
  stays same brought =
      let within = takes.within (λ p a b so was. same ∙ was) in
      let one = before.one in
      record { one = omega arith; own = λ some. same ∙ before.own (omega arith) }

  -- it comes to the owner p, with this many
  comes : (p : Pid) → (t.ends x).place ≡ place.Owned p → has_of q x + brings t (process i) x ≤ (if nat_eq p.0 i then 1 else 0) → IsInOnePlace t q i x
  comes p to few = by (pid_tells p (process i))
    where
      by : ((nat_eq p.0 i ≡ true) × (p ≡ process i)) ⊎ ((nat_eq p.0 i ≡ false) × (p.0 ≡ i → ⊥)) → IsInOnePlace t q i x
      by (inl its) =
          let few-one : has_of q x + brings t (process i) x ≤ 1 = subst (λ (b : Bool). has_of q x + brings t (process i) x ≤ (if b then 1 else 0)) its.0 few in
          record { one = few-one; own = λ some. to ∙ ap place.Owned its.1 }
      by (inr other) =
          let few-none : has_of q x + brings t (process i) x ≤ 0 = subst (λ (b : Bool). has_of q x + brings t (process i) x ≤ (if b then 1 else 0)) other.0 few in
          nothing (omega arith) (omega arith)

  sent : IsUnborn s made t x → (p : Pid) → (s.ends x).place ≡ place.Owned p → (p ≡ process i → suc (has_of q x) ≤ has_of o x) → brings t (process i) x ≤ brings s (process i) x
      → IsInOnePlace t q i x
  sent unborn p was fewer less = by (pid_tells p (process i))
    where
      by : ((nat_eq p.0 i ≡ true) × (p ≡ process i)) ⊎ ((nat_eq p.0 i ≡ false) × (p.0 ≡ i → ⊥)) → IsInOnePlace t q i x
      by (inl its) = one-less (fewer its.1) less
      by (inr other) = none-more unborn (elsewhere (λ own. other.1 (ap (λ (z : Pid). z.0) (same-owner p (process i) (sym was ∙ own))))) less

  ended : (made ≡ step.Destroy x) ⊎ ((p : Pid) × (made ≡ step.Exit p) × ((s.ends x).place ≡ place.Owned p)) ⊎ ((e : EndId) × (n : ℕ) × ((s.ends x).place ≡ place.InMessage e n))
      → brings t (process i) x ≤ brings s (process i) x → IsInOnePlace t q i x
  ended (inl made-so) less = by (had (has_of o x + brings s (process i) x) refl)
    where
      by : ((s.ends x).place ≡ place.Owned (process i)) ⊎ Elsewhere → IsInOnePlace t q i x
      by (inl own) = one-less (takes.ends made-so own) less
      by (inr none) = none-more (λ p a b so was. let differ : step.Destroy x ≡ step.Make p a b = sym made-so ∙ so in absurd (cc)) none less
  ended (inr (inl (p, made-so, was))) less =
      none-more (λ q a b so unmade. let differ : place.Owned p ≡ place.Unmade = sym was ∙ unmade in absurd (cc)) (elsewhere (λ own. takes.exits (made-so ∙ ap step.Exit (same-owner p (process i) (sym was ∙ own))))) less
  ended (inr (inr (e, n, was))) less =
      none-more (λ p a b so unmade. let differ : place.InMessage e n ≡ place.Unmade = sym was ∙ unmade in absurd (cc)) (elsewhere (λ own. let differ : place.InMessage e n ≡ place.Owned (process i) = sym was ∙ own in absurd (cc))) less

  pub one-place : Moves s made t x → IsInOnePlace t q i x
  one-place (moves.Stays same brought) = stays same (stays-less s t made (process i) x (brought (process i)))
  one-place (moves.Makes p a b made-so its was to same) =
      let none : Elsewhere = elsewhere (λ own. let differ : place.Unmade ≡ place.Owned (process i) = sym was ∙ own in absurd (cc)) in
      let left : brings t (process i) x ≡ brings s (process i) x = same (process i) in
      let few : has_of q x ≤ (if nat_eq p.0 i then 1 else 0) = takes.makes p a b made-so its (omega arith) in
      let gone : brings t (process i) x ≡ 0 = omega arith in
      comes p to (subst (λ (n : ℕ). has_of q x + n ≤ (if nat_eq p.0 i then 1 else 0)) (sym gone) (omega arith))
  one-place (moves.Leaves p e n bytes xs made-so among on was to same) =
      let left : brings t (process i) x ≡ brings s (process i) x = same (process i) in
      sent (λ q a b so unmade. let differ : place.Owned p ≡ place.Unmade = sym was ∙ unmade in absurd (cc)) p was (λ its. takes.leaves e n bytes xs made-so among (on ∙ ap place.Owned its)) (omega arith)
  one-place (moves.Lands p e n was to more none) =
      let nowhere : Elsewhere = elsewhere (λ own. let differ : place.InMessage e n ≡ place.Owned (process i) = sym was ∙ own in absurd (cc)) in
      let now : brings t (process i) x ≡ brings s (process i) x + (if nat_eq p.0 i then 1 else 0) = more (process i) in
      let within = takes.within (λ q a b so unmade. let differ : place.InMessage e n ≡ place.Unmade = sym was ∙ unmade in absurd (cc)) in
      let unless = none (process i) in
      comes p to (omega arith)
  one-place (moves.Ends gone how less) = ended how (less (process i))
