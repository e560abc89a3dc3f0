-- Lists of places with one of them changed.
use Rattle.std.proofs.Common.{arith, ◌≡◌, ℕ, zero, suc, List, [], ◌∷◌, ◌++◌, length, Option, Some, None, slice_get, slice_set, refl, sym, ap, subst, ◌∙◌, set-set}
use Rattle.process_run.specs.States.{Holding, Place}
use Rattle.process_run.specs.Ends.{with_holding, set_holding, place_at}
use Rattle.process_ends.specs.Noted.{AllAt}

pub some_is : {X : Type 0} (x y : X) → Some x ≡ Some y → x ≡ y
some_is {X} x y e = ap (λ (o : Option X). elim o [ None ↦ x | Some z ↦ z ]) e

-- ---- one place after the other

changed_but : (P : ℕ → Place → Type 0) (ps : List Place) (k : ℕ) (q : Place)
    → ((i : ℕ) (p : Place) → (i ≡ k → ⊥) → slice_get ps i ≡ Some p → P i p) → P k q
    → (i : ℕ) (p : Place) → slice_get (slice_set ps k q) i ≡ Some p → P i p
changed_but P [] k q others here i p at = let no : None ≡ Some p = at in absurd cc
changed_but P (x ∷ ps) zero q others here zero p at = subst (P zero) (some_is q p at) here
changed_but P (x ∷ ps) zero q others here (suc i) p at = others (suc i) p (λ e. absurd (omega (arith, e))) at
changed_but P (x ∷ ps) (suc k) q others here zero p at = others zero p (λ e. absurd (omega (arith, e))) at
changed_but P (x ∷ ps) (suc k) q others here (suc i) p at =
    changed_but (λ n r. P (suc n) r) ps k q (λ j r apart there. others (suc j) r (λ e. apart (omega (arith, e))) there) here i p at

changed_so : (P Q : ℕ → Holding → Type 0) (ps : List Place) (k : ℕ) (h : Holding) (o : Option Place) → slice_get ps k ≡ o
    → AllAt P ps → ((m : ℕ) (g : Holding) → (m ≡ suc k → ⊥) → P m g → Q m g) → Q (suc k) h
    → AllAt Q (set_holding k h o ps)
changed_so P Q ps k h None at all others here =
    λ i p there. others (suc i) p.holding
    (λ e. let same : i ≡ k = omega (arith, e) in let no : None ≡ Some p = sym at ∙ ap (slice_get ps) (sym same) ∙ there in absurd cc)
    (all i p there)
changed_so P Q ps k h (Some q) at all others here =
    changed_but (λ i p. Q (suc i) p.holding) ps k (record q { holding = h })
    (λ i p apart there. others (suc i) p.holding (λ e. apart (omega (arith, e))) (all i p there)) here

-- what is true of all other ends, and of how the end of this number is held now, is true of all
pub all_changed : (P Q : ℕ → Holding → Type 0) (ps : List Place) (n : ℕ) (h : Holding)
    → AllAt P ps → ((m : ℕ) (g : Holding) → (m ≡ n → ⊥) → P m g → Q m g) → Q n h
    → AllAt Q (with_holding n h ps)
all_changed P Q ps zero h all others here = λ i p there. others (suc i) p.holding (λ e. absurd (omega (arith, e))) (all i p there)
all_changed P Q ps (suc k) h all others here = changed_so P Q ps k h (slice_get ps k) refl all others here

pub all_weaker : (P Q : ℕ → Holding → Type 0) (ps : List Place) → AllAt P ps → ((m : ℕ) (g : Holding) → P m g → Q m g) → AllAt Q ps
all_weaker P Q ps all weaker = λ i p there. weaker (suc i) p.holding (all i p there)

more_so : (P : ℕ → Place → Type 0) (ps : List Place) (q : Place) → ((i : ℕ) (p : Place) → slice_get ps i ≡ Some p → P i p) → P (length ps) q
    → (i : ℕ) (p : Place) → slice_get (ps ++ q ∷ []) i ≡ Some p → P i p
more_so P [] q all here zero p at = subst (P zero) (some_is q p at) here
more_so P [] q all here (suc i) p at = let no : None ≡ Some p = at in absurd cc
more_so P (x ∷ ps) q all here zero p at = all zero p at
more_so P (x ∷ ps) q all here (suc i) p at = more_so (λ n r. P (suc n) r) ps q (λ j r there. all (suc j) r there) here i p at

-- one more end
pub all_more : (P : ℕ → Holding → Type 0) (ps : List Place) (q : Place) → AllAt P ps → P (suc (length ps)) q.holding → AllAt P (ps ++ q ∷ [])
all_more P ps q all here = more_so (λ i p. P (suc i) p.holding) ps q all here

-- ---- by number

pub at_number : (n i : ℕ) (ps : List Place) → n ≡ suc i → place_at n ps ≡ slice_get ps i
at_number n i ps e = ap (λ (m : ℕ). place_at m ps) e

pub with_number : (n i : ℕ) (h : Holding) (ps : List Place) → n ≡ suc i → with_holding n h ps ≡ set_holding i h (slice_get ps i) ps
with_number n i h ps e = ap (λ (m : ℕ). with_holding m h ps) e

past_so : (i : ℕ) (h : Holding) (ps : List Place) (o : Option Place) → o ≡ None → set_holding i h o ps ≡ ps
past_so i h ps o e = ap (λ (x : Option Place). set_holding i h x ps) e

get_set : (ps : List Place) (i : ℕ) (p q : Place) → slice_get ps i ≡ Some p → slice_get (slice_set ps i q) i ≡ Some q
get_set [] i p q at = let no : None ≡ Some p = at in absurd cc
get_set (x ∷ ps) zero p q at = refl
get_set (x ∷ ps) (suc i) p q at = get_set ps i p q at

twice_so : (i : ℕ) (g h : Holding) (ps : List Place) (o : Option Place) → slice_get ps i ≡ o
    → set_holding i h (slice_get (set_holding i g o ps) i) (set_holding i g o ps) ≡ set_holding i h o ps
twice_so i g h ps None at = past_so i h ps (slice_get ps i) at
twice_so i g h ps (Some p) at =
    ap (λ (x : Option Place). set_holding i h x (slice_set ps i (record p { holding = g }))) (get_set ps i p (record p { holding = g }) at)
    ∙ set-set ps i (record p { holding = g }) (record p { holding = h })

-- the end of a number that is held in two ways, one after the other, is held in the second way
pub held_twice : (n : ℕ) (g h : Holding) (ps : List Place) → with_holding n h (with_holding n g ps) ≡ with_holding n h ps
held_twice zero g h ps = refl
held_twice (suc i) g h ps = twice_so i g h ps (slice_get ps i) refl
