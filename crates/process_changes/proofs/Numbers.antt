-- The numbers of the ends of a process, and its places by number.
use Rattle.std.proofs.Common.{arith, rules, ◌≡◌, ◌⊎◌, inl, inr, ⊎_elim, ℕ, zero, suc, ◌+◌, Bool, true, false, List, [], ◌∷◌, Option, Some, None, slice_get, if◌then◌else◌, refl, sym, ap, subst, ◌∙◌}
use Rattle.charlotte_calls.specs.EndEq.{end_eq}
use Rattle.charlotte_calls.specs.declared.names.EndId.{EndId}
use Rattle.process_run.specs.States.{Holding, Place}
use Rattle.process_run.specs.Ends.{number_from, number_of, or_number, place_at, set_holding, with_holding}

pub same_end : (x y : EndId) → end_eq x y ≡ true → x ≡ y
unfolding end_eq
same_end x y e = search rules

pub end_eq_self : (x : EndId) → end_eq x x ≡ true
unfolding end_eq
end_eq_self x = search rules

-- the number of an end is that of a place of it
pub record Found (i n : ℕ) (x : EndId) (ps : List Place) : Type 0 where
  pub at : ℕ
  pub is : n ≡ suc (i + at)
  pub place : Place
  pub there : slice_get ps at ≡ Some place
  pub same : place.end ≡ x

or_first : (n m k : ℕ) → n ≡ suc k → or_number n m ≡ n
or_first zero m k e = absurd (omega arith)
or_first (suc n) m k e = refl

found_here : (i : ℕ) (x : EndId) (p : Place) (ps : List Place) (b : Bool) → end_eq p.end x ≡ b → ((if b then suc i else 0) ≡ 0) ⊎ Found i (if b then suc i else 0) x (p ∷ ps)
found_here i x p ps true e = inr (record { at = 0; is = omega arith; place = p; there = refl; same = same_end p.end x e })
found_here i x p ps false e = inl refl

pub found : (i : ℕ) (x : EndId) (ps : List Place) → (number_from (suc i) x ps ≡ 0) ⊎ Found i (number_from (suc i) x ps) x ps
found i x [] = inl refl
found i x (p ∷ ps) =
    subst (λ (m : ℕ). (or_number (number_from m x ps) (if end_eq p.end x then suc i else 0) ≡ 0) ⊎ Found i (or_number (number_from m x ps) (if end_eq p.end x then suc i else 0)) x (p ∷ ps)) (next i)
    (by_rest (number_from (suc (suc i)) x ps) (found (suc i) x ps))
  where
    next : (i : ℕ) → suc (suc i) ≡ suc i + 1
    next i = omega arith

    by_rest : (n : ℕ) → (n ≡ 0) ⊎ Found (suc i) n x ps → (or_number n (if end_eq p.end x then suc i else 0) ≡ 0) ⊎ Found i (or_number n (if end_eq p.end x then suc i else 0)) x (p ∷ ps)
    by_rest n rest =
        ⊎_elim
        (λ (none : n ≡ 0).
        subst (λ (k : ℕ). (or_number k (if end_eq p.end x then suc i else 0) ≡ 0) ⊎ Found i (or_number k (if end_eq p.end x then suc i else 0)) x (p ∷ ps)) (sym none) (found_here i x p ps (end_eq p.end x) refl))
        (λ (f : Found (suc i) n x ps).
        subst (λ (k : ℕ). (k ≡ 0) ⊎ Found i k x (p ∷ ps)) (sym (or_first n (if end_eq p.end x then suc i else 0) (suc i + f.at) f.is))
        (inr (record { at = suc f.at; is = (let e : n ≡ suc (suc i + f.at) = f.is in omega arith); place = f.place; there = f.there; same = f.same })))
        rest

pub none_at : (p : Place) → ◌≡◌ {A = Option Place} None (Some p) → ⊥
none_at p e = cc

pub same_place : (p q : Place) → ◌≡◌ {A = Option Place} (Some p) (Some q) → p ≡ q
same_place p q e = cc

pub numbered : (x : EndId) (ps : List Place) (p : Place) → place_at (number_of x ps) ps ≡ Some p → p.end ≡ x
numbered x ps p at =
    ⊎_elim
    (λ (none : number_from 1 x ps ≡ 0). absurd (none_at p (sym (ap (λ (n : ℕ). place_at n ps) none) ∙ at)))
    (λ (f : Found 0 (number_from 1 x ps) x ps).
    ap (λ (q : Place). q.end) (same_place p f.place (sym at ∙ ap (λ (n : ℕ). place_at n ps) (f.is ∙ ap suc (zero_and f.at)) ∙ f.there)) ∙ f.same)
    (found 0 x ps)
  where
    zero_and : (n : ℕ) → 0 + n ≡ n
    zero_and n = omega arith

-- ---- one place changes

-- where this is kept for a place, it is
pub kept_index : (i : ℕ) (p : Place) (g : Holding) (ps : List Place) → slice_get ps i ≡ Some p → slice_get (set_holding i g (Some p) ps) i ≡ Some (record p { holding = g })
kept_index zero p g [] e = absurd (none_at p e)
kept_index (suc i) p g [] e = absurd (none_at p e)
kept_index zero p g (q ∷ ps) e = refl
kept_index (suc i) p g (q ∷ ps) e = kept_index i p g ps e

-- and the others are as they were
other_index : (i j : ℕ) (g : Holding) (ps : List Place) → (i ≡ j → ⊥) → slice_get (set_holding i g (slice_get ps i) ps) j ≡ slice_get ps j
other_index i j g [] other = refl
other_index zero zero g (p ∷ ps) other = absurd (other refl)
other_index zero (suc j) g (p ∷ ps) other = refl
other_index (suc i) j g (p ∷ ps) other = by_rest (slice_get ps i) refl j other (λ k away. other_index i k g ps away)
  where
    by_rest : (o : Option Place) → slice_get ps i ≡ o → (k : ℕ) → (suc i ≡ k → ⊥) → ((l : ℕ) → (i ≡ l → ⊥) → slice_get (set_holding i g (slice_get ps i) ps) l ≡ slice_get ps l) →
        slice_get (set_holding (suc i) g (slice_get ps i) (p ∷ ps)) k ≡ slice_get (p ∷ ps) k
    by_rest None e k away rest = ap (λ (o : Option Place). slice_get (set_holding (suc i) g o (p ∷ ps)) k) e
    by_rest (Some q) e zero away rest = ap (λ (o : Option Place). slice_get (set_holding (suc i) g o (p ∷ ps)) zero) e
    by_rest (Some q) e (suc k) away rest =
        ap (λ (o : Option Place). slice_get (set_holding (suc i) g o (p ∷ ps)) (suc k)) e ∙ ap (λ (o : Option Place). slice_get (set_holding i g o ps) k) (sym e)
        ∙ rest k (λ same. away (ap suc same))

pub other_place : (n m : ℕ) (g : Holding) (ps : List Place) → (n ≡ m → ⊥) → place_at m (with_holding n g ps) ≡ place_at m ps
other_place zero m g ps other = refl
other_place (suc i) zero g ps other = refl
other_place (suc i) (suc j) g ps other = other_index i j g ps (λ same. other (ap suc same))
