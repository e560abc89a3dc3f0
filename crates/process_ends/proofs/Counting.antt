-- Counts of ends after one was changed, or one more came.
use Rattle.std.proofs.Common.{arith, ◌≡◌, ℕ, suc, ◌+◌, ◌-◌, ◌<◌, ◌≤◌, ◌^◌, Bool, true, false, List, [], ◌∷◌, ◌++◌, length, length-append, sum_by, cond, not, nat_eq, eqb-true, ◌||◌, Option, Some, None, option_map, slice_get, slice_set, get_or, length-set, refl, sym, ap, ap₂, subst, ◌∙◌}
use Rattle.std.specs.List.{list_any}
use Rattle.std.proofs.lemmas.List.Sums.{sum_by-set, sum_by-cons, sum_by_push}
use Rattle.std.proofs.lemmas.Option.{slice_get_within, get_or_from_slice_get}
use Rattle.charlotte_calls.specs.declared.names.EndId.{EndId}
use Rattle.end_protocol.specs.declared.kept.Kept.{Kept}
use Rattle.end_protocol.specs.Kept.{fresh}
use Rattle.end_protocol.specs.Wanting.{counts}
use Rattle.process_run.specs.States.{Holding, Keeps, Gone, Place}
use Rattle.process_run.specs.Ends.{set_holding, coming_to}
use Rattle.process_run.specs.Runs.{is_in_use}
use Rattle.process_ends.specs.Ends.{used_by}
use Rattle.process_ends.specs.Counted.{IsCounted}
use Rattle.process_ends.proofs.Lists.{some_is}

-- ---- sums

abbrev summed : (Holding → ℕ) → List Place → ℕ
summed f ps = sum_by (λ p. f p.holding) ps

sum_so : (f : Holding → ℕ) (i : ℕ) (h g : Holding) (ps : List Place) (o : Option Place) → slice_get ps i ≡ o → option_map (λ p. p.holding) o ≡ Some g
    → summed f (set_holding i h o ps) + f g ≡ summed f ps + f h
sum_so f i h g ps None at was = let no : None ≡ Some g = was in absurd cc
sum_so f i h g ps (Some p) at was =
    let new : Place = record p { holding = h } in
    let sums : summed f (slice_set ps i new) + f (get_or ps i p).holding ≡ summed f ps + f h = sum_by-set (λ (x : Place). f x.holding) ps i new p (slice_get_within ps i p at) in
    let here : f (get_or ps i p).holding ≡ f p.holding = ap (λ (x : Place). f x.holding) (get_or_from_slice_get ps i p p at) in
    let old : f p.holding ≡ f g = ap f (some_is p.holding g was) in
    ap (λ (n : ℕ). summed f (slice_set ps i new) + n) (sym (here ∙ old)) ∙ sums

pub sum_changed : (f : Holding → ℕ) (i : ℕ) (h g : Holding) (ps : List Place) → option_map (λ p. p.holding) (slice_get ps i) ≡ Some g
    → summed f (set_holding i h (slice_get ps i) ps) + f g ≡ summed f ps + f h
sum_changed f i h g ps was = sum_so f i h g ps (slice_get ps i) refl was

pub at_most_all : (f : Holding → ℕ) (ps : List Place) → ((h : Holding) → f h ≤ 1) → summed f ps ≤ length ps
at_most_all f [] small = omega arith
at_most_all f (p ∷ ps) small =
    let first : summed f (p ∷ ps) ≡ f p.holding + summed f ps = sum_by-cons (λ (x : Place). f x.holding) p ps in
    let others : summed f ps ≤ length ps = at_most_all f ps small in
    let one : f p.holding ≤ 1 = small p.holding in
    omega (arith, first, others, one)

length_so : (i : ℕ) (h : Holding) (ps : List Place) (o : Option Place) → length (set_holding i h o ps) ≡ length ps
length_so i h ps None = refl
length_so i h ps (Some p) = length-set ps i (record p { holding = h })

-- ---- how many there are of a kind

pub coming_small : (h : Holding) → coming_to h ≤ 1
coming_small (Keeps k) = elim (counts k.request) as (λ b. (cond b 1 0) ≤ 1) [ true ↦ omega arith | false ↦ omega arith ]
coming_small (Gone own) = omega arith

pub used_small : (h : Holding) → used_by h ≤ 1
used_small h = elim (is_in_use h) as (λ b. (cond b 1 0) ≤ 1) [ true ↦ omega arith | false ↦ omega arith ]

-- the end at this index was held in the way g, and is held in the way h from now on
pub counted_again : (ps : List Place) (i : ℕ) (h g : Holding) (coming used : ℕ) → IsCounted ps coming used → option_map (λ p. p.holding) (slice_get ps i) ≡ Some g
    → IsCounted (set_holding i h (slice_get ps i) ps) (coming + coming_to h - coming_to g) (used + used_by h - used_by g)
counted_again ps i h g coming used counted was =
    let a = sum_changed coming_to i h g ps was in
    let b = sum_changed used_by i h g ps was in
    let l : length (set_holding i h (slice_get ps i) ps) ≡ length ps = length_so i h ps (slice_get ps i) in
    record {
      coming_is = let is = counted.coming_is in omega (arith, a, is);
      used_is = let is = counted.used_is in omega (arith, b, is);
      fits = subst (λ (n : ℕ). n < 2 ^ 32) (sym l) counted.fits;
    }

-- the counts fit, and what was counted of an end can be taken off again
pub record CountsFit (coming used before_coming before_used after_coming after_used : ℕ) : Type 0 where
  pub coming_fits : coming + after_coming < 2 ^ 64
  pub used_fits : used + after_used < 2 ^ 64
  pub coming_left : before_coming ≤ coming + after_coming
  pub used_left : before_used ≤ used + after_used

pub counts_fit : (ps : List Place) (i : ℕ) (h g : Holding) (coming used : ℕ) → IsCounted ps coming used → option_map (λ p. p.holding) (slice_get ps i) ≡ Some g
    → CountsFit coming used (coming_to g) (used_by g) (coming_to h) (used_by h)
counts_fit ps i h g coming used counted was =
    let a = sum_changed coming_to i h g ps was in
    let b = sum_changed used_by i h g ps was in
    let c : summed coming_to ps ≤ length ps = at_most_all coming_to ps coming_small in
    let d : summed used_by ps ≤ length ps = at_most_all used_by ps used_small in
    let few : length ps < 4294967296 = counted.fits in
    let e = coming_small h in
    let f = used_small h in
    let is = counted.coming_is in
    let is_used = counted.used_is in
    record {
      coming_fits = let small : coming + coming_to h < 18446744073709551616 = omega (arith, c, few, e, is) in small;
      used_fits = let small : used + used_by h < 18446744073709551616 = omega (arith, d, few, f, is_used) in small;
      coming_left = omega (arith, a, is);
      used_left = omega (arith, b, is_used);
    }

-- one more end, on which nothing is
pub counted_more : (ps : List Place) (p : Place) (coming used : ℕ) → IsCounted ps coming used → length ps + 1 < 2 ^ 32 → coming_to p.holding ≡ 0 → used_by p.holding ≡ 0
    → IsCounted (ps ++ p ∷ []) coming used
counted_more ps p coming used counted fits none_coming none_used =
    let a : summed coming_to (ps ++ p ∷ []) ≡ summed coming_to ps + coming_to p.holding = sum_by_push (λ (x : Place). coming_to x.holding) ps p in
    let b : summed used_by (ps ++ p ∷ []) ≡ summed used_by ps + used_by p.holding = sum_by_push (λ (x : Place). used_by x.holding) ps p in
    let l : length (ps ++ p ∷ []) ≡ length ps + 1 = length-append ps (p ∷ []) in
    record {
      coming_is = let is = counted.coming_is in omega (arith, a, is, none_coming);
      used_is = let is = counted.used_is in omega (arith, b, is, none_used);
      fits = subst (λ (n : ℕ). n < 2 ^ 32) (sym l) fits;
    }

-- ---- whether there are any

abbrev pub tells : ℕ → Bool
tells n = not (nat_eq n 0)

nonzero_so : (b : Bool) (n m : ℕ) → nat_eq n 0 ≡ b → n ≡ suc m → b ≡ false
nonzero_so true n m e is = let none : n ≡ 0 = eqb-true n 0 e in absurd (omega (arith, none, is))
nonzero_so false n m e is = refl

tells_some : (n m : ℕ) → n ≡ suc m → tells n ≡ true
tells_some n m is = ap not (nonzero_so (nat_eq n 0) n m refl is)

used_so : (b : Bool) (ps : List Place) (n : ℕ) → n ≡ cond b 1 0 + summed used_by ps → tells (summed used_by ps) ≡ list_any (λ p. is_in_use p.holding) ps
    → tells n ≡ (b || list_any (λ p. is_in_use p.holding) ps)
used_so true ps n is others = tells_some n (summed used_by ps) (omega (arith, is))
used_so false ps n is others = ap tells (let e : n ≡ summed used_by ps = omega (arith, is) in e) ∙ others

pub any_used : (ps : List Place) → tells (summed used_by ps) ≡ list_any (λ p. is_in_use p.holding) ps
any_used [] = refl
any_used (p ∷ ps) = used_so (is_in_use p.holding) ps (summed used_by (p ∷ ps)) (sum_by-cons (λ (x : Place). used_by x.holding) p ps) (any_used ps)

pub used_tells : (ps qs : List Place) (n : ℕ) → n ≡ summed used_by ps → ps ≡ qs → tells n ≡ list_any (λ p. is_in_use p.holding) qs
used_tells ps qs n is same = ap tells is ∙ any_used ps ∙ ap (λ (xs : List Place). list_any (λ p. is_in_use p.holding) xs) same

-- ---- the calls of a roster

pub counted_now : (ps qs : List Place) (i : ℕ) (h g : Holding) (coming used a b c d : ℕ) → IsCounted ps coming used → option_map (λ p. p.holding) (slice_get ps i) ≡ Some g
    → qs ≡ set_holding i h (slice_get ps i) ps → a ≡ coming_to h → b ≡ coming_to g → c ≡ used_by h → d ≡ used_by g → IsCounted qs (coming + a - b) (used + c - d)
counted_now ps qs i h g coming used a b c d counted was left ia ib ic id =
    let now : IsCounted (set_holding i h (slice_get ps i) ps) (coming + coming_to h - coming_to g) (used + used_by h - used_by g) = counted_again ps i h g coming used counted was in
    subst (λ (xs : List Place). IsCounted xs (coming + a - b) (used + c - d)) (sym left)
    (record {
      coming_is = let is = now.coming_is in omega (arith, is, ia, ib);
      used_is = let is = now.used_is in omega (arith, is, ic, id);
      fits = now.fits;
    })

pub counted_pushed : (ps qs os : List Place) (p : Place) (k : Kept) (coming used : ℕ) → IsCounted ps coming used → ps ≡ os → length os + 1 < 2 ^ 32
    → qs ≡ ps ++ p ∷ [] → p.holding ≡ Keeps k → k ≡ fresh → IsCounted qs coming used
counted_pushed ps qs os p k coming used counted same few more holds new =
    let is : p.holding ≡ Keeps fresh = holds ∙ ap (λ (x : Kept). Keeps x) new in
    subst (λ (xs : List Place). IsCounted xs coming used) (sym more)
    (counted_more ps p coming used counted (subst (λ (xs : List Place). length xs + 1 < 2 ^ 32) (sym same) few) (ap coming_to is) (ap used_by is))

pub pushed_as : (ps qs os : List Place) (p : Place) (x : EndId) (k : Kept) → qs ≡ ps ++ p ∷ [] → ps ≡ os → p.end ≡ x → p.holding ≡ Keeps k → k ≡ fresh
    → qs ≡ os ++ record { end = x; holding = Keeps fresh } ∷ []
pushed_as ps qs os p x k more same is holds new =
    let one : p ≡ record { end = x; holding = Keeps fresh } =
    ap₂ (λ (e : EndId) (h : Holding). record { end = e; holding = h }) is (holds ∙ ap (λ (y : Kept). Keeps y) new) in
    more ∙ ap₂ (λ (xs : List Place) (r : Place). xs ++ r ∷ []) same one
