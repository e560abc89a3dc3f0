-- Ends that are the same, ends among others, and a table at the ends that change and at all others.
use Rattle.std.proofs.Common.{◌≡◌, zero, suc, Bool, true, false, true≢false, ◌||◌, ◌⊎◌, inl, inr, if◌then◌else◌, List, [], ◌∷◌, Contains, refl, sym, ap, subst, ◌∙◌, arith, rules}
use Rattle.std.proofs.lemmas.List.Elements.{Contains-append_right, Contains-append_cases}
use Rattle.std.specs.List.{list_any}
use Rattle.charlotte_calls.specs.Names.{opposite, other_side}
use Rattle.charlotte_calls.specs.declared.names.EndId.{EndId}
use Rattle.charlotte_calls.specs.declared.names.Side.{Side}
use Rattle.charlotte_calls.specs.declared.names.Side.TheVariants.{A, B}
use Rattle.service_step.specs.Ends.{end_eq, is_made, put, puts, places}
use Rattle.service_step.specs.declared.state.End.{End}
use Rattle.service_step.specs.declared.state.Place.{Place}

pub end_eq-same : (a b : EndId) → end_eq a b ≡ true → a ≡ b
unfolding end_eq
end_eq-same a b h = search rules

pub end_eq-refl : (a : EndId) → end_eq a a ≡ true
unfolding end_eq
end_eq-refl a = search rules

pub end_eq-sym : (a b : EndId) → end_eq a b ≡ end_eq b a
unfolding end_eq
end_eq-sym a b = search rules

pub end_eq-apart : (a b : EndId) → end_eq a b ≡ false → a ≡ b → ⊥
end_eq-apart a b apart same = true≢false (sym (subst (λ z. end_eq a z ≡ true) same (end_eq-refl a)) ∙ apart)

pub opposite-opposite : (e : EndId) → opposite (opposite e) ≡ e
opposite-opposite e = ap (λ side. record { link = e.link; side = side }) (by e.side)
  where
    by : (side : Side) → other_side (other_side side) ≡ side
    by A = refl
    by B = refl

pub opposite-apart : (e : EndId) → end_eq (opposite e) e ≡ false
opposite-apart e = by (end_eq (opposite e) e) refl
  where
    differ : (side : Side) → other_side side ≡ side → ⊥
    differ A same = cc
    differ B same = cc

    by : (b : Bool) → end_eq (opposite e) e ≡ b → b ≡ false
    by true same = absurd (differ e.side (ap (λ z. z.side) (end_eq-same (opposite e) e same)))
    by false apart = refl

-- an end is one of these
abbrev pub among : EndId → List EndId → Bool
among q xs = list_any (end_eq q) xs

pub among-Contains : (q : EndId) (xs : List EndId) → among q xs ≡ true → Contains xs q
among-Contains q [] is = absurd (true≢false (sym is))
among-Contains q (x ∷ xs) is = by (end_eq q x) refl is (among-Contains q xs)
  where
    by : (b : Bool) → end_eq q x ≡ b → b || among q xs ≡ true → (among q xs ≡ true → Contains xs q) → Contains (x ∷ xs) q
    by true same is rest = (0, (omega arith), sym (end_eq-same q x same))
    by false apart is rest = Contains-append_right (x ∷ []) xs q (rest is)

only : (x q : EndId) → Contains (x ∷ []) q → x ≡ q
only x q (zero, below, same) = same
only x q (suc k, below, same) = absurd (omega arith)

pub Contains-among : (q : EndId) (xs : List EndId) → Contains xs q → among q xs ≡ true
Contains-among q [] (k, below, same) = absurd (omega arith)
Contains-among q (x ∷ xs) is = by (Contains-append_cases (x ∷ []) xs q is) (Contains-among q xs)
  where
    true-or : (a b : Bool) → a ≡ true → a || b ≡ true
    true-or true b is = refl
    true-or false b is = absurd (true≢false (sym is))

    or-true : (a b : Bool) → b ≡ true → a || b ≡ true
    or-true true b is = refl
    or-true false b is = is

    by : Contains (x ∷ []) q ⊎ Contains xs q → (Contains xs q → among q xs ≡ true) → among q (x ∷ xs) ≡ true
    by (inl first) rest = true-or _ _ (subst (λ z. end_eq q z ≡ true) (sym (only x q first)) (end_eq-refl q))
    by (inr later) rest = or-true _ _ (rest later)

pub put-at : (t : EndId → End) (e : EndId) (x : End) → put t e x e ≡ x
put-at t e x = ap (λ b. if b then x else t e) (end_eq-refl e)

pub put-other : (t : EndId → End) (e : EndId) (x : End) (q : EndId) → end_eq e q ≡ false → put t e x q ≡ t q
put-other t e x q apart = ap (λ b. if b then x else t q) apart

pub puts-at : (e : EndId) (x : End) (t : EndId → End) → is_made (t e).place ≡ true → puts e x t e ≡ x
unfolding puts
puts-at e x t made = ap (λ b. (if b then put t e x else t) e) made ∙ put-at t e x

pub puts-other : (e : EndId) (x : End) (t : EndId → End) (q : EndId) → end_eq e q ≡ false → puts e x t q ≡ t q
unfolding puts
puts-other e x t q apart = by (is_made (t e).place)
  where
    by : (b : Bool) → (if b then put t e x else t) q ≡ t q
    by true = put-other t e x q apart
    by false = refl

-- an end that comes to another place
abbrev pub at_place : Place → End → End
at_place at x = record x { place = at }

pub places-other : (at : Place) (xs : List EndId) (t : EndId → End) (q : EndId) → among q xs ≡ false → places at xs t q ≡ t q
unfolding places
places-other at [] t q none = refl
places-other at (x ∷ xs) t q none = by (end_eq q x) refl none (places-other at xs (puts x (record (t x) { place = at }) t) q)
  where
    by : (b : Bool) → end_eq q x ≡ b → b || among q xs ≡ false → (among q xs ≡ false → places at xs (puts x (record (t x) { place = at }) t) q ≡ puts x (record (t x) { place = at }) t q)
        → places at xs (puts x (record (t x) { place = at }) t) q ≡ t q
    by true same none rest = absurd (true≢false none)
    by false apart none rest = rest none ∙ puts-other x _ t q (end_eq-sym x q ∙ apart)

pub places-among : (at : Place) (xs : List EndId) (t : EndId → End) (q : EndId) → is_made at ≡ true → among q xs ≡ true → is_made (t q).place ≡ true → places at xs t q ≡ at_place at (t q)
unfolding places
places-among at [] t q there is made = absurd (true≢false (sym is))
places-among at (x ∷ xs) t q there is made = by (end_eq q x) refl (among q xs) refl is (λ later. places-among at xs (puts x (record (t x) { place = at }) t) q there later)
  where
    next : EndId → End
    next = puts x (record (t x) { place = at }) t

    by : (b : Bool) → end_eq q x ≡ b → (c : Bool) → among q xs ≡ c → b || c ≡ true → (among q xs ≡ true → is_made (next q).place ≡ true → places at xs next q ≡ at_place at (next q))
        → places at xs next q ≡ at_place at (t q)
    by true same true is _ rest =
        let at_x : next q ≡ at_place at (t q) = subst (λ z. next z ≡ at_place at (t z)) (sym (end_eq-same q x same)) (puts-at x _ t (subst (λ z. is_made (t z).place ≡ true) (end_eq-same q x same) made)) in
        rest is (ap (λ z. is_made z.place) at_x ∙ there) ∙ ap (at_place at) at_x
    by true same false none _ rest =
        places-other at xs next q none ∙ subst (λ z. next z ≡ at_place at (t z)) (sym (end_eq-same q x same)) (puts-at x _ t (subst (λ z. is_made (t z).place ≡ true) (end_eq-same q x same) made))
    by false apart true is _ rest =
        let as_was : next q ≡ t q = puts-other x _ t q (end_eq-sym x q ∙ apart) in
        rest is (ap (λ z. is_made z.place) as_was ∙ made) ∙ ap (at_place at) as_was
    by false apart false none is rest = absurd (true≢false (sym is))
