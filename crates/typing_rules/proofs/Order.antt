-- The first of faults does not depend on their order.
use Rattle.std.proofs.Common.{◌≡◌, ◌<◌, ◌≤◌, ◌⊎◌, inl, inr, List, [], ◌∷◌, Bool, true, false, Option, Some, None, cond, ◌||◌, ◌&&◌, ltb, eqb, leb, refl, sym, ap, ◌∙◌, arith}
use Rattle.std.specs.Bool.{fails}
use Rattle.std.proofs.lemmas.Bool.{ltb-false, eqb-true, eqb-false, leb-false}
use Rattle.typing_rules.specs.Rules.{Fault}
use Rattle.typing_rules.specs.Modules.{is_no_later, first_of_two, first_fault}
use Rattle.typing_rules.specs.Progress.{earlier, first_with}
use Rattle.typing_rules.proofs.Firsts.{NoLater, true_is_no_later, goes_on}

-- one place is before another, or at one place a rule is less
abbrev Before : Fault → Fault → Type 0
Before a b = (a.place < b.place) ⊎ ((a.place ≡ b.place) × (a.rule < b.rule))

false_is_before : (a b : Fault) (x y z : Bool) → ltb a.place b.place ≡ x → eqb a.place b.place ≡ y → leb a.rule b.rule ≡ z → (x || (y && z)) ≡ false → Before b a
false_is_before a b true y z ex ey ez e = absurd (fails true e)
false_is_before a b false true true ex ey ez e = absurd (fails true e)
false_is_before a b false true false ex ey ez e = inr (sym (eqb-true a.place b.place ey), omega (arith, leb-false a.rule b.rule ez))
false_is_before a b false false z ex ey ez e = inl (omega (arith, ltb-false a.place b.place ex, eqb-false a.place b.place ey))

no_later : (a b : Fault) → is_no_later a b ≡ true → NoLater a b
no_later a b e = true_is_no_later a b _ _ _ refl refl refl e

before : (a b : Fault) → is_no_later a b ≡ false → Before b a
before a b e = false_is_before a b _ _ _ refl refl refl e

clash : (a b : Fault) → NoLater a b → Before b a → ⊥
clash a b (inl x) (inl y) = omega (arith, x, y)
clash a b (inl x) (inr y) = omega (arith, x, y.0)
clash a b (inr x) (inl y) = omega (arith, x.0, y)
clash a b (inr x) (inr y) = omega (arith, x.1, y.1)

true_for : (a b : Fault) (x : Bool) → is_no_later a b ≡ x → NoLater a b → x ≡ true
true_for a b true e h = refl
true_for a b false e h = absurd (clash a b h (before a b e))

false_for : (a b : Fault) (x : Bool) → is_no_later a b ≡ x → Before b a → x ≡ false
false_for a b true e h = absurd (clash a b (no_later a b e) h)
false_for a b false e h = refl

before_before : (a b c : Fault) → Before a b → Before b c → Before a c
before_before a b c (inl x) (inl y) = inl (omega (arith, x, y))
before_before a b c (inl x) (inr y) = inl (omega (arith, x, y.0))
before_before a b c (inr x) (inl y) = inl (omega (arith, x.0, y))
before_before a b c (inr x) (inr y) = inr (omega (arith, x.0, y.0), omega (arith, x.1, y.1))

abbrev lesser : Fault → Fault → Fault
lesser a b = cond (is_no_later a b) a b

grouped : (a b c : Fault) (x y : Bool) → is_no_later a b ≡ x → is_no_later b c ≡ y → lesser (cond x a b) c ≡ lesser a (cond y b c)
grouped a b c true true e g = ap (λ q. cond q a c) (true_for a c _ refl (goes_on a b c (no_later a b e) (no_later b c g))) ∙ sym (ap (λ q. cond q a b) e)
grouped a b c true false e g = refl
grouped a b c false true e g = ap (λ q. cond q b c) g ∙ sym (ap (λ q. cond q a b) e)
grouped a b c false false e g = ap (λ q. cond q b c) g ∙ sym (ap (λ q. cond q a c) (false_for a c _ refl (before_before c b a (before b c g) (before a b e))))

lesser_of_two : (a b : Fault) (o : Option Fault) → first_of_two (lesser a b) o ≡ first_of_two a (Some (first_of_two b o))
lesser_of_two a b None = refl
lesser_of_two a b (Some c) = grouped a b c _ _ refl refl

with_some : (a : Fault) (faults : List Fault) → first_with (Some a) faults ≡ Some (first_of_two a (first_fault faults))
with_some a [] = refl
with_some a (b ∷ faults) = with_some (lesser a b) faults ∙ ap Some (lesser_of_two a b (first_fault faults))

-- the first fault of a walk over the faults is the first of the list
pub first_with-none : (faults : List Fault) → first_with None faults ≡ first_fault faults
first_with-none [] = refl
first_with-none (a ∷ faults) = with_some a faults

-- ---- two faults, and two lists of faults, in either order

same_fault : (a b : Fault) → NoLater a b → NoLater b a → a ≡ b
same_fault a b (inl x) (inl y) = absurd (omega (arith, x, y))
same_fault a b (inl x) (inr y) = absurd (omega (arith, x, y.0))
same_fault a b (inr x) (inl y) = absurd (omega (arith, x.0, y))
same_fault a b (inr x) (inr y) = let rules : a.rule ≡ b.rule = omega (arith, x.1, y.1) in λ i. record { place = x.0 i; rule = rules i }

weaker : (a b : Fault) → Before a b → NoLater a b
weaker a b (inl x) = inl x
weaker a b (inr x) = inr (x.0, omega (arith, x.1))

either : (a b : Fault) (x y : Bool) → is_no_later a b ≡ x → is_no_later b a ≡ y → cond x a b ≡ cond y b a
either a b true true e g = same_fault a b (no_later a b e) (no_later b a g)
either a b true false e g = refl
either a b false true e g = refl
either a b false false e g = absurd (clash b a (weaker b a (before a b e)) (before b a g))

swap_two : (o : Option Fault) (a b : Fault) → earlier (earlier o a) b ≡ earlier (earlier o b) a
swap_two None a b = ap Some (either a b _ _ refl refl)
swap_two (Some c) a b = ap Some (grouped c a b _ _ refl refl ∙ ap (lesser c) (either a b _ _ refl refl) ∙ sym (grouped c b a _ _ refl refl))

swap_one : (o : Option Fault) (a : Fault) (faults : List Fault) → first_with (earlier o a) faults ≡ earlier (first_with o faults) a
swap_one o a [] = refl
swap_one o a (b ∷ faults) = ap (λ q. first_with q faults) (swap_two o a b) ∙ swap_one (earlier o b) a faults

pub swap : (o : Option Fault) (xs ys : List Fault) → first_with (first_with o xs) ys ≡ first_with (first_with o ys) xs
swap o [] ys = refl
swap o (x ∷ xs) ys = swap (earlier o x) xs ys ∙ ap (λ q. first_with q xs) (swap_one o x ys)
