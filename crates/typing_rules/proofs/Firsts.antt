-- The first fault of a list is the least of all, by place and then by rule.
use Rattle.std.proofs.Common.{◌≡◌, zero, suc, ◌<◌, ◌≤◌, ◌⊎◌, inl, inr, List, [], ◌∷◌, Bool, true, false, Option, Some, None, cond, ◌||◌, ◌&&◌, ltb, eqb, leb, refl, sym, ap, subst, arith}
use Rattle.std.specs.Prelude.{Contains}
use Rattle.std.specs.Bool.{passes, fails}
use Rattle.std.proofs.lemmas.Bool.{ltb-true, ltb-false, eqb-true, eqb-false, leb-true, leb-false}
use Rattle.lynx_tree.specs.Trees.{ModuleTree}
use Rattle.typing_rules.specs.Rules.{Fault}
use Rattle.typing_rules.specs.Modules.{IsWellTyped, IsFirstFault, is_no_later, first_of_two, first_fault, module_faults}

abbrev pub NoLater : Fault → Fault → Type 0
NoLater a b = (a.place < b.place) ⊎ ((a.place ≡ b.place) × (a.rule ≤ b.rule))

pub true_is_no_later : (a b : Fault) (x y z : Bool) → ltb a.place b.place ≡ x → eqb a.place b.place ≡ y → leb a.rule b.rule ≡ z → (x || (y && z)) ≡ true → NoLater a b
true_is_no_later a b true y z ex ey ez e = inl (ltb-true a.place b.place ex)
true_is_no_later a b false true true ex ey ez e = inr (eqb-true a.place b.place ey, leb-true a.rule b.rule ez)
true_is_no_later a b false true false ex ey ez e = absurd (passes false e)
true_is_no_later a b false false z ex ey ez e = absurd (passes false e)

false_is_later : (a b : Fault) (x y z : Bool) → ltb a.place b.place ≡ x → eqb a.place b.place ≡ y → leb a.rule b.rule ≡ z → (x || (y && z)) ≡ false → NoLater b a
false_is_later a b true y z ex ey ez e = absurd (fails true e)
false_is_later a b false true true ex ey ez e = absurd (fails true e)
false_is_later a b false true false ex ey ez e = inr (sym (eqb-true a.place b.place ey), omega (arith, leb-false a.rule b.rule ez))
false_is_later a b false false z ex ey ez e = inl (omega (arith, ltb-false a.place b.place ex, eqb-false a.place b.place ey))

pub goes_on : (a b c : Fault) → NoLater a b → NoLater b c → NoLater a c
goes_on a b c (inl x) (inl y) = inl (omega (arith, x, y))
goes_on a b c (inl x) (inr y) = inl (omega (arith, x, y.0))
goes_on a b c (inr x) (inl y) = inl (omega (arith, x.0, y))
goes_on a b c (inr x) (inr y) = inr (omega (arith, x.0, y.0), omega (arith, x.1, y.1))

itself : (a : Fault) → NoLater a a
itself a = inr (refl, omega arith)

-- no fault of the list is earlier
abbrev pub BeforeAll : Fault → List Fault → Type 0
BeforeAll a faults = (f : Fault) → Contains faults f → NoLater a f

here : (f : Fault) (fs : List Fault) → Contains (f ∷ fs) f
here f fs = (zero, omega arith, refl)

there : (f g : Fault) (fs : List Fault) → Contains fs g → Contains (f ∷ fs) g
there f g fs c = (suc c.0, omega (arith, c.1), c.2)

one_of_none : (f : Fault) → Contains [] f → ⊥
one_of_none f c = omega (arith, c.1)

before_one_more : (a f : Fault) (fs : List Fault) → NoLater a f → BeforeAll a fs → BeforeAll a (f ∷ fs)
before_one_more a f fs first rest g (zero, lt, e) = subst (NoLater a) e first
before_one_more a f fs first rest g (suc k, lt, e) = rest g (k, omega (arith, lt), e)

-- what the first fault is to its list: there is none in an empty one
abbrev pub IsLeastOf : List Fault → Option Fault → Type 0
IsLeastOf faults None = (f : Fault) → Contains faults f → ⊥
IsLeastOf faults (Some a) = Contains faults a × BeforeAll a faults

of_two : (f g : Fault) (fs : List Fault) (b : Bool) → is_no_later f g ≡ b → IsLeastOf fs (Some g) → IsLeastOf (f ∷ fs) (Some (cond b f g))
of_two f g fs true e least =
    (here f fs, before_one_more f f fs (itself f) (λ x c. goes_on f g x (true_is_no_later f g _ _ _ refl refl refl e) (least.1 x c)))
of_two f g fs false e least = (there f g fs least.0, before_one_more g f fs (false_is_later f g _ _ _ refl refl refl e) least.1)

one_more : (f : Fault) (fs : List Fault) (o : Option Fault) → IsLeastOf fs o → IsLeastOf (f ∷ fs) (Some (first_of_two f o))
one_more f fs None none = (here f fs, before_one_more f f fs (itself f) (λ x c. absurd (none x c)))
one_more f fs (Some g) least = of_two f g fs (is_no_later f g) refl least

pub first_of_all : (faults : List Fault) → IsLeastOf faults (first_fault faults)
first_of_all [] = one_of_none
first_of_all (f ∷ fs) = one_more f fs (first_fault fs) (first_of_all fs)

pub first_is_least : (m : ModuleTree) (first : Fault) → first_fault (module_faults m) ≡ Some first → IsFirstFault m first
first_is_least m first e =
    let least : IsLeastOf (module_faults m) (Some first) = subst (IsLeastOf (module_faults m)) e (first_of_all (module_faults m)) in
    record { fails = least.0; least = λ rule at fails. least.1 (record { place = at; rule = rule }) fails }

-- there is no first fault exactly where the module is well typed
pub none_is_well_typed : (m : ModuleTree) → first_fault (module_faults m) ≡ None → IsWellTyped m
none_is_well_typed m e rule at fails = subst (IsLeastOf (module_faults m)) e (first_of_all (module_faults m)) (record { place = at; rule = rule }) fails

-- ---- and conversely

least_is_none : (faults : List Fault) (o : Option Fault) → IsLeastOf faults o → ((f : Fault) → Contains faults f → ⊥) → o ≡ None
least_is_none faults None least none = refl
least_is_none faults (Some a) least none = absurd (none a least.0)

-- where the module is well typed there is no first fault
pub well_typed_is_none : (m : ModuleTree) → IsWellTyped m → first_fault (module_faults m) ≡ None
well_typed_is_none m well = least_is_none (module_faults m) _ (first_of_all (module_faults m)) (λ f c. well f.rule f.place c)

same_fault : (a b : Fault) → NoLater a b → NoLater b a → a ≡ b
same_fault a b (inl x) (inl y) = absurd (omega (arith, x, y))
same_fault a b (inl x) (inr y) = absurd (omega (arith, x, y.0))
same_fault a b (inr x) (inl y) = absurd (omega (arith, x.0, y))
same_fault a b (inr x) (inr y) = let rules : a.rule ≡ b.rule = omega (arith, x.1, y.1) in λ i. record { place = x.0 i; rule = rules i }

least_is_one : (faults : List Fault) (o : Option Fault) (b : Fault) → IsLeastOf faults o → Contains faults b → BeforeAll b faults → o ≡ Some b
least_is_one faults None b least c before = absurd (least b c)
least_is_one faults (Some a) b least c before = ap Some (same_fault a b (least.1 b c) (before a least.0))

-- the first fault is no other than the one that `first_fault` computes
pub least_is_first : (m : ModuleTree) (first : Fault) → IsFirstFault m first → first_fault (module_faults m) ≡ Some first
least_is_first m first is = least_is_one (module_faults m) _ first (first_of_all (module_faults m)) is.fails (λ f c. is.least f.rule f.place c)
