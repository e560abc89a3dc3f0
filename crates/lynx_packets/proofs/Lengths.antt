-- The types that a signature tells have a length that rows may have.
use Rattle.std.proofs.Common.{◌≡◌, ℕ, suc, ◌-◌, ◌≤◌, Bool, true, false, cond, List, [], ◌∷◌, length, Option, Some, None, Result, Ok, refl, sym, ap, ◌∙◌, arith, pos}
use Rattle.std.specs.Prelude.{IsTrue, IfSome, ◌&&◌, nat_le}
use Rattle.std.specs.List.{AllByRecursion}
use Rattle.lynx_tree.specs.declared.declaration.TypeName.{TypeName}
use Rattle.lynx_tree.specs.declared.declaration.TypeName.TheVariants as types
use Rattle.typing_rules.specs.Types.{has_length, is_length}
use Rattle.lynx_packets.specs.declared.spot.Part.TheVariants.{Arguments}
use Rattle.lynx_packets.specs.declared.spot.Word.{Word}
use Rattle.lynx_packets.specs.declared.spot.Word.TheVariants as words
use Rattle.lynx_packets.specs.declared.spot.Spot.{Spot}
use Rattle.lynx_packets.specs.declared.spot.Spot.TheVariants as spots
use Rattle.lynx_packets.specs.Spots.{next_spot, onward, type_told, type_of_word, is_last, link_told, with_told, is_done, types_at}
use Rattle.lynx_packets.proofs.Sizes.{bind_ok, ok_is}
use Rattle.lynx_packets.proofs.Types.{types_more, types_done}

abbrev pub Fits : TypeName → Type 0
Fits t = IsTrue (has_length t)

word_fits : (word : Word) → IfSome (type_of_word word) Fits
word_fits words.Row = tt
word_fits _ = refl

if_fits : (b : Bool) (o : Option TypeName) → IfSome o Fits → IfSome (cond b o None) Fits
if_fits true o fits = fits
if_fits false o fits = tt

-- a number that a test lets through is one of these
within : (low high n : ℕ) → (nat_le low n && nat_le n high) ≡ true → (low ≤ n) × (n ≤ high)
within low high n e = grind (arith, e)

row_fits : (n : ℕ) → 1 ≤ n → n ≤ 16 → is_length (pos n) ≡ true
row_fits n some few = grind (arith, some, few)

digit_fits : (b : ℕ) (c : Bool) → (nat_le 50 b && nat_le b 57) ≡ c → IfSome (cond c (Some (types.Row (pos (b - 48)))) None) Fits
digit_fits b true e = let w = within 50 57 b e in row_fits (b - 48) (omega (arith, w.0)) (omega (arith, w.1))
digit_fits b false e = tt

one_fits : (b : ℕ) (c : Bool) → (nat_le 48 b && nat_le b 54) ≡ c → is_length (cond c (pos (b - 38)) (pos 1)) ≡ true
one_fits b true e = let w = within 48 54 b e in row_fits (b - 38) (omega (arith, w.0)) (omega (arith, w.1))
one_fits b false e = refl

told_fits : (spot : Spot) (b : ℕ) → IfSome (type_told spot b) Fits
unfolding type_told
told_fits (spots.Within Arguments word at) b = if_fits (is_last word at) (type_of_word word) (word_fits word)
told_fits (spots.Digits Arguments) b = digit_fits b (nat_le 50 b && nat_le b 57) refl
told_fits (spots.One Arguments) b = one_fits b (nat_le 48 b && nat_le b 54) refl
told_fits _ b = tt

with_fits : (o : Option TypeName) (read : Result (List TypeName × List ℕ) ℕ) (x : List TypeName × List ℕ) → IfSome o Fits → ((y : List TypeName × List ℕ) → read ≡ Ok y → AllByRecursion Fits y.0) → with_told o read ≡ Ok x → AllByRecursion Fits x.0
with_fits None read x fits others e = others x e
with_fits (Some t) read x fits others e =
    let a = bind_ok read (λ o. Ok (t ∷ o.0, o.1)) x e in
    let is : t ∷ a.0.0 ≡ x.0 = ap (λ (y : List TypeName × List ℕ). y.0) (ok_is (t ∷ a.0.0, a.0.1) x a.2) in
    rw (← is) (fits, others a.0 a.1)

step_fits : (o : Option Spot) (n : ℕ) (f : Spot → Result (List TypeName × List ℕ) ℕ) (x : List TypeName × List ℕ) → ((next : Spot) → f next ≡ Ok x → AllByRecursion Fits x.0) → onward o n f ≡ Ok x → AllByRecursion Fits x.0
step_fits None n f x each e = absurd cc
step_fits (Some next) n f x each e = each next e

abbrev no_type : List TypeName
no_type = []

no_types : (bytes : List ℕ) (x : List TypeName × List ℕ) (r : Result (List TypeName × List ℕ) ℕ) → r ≡ Ok ([], bytes) → r ≡ Ok x → AllByRecursion Fits x.0
no_types bytes x r none e =
    let is : no_type ≡ x.0 = ap (λ (y : List TypeName × List ℕ). y.0) (ok_is ([], bytes) x (sym none ∙ e)) in
    rw (← is) tt

nothing : (links left : ℕ) (spot : Spot) (x : List TypeName × List ℕ) → types_at links left spot [] ≡ Ok x → AllByRecursion Fits x.0
unfolding types_at
nothing links left spots.Done x e = no_types [] x (types_at links left spots.Done []) refl e
nothing links left _ x e = absurd cc

pub types_fit : (bytes : List ℕ) (links left : ℕ) (spot : Spot) (done : Bool) (x : List TypeName × List ℕ) → is_done spot ≡ done → types_at links left spot bytes ≡ Ok x → AllByRecursion Fits x.0
types_fit [] links left spot done x is e = nothing links left spot x e
types_fit (b ∷ bs) links left spot true x is e = no_types (b ∷ bs) x (types_at links left spot (b ∷ bs)) (types_done links left spot (b ∷ bs) is) e
types_fit (b ∷ bs) links left spot false x is e =
    step_fits (next_spot links left spot b) (suc (length bs)) (λ next. with_told (type_told spot b) (types_at (links - link_told (type_told spot b)) (left - 1) next bs)) x
    (λ next h. with_fits (type_told spot b) (types_at (links - link_told (type_told spot b)) (left - 1) next bs) x (told_fits spot b) (λ y g. types_fit bs (links - link_told (type_told spot b)) (left - 1) next (is_done next) y refl g) h)
    (sym (types_more links left spot b bs is) ∙ e)
