-- Values that come on a stack, or are read from its top, one after the other.
use Rattle.std.proofs.Common.{arith, ◌≡◌, ℕ, suc, ◌+◌, ◌<◌, Option, Some, None, List, [], ◌∷◌, ◌++◌, get_or, length, take, drop, reverse, ap, sym, refl, ◌∙◌, append_assoc, add-one}
use Rattle.std.proofs.Math.Seq.{take-suc, drop-cons}
use Rattle.std.proofs.lemmas.List.{map-append, reverse-append}
use Rattle.lynx_meaning.specs.Values.{Value}
use Rattle.machine_values.specs.Told.{value_of, values_of}
use Rattle.machine_values.specs.declared.value.Value as taken
use Rattle.machine_stack.specs.Stacks.{IsTaken}
use Rattle.machine_stack.proofs.Stacked.{last_first}

first_more : (vs : List taken.Value) (i : ℕ) (v : taken.Value) → i < length vs → v ≡ get_or vs i v → take (i + 1) vs ≡ take i vs ++ v ∷ []
first_more vs i v there is = rw add-one (take-suc vs i v there ∙ ap (λ (w : taken.Value). take i vs ++ w ∷ []) (sym is))

one_more : (got : List taken.Value) (v : taken.Value) → values_of (got ++ v ∷ []) ≡ values_of got ++ value_of v ∷ []
one_more got v = map-append value_of got (v ∷ [])

-- one value more is pushed
pub pushed_more : (vs : List taken.Value) (i : ℕ) (v : taken.Value) (below : List Value) → i < length vs → v ≡ get_or vs i v →
    value_of v ∷ (reverse (values_of (take i vs)) ++ below) ≡ reverse (values_of (take (i + 1) vs)) ++ below
pushed_more vs i v below there is =
    sym
    (ap
    (λ (xs : List Value). reverse xs ++ below)
    (ap values_of (first_more vs i v there is) ∙ one_more (take i vs) v)
    ∙ ap (λ (xs : List Value). xs ++ below) (last_first (values_of (take i vs)) (value_of v)))

-- one value more is read
pub gathered_more : (m n : ℕ) (got : List taken.Value) (before now : List Value) (v : taken.Value) → n ≡ suc m → before ≡ value_of v ∷ now →
    values_of (got ++ v ∷ []) ++ take m now ≡ values_of got ++ take n before
gathered_more m n got before now v size is =
    ap (λ (xs : List Value). xs ++ take m now) (one_more got v)
    ∙ append_assoc (values_of got) (value_of v ∷ []) (take m now)
    ∙ ap (λ (xs : List Value). values_of got ++ take (suc m) xs) (sym is)
    ∙ ap (λ k. values_of got ++ take k before) (sym size)

-- one value more is passed over
pub passed_more : (i : ℕ) (whole before now : List Value) (o : Option taken.Value) → i < length whole → before ≡ drop i whole → IsTaken before now o → now ≡ drop (i + 1) whole
passed_more i [] before now o there is taken = let none : i < 0 = there in absurd (omega arith)
passed_more i (w ∷ ws) before now None there is taken = let e = sym taken.0 ∙ is ∙ drop-cons (w ∷ ws) i w there in cc
passed_more i (w ∷ ws) before now (Some v) there is taken = let e = sym taken ∙ is ∙ drop-cons (w ∷ ws) i w there in rw add-one (cc)

-- values in the other order
pub turned : (vs : List taken.Value) → values_of (reverse vs) ≡ reverse (values_of vs)
turned [] = refl
turned (v ∷ vs) =
    ap values_of (reverse-append (v ∷ []) vs)
    ∙ one_more (reverse vs) v
    ∙ ap (λ (xs : List Value). xs ++ value_of v ∷ []) (turned vs)
    ∙ sym (reverse-append (value_of v ∷ []) (values_of vs))
