-- What is known of a ring whose taker looked.
use Rattle.std.proofs.Common.{◌≡◌, ◌⊎◌, inl, inr, ℕ, ◌+◌, ◌<◌, List, [], ◌∷◌, ◌++◌, length, set, get_or, refl, ap, sym, ◌∙◌, arith}
use Rattle.std.proofs.lemmas.List.{get_or_default, set-get_or}
use Rattle.kernel_net.specs.Rings.{Inlet, Learns}
use Rattle.kernel_net.specs.declared.letter.Letter.{Letter}

first-none : (xs ys : List Letter) → xs ++ ys ≡ [] → xs ≡ []
first-none [] ys is = refl
first-none (x ∷ xs) ys is = absurd (let no : x ∷ (xs ++ ys) ≡ [] = is in cc)

-- where no letter is known then, none was known before, and nothing changed
learns-none : (i j : Inlet) → Learns i j → j.known ≡ [] → (j ≡ i) × (i.known ≡ [])
learns-none i j ls none =
    let before : i.known ≡ [] = first-none i.known ls.known.0 (ls.known.1 ∙ none) in
    ((λ k. record { ring = ls.ring k; got = ls.got k; known = (none ∙ sym before) k }), before)

-- of one ring more no letter is known, and it is as it was
pub none-more : (all is : List Inlet) (at : ℕ) (i j : Inlet) → is ≡ all → ((q : ℕ) (d : Inlet) → q < at → (get_or all q d).known ≡ []) → at < length is → i ≡ get_or is at i → Learns i j → j.known ≡ []
    → (set is at j ≡ all) × ((q : ℕ) (d : Inlet) → q < at + 1 → (get_or all q d).known ≡ [])
none-more all is at i j same before there value ls none = (
  ap (set is at) ((learns-none i j ls none).0 ∙ value) ∙ set-get_or is at i ∙ same,
  λ q d below. by q d (split q below),
)
  where
    split : (q : ℕ) → q < at + 1 → (q < at) ⊎ (q ≡ at)
    split q below = grind (arith, below)

    by : (q : ℕ) (d : Inlet) → (q < at) ⊎ (q ≡ at) → (get_or all q d).known ≡ []
    by q d (inl less) = before q d less
    by q d (inr own) =
        ap (λ n. (get_or all n d).known) own ∙ ap (λ xs. (get_or xs at d).known) (sym same) ∙ ap (λ (x : Inlet). x.known) (get_or_default is at d i there ∙ sym value)
        ∙ (learns-none i j ls none).1
