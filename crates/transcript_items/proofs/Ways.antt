-- One number more of those below a number.
use Rattle.std.proofs.Common.{◌≡◌, ℕ, zero, suc, ◌+◌, List, [], ◌∷◌, ◌++◌, ap, append_assoc, refl, sym, ◌∙◌, arith, add-one}
use Rattle.std.specs.List.{flat_map, range_with_len}
use Rattle.std.proofs.lemmas.Grind.{flat_map-append}
use Rattle.std.proofs.lemmas.List.{append-nil}
use Rattle.transcript_shown.specs.Listing.{ListingView, with_items}
use Rattle.transcript_shown.proofs.Listings.{items_more}

range-more : (a n : ℕ) → range_with_len a (suc n) ≡ range_with_len a n ++ (a + n) ∷ []
range-more a zero = let e : a ≡ a + 0 = omega arith in ap (λ (m : ℕ). m ∷ []) e
range-more a (suc n) = let e : a + 1 + n ≡ a + suc n = omega arith in ap (λ (rest : List ℕ). a ∷ rest) (range-more (a + 1) n ∙ ap (λ (m : ℕ). range_with_len (a + 1) n ++ m ∷ []) e)

pub flat-more : {A : Type 0} (f : ℕ → List A) (n : ℕ) → flat_map f (range_with_len 0 (n + 1)) ≡ flat_map f (range_with_len 0 n) ++ f n
flat-more {A} f n =
    let same : 0 + n ≡ n = omega arith in
    ap (λ (m : ℕ). flat_map f (range_with_len 0 m)) (add-one n) ∙ ap (flat_map f) (range-more 0 n) ∙ ap (λ (m : ℕ). flat_map f (range_with_len 0 n ++ m ∷ [])) same ∙ flat_map-append f (range_with_len 0 n) (n ∷ [])
    ∙ ap (λ (last : List A). flat_map f (range_with_len 0 n) ++ last) (append-nil (f n))

-- what one number more adds, behind what was there
pub adds-more : {A : Type 0} (f : ℕ → List A) (n : ℕ) (old so_far new : List A) → so_far ≡ old ++ flat_map f (range_with_len 0 n) → new ≡ so_far ++ f n → new ≡ old ++ flat_map f (range_with_len 0 (n + 1))
adds-more {A} f n old so_far new before more =
    more ∙ ap (λ (xs : List A). xs ++ f n) before ∙ append_assoc old (flat_map f (range_with_len 0 n)) (f n) ∙ ap (λ (xs : List A). old ++ xs) (sym (flat-more f n))

-- what one number more adds to a listing
pub lists-more : (f : ℕ → List (List ℕ)) (n : ℕ) (old so_far new : ListingView) → so_far ≡ with_items (flat_map f (range_with_len 0 n)) old → new ≡ with_items (f n) so_far → new ≡ with_items (flat_map f (range_with_len 0 (n + 1))) old
lists-more f n old so_far new before more =
    items_more (flat_map f (range_with_len 0 n)) (f n) old so_far new before more ∙ ap (λ (items : List (List ℕ)). with_items items old) (sym (flat-more f n))
