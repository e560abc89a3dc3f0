-- Items behind items.
use Rattle.std.proofs.Common.{◌≡◌, ℕ, List, [], ◌∷◌, ◌++◌, ap, append_assoc, append-nil, refl, subst, sym, ◌∙◌}
use Rattle.charlotte_text.specs.Spelling.{number_text}
use Rattle.transcript_shown.specs.Listing.{ListingView, marked, with_item, with_items, with_more}

pub marked_none : (mark text : List ℕ) → text ≡ [] → marked mark text ≡ text
marked_none mark text none = subst (λ (t : List ℕ). marked mark t ≡ t) (sym none) refl

pub marked_some : (mark text : List ℕ) → (text ≡ [] → ⊥) → marked mark text ≡ text ++ mark
marked_some mark [] some = absurd (some refl)
marked_some mark (b ∷ bs) some = refl

pub no_more : (l : ListingView) → l ≡ with_more [] l
no_more l = ap (λ (t : List ℕ). record { text = t; mark = l.mark }) (sym (append-nil l.text))

pub more_more : (first more : List ℕ) (old so_far new : ListingView) → so_far ≡ with_more first old → new ≡ with_more more so_far → new ≡ with_more (first ++ more) old
more_more first more old so_far new before is = is ∙ ap (with_more more) before ∙ ap (λ (t : List ℕ). record { text = t; mark = old.mark }) (append_assoc old.text first more)

-- more of an item is a part of it
pub item_more : (item more : List ℕ) (old so_far new : ListingView) → so_far ≡ with_item item old → new ≡ with_more more so_far → new ≡ with_item (item ++ more) old
item_more item more old so_far new begun is =
    is ∙ ap (with_more more) begun ∙ ap (λ (t : List ℕ). record { text = t; mark = old.mark }) (append_assoc (marked old.mark old.text) item more)

-- a number ends an item
pub item_number : (item : List ℕ) (number shown : ℕ) (old so_far new : ListingView) → so_far ≡ with_item item old → shown ≡ number → new ≡ with_more (number_text shown) so_far → new ≡ with_item (item ++ number_text number) old
item_number item number shown old so_far new begun same is =
    item_more item (number_text shown) old so_far new begun is ∙ ap (λ (n : ℕ). with_item (item ++ number_text n) old) same

pub items_both : (xs ys : List (List ℕ)) (l : ListingView) → with_items (xs ++ ys) l ≡ with_items ys (with_items xs l)
items_both [] ys l = refl
items_both (x ∷ xs) ys l = items_both xs ys (with_item x l)

-- items that were added one after the other
pub items_more : (xs ys : List (List ℕ)) (old so_far new : ListingView) → so_far ≡ with_items xs old → new ≡ with_items ys so_far → new ≡ with_items (xs ++ ys) old
items_more xs ys old so_far new before more = more ∙ ap (with_items ys) before ∙ sym (items_both xs ys old)
