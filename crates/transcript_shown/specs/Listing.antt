-- Texts of several items, with a mark between each two.
use Rattle.std.specs.Prelude.{ℕ, List, [], ◌∷◌, ◌++◌}

-- a text, and what stands between two items of it
pub record ListingView : Type 0 where
  pub text : List ℕ
  pub mark : List ℕ

-- behind a text, where something is there, stands the mark
abbrev pub marked : List ℕ → List ℕ → List ℕ
marked mark [] = []
marked mark (b ∷ bs) = (b ∷ bs) ++ mark

-- more of the last item
abbrev pub with_more : List ℕ → ListingView → ListingView
with_more more l = record { text = l.text ++ more; mark = l.mark }

-- an item behind those so far
abbrev pub with_item : List ℕ → ListingView → ListingView
with_item item l = record { text = marked l.mark l.text ++ item; mark = l.mark }

-- items behind those so far
abbrev pub with_items : List (List ℕ) → ListingView → ListingView
with_items [] l = l
with_items (item ∷ items) l = with_items items (with_item item l)

-- the text of these items alone
abbrev pub items_text : List ℕ → List (List ℕ) → List ℕ
items_text mark items = (with_items items (record { text = []; mark = mark })).text
