-- A turn of the first of nodes, and then of the others.
use Rattle.std.proofs.Common.{not, Bool, true, false, ◌≡◌, ◌⊎◌, inl, inr, ℕ, ◌+◌, ◌<◌, ◌≤◌, List, ◌∷◌, All, ap, refl, sym, subst, arith}
use Rattle.std.proofs.lemmas.List.Elements.{All-head, All-tail}
use Rattle.kernel_turns.specs.Left.{weight}
use Rattle.kernel_turns.specs.declared.node.Node.{Node}
use Rattle.kernel_worker.proofs.Progress.{left-less}
use Rattle.kernel_worker.specs.Rounds.{EachOf, Works, all_left}

module _ {X : Type 0} where
  pub all-first : (A : X → Type 0) (xs : List X) (x : X) (rest : List X) → xs ≡ x ∷ rest → All A xs → A x
  all-first A xs x rest is all = All-head A x rest (subst (All A) is all)

  pub all-rest : (A : X → Type 0) (xs : List X) (x : X) (rest : List X) → xs ≡ x ∷ rest → All A xs → All A rest
  all-rest A xs x rest is all = All-tail A x rest (subst (All A) is all)

  pub each-split : (R : X → X → Type 0) (xs : List X) (x : X) (rest : List X) (y : X) (ys : List X) → xs ≡ x ∷ rest → R x y → EachOf R rest ys → EachOf R xs (y ∷ ys)
  each-split R xs x rest y ys is one each = subst (λ (l : List X). EachOf R l (y ∷ ys)) (sym is) (one, each)

module _ {P W : Type 0} where
  -- an event of the first, or less left of the others: less is left of all
  pub split-falls : (xs : List (Node P W)) (x : Node P W) (rest : List (Node P W)) (y : Node P W) (ys : List (Node P W)) → xs ≡ x ∷ rest → Works x y → EachOf Works rest ys
      → (weight y.base < weight x.base) ⊎ (all_left ys < all_left rest) → all_left (y ∷ ys) < all_left xs
  split-falls xs x rest y ys is one each (inl fell) =
      let less : all_left ys ≤ all_left rest = left-less rest ys each in
      let all : all_left xs ≡ weight x.base + all_left rest = ap all_left is in
      omega (arith, fell)
  split-falls xs x rest y ys is one each (inr fell) =
      let less : weight y.base ≤ weight x.base = one.less in
      let all : all_left xs ≡ weight x.base + all_left rest = ap all_left is in
      omega (arith, fell)

pub either-fell : (event others : Bool) (E F : Type 0) → (event ≡ true → E) → (others ≡ true → F) → (event ≡ true) ⊎ (others ≡ true) → E ⊎ F
either-fell event others E F one rest (inl e) = inl (one e)
either-fell event others E F one rest (inr e) = inr (rest e)

pub not-false : (b : Bool) → not b ≡ false → b ≡ true
not-false true e = refl
not-false false e = let no : true ≡ false = e in absurd cc
