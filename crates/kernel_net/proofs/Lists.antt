-- Lists in which one element is set, seen through a function.
use Rattle.std.proofs.Common.{◌≡◌, ◌≢◌, ℕ, ◌<◌, List, ◌++◌, length, map, set, get_or, ap, ◌∙◌, sym, subst}
use Rattle.std.proofs.lemmas.List.{map-set, get_or-set_same, get_or-set_other, get_or-map, length-map, append_assoc}
use Rattle.std.proofs.Math.Seq.{map-set_same}
use mathlib.Core.List.{IsPrefix}

module _ {X Y : Type 0} (f : X → Y) (xs : List X) (i : ℕ) (x y : X) (below : i < length xs) (is : x ≡ get_or xs i x) where
  -- an element as it is read
  pub read-at : (d : Y) → get_or (map f xs) i d ≡ f x
  read-at d = get_or-map f xs i x d below ∙ ap f (sym is)

  -- the element that is set
  pub set-at : (d : Y) → get_or (map f (set xs i y)) i d ≡ f y
  set-at d = ap (λ l. get_or l i d) (map-set f xs i y) ∙ get_or-set_same (map f xs) i (f y) d (subst (λ n. i < n) (sym (length-map xs f)) below)

  -- the others
  pub set-others : (j : ℕ) (d : Y) → j ≢ i → get_or (map f (set xs i y)) j d ≡ get_or (map f xs) j d
  set-others j d other = ap (λ l. get_or l j d) (map-set f xs i y) ∙ get_or-set_other (map f xs) i j (f y) d other

  -- where the function does not tell the element from the one that was there
  pub set-kept : f y ≡ f x → map f (set xs i y) ≡ map f xs
  set-kept same = map-set_same f xs i y x (same ∙ ap f is)

pub prefix-trans : {X : Type 0} (xs ys zs : List X) → IsPrefix xs ys → IsPrefix ys zs → IsPrefix xs zs
prefix-trans xs ys zs p q = (p.0 ++ q.0, sym (append_assoc xs p.0 q.0) ∙ ap (λ l. l ++ q.0) p.1 ∙ q.1)
