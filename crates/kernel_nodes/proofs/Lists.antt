-- Lists in which one element is set, seen through a function.
use Rattle.std.proofs.Common.{◌≡◌, ◌≢◌, ℕ, ◌<◌, List, length, map, set, get_or, ap, ◌∙◌, sym, subst}
use Rattle.std.proofs.lemmas.List.{map-set, get_or-set_same, get_or-set_other, get_or-map, length-map}

-- the element that is set
pub map-set_same : {X Y : Type 0} (f : X → Y) (xs : List X) (i : ℕ) (x : X) (d : Y) → i < length xs → get_or (map f (set xs i x)) i d ≡ f x
map-set_same f xs i x d below =
    ap (λ l. get_or l i d) (map-set f xs i x)
    ∙ get_or-set_same (map f xs) i (f x) d (subst (λ n. i < n) (sym (length-map xs f)) below)

-- the others
pub map-set_other : {X Y : Type 0} (f : X → Y) (xs : List X) (i j : ℕ) (x : X) (d : Y) → j ≢ i → get_or (map f (set xs i x)) j d ≡ get_or (map f xs) j d
map-set_other f xs i j x d other =
    ap (λ l. get_or l j d) (map-set f xs i x) ∙ get_or-set_other (map f xs) i j (f x) d other

-- an element as it is read
pub map-read : {X Y : Type 0} (f : X → Y) (xs : List X) (i : ℕ) (x : X) (d : Y) → i < length xs → x ≡ get_or xs i x → get_or (map f xs) i d ≡ f x
map-read f xs i x d below is = get_or-map f xs i x d below ∙ ap f (sym is)
