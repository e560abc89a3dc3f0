-- Lists of values that are made one after the other, and what they are made of.
use Rattle.std.proofs.Common.{◌≡◌, List, [], ◌∷◌, ◌++◌, sym, subst, append_assoc}
use Rattle.lynx_code.specs.Modules.{ArePairs}

pub pairs_append : {X Y : Type 0} (P : X → Y → Type 0) (xs xs' : List X) (ys ys' : List Y) → ArePairs P xs ys → ArePairs P xs' ys' → ArePairs P (xs ++ xs') (ys ++ ys')
pairs_append P [] xs' [] ys' h h' = h'
pairs_append P [] xs' (y ∷ ys) ys' h h' = absurd h
pairs_append P (x ∷ xs) xs' [] ys' h h' = absurd h
pairs_append P (x ∷ xs) xs' (y ∷ ys) ys' h h' = (h.0, pairs_append P xs xs' ys ys' h.1 h')

-- all that is made is what was made and what is left to make
abbrev pub IsLeft : {X Y : Type 0} → (X → Y → Type 0) → List X → List X → List Y → Type 0
IsLeft {Y = Y} P whole left made = (rest : List Y) → ArePairs P left rest → ArePairs P whole (made ++ rest)

-- a value more is made
pub one_made : {X Y : Type 0} (P : X → Y → Type 0) (whole left : List X) (x : X) (made : List Y) (y : Y) → P x y → IsLeft P whole (x ∷ left) made → IsLeft P whole left (made ++ y ∷ [])
one_made P whole left x made y h before rest pairs = subst (ArePairs P whole) (sym (append_assoc made (y ∷ []) rest)) (before (y ∷ rest) (h, pairs))

-- nothing is left
pub all_made : {X Y : Type 0} (P : X → Y → Type 0) (whole : List X) (made : List Y) → made ++ [] ≡ made → IsLeft P whole [] made → ArePairs P whole made
all_made P whole made e h = subst (ArePairs P whole) e (h [] tt)
