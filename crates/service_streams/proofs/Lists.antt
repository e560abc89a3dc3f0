-- Lists in the order of others, and lists without their last element.
use Rattle.std.proofs.Common.{◌≡◌, inl, inr, List, [], ◌∷◌, ◌++◌, refl, ap}
use Rattle.service_streams.specs.Streams.{IsSubsequence, but_last}

module _ {X : Type 0} where
  subsequence-same : (xs : List X) → IsSubsequence xs xs
  subsequence-same [] = tt
  subsequence-same (x ∷ xs) = inl (refl, subsequence-same xs)

  -- the longer list may have more, before and behind

  subsequence-later : (xs : List X) (y : X) (ys : List X) → IsSubsequence xs ys → IsSubsequence xs (y ∷ ys)
  subsequence-later [] y ys is = tt
  subsequence-later (x ∷ xs) y ys is = inr is

  subsequence-behind : (ys zs : List X) → IsSubsequence zs (ys ++ zs)
  subsequence-behind [] zs = subsequence-same zs
  subsequence-behind (y ∷ ys) zs = subsequence-later zs y (ys ++ zs) (subsequence-behind ys zs)

  pub subsequence-more : (xs ys zs : List X) → IsSubsequence xs ys → IsSubsequence xs (ys ++ zs)
  subsequence-more [] ys zs is = tt
  subsequence-more (x ∷ xs) [] zs is = absurd is
  subsequence-more (x ∷ xs) (y ∷ ys) zs (inl both) = inl (both.0, subsequence-more xs ys zs both.1)
  subsequence-more (x ∷ xs) (y ∷ ys) zs (inr later) = inr (subsequence-more (x ∷ xs) ys zs later)

  pub subsequence-both : (xs ys zs : List X) → IsSubsequence xs ys → IsSubsequence (xs ++ zs) (ys ++ zs)
  subsequence-both [] ys zs is = subsequence-behind ys zs
  subsequence-both (x ∷ xs) [] zs is = absurd is
  subsequence-both (x ∷ xs) (y ∷ ys) zs (inl both) = inl (both.0, subsequence-both xs ys zs both.1)
  subsequence-both (x ∷ xs) (y ∷ ys) zs (inr later) = inr (subsequence-both (x ∷ xs) ys zs later)

  -- the shorter list may have less

  pub subsequence-front : (xs zs ys : List X) → IsSubsequence (xs ++ zs) ys → IsSubsequence xs ys
  subsequence-front [] zs ys is = tt
  subsequence-front (x ∷ xs) zs [] is = absurd is
  subsequence-front (x ∷ xs) zs (y ∷ ys) (inl both) = inl (both.0, subsequence-front xs zs ys both.1)
  subsequence-front (x ∷ xs) zs (y ∷ ys) (inr later) = inr (subsequence-front (x ∷ xs) zs ys later)

  pub subsequence-but_last : (xs ys : List X) → IsSubsequence xs ys → IsSubsequence (but_last xs) ys
  subsequence-but_last [] ys is = tt
  subsequence-but_last (x ∷ []) ys is = tt
  subsequence-but_last (x ∷ z ∷ xs) [] is = absurd is
  subsequence-but_last (x ∷ z ∷ xs) (y ∷ ys) (inl both) = inl (both.0, subsequence-but_last (z ∷ xs) ys both.1)
  subsequence-but_last (x ∷ z ∷ xs) (y ∷ ys) (inr later) = inr (subsequence-but_last (x ∷ z ∷ xs) ys later)

  pub but_last-more : (xs : List X) (x : X) → but_last (xs ++ x ∷ []) ≡ xs
  but_last-more [] x = refl
  but_last-more (y ∷ []) x = refl
  but_last-more (y ∷ z ∷ xs) x = ap (λ l. y ∷ l) (but_last-more (z ∷ xs) x)
