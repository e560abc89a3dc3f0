-- The stamps of entries.
use Rattle.std.proofs.Common.{ℕ, ◌<◌, ◌≤◌, arith, List, [], ◌∷◌, ◌++◌, All}
use Rattle.std.proofs.lemmas.List.Elements.{All-push, All-head, All-tail, All-weaker}
use Rattle.journal_text.specs.Journal.{IsAfterLast}
use Rattle.kernel_entries.specs.declared.entry.Entry.{Entry}

abbrev pub IsUpTo : ℕ → Entry → Type 0
IsUpTo n e = e.stamp ≤ n

-- what is greater than each is greater than the last
pub after_last : (es : List Entry) (n m : ℕ) → All (IsUpTo n) es → n < m → IsAfterLast es m
after_last [] n m all lt = tt
after_last (e ∷ []) n m all lt = let le : e.stamp ≤ n = All-head (IsUpTo n) e [] all in omega arith
after_last (e ∷ f ∷ es) n m all lt = after_last (f ∷ es) n m (All-tail (IsUpTo n) e (f ∷ es) all) lt

-- one entry more
pub up_to-push : (es : List Entry) (e : Entry) (n m : ℕ) → All (IsUpTo n) es → n ≤ m → e.stamp ≤ m → All (IsUpTo m) (es ++ e ∷ [])
up_to-push es e n m all le at = All-push (IsUpTo m) es e (All-weaker (IsUpTo n) (IsUpTo m) (λ x h. later x h) es all) at
  where
    later : (x : Entry) → x.stamp ≤ n → x.stamp ≤ m
    later x h = omega arith
