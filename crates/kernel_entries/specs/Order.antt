-- The order of entries, and merges of journals.
use Rattle.std.specs.Prelude.{◌≡◌, ℕ, Bool, nat_eq, nat_lt, ◌&&◌, ◌||◌, IsTrue, List, [], ◌∷◌, map, slice_index_or}
use Rattle.std.specs.List.{filter}
use Rattle.kernel_entries.specs.declared.entry.Entry.{Entry}
use Rattle.kernel_entries.specs.declared.entry.Placed.{Placed}

-- an entry stands before another: by stamp, and at the same stamp by kernel
abbrev pub stands_before : Placed → Placed → Bool
stands_before a b =
    nat_lt a.entry.stamp b.entry.stamp || (nat_eq a.entry.stamp b.entry.stamp && nat_lt a.kernel b.kernel)

-- each entry stands before the next
abbrev pub AreInOrder : List Placed → Type 0
AreInOrder [] = Unit {0}
AreInOrder (a ∷ []) = Unit {0}
AreInOrder (a ∷ b ∷ ps) = IsTrue (stands_before a b) × AreInOrder (b ∷ ps)

-- the entries of one kernel, in order
abbrev pub of_kernel : ℕ → List Placed → List Entry
of_kernel k ps = map (λ p. p.entry) (filter (λ p. nat_eq p.kernel k) ps)

-- the merge of journals, one for each kernel in order: all their entries by stamp and kernel
pub record IsMerge (journals : List (List Entry)) (merged : List Placed) : Type 0 where
  pub order : AreInOrder merged
  pub entries : (k : ℕ) → of_kernel k merged ≡ slice_index_or journals k []
