-- What a merge has not placed yet: a queue of entries for each kernel.
use Rattle.std.specs.Prelude.{◌≡◌, ◌≢◌, ℕ, ◌+◌, ◌<◌, ◌≤◌, IsTrue, List, [], ◌∷◌, length, map, slice_get}
use Rattle.std.specs.Prelude.{slice_index_or, Option, None, Some, MatchOption, nat_le, if◌then◌else◌}
use Rattle.std.specs.List.{sum_by}
use Rattle.journal_text.specs.declared.merging.Head.{Head}
use Rattle.kernel_entries.specs.Order.{stands_before}
use Rattle.kernel_entries.specs.declared.entry.Entry.{Entry}
use Rattle.kernel_entries.specs.declared.entry.Placed.{Placed}

-- the entries of one kernel
abbrev pub entries_at : List (List Entry) → ℕ → List Entry
entries_at lists kernel = slice_index_or lists kernel []

-- the stamp of the first entry
abbrev pub first_stamp : List Entry → Option ℕ
first_stamp entries = slice_get (map (λ e. e.stamp) entries) 0

-- a head stands before another, or is it
abbrev pub IsNoLater : Head → ℕ → ℕ → Type 0
IsNoLater head kernel stamp = (head.stamp ≤ stamp) × (head.stamp ≡ stamp → head.kernel ≤ kernel)

-- the first head so far and that of a later kernel, if it has one: the one with the smaller stamp, and the first where they are equal
abbrev pub earlier_head : Option Head → ℕ → Option ℕ → Option Head
earlier_head first kernel None = first
earlier_head None kernel (Some stamp) = Some (record { kernel = kernel; stamp = stamp })
earlier_head (Some head) kernel (Some stamp) =
    if nat_le head.stamp stamp then Some head else Some (record { kernel = kernel; stamp = stamp })

-- the first of the heads of the kernels below a number, if there is one
abbrev pub IsFirstBelow : List (List Entry) → ℕ → Option Head → Type 0
IsFirstBelow lists n first =
    MatchOption first
    ((k : ℕ) → k < n → first_stamp (entries_at lists k) ≡ None)
    (λ head. (head.kernel < n) × (first_stamp (entries_at lists head.kernel) ≡ Some head.stamp)
    × ((k : ℕ) → k < n → (stamp : ℕ) → first_stamp (entries_at lists k) ≡ Some stamp → IsNoLater head k stamp))

-- an entry of a kernel stands before the first entries of the others
abbrev pub StandsBeforeHeads : (ℕ → List Entry) → ℕ → Entry → Type 0
StandsBeforeHeads rests k e =
    (j : ℕ) → j ≢ k → (f : Entry) (fs : List Entry) → rests j ≡ f ∷ fs
    → IsTrue (stands_before (record { kernel = k; entry = e }) (record { kernel = j; entry = f }))

-- the entry that stands before all others was popped, and nothing else
pub record IsPopped (before after : List (List Entry)) (placed : Placed) : Type 0 where
  pub entry : entries_at before placed.kernel ≡ placed.entry ∷ entries_at after placed.kernel
  pub others : (k : ℕ) → k ≢ placed.kernel → entries_at after k ≡ entries_at before k
  pub first : StandsBeforeHeads (entries_at before) placed.kernel placed.entry
  pub count : sum_by length after + 1 ≡ sum_by length before
