-- There is a merge of journals whose stamps rise: the first entry of all is placed, again and again.
use Rattle.std.proofs.Common.{◌≡◌, ℕ, zero, suc, ◌<◌, List, [], ◌∷◌, ◌++◌, length, set, Option, Some, None, refl, ap, sym, subst, ◌∙◌, arith, rules}
use Rattle.std.specs.List.{sum_by}
use Rattle.journal_text.proofs.Heads.{IsFirstBelow-next, nothing-left}
use Rattle.journal_text.proofs.Merges.{AreRising-popped, IsPopped-first, IsSoFar, IsSoFar-end, IsSoFar-popped}
use Rattle.journal_text.specs.Heads.{IsFirstBelow, IsPopped, earlier_head, entries_at, first_stamp}
use Rattle.journal_text.specs.Journal.{AreRising, placed_at}
use Rattle.journal_text.specs.declared.merging.Head.{Head}
use Rattle.kernel_entries.specs.Order.{IsMerge}
use Rattle.kernel_entries.specs.declared.entry.Entry.{Entry}
use Rattle.kernel_entries.specs.declared.entry.Placed.{Placed}

first-below : (ls : List (List Entry)) (n : ℕ) → (first : Option Head) × IsFirstBelow ls n first
first-below ls zero = (None, λ k below. absurd (omega (arith, below)))
first-below ls (suc n) =
    let f = first-below ls n in
    let first : Option Head = earlier_head f.0 n (first_stamp (entries_at ls n)) in
    (first, subst (λ i. IsFirstBelow ls i first) (omega arith) (IsFirstBelow-next ls n f.0 (first_stamp (entries_at ls n)) f.1 refl))

-- what was placed is the merge, or there is a first entry of all that are left
data Next (js ls : List (List Entry)) (placed : List Placed) : Type 0 where
  Whole : IsMerge js placed → Next js ls placed
  More : (after : List (List Entry)) (p : Placed) → IsPopped ls after p → Next js ls placed

next-of : (js ls : List (List Entry)) (placed : List Placed) → IsSoFar (entries_at js) (entries_at ls) placed → Next js ls placed
next-of js ls placed so_far = by (first-below ls (length ls))
  where
    pops : (head : Head) (es : List Entry) → IsFirstBelow ls (length ls) (Some head) → entries_at ls head.kernel ≡ es → Next js ls placed
    pops head [] first here = let no : None ≡ Some head.stamp = sym (ap first_stamp here) ∙ first.1 in absurd cc
    pops head (e ∷ es) first here = More (set ls head.kernel es) (placed_at head.kernel e) (IsPopped-first ls (length ls) head e es refl first here)

    by : (first : Option Head) × IsFirstBelow ls (length ls) first → Next js ls placed
    by (None, none) = Whole (record { order = so_far.order; entries = IsSoFar-end (entries_at js) (entries_at ls) placed so_far (nothing-left ls (length ls) (omega arith) none) })
    by (Some head, first) = pops head (entries_at ls head.kernel) first refl

merge-on : (room : ℕ) (js ls : List (List Entry)) (placed : List Placed) → sum_by length ls < room → ((k : ℕ) → AreRising (entries_at ls k)) → IsSoFar (entries_at js) (entries_at ls) placed → (merged : List Placed) × IsMerge js merged
merge-on zero js ls placed few rising so_far = absurd (omega (arith, few))
merge-on (suc room) js ls placed few rising so_far =
    by (next-of js ls placed so_far)
    (λ after p popped. merge-on room js after (placed ++ p ∷ []) (omega (arith, few, popped.count)) (AreRising-popped ls after p popped rising) (IsSoFar-popped (entries_at js) ls after placed p popped (rising p.kernel) so_far))
  where
    by : Next js ls placed → ((after : List (List Entry)) (p : Placed) → IsPopped ls after p → (merged : List Placed) × IsMerge js merged) → (merged : List Placed) × IsMerge js merged
    by (Whole merge) on = (placed, merge)
    by (More after p popped) on = on after p popped

pub merge-exists : (js : List (List Entry)) → ((k : ℕ) → AreRising (entries_at js k)) → (merged : List Placed) × IsMerge js merged
merge-exists js rising = merge-on (suc (sum_by length js)) js js [] (omega arith) rising (search rules)
