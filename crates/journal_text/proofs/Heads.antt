-- The first of the heads of several queues.
use Rattle.std.proofs.Common.{◌≡◌, ℕ, zero, suc, ◌+◌, ◌<◌, ◌≤◌, ◌⊎◌, inl, inr, Bool, true, false, cond, nat_le, List, [], ◌∷◌, length, Option, None, Some, refl, below_more, arith}
use Rattle.std.proofs.lemmas.Bool.Decides.{leb_tells}
use Rattle.journal_text.specs.Heads.{entries_at, first_stamp, IsNoLater, earlier_head, IsFirstBelow}
use Rattle.journal_text.specs.declared.merging.Head.{Head}
use Rattle.kernel_entries.specs.declared.entry.Entry.{Entry}

-- there are no entries of a kernel without a list
pub entries_at-none : (ls : List (List Entry)) (k : ℕ) → length ls ≤ k → entries_at ls k ≡ []
entries_at-none [] k h = refl
entries_at-none (l ∷ ls) zero h = absurd (omega arith)
entries_at-none (l ∷ ls) (suc k) h = entries_at-none ls k (omega arith)

none-left : (es : List Entry) → first_stamp es ≡ None → es ≡ []
none-left [] h = refl
none-left (e ∷ es) h = absurd (cc)

-- where no kernel has a head, no entry is left
pub nothing-left : (ls : List (List Entry)) (n : ℕ) → length ls ≤ n → IsFirstBelow ls n None → (k : ℕ) → entries_at ls k ≡ []
nothing-left ls n all none k =
    elim (leb_tells n k) [
      | inl w ↦ let above : n ≤ k = w.1 in entries_at-none ls k (omega arith)
      | inr w ↦ none-left (entries_at ls k) (none k w.1)
    ]

-- the head of the next kernel
is-second : (ls : List (List Entry)) (n s : ℕ) → first_stamp (entries_at ls n) ≡ Some s → (stamp : ℕ) → first_stamp (entries_at ls n) ≡ Some stamp → IsNoLater (record { kernel = n; stamp = s }) n stamp
is-second ls n s here stamp e = let same : s ≡ stamp = cc in (omega arith, λ _. omega arith)

is-later : (ls : List (List Entry)) (n s : ℕ) (head : Head) → head.kernel < n → head.stamp ≤ s → first_stamp (entries_at ls n) ≡ Some s → (stamp : ℕ) → first_stamp (entries_at ls n) ≡ Some stamp → IsNoLater head n stamp
is-later ls n s head lt le here stamp e = let same : s ≡ stamp = cc in (omega arith, λ _. omega arith)

is-before : (head : Head) (n s k stamp : ℕ) → s < head.stamp → IsNoLater head k stamp → IsNoLater (record { kernel = n; stamp = s }) k stamp
is-before head n s k stamp lt h = let le : head.stamp ≤ stamp = h.0 in (omega arith, λ e. absurd (omega arith))

-- of two heads
first-of_two : (ls : List (List Entry)) (n s : ℕ) (head : Head) → IsFirstBelow ls n (Some head) → first_stamp (entries_at ls n) ≡ Some s → (b : Bool) → ((b ≡ true) × (head.stamp ≤ s)) ⊎ ((b ≡ false) × (s < head.stamp))
    → IsFirstBelow ls (n + 1) (cond b (Some head) (Some (record { kernel = n; stamp = s })))
first-of_two ls n s head (lt, is, below) here true (inl (e, le)) =
    (omega arith, is, below_more (λ k. (stamp : ℕ) → first_stamp (entries_at ls k) ≡ Some stamp → IsNoLater head k stamp) n below (is-later ls n s head lt le here))
first-of_two ls n s head (lt, is, below) here true (inr (e, lt2)) = absurd (cc)
first-of_two ls n s head (lt, is, below) here false (inl (e, le)) = absurd (cc)
first-of_two ls n s head (lt, is, below) here false (inr (e, lt2)) =
    let second : Head = record { kernel = n; stamp = s } in
    (omega arith, here, below_more (λ k. (stamp : ℕ) → first_stamp (entries_at ls k) ≡ Some stamp → IsNoLater second k stamp) n (λ k ltk stamp e2. is-before head n s k stamp lt2 (below k ltk stamp e2)) (is-second ls n s here))

-- one kernel more
pub IsFirstBelow-next : (ls : List (List Entry)) (n : ℕ) (first : Option Head) (stamp : Option ℕ) → IsFirstBelow ls n first → first_stamp (entries_at ls n) ≡ stamp → IsFirstBelow ls (n + 1) (earlier_head first n stamp)
IsFirstBelow-next ls n None None below here = below_more (λ k. first_stamp (entries_at ls k) ≡ None) n below here
IsFirstBelow-next ls n (Some head) None (lt, is, below) here =
    (omega arith, is, below_more (λ k. (stamp : ℕ) → first_stamp (entries_at ls k) ≡ Some stamp → IsNoLater head k stamp) n below (λ stamp e. absurd (cc)))
IsFirstBelow-next ls n None (Some s) below here =
    let second : Head = record { kernel = n; stamp = s } in
    (omega arith, here, below_more (λ k. (stamp : ℕ) → first_stamp (entries_at ls k) ≡ Some stamp → IsNoLater second k stamp) n (λ k lt stamp e. let no = below k lt in absurd (cc)) (is-second ls n s here))
IsFirstBelow-next ls n (Some head) (Some s) below here =
    first-of_two ls n s head below here (nat_le head.stamp s) (leb_tells head.stamp s)
