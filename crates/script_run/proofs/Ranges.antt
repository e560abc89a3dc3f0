-- The entries of a merge are values of their types, as those of the journals are.
use Rattle.std.proofs.Common.{◌≡◌, ℕ, zero, suc, ◌<◌, ◌≤◌, Bool, true, false, cond, eqb, List, [], ◌∷◌, length, map, All, arith, sym, subst, refl}
use Rattle.std.specs.List.{filter}
use Rattle.std.proofs.lemmas.Bool.{eq-eqb}
use Rattle.std.proofs.lemmas.List.Elements.{All-nil, All-cons, All-head, All-tail, All-weaker}
use Rattle.charlotte_calls.specs.Ranges.{IsU8}
use Rattle.kernel_entries.specs.Ranges.{IsEntryInRange, IsPlacedInRange}
use Rattle.kernel_entries.specs.Order.{IsMerge, of_kernel}
use Rattle.kernel_entries.specs.declared.entry.Entry.{Entry}
use Rattle.kernel_entries.specs.declared.entry.Placed.{Placed}
use Rattle.script_run.proofs.Events.{entries_of, noted_in}
use Rattle.written_journal.specs.Kept.{Happenings}

-- an entry at a kernel is a value of its type
abbrev pub IsPlacedAt : ℕ → Entry → Type 0
IsPlacedAt k e = IsPlacedInRange (record { kernel = k; entry = e })

abbrev entries_in : List Placed → List Entry
entries_in ps = map (λ (p : Placed). p.entry) ps

kept_one : (P : Entry → Type 0) (p : Placed) (ps : List Placed) (b : Bool) → b ≡ true → All P (entries_in (cond b (p ∷ ps) ps)) → P p.entry
kept_one P p ps true e all = All-head P p.entry (entries_in ps) all
kept_one P p ps false e all = absurd cc

left_out : (P : Entry → Type 0) (p : Placed) (ps : List Placed) (b : Bool) → All P (entries_in (cond b (p ∷ ps) ps)) → All P (entries_in ps)
left_out P p ps true all = All-tail P p.entry (entries_in ps) all
left_out P p ps false all = all

-- what is true of the entries of each kernel is true of all
all_placed : (ps : List Placed) → ((k : ℕ) → All (IsPlacedAt k) (of_kernel k ps)) → All IsPlacedInRange ps
all_placed [] all = All-nil IsPlacedInRange
all_placed (p ∷ ps) all =
    All-cons IsPlacedInRange p ps
    (kept_one (IsPlacedAt p.kernel) p (filter (λ q. eqb q.kernel p.kernel) ps) (eqb p.kernel p.kernel) (eq-eqb p.kernel p.kernel refl) (all p.kernel))
    (all_placed ps (λ k. left_out (IsPlacedAt k) p (filter (λ q. eqb q.kernel k) ps) (eqb p.kernel k) (all k)))

journal_placed : (js : List Happenings) (i k : ℕ) → All IsEntryInRange (noted_in js i) → (i < length js → IsU8 k) → All (IsPlacedAt k) (noted_in js i)
journal_placed [] i k all below = All-nil (IsPlacedAt k)
journal_placed (j ∷ js) zero k all below = All-weaker IsEntryInRange (IsPlacedAt k) (λ e h. record { kernel = below (omega arith); entry = h }) j.entries all
journal_placed (j ∷ js) (suc i) k all below = journal_placed js i k all (λ lt. below (omega arith))

pub merged_in_range : (js : List Happenings) (merged : List Placed) → ((k : ℕ) → All IsEntryInRange (noted_in js k)) → length js ≤ 8 → IsMerge (map entries_of js) merged → All IsPlacedInRange merged
merged_in_range js merged all few merge =
    all_placed merged (λ k. subst (All (IsPlacedAt k)) (sym (merge.entries k)) (journal_placed js k k (all k) (λ lt. omega arith)))
