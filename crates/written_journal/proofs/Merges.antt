-- Merging: the first entry of all is placed each time.
use Rattle.std.proofs.Common.{◌≡◌, inl, inr, ℕ, ◌+◌, ◌≤◌, List, [], ◌∷◌, ◌++◌, All, Some, length, length-set, get_or, set, ap, sym, subst, ◌∙◌, refl, arith}
use Rattle.std.specs.List.{sum_by}
use Rattle.std.proofs.lemmas.Bool.Decides.{leb_tells}
use Rattle.std.proofs.lemmas.List.{get_or_default}
use Rattle.journal_text.specs.Heads.{entries_at, first_stamp, IsFirstBelow, IsPopped}
use Rattle.journal_text.specs.Journal.{AreRising, placed_at}
use Rattle.journal_text.specs.declared.merging.Head.{Head}
use Rattle.journal_text.proofs.Heads.{entries_at-none}
use Rattle.journal_text.proofs.Merges.{AreRising-popped, IsPopped-first, IsSoFar, IsSoFar-end, IsSoFar-popped}
use Rattle.kernel_entries.specs.Order.{IsMerge}
use Rattle.kernel_entries.specs.declared.entry.Entry.{Entry}
use Rattle.kernel_entries.specs.declared.entry.Placed.{Placed}

-- the queues hold what the merge so far has not placed
pub record IsMerging (journals queues : List (List Entry)) (placed : List Placed) : Type 0 where
  pub few : length queues ≤ 8
  pub rising : (k : ℕ) → AreRising (entries_at queues k)
  pub so_far : IsSoFar (entries_at journals) (entries_at queues) placed

IsMerging-more : (journals before after : List (List Entry)) (placed : List Placed) (p : Placed) → length after ≡ length before → IsPopped before after p → IsMerging journals before placed → IsMerging journals after (placed ++ p ∷ [])
IsMerging-more journals before after placed p long popped merging =
    let few : length before ≤ 8 = merging.few in
    record {
      few = omega arith;
      rising = AreRising-popped before after p popped merging.rising;
      so_far = IsSoFar-popped (entries_at journals) before after placed p popped (merging.rising p.kernel) merging.so_far;
    }

-- where no entry is left, the merge is whole
pub IsMerging-end : (journals queues : List (List Entry)) (placed : List Placed) → ((k : ℕ) → entries_at queues k ≡ []) → IsMerging journals queues placed → IsMerge journals placed
IsMerging-end journals queues placed nothing merging =
    record { order = merging.so_far.order; entries = IsSoFar-end (entries_at journals) (entries_at queues) placed merging.so_far nothing }

-- all queues rise where each does
pub rising-at : (queues : List (List Entry)) → All AreRising queues → (k : ℕ) → AreRising (entries_at queues k)
rising-at queues all k =
    elim (leb_tells (length queues) k) [
      | inl w ↦ subst (λ (es : List Entry). AreRising es) (sym (entries_at-none queues k w.1)) tt
      | inr w ↦ all k [] w.1
    ]

-- the first of all is placed
pub record IsStep (journals ls : List (List Entry)) (kernel : ℕ) (now : List Entry) (placed : List Placed) : Type 0 where
  pub count : sum_by length (set ls kernel now) + 1 ≡ sum_by length ls
  pub merging : IsMerging journals (set ls kernel now) placed

pub moved-on : (journals ls : List (List Entry)) (head : Head) (q now : List Entry) (before after : List Placed) → IsFirstBelow ls (length ls) (Some head) → q ≡ get_or ls head.kernel q
    → ((e : Entry) (es : List Entry) → q ≡ e ∷ es → (now ≡ es) × (after ≡ before ++ placed_at head.kernel e ∷ [])) → IsMerging journals ls before → IsStep journals ls head.kernel now after
moved-on journals ls head q now before after first at moved merging = by q here (sym (ap first_stamp here) ∙ first.1) moved
  where
    here : entries_at ls head.kernel ≡ q
    here = get_or_default ls head.kernel [] q first.0 ∙ sym at

    by : (q : List Entry) → entries_at ls head.kernel ≡ q → first_stamp q ≡ Some head.stamp → ((e : Entry) (es : List Entry) → q ≡ e ∷ es → (now ≡ es) × (after ≡ before ++ placed_at head.kernel e ∷ [])) → IsStep journals ls head.kernel now after
    by [] here stamp moved = absurd (cc)
    by (e ∷ es) here stamp moved =
        let m = moved e es refl in
        let popped : IsPopped ls (set ls head.kernel now) (placed_at head.kernel e) =
        subst (λ (xs : List Entry). IsPopped ls (set ls head.kernel xs) (placed_at head.kernel e)) (sym m.0) (IsPopped-first ls (length ls) head e es refl first here) in
        record {
          count = popped.count;
          merging = subst (λ (ps : List Placed). IsMerging journals (set ls head.kernel now) ps) (sym m.1)
              (IsMerging-more journals ls (set ls head.kernel now) before (placed_at head.kernel e) (length-set ls head.kernel now) popped merging);
        }
