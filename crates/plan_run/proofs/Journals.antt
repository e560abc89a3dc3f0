-- The entries of nodes in the order of a merge: they are values of their types, so a transcript can tell them.
use Rattle.std.proofs.Common.{◌≡◌, ◌≢◌, ◌⊎◌, inl, inr, ℕ, ◌^◌, ◌<◌, ◌≤◌, true, false, nat_eq, List, [], ◌∷◌, All, Some, map, refl, ap, sym, subst, ◌∙◌, arith}
use Rattle.std.specs.Prelude.{slice_get}
use Rattle.std.proofs.lemmas.Bool.Decides.{eqb_tells}
use Rattle.std.proofs.lemmas.List.Elements.{All-cons, All-head, All-nil, All-tail, All-weaker}
use Rattle.std.proofs.lemmas.List.Sums.{sum_by-cons}
use Rattle.std.proofs.lemmas.Simd.{map-map}
use Rattle.charlotte_calls.specs.declared.names.Pid.{Pid}
use Rattle.charlotte_calls.specs.declared.setting.Setting.{Setting}
use Rattle.kernel_entries.specs.Order.{IsMerge, of_kernel}
use Rattle.kernel_entries.specs.Ranges.{IsEntryInRange, IsPlacedInRange}
use Rattle.kernel_entries.specs.declared.entry.Entry.{Entry}
use Rattle.kernel_entries.specs.declared.entry.Placed.{Placed}
use Rattle.kernel_step.specs.Kernel.{Kernel}
use Rattle.kernel_worker.specs.Nodes.{Meaning, takings}
use Rattle.kernel_worker.specs.Node.{Node}
use Rattle.kernel_worker.proofs.Together.{of_kernel-other, of_kernel-own}
use Rattle.kernel_worker.specs.Local.{LocalEvent, MakesCall, TakesPacket, entries_of, entry_of, gives}
use Rattle.kernel_worker.proofs.Fitting.{At, Here, Past, at-map, at-of, past-map}
use Rattle.kernel_worker.specs.Net.{AreNodes, journals_of}
use Rattle.written_journal.specs.Kept.{Happenings}
use Rattle.written_journal.specs.Merging.{journals_of as entries_in}
use Rattle.plan_run.specs.Run.{taking, takings_in}

-- the packets that a local run took are those of its entries
pub takings-in : (x : Kernel) (os : List LocalEvent) → takings_in (entries_of x os) ≡ takings os
takings-in x [] = refl
takings-in x (MakesCall p c mine ∷ os) =
    let o : LocalEvent = MakesCall p c mine in
    let rest : takings_in (entries_of (gives x o).kernel os) ≡ takings os = takings-in (gives x o).kernel os in
    sum_by-cons (λ (e : Entry). taking e.what) (entry_of x o) (entries_of (gives x o).kernel os) ∙ omega (arith, rest)
takings-in x (TakesPacket from q ∷ os) =
    let o : LocalEvent = TakesPacket from q in
    let rest : takings_in (entries_of (gives x o).kernel os) ≡ takings os = takings-in (gives x o).kernel os in
    sum_by-cons (λ (e : Entry). taking e.what) (entry_of x o) (entries_of (gives x o).kernel os) ∙ omega (arith, rest)

-- the merge of the journals that nodes hand out is that of their entries
pub merge-of : {P W : Type 0} (ns : List (Node P W)) (js : List Happenings) (merged : List Placed) → js ≡ map (λ (n : Node P W). n.base.journal) ns → IsMerge (entries_in js) merged → IsMerge (journals_of ns) merged
merge-of {P = P} {W = W} ns js merged are merge =
    subst (λ (es : List (List Entry)). IsMerge es merged) (ap entries_in are ∙ map-map (λ (j : Happenings). j.entries) (λ (n : Node P W). n.base.journal) ns) merge

-- what is true of the entries of each kernel is true of all
all-placed : (Q : ℕ → Entry → Type 0) (ps : List Placed) → ((k : ℕ) → All (Q k) (of_kernel k ps)) → All (λ (p : Placed). Q p.kernel p.entry) ps
all-placed Q [] all = All-nil (λ (p : Placed). Q p.kernel p.entry)
all-placed Q (p ∷ ps) all = All-cons (λ (x : Placed). Q x.kernel x.entry) p ps (All-head (Q p.kernel) p.entry (of_kernel p.kernel ps) own) (all-placed Q ps (λ k. rest k (eqb_tells k p.kernel)))
  where
    own : All (Q p.kernel) (p.entry ∷ of_kernel p.kernel ps)
    own = subst (All (Q p.kernel)) (of_kernel-own p ps) (all p.kernel)

    rest : (k : ℕ) → ((nat_eq k p.kernel ≡ true) × (k ≡ p.kernel)) ⊎ ((nat_eq k p.kernel ≡ false) × (k ≢ p.kernel)) → All (Q k) (of_kernel k ps)
    rest k (inl e) = subst (λ j. All (Q j) (of_kernel j ps)) (sym e.1) (All-tail (Q p.kernel) p.entry (of_kernel p.kernel ps) own)
    rest k (inr e) = subst (All (Q k)) (of_kernel-other k p ps e.1) (all k)

module _ {P S W : Type 0} (m : Meaning P S) (HasSeen : W → List Entry → Type 0) (s : Setting) (first : ℕ → List (Pid × P)) (made : ℕ → List LocalEvent) (ns : List (Node P W))
    (nodes : AreNodes m HasSeen s first made ns) (merged : List Placed) (merge : IsMerge (journals_of ns) merged) where
  -- the entries of a kernel are those that its node noted
  pub entries-of : (k : ℕ) (n : Node P W) → slice_get ns k ≡ Some n → of_kernel k merged ≡ n.base.journal.entries
  entries-of k n at = merge.entries k ∙ at-map (λ (n : Node P W). n.base.journal.entries) ns k n [] at

  pub merged-in_range : All IsPlacedInRange merged
  merged-in_range = all-placed (λ k e. IsPlacedInRange (record { kernel = k; entry = e })) merged (λ k. by k (at-of ns k))
    where
      by : (k : ℕ) → At ns k → All (λ e. IsPlacedInRange (record { kernel = k; entry = e })) (of_kernel k merged)
      by k (Here n at below) =
          let eight : s.kernels ≤ 8 = nodes.valid.limits.kernels in
          let small : k < 2 ^ 8 = omega (arith, below, nodes.count, eight) in
          subst (All (λ e. IsPlacedInRange (record { kernel = k; entry = e }))) (sym (entries-of k n at))
          (All-weaker IsEntryInRange (λ e. IsPlacedInRange (record { kernel = k; entry = e })) (λ e is. record { kernel = small; entry = is }) n.base.journal.entries (nodes.each k n at).run.in_range)
      by k (Past past) =
          subst (All (λ e. IsPlacedInRange (record { kernel = k; entry = e }))) (sym (merge.entries k ∙ past-map (λ (n : Node P W). n.base.journal.entries) ns k [] past))
          (All-nil (λ e. IsPlacedInRange (record { kernel = k; entry = e })))
