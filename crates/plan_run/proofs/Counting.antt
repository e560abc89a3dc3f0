-- A merge of the journals of nodes has at most as many entries as they may use turns.
use Rattle.std.proofs.Common.{◌≡◌, ℕ, zero, suc, ◌*◌, ◌<◌, ◌≤◌, List, [], Some, length, ap, ◌∙◌, arith}
use Rattle.std.proofs.Math.Nat.{suc-mul}
use Rattle.std.specs.Prelude.{slice_get}
use Rattle.charlotte_calls.specs.declared.names.Pid.{Pid}
use Rattle.charlotte_calls.specs.declared.setting.Setting.{Setting}
use Rattle.kernel_entries.specs.Order.{IsMerge, of_kernel}
use Rattle.kernel_entries.specs.declared.entry.Entry.{Entry}
use Rattle.kernel_entries.specs.declared.entry.Placed.{Placed}
use Rattle.kernel_worker.specs.Nodes.{Meaning, sum_of}
use Rattle.kernel_worker.specs.Node.{Node}
use Rattle.kernel_worker.specs.Local.{LocalEvent}
use Rattle.kernel_worker.proofs.Fitting.{At, Here, Past, at-of, past-map}
use Rattle.kernel_worker.proofs.Sums.{merged-few}
use Rattle.kernel_worker.specs.Net.{AreNodes, journals_of}
use Rattle.plan_run.proofs.Journals.{entries-of}

sum-bound : (n most : ℕ) (f : ℕ → ℕ) → ((i : ℕ) → i < n → f i ≤ most) → sum_of n f ≤ n * most
sum-bound zero most f each = omega arith
sum-bound (suc n) most f each =
    let before : sum_of n f ≤ n * most = sum-bound n most f (λ i below. each i (omega (arith, below))) in
    let here : f n ≤ most = each n (omega arith) in
    omega (arith, before, here, suc-mul n most)

module _ {P S W : Type 0} (m : Meaning P S) (HasSeen : W → List Entry → Type 0) (s : Setting) (first : ℕ → List (Pid × P)) (made : ℕ → List LocalEvent) (ns : List (Node P W))
    (nodes : AreNodes m HasSeen s first made ns) (merged : List Placed) (merge : IsMerge (journals_of ns) merged) where
  none-of : (k : ℕ) → length ns ≤ k → of_kernel k merged ≡ []
  none-of k past = merge.entries k ∙ past-map (λ (n : Node P W). n.base.journal.entries) ns k [] past

  module _ (most : ℕ) (limits : (k : ℕ) (n : Node P W) → slice_get ns k ≡ Some n → n.base.orders.limit ≤ most) where
    -- each entry of a kernel used a turn of its node
    few-of : (k : ℕ) → length (of_kernel k merged) ≤ most
    few-of k = by (at-of ns k)
      where
        by : At ns k → length (of_kernel k merged) ≤ most
        by (Here n at below) =
            let noted = ap length (entries-of m HasSeen s first made ns nodes merged merge k n at) in
            omega (arith, noted, nodes.few k n at, (nodes.each k n at).limit, limits k n at)
        by (Past past) = omega (arith, ap length (none-of k past))

    pub few-merged : length merged ≤ s.kernels * most
    few-merged =
        let all : length merged ≤ sum_of s.kernels (λ k. length (of_kernel k merged)) = merged-few s.kernels merged (λ k far. none-of k (omega (arith, far, nodes.count))) in
        let few : sum_of s.kernels (λ k. length (of_kernel k merged)) ≤ s.kernels * most = sum-bound s.kernels most (λ k. length (of_kernel k merged)) (λ k below. few-of k) in
        omega (arith, all, few)
