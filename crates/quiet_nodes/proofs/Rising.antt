-- The journals of nodes that have met rise, so there is a merge of them.
use Rattle.std.proofs.Common.{◌≡◌, ℕ, ◌-◌, ◌^◌, ◌<◌, ◌≤◌, max, List, [], ◌∷◌, refl, ap, sym, subst, ◌∙◌, arith}
use Rattle.charlotte_calls.specs.declared.names.Pid.{Pid}
use Rattle.charlotte_calls.specs.declared.setting.Setting.{Setting}
use Rattle.journal_text.specs.Journal.{AreRising}
use Rattle.kernel_core.specs.State.{KernelView, state_of}
use Rattle.kernel_entries.specs.Order.{IsMerge}
use Rattle.kernel_entries.specs.declared.entry.Entry.{Entry}
use Rattle.kernel_entries.specs.declared.entry.Happened.TheVariants.{Took}
use Rattle.kernel_entries.specs.declared.entry.Placed.{Placed}
use Rattle.kernel_step.specs.Kernel.{Kernel, next_stamp, take_step, without_answer}
use Rattle.kernel_step.specs.Start.{start_kernel}
use Rattle.kernel_turns.specs.Nodes.{Meaning}
use Rattle.kernel_turns.specs.declared.node.Node.{Node}
use Rattle.local_runs.proofs.Kernels.{few_call, local-gives}
use Rattle.local_runs.proofs.Together.{started-two}
use Rattle.local_runs.specs.Local.{IsLocalEvent, IsLocalRun, LocalEvent, MakesCall, TakesPacket, entries_of, gives, left_by}
use Rattle.node_runs.proofs.Fitting.{At, Here, Past, at-of, entries-at, local-at}
use Rattle.node_runs.proofs.Stamps.{nodes-early}
use Rattle.node_runs.specs.Net.{AreNodes, AreUnspoiled, HaveMet, journals_of}
use Rattle.transcript_record.proofs.KeptSteps.{call_step-gives, take_step-gives, told-without_answer}
use Rattle.transcript_record.specs.Told.{IsTold}
use Rattle.quiet_nodes.proofs.Merging.{merge-exists}

-- ---- a local run

-- an event is later than those before it, until stamps are used up
record IsLater (before here : ℕ) : Type 0 where
  least : before ≤ here
  most : here ≤ 2 ^ 64 - 1
  later : here < 2 ^ 64 - 1 → before < here

event-later : (s : Setting) (k : ℕ) (x : Kernel) (o : LocalEvent) → IsTold 2 x → x.stamp ≤ 2 ^ 64 - 1 → IsLocalEvent s k x o → IsLater x.stamp (gives x o).kernel.stamp
event-later s k x (MakesCall p c mine) told bound is =
    let at : (gives x (MakesCall p c mine)).kernel.stamp ≡ next_stamp x.stamp
    = (call_step-gives 2 (without_answer p x) p mine c (few_call s.version c is.3) (told-without_answer 2 x p told)).stamp in
    record { least = omega (arith, at, bound); most = omega (arith, at); later = λ early. omega (arith, at, bound, early) }
event-later s k x (TakesPacket from q) told bound is =
    let at : (take_step x from q).kernel.stamp ≡ next_stamp (max x.stamp q.stamp) = (take_step-gives 2 (Took from q) x from q told is.1).stamp in
    record { least = omega (arith, at, bound); most = omega (arith, at); later = λ early. omega (arith, at, bound, early) }

run-later : (s : Setting) (k : ℕ) (x : Kernel) (os : List LocalEvent) → IsTold 2 x → x.stamp ≤ 2 ^ 64 - 1 → IsLocalRun s k x os → x.stamp ≤ (left_by x os).stamp
run-later s k x [] told bound run = omega arith
run-later s k x (o ∷ os) told bound run =
    let here : IsLater x.stamp (gives x o).kernel.stamp = event-later s k x o told bound run.0 in
    let rest : (gives x o).kernel.stamp ≤ (left_by (gives x o).kernel os).stamp = run-later s k (gives x o).kernel os (local-gives s k x o told run.0).told here.most run.1 in
    omega (arith, here.least, rest)

run-rises : (s : Setting) (k : ℕ) (x : Kernel) (os : List LocalEvent) → IsTold 2 x → x.stamp ≤ 2 ^ 64 - 1 → IsLocalRun s k x os → (left_by x os).stamp < 2 ^ 64 - 1 → AreRising (entries_of x os)
run-rises s k x [] told bound run early = tt
run-rises s k x (o ∷ []) told bound run early = tt
run-rises s k x (o ∷ p ∷ os) told bound run early =
    let y : Kernel = (gives x o).kernel in
    let told_y : IsTold 2 y = (local-gives s k x o told run.0).told in
    let first : IsLater x.stamp y.stamp = event-later s k x o told bound run.0 in
    let second : IsLater y.stamp (gives y p).kernel.stamp = event-later s k y p told_y first.most run.1.0 in
    let rest : (gives y p).kernel.stamp ≤ (left_by (gives y p).kernel os).stamp = run-later s k (gives y p).kernel os (local-gives s k y p told_y run.1.0).told second.most run.1.1 in
    (second.later (omega (arith, rest, early)), run-rises s k y (p ∷ os) told_y first.most run.1 early)

-- ---- nodes

state-stamp : (v : KernelView) → (state_of v).stamp ≡ v.stamp
unfolding state_of
state-stamp v = refl

module _ {P S W : Type 0} (m : Meaning P S) (HasSeen : W → List Entry → Type 0) (s : Setting) (first : ℕ → List (Pid × P)) (made : ℕ → List LocalEvent) (ns : List (Node P W))
    (nodes : AreNodes m HasSeen s first made ns) (whole : AreUnspoiled ns) (met : HaveMet ns) where
  rises-at : (k : ℕ) → AreRising (entries_of (start_kernel s k) (made k))
  rises-at k = by (at-of ns k)
    where
      by : At ns k → AreRising (entries_of (start_kernel s k) (made k))
      by (Past past) = subst (λ os. AreRising (entries_of (start_kernel s k) os)) (sym (nodes.none k (omega (arith, past, nodes.count)))) tt
      by (Here n at below) =
          let early : n.base.kernel.stamp ≤ 800000 = nodes-early m HasSeen s first made ns nodes whole met k n at in
          let is : n.base.kernel.stamp ≡ (left_by (start_kernel s k) (made k)).stamp = sym (state-stamp n.base.kernel) ∙ ap (λ (x : Kernel). x.stamp) (nodes.each k n at).run.kernel in
          run-rises s k (start_kernel s k) (made k) (started-two s k) (omega arith) (local-at m HasSeen s first made ns nodes k) (omega (arith, is, early))

  -- there is a merge of their journals
  pub nodes-merge : (merged : List Placed) × IsMerge (journals_of ns) merged
  nodes-merge = merge-exists (journals_of ns) (λ k. subst AreRising (sym (entries-at m HasSeen s first made ns nodes k)) (rises-at k))
