-- Quiet nodes have nothing under way, so their kernels keep no trace.
use Rattle.std.proofs.Common.{◌≡◌, ℕ, ◌++◌, List, [], Some, map, refl, ap, sym, subst, ◌∙◌}
use Rattle.std.specs.Prelude.{slice_get, slice_index_or}
use Rattle.charlotte_calls.specs.declared.names.EndId.{EndId}
use Rattle.charlotte_calls.specs.declared.names.Pid.{Pid}
use Rattle.charlotte_calls.specs.declared.setting.Setting.{Setting}
use Rattle.charlotte_packets.specs.declared.picture.Picture.{Picture}
use Rattle.end_table.specs.Table.{entries}
use Rattle.end_table.specs.declared.entry.Entry.{Entry as AnEntry}
use Rattle.kernel_core.specs.State.{KernelView, state_of}
use Rattle.kernel_entries.specs.declared.entry.Entry.{Entry}
use Rattle.kernel_outbox.specs.Letters.{outbox_to}
use Rattle.kernel_step.specs.Kernel.{Kernel}
use Rattle.kernel_turns.specs.Letters.{told}
use Rattle.kernel_turns.specs.Nodes.{Meaning}
use Rattle.kernel_turns.specs.declared.node.Node.{Node}
use Rattle.kernel_worker.specs.Ends.{IsQuiet, RanTogether, RunTogether}
use Rattle.local_runs.specs.Local.{IsOneRun, LocalEvent}
use Rattle.node_runs.proofs.Fitting.{At, Here, Past, at-map, at-of, past-map}
use Rattle.node_runs.specs.Net.{AreNodes, AreUnspoiled, HaveMet, left_at, left_between, pictures}
use Rattle.trace_law.proofs.Run.{bare-after}
use Rattle.trace_law.specs.Law.{IsHeldHere}
use Rattle.quiet_nodes.proofs.Rising.{nodes-merge}
use Rattle.quiet_nodes.specs.Bare.{AreBare}

state-table : (v : KernelView) → (state_of v).table ≡ entries v.table
unfolding state_of
state-table v = refl

module _ {P W : Type 0} (ns : List (Node P W)) (quiet : IsQuiet ns) where
  none-between : (from to : ℕ) (a b : Node P W) → slice_get ns from ≡ Some a → slice_get ns to ≡ Some b → left_between a b ≡ []
  none-between from to a b at_a at_b =
      ap (λ ls. pictures (told (ls ++ outbox_to a.base.outbox b.base.port.kernel))) (quiet.net from to a b at_a at_b)
      ∙ ap (λ ls. pictures (told ls)) ((quiet.rest from a at_a).letters b.base.port.kernel)

  -- no packet is under way
  pub none-left : (from to : ℕ) → left_at ns from to ≡ []
  none-left from to = by (at-of ns from) (at-of ns to)
    where
      row : Node P W → List Picture
      row a = slice_index_or (map (left_between a) ns) to []

      by : At ns from → At ns to → left_at ns from to ≡ []
      by (Past past) there = past-map row ns from [] past
      by (Here a at_a below) (Past past) = at-map row ns from a [] at_a ∙ past-map (left_between a) ns to [] past
      by (Here a at_a below) (Here b at_b there) = at-map row ns from a [] at_a ∙ at-map (left_between a) ns to b [] at_b ∙ none-between from to a b at_a at_b

module _ {P S W : Type 0} (m : Meaning P S) (HasSeen : W → List Entry → Type 0) where
  -- the tables of the kernels are those of the world in which the run ends
  ran-bare : (s : Setting) (first : ℕ → List (Pid × P)) (made : ℕ → List LocalEvent) (ns : List (Node P W)) → RanTogether m HasSeen s first made ns → AreUnspoiled ns → HaveMet ns → IsQuiet ns → AreBare s ns
  ran-bare s first made ns ran whole met quiet k n at e =
      let all : ℕ → List LocalEvent = λ k. made k ++ ran.more k in
      let merge = nodes-merge m HasSeen s first all ns ran.nodes whole met in
      let one : IsOneRun s all (left_at ns) merge.0 = ran.one merge.0 merge.1 in
      let table = ap (λ (x : Kernel). x.table) (one.kernels k ∙ sym (ran.nodes.each k n at).run.kernel) ∙ state-table n.base.kernel in
      subst (λ (t : EndId → AnEntry). IsHeldHere s k t e (t e)) table
      (bare-after s one.events ran.nodes.valid one.recorded.run (λ from to. one.packets from to ∙ none-left ns quiet from to) k e)

  pub quiet-bare : (s : Setting) (first : ℕ → List (Pid × P)) (made : ℕ → List LocalEvent) (old new : List (Node P W)) → AreNodes m HasSeen s first made old → RunTogether m HasSeen old new → HaveMet new × AreUnspoiled new → IsQuiet new → AreBare s new
  quiet-bare s first made old new nodes run met quiet = ran-bare s first made new (run s first made nodes) met.1 met.0 quiet
