-- How nodes have ended is what their run says: quiet, or the turns of a kernel used up.
use Rattle.std.proofs.Common.{◌≡◌, ℕ, ◌+◌, ◌<◌, List, Some, length, ap, sym, ◌∙◌, arith}
use Rattle.std.specs.List.{sum_by}
use Rattle.std.specs.Prelude.{slice_get}
use Rattle.std.proofs.lemmas.Option.{slice_get_within}
use Rattle.charlotte_calls.specs.declared.names.Pid.{Pid}
use Rattle.charlotte_calls.specs.declared.setting.Setting.{Setting}
use Rattle.kernel_entries.specs.Order.{IsMerge, of_kernel}
use Rattle.kernel_entries.specs.declared.entry.Placed.{Placed}
use Rattle.kernel_step.specs.Start.{start_kernel}
use Rattle.kernel_worker.specs.Nodes.{Meaning, takings}
use Rattle.kernel_worker.specs.Node.{Node}
use Rattle.kernel_worker.specs.NoWatch.{NoWatch}
use Rattle.kernel_worker.proofs.Each.{all-at}
use Rattle.kernel_worker.specs.Ends.{Ends, IsQuiet as AreQuiet}
use Rattle.kernel_worker.specs.declared.standing.End.{End}
use Rattle.kernel_worker.specs.declared.standing.End.TheVariants as end
use Rattle.kernel_worker.specs.Local.{LocalEvent}
use Rattle.kernel_worker.specs.Net.{AreNodes, AreUnspoiled, journals_of}
use Rattle.node_start.specs.Homes.{programs_on}
use Rattle.plan_run.proofs.Journals.{entries-of, takings-in}
use Rattle.plan_run.proofs.Letters.{letters_at, none-out, none-there, none-under_way}
use Rattle.plan_run.proofs.Programs.{HasUsed, none-at, over-at, replayed, used-at}
use Rattle.plan_run.specs.Nodes.{AreLimited}
use Rattle.plan_run.specs.Run.{AreReplayed, EndsSo, IsQuiet, takings_in, turns_of}

module _ {P S : Type 0} (m : Meaning P S) (s : Setting) (programs : List P) (turns : ℕ) (made : ℕ → List LocalEvent) (ns : List (Node P NoWatch))
    (nodes : AreNodes m (λ _ _. Unit {0}) s (programs_on s programs) made ns) (whole : AreUnspoiled ns) (limited : AreLimited m s programs turns ns)
    (count : length programs ≡ length s.homes) (merged : List Placed) (merge : IsMerge (journals_of ns) merged) where
  -- the programs replay it
  abbrev pub all-replayed : AreReplayed m s programs merged
  all-replayed = replayed m (λ _ _. Unit {0}) s programs made ns nodes whole count merged merge

  quiet-is : AreQuiet ns → IsQuiet m s programs merged all-replayed (letters_at ns)
  quiet-is quiet =
      record {
        letters = none-under_way ns quiet.net (λ k n at. (quiet.rest k n at).letters);
        over = over-at m (λ _ _. Unit {0}) s programs made ns nodes whole count merged merge (λ k n at. (quiet.rest k n at).programs);
      }

  is-quiet : IsQuiet m s programs merged all-replayed (letters_at ns) → AreQuiet ns
  is-quiet quiet =
      record {
        net = none-there ns quiet.letters;
        rest = λ k n at. record {
          letters = none-out ns quiet.letters m (λ _ _. Unit {0}) s (programs_on s programs) made nodes whole k n at;
          programs = none-at m (λ _ _. Unit {0}) s programs made ns nodes whole count merged merge quiet.over k n at;
        };
      }

  -- the turns of a kernel are those of its node
  record HasTurns (k : ℕ) : Type 0 where
    node : Node P NoWatch
    at : slice_get ns k ≡ Some node
    limit : node.base.orders.limit ≡ turns
    used : node.base.used ≡ turns_of m s programs merged all-replayed k

  turns-at : (k : ℕ) → k < s.kernels → HasTurns k
  turns-at k below =
      let used : HasUsed m (λ _ _. Unit {0}) s programs made ns nodes whole k = used-at m (λ _ _. Unit {0}) s programs made ns nodes whole k below in
      let taken : takings (made k) ≡ takings_in (of_kernel k merged)
      = sym (takings-in (start_kernel s k) (made k)) ∙ ap takings_in (sym (entries-of m (λ _ _. Unit {0}) s (programs_on s programs) made ns nodes merged merge k used.node used.at ∙ (nodes.each k used.node used.at).run.noted)) in
      record {
        node = used.node;
        at = used.at;
        limit = all-at (λ (n : Node P NoWatch). n.base.orders.limit ≡ turns) ns k used.node limited used.at;
        used = used.turns ∙ ap (λ i. i + sum_by (λ (x : Pid × P). all-replayed.steps x.0.0) (programs_on s programs k)) taken;
      }

  one-node : (k : ℕ) (a b : Node P NoWatch) → slice_get ns k ≡ Some a → slice_get ns k ≡ Some b → a ≡ b
  one-node k a b at_a at_b = let same : Some a ≡ Some b = sym at_a ∙ at_b in cc

  pub ends-so : (end : End) → Ends ns end → EndsSo m s programs merged all-replayed (letters_at ns) turns end
  ends-so end.Quiet quiet = quiet-is quiet
  ends-so (end.Spent k) spent =
      record {
        there = below;
        not_quiet = λ quiet. spent.not_quiet (is-quiet quiet);
        used = sym own.used ∙ ap (λ (n : Node P NoWatch). n.base.used) same ∙ spent.first.used ∙ sym (ap (λ (n : Node P NoWatch). n.base.orders.limit) same) ∙ own.limit;
        least = λ j less all.
            let other : HasTurns j = turns-at j (omega (arith, less, below)) in
            spent.first.least j other.node less other.at (other.used ∙ all ∙ sym other.limit);
      }
    where
      below : k < s.kernels
      below = omega (arith, slice_get_within ns k spent.first.node spent.first.at, nodes.count)

      own : HasTurns k
      own = turns-at k below

      same : own.node ≡ spent.first.node
      same = one-node k own.node spent.first.node own.at spent.first.at
