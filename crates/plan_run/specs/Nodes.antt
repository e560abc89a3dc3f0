-- The nodes of a run, before it and behind it.
use Rattle.std.specs.Prelude.{◌≡◌, ℕ, List, [], All}
use Rattle.charlotte_calls.specs.declared.setting.Setting.{Setting}
use Rattle.kernel_worker.specs.Nodes.{Meaning}
use Rattle.kernel_worker.specs.Node.{Node}
use Rattle.kernel_worker.specs.NoWatch.{NoWatch}
use Rattle.kernel_worker.specs.Ends.{Ends, RanTogether}
use Rattle.kernel_worker.specs.declared.standing.End.{End}
use Rattle.kernel_worker.specs.Net.{AreNodes, AreUnspoiled, HaveMet}
use Rattle.node_start.specs.Homes.{programs_on}

module _ {P S : Type 0} (m : Meaning P S) (s : Setting) (programs : List P) (turns : ℕ) where
  -- each may use so many turns
  abbrev pub AreLimited : List (Node P NoWatch) → Type 0
  AreLimited ns = All (λ n. n.base.orders.limit ≡ turns) ns

  -- the nodes of the setting with these programs, before their first turns
  pub record AreReady (ns : List (Node P NoWatch)) : Type 0 where
    pub nodes : AreNodes m (λ _ _. Unit {0}) s (programs_on s programs) (λ _. []) ns
    pub unspoiled : AreUnspoiled ns
    pub limited : AreLimited ns

  -- they have run, and ended so
  pub record HaveEnded (ns : List (Node P NoWatch)) (end : End) : Type 0 where
    pub ran : RanTogether m (λ _ _. Unit {0}) s (programs_on s programs) (λ _. []) ns
    pub met : HaveMet ns
    pub unspoiled : AreUnspoiled ns
    pub limited : AreLimited ns
    pub ends : Ends ns end
