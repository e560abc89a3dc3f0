-- Nodes whose kernels keep no trace of a link that moved on.
use Rattle.std.specs.Prelude.{◌≡◌, ℕ, List, Some, slice_get}
use Rattle.charlotte_calls.specs.declared.names.EndId.{EndId}
use Rattle.charlotte_calls.specs.declared.setting.Setting.{Setting}
use Rattle.end_table.specs.Table.{entries}
use Rattle.kernel_turns.specs.declared.node.Node.{Node}
use Rattle.trace_law.specs.Law.{IsHeldHere}

module _ {P W : Type 0} where
  -- The nodes of the kernels of a setting, in order. The table of each has nothing but ends that processes of its kernel own, or have enclosed in
  -- messages that wait: no forwarding entry, and no mark of an end that was destroyed
  abbrev pub AreBare : Setting → List (Node P W) → Type 0
  AreBare s ns = (k : ℕ) (n : Node P W) → slice_get ns k ≡ Some n → (e : EndId) → IsHeldHere s k (entries n.base.kernel.table) e (entries n.base.kernel.table e)
