use Rattle.std.proofs.Common.{◌≡◌, ℕ, List, [], length, map, slice_index_or}
use Rattle.node_start.proofs.homes.empty_lists.Given as goal

abbrev pub invariant-loop : goal.invariant-loop
invariant-loop g l = (length l.lists.items ≡ l.counter) × ((k : ℕ) → slice_index_or (map (λ list. list.items) l.lists.items) k [] ≡ [])
