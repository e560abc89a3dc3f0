use Rattle.std.proofs.Common.{◌≡◌, ℕ, ◌+◌, List, ◌++◌, take, map}
use Rattle.lynx_tree.specs.Trees.{op_tree}
use Rattle.compiler_emission.specs.Places.{IsTableOf}
use Rattle.compiler_emission.proofs.places.Places.add_ops.Given as goal

-- the names that were seen are added, and counted
abbrev pub invariant-loop-op : goal.invariant-loop-op
invariant-loop-op l = record {
  count : l.self.count ≡ l.fn.self.count + l.op-index;
  table : (names : List (List ℕ)) → IsTableOf names l.fn.self → IsTableOf (names ++ map (λ op. op.name) (map op_tree (take l.op-index l.list))) l.self;
}
