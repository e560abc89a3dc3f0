use Rattle.std.proofs.Common.{◌≡◌, ℕ, ◌+◌, List, ◌++◌, take, map}
use Rattle.lynx_tree.specs.Trees.{var_tree}
use Rattle.compiler_emission.specs.Places.{IsTableOf}
use Rattle.compiler_emission.proofs.places.Places.add_vars.Given as goal

-- the names that were seen are added, and counted
abbrev pub invariant-loop-var : goal.invariant-loop-var
invariant-loop-var l = record {
  count : l.self.count ≡ l.fn.self.count + l.var-index;
  table : (names : List (List ℕ)) → IsTableOf names l.fn.self → IsTableOf (names ++ map (λ v. v.name) (map var_tree (take l.var-index l.list))) l.self;
}
