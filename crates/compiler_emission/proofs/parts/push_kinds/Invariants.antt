use Rattle.std.proofs.Common.{◌≡◌, ◌++◌, take, map}
use Rattle.lynx_tree.specs.Trees.{var_tree}
use Rattle.compiler_emission.proofs.parts.push_kinds.Given as goal

-- the types of the variables that were seen are added
abbrev pub invariant-loop-var : goal.invariant-loop-var
invariant-loop-var l = l.types.items ≡ l.fn.types.items ++ map (λ v. v.kind) (map var_tree (take l.var-index l.vars))
