use Rattle.std.proofs.Common.{drop, map}
use Rattle.lynx_tree.specs.Trees.{op_tree}
use Rattle.lynx_code.specs.Modules.{IsOpOf}
use Rattle.compiler_emission.proofs.Pairing.{IsLeft}
use Rattle.lynx_threads.proofs.compiling.code_ops.Given as goal

-- what is made and what is left to make are the whole
abbrev pub invariant-loop-op : goal.invariant-loop-op
invariant-loop-op l = IsLeft IsOpOf (map op_tree l.ops) (map op_tree (drop l.op-index l.ops)) l.made.items
