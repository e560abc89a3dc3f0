use Rattle.std.proofs.Common.{arith}
use Rattle.std.proofs.lemmas.List.{length-map}
use Rattle.lynx_tree.specs.Trees.{module_tree, var_tree}
use Rattle.compiler_emission.proofs.Sizes.{few_variables}
use Rattle.lynx_threads.proofs.compiling.count_params.Goals as goal

pub overflow_cast-result : goal.overflow_cast-result
overflow_cast-result c = omega (arith, few_variables (module_tree c.args.tree.now) c.requires, c.len.ensures, length-map c.args.tree.now.params.items var_tree)
