use Rattle.std.proofs.Common.{refl, arith}
use Rattle.lynx_tree.specs.Trees.{module_tree}
use Rattle.compiler_emission.proofs.Entries.{too_many}
use Rattle.compiler_emission.proofs.parts.compile_parts.Goals as goal

pub returns-then-len-ge-MOST-clause-long : goal.returns-then-len-ge-MOST-clause-long
returns-then-len-ge-MOST-clause-long c h = too_many (module_tree c.args.tree.now) c.args.tree.now.entries.items refl (omega arith)
