use Rattle.lynx_grammar.proofs.Laws.{one_tree_only}
use Rattle.lynx_grammar.proofs.law.one_tree.Goals as goal

pub returns : goal.returns
returns c = one_tree_only
