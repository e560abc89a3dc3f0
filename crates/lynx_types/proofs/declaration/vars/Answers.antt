use Rattle.std.proofs.Common.{◌∙◌, arith}
use Rattle.lynx_lexer.specs.declared.keyword.Keyword.TheVariants as keywords
use Rattle.lynx_tree.specs.Grammar.{var_marks}
use Rattle.lynx_tree.specs.Trees.{var_tree}
use Rattle.typing_rules.specs.Meanings.{look}
use Rattle.typing_rules.specs.Modules.{var_faults}
use Rattle.typing_rules.specs.Names.{var_size, var_named}
use Rattle.lynx_types.proofs.Declarations.{next_tokens, next_first, next_names}
use Rattle.lynx_types.proofs.declaration.vars.Goals as goal

pub loop-item-preserved : goal.loop-item-preserved
loop-item-preserved c =
    let i = c.loop-item.item-index in
    let ds = c.args.vars.now in
    let d = c.item-item.result in
    let a = c.loop-item.walk.at in
    let b = c.var.new.walk.at in
    let s = look c.loop-item.names in
    let t = look c.var.new.names in
    let lt = c.loop-item-test.true in
    let is = c.item-item.is in
    let at_b = c.in_ok-var.ensures.at in
    record {
      at = omega (arith, c.loop-item.invariant.at, at_b, next_tokens var_tree (var_marks keywords.Var) ds i d lt is);
      first = next_first var_tree var_size var_named ds i d a b lt is at_b s t c.in_ok-var.ensures.names var_faults c.args.rule c.loop-item.walk.first c.var.new.walk.first c.in_ok-var.ensures.first ∙ c.loop-item.invariant.first;
      names = λ q. next_names var_tree var_size var_named ds i d a b lt is at_b s t c.in_ok-var.ensures.names q ∙ c.loop-item.invariant.names q;
    }
