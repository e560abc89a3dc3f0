use Rattle.std.proofs.Common.{◌≡◌, ◌+◌, ◌∙◌, arith}
use Rattle.lynx_lexer.specs.declared.keyword.Keyword.TheVariants as keywords
use Rattle.lynx_tree.specs.Grammar.{var_marks}
use Rattle.lynx_tree.specs.Trees.{var_tree}
use Rattle.typing_rules.specs.Meanings.{look}
use Rattle.typing_rules.specs.Modules.{var_faults, param_faults}
use Rattle.typing_rules.specs.Names.{var_size, var_named}
use Rattle.typing_rules.specs.Progress.{first_with}
use Rattle.typing_rules.specs.Rules.{demand, param_is_link}
use Rattle.lynx_types.specs.News.{news_faults}
use Rattle.lynx_types.proofs.Declarations.{param_first, next_tokens, next_first, next_names}
use Rattle.lynx_types.proofs.declaration.params.Goals as goal

pub loop-param-preserved : goal.loop-param-preserved
loop-param-preserved c =
    let i = c.loop-param.param-index in
    let ds = c.args.params.now in
    let d = c.param-item.result in
    let a = c.loop-param.walk.at in
    let b = c.demand.new.self.at in
    let s = look c.loop-param.names in
    let t = look c.var.new.names in
    let lt = c.loop-param-test.true in
    let is = c.param-item.is in
    let at_b = c.demand.ensures.at ∙ c.in_ok-var.ensures.at in
    let found : c.demand.new.self.first ≡ first_with c.var.new.walk.first (param_is_link (a + 3) d.kind)
    = c.demand.ensures.first ∙ (λ j. first_with c.var.new.walk.first (demand 3 (c.at-place.ensures j + 3) (c.is_link.ensures j))) in
    record {
      at = omega (arith, c.loop-param.invariant.at, at_b, next_tokens var_tree (var_marks keywords.Param) ds i d lt is);
      first =
          next_first var_tree var_size var_named ds i d a b lt is at_b s t c.in_ok-var.ensures.names param_faults 1 c.loop-param.walk.first c.demand.new.self.first
          (param_first c.loop-param.walk.first c.var.new.walk.first c.demand.new.self.first (news_faults 1 s (var_named a (var_tree d))) (param_is_link (a + 3) d.kind) (var_faults a (var_tree d)) c.in_ok-var.ensures.first found) ∙ c.loop-param.invariant.first;
      names = λ q. next_names var_tree var_size var_named ds i d a b lt is at_b s t c.in_ok-var.ensures.names q ∙ c.loop-param.invariant.names q;
    }
