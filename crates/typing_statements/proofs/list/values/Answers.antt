use Rattle.std.proofs.Common.{◌+◌, drop, sym, ◌∙◌, arith}
use Rattle.std.proofs.lemmas.Bool.{eqb-false}
use Rattle.lynx_tree.specs.Trees.{expr_tree, expr_list}
use Rattle.typing_rules.specs.Expressions.{values_faults}
use Rattle.typing_rules.specs.Meanings.{scope_of}
use Rattle.typing_rules.specs.Progress.{first_with}
use Rattle.typing_rules.specs.Rules.{wants}
use Rattle.typing_rules.proofs.Members.{next_bool, none_left, bools_left}
use Rattle.typing_rules.proofs.Progress.{left_first}
use Rattle.typing_statements.specs.Parts.{typed_value}
use Rattle.typing_statements.proofs.Sizes.{some_exprs}
use Rattle.typing_statements.proofs.Lists.{value-split}
use Rattle.typing_statements.proofs.list.values.Goals as goal

pub next_value-requires : goal.next_value-requires
next_value-requires c =
    omega (arith, some_exprs c.args.values.now (omega arith), next_bool (scope_of c.args.scope.now) c.loop-item.item-index 0 c.args.values.now c.item-item.result c.loop-item-test.true c.item-item.is)

pub skip-requires-in-loop-item : goal.skip-requires-in-loop-item
skip-requires-in-loop-item c =
    omega (arith, some_exprs c.args.values.now (omega arith), next_bool (scope_of c.args.scope.now) c.loop-item.item-index 0 c.args.values.now c.item-item.result c.loop-item-test.true c.item-item.is)

pub loop-item-preserved : goal.loop-item-preserved
loop-item-preserved c =
    let s = scope_of c.args.scope.now in
    let i = c.loop-item.item-index in
    let es = c.args.values.now in
    let e = c.item-item.result in
    let ts = c.loop-item.left.now in
    let o1 = c.skip-in-loop-item.new.self.first in
    let here = typed_value c.args.rule s c.loop-item.walk.at (expr_tree e) ts in
    let left = values_faults (wants c.args.rule) s (c.next_value.new.walk.at + 1) (expr_list (drop (i + 1) es)) (drop 1 ts) in
    record {
      at = omega (arith, c.loop-item.invariant.at, next_bool s i 0 es e c.loop-item-test.true c.item-item.is);
      first = (λ j. first_with o1 (values_faults (wants c.args.rule) s (c.skip-in-loop-item.ensures.at j) (expr_list (drop (i + 1) es)) (c.behind_first-left.ensures j)))
          ∙ left_first c.loop-item.walk.first o1 _ _ here left (value-split c.args.rule s i c.loop-item.walk.at es e ts c.next_value.new.walk.at c.loop-item-test.true c.item-item.is c.next_value.ensures.at)
          (c.skip-in-loop-item.ensures.first ∙ c.next_value.ensures.first) c.loop-item.invariant.first;
    }

pub returns-clause-at : goal.returns-clause-at
returns-clause-at c = omega (arith, some_exprs c.args.values.now (omega (arith, eqb-false _ _ (sym c.is_empty.ensures ∙ c.if-is_empty.false))), none_left bools_left c.args.values.now c.loop-item.item-index c.loop-item-test.false)
