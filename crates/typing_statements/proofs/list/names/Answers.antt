use Rattle.std.proofs.Common.{◌+◌, drop, sym, ◌∙◌, arith}
use Rattle.std.proofs.lemmas.Bool.{eqb-false}
use Rattle.typing_rules.specs.Meanings.{scope_of}
use Rattle.typing_rules.specs.Progress.{first_with}
use Rattle.typing_rules.specs.Rules.{wants}
use Rattle.typing_rules.specs.Statements.{names_faults}
use Rattle.typing_rules.proofs.Progress.{left_first}
use Rattle.typing_statements.specs.Parts.{typed_name}
use Rattle.typing_statements.proofs.Sizes.{some_names}
use Rattle.typing_statements.proofs.Lists.{name-split}
use Rattle.typing_statements.proofs.list.names.Goals as goal

pub next_name-requires : goal.next_name-requires
next_name-requires c = omega (arith, some_names c.args.names.now (omega arith))

pub skip-requires-in-loop-item : goal.skip-requires-in-loop-item
skip-requires-in-loop-item c = omega (arith, some_names c.args.names.now (omega arith))

pub loop-item-preserved : goal.loop-item-preserved
loop-item-preserved c =
    let s = scope_of c.args.scope.now in
    let i = c.loop-item.item-index in
    let ns = c.args.names.now in
    let n = c.item-item.result in
    let ts = c.loop-item.left.now in
    let o1 = c.skip-in-loop-item.new.self.first in
    let here = typed_name c.args.rule s c.loop-item.walk.at n ts in
    let left = names_faults (wants c.args.rule) s c.skip-in-loop-item.new.self.at (drop (i + 1) ns) (drop 1 ts) in
    record {
      at = omega arith;
      first = (λ j. first_with o1 (names_faults (wants c.args.rule) s c.skip-in-loop-item.new.self.at (drop (i + 1) ns) (c.behind_first-left.ensures j)))
          ∙ left_first c.loop-item.walk.first o1 _ _ here left (name-split c.args.rule s i c.loop-item.walk.at ns n ts c.skip-in-loop-item.new.self.at c.loop-item-test.true c.item-item.is (omega arith))
          (c.skip-in-loop-item.ensures.first ∙ c.next_name.ensures.first) c.loop-item.invariant.first;
    }

pub returns-clause-at : goal.returns-clause-at
returns-clause-at c = omega (arith, some_names c.args.names.now (omega (arith, eqb-false _ _ (sym c.is_empty.ensures ∙ c.if-is_empty.false))))
