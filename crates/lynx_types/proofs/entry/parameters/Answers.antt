use Rattle.std.proofs.Common.{◌≡◌, ◌+◌, length, ap, ◌∙◌, arith, length-drop}
use Rattle.std.proofs.lemmas.Grind.{common_steps}
use Rattle.typing_rules.specs.Meanings.{look}
use Rattle.typing_rules.specs.Progress.{first_with}
use Rattle.typing_rules.specs.Rules.{demand}
use Rattle.typing_rules.proofs.Members.{none_left}
use Rattle.typing_statements.proofs.Sizes.{some_names}
use Rattle.lynx_types.proofs.Entries.{parameter_first, parameter_names}
use Rattle.lynx_types.proofs.entry.parameters.Goals as goal

pub skip-requires-in-loop-parameter : goal.skip-requires-in-loop-parameter
skip-requires-in-loop-parameter c =
    omega (arith, some_names c.args.parameters.now (omega arith), c.loop-parameter.invariant.at, length-drop c.loop-parameter.parameter-index c.args.parameters.now)

pub loop-parameter-preserved : goal.loop-parameter-preserved
loop-parameter-preserved c =
    let i = c.loop-parameter.parameter-index in
    let ns = c.args.parameters.now in
    let n = c.parameter-item.result in
    let a = c.loop-parameter.walk.at in
    let b = c.skip-in-loop-parameter.new.self.at in
    let ts = c.loop-parameter.left.now in
    let us = c.behind_first-left.result.now in
    let kind = c.parameter_type-kind.result in
    let s = look c.loop-parameter.names in
    let t = look c.declare.new.self in
    let o = c.loop-parameter.walk.first in
    let lt = c.loop-parameter-test.true in
    let is = c.parameter-item.is in
    let at_b : b ≡ a + 2 = omega arith in
    record {
      at = omega (arith, c.loop-parameter.invariant.at, length-drop i ns, length-drop (i + 1) ns);
      first = parameter_first a n ns i ts us b kind lt is at_b c.behind_first-left.ensures c.parameter_type-kind.ensures s t c.in_ok-new.ensures.means o c.skip-in-loop-parameter.new.self.first c.in_ok-new.new c.in_ok-new.ensures.new
          (c.skip-in-loop-parameter.ensures.first ∙ c.demand.ensures.first ∙ ap (λ m. first_with o (demand 2 m c.in_ok-new.new)) c.at.ensures) ∙ c.loop-parameter.invariant.first;
      names = λ q. parameter_names a n ns i ts us b kind lt is at_b c.behind_first-left.ensures c.parameter_type-kind.ensures s t c.in_ok-new.ensures.means q ∙ c.loop-parameter.invariant.names q;
    }

pub returns-clause-at : goal.returns-clause-at
returns-clause-at c =
    omega (arith, some_names c.args.parameters.now (grind (arith, common_steps, c.is_empty.ensures, c.if-is_empty.false, c.if-is_empty.ensures)), c.loop-parameter.invariant.at, none_left length c.args.parameters.now c.loop-parameter.parameter-index c.loop-parameter-test.false)
