use Rattle.std.proofs.Common.{arith, ◌≡◌, List, drop, reverse, take, ap, ◌∙◌}
use Rattle.lynx_meaning.specs.Values.{Value}
use Rattle.machine_values.specs.Told.{values_of}
use Rattle.machine_stack.proofs.Gathered.{passed_more, turned}
use Rattle.machine_stack.proofs.operands.Operands.values.Goals as goal

pub passed-preserved : goal.passed-preserved
passed-preserved c =
    passed_more c.passed.counter c.args.self.now c.passed.rest c.next-above.new.self c.next-above.result (omega (arith, c.requires)) c.passed.invariant c.next-above.ensures

pub returns : goal.returns
returns c =
    let all : c.passed.counter ≡ c.args.passed = omega arith in
    ap values_of c.reverse.ensures.items
    ∙ turned c.in_ok-values.values.items
    ∙ ap reverse (c.in_ok-values.ensures ∙ ap (λ (xs : List Value). take c.args.count xs) (c.passed.invariant ∙ ap (λ k. drop k c.args.self.now) all))
