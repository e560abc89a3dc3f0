use Rattle.std.proofs.Common.{◌≡◌, ◌∷◌, [], None, Some, refl, length, option_copied, ap, subst, arith}
use Rattle.charlotte_text.specs.Reading.{rest_parts}
use Rattle.history_run.proofs.Following.{few_parts, goes_on, begins, fails, ends_well, ends_early}
use Rattle.history_run.proofs.text.follow.Goals as goal
use Rattle.history_text.specs.Given.{Given}
use Rattle.history_text.specs.Lines.{missing_at}

pub overflow_add-line : goal.overflow_add-line
overflow_add-line c =
    let split : rest_parts 10 (option_copied c.loop-rest.rest) ≡ c.first_line.result.0.now ∷ rest_parts 10 (option_copied c.first_line.result.1) = rw c.in-Some.is c.first_line.ensures in
    omega (arith, few_parts c.args.bytes.now, ap length split, c.loop-rest.invariant.count)

pub loop-rest-init : goal.loop-rest-init
loop-rest-init c = record { so_far = begins c.args.bytes.now c.args.history.now c.requires.new; count = omega arith }

pub loop-rest-preserved : goal.loop-rest-preserved
loop-rest-preserved c =
    let split : rest_parts 10 (option_copied c.loop-rest.rest) ≡ c.first_line.result.0.now ∷ rest_parts 10 (option_copied c.first_line.result.1) = rw c.in-Some.is c.first_line.ensures in
    record {
      so_far =
          goes_on c.args.bytes.now c.loop-rest.line (rest_parts 10 (option_copied c.loop-rest.rest)) c.first_line.result.0.now (rest_parts 10 (option_copied c.first_line.result.1))
          c.loop-rest.history c.line.new.self split c.in_default-line.ensures c.loop-rest.invariant.so_far;
      count = omega (arith, ap length split, c.loop-rest.invariant.count);
    }

pub returns-in-Err : goal.returns-in-Err
returns-in-Err c =
    let split : rest_parts 10 (option_copied c.loop-rest.rest) ≡ c.first_line.result.0.now ∷ rest_parts 10 (option_copied c.first_line.result.1) = rw c.in-Some.is c.first_line.ensures in
    rw c.at.ensures
    (fails (Unit {0}) c.args.bytes.now c.loop-rest.line (rest_parts 10 (option_copied c.loop-rest.rest)) c.first_line.result.0.now (rest_parts 10 (option_copied c.first_line.result.1))
    c.loop-rest.history c.in-Err.fault split c.in-Err.ensures c.loop-rest.invariant.so_far)

pub returns-then-has_begun : goal.returns-then-has_begun
returns-then-has_begun c =
    let none : rest_parts 10 (option_copied c.loop-rest.rest) ≡ [] = rw c.in_default.is refl in
    ends_well {X = Unit {0}} (tt {0}) c.args.bytes.now c.loop-rest.line (rest_parts 10 (option_copied c.loop-rest.rest)) c.loop-rest.history none
    (subst (λ (g : Given). missing_at c.loop-rest.line g.stage ≡ None) c.draft.ensures (c.if-has_begun.ensures c.loop-rest.line))
    c.loop-rest.invariant.so_far

pub returns-else-has_begun : goal.returns-else-has_begun
returns-else-has_begun c =
    let none : rest_parts 10 (option_copied c.loop-rest.rest) ≡ [] = rw c.in_default.is refl in
    ends_early (Unit {0}) c.args.bytes.now c.loop-rest.line (rest_parts 10 (option_copied c.loop-rest.rest)) c.loop-rest.history none
    (subst (λ (g : Given). missing_at c.loop-rest.line g.stage ≡ Some c.loop-rest.line) c.draft.ensures (c.if-has_begun.ensures c.loop-rest.line))
    c.loop-rest.invariant.so_far
