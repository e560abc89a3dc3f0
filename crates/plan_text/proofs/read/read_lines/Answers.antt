use Rattle.std.proofs.Common.{◌≡◌, ◌+◌, ◌∷◌, [], refl, length, option_copied, ap, subst, arith}
use Rattle.std.proofs.lemmas.Result.{err_from_is_err_and}
use Rattle.charlotte_text.specs.Reading.{parts, rest_parts}
use Rattle.lynx_plan.specs.Reading.{Gives, lines_read}
use Rattle.plan_text.specs.Reading.{plan_reader}
use Rattle.plan_text.proofs.Steps.{sound_planned}
use Rattle.lynx_plan.proofs.Lines.{few_parts, line_goes_on, line_fails, lines_end}
use Rattle.plan_text.proofs.read.read_lines.Goals as goal

pub overflow_add-line : goal.overflow_add-line
overflow_add-line c =
    let split : rest_parts 10 (option_copied c.loop-rest.rest) ≡ c.first_line.result.0.now ∷ rest_parts 10 (option_copied c.first_line.result.1) = rw c.in-Some.is c.first_line.ensures in
    omega (arith, few_parts c.args.bytes.now, ap length split, c.loop-rest.invariant.count)

pub returns-in_err-read_line : goal.returns-in_err-read_line
returns-in_err-read_line c =
    let split : rest_parts 10 (option_copied c.loop-rest.rest) ≡ c.first_line.result.0.now ∷ rest_parts 10 (option_copied c.first_line.result.1) = rw c.in-Some.is c.first_line.ensures in
    let p = err_from_is_err_and c.from_residual.result c.from_residual.ensures.1 in
    rw (p.1, p.2)
    (line_fails plan_reader c.in_err-read_line.field-0.0 (c.loop-rest.line + 1) c.loop-rest.draft (rest_parts 10 (option_copied c.loop-rest.rest)) c.first_line.result.0.now (rest_parts 10 (option_copied c.first_line.result.1))
    c.args.bytes.now split c.in_err-read_line.ensures c.loop-rest.invariant.so_far)

pub loop-rest-preserved : goal.loop-rest-preserved
loop-rest-preserved c =
    let split : rest_parts 10 (option_copied c.loop-rest.rest) ≡ c.first_line.result.0.now ∷ rest_parts 10 (option_copied c.first_line.result.1) = rw c.in-Some.is c.first_line.ensures in
    record {
      so_far =
          line_goes_on plan_reader c.loop-rest.line c.loop-rest.draft c.read_line.new.draft (rest_parts 10 (option_copied c.loop-rest.rest)) c.first_line.result.0.now (rest_parts 10 (option_copied c.first_line.result.1))
          (lines_read plan_reader 1 plan_reader.start (parts 10 c.args.bytes.now)) split c.in_ok-read_line.ensures c.loop-rest.invariant.so_far;
      count = omega (arith, ap length split, c.loop-rest.invariant.count);
      sound = sound_planned (c.loop-rest.line + 1) c.loop-rest.draft c.read_line.new.draft c.first_line.result.0.now c.in_ok-read_line.ensures c.loop-rest.invariant.sound;
    }

pub returns : goal.returns
returns c =
    let none : rest_parts 10 (option_copied c.loop-rest.rest) ≡ [] = rw c.in_default.is refl in
    subst (Gives c.whole.result) (lines_end plan_reader c.loop-rest.line c.loop-rest.draft (rest_parts 10 (option_copied c.loop-rest.rest)) c.args.bytes.now none c.loop-rest.invariant.count c.loop-rest.invariant.so_far) c.whole.ensures
