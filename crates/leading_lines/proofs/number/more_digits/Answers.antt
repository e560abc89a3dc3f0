use Rattle.std.proofs.Common.{◌<◌, ◌+◌, ◌*◌, ◌^◌, ◌++◌, List, ℕ, ap, ◌∙◌, arith, length}
use Rattle.charlotte_text.specs.Spelling.{number_text}
use Rattle.leading_lines.proofs.Leading.{digit_more}
use Rattle.leading_lines.proofs.number.more_digits.Goals as goal

pub loop-digit-preserved : goal.loop-digit-preserved
loop-digit-preserved c =
    let small : 10 * c.loop-digit.number + c.from.result < 2 ^ 64 = omega (arith, c.from.ensures, c.in-Some.ensures.high) in
    record {
      some = omega (arith, c.loop-digit.invariant.some);
      same = c.loop-digit.invariant.same ∙ ap (λ (x : List ℕ). number_text c.loop-digit.number ++ x) c.in-Some.ensures.split
          ∙ digit_more c.loop-digit.number c.in-Some.digit c.from.result c.in-Some.behind.now c.loop-digit.invariant.some c.from.ensures c.in-Some.ensures.low c.in-Some.ensures.high small;
    }

pub loop-digit-smaller : goal.loop-digit-smaller
loop-digit-smaller c = omega (arith, ap length c.in-Some.ensures.split)
