use Rattle.std.proofs.Common.{◌<◌, ◌+◌, length, arith}
use Rattle.lynx_lexer.proofs.Decimals.{decimal_step, decimal_front}
use Rattle.lynx_lexer.proofs.front.number.Goals as goal

-- the number so far passes 2 ^ 64, and the whole number is no smaller
pub returns-in_err-checked_mul-clause-wide : goal.returns-in_err-checked_mul-clause-wide
returns-in_err-checked_mul-clause-wide c =
    let within : c.loop-digit.digit-index < length c.args.digits.now = omega arith in
    rw c.from_residual.ensures (omega (arith, c.in_err-checked_mul.ensures, c.loop-digit.invariant, decimal_step c.args.digits.now c.loop-digit.digit-index within, decimal_front c.args.digits.now (c.loop-digit.digit-index + 1)))

pub returns-in_err-value-clause-wide : goal.returns-in_err-value-clause-wide
returns-in_err-value-clause-wide c =
    let within : c.loop-digit.digit-index < length c.args.digits.now = omega arith in
    rw c.from_residual-in_err-value.ensures (omega (arith, c.in_err-value.ensures, c.in_ok-checked_mul.ensures, c.loop-digit.invariant, decimal_step c.args.digits.now c.loop-digit.digit-index within, decimal_front c.args.digits.now (c.loop-digit.digit-index + 1)))
