use Rattle.std.proofs.Common.{◌∙◌}
use Rattle.std.proofs.lemmas.Option.{IfSome_then}
use Rattle.leading_lines.proofs.Leading.{digit_first}
use Rattle.leading_lines.proofs.number.leading_number.Goals as goal

pub returns : goal.returns
returns c =
    IfSome_then c.more_digits.result c.more_digits.ensures
    (λ x e. c.in_ok-digit.ensures.split ∙ digit_first c.in_ok-digit.digit c.from.result c.in_ok-digit.rest.now c.in_ok-digit.ensures.low c.in_ok-digit.ensures.high c.from.ensures ∙ e)
