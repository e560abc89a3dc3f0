use Rattle.std.proofs.Common.{◌-◌, ◌<◌, ℕ, List, rules, subst, sym}
use Rattle.std.proofs.lemmas.Option.{IfSome_then}
use Rattle.leading_lines.specs.Past.{HasValues}
use Rattle.leading_lines.proofs.Past.{no_values, one_value}
use Rattle.leading_lines.proofs.enclosed.+past_values.Goals as goal

pub returns : goal.returns
returns t c =
    let fewer : c.args.most - 1 < c.args.most = search rules in
    IfSome_then c.past_values.result c.past_values.ensures
    (λ rest h. subst (λ (x : List ℕ). HasValues c.args.most x rest.now) (sym c.in-Some.ensures)
    (one_value c.args.most _ c.in-Some.word.now c.in_ok-value.rest.now rest.now c.in_ok-value.value c.in_ok-value.ensures.spelled c.in_ok-value.ensures.fits fewer h))

pub returns-in_default : goal.returns-in_default
returns-in_default t c = no_values c.args.most c.args.text.now
