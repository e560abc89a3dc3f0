use Rattle.std.proofs.Common.{◌-◌, ◌<◌, ℕ, List, rules, subst, sym}
use Rattle.std.proofs.lemmas.Option.{IfSome_then}
use Rattle.leading_lines.specs.Past.{HasEnds}
use Rattle.leading_lines.proofs.Past.{no_ends, one_end}
use Rattle.leading_lines.proofs.enclosed.+past_ends.Goals as goal

pub returns : goal.returns
returns t c =
    let fewer : c.args.most - 1 < c.args.most = search rules in
    IfSome_then c.past_ends.result c.past_ends.ensures
    (λ rest h. subst (λ (x : List ℕ). HasEnds c.args.most x rest.now) (sym c.in-Some.ensures)
    (one_end c.args.most _ c.in-Some.word.now c.in_ok-end.rest.now rest.now c.in_ok-end.end c.in_ok-end.ensures.spelled c.in_ok-end.ensures.fits fewer h))

pub returns-in_default : goal.returns-in_default
returns-in_default t c = no_ends c.args.most c.args.text.now
