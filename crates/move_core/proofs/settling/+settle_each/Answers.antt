use Rattle.std.proofs.Common.{◌≡◌, ◌∷◌, length, arith, ap, sym, ◌∙◌}
use Rattle.end_table.specs.Table.{entries}
use Rattle.kernel_step.specs.Actions.{settle_each}
use Rattle.kernel_step.specs.Progress.{progress}
use Rattle.move_core.proofs.Arrivals.{AreAway-first, AreAway-others, AreApart-first, settle_each-more}
use Rattle.move_core.specs.Arriving.{AreAway, AreApart}
use Rattle.move_core.proofs.settling.+settle_each.Goals as goal

pub settle_each-requires : goal.settle_each-requires
settle_each-requires t c =
    let e : c.args.moving.now ≡ c.in-Some.first ∷ c.next.new.self = c.in-Some.ensures.rest in
    let away : AreAway c.args.table.now (c.in-Some.first ∷ c.next.new.self) = AreAway-first _ _ _ _ e c.requires.away in
    let apart : AreApart (c.in-Some.first ∷ c.next.new.self) = AreApart-first _ _ _ e c.requires.apart in
    let long : length c.args.moving.now ≡ length (c.in-Some.first ∷ c.next.new.self) = ap length e in
    (omega (arith, long, c.decreases), (AreAway-others _ _ _ _ c.settle.ensures.puts _ apart.0 away.2, apart.1))

pub returns-in-Some-clause-part : goal.returns-in-Some-clause-part
returns-in-Some-clause-part t c = λ out.
    c.settle_each.ensures.part out ∙ settle_each-more _ _ _ _ _ _ c.in-Some.ensures.rest (c.settle.ensures.part out)

pub returns-in-None-clause-part : goal.returns-in-None-clause-part
unfolding settle_each
returns-in-None-clause-part t c = λ out. ap (λ ms. settle_each c.args.holder ms (progress (entries c.args.table.now) out)) (sym c.in-None.ensures.none)
