use Rattle.std.proofs.Common.{◌≡◌, ◌++◌, ◌∷◌, [], length, arith, ap, sym, ◌∙◌, length-append}
use Rattle.end_table.specs.Table.{entries}
use Rattle.kernel_step.specs.Progress.{progress}
use Rattle.kernel_step.specs.Rows.{pass_each}
use Rattle.move_core.proofs.Arrivals.{AreAway-first, AreAway-left, pass_each-more}
use Rattle.kernel_step.proofs.Departed.{left-IsHere}
use Rattle.move_core.specs.Arriving.{AreAway}
use Rattle.move_core.proofs.parcel.+pass_each.Goals as goal

pub pass_each-requires : goal.pass_each-requires
pass_each-requires t c =
    let e : c.args.moving ≡ c.in-Some.first ∷ c.next.new.self = c.in-Some.ensures.rest in
    let away : AreAway c.args.table.now (c.in-Some.first ∷ c.next.new.self) = AreAway-first _ _ _ _ e c.requires.away in
    let long : length c.args.moving ≡ length (c.in-Some.first ∷ c.next.new.self) = ap length e in
    let added : length c.add.new.self ≡ length (c.args.left.now ++ c.pass.result ∷ []) = ap length c.add.ensures in
    (omega (arith, long, c.decreases), (AreAway-left _ _ _ _ c.pass.ensures.puts _ (left-IsHere c.args.at c.in-Some.first) away.2, omega (arith, long, added, c.requires.few, length-append c.args.left.now (c.pass.result ∷ []))))

pub returns-in-Some-clause-part : goal.returns-in-Some-clause-part
returns-in-Some-clause-part t c = λ out.
    c.pass_each.ensures.part out ∙ pass_each-more _ _ _ _ _ _ c.in-Some.ensures.rest (c.pass.ensures.part out)

pub returns-in-None-clause-part : goal.returns-in-None-clause-part
unfolding pass_each
returns-in-None-clause-part t c = λ out. ap (λ ms. pass_each c.args.at ms (progress (entries c.args.table.now) out)) (sym c.in-None.ensures.none)
