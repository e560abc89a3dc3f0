use Rattle.std.proofs.Common.{◌≡◌, ◌∷◌, length, arith, ap, sym, ◌∙◌}
use Rattle.kernel_step.specs.Enclosed.{AreEnclosed}
use Rattle.kernel_step.proofs.EnclosedEnds.{AreEnclosed-first, AreEnclosed-others, hold_each-more}
use Rattle.end_table.specs.Table.{entries}
use Rattle.kernel_step.specs.Actions.{hold_each}
use Rattle.kernel_step.specs.Progress.{progress}
use Rattle.cancel_core.proofs.enclosed.+hold_each.Goals as goal

pub hold_each-requires : goal.hold_each-requires
hold_each-requires t c =
    let are : AreEnclosed (entries c.args.table.now) (c.in-Some.first ∷ c.in-Some.others.now) = AreEnclosed-first _ _ _ _ c.in-Some.ensures c.requires in
    let long : length c.args.ends.now ≡ length (c.in-Some.first ∷ c.in-Some.others.now) = ap length c.in-Some.ensures in
    (omega (arith, long, c.decreases), AreEnclosed-others _ _ _ _ c.hold.ensures.kept.others are.1 are.2)

pub returns-in-Some-clause-part : goal.returns-in-Some-clause-part
returns-in-Some-clause-part t c = λ out.
    c.hold_each.ensures.part out ∙ hold_each-more _ _ _ _ _ _ out c.in-Some.ensures (c.hold.ensures.part out)

pub returns-in-None-clause-part : goal.returns-in-None-clause-part
unfolding hold_each
returns-in-None-clause-part t c = λ out. ap (λ xs. hold_each c.args.holder xs (progress (entries c.args.table.now) out)) (sym c.in-None.ensures)
