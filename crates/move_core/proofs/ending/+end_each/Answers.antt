use Rattle.std.proofs.Common.{◌≡◌, ◌+◌, ◌∷◌, length, arith, ap, sym, ◌∙◌}
use Rattle.end_table.specs.Table.{entries}
use Rattle.kernel_step.proofs.EnclosedEnds.{AreEnclosed-first, AreEnclosed-others}
use Rattle.kernel_step.specs.Actions.{end_each}
use Rattle.kernel_step.specs.Enclosed.{AreEnclosed}
use Rattle.kernel_step.specs.Progress.{progress}
use Rattle.move_core.proofs.Arrivals.{HasRoom-others, end_each-more}
use Rattle.move_core.proofs.ending.+end_each.Goals as goal

pub end_each-requires : goal.end_each-requires
end_each-requires t c =
    let e : c.args.ends.now ≡ c.in-Some.first ∷ c.in-Some.others.now = c.in-Some.ensures in
    let are : AreEnclosed (entries c.args.table.now) (c.in-Some.first ∷ c.in-Some.others.now) = AreEnclosed-first _ _ _ _ e c.requires.enclosed in
    let long : length c.args.ends.now ≡ length (c.in-Some.first ∷ c.in-Some.others.now) = ap length e in
    let more : length c.args.ends.now ≡ length c.in-Some.others.now + 1 = omega (arith, long) in
    (omega (arith, long, c.decreases), (AreEnclosed-others _ _ _ _ c.end_idle.ensures.kept.others are.1 are.2, HasRoom-others _ _ _ _ more c.requires.room c.end_idle.ensures.room))

pub returns-in-Some-clause-part : goal.returns-in-Some-clause-part
returns-in-Some-clause-part t c =
    c.end_each.ensures.part
    ∙ ap (λ k. end_each k c.in-Some.others.now (progress (entries c.end_idle.new.table) c.end_idle.new.out)) c.end_idle.ensures.kept.kernel
    ∙ end_each-more _ _ _ _ _ _ _ c.in-Some.ensures c.end_idle.ensures.part

pub returns-in-None-clause-part : goal.returns-in-None-clause-part
unfolding end_each
returns-in-None-clause-part t c = ap (λ xs. end_each c.args.table.now.kernel xs (progress (entries c.args.table.now) c.args.out.now)) (sym c.in-None.ensures)
