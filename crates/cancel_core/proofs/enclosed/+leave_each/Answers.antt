use Rattle.std.proofs.Common.{◌≡◌, ◌++◌, ◌∷◌, [], length, arith, ap, sym, ◌∙◌, append-nil, length-append}
use Rattle.kernel_step.specs.Enclosed.{AreEnclosed}
use Rattle.kernel_step.proofs.EnclosedEnds.{AreEnclosed-first, AreEnclosed-others, values_leaving-others, values_leaving-more, leave_each-more}
use Rattle.end_table.specs.Table.{entries}
use Rattle.kernel_step.specs.Actions.{leave_each, values_leaving}
use Rattle.kernel_step.specs.Progress.{progress}
use Rattle.cancel_core.proofs.enclosed.+leave_each.Goals as goal

pub leave_each-requires : goal.leave_each-requires
leave_each-requires t c =
    let e : c.args.ends.now ≡ c.in-Some.first ∷ c.in-Some.others.now = c.in-Some.ensures in
    let are : AreEnclosed (entries c.args.table.now) (c.in-Some.first ∷ c.in-Some.others.now) = AreEnclosed-first _ _ _ _ e c.requires.enclosed in
    let long : length c.args.ends.now ≡ length (c.in-Some.first ∷ c.in-Some.others.now) = ap length e in
    let added : length c.add.new.self ≡ length (c.args.cargo.now ++ c.leave.result ∷ []) = ap length c.add.ensures in
    (omega (arith, long, c.decreases), (AreEnclosed-others _ _ _ _ c.leave.ensures.kept.others are.1 are.2, omega (arith, length-append c.args.cargo.now (c.leave.result ∷ []))))

pub returns-in-Some-clause-part : goal.returns-in-Some-clause-part
returns-in-Some-clause-part t c = λ out.
    c.leave_each.ensures.part out ∙ leave_each-more _ _ _ _ _ _ out c.in-Some.ensures (c.leave.ensures.part out)

pub returns-in-Some-clause-cargo : goal.returns-in-Some-clause-cargo
returns-in-Some-clause-cargo t c =
    let are : AreEnclosed (entries c.args.table.now) (c.in-Some.first ∷ c.in-Some.others.now) = AreEnclosed-first _ _ _ _ c.in-Some.ensures c.requires.enclosed in
    c.leave_each.ensures.cargo
    ∙ ap (λ k. c.add.new.self ++ values_leaving k (entries c.leave.new.table) c.in-Some.others.now) c.leave.ensures.kept.kernel
    ∙ values_leaving-more _ _ _ _ _ _ _ _ _ c.in-Some.ensures c.leave.ensures.value (values_leaving-others _ _ _ _ _ c.leave.ensures.kept.others are.1) c.add.ensures

pub returns-in-None-clause-part : goal.returns-in-None-clause-part
unfolding leave_each
returns-in-None-clause-part t c = λ out. ap (λ xs. leave_each c.args.to xs (progress (entries c.args.table.now) out)) (sym c.in-None.ensures)

pub returns-in-None-clause-cargo : goal.returns-in-None-clause-cargo
unfolding values_leaving
returns-in-None-clause-cargo t c =
    sym (append-nil c.args.cargo.now)
    ∙ ap (λ xs. c.args.cargo.now ++ values_leaving c.args.table.now.kernel (entries c.args.table.now) xs) (sym c.in-None.ensures)
