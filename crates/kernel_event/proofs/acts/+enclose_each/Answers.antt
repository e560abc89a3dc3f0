use Rattle.std.proofs.Common.{◌≡◌, ◌∷◌, length, arith, ap, sym, ◌∙◌}
use Rattle.end_table.specs.Table.{entries}
use Rattle.kernel_event.proofs.ActsParts.{encloses-more, encloses-none}
use Rattle.kernel_step.proofs.EnclosedEnds.{AreEnclosed-first, AreEnclosed-others}
use Rattle.kernel_step.specs.Enclosed.{AreEnclosed}
use Rattle.kernel_event.proofs.acts.+enclose_each.Goals as goal

pub enclose_each-requires : goal.enclose_each-requires
enclose_each-requires t c =
    let are : AreEnclosed (entries c.args.table.now) (c.in-Some.first ∷ c.in-Some.others.now) = AreEnclosed-first _ _ _ _ c.in-Some.ensures c.requires in
    let long : length c.args.ends.now ≡ length (c.in-Some.first ∷ c.in-Some.others.now) = ap length c.in-Some.ensures in
    (omega (arith, long, c.decreases), AreEnclosed-others _ _ _ _ c.enclose.ensures.kept.others are.1 are.2)

pub returns-in-Some-clause-part : goal.returns-in-Some-clause-part
returns-in-Some-clause-part t c = c.enclose_each.ensures.part ∙ encloses-more _ _ _ _ _ _ _ _ c.in-Some.ensures c.enclose.ensures.part

pub returns-in-None-clause-part : goal.returns-in-None-clause-part
returns-in-None-clause-part t c = sym (encloses-none c.args.on c.args.ends.now _ c.in-None.ensures)
