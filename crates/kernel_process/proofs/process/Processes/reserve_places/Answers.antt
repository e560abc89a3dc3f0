-- The sets alone grew.
use Rattle.std.proofs.Common.{map, ap, ◌∙◌, sym, subst}
use Rattle.std.proofs.lemmas.List.{with_items_is}
use Rattle.kernel_process.specs.declared.process.ControlBlock.{ControlBlock}
use Rattle.kernel_process.specs.Closing.{HaveSpare}
use Rattle.kernel_process.proofs.KeptMoved.{HaveSpare-moved}
use Rattle.kernel_process.proofs.process.Processes.reserve_places.Goals as goal

pub returns-clause-spare : goal.returns-clause-spare
returns-clause-spare c = λ n have.
    HaveSpare-moved n c.self.inside.blocks.items _
    (ap (map (λ (x : ControlBlock). x.reports)) (with_items_is c.self.inside.blocks c.reserve_places.new.blocks (c.reserve_places.ensures.length ∙ c.as_mut_slice.ensures.len))
    ∙ c.reserve_places.ensures.reports ∙ ap (map (λ (x : ControlBlock). x.reports)) c.as_mut_slice.ensures.value)
    (subst (HaveSpare n) (sym c.self.view_is) have)
