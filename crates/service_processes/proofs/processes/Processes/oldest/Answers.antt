use Rattle.std.proofs.Common.{sym, ◌∙◌, ap, slice_get}
use Rattle.service_step.specs.State.{Process}
use Rattle.service_processes.proofs.Blocks.{first-lent, process_of-found, process_of-missing}
use Rattle.service_processes.proofs.processes.Processes.oldest.Goals as goal

pub returns-in-Some : goal.returns-in-Some
returns-in-Some c =
    first-lent _ c.front.result c.front.ensures.item ∙ ap (λ (z : Process). slice_get z.reports 0) (sym (process_of-found _ _ _ c.in-Some.ensures))

pub returns-in-None : goal.returns-in-None
returns-in-None c = ap (λ (z : Process). slice_get z.reports 0) (sym (process_of-missing _ _ c.in-None.ensures))
