use Rattle.std.proofs.Common.{sym, ◌∙◌, ◌-◌, ap, List, length, slice_get}
use Rattle.charlotte_calls.specs.declared.names.EndId.{EndId}
use Rattle.service_processes.proofs.Blocks.{active_of-found, active_of-missing}
use Rattle.service_processes.proofs.processes.Processes.last_active.Goals as goal

pub returns-in-Some : goal.returns-in-Some
returns-in-Some c =
    c.copied.ensures ∙ c.last.ensures.key ∙ ap (λ (l : List EndId). slice_get l (length l - 1)) (sym (active_of-found _ _ _ c.in-Some.ensures))

pub returns-in-None : goal.returns-in-None
returns-in-None c = ap (λ (l : List EndId). slice_get l (length l - 1)) (sym (active_of-missing _ _ c.in-None.ensures))
