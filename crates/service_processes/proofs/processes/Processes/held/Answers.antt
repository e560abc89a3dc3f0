use Rattle.std.proofs.Common.{sym, ◌∙◌}
use Rattle.service_processes.proofs.Blocks.{held_by-found, held_by-missing}
use Rattle.service_processes.proofs.processes.Processes.held.Goals as goal

pub returns-in-Some : goal.returns-in-Some
returns-in-Some c = c.as_slice.ensures.keys ∙ sym (held_by-found _ _ _ c.in-Some.ensures)

pub returns-in-None : goal.returns-in-None
returns-in-None c = sym (held_by-missing _ _ c.in-None.ensures)
