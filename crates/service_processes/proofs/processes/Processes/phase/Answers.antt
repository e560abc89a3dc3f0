use Rattle.std.proofs.Common.{ap, sym}
use Rattle.std.proofs.lemmas.Option.{slice_get_within}
use Rattle.service_processes.proofs.Blocks.{process_of-found, process_of-missing}
use Rattle.service_processes.proofs.processes.Processes.phase.Goals as goal

pub returns-in-Some-clause-phase : goal.returns-in-Some-clause-phase
returns-in-Some-clause-phase c = ap (λ z. z.phase) (sym (process_of-found _ _ _ c.in-Some.ensures))

pub returns-in-Some-clause-running : goal.returns-in-Some-clause-running
returns-in-Some-clause-running c = λ runs. slice_get_within _ _ _ (sym c.in-Some.ensures)

pub returns-in-None-clause-phase : goal.returns-in-None-clause-phase
returns-in-None-clause-phase c = ap (λ z. z.phase) (sym (process_of-missing _ _ c.in-None.ensures))
