use Rattle.service_processes.proofs.Blocks.{process_of-new}
use Rattle.service_processes.proofs.processes.Processes.fresh.Goals as goal

pub returns-clause-processes : goal.returns-clause-processes
returns-clause-processes c = process_of-new _ _ c.in_ok-blocks.ensures.count c.in_ok-blocks.ensures.fresh
