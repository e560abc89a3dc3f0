use Rattle.request_runs.proofs.Events.{goes_in_order}
use Rattle.request_runs.proofs.law.events_go_in_order.Goals as goal

pub returns : goal.returns
returns c = goes_in_order
