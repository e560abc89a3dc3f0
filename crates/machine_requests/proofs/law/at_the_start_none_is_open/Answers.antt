use Rattle.machine_requests.proofs.Outside.{start_heard, start_open}
use Rattle.machine_requests.proofs.law.at_the_start_none_is_open.Goals as goal

pub returns : goal.returns
returns c = λ p globals. (start_heard p globals, λ n. start_open p.instructions globals n)
