use Rattle.machine_requests.proofs.Beats.{beats_leave}
use Rattle.machine_requests.proofs.law.beats_keep_what_is_open.Goals as goal

pub returns : goal.returns
returns c = beats_leave
