use Rattle.machine_turns.specs.Turns.{Act, Stops}
use Rattle.machine_requests.proofs.Beats.{beats_come}
use Rattle.machine_requests.proofs.law.beats_ask_of_the_code.Goals as goal

pub returns : goal.returns
returns c = λ m parts instructions k fuel left n a t u sound heard e. (beats_come m parts instructions k fuel t (Stops (Act n a) left u) sound heard e).1
