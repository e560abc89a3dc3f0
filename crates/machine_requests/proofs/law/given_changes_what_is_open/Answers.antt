use Rattle.machine_requests.proofs.Outside.{given_heard_there, given_open, given_others}
use Rattle.code_shapes.specs.Shapes.{program}
use Rattle.machine_requests.proofs.law.given_changes_what_is_open.Goals as goal

pub returns : goal.returns
returns c = λ m parts instructions t n o w sound heard asking. (given_heard_there (program m instructions) t n o w heard asking, given_open m parts instructions t n o w sound heard asking, λ k other. given_others instructions t n k o other)
