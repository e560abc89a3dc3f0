use Rattle.machine_requests.proofs.Outside.{spawned_heard, spawned_open, spawned_others}
use Rattle.machine_requests.proofs.law.new_threads_open_their_own.Goals as goal

pub returns : goal.returns
returns c = λ p t n requests start locals free heard. (spawned_heard p t n requests start locals free heard, spawned_open p.instructions t n requests start locals free, λ k other. spawned_others p.instructions t n k requests start locals other)
