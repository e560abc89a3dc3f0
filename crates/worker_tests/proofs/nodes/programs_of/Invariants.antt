use Rattle.std.proofs.Common.{◌≡◌, ◌≤◌, None, All, length}
use Rattle.worker_tests.proofs.nodes.programs_of.Given as goal

abbrev pub invariant-loop-process : goal.invariant-loop-process
invariant-loop-process l = (length l.programs.items ≡ l.process) × All (λ p. (p.last ≡ None) × (p.version ≤ 2)) l.programs.items
