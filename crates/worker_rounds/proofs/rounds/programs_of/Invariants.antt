use Rattle.std.proofs.Common.{◌≡◌, ◌+◌, None, All, length}
use Rattle.worker_rounds.specs.Cycles.{last_of}
use Rattle.worker_rounds.proofs.rounds.programs_of.Given as goal

abbrev pub invariant-loop-own : goal.invariant-loop-own
invariant-loop-own l = (length l.programs.items + length l.own-iterator.rest.items ≡ length l.fn.moves.items) × All (λ p. last_of p.last ≡ None) l.programs.items
