use Rattle.std.proofs.Common.{◌≡◌, [], All, length}
use Rattle.script_run.proofs.recorded.empty_journals.Given as goal

abbrev pub invariant-loop : goal.invariant-loop
invariant-loop l = (length l.journals.items ≡ l.counter) × All (λ j. j.entries ≡ []) l.journals.items
