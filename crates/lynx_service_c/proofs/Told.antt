-- What a checker answers of a line is what is told.
use Rattle.std.proofs.Common.{◌≡◌, ℕ, ℤ, List, [], ◌∷◌, ◌++◌, Result, Some, ap, ◌∙◌, subst}
use Rattle.history_checker.specs.Reading.{HasRead, Reads, answer_of}
use Rattle.history_checker.specs.declared.checker.Checker.{Checker}
use Rattle.history_run.specs.declared.fault.HistoryFault.{HistoryFault}
use Rattle.lynx_service_c.specs.Service.{IsTold, status_of}

pub told_so : (old new : Checker) (line : List ℕ) (answer : Result (Unit {0}) HistoryFault) (status : ℤ)
    → ((lines : List (List ℕ)) → HasRead lines old → Reads (lines ++ line ∷ []) new answer) → answer ≡ answer_of new.refusal
    → ((why : HistoryFault) → old.refusal ≡ Some why → new ≡ old) → status ≡ status_of answer → IsTold old line new status
told_so old new line answer status reads kept still is = record {
  read = λ lines read. subst (Reads (lines ++ line ∷ []) new) kept (reads lines read);
  answer = is ∙ ap status_of kept;
  still = still;
}
