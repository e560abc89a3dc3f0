-- The requests that are open in threads.
use Rattle.std.specs.Prelude.{◌≡◌, ℕ, true, List, [], ◌∷◌, length, sum_by}
use Rattle.process_run.specs.States.{Open}

-- the innermost request was answered
abbrev pub answered : List Open → List Open
answered [] = []
answered (o ∷ os) = record o { answered = true } ∷ os

-- there are so many of them
pub record IsOpened (threads : List (List Open)) (count : ℕ) : Type 0 where
  pub counted : count ≡ sum_by length threads
