-- What `bench` does: the script of a seed is performed, and the text is the summary of its run.
use Rattle.std.specs.Prelude.{◌≡◌, ℕ, List, [], Ok, Err}
use Rattle.lynx_command.specs.Course.{Course}
use Rattle.lynx_command.specs.Found.{Found}
use Rattle.lynx_command.specs.declared.ending.End.TheVariants.{Done}
use Rattle.lynx_command.specs.declared.failure.Failure.TheVariants.{NoMemory}
use Rattle.run_counts.specs.Summary.{IsSummary}

-- the summary of the seed; want of memory comes at any seed
abbrev pub FindsSummary : ℕ → Found → Type 0
FindsSummary seed (Ok output) = IsSummary seed output.lines × (output.end ≡ Done)
FindsSummary seed (Err failure) = failure ≡ NoMemory

-- no file is read, and the summary of the seed is found
pub record Benches (seed : ℕ) (course : Course) : Type 0 where
  pub reads : course.reads ≡ []
  pub finds : FindsSummary seed course.found
