-- The summary of `bench`.
use Rattle.std.specs.Prelude.{◌≡◌, ℕ, List, [], ◌∷◌, ◌++◌, codes}
use Rattle.charlotte_text.specs.Spelling.{number_text}
use Rattle.kernel_entries.specs.declared.entry.Placed.{Placed}
use Rattle.lynx_plan.specs.Seeded.{script_of_seed}
use Rattle.run_counts.specs.Counts.{counts_of}
use Rattle.run_counts.specs.declared.counts.Counts.{Counts}
use Rattle.script_run.specs.Performing.{IsPerformance}
use Rattle.transcript_lines.specs.Transcript.{line}
use Rattle.transcript_lines.specs.declared.last.Last.{Last}
use Rattle.transcript_lines.specs.declared.last.ScriptNote.{ScriptNote}

-- a name, a blank and a number
abbrev pub numbered : List ℕ → ℕ → List ℕ
numbered name n = line (name ++ codes " " ++ number_text n)

-- the seed and the counts, each in a line
abbrev pub summary_lines : ℕ → Counts → List (List ℕ)
summary_lines seed c =
    numbered (codes "seed") seed ∷ numbered (codes "calls") c.calls ∷ numbered (codes "waits") c.waits ∷ numbered (codes "nothing") c.nothing
    ∷ numbered (codes "events") c.events ∷ numbered (codes "refused") c.refused ∷ numbered (codes "matches") c.matches ∷ numbered (codes "takes") c.takes
    ∷ numbered (codes "completes") c.completes ∷ []

-- the lines are those of the counts over the run of the seed's script
pub record IsSummary (seed : ℕ) (lines : List (List ℕ)) : Type 0 where
  pub merged : List Placed
  pub notes : List ScriptNote
  pub last : Last
  pub performed : IsPerformance (script_of_seed seed).setting (script_of_seed seed).lines merged notes last
  pub told : lines ≡ summary_lines seed (counts_of merged notes)
