-- The counts over a run, and over the notes on its script.
use Rattle.std.specs.Prelude.{ℕ, ◌+◌, Bool, true, false, not, List, [], ◌∷◌, length, map}
use Rattle.std.specs.List.{flat_map}
use Rattle.kernel_entries.specs.declared.entry.Happened.{Happened}
use Rattle.kernel_entries.specs.declared.entry.Happened.TheVariants.{Asked, Took}
use Rattle.kernel_entries.specs.declared.entry.Placed.{Placed}
use Rattle.run_counts.specs.declared.counts.Counts.{Counts}
use Rattle.transcript_lines.specs.Transcript.{bit}
use Rattle.transcript_lines.specs.declared.last.ScriptNote.{ScriptNote}
use Rattle.transcript_reading.specs.Kinds.{shown_step}
use Rattle.transcript_reading.specs.declared.line.ServiceLine.{ServiceLine}
use Rattle.transcript_reading.specs.declared.line.ServiceLine.TheVariants as service

-- how many are so
abbrev pub how_many : {A : Type 0} → (A → Bool) → List A → ℕ
how_many is [] = 0
how_many is (x ∷ xs) = bit (is x) + how_many is xs

abbrev pub is_call : Happened → Bool
is_call (Asked p call) = true
is_call (Took from picture) = false

-- ---- service lines, each of one step

abbrev pub is_refuse : ServiceLine → Bool
is_refuse (service.Refuse p cause) = true
is_refuse _ = false

abbrev pub is_match : ServiceLine → Bool
is_match (service.Match on n) = true
is_match _ = false

abbrev pub is_take : ServiceLine → Bool
is_take (service.Take on n p late) = true
is_take _ = false

abbrev pub is_complete : ServiceLine → Bool
is_complete (service.Complete on n) = true
is_complete _ = false

-- the service lines below the entries, in order
abbrev pub service_lines : List Placed → List ServiceLine
service_lines merged = flat_map (λ p. map shown_step p.entry.steps) merged

-- ---- all counts

abbrev pub counts_of : List Placed → List ScriptNote → Counts
counts_of merged notes = record {
  calls = how_many (λ p. is_call p.entry.what) merged;
  waits = how_many (λ n. n.waits) notes;
  nothing = how_many (λ n. not n.waits) notes;
  events = length merged;
  refused = how_many is_refuse (service_lines merged);
  matches = how_many is_match (service_lines merged);
  takes = how_many is_take (service_lines merged);
  completes = how_many is_complete (service_lines merged);
}
