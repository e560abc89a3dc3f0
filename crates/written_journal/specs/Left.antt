-- The lines of a transcript that are not given yet.
use Rattle.std.specs.Prelude.{◌≡◌, ℕ, Bool, true, false, List, [], ◌∷◌, ◌++◌, Option, None, Some, map, drop, codes}
use Rattle.charlotte_calls.specs.declared.names.Pid.{Pid}
use Rattle.charlotte_text.specs.Spelling.{number_text}
use Rattle.transcript_lines.specs.Transcript.{line, wire_text, note_text, last_text, process_lines}
use Rattle.transcript_lines.specs.declared.last.Last.{Last}
use Rattle.transcript_lines.specs.declared.last.ScriptNote.{ScriptNote}
use Rattle.written_journal.specs.declared.transcript.Header.{Header}

-- the line of a word and a number, if there is one
abbrev pub number_line : List ℕ → Option ℕ → List (List ℕ)
number_line word None = []
number_line word (Some n) = line (word ++ number_text n) ∷ []

abbrev pub wire_lines : List (Pid × Pid) → List (List ℕ)
wire_lines wires = map (λ wire. line (wire_text wire)) wires

-- the lines of a setting
abbrev pub lines_in : Header → List (List ℕ)
lines_in h =
    number_line (codes "transcript ") h.version ++ number_line (codes "kernels ") h.kernels
    ++ process_lines h.number (drop h.number h.homes.items) ++ wire_lines h.wires.items

abbrev pub header_left : Option Header → List (List ℕ)
header_left None = []
header_left (Some h) = lines_in h

abbrev pub note_lines : List ScriptNote → List (List ℕ)
note_lines notes = map (λ n. line (note_text n)) notes

-- the last line, if it is not given yet
abbrev pub last_line : Option Last → List (List ℕ)
last_line None = []
last_line (Some last) = line (last_text last) ∷ []

-- the first of the lines that were left is given, if there was one; else nothing is
abbrev pub GivesFirst : Bool → List (List ℕ) → List (List ℕ) → List ℕ → Type 0
GivesFirst true before after given = before ≡ given ∷ after
GivesFirst false before after given = (before ≡ []) × (after ≡ []) × (given ≡ [])
