-- Transcripts: texts that tell a setting, the entries of its events, notes and how it ended.
use Rattle.std.specs.Prelude.{◌≡◌, ℕ, ◌<◌, ◌≤◌, nat_eq, List, [], ◌∷◌, length, All, if◌then◌else◌}
use Rattle.std.specs.List.{concat}
use Rattle.charlotte_calls.specs.Ranges.{IsU8, IsU32}
use Rattle.charlotte_calls.specs.Setting.{IsValid}
use Rattle.charlotte_calls.specs.declared.calls.Call.{Call}
use Rattle.charlotte_calls.specs.declared.calls.Call.TheVariants as call
use Rattle.charlotte_calls.specs.declared.calls.ServiceStep.{ServiceStep}
use Rattle.charlotte_calls.specs.declared.calls.ServiceStep.TheVariants as step
use Rattle.charlotte_calls.specs.declared.names.EndId.{EndId}
use Rattle.charlotte_calls.specs.declared.names.Outcome.{Outcome}
use Rattle.charlotte_calls.specs.declared.names.Outcome.TheVariants.{Done, Destroyed}
use Rattle.charlotte_calls.specs.declared.names.Way.{Way}
use Rattle.charlotte_calls.specs.declared.names.Way.TheVariants.{Inward, Outward}
use Rattle.charlotte_packets.specs.declared.picture.PictureWhat.{PictureWhat}
use Rattle.charlotte_packets.specs.declared.picture.PictureWhat.TheVariants as packet
use Rattle.charlotte_calls.specs.declared.setting.Setting.{Setting}
use Rattle.transcript_lines.specs.Transcript.{transcript_lines}
use Rattle.transcript_lines.specs.declared.last.Last.{Last}
use Rattle.transcript_lines.specs.declared.last.Last.TheVariants.{Spent}
use Rattle.transcript_lines.specs.declared.last.ScriptNote.{ScriptNote}
use Rattle.kernel_entries.specs.Ranges.{IsPlacedInRange}
use Rattle.kernel_entries.specs.declared.entry.Happened.{Happened}
use Rattle.kernel_entries.specs.declared.entry.Happened.TheVariants.{Asked, Took}
use Rattle.kernel_entries.specs.declared.entry.Placed.{Placed}

-- at most one end of a message in version 1, at most eight in version 2
abbrev pub IsFew : ℕ → ℕ → Type 0
IsFew version count = count ≤ (if nat_eq version 1 then 1 else 8)

-- what happened has no more ends or values than the version allows
abbrev pub HasFewCall : ℕ → Call → Type 0
HasFewCall version (call.Send on bytes enclose) = IsFew version (length enclose)
HasFewCall version _ = Unit {0}

abbrev pub HasFewPacket : ℕ → PictureWhat → Type 0
HasFewPacket version (packet.Parcel to n w at hops bytes moving) = IsFew version (length moving)
HasFewPacket version (packet.Back to n moving) = IsFew version (length moving)
HasFewPacket version _ = Unit {0}

abbrev pub HasFew : ℕ → Happened → Type 0
HasFew version (Asked p call) = HasFewCall version call
HasFew version (Took from picture) = HasFewPacket version picture.what

-- a report has no bytes and no ends but those that its line shows
abbrev pub IsShownReport : ℕ → Way → Outcome → List ℕ → List EndId → Type 0
IsShownReport version Outward Done bytes ends = (bytes ≡ []) × (ends ≡ [])
IsShownReport version Outward Destroyed bytes ends = (bytes ≡ []) × IsFew version (length ends)
IsShownReport version Inward Done bytes ends = IsFew version (length ends)
IsShownReport version Inward Destroyed bytes ends = (bytes ≡ []) × (ends ≡ [])

-- what the line of a step leaves out stands in the line above it: the maker's process, the call that is refused, the bytes that are sent
abbrev pub IsShownStep : ℕ → Happened → ServiceStep → Type 0
IsShownStep version (Asked p call) (step.Make q a b) = q ≡ p
IsShownStep version (Asked p call) (step.Refuse q refused cause) = refused ≡ call
IsShownStep version (Asked p (call.Send on bytes enclose)) (step.Send from n sent ends) = (sent ≡ bytes) × IsFew version (length ends)
IsShownStep version _ (step.Make q a b) = ⊥
IsShownStep version _ (step.Refuse q refused cause) = ⊥
IsShownStep version _ (step.Send from n sent ends) = ⊥
IsShownStep version _ (step.Report q r) = IsShownReport version r.way r.outcome r.bytes r.enclosed
IsShownStep version _ _ = Unit {0}

-- the lines of an entry show all of it but the stamp of a packet
abbrev pub IsShown : ℕ → Placed → Type 0
IsShown version p = HasFew version p.entry.what × All (IsShownStep version p.entry.what) p.entry.steps

-- each note is of a later line than the one before it
abbrev pub AreRisingNotes : List ScriptNote → Type 0
AreRisingNotes [] = Unit {0}
AreRisingNotes (m ∷ []) = Unit {0}
AreRisingNotes (m ∷ n ∷ ns) = (m.line < n.line) × AreRisingNotes (n ∷ ns)

-- the turns of a kernel are used up in a run of programs, which has no script
abbrev pub HasNotesOf : Last → List ScriptNote → Type 0
HasNotesOf (Spent kernel) notes = notes ≡ []
HasNotesOf _ notes = Unit {0}

-- the line of a note, and the kernel whose turns are used up, are numbers of their types
abbrev pub IsNoteInRange : ScriptNote → Type 0
IsNoteInRange n = IsU32 n.line

abbrev pub IsLastInRange : Last → Type 0
IsLastInRange (Spent kernel) = IsU8 kernel
IsLastInRange _ = Unit {0}

-- all are values of their types; those of a setting that is valid are
pub record AreInRange (merged : List Placed) (notes : List ScriptNote) (last : Last) : Type 0 where
  pub entries : All IsPlacedInRange merged
  pub lines : All IsNoteInRange notes
  pub ending : IsLastInRange last

-- these can be told by a transcript
pub record AreOfTranscript (s : Setting) (merged : List Placed) (notes : List ScriptNote) (last : Last) : Type 0 where
  pub setting : IsValid s
  pub values : AreInRange merged notes last
  pub shown : All (IsShown s.version) merged
  pub in_order : AreRisingNotes notes
  pub spent : HasNotesOf last notes

-- a text is the transcript of these
pub record IsTranscript (text : List ℕ) (s : Setting) (merged : List Placed) (notes : List ScriptNote) (last : Last) : Type 0 where
  pub told : AreOfTranscript s merged notes last
  pub lines : text ≡ concat (transcript_lines s merged notes last)
