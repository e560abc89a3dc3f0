-- What `audit` finds in the bytes of a transcript.
use Rattle.std.specs.Prelude.{◌≡◌, ℕ, List, [], ◌∷◌, Ok, Err, codes}
use Rattle.transcript_lines.specs.declared.last.Last.{Last}
use Rattle.lynx_command.specs.Found.{Found}
use Rattle.lynx_command.specs.Text.{line}
use Rattle.lynx_command.specs.declared.ending.End.TheVariants.{Done}
use Rattle.lynx_command.specs.declared.failure.Failure.{Failure}
use Rattle.lynx_command.specs.declared.failure.Failure.TheVariants.{NoTranscript, NoMemory}
use Rattle.transcript_audit.specs.Audit.{IsAudited, IsRejected}
use Rattle.transcript_audit.specs.declared.fault.AuditFault.{AuditFault}
use Rattle.transcript_audit.specs.declared.fault.AuditFault.TheVariants as fault

-- the line for a transcript that is accepted
abbrev pub audited_text : List ℕ
audited_text = line (codes "yes")

-- why a text is not accepted
abbrev pub failure_of_audit : AuditFault → Failure
failure_of_audit (fault.NoTranscript n) = NoTranscript n
failure_of_audit fault.NoMemory = NoMemory

-- `yes` where the bytes are the transcript of a run, or the line at which they are not; want of memory comes at any text
abbrev pub Audits : List ℕ → Found → Type 0
Audits bytes (Ok output) = (last : Last) × IsAudited bytes last × (output.lines ≡ audited_text ∷ []) × (output.end ≡ Done)
Audits bytes (Err (NoTranscript n)) = IsRejected bytes n
Audits bytes (Err NoMemory) = Unit {0}
Audits bytes (Err failure) = ⊥
