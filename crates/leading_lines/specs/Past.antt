-- What a text begins with where no value of it is kept, and what is left behind that.
use Rattle.std.specs.Prelude.{◌≡◌, ℕ, ◌≤◌, List, ◌++◌, length, codes, Ok}
use Rattle.std.specs.List.{AllByRecursion}
use Rattle.charlotte_calls.specs.Ranges.{AreBytesInRange, AreEndsInRange, IsEnd, IsStepInRange}
use Rattle.charlotte_calls.specs.declared.calls.Call.{Call}
use Rattle.charlotte_calls.specs.declared.calls.Report.{Report}
use Rattle.charlotte_packets.specs.Ranges.{IsPacketInRange, IsValueInRange}
use Rattle.charlotte_packets.specs.declared.picture.MovingPicture.{MovingPicture}
use Rattle.charlotte_packets.specs.declared.picture.PictureWhat.{PictureWhat}
use Rattle.charlotte_text.specs.Spelling.{IsCall, bytes_text, call_text, ends_text, way_text}
use Rattle.transcript_lines.specs.Transcript.{packet_text, result_text, step_text, values_text}
use Rattle.transcript_lines.specs.TranscriptText.{HasFewPacket, IsShownReport}
use Rattle.transcript_reading.specs.Order.{Entry, next}
use Rattle.transcript_reading.specs.Spelling.{HasShown, IsKind, bare_step, kind_text}
use Rattle.transcript_reading.specs.declared.line.LineKind.{LineKind}
use Rattle.transcript_reading.specs.declared.line.ServiceLine.{ServiceLine}

-- a text is the spelling of a value that fits, and what is left
pub record Has {X : Type 0} (spelling : X → List ℕ) (Fits : X → Type 0) (text left : List ℕ) : Type 0 where
  pub value : X
  pub spelled : text ≡ spelling value ++ left
  pub fits : Fits value

-- a string of bytes
abbrev pub HasBytes : List ℕ → List ℕ → Type 0
HasBytes = Has bytes_text AreBytesInRange

-- ends of a message, at most so many
abbrev pub HasEnds : ℕ → List ℕ → List ℕ → Type 0
HasEnds most = Has ends_text (λ es. AllByRecursion IsEnd es × (length es ≤ most))

-- values of ends, at most so many
abbrev pub HasValues : ℕ → List ℕ → List ℕ → Type 0
HasValues most = Has values_text (λ vs. AllByRecursion IsValueInRange vs × (length vs ≤ most))

-- a call
abbrev pub HasCall : ℕ → List ℕ → List ℕ → Type 0
HasCall version = Has call_text (IsCall version)

-- a packet
abbrev pub HasPacket : ℕ → List ℕ → List ℕ → Type 0
HasPacket version = Has packet_text (λ p. IsPacketInRange p × HasFewPacket version p)

-- how an activity at any end was over
abbrev pub HasResult : ℕ → List ℕ → List ℕ → Type 0
HasResult version =
    Has (λ (r : Report). codes " " ++ way_text r.way ++ result_text r.way r.outcome r.bytes r.enclosed)
    (λ (r : Report). AreBytesInRange r.bytes × AreEndsInRange r.enclosed × IsShownReport version r.way r.outcome r.bytes r.enclosed)

-- a step, as its line shows it
abbrev pub HasStep : ℕ → List ℕ → List ℕ → Type 0
HasStep version = Has (λ s. step_text (bare_step s)) (λ s. IsStepInRange (bare_step s) × HasShown version s)

-- the line of an entry or of a step, without its line feed
abbrev pub HasLine : ℕ → List ℕ → List ℕ → Type 0
HasLine version = Has kind_text (λ k. IsKind version k × (next Entry k ≡ Ok Entry))
