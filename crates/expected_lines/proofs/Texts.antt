-- The texts of steps and of entries are lines that may come next.
use Rattle.std.proofs.Common.{◌≡◌, ℕ, Bool, true, false, MatchBool, List, ◌++◌, codes, refl, ap, ◌∙◌, arith}
use Rattle.charlotte_packets.specs.Packets.{packet_picture, what_picture}
use Rattle.charlotte_calls.specs.Ranges.{IsPid, IsStepInRange, IsU8, IsU64}
use Rattle.charlotte_packets.specs.Ranges.{IsPictureInRange}
use Rattle.charlotte_calls.specs.declared.calls.Call.{Call}
use Rattle.charlotte_calls.specs.declared.calls.ServiceStep.{ServiceStep}
use Rattle.charlotte_calls.specs.declared.calls.ServiceStep.TheVariants as step
use Rattle.charlotte_packets.specs.declared.packet.Packet.{Packet}
use Rattle.charlotte_text.specs.Reading.{parts}
use Rattle.charlotte_text.specs.Spelling.{IsCall, call_text, number_text, process_text}
use Rattle.transcript_lines.specs.Transcript.{packet_text, step_text}
use Rattle.transcript_lines.specs.TranscriptText.{HasFewPacket}
use Rattle.transcript_reading.specs.Spelling.{bare_step, HasShown}
use Rattle.leading_lines.specs.Ahead.{head_text}
use Rattle.transcript_reader.specs.Lines.{Unread}
use Rattle.transcript_reader.specs.Next.{IsAhead, Reads}
use Rattle.leading_lines.specs.declared.guess.Ahead.TheVariants as heads
use Rattle.leading_lines.specs.declared.guess.CallAhead.{CallAhead}
use Rattle.leading_lines.specs.declared.guess.PacketAhead.{PacketAhead}
use Rattle.leading_lines.proofs.Leading.{entry_then, stamp_text}
use Rattle.transcript_reading.specs.Kinds.{shown_step}
use Rattle.transcript_reading.specs.Order.{next}
use Rattle.transcript_reading.specs.declared.line.LineKind.{LineKind}
use Rattle.transcript_reading.specs.declared.line.LineKind.TheVariants as line
use Rattle.expected_lines.specs.Told.{told_packet}

-- ---- steps

-- a line shows of a step what it shows of what it shows
same_line : (s : ServiceStep) → step_text s ≡ step_text (bare_step (shown_step s))
same_line (step.Make p a b) = refl
same_line (step.Refuse p c cause) = refl
same_line (step.Destroy on) = refl
same_line (step.Send on n bytes enclose) = refl
same_line (step.Receive on) = refl
same_line (step.Cancel on way) = refl
same_line (step.Wait p) = refl
same_line (step.Report p report) = refl
same_line (step.Exit p) = refl
same_line (step.Match on n) = refl
same_line (step.Take on n p late) = refl
same_line (step.Complete on n) = refl
same_line (step.Withdraw on) = refl
same_line (step.Free on) = refl
same_line (step.Notice on dead) = refl
same_line (step.Back on n dead) = refl

bare_range : (s : ServiceStep) → IsStepInRange s → IsStepInRange (bare_step (shown_step s))
bare_range (step.Make p a b) is = (omega arith, is.1, is.2)
bare_range (step.Refuse p c cause) is = (is.0, tt)
bare_range (step.Destroy on) is = is
bare_range (step.Send on n bytes enclose) is = (is.0, is.1, record { each = tt; few = omega arith }, is.3)
bare_range (step.Receive on) is = is
bare_range (step.Cancel on way) is = is
bare_range (step.Wait p) is = is
bare_range (step.Report p report) is = is
bare_range (step.Exit p) is = is
bare_range (step.Match on n) is = is
bare_range (step.Take on n p late) is = is
bare_range (step.Complete on n) is = is
bare_range (step.Withdraw on) is = is
bare_range (step.Free on) is = is
bare_range (step.Notice on dead) is = is
bare_range (step.Back on n dead) is = is

-- what is unread begins with the line of a step
pub step_ahead : (u : Unread) (s : ServiceStep) (rest left : List ℕ) → HasShown u.version (shown_step s) → IsStepInRange s → u.texts ≡ parts 10 rest → rest ≡ step_text s ++ left → IsAhead u (line.Service (shown_step s)) left
unfolding next
step_ahead u s rest left shown fits texts e = record { texts = texts ∙ ap (parts 10) (e ∙ ap (λ (t : List ℕ). t ++ left) (same_line s)); kind = (bare_range s fits, shown); stands = refl }

-- ---- entries

entry_ahead : (texts : List (List ℕ)) (a b c d p rest left : List ℕ) → texts ≡ parts 10 ((a ++ b ++ c ++ d) ++ rest) → rest ≡ p ++ left → texts ≡ parts 10 ((a ++ (b ++ c ++ d ++ p)) ++ left)
entry_ahead texts a b c d p rest left e f = e ∙ ap (parts 10) (entry_then a b c d p rest left f)

pub packet_ahead : (u : Unread) (a : PacketAhead) (packet : Packet) (rest left : List ℕ) → HasFewPacket u.version (what_picture packet.what) → IsU64 a.stamp → IsU8 a.kernel → IsU8 a.from → IsPictureInRange (packet_picture packet)
    → u.texts ≡ parts 10 (head_text (heads.Packet a) ++ rest) → rest ≡ packet_text (what_picture packet.what) ++ left → IsAhead u (line.PacketEntry a.stamp a.kernel a.from (told_packet (what_picture packet.what))) left
unfolding next
packet_ahead u a packet rest left few is_stamp is_kernel is_from fits texts e =
    record { texts = entry_ahead u.texts (stamp_text a.stamp a.kernel) (codes " from ") (number_text a.from) (codes " ") (packet_text (what_picture packet.what)) rest left texts e; kind = (is_stamp, is_kernel, is_from, refl, fits.what, few); stands = refl }

pub call_ahead : (u : Unread) (a : CallAhead) (c : Call) (rest left : List ℕ) → IsU64 a.stamp → IsU8 a.kernel → IsPid a.p → IsCall u.version c
    → u.texts ≡ parts 10 (head_text (heads.Call a) ++ rest) → rest ≡ call_text c ++ left → IsAhead u (line.CallEntry a.stamp a.kernel a.p c) left
unfolding next
call_ahead u a c rest left is_stamp is_kernel is_p is texts e =
    record { texts = entry_ahead u.texts (stamp_text a.stamp a.kernel) (codes " ") (process_text a.p) (codes " ") (call_text c) rest left texts e; kind = (is_stamp, is_kernel, is_p, is); stands = refl }

-- ---- a line that is read

pub read_as : (b : Bool) (u v : Unread) (k : LineKind) (left : List ℕ) → IsAhead u k left → MatchBool b ((l : LineKind) → IsAhead u l left → Reads u l v) (v ≡ u) → MatchBool b (Reads u k v) (v ≡ u)
read_as true u v k left is reads = reads k is
read_as false u v k left is same = same
