-- The form of each line of a transcript, by its words: what the line shows, or that it is no line.
use Rattle.std.specs.Prelude.{ℕ, zero, suc, ◌^◌, Bool, true, false, ◌==◌, if◌then◌else◌, List, [], ◌∷◌, codes, Result, Ok, Err}
use Rattle.std.specs.Str.{bytes_eq}
use Rattle.charlotte_calls.specs.declared.calls.Cause.{Cause}
use Rattle.charlotte_calls.specs.declared.calls.Cause.TheVariants as cause
use Rattle.charlotte_calls.specs.declared.calls.Report.{Report}
use Rattle.charlotte_calls.specs.declared.names.EndId.{EndId}
use Rattle.charlotte_calls.specs.declared.names.Outcome.{Outcome}
use Rattle.charlotte_calls.specs.declared.names.Outcome.TheVariants.{Done, Destroyed}
use Rattle.charlotte_calls.specs.declared.names.Pid.{Pid}
use Rattle.charlotte_calls.specs.declared.names.Way.{Way}
use Rattle.charlotte_calls.specs.declared.names.Way.TheVariants.{Inward, Outward}
use Rattle.charlotte_packets.specs.declared.picture.MovingPicture.{MovingPicture}
use Rattle.charlotte_packets.specs.declared.picture.PictureWhat.{PictureWhat}
use Rattle.charlotte_packets.specs.declared.picture.PictureWhat.TheVariants as packet
use Rattle.charlotte_text.specs.declared.fault.Fault.{Fault}
use Rattle.charlotte_text.specs.declared.fault.Fault.TheVariants.{Form}
use Rattle.charlotte_text.specs.Spelling.{most_ends, colon}
use Rattle.charlotte_text.specs.Reading.{◌>>=◌, parts, part_at, ended, is_number, number_below, end_of, ends_of, bytes_of, way_of, call_of}
use Rattle.transcript_lines.specs.declared.last.Last.TheVariants.{Quiet, Unsettled, Spent}
use Rattle.transcript_reading.specs.declared.line.LineKind.{LineKind}
use Rattle.transcript_reading.specs.declared.line.LineKind.TheVariants as line
use Rattle.transcript_reading.specs.declared.line.ServiceLine.{ServiceLine}
use Rattle.transcript_reading.specs.declared.line.ServiceLine.TheVariants as service

-- ---- words

-- what the first word says, and the words behind it
abbrev pub first_of : {A : Type 0} → (List ℕ → Result A Fault) → List (List ℕ) → Result (A × List (List ℕ)) Fault
first_of read ws = part_at ws >>= λ w. read w.0 >>= λ x. Ok (x, w.1)

-- what the only word says
abbrev pub only_of : {A : Type 0} → (List ℕ → Result A Fault) → List (List ℕ) → Result A Fault
only_of read ws = first_of read ws >>= λ x. ended x.1 >>= λ u. Ok x.0

-- the word is this one
abbrev pub this_word : List ℕ → List ℕ → Result (Unit {0}) Fault
this_word said word = if bytes_eq word said then Ok tt else Err Form

-- numbers of 8, 32 and 64 bits
abbrev pub u8_of : List ℕ → Result ℕ Fault
u8_of word = number_below (2 ^ 8) word

abbrev pub u32_of : List ℕ → Result ℕ Fault
u32_of word = number_below (2 ^ 32) word

abbrev pub u64_of : List ℕ → Result ℕ Fault
u64_of word = number_below (2 ^ 64) word

-- a process that a number of 16 bits names
abbrev pub numbered_of : List ℕ → Result Pid Fault
numbered_of word = number_below (2 ^ 16) word >>= λ n. Ok (record { 0 = n })

-- a process, as `p7`, that a number of 16 bits names
unfoldable pub pid_of : List ℕ → Result Pid Fault
pid_of [] = Err Form
pid_of (b ∷ bs) = if b == 112 then numbered_of bs else Err Form

-- a kernel, as `k0`, that a number of 8 bits names
unfoldable pub kernel_of : List ℕ → Result ℕ Fault
kernel_of [] = Err Form
kernel_of (b ∷ bs) = if b == 107 then u8_of bs else Err Form

-- 1 for yes and 0 for no
unfoldable pub bit_of : List ℕ → Result Bool Fault
bit_of word = number_below 2 word >>= λ n. Ok (n == 1)

-- ---- the values of ends

-- an end and nine numbers, between colons
unfoldable pub value_of : List ℕ → Result MovingPicture Fault
value_of word = do
  end ← first_of end_of (parts colon word)
  hops ← first_of u32_of end.1
  hint_kernel ← first_of u8_of hops.1
  hint_hops ← first_of u32_of hint_kernel.1
  sent ← first_of u32_of hint_hops.1
  asked ← first_of u32_of sent.1
  served ← first_of u32_of asked.1
  want ← first_of u32_of served.1
  dead ← first_of bit_of want.1
  trail ← only_of u8_of dead.1
  Ok (record {
    end = end.0;
    hops = hops.0;
    hint = (hint_kernel.0, hint_hops.0);
    sent = sent.0;
    asked = asked.0;
    served = served.0;
    want = want.0;
    dead = dead.0;
    trail = trail;
  })

-- a value behind a plus
unfoldable pub plus_value_of : List ℕ → Result MovingPicture Fault
plus_value_of [] = Err Form
plus_value_of (b ∷ bs) = if b == 43 then value_of bs else Err Form

-- the words of values, at most so many
unfoldable pub values_of : ℕ → List (List ℕ) → Result (List MovingPicture) Fault
values_of most [] = Ok []
values_of zero (w ∷ ws) = Err Form
values_of (suc most) (w ∷ ws) = plus_value_of w >>= λ v. values_of most ws >>= λ vs. Ok (v ∷ vs)

-- ---- packets

-- `T W J H`, and `T N J H`, whose numbers have as many bits
unfoldable pub wanted_of : List (List ℕ) → Result (EndId × ℕ × ℕ × ℕ) Fault
wanted_of ws = do
  to ← first_of end_of ws
  w ← first_of u32_of to.1
  at ← first_of u8_of w.1
  hops ← only_of u32_of at.1
  Ok (to.0, w.0, at.0, hops)

-- `T N W J H TEXT` and values
unfoldable pub parcel_of : ℕ → List (List ℕ) → Result PictureWhat Fault
parcel_of version ws = do
  to ← first_of end_of ws
  n ← first_of u32_of to.1
  w ← first_of u32_of n.1
  at ← first_of u8_of w.1
  hops ← first_of u32_of at.1
  bytes ← first_of bytes_of hops.1
  moving ← values_of (most_ends version) bytes.1
  Ok (packet.Parcel to.0 n.0 w.0 at.0 hops.0 bytes.0 moving)

-- `T N` and values
unfoldable pub back_of : ℕ → List (List ℕ) → Result PictureWhat Fault
back_of version ws = do
  to ← first_of end_of ws
  n ← first_of u32_of to.1
  moving ← values_of (most_ends version) n.1
  Ok (packet.Back to.0 n.0 moving)

-- `T J`
unfoldable pub gone_of : List (List ℕ) → Result PictureWhat Fault
gone_of ws = do
  to ← first_of end_of ws
  at ← only_of u8_of to.1
  Ok (packet.Gone to.0 at)

-- `T J H`
unfoldable pub moved_of : List (List ℕ) → Result PictureWhat Fault
moved_of ws = do
  to ← first_of end_of ws
  at ← first_of u8_of to.1
  hops ← only_of u32_of at.1
  Ok (packet.Moved to.0 at.0 hops)

-- an end and a number of 32 bits
unfoldable pub end_number_of : List (List ℕ) → Result (EndId × ℕ) Fault
end_number_of ws = do
  on ← first_of end_of ws
  n ← only_of u32_of on.1
  Ok (on.0, n)

-- the packet of a name
unfoldable pub named_packet_of : ℕ → List ℕ → List (List ℕ) → Result PictureWhat Fault
named_packet_of version word ws =
    if bytes_eq word (codes "want") then (wanted_of ws >>= λ x. Ok (packet.Want x.0 x.1 x.2 x.3))
    else if bytes_eq word (codes "unwant") then (wanted_of ws >>= λ x. Ok (packet.Unwant x.0 x.1 x.2 x.3))
    else if bytes_eq word (codes "unwanted") then (wanted_of ws >>= λ x. Ok (packet.Unwanted x.0 x.1 x.2 x.3))
    else if bytes_eq word (codes "parcel") then parcel_of version ws
    else if bytes_eq word (codes "taken") then (wanted_of ws >>= λ x. Ok (packet.Taken x.0 x.1 x.2 x.3))
    else if bytes_eq word (codes "back") then back_of version ws
    else if bytes_eq word (codes "gone") then gone_of ws
    else if bytes_eq word (codes "moved") then moved_of ws
    else if bytes_eq word (codes "known") then (end_number_of ws >>= λ x. Ok (packet.Known x.0 x.1))
    else if bytes_eq word (codes "forget") then (end_number_of ws >>= λ x. Ok (packet.Forget x.0 x.1))
    else if bytes_eq word (codes "goneseen") then (only_of end_of ws >>= λ to. Ok (packet.GoneSeen to))
    else Err Form

unfoldable pub packet_of : ℕ → List (List ℕ) → Result PictureWhat Fault
packet_of version [] = Err Form
packet_of version (w ∷ ws) = named_packet_of version w ws

-- ---- service steps

unfoldable pub cause_of : List ℕ → Result Cause Fault
cause_of word =
    if bytes_eq word (codes "NoEnd") then Ok cause.NoEnd
    else if bytes_eq word (codes "Busy") then Ok cause.Busy
    else if bytes_eq word (codes "Dead") then Ok cause.Dead
    else if bytes_eq word (codes "EncloseNoEnd") then Ok cause.EncloseNoEnd
    else if bytes_eq word (codes "EncloseBusy") then Ok cause.EncloseBusy
    else if bytes_eq word (codes "EncloseSame") then Ok cause.EncloseSame
    else if bytes_eq word (codes "Late") then Ok cause.Late
    else if bytes_eq word (codes "NoActivity") then Ok cause.NoActivity
    else if bytes_eq word (codes "LinksFull") then Ok cause.LinksFull
    else if bytes_eq word (codes "EncloseTwice") then Ok cause.EncloseTwice
    else Err Form

unfoldable pub outcome_of : List ℕ → Result Outcome Fault
outcome_of word = if bytes_eq word (codes "done") then Ok Done else if bytes_eq word (codes "destroyed") then Ok Destroyed else Err Form

-- a word that may stand at the end of a line
unfoldable pub suffix_of : List ℕ → List (List ℕ) → Result Bool Fault
suffix_of said [] = Ok false
suffix_of said (w ∷ ws) = this_word said w >>= λ u. ended ws >>= λ v. Ok true

-- a report whose line shows no bytes and no ends
abbrev pub bare_report : EndId → Way → Outcome → Report
bare_report on way outcome = record { on = on; way = way; outcome = outcome; bytes = []; enclosed = [] }

-- what stands behind the outcome
unfoldable pub result_of : ℕ → EndId → Way → Outcome → List (List ℕ) → Result Report Fault
result_of version on Outward Done ws = ended ws >>= λ u. Ok (bare_report on Outward Done)
result_of version on Outward Destroyed ws =
    ends_of (most_ends version) ws >>= λ ends. Ok (record { on = on; way = Outward; outcome = Destroyed; bytes = []; enclosed = ends })
result_of version on Inward Done ws = do
  bytes ← first_of bytes_of ws
  ends ← ends_of (most_ends version) bytes.1
  Ok (record { on = on; way = Inward; outcome = Done; bytes = bytes.0; enclosed = ends })
result_of version on Inward Destroyed ws = ended ws >>= λ u. Ok (bare_report on Inward Destroyed)

-- `pP END WAY OUTCOME` and what stands behind it
unfoldable pub report_of : ℕ → List (List ℕ) → Result ServiceLine Fault
report_of version ws = do
  p ← first_of pid_of ws
  on ← first_of end_of p.1
  way ← first_of way_of on.1
  outcome ← first_of outcome_of way.1
  report ← result_of version on.0 way.0 outcome.0 outcome.1
  Ok (service.Report p.0 report)

unfoldable pub make_of : List (List ℕ) → Result ServiceLine Fault
make_of ws = do
  a ← first_of end_of ws
  b ← only_of end_of a.1
  Ok (service.Make a.0 b)

unfoldable pub refuse_of : List (List ℕ) → Result ServiceLine Fault
refuse_of ws = do
  p ← first_of pid_of ws
  named ← only_of cause_of p.1
  Ok (service.Refuse p.0 named)

unfoldable pub send_of : ℕ → List (List ℕ) → Result ServiceLine Fault
send_of version ws = do
  on ← first_of end_of ws
  n ← first_of u32_of on.1
  enclose ← ends_of (most_ends version) n.1
  Ok (service.Send on.0 n.0 enclose)

unfoldable pub cancel_of : List (List ℕ) → Result ServiceLine Fault
cancel_of ws = do
  on ← first_of end_of ws
  way ← only_of way_of on.1
  Ok (service.Cancel on.0 way)

unfoldable pub take_of : List (List ℕ) → Result ServiceLine Fault
take_of ws = do
  on ← first_of end_of ws
  n ← first_of u32_of on.1
  p ← first_of pid_of n.1
  late ← suffix_of (codes "late") p.1
  Ok (service.Take on.0 n.0 p.0 late)

unfoldable pub notice_of : List (List ℕ) → Result ServiceLine Fault
notice_of ws = do
  on ← first_of end_of ws
  dead ← suffix_of (codes "dead") on.1
  Ok (service.Notice on.0 dead)

unfoldable pub back_step_of : List (List ℕ) → Result ServiceLine Fault
back_step_of ws = do
  on ← first_of end_of ws
  n ← first_of u32_of on.1
  dead ← suffix_of (codes "dead") n.1
  Ok (service.Back on.0 n.0 dead)

-- the step of a name
unfoldable pub named_step_of : ℕ → List ℕ → List (List ℕ) → Result ServiceLine Fault
named_step_of version word ws =
    if bytes_eq word (codes "make") then make_of ws
    else if bytes_eq word (codes "refuse") then refuse_of ws
    else if bytes_eq word (codes "destroy") then (only_of end_of ws >>= λ on. Ok (service.Destroy on))
    else if bytes_eq word (codes "send") then send_of version ws
    else if bytes_eq word (codes "receive") then (only_of end_of ws >>= λ on. Ok (service.Receive on))
    else if bytes_eq word (codes "cancel") then cancel_of ws
    else if bytes_eq word (codes "wait") then (only_of pid_of ws >>= λ p. Ok (service.Wait p))
    else if bytes_eq word (codes "report") then report_of version ws
    else if bytes_eq word (codes "exit") then (only_of pid_of ws >>= λ p. Ok (service.Exit p))
    else if bytes_eq word (codes "match") then (end_number_of ws >>= λ x. Ok (service.Match x.0 x.1))
    else if bytes_eq word (codes "take") then take_of ws
    else if bytes_eq word (codes "complete") then (end_number_of ws >>= λ x. Ok (service.Complete x.0 x.1))
    else if bytes_eq word (codes "withdraw") then (only_of end_of ws >>= λ on. Ok (service.Withdraw on))
    else if bytes_eq word (codes "free") then (only_of end_of ws >>= λ on. Ok (service.Free on))
    else if bytes_eq word (codes "notice") then notice_of ws
    else if bytes_eq word (codes "back") then back_step_of ws
    else Err Form

unfoldable pub step_of : ℕ → List (List ℕ) → Result ServiceLine Fault
step_of version [] = Err Form
step_of version (w ∷ ws) = named_step_of version w ws

-- ---- entries

-- `from J PACKET`, from the kernel on
unfoldable pub took_of : ℕ → ℕ → ℕ → List (List ℕ) → Result LineKind Fault
took_of version stamp kernel ws = do
  from ← first_of u8_of ws
  what ← packet_of version from.1
  Ok (line.PacketEntry stamp kernel from.0 (record { stamp = 0; what = what }))

-- `pP CALL`
unfoldable pub asked_of : ℕ → ℕ → ℕ → List ℕ → List (List ℕ) → Result LineKind Fault
asked_of version stamp kernel word ws = do
  p ← pid_of word
  call ← call_of version ws
  Ok (line.CallEntry stamp kernel p call)

-- what happened, from its first word on
unfoldable pub happened_of : ℕ → ℕ → ℕ → List (List ℕ) → Result LineKind Fault
happened_of version stamp kernel [] = Err Form
happened_of version stamp kernel (w ∷ ws) =
    if bytes_eq w (codes "from") then took_of version stamp kernel ws else asked_of version stamp kernel w ws

-- an entry behind its stamp
unfoldable pub entry_of : ℕ → List ℕ → List (List ℕ) → Result LineKind Fault
entry_of version word ws = do
  stamp ← u64_of word
  kernel ← first_of kernel_of ws
  happened_of version stamp kernel.0 kernel.1

-- ---- the other lines

-- `I on K`
unfoldable pub home_of : List (List ℕ) → Result LineKind Fault
home_of ws = do
  p ← first_of numbered_of ws
  on ← first_of (this_word (codes "on")) p.1
  kernel ← only_of u8_of on.1
  Ok (line.Process p.0 kernel)

-- `I J`
unfoldable pub wire_of : List (List ℕ) → Result LineKind Fault
wire_of ws = do
  first ← first_of numbered_of ws
  second ← only_of numbered_of first.1
  Ok (line.Wire first.0 second)

-- whether a process was waiting
unfoldable pub waits_of : List ℕ → Result Bool Fault
waits_of word = if bytes_eq word (codes "waits") then Ok true else if bytes_eq word (codes "nothing") then Ok false else Err Form

-- `LINE nothing`, `LINE waits`
unfoldable pub note_of : List (List ℕ) → Result LineKind Fault
note_of ws = do
  number ← first_of u32_of ws
  waits ← only_of waits_of number.1
  Ok (line.Note (record { line = number.0; waits = waits }))

-- a line that begins with a name
unfoldable pub named_line_of : ℕ → List ℕ → List (List ℕ) → Result LineKind Fault
named_line_of version word ws =
    if bytes_eq word (codes ".") then (step_of version ws >>= λ s. Ok (line.Service s))
    else if bytes_eq word (codes "transcript") then (only_of u8_of ws >>= λ n. Ok (line.First n))
    else if bytes_eq word (codes "kernels") then (only_of u8_of ws >>= λ n. Ok (line.Kernels n))
    else if bytes_eq word (codes "process") then home_of ws
    else if bytes_eq word (codes "wire") then wire_of ws
    else if bytes_eq word (codes "note") then note_of ws
    else if bytes_eq word (codes "quiet") then (ended ws >>= λ u. Ok (line.End Quiet))
    else if bytes_eq word (codes "open") then (ended ws >>= λ u. Ok (line.End Unsettled))
    else if bytes_eq word (codes "spent") then (only_of u8_of ws >>= λ k. Ok (line.End (Spent k)))
    else Err Form

-- a line of a transcript of a version, by its words
unfoldable pub kind_of : ℕ → List (List ℕ) → Result LineKind Fault
kind_of version [] = Err Form
kind_of version (w ∷ ws) = if is_number w then entry_of version w ws else named_line_of version w ws
