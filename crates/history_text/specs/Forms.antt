-- The forms of lines, by their words, after what was said before.
use Rattle.std.specs.Prelude.{ℕ, zero, suc, ◌-◌, Bool, true, false, ◌==◌, nat_lt, if◌then◌else◌, List, [], ◌∷◌, codes, length, take}
use Rattle.std.specs.Prelude.{slice_index, Option, Some, None, Result, Ok, Err}
use Rattle.std.specs.Str.{bytes_eq}
use Rattle.charlotte_calls.specs.declared.calls.Call.{Call}
use Rattle.charlotte_calls.specs.declared.calls.Call.TheVariants as call
use Rattle.charlotte_calls.specs.declared.calls.ServiceStep.{ServiceStep}
use Rattle.charlotte_calls.specs.declared.calls.ServiceStep.TheVariants as step
use Rattle.charlotte_calls.specs.Names.{opposite}
use Rattle.charlotte_calls.specs.declared.names.EndId.{EndId}
use Rattle.charlotte_calls.specs.declared.names.LinkId.{LinkId}
use Rattle.charlotte_calls.specs.declared.names.Outcome.{Outcome}
use Rattle.charlotte_calls.specs.declared.names.Outcome.TheVariants.{Done, Destroyed}
use Rattle.charlotte_calls.specs.declared.names.Pid.{Pid}
use Rattle.charlotte_calls.specs.declared.names.Side.{Side}
use Rattle.charlotte_calls.specs.declared.names.Side.TheVariants.{A}
use Rattle.charlotte_calls.specs.declared.names.Way.{Way}
use Rattle.charlotte_calls.specs.declared.names.Way.TheVariants.{Inward, Outward}
use Rattle.charlotte_text.specs.declared.fault.Fault.{Fault}
use Rattle.charlotte_text.specs.declared.fault.Fault.TheVariants.{Form}
use Rattle.charlotte_text.specs.Spelling.{most_ends}
use Rattle.charlotte_text.specs.Reading.{◌>>=◌, part_at, ended, side_of, number_below, bytes_of, way_of}
use Rattle.transcript_reading.specs.Forms.{first_of, only_of, this_word, u32_of, cause_of, outcome_of, suffix_of}
use Rattle.history_text.specs.Given.{Given, next_given}
use Rattle.history_text.specs.Names.{is_name, look, found, told, untold}
use Rattle.history_text.specs.declared.meaning.Act.{Act}
use Rattle.history_text.specs.declared.meaning.Meaning.{Meaning}
use Rattle.history_text.specs.declared.meaning.Meaning.TheVariants as meaning
use Rattle.history_text.specs.declared.stage.Lead.{Lead}
use Rattle.history_text.specs.declared.stage.Lead.TheVariants as lead
use Rattle.history_text.specs.declared.stage.Stage.{Stage}
use Rattle.history_text.specs.declared.stage.Stage.TheVariants as stage
use Rattle.history_text.specs.declared.stage.Scope.{Scope}
use Rattle.history_text.specs.declared.stage.Scope.TheVariants as scope

-- ---- ends

-- the bytes before the last, which is this one
unfoldable pub before_last : ℕ → List ℕ → Result (List ℕ) Fault
before_last last word = if slice_index word (length word - 1) == last then Ok (take (length word - 1) word) else Err Form

-- a name, a dot and a side
unfoldable pub split_end : List ℕ → Result (List ℕ × Side) Fault
split_end word = do
  side ← side_of word
  name ← before_last 46 side.0
  Ok (name, side.1)

-- the link of names that no link has: nobody owns its ends
abbrev pub no_link : LinkId
no_link = record { maker = 255; count = 4294967295 }

-- a word that names no link: in a call it may be a name
abbrev pub untold_link : Scope → List ℕ → Result LinkId Fault
untold_link scope.Step word = Err Form
untold_link scope.Call word = if is_name word then Ok no_link else Err Form

abbrev pub or_untold : Scope → List ℕ → Option LinkId → Result LinkId Fault
or_untold kind word None = untold_link kind word
or_untold kind word (Some link) = Ok link

-- the link of a name: one that was told, and in a call any
unfoldable pub link_of : Scope → Given → List ℕ → Result LinkId Fault
link_of kind g word = or_untold kind word (look g.links word)

unfoldable pub end_of : Scope → Given → List ℕ → Result EndId Fault
end_of kind g word = do
  e ← split_end word
  link ← link_of kind g e.0
  Ok (record { link = link; side = e.1 })

-- an end behind a plus
unfoldable pub plus_end_of : Scope → Given → List ℕ → Result EndId Fault
plus_end_of kind g [] = Err Form
plus_end_of kind g (b ∷ bs) = if b == 43 then end_of kind g bs else Err Form

-- the words of ends, at most so many
unfoldable pub ends_of : Scope → Given → ℕ → List (List ℕ) → Result (List EndId) Fault
ends_of kind g most [] = Ok []
ends_of kind g zero (w ∷ ws) = Err Form
ends_of kind g (suc most) (w ∷ ws) = plus_end_of kind g w >>= λ e. ends_of kind g most ws >>= λ es. Ok (e ∷ es)

-- a text, and the ends behind it
unfoldable pub content_of : Scope → Given → List (List ℕ) → Result (List ℕ × List EndId) Fault
content_of kind g ws = do
  text ← first_of bytes_of ws
  ends ← ends_of kind g (most_ends g.version) text.1
  Ok (text.0, ends)

-- an end and a number
unfoldable pub end_number_of : Given → List (List ℕ) → Result (EndId × ℕ) Fault
end_number_of g ws = do
  on ← first_of (end_of scope.Step g) ws
  n ← only_of u32_of on.1
  Ok (on.0, n)

-- an end and a direction
unfoldable pub end_way_of : Scope → Given → List (List ℕ) → Result (EndId × Way) Fault
end_way_of kind g ws = do
  on ← first_of (end_of kind g) ws
  way ← only_of way_of on.1
  Ok (on.0, way)

-- ---- calls and reports

unfoldable pub send_call_of : Given → List (List ℕ) → Result Call Fault
send_call_of g ws = do
  on ← first_of (end_of scope.Call g) ws
  content ← content_of scope.Call g on.1
  Ok (call.Send on.0 content.0 content.1)

unfoldable pub named_call_of : Given → List ℕ → List (List ℕ) → Result Call Fault
named_call_of g word ws =
    if bytes_eq word (codes "make") then (ended ws >>= λ u. Ok call.Make)
    else if bytes_eq word (codes "destroy") then (only_of (end_of scope.Call g) ws >>= λ on. Ok (call.Destroy on))
    else if bytes_eq word (codes "send") then send_call_of g ws
    else if bytes_eq word (codes "receive") then (only_of (end_of scope.Call g) ws >>= λ on. Ok (call.Receive on))
    else if bytes_eq word (codes "cancel") then (end_way_of scope.Call g ws >>= λ on. Ok (call.Cancel on.0 on.1))
    else if bytes_eq word (codes "wait") then (ended ws >>= λ u. Ok call.Wait)
    else if bytes_eq word (codes "exit") then (ended ws >>= λ u. Ok call.Exit)
    else Err Form

unfoldable pub call_of : Given → List (List ℕ) → Result Call Fault
call_of g ws = part_at ws >>= λ w. named_call_of g w.0 w.1

-- a step of which the line does not say who owns its end, and one of which it does
abbrev pub free : ServiceStep → Act
free made = record { owner = None; step = made }

abbrev pub owned : Pid → EndId → ServiceStep → Act
owned p on made = record { owner = Some (p, on); step = made }

-- a process is given a report
abbrev pub reported : Pid → EndId → Way → Outcome → List ℕ → List EndId → Act
reported p on way outcome bytes ends = free (step.Report p (record { on = on; way = way; outcome = outcome; bytes = bytes; enclosed = ends }))

-- a report of which the line shows no more
abbrev pub bare_of : Pid → EndId → Way → Outcome → List (List ℕ) → Result Act Fault
bare_of p on way outcome ws = ended ws >>= λ u. Ok (reported p on way outcome [] [])

-- what stands behind the outcome of a report
unfoldable pub result_of : Given → Pid → EndId → Way → Outcome → List (List ℕ) → Result Act Fault
result_of g p on Outward Done ws = bare_of p on Outward Done ws
result_of g p on Outward Destroyed ws = ends_of scope.Step g (most_ends g.version) ws >>= λ ends. Ok (reported p on Outward Destroyed [] ends)
result_of g p on Inward Done ws = content_of scope.Step g ws >>= λ content. Ok (reported p on Inward Done content.0 content.1)
result_of g p on Inward Destroyed ws = bare_of p on Inward Destroyed ws

unfoldable pub report_of : Given → Pid → List (List ℕ) → Result Act Fault
report_of g p ws = do
  on ← first_of (end_of scope.Step g) ws
  way ← first_of way_of on.1
  outcome ← first_of outcome_of way.1
  result_of g p on.0 way.0 outcome.0 outcome.1

-- ---- lines of a process

-- the first end of a link
abbrev pub first_end : LinkId → EndId
first_end link = record { link = link; side = A }

-- the step by which a process makes a link
abbrev pub makes : Pid → LinkId → Act
makes p link = free (step.Make p (first_end link) (opposite (first_end link)))

-- the name of the next link, and the link
unfoldable pub make_of : Given → Pid → List (List ℕ) → Result (List ℕ × LinkId) Fault
make_of g p ws = do
  name ← only_of (untold g.links) ws
  link ← found (next_given g p)
  Ok (name, link)

unfoldable pub refuse_of : Given → Pid → List (List ℕ) → Result Act Fault
refuse_of g p ws = do
  why ← first_of cause_of ws
  call ← call_of g why.1
  Ok (free (step.Refuse p call why.0))

unfoldable pub send_of : Given → Pid → List (List ℕ) → Result Act Fault
send_of g p ws = do
  on ← first_of (end_of scope.Step g) ws
  n ← first_of u32_of on.1
  content ← content_of scope.Step g n.1
  Ok (owned p on.0 (step.Send on.0 n.0 content.0 content.1))

unfoldable pub destroy_of : Given → Pid → List (List ℕ) → Result Act Fault
destroy_of g p ws = only_of (end_of scope.Step g) ws >>= λ on. Ok (owned p on (step.Destroy on))

unfoldable pub receive_of : Given → Pid → List (List ℕ) → Result Act Fault
receive_of g p ws = only_of (end_of scope.Step g) ws >>= λ on. Ok (owned p on (step.Receive on))

unfoldable pub cancel_of : Given → Pid → List (List ℕ) → Result Act Fault
cancel_of g p ws = end_way_of scope.Step g ws >>= λ on. Ok (owned p on.0 (step.Cancel on.0 on.1))

unfoldable pub wait_of : Pid → List (List ℕ) → Result Act Fault
wait_of p ws = ended ws >>= λ u. Ok (free (step.Wait p))

unfoldable pub exit_of : Pid → List (List ℕ) → Result Act Fault
exit_of p ws = ended ws >>= λ u. Ok (free (step.Exit p))

-- what stands behind the process, by its first word, where that is not `make`
unfoldable pub act_of : Given → Pid → List ℕ → List (List ℕ) → Result Act Fault
act_of g p word ws =
    if bytes_eq word (codes "send") then send_of g p ws
    else if bytes_eq word (codes "receive") then receive_of g p ws
    else if bytes_eq word (codes "wait") then wait_of p ws
    else if bytes_eq word (codes "report") then report_of g p ws
    else if bytes_eq word (codes "cancel") then cancel_of g p ws
    else if bytes_eq word (codes "destroy") then destroy_of g p ws
    else if bytes_eq word (codes "refuse") then refuse_of g p ws
    else if bytes_eq word (codes "exit") then exit_of p ws
    else Err Form

-- what a line says: a part of the header, or a step
abbrev pub Said : Type 0
Said = Meaning × Option Act

-- a step that is told by a line, which gives no name
abbrev pub by_step : Result Act Fault → Result Said Fault
by_step (Ok act) = Ok (meaning.Step, Some act)
by_step (Err e) = Err e

-- what a line of the header says
abbrev pub by_version : Result ℕ Fault → Result Said Fault
by_version (Ok v) = Ok (meaning.Version v, None)
by_version (Err e) = Err e

abbrev pub by_process : Result (List ℕ × Pid × ℕ) Fault → Result Said Fault
by_process (Ok x) = Ok (meaning.Process x.0 x.1 x.2, None)
by_process (Err e) = Err e

abbrev pub by_wire : Result (List ℕ × LinkId × Pid × Pid) Fault → Result Said Fault
by_wire (Ok x) = Ok (meaning.Wire x.0 x.1 x.2 x.3, None)
by_wire (Err e) = Err e

-- a new link by its name
abbrev pub by_make : Pid → Result (List ℕ × LinkId) Fault → Result Said Fault
by_make p (Ok made) = Ok (meaning.Make made.0 made.1, Some (makes p made.1))
by_make p (Err e) = Err e

-- what a process did
unfoldable pub deed_of : Given → Pid → List ℕ → List (List ℕ) → Result Said Fault
deed_of g p word ws = if bytes_eq word (codes "make") then by_make p (make_of g p ws) else by_step (act_of g p word ws)

-- a process and a colon, and what stands behind them
unfoldable pub process_line_of : Given → List ℕ → List (List ℕ) → Result Said Fault
process_line_of g word ws = do
  name ← before_last 58 word
  p ← told g.processes name
  first ← part_at ws
  deed_of g p first.0 first.1

-- ---- lines of no process

-- an end and a number
unfoldable pub match_of : Given → List (List ℕ) → Result Act Fault
match_of g ws = end_number_of g ws >>= λ m. Ok (free (step.Match m.0 m.1))

unfoldable pub complete_of : Given → List (List ℕ) → Result Act Fault
complete_of g ws = end_number_of g ws >>= λ m. Ok (free (step.Complete m.0 m.1))

-- an end
unfoldable pub withdraw_of : Given → List (List ℕ) → Result Act Fault
withdraw_of g ws = only_of (end_of scope.Step g) ws >>= λ on. Ok (free (step.Withdraw on))

unfoldable pub free_of : Given → List (List ℕ) → Result Act Fault
free_of g ws = only_of (end_of scope.Step g) ws >>= λ on. Ok (free (step.Free on))

unfoldable pub take_of : Given → List (List ℕ) → Result Act Fault
take_of g ws = do
  on ← first_of (end_of scope.Step g) ws
  n ← first_of u32_of on.1
  u ← first_of (this_word (codes "by")) n.1
  p ← first_of (told g.processes) u.1
  late ← suffix_of (codes "late") p.1
  Ok (free (step.Take on.0 n.0 p.0 late))

unfoldable pub notice_of : Given → List (List ℕ) → Result Act Fault
notice_of g ws = do
  on ← first_of (end_of scope.Step g) ws
  dead ← suffix_of (codes "dead") on.1
  Ok (free (step.Notice on.0 dead))

unfoldable pub back_of : Given → List (List ℕ) → Result Act Fault
back_of g ws = do
  on ← first_of (end_of scope.Step g) ws
  n ← first_of u32_of on.1
  dead ← suffix_of (codes "dead") n.1
  Ok (free (step.Back on.0 n.0 dead))

-- ---- lines of the header

-- version 1 or 2
unfoldable pub version_of : List ℕ → Result ℕ Fault
version_of word = if bytes_eq word (codes "1") then Ok 1 else if bytes_eq word (codes "2") then Ok 2 else Err Form

-- `on K`, and 0 where nothing stands
unfoldable pub home_of : List (List ℕ) → Result ℕ Fault
home_of [] = Ok 0
home_of (w ∷ ws) = this_word (codes "on") w >>= λ u. only_of (number_below 8) ws

-- the name of the next process, the process and its home
unfoldable pub process_of : Given → List (List ℕ) → Result (List ℕ × Pid × ℕ) Fault
process_of g ws = do
  name ← first_of (untold g.processes) ws
  home ← home_of name.1
  if nat_lt (length g.homes) 64 then Ok (name.0, record { 0 = length g.homes }, home) else Err Form

-- the name of a link from the start, the link and whose its ends are
unfoldable pub wire_of : Given → List (List ℕ) → Result (List ℕ × LinkId × Pid × Pid) Fault
wire_of g ws = do
  p ← first_of (told g.processes) ws
  q ← first_of (told g.processes) p.1
  u ← first_of (this_word (codes "as")) q.1
  name ← only_of (untold g.links) u.1
  link ← found (next_given g p.0)
  if nat_lt (length g.wires) 4096 then Ok (name, link, p.0, q.0) else Err Form

-- ---- lines

-- which kind of line a first word begins
unfoldable pub lead_of : List ℕ → Lead
lead_of word =
    if bytes_eq word (codes "history") then lead.History
    else if bytes_eq word (codes "process") then lead.Process
    else if bytes_eq word (codes "wire") then lead.Wire
    else if bytes_eq word (codes "match") then lead.Match
    else if bytes_eq word (codes "take") then lead.Take
    else if bytes_eq word (codes "complete") then lead.Complete
    else if bytes_eq word (codes "withdraw") then lead.Withdraw
    else if bytes_eq word (codes "free") then lead.Free
    else if bytes_eq word (codes "notice") then lead.Notice
    else if bytes_eq word (codes "back") then lead.Back
    else lead.Other

-- where a line may stand: the version first, then the processes, the wires and the steps
unfoldable pub allows : Lead → Stage → Bool
allows lead.History stage.Start = true
allows lead.History s = false
allows k stage.Start = false
allows lead.Process stage.Processes = true
allows lead.Process s = false
allows lead.Wire stage.Steps = false
allows k s = true

-- what a line says that such a word begins, from the words behind it
unfoldable pub led : Given → Lead → List ℕ → List (List ℕ) → Result Said Fault
led g lead.History word ws = by_version (only_of version_of ws)
led g lead.Process word ws = by_process (process_of g ws)
led g lead.Wire word ws = by_wire (wire_of g ws)
led g lead.Match word ws = by_step (match_of g ws)
led g lead.Take word ws = by_step (take_of g ws)
led g lead.Complete word ws = by_step (complete_of g ws)
led g lead.Withdraw word ws = by_step (withdraw_of g ws)
led g lead.Free word ws = by_step (free_of g ws)
led g lead.Notice word ws = by_step (notice_of g ws)
led g lead.Back word ws = by_step (back_of g ws)
led g lead.Other word ws = process_line_of g word ws

-- what a line says, by its words
unfoldable pub meaning_of : Given → List (List ℕ) → Result Said Fault
meaning_of g ws = do
  first ← part_at ws
  if allows (lead_of first.0) g.stage then led g (lead_of first.0) first.0 first.1 else Err Form
