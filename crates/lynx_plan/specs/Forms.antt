-- The forms of lines.
use Rattle.std.specs.Prelude.{ℕ, List, if◌then◌else◌, codes, Result, Ok, Err}
use Rattle.std.specs.Str.{bytes_eq}
use Rattle.charlotte_calls.specs.declared.calls.Call.{Call}
use Rattle.charlotte_text.specs.declared.fault.Fault.{Fault}
use Rattle.charlotte_text.specs.declared.fault.Fault.TheVariants as fault
use Rattle.charlotte_text.specs.declared.number.Number.{Number}
use Rattle.charlotte_text.specs.Reading.{◌>>=◌, part_at, ended, number_of, process_of, call_of}
use Rattle.lynx_plan.specs.declared.form.Lead.{Lead}
use Rattle.lynx_plan.specs.declared.form.Lead.TheVariants as lead
use Rattle.lynx_plan.specs.declared.form.Form.{Form}
use Rattle.lynx_plan.specs.declared.form.Form.TheVariants.{Version, Kernels, Process, Wire, Ask, LongAsk, Take, Settle}

-- which kind of line a first word begins
unfoldable pub lead_of : List ℕ → Lead
lead_of word =
    if bytes_eq word (codes "version") then lead.Version
    else if bytes_eq word (codes "kernels") then lead.Kernels
    else if bytes_eq word (codes "process") then lead.Process
    else if bytes_eq word (codes "wire") then lead.Wire
    else if bytes_eq word (codes "take") then lead.Take
    else if bytes_eq word (codes "settle") then lead.Settle
    else lead.Other

-- `N`
unfoldable pub one_number : List (List ℕ) → Result Number Fault
one_number ws = do
  first ← part_at ws
  n ← number_of first.0
  last ← ended first.1
  Ok n

-- `I J`
unfoldable pub two_numbers : List (List ℕ) → Result (Number × Number) Fault
two_numbers ws = do
  first ← part_at ws
  i ← number_of first.0
  j ← one_number first.1
  Ok (i, j)

-- `I on K`, and what stands behind it
unfoldable pub placed_at : List (List ℕ) → Result ((Number × Number) × List (List ℕ)) Fault
placed_at ws = do
  first ← part_at ws
  i ← number_of first.0
  second ← part_at first.1
  third ← if bytes_eq second.0 (codes "on") then part_at second.1 else Err fault.Form
  k ← number_of third.0
  Ok ((i, k), third.1)

-- `I on K`
unfoldable pub placed : List (List ℕ) → Result (Number × Number) Fault
placed ws = do
  at ← placed_at ws
  last ← ended at.1
  Ok at.0

-- a call of a process, whose text may be too long
abbrev pub ask_form : Number → Result Call Fault → Result Form Fault
ask_form p (Ok call) = Ok (Ask p call)
ask_form p (Err fault.Long) = Ok (LongAsk p)
ask_form p (Err fault.Form) = Err fault.Form

-- `pP CALL`
unfoldable pub asked : ℕ → List ℕ → List (List ℕ) → Result Form Fault
asked version word ws = process_of word >>= λ p. ask_form p (call_of version ws)

-- the form of a line of a script that a word begins, from the words behind it
unfoldable pub led : ℕ → Lead → List ℕ → List (List ℕ) → Result Form Fault
led version lead.Version word ws = one_number ws >>= λ n. Ok (Version n)
led version lead.Kernels word ws = one_number ws >>= λ n. Ok (Kernels n)
led version lead.Process word ws = placed ws >>= λ n. Ok (Process n.0 n.1)
led version lead.Wire word ws = two_numbers ws >>= λ n. Ok (Wire n.0 n.1)
led version lead.Take word ws = two_numbers ws >>= λ n. Ok (Take n.0 n.1)
led version lead.Settle word ws = ended ws >>= λ u. Ok Settle
led version lead.Other word ws = asked version word ws

-- the form of a line of a script, by its words
unfoldable pub form_of : ℕ → List (List ℕ) → Result Form Fault
form_of version ws = do
  first ← part_at ws
  led version (lead_of first.0) first.0 first.1
