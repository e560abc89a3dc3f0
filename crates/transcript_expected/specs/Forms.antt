-- Which form a line has, and which forms may stand in a place.
use Rattle.std.specs.Prelude.{◌≡◌, ℕ, ◌&&◌, nat_lt, Bool, true, false, Ok}
use Rattle.transcript_lines.specs.declared.last.Last.{Last}
use Rattle.transcript_lines.specs.declared.last.Last.TheVariants.{Quiet, Unsettled, Spent}
use Rattle.transcript_expected.specs.declared.form.Form.{Form}
use Rattle.transcript_expected.specs.declared.form.Form.TheVariants as form
use Rattle.transcript_reading.specs.Order.{Place, Start, Version, Processes, Wires, Entry, Noted, next}
use Rattle.transcript_reading.specs.declared.line.LineKind.{LineKind}
use Rattle.transcript_reading.specs.declared.line.LineKind.TheVariants as line

-- the form of a last line
abbrev pub form_of_last : Last → Form
form_of_last Quiet = form.Quiet
form_of_last Unsettled = form.Open
form_of_last (Spent kernel) = form.Spent

-- the form of a line
abbrev pub form_of : LineKind → Form
form_of (line.First version) = form.First
form_of (line.Kernels kernels) = form.Kernels
form_of (line.Process p kernel) = form.Process
form_of (line.Wire first second) = form.Wire
form_of (line.CallEntry stamp kernel p c) = form.Call
form_of (line.PacketEntry stamp kernel from picture) = form.Packet
form_of (line.Service s) = form.Step
form_of (line.Note note) = form.Note
form_of (line.End last) = form_of_last last

-- what may stand behind the header and behind an entry
abbrev pub is_of_body : Form → Bool
is_of_body form.Call = true
is_of_body form.Packet = true
is_of_body form.Note = true
is_of_body form.Quiet = true
is_of_body form.Open = true
is_of_body form.Spent = true
is_of_body f = false

-- behind `kernels N` or a process: the next of at most 64 processes, or a wire between those that are there
abbrev pub is_of_processes : ℕ → ℕ → Form → Bool
is_of_processes kernels processes form.Process = nat_lt 0 kernels && nat_lt processes 64
is_of_processes kernels processes form.Wire = nat_lt 0 processes
is_of_processes kernels processes f = is_of_body f

-- behind a wire: one of at most 4,096 wires
abbrev pub is_of_wires : ℕ → ℕ → Form → Bool
is_of_wires processes wires form.Wire = nat_lt wires 4096 && nat_lt 0 processes
is_of_wires processes wires f = is_of_body f

-- behind an entry: a step of it
abbrev pub is_of_entry : Form → Bool
is_of_entry form.Step = true
is_of_entry f = is_of_body f

-- behind a note: another note, or a last line that a script may have
abbrev pub is_of_note : Form → Bool
is_of_note form.Note = true
is_of_note form.Quiet = true
is_of_note form.Open = true
is_of_note f = false

-- whether some line of this form may stand in this place
abbrev pub may_stand : Place → Form → Bool
may_stand Start form.First = true
may_stand Version form.Kernels = true
may_stand (Processes kernels processes) f = is_of_processes kernels processes f
may_stand (Wires processes wires) f = is_of_wires processes wires f
may_stand Entry f = is_of_entry f
may_stand (Noted line) f = is_of_note f
may_stand _ _ = false

-- a line of this form that may stand in this place
pub record MayStand (place : Place) (f : Form) : Type 0 where
  pub shown : LineKind
  pub of_form : form_of shown ≡ f
  pub behind : Place
  pub stands : next place shown ≡ Ok behind
