-- The order of the lines of a transcript: which line may stand next.
use Rattle.std.specs.Prelude.{ℕ, ◌+◌, ◌==◌, ◌&&◌, ◌||◌, nat_le, nat_lt, if◌then◌else◌, List, [], ◌∷◌, Result, Ok, Err}
use Rattle.charlotte_calls.specs.declared.names.Pid.{Pid}
use Rattle.charlotte_text.specs.declared.fault.Fault.{Fault}
use Rattle.charlotte_text.specs.declared.fault.Fault.TheVariants.{Form}
use Rattle.charlotte_text.specs.Reading.{◌>>=◌}
use Rattle.transcript_lines.specs.declared.last.Last.TheVariants.{Quiet, Unsettled}
use Rattle.transcript_reading.specs.declared.line.LineKind.{LineKind}
use Rattle.transcript_reading.specs.declared.line.LineKind.TheVariants as line

-- what was read last, as far as the next line depends on it
pub data Place : Type 0 where
  Start : Place
  Version : Place
  -- `kernels N` or a process: so many kernels, and so many processes so far
  Processes : (kernels processes : ℕ) → Place
  -- a wire: so many processes, and so many wires so far
  Wires : (processes wires : ℕ) → Place
  -- an entry, or a step below it
  Entry : Place
  -- a note of a line of the script
  Noted : (line : ℕ) → Place
  Over : Place

-- what may stand behind the header and behind an entry
abbrev pub body : LineKind → Result Place Fault
body (line.CallEntry stamp kernel p c) = Ok Entry
body (line.PacketEntry stamp kernel from picture) = Ok Entry
body (line.Note note) = Ok (Noted note.line)
body (line.End last) = Ok Over
body _ = Err Form

-- one of at most 4,096 wires, between processes that are there
abbrev pub wired : ℕ → ℕ → Pid → Pid → Result Place Fault
wired processes wires first second =
    if nat_lt wires 4096 && nat_lt first.0 processes && nat_lt second.0 processes then Ok (Wires processes (wires + 1)) else Err Form

-- the next of at most 64 processes, on a kernel that is there
abbrev pub housed : ℕ → ℕ → Pid → ℕ → Result Place Fault
housed kernels processes p kernel =
    if p.0 == processes && nat_lt processes 64 && nat_lt kernel kernels then Ok (Processes kernels (processes + 1)) else Err Form

-- where a line may stand: any step below any entry, a note behind notes of earlier lines
unfoldable pub next : Place → LineKind → Result Place Fault
next Start (line.First version) = if version == 1 || version == 2 then Ok Version else Err Form
next Version (line.Kernels kernels) = if nat_le 1 kernels && nat_le kernels 8 then Ok (Processes kernels 0) else Err Form
next (Processes kernels processes) (line.Process p kernel) = housed kernels processes p kernel
next (Processes kernels processes) (line.Wire first second) = wired processes 0 first second
next (Processes kernels processes) k = body k
next (Wires processes wires) (line.Wire first second) = wired processes wires first second
next (Wires processes wires) k = body k
next Entry (line.Service s) = Ok Entry
next Entry k = body k
next (Noted before) (line.Note note) = if nat_lt before note.line then Ok (Noted note.line) else Err Form
next (Noted before) (line.End Quiet) = Ok Over
next (Noted before) (line.End Unsettled) = Ok Over
next _ _ = Err Form

-- lines, one behind the other
unfoldable pub follows : List LineKind → Place → Result Place Fault
follows [] place = Ok place
follows (k ∷ ks) place = next place k >>= follows ks

-- the last line was read
abbrev pub is_whole : Place → Result (Unit {0}) Fault
is_whole Over = Ok tt
is_whole _ = Err Form
