-- The next line of a text, where it is just what the kernels expect there.
use Rattle.std.specs.Prelude.{◌≡◌, ◌<◌, ℕ, List, [], ◌∷◌, ◌++◌, Some, Ok}
use Rattle.charlotte_calls.specs.declared.calls.ServiceStep.{ServiceStep}
use Rattle.charlotte_packets.specs.declared.picture.PictureWhat.{PictureWhat}
use Rattle.charlotte_calls.specs.declared.setting.Setting.{Setting}
use Rattle.kernel_nodes.specs.Nodes.{IsFirst, world_of}
use Rattle.kernel_nodes.specs.declared.nodes.Nodes.{Nodes}
use Rattle.expected_lines.specs.Told.{told_packet}
use Rattle.transcript_replay.specs.Course.{Refutes}
use Rattle.transcript_reader.specs.Lines.{Unread, next_line}
use Rattle.transcript_reader.specs.Next.{Reads}
use Rattle.leading_lines.specs.declared.guess.PacketAhead.{PacketAhead}
use Rattle.transcript_reader.specs.declared.line.Line.{Line}
use Rattle.transcript_reading.specs.Kinds.{shown_step}
use Rattle.transcript_reading.specs.declared.line.LineKind.{LineKind}
use Rattle.transcript_reading.specs.declared.line.LineKind.TheVariants as line
use Rattle.kernel_journal.specs.At.{IsAt}
use Rattle.kernel_journal.specs.Body.{Goes, IsReady, course_of}
use Rattle.kernel_journal.specs.Faults.{IsFaultAt}
use Rattle.kernel_journal.specs.declared.body.Body.{Body}
use Rattle.kernel_journal.specs.declared.fault.ReplayFault.{ReplayFault}
use Rattle.kernel_journal.specs.declared.fault.ReplayFault.TheVariants as fault
use Rattle.kernel_journal.specs.declared.fault.Stop.{Stop}
use Rattle.kernel_journal.specs.declared.fault.Stop.TheVariants as stop
use Rattle.kernel_journal.specs.declared.lines.Replay.{Replay}

-- ---- a body

-- the next line shows the first step of those that are due, and was read
pub record ReadsDue (due : List ServiceStep) (old new : Unread) : Type 0 where
  pub first : ServiceStep
  pub others : List ServiceStep
  pub there : due ≡ first ∷ others
  pub read : Reads old (line.Service (shown_step first)) new

-- the next line is the entry of the first packet that waits on a way, and was read
pub record ReadsFirst (s : Setting) (nodes : Nodes) (ahead : PacketAhead) (old new : Unread) : Type 0 where
  pub what : PictureWhat
  pub first : IsFirst what ((world_of s nodes.nodes.items).packets ahead.from ahead.kernel)
  pub read : Reads old (line.PacketEntry ahead.stamp ahead.kernel ahead.from (told_packet what)) new

-- this packet waits first on a way to a kernel that is there
abbrev pub Waits : Body → ℕ → ℕ → PictureWhat → Type 0
Waits b from to what = (to < b.setting.kernels) × IsFirst what ((world_of b.setting b.nodes.nodes.items).packets from to)

-- the next line was read, and the body took it
pub record TookNext (old : Body) (u : Unread) (new : Body) (v : Unread) : Type 0 where
  pub kind : LineKind
  pub read : Reads u kind v
  pub ready : IsReady new
  pub goes : Goes old kind new

-- the next line was read, and may not follow
pub record MayNotFollow (old : Body) (u v : Unread) : Type 0 where
  pub kind : LineKind
  pub read : Reads u kind v
  pub refutes : Refutes (course_of old) kind

-- why a body stands at the next line
abbrev pub Stands : Body → Unread → Unread → Stop → Type 0
Stands old u v stop.Differs = MayNotFollow old u v
Stands old u v stop.NoMemory = Unit {0}

-- ---- a replay

-- the next line was read and taken
pub record HasTaken (taken : List LineKind) (old new : Unread) (r : Replay) : Type 0 where
  pub line : Line
  pub read : next_line old ≡ Ok (Some (line, new))
  pub at : IsAt (taken ++ line.what ∷ []) new.place r

-- the next line was read and is the first that differs, and the fault names it
pub record HasDiffered (taken : List LineKind) (old new : Unread) (number : ℕ) : Type 0 where
  pub line : Line
  pub read : next_line old ≡ Ok (Some (line, new))
  pub differs : IsFaultAt taken line (fault.Differs number)

abbrev pub HasStopped : List LineKind → Unread → Unread → ReplayFault → Type 0
HasStopped taken old new (fault.Differs number) = HasDiffered taken old new number
HasStopped taken old new fault.NoMemory = Unit {0}
