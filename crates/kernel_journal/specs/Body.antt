-- A body of a replay as a course.
use Rattle.std.specs.Prelude.{◌≡◌, ℕ, ◌+◌, ◌<◌, ◌≤◌, ◌^◌, IsTrue, List, [], length, Some}
use Rattle.charlotte_calls.specs.Setting.{IsValid}
use Rattle.charlotte_calls.specs.declared.calls.Call.{Call}
use Rattle.charlotte_calls.specs.declared.names.Pid.{Pid}
use Rattle.charlotte_calls.specs.declared.setting.Setting.{Setting}
use Rattle.kernel_nodes.specs.Nodes.{AreNodes, world_of}
use Rattle.kernel_nodes.specs.declared.node.Node.{Node}
use Rattle.kernel_nodes.specs.declared.nodes.Noted.{Noted}
use Rattle.kernel_step.specs.Kernel.{process_of}
use Rattle.kernel_step.specs.Start.{home}
use Rattle.kernel_step.specs.declared.phase.Phase.TheVariants.{Running}
use Rattle.kernel_world.specs.Run.{IsCallOf}
use Rattle.kernel_world.specs.World.{World}
use Rattle.transcript_reading.specs.declared.line.LineKind.{LineKind}
use Rattle.transcript_reading.specs.declared.line.LineKind.TheVariants as line
use Rattle.transcript_replay.specs.Course.{Course, comes_after, Leads, Refutes}
use Rattle.transcript_replay.specs.Replay.{IsTrueLast}
use Rattle.kernel_journal.specs.declared.body.Body.{Body}
use Rattle.kernel_journal.specs.declared.fault.Stop.{Stop}
use Rattle.kernel_journal.specs.declared.fault.Stop.TheVariants as stop

-- the events that a run has at most: so no number of a kernel comes to its end
abbrev pub most_events : ℕ
most_events = 2 ^ 31

-- how far a body has come
abbrev pub course_of : Body → Course
course_of b =
    record { setting = b.setting; world = world_of b.setting b.nodes.nodes.items; events = b.events; latest = b.latest; due = b.due }

-- what is true of every body
pub record IsReady (b : Body) : Type 0 where
  pub valid : IsValid b.setting
  pub nodes : AreNodes b.setting b.nodes.nodes.items
  pub few : b.events ≤ most_events

-- a process runs at its kernel, and its version has such a call
abbrev pub CanCall : Setting → World → ℕ → Pid → Call → Type 0
CanCall s w k p c = (p.0 < length s.homes) × (home s p ≡ k) × ((process_of p (w.kernel k)).phase ≡ Running) × IsCallOf s.version c

-- after a line just those lines may follow that may follow the new body
abbrev pub Goes : Body → LineKind → Body → Type 0
Goes old kind new = Leads (course_of old) kind (course_of new)

-- a line that differs may not follow
abbrev pub StopsAt : Body → LineKind → Stop → Type 0
StopsAt old kind stop.Differs = Refutes (course_of old) kind
StopsAt old kind stop.NoMemory = Unit {0}

-- a body passed a line behind the header
abbrev pub Passes : Body → LineKind → Body → Type 0
Passes old (line.Note note) new = (new ≡ old) × (old.due ≡ [])
Passes old (line.End last) new = (new ≡ old) × (old.due ≡ []) × IsTrueLast old.setting (world_of old.setting old.nodes.nodes.items) last
Passes old kind new = Goes old kind new

-- it differs
abbrev pub Differs : Body → LineKind → Type 0
Differs old (line.Note note) = old.due ≡ [] → ⊥
Differs old (line.End last) = old.due ≡ [] → IsTrueLast old.setting (world_of old.setting old.nodes.nodes.items) last → ⊥
Differs old kind = Refutes (course_of old) kind

abbrev pub Fails : Body → LineKind → Stop → Type 0
Fails old kind stop.Differs = Differs old kind
Fails old kind stop.NoMemory = Unit {0}

-- these nodes of a setting are other ones in the same world
abbrev pub AreSameNodes : List Node → List Node → Type 0
AreSameNodes old new = (s : Setting) → AreNodes s old → AreNodes s new × (world_of s new ≡ world_of s old)

-- an event was noted whose entry has this stamp and may stand there
pub record IsNoted (stamp kernel : ℕ) (noted : Noted) (old new : Body) : Type 0 where
  pub same_stamp : noted.stamp ≡ stamp
  pub order : IsTrue (comes_after old.latest stamp kernel)
  pub setting : new.setting ≡ old.setting
  pub nodes : AreSameNodes old.nodes.nodes.items new.nodes.nodes.items
  pub events : new.events ≡ old.events + 1
  pub latest : new.latest ≡ Some (stamp, kernel)
  pub due : new.due ≡ noted.steps.items
