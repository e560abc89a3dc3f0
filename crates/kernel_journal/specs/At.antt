-- How far a replay has come in a transcript: which lines it took, and what may follow.
use Rattle.std.specs.Prelude.{◌≡◌, ◌↔◌, List, [], ◌∷◌, ◌++◌, Some, None}
use Rattle.transcript_lines.specs.declared.last.Last.{Last}
use Rattle.transcript_reading.specs.Order.{Place, Entry, Noted, Over}
use Rattle.transcript_reading.specs.declared.line.LineKind.{LineKind}
use Rattle.kernel_journal.specs.Body.{IsReady, Passes, course_of}
use Rattle.transcript_replay.specs.Course.{Course, IsOver, IsRest, IsRestOfNotes}
use Rattle.transcript_replay.specs.Header.{IsToldAt}
use Rattle.transcript_replay.specs.Replay.{IsReplay}
use Rattle.kernel_journal.specs.declared.body.Body.{Body}
use Rattle.kernel_journal.specs.declared.lines.Replay.{Replay}

-- just these lines may follow
abbrev pub AreLeft : List LineKind → (List LineKind → Last → Type 0) → Type 0
AreLeft taken Follow = (more : List LineKind) (last : Last) → IsReplay (taken ++ more) last ↔ Follow more last

pub record IsAmongEntries (taken : List LineKind) (r : Replay) : Type 0 where
  pub body : Body
  pub kept : r.body ≡ Some body
  pub ready : IsReady body
  pub left : AreLeft taken (IsRest (course_of body))

pub record IsAmongNotes (taken : List LineKind) (r : Replay) : Type 0 where
  pub body : Body
  pub kept : r.body ≡ Some body
  pub ready : IsReady body
  pub none : body.due ≡ []
  pub left : AreLeft taken (IsRestOfNotes (course_of body))

pub record HasEnded (taken : List LineKind) (r : Replay) : Type 0 where
  pub last : Last
  pub kept : r.last ≡ Some last
  pub left : AreLeft taken (IsOver last)

-- a replay took these lines, behind which is this place
abbrev pub IsAt : List LineKind → Place → Replay → Type 0
IsAt taken Entry r = IsAmongEntries taken r
IsAt taken (Noted note) r = IsAmongNotes taken r
IsAt taken Over r = HasEnded taken r
IsAt taken place r = IsToldAt place r.draft taken × (r.body ≡ None)

-- just these lines may follow at a place behind the header
abbrev pub MayFollow : Place → Course → List LineKind → Last → Type 0
MayFollow (Noted note) c more last = IsRestOfNotes c more last
MayFollow _ c more last = IsRest c more last

-- no step is due behind a note
abbrev pub IsNoteReady : Place → Body → Type 0
IsNoteReady (Noted note) b = b.due ≡ []
IsNoteReady _ b = Unit {0}

-- a body meets the line that comes next
pub record Meets (taken : List LineKind) (place : Place) (kind : LineKind) (b : Body) : Type 0 where
  pub ready : IsReady b
  pub none : IsNoteReady place b
  pub left : (more : List LineKind) (last : Last) → IsReplay (taken ++ kind ∷ more) last ↔ MayFollow place (course_of b) (kind ∷ more) last

pub record HasMet (taken : List LineKind) (place : Place) (kind : LineKind) (r : Replay) : Type 0 where
  pub body : Body
  pub kept : r.body ≡ Some body
  pub meets : Meets taken place kind body

-- a replay met a line with a body, which passed it
pub record Passed (taken : List LineKind) (place : Place) (kind : LineKind) (new : Replay) : Type 0 where
  pub old_body : Body
  pub body : Body
  pub kept : new.body ≡ Some body
  pub meets : Meets taken place kind old_body
  pub ready : IsReady body
  pub passes : Passes old_body kind body
