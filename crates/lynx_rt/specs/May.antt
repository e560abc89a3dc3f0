-- When a thread may do what it asked for, of what the machine says where it stops.
use Rattle.std.specs.Prelude.{ℕ, [], Ok, Option, None, Some, IsSome, slice_get, ⊤}
use Rattle.charlotte_calls.specs.declared.calls.Report.{Report}
use Rattle.lynx_meaning.specs.Courses.{Action}
use Rattle.lynx_meaning.specs.Courses as actions
use Rattle.lynx_meaning.specs.Needs.{wanted_by}
use Rattle.machine_never_stuck.specs.Sound.{IsAction}
use Rattle.machine_requests.specs.Open.{open_of}
use Rattle.machine_sound.specs.Sound.{IsAsking}
use Rattle.machine_turns.specs.Turns.{Stop, Spent, Act, AllBlocked, Finished}
use Rattle.end_protocol.specs.declared.kept.Kept.{Kept}
use Rattle.process_run.specs.States.{State}
use Rattle.process_run.specs.Ends.{link_of}
use Rattle.process_sound.specs.Machine.{Fits}
use Rattle.process_sound.specs.May.{AnyState, MayCall, MayDestroy, MayFail, MayListen}

-- ---- actions

pub record MayDestroyIt (thread n : ℕ) (s : State) : Type 0 where
  pub fails : MayFail thread s
  pub destroys : MayDestroy thread n s

-- a thread connects or accepts
pub record MayBlock (thread op : ℕ) (s : State) : Type 0 where
  pub fails : MayFail thread s
  pub there : IsSome (slice_get s.code.signatures op)

-- A thread asks for this, which is no call
abbrev pub MayAct : ℕ → Action → State → Type 0
MayAct thread (actions.Destroy link) s = MayDestroyIt thread (link_of link) s
MayAct thread (actions.Connect link op vs) s = MayBlock thread op s
MayAct thread (actions.Accept link op) s = MayBlock thread op s
MayAct thread actions.Stop s = ⊤
MayAct thread _ s = Fits thread (Ok []) s

-- a message came on an end, if it is held
abbrev pub MayListenAt : ℕ → Option Kept → Report → State → Type 0
MayListenAt n None r s = ⊤
MayListenAt n (Some k) r s = MayListen n k r s

-- ---- where the machine stops

-- The machine stopped for this: its thread asks for what has an outcome, and the operation or entry is there
abbrev pub IsStoppedFor : Stop → State → Type 0
IsStoppedFor (Act thread a) s = IsAsking thread (wanted_by a) s.turns × IsAction s.code.types (open_of s.code.instructions thread s.turns) a
IsStoppedFor _ s = ⊤

-- a thread asked for this, a call or not
abbrev pub MayAskFor : ℕ → Action → State → Type 0
MayAskFor thread actions.New s = ⊤
MayAskFor thread (actions.Write bytes) s = ⊤
MayAskFor thread a s = MayAct thread a s

-- the machine stopped so
abbrev pub MayComeTo : Stop → State → Type 0
MayComeTo (Act thread a) s = MayAskFor thread a s
MayComeTo Spent s = ⊤
MayComeTo AllBlocked s = MayCall AnyState s
MayComeTo Finished s = MayCall AnyState s
