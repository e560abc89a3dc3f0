-- What the kernels and the link service beside a transcript keep, and what each line makes of it.
use Rattle.std.specs.Prelude.{◌≡◌, ℕ, ◌<◌, nat_lt, if◌then◌else◌, List, [], ◌∷◌, Option, Some, None, option_map, slice_get}
use Rattle.charlotte_calls.specs.declared.calls.Call.{Call}
use Rattle.charlotte_calls.specs.declared.calls.ServiceStep.{ServiceStep}
use Rattle.charlotte_calls.specs.declared.names.EndId.{EndId}
use Rattle.charlotte_calls.specs.declared.names.Pid.{Pid}
use Rattle.charlotte_calls.specs.declared.setting.Setting.{Setting}
use Rattle.charlotte_packets.specs.declared.picture.Picture.{Picture}
use Rattle.charlotte_packets.specs.declared.picture.PictureWhat.{PictureWhat}
use Rattle.end_table.specs.declared.entry.Entry.{Entry}
use Rattle.end_table.specs.declared.entry.Entry.TheVariants.{Nothing}
use Rattle.kernel_step.specs.Calls.{IsCallWith}
use Rattle.kernel_step.specs.Kernel.{process_of}
use Rattle.kernel_step.specs.declared.phase.Phase.{Phase}
use Rattle.kernel_step.specs.declared.phase.Phase.TheVariants as phase
use Rattle.kernel_world.specs.World.{World, Event, Calls, happens, kernel_of, outcome, start}
use Rattle.kernel_world.specs.World.{Takes as TakesFirst}
use Rattle.service_step.specs.Run.{start_state}
use Rattle.service_step.specs.State.{State}
use Rattle.service_step.specs.Steps.{IsServiceStep}
use Rattle.transcript_reading.specs.declared.line.LineKind.{LineKind}
use Rattle.transcript_reading.specs.declared.line.LineKind.TheVariants as line
use Rattle.transcript_items.specs.declared.kernels.Doing.{Doing}
use Rattle.transcript_items.specs.declared.kernels.Doing.TheVariants as doing

pub record Kept : Type 0 where
  pub setting : Setting
  -- the kernels after the events so far, with the packets that are under way
  pub world : World
  -- stamp and kernel of the last entry
  pub latest : Option (ℕ × ℕ)
  -- the steps of the last event that no line has shown yet
  pub due : List ServiceStep
  -- the link service after the steps that lines have shown
  pub service : State

-- before the first entry
abbrev pub kept_start : Setting → Kept
kept_start s = record { setting = s; world = start s; latest = None; due = []; service = start_state s }

-- one more event happened, and its steps are due
abbrev pub goes_on : Kept → Event → Kept
goes_on k e =
    let o = outcome k.world e in
    record {
      setting = k.setting;
      world = happens k.world e;
      latest = Some (o.kernel.stamp, kernel_of e);
      due = o.steps;
      service = k.service;
    }

-- ---- what a line makes of it

-- a process runs at its kernel
pub record MayCall (k : Kept) (kernel : ℕ) (p : Pid) : Type 0 where
  pub there : kernel < k.setting.kernels
  pub home : slice_get k.setting.homes p.0 ≡ Some kernel
  pub runs : (process_of p (k.world.kernel kernel)).phase ≡ phase.Running

-- it makes a call; mine are the ends that it owns, in order
pub record Asks (old : Kept) (kernel : ℕ) (p : Pid) (call : Call) (new : Kept) : Type 0 where
  pub may : MayCall old kernel p
  pub mine : List EndId
  pub owned : IsCallWith p (old.world.kernel kernel).table mine call
  pub after : new ≡ goes_on old (Calls kernel p call mine)

-- the first packet from one kernel to another, which is there, tells this
pub record IsFirst (k : Kept) (from kernel : ℕ) (what : PictureWhat) : Type 0 where
  pub there : kernel < k.setting.kernels
  pub packet : Picture
  pub first : slice_get (k.world.packets from kernel) 0 ≡ Some packet
  pub told : packet.what ≡ what

-- the packet is taken
pub record Takes (old : Kept) (from kernel : ℕ) (what : PictureWhat) (new : Kept) : Type 0 where
  pub first : IsFirst old from kernel what
  pub after : new ≡ goes_on old (TakesFirst kernel from)

-- the service makes the first step that is due
pub record Shows (old new : Kept) : Type 0 where
  pub step : ServiceStep
  pub others : List ServiceStep
  pub due : old.due ≡ step ∷ others
  pub service : State
  pub made : IsServiceStep old.service step service
  pub after : new ≡ record old { due = others; service = service }

-- an event happens, or the service makes a step, or nothing changes
abbrev pub Follows : Kept → LineKind → Kept → Type 0
Follows old (line.CallEntry stamp kernel p call) new = Asks old kernel p call new
Follows old (line.PacketEntry stamp kernel from picture) new = Takes old from kernel picture.what new
Follows old (line.Service shown) new = Shows old new
Follows old other new = new ≡ old

-- each of these lines makes of it what the next one finds
abbrev pub FollowAll : Kept → List LineKind → Kept → Type 0
FollowAll old [] new = new ≡ old
FollowAll old (kind ∷ kinds) new = (next : Kept) × Follows old kind next × FollowAll next kinds new

-- no line like this can be followed
abbrev pub Refuses : Kept → LineKind → Type 0
Refuses old kind = (new : Kept) → Follows old kind new → ⊥

-- ---- what is told of it

-- the first step that no line has shown
abbrev pub first_due : Kept → Option ServiceStep
first_due k = slice_get k.due 0

-- the first packet from one kernel to another
abbrev pub first_packet : Kept → ℕ → ℕ → Option Picture
first_packet k from to = slice_get (k.world.packets from to) 0

-- what a process of this phase is doing
abbrev pub doing_in : Phase → Doing
doing_in phase.Running = doing.Runs
doing_in phase.Waiting = doing.Waits
doing_in (phase.Cancelling e) = doing.Waits
doing_in phase.Exited = doing.Exited

-- the kernel of a process, and what the process is doing
abbrev pub doing_of : Kept → Pid → Option (ℕ × Doing)
doing_of k p = option_map (λ home. (home, doing_in (process_of p (k.world.kernel home)).phase)) (slice_get k.setting.homes p.0)

-- the last stamp of a kernel, if it is there
abbrev pub stamp_of : Kept → ℕ → Option ℕ
stamp_of k kernel = if nat_lt kernel k.setting.kernels then Some (k.world.kernel kernel).stamp else None

-- what a kernel keeps of an end
abbrev pub entry_at : Kept → ℕ → EndId → Entry
entry_at k kernel end = if nat_lt kernel k.setting.kernels then (k.world.kernel kernel).table end else Nothing
