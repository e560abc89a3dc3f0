-- What a node is: a local run of its kernel, which it noted, whose packets it put or has in its outbox, and which its programs replay.
use Rattle.std.specs.Prelude.{◌≡◌, ℕ, zero, suc, ◌+◌, ◌≤◌, ◌<◌, false, List, [], ◌∷◌, ◌++◌, All, length, Option, Some, None, IfSome, IsSome, slice_get}
use Rattle.charlotte_calls.specs.declared.calls.Answer.{Answer as AnAnswer}
use Rattle.charlotte_calls.specs.declared.calls.Call.{Call}
use Rattle.charlotte_calls.specs.declared.calls.Call.TheVariants as call
use Rattle.charlotte_calls.specs.declared.names.Pid.{Pid}
use Rattle.charlotte_calls.specs.declared.program.Next.{Next}
use Rattle.charlotte_calls.specs.declared.program.Next.TheVariants as next
use Rattle.charlotte_calls.specs.declared.setting.Setting.{Setting}
use Rattle.kernel_core.specs.State.{state_of}
use Rattle.kernel_entries.specs.Ranges.{IsEntryInRange}
use Rattle.kernel_entries.specs.declared.entry.Entry.{Entry}
use Rattle.kernel_net.specs.Ports.{got_from, kernels_of, place_of, put_to}
use Rattle.kernel_step.specs.Start.{home, start_kernel}
use Rattle.program_runs.specs.Local.{IsLocalRun, LocalEvent, MakesCall, TakesPacket, entries_of, left_by}
use Rattle.program_runs.specs.Replay.{Replayed, Replays, StepOf, replay_start}
use Rattle.program_runs.specs.Told.{Heard, NoCall}
use Rattle.program_runs.specs.Told as heard
use Rattle.kernel_turns.specs.declared.base.Base.{Base}
use Rattle.program_round.specs.declared.doing.Doing.{Doing}
use Rattle.program_round.specs.declared.doing.Doing.TheVariants.{Begins, Answered, Pending, Paused, Ended}
use Rattle.kernel_turns.specs.declared.node.Node.{Node}
use Rattle.program_round.specs.declared.programs.Programs.{Programs}
use Rattle.kernel_turns.specs.Courses.{marked_of}
use Rattle.kernel_turns.specs.Events.{FitsPort}
use Rattle.program_round.specs.Doings.{doing_at}
use Rattle.kernel_outbox.specs.Letters.{outbox_to}
use Rattle.kernel_turns.specs.Letters.{letters_from, letters_of, told, Told, APacket, AMarker}

-- ---- the kernel and its journal

-- kernel and journal are those of a local run of the kernel k
pub record HasRun (s : Setting) (k : ℕ) (made : List LocalEvent) (b : Base) : Type 0 where
  pub local : IsLocalRun s k (start_kernel s k) made
  pub kernel : state_of b.kernel ≡ left_by (start_kernel s k) made
  pub processes : length b.kernel.processes ≡ length s.homes
  pub kernels : b.kernel.kernels ≡ s.kernels
  pub noted : b.journal.entries ≡ entries_of (start_kernel s k) made
  pub in_range : All IsEntryInRange b.journal.entries

-- ---- letters and course

-- a letter has no later stamp than this
abbrev pub IsBy : ℕ → Told → Type 0
IsBy stamp (APacket q) = q.stamp ≤ stamp
IsBy stamp AMarker = Unit {0}

-- What was put to each kernel, followed by the outbox, is what the run sends to it, with the markers in their places
pub record HasSent (s : Setting) (k : ℕ) (made : List LocalEvent) (b : Base) : Type 0 where
  pub put : (to : ℕ) → told (put_to b.port to ++ outbox_to b.outbox to) ≡ letters_of s.kernels b.course.begun to (start_kernel s k) made
  -- it began after events that it made
  pub begun : IfSome b.course.begun (λ n. n ≤ length made)
  pub stamps : (to : ℕ) → All (IsBy b.kernel.stamp) (told (put_to b.port to ++ outbox_to b.outbox to))
  pub number : b.port.kernel ≡ k
  pub kernels : kernels_of (place_of b.port) ≡ s.kernels
  pub fits : FitsPort b

-- What was got of each kernel is what the run took, with its marker in its place
pub record HasTaken (made : List LocalEvent) (b : Base) : Type 0 where
  pub got : (from : ℕ) → told (got_from b.port from) ≡ letters_from (marked_of b.course from) from made
  -- a marker was got after events that it made, and it had begun, or did then
  pub marked : (from : ℕ) → IfSome (marked_of b.course from) (λ n. (n ≤ length made) × IsSome b.course.begun)
  pub marks : length b.course.marked ≡ 8

-- ---- programs

-- what a program of these states means
pub record Meaning (P S : Type 0) : Type 0 where
  pub step : StepOf S
  pub state : P → S
  pub last : P → Option Next
  pub version : P → ℕ

-- its process is in no Wait or Cancel, and did not exit
abbrev pub IsFree : Heard → Type 0
IsFree (heard.Answered call.Exit a) = ⊥
IsFree (heard.Pending c) = ⊥
IsFree h = Unit {0}

-- its process is in no Wait or Cancel
abbrev pub IsSettled : Heard → Type 0
IsSettled (heard.Pending c) = ⊥
IsSettled h = Unit {0}

-- it is doing this, after its last step and what was heard of its process
abbrev pub IsDoing : Option Next → Heard → Doing → Type 0
IsDoing last h Begins = (last ≡ None) × (h ≡ NoCall)
IsDoing last h Answered = (c : Call) × (a : AnAnswer) × (last ≡ Some (next.Ask c)) × (h ≡ heard.Answered c a)
IsDoing last h Pending = (c : Call) × (last ≡ Some (next.Ask c)) × (h ≡ heard.Pending c)
IsDoing last h Paused = (last ≡ Some next.Pause) × IsFree h
IsDoing last h Ended = (last ≡ Some next.Ended) × IsSettled h

-- these entries are replayed by the program that was this and is that now, in so many steps
pub record Plays {P S : Type 0} (m : Meaning P S) (p : Pid) (was : P) (es : List Entry) (now : P) (doing : Doing) (steps : ℕ) : Type 0 where
  pub at : Replayed S
  pub replay : Replays m.step p (replay_start (m.state was)) es at
  pub state : at.state ≡ m.state now
  pub last : at.last ≡ m.last now
  pub steps_are : at.steps ≡ steps
  pub is_doing : IsDoing at.last at.heard doing

-- the sum of the first of some numbers
abbrev pub sum_of : ℕ → (ℕ → ℕ) → ℕ
sum_of zero f = 0
sum_of (suc n) f = sum_of n f + f n

-- how many packets were taken
abbrev pub takings : List LocalEvent → ℕ
takings [] = 0
takings (MakesCall p c mine ∷ os) = takings os
takings (TakesPacket from q ∷ os) = takings os + 1

-- The programs that a node began with replay its entries, and are where it has them. Their steps, and the packets taken, are the turns used
pub record ArePlaying {P S : Type 0} (m : Meaning P S) (s : Setting) (k : ℕ) (first : List (Pid × P)) (made : List LocalEvent) (es : List Entry) (used : ℕ) (now : Programs P) : Type 0 where
  pub count : length now.all.items ≡ length first
  pub room : length now.all.items ≤ length now.doing
  -- each is of a process of the kernel, and asks no call that the setting's version has not
  pub homes : All (λ x. (x.0.0 < length s.homes) × (home s x.0 ≡ k) × (m.version x.1 ≤ s.version)) now.all.items
  pub pids : (i : ℕ) (was is : Pid × P) → slice_get first i ≡ Some was → slice_get now.all.items i ≡ Some is → is.0 ≡ was.0
  -- no two are of one process
  pub apart : (i j : ℕ) (x y : Pid × P) → slice_get now.all.items i ≡ Some x → slice_get now.all.items j ≡ Some y → x.0 ≡ y.0 → i ≡ j
  pub steps : ℕ → ℕ
  pub each : (i : ℕ) (was is : Pid × P) → slice_get first i ≡ Some was → slice_get now.all.items i ≡ Some is
      → Plays m was.0 was.1 es is.1 (doing_at now.doing i) (steps i)
  pub turns : used ≡ takings made + sum_of (length first) steps

-- ---- the node

-- A node of the kernel k that began with these programs, after these events. After want of memory its kernel and journal are as before,
-- and of the rest nothing is known
pub record IsNode {P S W : Type 0} (m : Meaning P S) (HasSeen : W → List Entry → Type 0) (s : Setting) (k : ℕ) (first : List (Pid × P)) (made : List LocalEvent) (n : Node P W) : Type 0 where
  pub run : HasRun s k made n.base
  pub sent : n.spoiled ≡ false → HasSent s k made n.base
  pub taken : n.spoiled ≡ false → HasTaken made n.base
  pub programs : n.spoiled ≡ false → ArePlaying m s k first made n.base.journal.entries n.base.used n.programs
  pub watch : n.spoiled ≡ false → HasSeen n.watch n.base.journal.entries
  pub limit : n.base.used ≤ n.base.orders.limit
  pub most : n.base.orders.limit ≤ 100000
