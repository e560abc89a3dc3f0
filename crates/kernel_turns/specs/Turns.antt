-- What a node does in one turn: the order of its work, by cases.
use Rattle.std.specs.Prelude.{◌≡◌, ◌⊎◌, ℕ, ◌+◌, ◌<◌, ◌≤◌, Bool, true, false, List, [], ◌++◌, length, set, Option, Some, None, slice_get}
use Rattle.charlotte_calls.specs.Program.{EndsAfterExit, IsOfVersion}
use Rattle.charlotte_calls.specs.declared.calls.Answer.{Answer as AnAnswer}
use Rattle.charlotte_calls.specs.declared.calls.Call.{Call}
use Rattle.charlotte_calls.specs.declared.names.EndId.{EndId}
use Rattle.charlotte_calls.specs.declared.names.Pid.{Pid}
use Rattle.charlotte_calls.specs.declared.program.Next.{Next}
use Rattle.charlotte_calls.specs.declared.program.Next.TheVariants as next
use Rattle.charlotte_packets.specs.Packets.{packet_picture}
use Rattle.charlotte_packets.specs.declared.packet.Packet.{Packet}
use Rattle.end_table.specs.Table.{entries}
use Rattle.kernel_core.specs.State.{state_of}
use Rattle.kernel_net.specs.Letters.{greatest_stamp}
use Rattle.kernel_net.specs.Ports.{HasFound, HasGot, kernels_of, known_from, place_of}
use Rattle.kernel_net.specs.declared.letter.Letter.{Letter}
use Rattle.kernel_net.specs.declared.letter.Letter.TheVariants as letter
use Rattle.kernel_step.specs.Calls.{IsCallWith}
use Rattle.kernel_step.specs.Kernel.{process_of}
use Rattle.program_runs.specs.Local.{MakesCall, TakesPacket}
use Rattle.program_runs.specs.Replay.{IsNoCall}
use Rattle.program_round.specs.Doings.{IsNextToGo, NoneCanGo, all_answered, behind, doing_after, doing_at}
use Rattle.program_round.specs.declared.doing.Doing.TheVariants.{Answered}
use Rattle.program_round.specs.declared.programs.Programs.{Programs}
use Rattle.kernel_outbox.specs.Letters.{Flushes, markers_to, outbox_to}
use Rattle.kernel_turns.specs.declared.base.Base.{Base}
use Rattle.kernel_turns.specs.declared.node.Node.{Node}
use Rattle.kernel_turns.specs.declared.node.Turn.{Turn}
use Rattle.kernel_turns.specs.declared.node.Turn.TheVariants as turn
use Rattle.kernel_turns.specs.Events.{FitsPort, Happens}
use Rattle.kernel_turns.specs.Nodes.{Meaning}

-- ---- letters and markers

-- of a node but for its outbox and its course nothing changed
pub record KeepsWork (old new : Base) : Type 0 where
  pub kernel : new.kernel ≡ old.kernel
  pub journal : new.journal.entries ≡ old.journal.entries
  pub orders : new.orders ≡ old.orders
  pub used : new.used ≡ old.used

-- a node that has not begun begins: the course has the length of the journal, and a marker goes out to each kernel
pub record HasBegun (old new : Base) : Type 0 where
  pub kept : KeepsWork old new
  pub port : new.port ≡ old.port
  pub before : old.course.begun ≡ None
  pub course : new.course ≡ record old.course { begun = Some (length old.journal.entries) }
  pub letters : (to : ℕ) → outbox_to new.outbox to ≡ outbox_to old.outbox to ++ markers_to (kernels_of (place_of old.port)) to
  pub fits : FitsPort new

-- the markers that go out once it begins
abbrev pub markers_where : Option ℕ → ℕ → ℕ → List Letter
markers_where None kernels to = markers_to kernels to
markers_where (Some begun) kernels to = []

abbrev pub unbegun_markers : Base → ℕ → List Letter
unbegun_markers b to = markers_where b.course.begun (kernels_of (place_of b.port)) to

-- a node begins where it has not begun
pub data BeginsOnce (old new : Base) : Type 0 where
  Begins : HasBegun old new → BeginsOnce old new
  Began : (n : ℕ) → old.course.begun ≡ Some n → old ≡ new → BeginsOnce old new

-- it is to begin after so many turns, and these are used and not all
pub record IsTime (b : Base) : Type 0 where
  pub after : ℕ
  pub asked : b.orders.begins ≡ Some after
  pub used : after ≤ b.used
  pub left : b.used < b.orders.limit

-- a node begins where it is time and it has not begun
pub data BeginsInTime (old new : Base) : Type 0 where
  InTime : IsTime old → BeginsOnce old new → BeginsInTime old new
  NotNow : (IsTime old → ⊥) → old ≡ new → BeginsInTime old new

-- letters of the outbox are put, to each kernel in order, while they are accepted; put tells whether one was
pub record PutsLetters (put : Bool) (old new : Base) : Type 0 where
  pub kept : KeepsWork old new
  pub course : new.course ≡ old.course
  pub flushed : Flushes (outbox_to old.outbox) (outbox_to new.outbox) old.port new.port
  pub unsent : new.outbox.unsent.items ≡ []
  pub fits : FitsPort new
  pub some : put ≡ true → (to : ℕ) × (length (outbox_to new.outbox to) < length (outbox_to old.outbox to))
  pub none : put ≡ false → (to : ℕ) → outbox_to new.outbox to ≡ outbox_to old.outbox to
  pub port : put ≡ false → new.port ≡ old.port

-- the first kernel is found of which a letter is known, and of the rest nothing changes
pub record FindsLetter (from : ℕ) (old new : Base) : Type 0 where
  pub found : HasFound from old.port new.port
  pub place : place_of new.port ≡ place_of old.port
  pub rest : new ≡ record old { port = new.port }

-- a letter is got, and of the rest nothing changes
pub record GetsLetter (from : ℕ) (l : Letter) (old new : Base) : Type 0 where
  pub got : HasGot from l old.port new.port
  pub place : place_of new.port ≡ place_of old.port
  pub rest : new ≡ record old { port = new.port }

-- no letter is known to be there
abbrev pub NoLetter : Base → Type 0
NoLetter b = (from : ℕ) → known_from b.port from ≡ []

-- the marker of a kernel is got: the course keeps the length of the journal
abbrev pub with_marker : ℕ → Base → Base
with_marker from b = record b { course = record b.course { marked = set b.course.marked from (Some (length b.journal.entries)) } }

-- ---- programs

-- what the program at a place is lent, whose process is p: a copy of the answer to the call that it asked, once
abbrev pub IsLent : {P W : Type 0} → Node P W → ℕ → Pid → Option AnAnswer → Type 0
IsLent n place p (Some a) = (doing_at n.programs.doing place ≡ Answered) × ((process_of p (state_of n.base.kernel)).answer ≡ Some a)
IsLent n place p None = doing_at n.programs.doing place ≡ Answered → ⊥

-- the program at a place, whose process is p, makes a step with what it is given, and the round goes on behind it
pub record StepsAt {P S : Type 0} (m : Meaning P S) (place : ℕ) (p : Pid) (given : Option AnAnswer) (made : Next) (old new : Programs P) : Type 0 where
  pub before : P
  pub after : P
  pub was : slice_get old.all.items place ≡ Some (p, before)
  pub step : (made, m.state after) ≡ m.step (m.state before) given
  pub last : m.last after ≡ Some made
  -- it asks nothing after an Exit, and nothing that its version has not
  pub exit : EndsAfterExit (m.last before) made
  pub limit : IsOfVersion (m.version before) made
  pub version : m.version after ≡ m.version before
  pub one_or_two : (m.version before ≡ 1) ⊎ (m.version before ≡ 2)
  pub all : new.all.items ≡ set old.all.items place (p, after)
  pub doing : new.doing ≡ set old.doing place (doing_after made)
  pub next : new.next ≡ behind (length old.all.items) place

-- the processes that were answered are known to be; else the programs are as they were
pub record Hears {P : Type 0} (who : List Pid) (old new : Programs P) : Type 0 where
  pub all : new.all.items ≡ old.all.items
  pub next : new.next ≡ old.next
  pub doing : new.doing ≡ all_answered who old.all.items old.doing

-- ---- a turn

-- turns are left
abbrev pub HasTurns : Base → Type 0
HasTurns b = b.used < b.orders.limit

-- once letters were put, of which put tells whether there were some
pub data Continues {P S W : Type 0} (m : Meaning P S) (put : Bool) : Turn → Node P W → Node P W → Type 0 where
  -- its turns are used up
  SpendsTurns : (n : Node P W) → n.base.used ≡ n.base.orders.limit → Continues m put turn.Spent n n
  -- a packet was got, and the kernel takes it
  TakesIt : (n : Node P W) (from : ℕ) (p : Packet) (got after : Base) (who : List Pid) (told : Programs P) (watch : W) → HasTurns n.base
      → GetsLetter from (letter.Packet p) n.base got → Happens (TakesPacket from (packet_picture p)) got after who → Hears who n.programs told
      → Continues m put turn.Event n (record n { base = after; programs = told; watch = watch })
  -- a marker was got: the course keeps it, and the node begins where it did not
  GetsMarker : (n : Node P W) (from : ℕ) (got after : Base) → HasTurns n.base
      → GetsLetter from letter.Marker n.base got → BeginsOnce (with_marker from got) after
      → Continues m put turn.Marked n (record n { base = after })
  -- no letter is there, and the next program that can go on asks a call, which is made
  Asks : (n : Node P W) (place : ℕ) (p : Pid) (given : Option AnAnswer) (c : Call) (mine : List EndId) (stepped told : Programs P) (after : Base) (who : List Pid) (watch : W)
      → HasTurns n.base → NoLetter n.base → IsNextToGo (length n.programs.all.items) n.programs.next n.programs.doing place
      → IsLent n place p given → StepsAt m place p given (next.Ask c) n.programs stepped → IsCallWith p (entries n.base.kernel.table) mine c
      → Happens (MakesCall p c mine) n.base after who → Hears who stepped told
      → Continues m put turn.Event n (record n { base = after; programs = told; watch = watch })
  -- or it pauses or ends, which uses a turn
  Pauses : (n : Node P W) (place : ℕ) (p : Pid) (given : Option AnAnswer) (made : Next) (stepped : Programs P)
      → HasTurns n.base → NoLetter n.base → IsNextToGo (length n.programs.all.items) n.programs.next n.programs.doing place
      → IsLent n place p given → IsNoCall made → StepsAt m place p given made n.programs stepped
      → Continues m put turn.Paused n (record n { base = record n.base { used = n.base.used + 1 }; programs = stepped })
  -- no letter is there, and no program can go on
  SendsOnly : (n : Node P W) → HasTurns n.base → NoLetter n.base → NoneCanGo (length n.programs.all.items) n.programs.doing → put ≡ true
      → Continues m put turn.Sent n n
  Idles : (n : Node P W) → HasTurns n.base → NoLetter n.base → NoneCanGo (length n.programs.all.items) n.programs.doing → put ≡ false
      → Continues m put turn.Idle n n

-- one turn, from the first step that gives an answer
pub data IsTurn {P S W : Type 0} (m : Meaning P S) : Turn → Node P W → Node P W → Type 0 where
  -- the stamps are used up
  SpendsStamps : (n : Node P W) → n.base.kernel.stamp ≡ greatest_stamp → IsTurn m turn.Spent n n
  -- it begins where it is time, puts letters, and goes on
  Works : (n : Node P W) (begun ready : Base) (put : Bool) (t : Turn) (after : Node P W) → n.base.kernel.stamp < greatest_stamp
      → BeginsInTime n.base begun → PutsLetters put begun ready → Continues m put t (record n { base = ready }) after → IsTurn m t n after
