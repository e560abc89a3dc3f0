-- What turns make of a node, one or many; and a node in which a turn can do nothing.
use Rattle.std.specs.Prelude.{◌≡◌, ◌<◌, ℕ, List, [], ◌++◌, length}
use Rattle.charlotte_calls.specs.Setting.{IsValid}
use Rattle.charlotte_calls.specs.declared.names.Pid.{Pid}
use Rattle.charlotte_calls.specs.declared.setting.Setting.{Setting}
use Rattle.kernel_entries.specs.declared.entry.Entry.{Entry}
use Rattle.kernel_net.specs.Ports.{place_of, places_to}
use Rattle.kernel_outbox.specs.Letters.{outbox_to}
use Rattle.program_runs.specs.Local.{LocalEvent}
use Rattle.program_round.specs.Doings.{NoneCanGo}
use Rattle.kernel_turns.specs.Nodes.{IsNode, Meaning}
use Rattle.kernel_turns.specs.Turns.{NoLetter}
use Rattle.kernel_turns.specs.declared.node.Node.{Node}

-- A node made turns, whether or not memory was there: it is one of the events that it had, followed by those of the turns. Its place in
-- the net, what it is to do, how many programs it has and what its watch was made with are as they were
pub record Goes {P S W V : Type 0} (m : Meaning P S) (HasSeen : W → List Entry → Type 0) (made_with : W → V) (old new : Node P W) : Type 0 where
  pub node : (s : Setting) (k : ℕ) (first : List (Pid × P)) (made : List LocalEvent) → IsValid s → IsNode m HasSeen s k first made old
      → (more : List LocalEvent) × IsNode m HasSeen s k first (made ++ more) new
  pub place : place_of new.base.port ≡ place_of old.base.port
  pub orders : new.base.orders ≡ old.base.orders
  pub count : length new.programs.all.items ≡ length old.programs.all.items
  pub watch : made_with new.watch ≡ made_with old.watch

-- no letter is left to be put, and each program has ended or waits
pub record IsAtRest {P W : Type 0} (n : Node P W) : Type 0 where
  pub letters : (to : ℕ) → outbox_to n.base.outbox to ≡ []
  pub programs : NoneCanGo (length n.programs.all.items) n.programs.doing

-- a turn can do nothing: no letter is known to be there, no program can go on, and for no letter that is left is a place known
pub record StandsStill {P W : Type 0} (n : Node P W) : Type 0 where
  pub silent : NoLetter n.base
  pub programs : NoneCanGo (length n.programs.all.items) n.programs.doing
  pub full : (to : ℕ) → 0 < length (outbox_to n.base.outbox to) → places_to n.base.port to ≡ 0
