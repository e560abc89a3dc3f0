-- Which nodes can be left out of a round.
use Rattle.std.specs.Prelude.{◌≡◌, ℕ, ◌+◌, Bool, true, false, List, [], ◌∷◌, IsSome, slice_index_or}
use Rattle.kernel_outbox.specs.Letters.{outbox_to}
use Rattle.kernel_turns.specs.Goes.{IsAtRest, StandsStill}
use Rattle.kernel_turns.specs.Turns.{IsTime}
use Rattle.kernel_turns.specs.declared.node.Node.{Node}
use Rattle.kernel_worker.specs.declared.awake.Awake.{Awake}

-- a turn is asked of the node with this number
abbrev pub is_awake : Awake → ℕ → Bool
is_awake a k = slice_index_or a.by_number k true

module _ {P W : Type 0} where
  -- It has nothing to do until a letter is put to it: none is known to be there or left to be put, no program can go on, and no snapshot is to begin
  pub record IsIdle (n : Node P W) : Type 0 where
    pub still : StandsStill n
    pub rest : IsAtRest n
    pub begun : IsTime n.base → IsSome n.base.course.begun
    pub unspoiled : n.spoiled ≡ false

  -- of nodes of which the first has this number, each of which no turn is asked is idle
  abbrev pub AreIdle : Awake → ℕ → List (Node P W) → Type 0
  AreIdle a k [] = Unit {0}
  AreIdle a k (n ∷ ns) = (is_awake a k ≡ false → IsIdle n) × AreIdle a (k + 1) ns

  -- a node is as it was, but for how its outbox lies in memory
  pub record IsUnchanged (old new : Node P W) : Type 0 where
    pub kernel : new.base.kernel ≡ old.base.kernel
    pub journal : new.base.journal.entries ≡ old.base.journal.entries
    pub port : new.base.port ≡ old.base.port
    pub letters : (to : ℕ) → outbox_to new.base.outbox to ≡ outbox_to old.base.outbox to
    pub course : new.base.course ≡ old.base.course
    pub used : new.base.used ≡ old.base.used
    pub programs : new.programs ≡ old.programs
    pub watch : new.watch ≡ old.watch
