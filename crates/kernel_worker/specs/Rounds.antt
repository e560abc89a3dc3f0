-- What rounds make of nodes.
use Rattle.std.specs.Prelude.{◌≡◌, ◌⊎◌, ℕ, ◌+◌, ◌≤◌, false, List, [], ◌∷◌, length, slice_get, Some}
use Rattle.kernel_entries.specs.declared.entry.Entry.{Entry}
use Rattle.kernel_net.specs.Letters.{greatest_stamp}
use Rattle.kernel_net.specs.Ports.{AreOfOneNet, got_from, known_from, place_of, places_to, put_to}
use Rattle.kernel_turns.specs.Goes.{Goes, StandsStill}
use Rattle.kernel_turns.specs.Left.{weight}
use Rattle.kernel_turns.specs.Nodes.{Meaning}
use Rattle.kernel_turns.specs.declared.node.Node.{Node}

-- each of one list and the one at its place in another are so, and there are as many
abbrev pub EachOf : {X : Type 0} → (X → X → Type 0) → List X → List X → Type 0
EachOf R [] [] = Unit {0}
EachOf R [] (y ∷ ys) = ⊥
EachOf R (x ∷ xs) [] = ⊥
EachOf R (x ∷ xs) (y ∷ ys) = R x y × EachOf R xs ys

-- ---- turns

-- a node made turns, one or many or none, and each of their events used one
pub record GoesOn {P S W V : Type 0} (m : Meaning P S) (HasSeen : W → List Entry → Type 0) (made_with : W → V) (old new : Node P W) : Type 0 where
  pub goes : Goes m HasSeen made_with old new
  pub few : length new.base.journal.entries + old.base.used ≤ length old.base.journal.entries + new.base.used

module _ {P W : Type 0} where
  -- no turn is made of it: the stamps of its kernel or its turns are used up
  abbrev pub IsStopped : Node P W → Type 0
  IsStopped n = (n.base.kernel.stamp ≡ greatest_stamp) ⊎ (n.base.used ≡ n.base.orders.limit)

  -- a node made turns, or was left out as idle: less of its work is left, or a first turn could do nothing
  pub record Works (old new : Node P W) : Type 0 where
    pub less : weight new.base ≤ weight old.base
    pub still : weight new.base ≡ weight old.base → StandsStill old ⊎ IsStopped old
    pub unspoiled : new.spoiled ≡ false

  -- a node worked in a round, or memory was wanting
  abbrev pub WorksUnspoiled : Node P W → Node P W → Type 0
  WorksUnspoiled old new = new.spoiled ≡ false → Works old new

  -- what nodes have left to do
  abbrev pub all_left : List (Node P W) → ℕ
  all_left [] = 0
  all_left (n ∷ ns) = weight n.base + all_left ns

  -- ---- meetings

  -- a port learned of its rings to and from some kernels, and else nothing of its node changed
  pub record Learns (of_these : ℕ → Type 0) (old new : Node P W) : Type 0 where
    pub rest : new ≡ record old { base = record old.base { port = new.base.port } }
    pub place : place_of new.base.port ≡ place_of old.base.port
    pub put : put_to new.base.port ≡ put_to old.base.port
    pub got : got_from new.base.port ≡ got_from old.base.port
    pub others : (q : ℕ) → (of_these q → ⊥) → (places_to new.base.port q ≡ places_to old.base.port q) × (known_from new.base.port q ≡ known_from old.base.port q)

  -- of one of these nodes
  abbrev pub IsNumberOf : List (Node P W) → ℕ → Type 0
  IsNumberOf [] q = ⊥
  IsNumberOf (n ∷ ns) q = (q ≡ n.base.port.kernel) ⊎ IsNumberOf ns q

  -- a node and others may meet
  abbrev pub MayMeetEach : Node P W → List (Node P W) → Type 0
  MayMeetEach n [] = Unit {0}
  MayMeetEach n (o ∷ os) = AreOfOneNet (place_of n.base.port) (place_of o.base.port) × MayMeetEach n os

  -- of nodes of one net each two may meet, and no two have the number of one kernel
  abbrev pub MayMeet : List (Node P W) → Type 0
  MayMeet [] = Unit {0}
  MayMeet (n ∷ ns) = MayMeetEach n ns × (IsNumberOf ns n.base.port.kernel → ⊥) × MayMeet ns
