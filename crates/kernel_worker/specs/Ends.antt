-- How a run of nodes ends.
use Rattle.std.specs.Prelude.{◌≡◌, ℕ, ◌+◌, ◌<◌, List, [], ◌++◌, slice_get, Some}
use Rattle.charlotte_calls.specs.declared.names.Pid.{Pid}
use Rattle.charlotte_calls.specs.declared.setting.Setting.{Setting}
use Rattle.kernel_entries.specs.Order.{IsMerge}
use Rattle.kernel_entries.specs.declared.entry.Entry.{Entry}
use Rattle.kernel_entries.specs.declared.entry.Placed.{Placed}
use Rattle.kernel_net.specs.Ports.{there_of}
use Rattle.kernel_turns.specs.Goes.{IsAtRest}
use Rattle.kernel_turns.specs.Nodes.{Meaning}
use Rattle.kernel_turns.specs.declared.node.Node.{Node}
use Rattle.kernel_turns.specs.Local.{IsOneRun, LocalEvent}
use Rattle.node_runs.specs.Net.{AreNodes, AreUnspoiled, HaveMet, journals_of, left_at}
use Rattle.kernel_turns.specs.Record.{IsLawfulRecord}
use Rattle.kernel_worker.specs.declared.standing.End.{End}
use Rattle.kernel_worker.specs.declared.standing.End.TheVariants as end
use Rattle.kernel_worker.specs.declared.beside.WithEnd.{WithEnd}
use Rattle.kernel_worker.specs.declared.beside.WithEnd.TheVariants as with_end

-- the end of a run that was not stopped
abbrev pub with_end_of : End → WithEnd
with_end_of end.Quiet = with_end.Quiet
with_end_of (end.Spent k) = with_end.Spent k

-- this is so where it was not stopped
abbrev pub Unstopped : WithEnd → Type 0 → Type 0
Unstopped with_end.Stopped X = Unit {0}
Unstopped e X = X

-- ---- quiet

module _ {P W : Type 0} where
  -- no packet and no marker is in the net, where each two have met
  abbrev pub IsNetEmpty : List (Node P W) → Type 0
  IsNetEmpty ns = (j k : ℕ) (a b : Node P W) → slice_get ns j ≡ Some a → slice_get ns k ≡ Some b → there_of a.base.port b.base.port ≡ []

  -- no packet and no marker is in the net or an outbox, no answer stands that its program was not given, and each program has ended or waits
  pub record IsQuiet (ns : List (Node P W)) : Type 0 where
    pub net : IsNetEmpty ns
    pub rest : (k : ℕ) (n : Node P W) → slice_get ns k ≡ Some n → IsAtRest n

  -- its turns are used up
  abbrev pub IsAtLimit : Node P W → Type 0
  IsAtLimit n = n.base.used ≡ n.base.orders.limit

  -- of the nodes that used their turns this is the first
  pub record IsFirstSpent (ns : List (Node P W)) (k : ℕ) : Type 0 where
    pub node : Node P W
    pub at : slice_get ns k ≡ Some node
    pub used : IsAtLimit node
    pub least : (j : ℕ) (n : Node P W) → j < k → slice_get ns j ≡ Some n → IsAtLimit n → ⊥

  -- none did
  abbrev pub NoneSpent : List (Node P W) → Type 0
  NoneSpent ns = (k : ℕ) (n : Node P W) → slice_get ns k ≡ Some n → IsAtLimit n → ⊥

  -- it is not quiet, and the node of this kernel, the least such, used its turns
  pub record IsSpent (ns : List (Node P W)) (k : ℕ) : Type 0 where
    pub not_quiet : IsQuiet ns → ⊥
    pub first : IsFirstSpent ns k

  abbrev pub Ends : List (Node P W) → End → Type 0
  Ends ns end.Quiet = IsQuiet ns
  Ends ns (end.Spent k) = IsSpent ns k

  -- with something beside it, which is stopped as this says
  abbrev pub EndsWith : Type 0 → List (Node P W) → WithEnd → Type 0
  EndsWith Stopped ns with_end.Quiet = IsQuiet ns
  EndsWith Stopped ns (with_end.Spent k) = IsSpent ns k
  EndsWith Stopped ns with_end.Stopped = Stopped

  -- neither is so
  pub record GoesFurther (ns : List (Node P W)) : Type 0 where
    pub not_quiet : IsQuiet ns → ⊥
    pub unspent : NoneSpent ns

-- ---- a run

module _ {P S W : Type 0} (m : Meaning P S) (HasSeen : W → List Entry → Type 0) where
  -- they are nodes of some setting, of none of which memory was wanting
  pub record AreSomeNodes (ns : List (Node P W)) : Type 0 where
    pub setting : Setting
    pub first : ℕ → List (Pid × P)
    pub made : ℕ → List LocalEvent
    pub nodes : AreNodes m HasSeen setting first made ns
    pub unspoiled : AreUnspoiled ns

  -- The nodes of a setting have run. Each made more events and is a node of them. They have met, and their journals in the order of a merge
  -- are the record of one run of the world, which leaves under way what is in the net or an outbox, and it is a lawful run of the service
  pub record RanTogether (s : Setting) (first : ℕ → List (Pid × P)) (made : ℕ → List LocalEvent) (ns : List (Node P W)) : Type 0 where
    pub more : ℕ → List LocalEvent
    pub nodes : AreNodes m HasSeen s first (λ k. made k ++ more k) ns
    pub one : (merged : List Placed) → IsMerge (journals_of ns) merged → IsOneRun s (λ k. made k ++ more k) (left_at ns) merged
    pub lawful : (merged : List Placed) → IsMerge (journals_of ns) merged → IsLawfulRecord s merged

  -- so it is of whichever setting they are nodes
  abbrev pub RunTogether : List (Node P W) → List (Node P W) → Type 0
  RunTogether old new = (s : Setting) (first : ℕ → List (Pid × P)) (made : ℕ → List LocalEvent) → AreNodes m HasSeen s first made old → RanTogether s first made new
