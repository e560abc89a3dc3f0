-- What a process does at one of its ends, as events at the link of that end.
use Rattle.std.specs.Prelude.{◌≡◌, ◌≤◌, ◌⊎◌, ℕ, false, List, [], ◌++◌}
use Rattle.end_protocol.specs.declared.messages.Message.{Message}
use Rattle.end_protocol.specs.Deeds.{Deed}
use Rattle.end_protocol.specs.Wanting.{is_deaf}
use Rattle.process_changes.specs.States.{Gone, Holding, Keeps}
use Rattle.process_changes.specs.AtEnd.{Seen}
use Rattle.request_runs.specs.Sides.{Courses, Destroyed, Free, Held, Lost, Pair, Standing}

-- how an end stands of which its owner has this, and which it carries or has in hand so often. There it is free
abbrev pub StandsWith : Holding → ℕ → Standing → Type 0
StandsWith (Keeps k) out s = s ≡ Held k
StandsWith (Gone own) out s = ((s ≡ Free) ⊎ (s ≡ Lost)) × (1 ≤ out → s ≡ Free)

abbrev pub IsStandingOf : Seen → Standing → Type 0
IsStandingOf a s = StandsWith a.holding a.out s

-- a receive is started
abbrev pub IsReceiving : Holding → Type 0
IsReceiving (Keeps k) = is_deaf k.receiving ≡ false
IsReceiving (Gone own) = ⊥

-- Over a dead link nothing is coming to the end, unless it is to be reported, or nobody hears it
abbrev pub IsHearing : Seen → Pair → Type 0
IsHearing a p = (p.far.standing ≡ Destroyed → p.near.coming ≡ []) ⊎ (IsReceiving a.holding ⊎ (p.near.standing ≡ Lost))

-- Events lead to a link on which the owner has this of the end, to which these messages are coming, with these deeds more. The other end is as it was
pub record Becomes (version : ℕ) (p : Pair) (ds : List Deed) (b : Seen) (ms : List Message) : Type 0 where
  pub to : Pair
  pub course : Courses version p to
  pub standing : IsStandingOf b to.near.standing
  pub hearing : IsHearing b to
  pub coming : to.near.coming ≡ ms
  pub far : to.far ≡ p.far
  pub near_deeds : to.near_deeds ≡ p.near_deeds ++ ds
  pub far_deeds : to.far_deeds ≡ p.far_deeds
