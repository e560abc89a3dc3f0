-- Which ends are to be looked at: on all others nothing is due. So no call looks at all ends.
use Rattle.std.specs.Prelude.{◌≡◌, ℕ, suc, Bool, true, false, List, [], Option, None, Some, slice_get}
use Rattle.std.specs.BTreeSet.{BTreeSet, contains}
use Rattle.std.specs.Ordering.{nat_cmp}
use Rattle.end_protocol.specs.declared.going.Due.{Due}
use Rattle.end_protocol.specs.declared.going.Due.TheVariants as due
use Rattle.end_protocol.specs.Going.{due_call}
use Rattle.process_run.specs.States.{Holding, Keeps, Gone, Place}
use Rattle.process_run.specs.Runs.{settled_in}
use Rattle.process_ends.specs.declared.board.Board.{Board}

-- this is true of each end, by its number
abbrev pub AllAt : (ℕ → Holding → Type 0) → List Place → Type 0
AllAt P ps = (i : ℕ) (p : Place) → slice_get ps i ≡ Some p → P (suc i) p.holding

abbrev pub is_among : ℕ → BTreeSet ℕ → Bool
is_among n s = contains nat_cmp s n

-- this is true of those that are not in the set
abbrev pub OnOthers : BTreeSet ℕ → (Holding → Type 0) → ℕ → Holding → Type 0
OnOthers s P n h = is_among n s ≡ false → P h

-- no entry is bound to the end
abbrev pub IsUnbound : Holding → Type 0
IsUnbound (Keeps k) = k.bindings ≡ []
IsUnbound (Gone own) = Unit {0}

-- no allow is due on the end
abbrev pub IsCalm : Bool → Holding → Type 0
IsCalm room h = settled_in room h ≡ h

abbrev pub due_by : Bool → Holding → Due
due_by room (Keeps k) = due_call room k
due_by room (Gone own) = due.Nothing

-- no call is due on the end
abbrev pub IsIdle : Bool → Holding → Type 0
IsIdle room h = due_by room h ≡ due.Nothing

-- the kind of the call that is due on an end
abbrev pub due_in : Bool → Option Place → Due
due_in room None = due.Nothing
due_in room (Some p) = due_by room p.holding

abbrev pub is_due : Due → Bool
is_due due.Nothing = false
is_due _ = true

-- what is true of all that is not in the sets
pub record IsNotedFor (ps : List Place) (bound unsettled agenda : BTreeSet ℕ) (room : Bool) : Type 0 where
  pub unbound : AllAt (OnOthers bound IsUnbound) ps
  pub calm : AllAt (OnOthers unsettled (IsCalm room)) ps
  pub idle : AllAt (OnOthers agenda (IsIdle room)) ps

abbrev pub IsNoted : Board → Type 0
IsNoted b = IsNotedFor b.roster b.bound b.unsettled b.agenda b.room

-- the number is in each set to which it belongs: of ends to which an entry is bound, on which a request was forbidden, on which a call is due
pub record IsMarked (n : ℕ) (is_bound has_forbidden has_call : Bool) (b : Board) : Type 0 where
  pub bound : is_bound ≡ true → is_among n b.bound ≡ true
  pub unsettled : has_forbidden ≡ true → is_among n b.unsettled ≡ true
  pub agenda : has_call ≡ true → is_among n b.agenda ≡ true

-- the ends and the room are as before
pub record StaysSo (b c : Board) : Type 0 where
  pub roster : c.roster ≡ b.roster
  pub room : c.room ≡ b.room
