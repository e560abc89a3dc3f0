-- What is true of every state that a service run reaches, whatever kernels do: who holds ends, what messages carry, when the
-- death of a link was noticed, and which reports stand.
use Rattle.std.specs.Prelude.{◌≡◌, ℕ, ◌+◌, ◌≤◌, Bool, true, false, nat_lt, ◌&&◌, if◌then◌else◌}
use Rattle.std.specs.Prelude.{List, [], ◌∷◌, length, Contains, None, Some, IsSome, slice_index}
use Rattle.std.specs.List.{list_any}
use Rattle.charlotte_calls.specs.EndEq.{names_twice, same_link}
use Rattle.charlotte_calls.specs.Names.{opposite}
use Rattle.charlotte_calls.specs.declared.calls.Report.{Report}
use Rattle.charlotte_calls.specs.declared.names.EndId.{EndId}
use Rattle.charlotte_calls.specs.declared.names.Outcome.TheVariants as outcome
use Rattle.charlotte_calls.specs.declared.names.Pid.{Pid}
use Rattle.charlotte_calls.specs.declared.names.Way.{Way}
use Rattle.charlotte_calls.specs.declared.names.Way.TheVariants as way
use Rattle.service_step.specs.Ends.{end_eq, unmade, is_made, is_living, owner, is_idle, is_started_inward}
use Rattle.service_step.specs.Ends.{waiting_message, is_unreported_outward, is_unreported_inward}
use Rattle.service_step.specs.Lawful.{AreHeldOnce, message_of}
use Rattle.service_step.specs.State.{State, no_process}
use Rattle.service_step.specs.declared.state.End.{End}
use Rattle.service_step.specs.declared.state.Message.{Message}
use Rattle.service_step.specs.declared.state.Outward.TheVariants as outward
use Rattle.service_step.specs.declared.state.Phase.TheVariants as phase
use Rattle.service_step.specs.declared.state.Place.TheVariants as place

-- two ways are the same
abbrev pub way_eq : Way → Way → Bool
way_eq way.Inward way.Inward = true
way_eq way.Inward way.Outward = false
way_eq way.Outward way.Inward = false
way_eq way.Outward way.Outward = true

-- that way of an end is over, and its report was not given yet
abbrev pub is_over : Way → End → Bool
is_over way.Outward x = is_unreported_outward x.outward
is_over way.Inward x = is_unreported_inward x.inward

-- whether a report is of that way of an end
abbrev pub is_report_on : EndId → Way → Report → Bool
is_report_on e w r = end_eq e r.on && way_eq w r.way

-- how many of these reports are of that way of an end
abbrev pub reports_on : EndId → Way → List Report → ℕ
reports_on e w [] = 0
reports_on e w (r ∷ rs) = (if is_report_on e w r then 1 else 0) + reports_on e w rs

-- an end is open where it lives and the death of its link was not noticed at it
abbrev pub is_open : End → Bool
is_open x = is_living x.place && (if x.noticed then false else true)

-- which ends there are, and who holds them
pub record AreKept (s : State) : Type 0 where
  -- an end is made where the count of its link is below that of its maker
  pub made : (e : EndId) → is_made (s.ends e).place ≡ nat_lt e.link.count (slice_index s.made e.link.maker)
  pub unmade : (e : EndId) → (s.ends e).place ≡ place.Unmade → s.ends e ≡ unmade
  -- each living end has one owner that has not ended, or is in one message that waits or is matched, and so for all that messages carry
  pub held : AreHeldOnce s
  -- the ends of a message are different, and not of its own link
  pub apart : (f : EndId) (m : Message) → message_of (s.ends f).outward ≡ Some m → names_twice m.carried ≡ false
  pub others : (f : EndId) (m : Message) → message_of (s.ends f).outward ≡ Some m → list_any (same_link f) m.carried ≡ false
  -- the end of a message that waits is owned
  pub waiting : (f : EndId) (m : Message) → (s.ends f).outward ≡ outward.Waiting m → IsSome (owner (s.ends f).place)
  -- an end in a message is idle
  pub resting : (e f : EndId) (n : ℕ) → (s.ends e).place ≡ place.InMessage f n → is_idle (s.ends e) ≡ true

-- when the death of a link was noticed
pub record AreNoticed (t : EndId → End) : Type 0 where
  pub opposite : (e : EndId) → (t e).noticed ≡ true → (t (opposite e)).place ≡ place.Destroyed
  -- then no send waits, and no receive is started
  pub outward : (e : EndId) → (t e).noticed ≡ true → is_living (t e).place ≡ true → waiting_message (t e).outward ≡ None
  pub inward : (e : EndId) → (t e).noticed ≡ true → is_living (t e).place ≡ true → is_started_inward (t e).inward ≡ false

-- which reports stand
pub record AreReported (s : State) : Type 0 where
  -- that way of the end is over, and no other report is of it
  pub over : (p : Pid) (r : Report) → Contains (s.process p.0).reports r → is_over r.way (s.ends r.on) ≡ true
  pub once : (p : Pid) (e : EndId) (w : Way) → reports_on e w (s.process p.0).reports ≤ 1
  pub alone : (p q : Pid) (r t : Report) → Contains (s.process p.0).reports r → Contains (s.process q.0).reports t → t.on ≡ r.on
      → t.way ≡ r.way → q.0 ≡ p.0
  -- it stands for the owner of a living end, and tells of a death only where that was noticed
  pub own : (p : Pid) (r : Report) → Contains (s.process p.0).reports r → is_living (s.ends r.on).place ≡ true
      → (s.ends r.on).place ≡ place.Owned p
  pub done : (p : Pid) (r : Report) → Contains (s.process p.0).reports r → is_open (s.ends r.on) ≡ true → r.outcome ≡ outcome.Done
  -- of each way of a living end that is over a report stands
  pub stands : (p : Pid) (e : EndId) (w : Way) → (s.ends e).place ≡ place.Owned p → is_over w (s.ends e) ≡ true
      → reports_on e w (s.process p.0).reports ≡ 1

-- processes
pub record AreProcesses (s : State) : Type 0 where
  -- in a Cancel of the receive on an end that it owns, which is started
  pub cancelling : (p : Pid) (e : EndId) → (s.process p.0).phase ≡ phase.Cancelling e
      → ((s.ends e).place ≡ place.Owned p) × (is_started_inward (s.ends e).inward ≡ true)
  pub ended : (p : Pid) → (s.process p.0).phase ≡ phase.Ended → (s.process p.0).reports ≡ []
  -- there are no others
  pub others : (p : Pid) → length s.homes ≤ p.0 → s.process p.0 ≡ no_process

pub record IsConsistent (s : State) : Type 0 where
  pub kept : AreKept s
  pub noticed : AreNoticed s.ends
  pub reported : AreReported s
  pub processes : AreProcesses s
