-- Lawful service runs, in four clauses: every living end is held once; a send completes once its message was taken once;
-- messages go in the order of their numbers; a Cancel comes too late only after a match.
use Rattle.std.specs.Prelude.{◌≡◌, ◌≢◌, ℕ, ◌<◌, Bool, true, nat_eq, IsTrue, if◌then◌else◌}
use Rattle.std.specs.Prelude.{Option, Some, None, List, [], ◌∷◌, ◌++◌, length, map}
use Rattle.std.specs.List.{Contains, filter, flat_map}
use Rattle.charlotte_calls.specs.Names.{opposite}
use Rattle.charlotte_calls.specs.declared.calls.Call.TheVariants as call
use Rattle.charlotte_calls.specs.declared.calls.Cause.TheVariants as cause
use Rattle.charlotte_calls.specs.declared.calls.ServiceStep.{ServiceStep}
use Rattle.charlotte_calls.specs.declared.calls.ServiceStep.TheVariants as step
use Rattle.charlotte_calls.specs.declared.names.EndId.{EndId}
use Rattle.charlotte_calls.specs.declared.names.Pid.{Pid}
use Rattle.charlotte_calls.specs.declared.names.Way.{Way}
use Rattle.charlotte_calls.specs.declared.names.Way.TheVariants as way
use Rattle.service_step.specs.Ends.{end_eq}
use Rattle.service_step.specs.Run.{state_after}
use Rattle.service_step.specs.State.{State, receive_report}
use Rattle.service_step.specs.Steps.{is_matched}
use Rattle.service_step.specs.declared.state.Message.{Message}
use Rattle.service_step.specs.declared.state.Outward.{Outward}
use Rattle.service_step.specs.declared.state.Outward.TheVariants as outward
use Rattle.service_step.specs.declared.state.Phase.TheVariants.{Ended}
use Rattle.service_step.specs.declared.state.Place.{Place}
use Rattle.service_step.specs.declared.state.Place.TheVariants as place

-- the message of a send that is Waiting or Matched
abbrev pub message_of : Outward → Option Message
message_of outward.Idle = None
message_of (outward.Waiting m) = Some m
message_of (outward.Matched m) = Some m
message_of outward.Taken = None
message_of outward.Unreported = None

-- the message n of f is Waiting or Matched and carries e
pub record IsCarried (s : State) (f : EndId) (n : ℕ) (e : EndId) : Type 0 where
  pub message : Message
  pub there : message_of (s.ends f).outward ≡ Some message
  pub number : (s.ends f).sent ≡ n
  pub carries : Contains message.carried e

-- an end at this place, where it is not destroyed, is owned by a process that has not ended, or carried by that message
abbrev pub IsHeldAt : State → EndId → Place → Type 0
IsHeldAt s e (place.Owned p) = (s.process p.0).phase ≢ Ended
IsHeldAt s e (place.InMessage f n) = IsCarried s f n e
IsHeldAt s e place.Destroyed = Unit {0}
IsHeldAt s e place.Unmade = Unit {0}

-- the first clause, of one state: each living end has one owner or is in one message, and each end that a message carries is
-- in that message and in no other
pub record AreHeldOnce (s : State) : Type 0 where
  pub held : (e : EndId) → IsHeldAt s e (s.ends e).place
  pub carried : (f e : EndId) (n : ℕ) → IsCarried s f n e → (s.ends e).place ≡ place.InMessage f n

-- the number n of a step on e, where e is f
abbrev pub number_on : EndId → EndId → ℕ → List ℕ
number_on f e n = if end_eq f e then n ∷ [] else []

-- the number of the message of f that a step sends, matches, takes or completes, as a list of one; none for every other step

abbrev pub send_number : EndId → ServiceStep × State → List ℕ
send_number f (step.Send e n bytes xs, t) = number_on f e n
send_number f _ = []

abbrev pub match_number : EndId → ServiceStep × State → List ℕ
match_number f (step.Match e n, t) = number_on f e n
match_number f _ = []

abbrev pub take_number : EndId → ServiceStep × State → List ℕ
take_number f (step.Take e n p late, t) = number_on f e n
take_number f _ = []

abbrev pub complete_number : EndId → ServiceStep × State → List ℕ
complete_number f (step.Complete e n, t) = number_on f e n
complete_number f _ = []

-- each number is below the next
abbrev pub AreRising : List ℕ → Type 0
AreRising [] = Unit {0}
AreRising (n ∷ []) = Unit {0}
AreRising (n ∷ m ∷ ns) = (n < m) × AreRising (m ∷ ns)

-- the third clause, of one end: the numbers of its sends, matches, takes and completes rise strictly
pub record AreInOrder (f : EndId) (run : List (ServiceStep × State)) : Type 0 where
  pub sends : AreRising (flat_map (send_number f) run)
  pub matches : AreRising (flat_map (match_number f) run)
  pub takes : AreRising (flat_map (take_number f) run)
  pub completes : AreRising (flat_map (complete_number f) run)

-- the second clause, of a complete of the message n of f after the steps `before` of a run from s: the run has one take of
-- that message, which stands before it, and then the opposite of f was owned by the process that took it
pub record WasTakenOnce (s : State) (run before : List (ServiceStep × State)) (f : EndId) (n : ℕ) : Type 0 where
  pub once : length (filter (nat_eq n) (flat_map (take_number f) run)) ≡ 1
  pub earlier : List (ServiceStep × State)
  pub later : List (ServiceStep × State)
  pub p : Pid
  pub late : Bool
  pub left : State
  pub stands : before ≡ earlier ++ (step.Take f n p late, left) ∷ later
  pub owned : ((state_after s earlier).ends (opposite f)).place ≡ place.Owned p

-- a step of these matched the message n of f
abbrev pub WasMatched : List (ServiceStep × State) → EndId → ℕ → Type 0
WasMatched before f n = Contains (map (λ made. made.0) before) (step.Match f n)

-- the report Done of a receive on e is among the reports of p: it is that of the last message that was taken from the
-- opposite of e, whose number is n, and a step before matched this message
pub record HasMatchedReport (s : State) (before : List (ServiceStep × State)) (p : Pid) (e : EndId) : Type 0 where
  pub message : Message
  pub n : ℕ
  pub late : Bool
  pub left : State
  pub earlier : List (ServiceStep × State)
  pub later : List (ServiceStep × State)
  pub stands : Contains ((state_after s before).process p.0).reports (receive_report e message.bytes message.carried)
  pub taken : before ≡ earlier ++ (step.Take (opposite e) n p late, left) ∷ later
  pub last : flat_map (take_number (opposite e)) later ≡ []
  pub its : ((state_after s earlier).ends (opposite e)).outward ≡ outward.Matched message
  pub matched : WasMatched before (opposite e) n

-- a Cancel of this way is answered Late only so
abbrev pub IsRightlyLate : State → List (ServiceStep × State) → Pid → EndId → Way → Type 0
IsRightlyLate s before p e way.Outward = WasMatched before e ((state_after s before).ends e).sent
IsRightlyLate s before p e way.Inward = HasMatchedReport s before p e

-- what the second and the fourth clause ask of one step of a run from s, which the steps `before` go before
abbrev pub IsRightStep : State → List (ServiceStep × State) → List (ServiceStep × State) → ServiceStep → Type 0
IsRightStep s run before (step.Complete f n) = WasTakenOnce s run before f n
IsRightStep s run before (step.Refuse p (call.Cancel e w) cause.Late) = IsRightlyLate s before p e w
IsRightStep s run before (step.Take f n p true) = IsTrue (is_matched (state_after s before).ends f n)
IsRightStep s run before _ = Unit {0}

-- a run from s is lawful: in each of its states the ends are held once, each of its steps is right, and the numbers on each end
-- rise. A service run is a run from the start of its setting
pub record IsLawful (s : State) (run : List (ServiceStep × State)) : Type 0 where
  pub held : (before after : List (ServiceStep × State)) → run ≡ before ++ after → AreHeldOnce (state_after s before)
  pub steps : (before after : List (ServiceStep × State)) (made : ServiceStep × State) → run ≡ before ++ made ∷ after
      → IsRightStep s run before made.0
  pub order : (f : EndId) → AreInOrder f run
