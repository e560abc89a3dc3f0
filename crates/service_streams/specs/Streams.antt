-- Streams: the messages that are sent on an end in a service run, those that are taken at its opposite, and those that the owners of the
-- opposite are told of. A stream goes by the name of an end: it does not matter who owned the end when a message was sent, nor who the
-- opposite when it was taken. An end that moves is idle meanwhile, and keeps its count of sends.
use Rattle.std.specs.Prelude.{◌≡◌, ◌≢◌, ℕ, ◌+◌, ◌≤◌, Bool, true, false, ◌&&◌, ◌⊎◌, if◌then◌else◌, Option, Some, None}
use Rattle.std.specs.Prelude.{List, [], ◌∷◌, ◌++◌, length, map}
use Rattle.std.specs.List.{flat_map, fold, list_any}
use mathlib.Core.List.{IsPrefix}
use Rattle.charlotte_calls.specs.Names.{opposite}
use Rattle.charlotte_calls.specs.declared.calls.Report.{Report}
use Rattle.charlotte_calls.specs.declared.calls.ServiceStep.{ServiceStep}
use Rattle.charlotte_calls.specs.declared.calls.ServiceStep.TheVariants as step
use Rattle.charlotte_calls.specs.declared.names.EndId.{EndId}
use Rattle.charlotte_calls.specs.declared.names.Outcome.{Outcome}
use Rattle.charlotte_calls.specs.declared.names.Outcome.TheVariants as outcome
use Rattle.charlotte_calls.specs.declared.names.Pid.{Pid}
use Rattle.charlotte_calls.specs.declared.names.Way.TheVariants as way
use Rattle.service_lawful.specs.Consistent.{is_report_on}
use Rattle.service_step.specs.Ends.{end_eq, matched_message}
use Rattle.service_step.specs.Lawful.{AreRising, message_of}
use Rattle.service_step.specs.Run.{state_after}
use Rattle.service_step.specs.State.{State}
use Rattle.service_step.specs.declared.state.End.{End}
use Rattle.service_step.specs.declared.state.Message.{Message}
use Rattle.service_step.specs.declared.state.Place.TheVariants as place

-- the steps of a run
abbrev pub steps_in : List (ServiceStep × State) → List ServiceStep
steps_in run = map (λ made. made.0) run

-- a message, with the number of its send
pub record Sent : Type 0 where
  pub number : ℕ
  pub message : Message

-- a message with its number, as a list of one; none where there is none
abbrev pub numbered : ℕ → Option Message → List Sent
numbered n None = []
numbered n (Some m) = record { number = n; message = m } ∷ []

-- the messages without their numbers
abbrev pub messages : List Sent → List Message
messages all = map (λ m. m.message) all

-- the message that a step sends on e, as a list of one; none for every other step
abbrev pub sent_by : EndId → ServiceStep → List Sent
sent_by e (step.Send f n bytes xs) = if end_eq e f then numbered n (Some (record { bytes = bytes; carried = xs })) else []
sent_by e _ = []

-- the messages sent on e, in the order of the steps
abbrev pub sent_on : EndId → List ServiceStep → List Sent
sent_on e steps = flat_map (sent_by e) steps

-- a list without its last element
abbrev pub but_last : {X : Type 0} → List X → List X
but_last [] = []
but_last (x ∷ []) = []
but_last (x ∷ y ∷ others) = x ∷ but_last (y ∷ others)

-- a Cancel of the send on e
abbrev pub cancels_send : EndId → ServiceStep → Bool
cancels_send e (step.Cancel f way.Outward) = end_eq e f
cancels_send e _ = false

-- one step more: a Send adds its message, and a Cancel of the send takes back the last one
abbrev pub kept_by : EndId → List Sent → ServiceStep → List Sent
kept_by e so_far made = if cancels_send e made then but_last so_far else so_far ++ sent_by e made

-- the messages sent on e whose send was not cancelled
abbrev pub kept_on : EndId → List ServiceStep → List Sent
kept_on e steps = fold (kept_by e) [] steps

-- the message that a step takes at e in the state s: the one of its opposite, which is matched. As a list of one; none for every other step
abbrev pub taken_by : EndId → State → ServiceStep → List Sent
taken_by e s (step.Take f n p late) = if end_eq e (opposite f) then numbered n (matched_message (s.ends f).outward) else []
taken_by e s _ = []

-- the messages taken at e in a run from s
abbrev pub taken_at : EndId → State → List (ServiceStep × State) → List Sent
taken_at e s [] = []
taken_at e s (made ∷ others) = taken_by e s made.0 ++ taken_at e made.1 others

abbrev pub is_done : Outcome → Bool
is_done outcome.Done = true
is_done outcome.Destroyed = false

-- the message that a report tells of, where it is the report Done of a receive on e
abbrev pub told_by : EndId → Report → List Message
told_by e r =
    if is_report_on e way.Inward r && is_done r.outcome then record { bytes = r.bytes; carried = r.enclosed } ∷ [] else []

-- the messages of which these reports tell, of receives on e
abbrev pub told_in : EndId → List Report → List Message
told_in e rs = flat_map (told_by e) rs

-- the report that a step gives to its process
abbrev pub given_by : ServiceStep → List Report
given_by (step.Report p r) = r ∷ []
given_by _ = []

-- the messages of which reports were given, of receives on e
abbrev pub reported_in : EndId → List ServiceStep → List Message
reported_in e steps = told_in e (flat_map given_by steps)

-- the message of an end that is outstanding: it was sent, and is neither taken nor back
abbrev pub outstanding : End → List Sent
outstanding x = numbered x.sent (message_of x.outward)

-- a list in the order of another, with some of its elements left out
abbrev pub IsSubsequence : {X : Type 0} → List X → List X → Type 0
IsSubsequence [] ys = Unit {0}
IsSubsequence (x ∷ xs) [] = ⊥
IsSubsequence (x ∷ xs) (y ∷ ys) = ((x ≡ y) × IsSubsequence xs ys) ⊎ IsSubsequence (x ∷ xs) ys

-- a link is FIFO from e to its opposite in a run from s
pub record IsFifo (s : State) (run : List (ServiceStep × State)) (e : EndId) : Type 0 where
  -- of the messages sent each has a number above those before it
  pub numbers : AreRising (map (λ m. m.number) (sent_on e (steps_in run)))
  -- each message that is taken was sent with these bytes and ends; they come in the order of their sends, and each once
  pub taken : IsSubsequence (taken_at (opposite e) s run) (sent_on e (steps_in run))
  -- those whose send was cancelled are not taken, and of the others none is left out
  pub gapless : IsPrefix (taken_at (opposite e) s run) (kept_on e (steps_in run))
  pub uncancelled : list_any (cancels_send e) (steps_in run) ≡ false → kept_on e (steps_in run) ≡ sent_on e (steps_in run)
  -- while neither end is destroyed none is lost: all are taken but the outstanding one
  pub lossless : ((state_after s run).ends e).place ≢ place.Destroyed → ((state_after s run).ends (opposite e)).place ≢ place.Destroyed
      → kept_on e (steps_in run) ≡ taken_at (opposite e) s run ++ outstanding ((state_after s run).ends e)
  -- the owners of the opposite are told of just the messages taken, in order, but perhaps of the last
  pub told : IsPrefix (reported_in (opposite e) (steps_in run)) (messages (taken_at (opposite e) s run))
  pub soon : length (taken_at (opposite e) s run) ≤ length (reported_in (opposite e) (steps_in run)) + 1
  -- and who owns it has the report of that pending
  pub pending : (p : Pid) → ((state_after s run).ends (opposite e)).place ≡ place.Owned p
      → messages (taken_at (opposite e) s run)
      ≡ reported_in (opposite e) (steps_in run) ++ told_in (opposite e) ((state_after s run).process p.0).reports
  -- so they are told of the first of the messages that were sent and not cancelled, as the steps alone show
  pub delivered : IsPrefix (reported_in (opposite e) (steps_in run)) (messages (kept_on e (steps_in run)))
