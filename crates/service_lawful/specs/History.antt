-- What the steps so far leave true of the ends: with it the run is lawful, and stays so.
use Rattle.std.specs.Prelude.{◌≡◌, ℕ, ◌+◌, ◌<◌, ◌≤◌, Bool, true, false, ◌||◌, is_some, if◌then◌else◌, List, All}
use Rattle.std.specs.List.{flat_map}
use Rattle.charlotte_calls.specs.Causes.{is_late}
use Rattle.charlotte_calls.specs.declared.calls.ServiceStep.{ServiceStep}
use Rattle.charlotte_calls.specs.declared.names.EndId.{EndId}
use Rattle.charlotte_calls.specs.declared.names.Pid.{Pid}
use Rattle.service_step.specs.Ends.{waiting_message, matched_message, outward_activity, inward_activity, is_taken}
use Rattle.service_step.specs.Lawful.{IsLawful, send_number, match_number, take_number}
use Rattle.service_step.specs.Lawful.{complete_number, WasTakenOnce, WasMatched, HasMatchedReport}
use Rattle.service_step.specs.Run.{state_after}
use Rattle.service_step.specs.State.{State}
use Rattle.service_step.specs.declared.state.End.{End}
use Rattle.service_step.specs.declared.state.Place.TheVariants as place

-- the number of the last send is not used yet where this is still to come, else it may be
abbrev pub unused_from : Bool → ℕ → ℕ
unused_from is_to_come n = if is_to_come then n else n + 1

-- no step on f has a number above its count of sends; while a message waits, its number is in no match, take or complete; while it
-- is matched, in no take or complete; once it is taken, in no complete
pub record AreNumbered (f : EndId) (run : List (ServiceStep × State)) (x : End) : Type 0 where
  pub sends : All (λ n. n ≤ x.sent) (flat_map (send_number f) run)
  pub matches : All (λ n. n < unused_from (is_some (waiting_message x.outward)) x.sent) (flat_map (match_number f) run)
  pub takes : All (λ n. n < unused_from (is_some (waiting_message x.outward) || is_some (matched_message x.outward)) x.sent)
      (flat_map (take_number f) run)
  pub completes : All (λ n. n
      < unused_from (is_some (waiting_message x.outward) || is_some (matched_message x.outward) || is_taken x.outward) x.sent)
      (flat_map (complete_number f) run)

-- steps from a state s
pub record HasHistory (s : State) (run : List (ServiceStep × State)) : Type 0 where
  pub lawful : IsLawful s run
  pub numbered : (f : EndId) → AreNumbered f run ((state_after s run).ends f)
  -- a message that is Taken was taken once
  pub taken : (f : EndId) → is_taken ((state_after s run).ends f).outward ≡ true
      → WasTakenOnce s run run f ((state_after s run).ends f).sent
  -- a send that is too late to be taken back was matched
  pub matched : (f : EndId) (p : Pid) → ((state_after s run).ends f).place ≡ place.Owned p → ((state_after s run).ends f).noticed ≡ false
      → is_late (outward_activity ((state_after s run).ends f).outward) ≡ true → WasMatched run f ((state_after s run).ends f).sent
  -- a receive that is too late to be withdrawn has the report of a message that was matched
  pub told : (e : EndId) (p : Pid) → ((state_after s run).ends e).place ≡ place.Owned p → ((state_after s run).ends e).noticed ≡ false
      → is_late (inward_activity ((state_after s run).ends e).inward) ≡ true → HasMatchedReport s run p e
