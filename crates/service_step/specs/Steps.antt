-- The service step: of each of the sixteen steps its number, its condition and its effect. No other step is allowed, and
-- what an effect does not name stays as it was. The process that makes one of the steps 1 to 7 or 9 runs, and in 3 to 6 it is
-- the owner of the end; in 8 it waits. What the steps do with the ends is in `Ends`, what they do with processes in `State`.
use Rattle.std.specs.Prelude.{◌≡◌, ℕ, ◌+◌, Bool, false, nat_eq, nat_lt, nat_le, ◌&&◌, ◌||◌, not, is_none, is_some}
use Rattle.std.specs.Prelude.{IsTrue, if◌then◌else◌, Option, Some, None, List, [], ◌∷◌, ◌++◌, length, slice_get}
use Rattle.std.specs.List.{Contains}
use Rattle.charlotte_calls.specs.Causes.{first_of, link_limit, send_causes, receive_causes}
use Rattle.charlotte_calls.specs.Names.{opposite}
use Rattle.charlotte_calls.specs.declared.calls.Report.{Report}
use Rattle.charlotte_calls.specs.declared.calls.ServiceStep.{ServiceStep}
use Rattle.charlotte_calls.specs.declared.calls.ServiceStep.TheVariants as step
use Rattle.charlotte_calls.specs.declared.names.EndId.{EndId}
use Rattle.charlotte_calls.specs.declared.names.LinkId.{LinkId}
use Rattle.charlotte_calls.specs.declared.names.Outcome.TheVariants as outcome
use Rattle.charlotte_calls.specs.declared.names.Pid.{Pid}
use Rattle.charlotte_calls.specs.declared.names.Side.TheVariants.{A}
use Rattle.charlotte_calls.specs.declared.names.Way.{Way}
use Rattle.charlotte_calls.specs.declared.names.Way.TheVariants as way
use Rattle.service_step.specs.Causes.{sees, HasActivity, IsRefusedFor}
use Rattle.service_step.specs.Ends.{end_eq, is_made, is_destroyed, is_living, owner, is_owned_by, waiting_message}
use Rattle.service_step.specs.Ends.{matched_message, is_taken, is_posted, is_withdrawn, is_matched_with}
use Rattle.service_step.specs.Ends.{is_matched_inward, is_started_inward, makes, destroys, destroys_each, starts_send}
use Rattle.service_step.specs.Ends.{turns_inward, turns_outward, idles, withdraws_send, matches, takes, notices, returns}
use Rattle.service_step.specs.State.{State, Process, is_running, is_waiting, is_cancelling, owner_cancels, turns, gains, given}
use Rattle.service_step.specs.State.{ends_process, wakes, tells, send_report, receive_report, dead_receive_report, next_link, counts}
use Rattle.service_step.specs.declared.state.End.{End}
use Rattle.service_step.specs.declared.state.Inward.TheVariants as inward
use Rattle.service_step.specs.declared.state.Message.{Message}
use Rattle.service_step.specs.declared.state.Outward.{Outward}
use Rattle.service_step.specs.declared.state.Outward.TheVariants as outward
use Rattle.service_step.specs.declared.state.Phase.TheVariants as phase

-- the steps by number. The numbers before definitions are these
abbrev pub step_number : ServiceStep → ℕ
step_number (step.Make p a b) = 1
step_number (step.Refuse p call cause) = 2
step_number (step.Destroy e) = 3
step_number (step.Send e n bytes xs) = 4
step_number (step.Receive e) = 5
step_number (step.Cancel e w) = 6
step_number (step.Wait p) = 7
step_number (step.Report p r) = 8
step_number (step.Exit p) = 9
step_number (step.Match e n) = 10
step_number (step.Take e n p late) = 11
step_number (step.Complete e n) = 12
step_number (step.Withdraw e) = 13
step_number (step.Free e) = 14
step_number (step.Notice e dead) = 15
step_number (step.Back e n dead) = 16

-- p runs
abbrev pub runs : State → Pid → Bool
runs s p = is_running (s.process p.0).phase

-- a process owns the end and runs
abbrev pub is_running_owner : State → Option Pid → Bool
is_running_owner s None = false
is_running_owner s (Some p) = runs s p

-- a is the first end of this link, b the second, and neither was made
abbrev pub is_new_pair : (EndId → End) → Option LinkId → EndId → EndId → Bool
is_new_pair t None a b = false
is_new_pair t (Some link) a b =
    nat_lt link.count link_limit
    && end_eq a (record { link = link; side = A })
    && end_eq b (opposite a)
    && not (is_made (t a).place)
    && not (is_made (t b).place)

-- 1: p's home makes its next link
abbrev pub may_make : State → Pid → EndId → EndId → Bool
may_make s p a b = runs s p && is_new_pair s.ends (next_link s p) a b

-- 3: the owner of e runs
abbrev pub may_destroy : State → EndId → Bool
may_destroy s e = is_running_owner s (owner (s.ends e).place)

-- a message carries at most one end in version 1, and at most eight in version 2
abbrev pub fits_version : ℕ → List EndId → Bool
fits_version version xs = nat_le (length xs) (if nat_eq version 1 then 1 else 8)

-- 4: the owner of e runs, no cause of Send holds, n is the next number
abbrev pub may_send_as : State → Option Pid → EndId → ℕ → List EndId → Bool
may_send_as s None e n xs = false
may_send_as s (Some p) e n xs =
    runs s p
    && is_none (first_of (send_causes (sees p s.ends) e xs))
    && nat_eq n ((s.ends e).sent + 1)
    && fits_version s.version xs

abbrev pub may_send : State → EndId → ℕ → List EndId → Bool
may_send s e n xs = may_send_as s (owner (s.ends e).place) e n xs

-- 5: the owner of e runs, and no cause of Receive holds
abbrev pub may_receive_as : State → Option Pid → EndId → Bool
may_receive_as s None e = false
may_receive_as s (Some p) e = runs s p && is_none (first_of (receive_causes (sees p s.ends e)))

abbrev pub may_receive : State → EndId → Bool
may_receive s e = may_receive_as s (owner (s.ends e).place) e

-- the activity of a way can be taken back
abbrev pub is_cancellable : Way → End → Bool
is_cancellable way.Outward x = is_some (waiting_message x.outward)
is_cancellable way.Inward x = is_posted x.inward || is_matched_inward x.inward

-- 6: the owner of e runs, the activity can be taken back, and the death was not noticed
abbrev pub may_cancel : State → EndId → Way → Bool
may_cancel s e w =
    is_running_owner s (owner (s.ends e).place) && is_cancellable w (s.ends e) && not (s.ends e).noticed

-- 10: the send n of e waits, and the opposite receives; it may be destroyed
abbrev pub may_match : (EndId → End) → EndId → ℕ → Bool
may_match t e n =
    is_some (waiting_message (t e).outward)
    && nat_eq (t e).sent n
    && not (t e).noticed
    && is_posted (t (opposite e)).inward

-- two tests have the same outcome
abbrev pub agree : Bool → Bool → Bool
agree a b = if a then b else not b

-- the message n of e is Matched; its number is the count of sends
abbrev pub is_matched : (EndId → End) → EndId → ℕ → Bool
is_matched t e n = is_some (matched_message (t e).outward) && nat_eq (t e).sent n

-- 11: the message n of e is Matched with the receive of its opposite, which p owns; late tells whether p is in a Cancel of it
abbrev pub may_take : State → EndId → ℕ → Pid → Bool → Bool
may_take s e n p late =
    let o = s.ends (opposite e) in
    is_matched s.ends e n
    && is_owned_by p o.place
    && not o.noticed
    && is_matched_with n o.inward
    && agree late (is_cancelling (opposite e) (s.process p.0).phase)

-- 12: the message n of e was taken, and e is owned
abbrev pub may_complete : (EndId → End) → EndId → ℕ → Bool
may_complete t e n = is_taken (t e).outward && nat_eq (t e).sent n && is_some (owner (t e).place)

-- 13: the receive of e is posted, and its owner is in a Cancel of it
abbrev pub may_withdraw : State → EndId → Bool
may_withdraw s e = is_posted (s.ends e).inward && owner_cancels (owner (s.ends e).place) e s.process

-- 14: the receive of e is withdrawn, and its owner is in a Cancel of it
abbrev pub may_free : State → EndId → Bool
may_free s e = is_withdrawn (s.ends e).inward && owner_cancels (owner (s.ends e).place) e s.process

-- 15: the opposite of e is destroyed, and e lives without the mark; dead tells whether its owner is in a Cancel of its receive
abbrev pub may_notice : State → EndId → Bool → Bool
may_notice s e dead =
    is_destroyed (s.ends (opposite e)).place
    && is_living (s.ends e).place
    && not (s.ends e).noticed
    && agree dead (owner_cancels (owner (s.ends e).place) e s.process)

-- 16: the message n of e is Matched, and its opposite is destroyed or has the mark; dead tells, where e has no mark, whether
-- its owner is in a Cancel of its receive
abbrev pub may_return : State → EndId → ℕ → Bool → Bool
may_return s e n dead =
    let x = s.ends e in
    let o = s.ends (opposite e) in
    is_matched s.ends e n
    && (is_destroyed o.place || o.noticed)
    && (is_destroyed x.place || is_some (owner x.place))
    && agree dead (not x.noticed && owner_cancels (owner x.place) e s.process)

-- 8: r is the oldest report of p, which waits
abbrev pub IsOldest : State → Pid → Report → Type 0
IsOldest s p r = IsTrue (is_waiting (s.process p.0).phase) × (slice_get (s.process p.0).reports 0 ≡ Some r)

-- the condition of each step. 2: p runs, and the first cause of the call that holds is this one. 7: p runs, and a report of it
-- stands or an activity is started on an end that it owns. 9: p runs
abbrev pub IsAllowed : State → ServiceStep → Type 0
IsAllowed s (step.Make p a b) = IsTrue (may_make s p a b)
IsAllowed s (step.Refuse p call cause) = IsTrue (runs s p) × IsRefusedFor s p call cause
IsAllowed s (step.Destroy e) = IsTrue (may_destroy s e)
IsAllowed s (step.Send e n bytes xs) = IsTrue (may_send s e n xs)
IsAllowed s (step.Receive e) = IsTrue (may_receive s e)
IsAllowed s (step.Cancel e w) = IsTrue (may_cancel s e w)
IsAllowed s (step.Wait p) = IsTrue (runs s p) × HasActivity s p
IsAllowed s (step.Report p r) = IsOldest s p r
IsAllowed s (step.Exit p) = IsTrue (runs s p)
IsAllowed s (step.Match e n) = IsTrue (may_match s.ends e n)
IsAllowed s (step.Take e n p late) = IsTrue (may_take s e n p late)
IsAllowed s (step.Complete e n) = IsTrue (may_complete s.ends e n)
IsAllowed s (step.Withdraw e) = IsTrue (may_withdraw s e)
IsAllowed s (step.Free e) = IsTrue (may_free s e)
IsAllowed s (step.Notice e dead) = IsTrue (may_notice s e dead)
IsAllowed s (step.Back e n dead) = IsTrue (may_return s e n dead)

-- 1: a kernel has made one link more, and both its ends are p's
abbrev pub after_make : Pid → EndId → EndId → State → State
after_make p a b s = record s { made = counts a.link.maker s.made; ends = makes p a b s.ends }

-- 6: the send never happened; or p waits for the answer to its Cancel
abbrev pub after_cancel : Option Pid → EndId → Way → State → State
after_cancel None e w s = s
after_cancel (Some p) e way.Outward s = record s { ends = withdraws_send p e s.ends }
after_cancel (Some p) e way.Inward s = record s { process = turns p (phase.Cancelling e) s.process }

-- 8: p is given the report, and that way of its end is idle
abbrev pub after_report : Pid → Report → State → State
after_report p r s = record s { ends = idles r.way r.on s.ends; process = given p s.process }

-- the report of a receive that takes this message
abbrev pub done_reports : EndId → Option Message → List Report
done_reports e None = []
done_reports e (Some m) = receive_report e m.bytes m.carried ∷ []

-- 11: p gains the report Done with the ends, and runs again where it was in a Cancel of this receive
abbrev pub after_take : EndId → Pid → State → State
after_take e p s =
    record s {
      ends = takes e p s.ends;
      process = tells (Some p) (opposite e) (done_reports (opposite e) (matched_message (s.ends e).outward)) s.process;
    }

-- the owner, where there is one, gains these reports
abbrev pub gains_owner : Option Pid → List Report → (ℕ → Process) → (ℕ → Process)
gains_owner None rs process = process
gains_owner (Some p) rs process = gains p rs process

-- 12: the send is over, and the owner gains its report Done
abbrev pub after_complete : EndId → State → State
after_complete e s =
    record s {
      ends = turns_outward outward.Unreported e s.ends;
      process = gains_owner (owner (s.ends e).place) (send_report e outcome.Done [] ∷ []) s.process;
    }

-- the owner, where there is one, runs again where it is in a Cancel of the receive on this end
abbrev pub wakes_owner : Option Pid → EndId → (ℕ → Process) → (ℕ → Process)
wakes_owner None e process = process
wakes_owner (Some p) e process = wakes p e process

-- 14: the receive never happened, and the owner runs again
abbrev pub after_free : EndId → State → State
after_free e s =
    record s { ends = turns_inward inward.Idle e s.ends; process = wakes_owner (owner (s.ends e).place) e s.process }

-- the report of a send that comes back with this message
abbrev pub returned_reports : EndId → Option Message → List Report
returned_reports e None = []
returned_reports e (Some m) = send_report e outcome.Destroyed m.carried ∷ []

-- the report of a started receive whose link died
abbrev pub dead_reports : EndId → End → List Report
dead_reports e x = if is_started_inward x.inward then dead_receive_report e ∷ [] else []

-- 15: the reports come in this order, first of the send and then of the receive
abbrev pub after_notice : EndId → State → State
after_notice e s =
    let x = s.ends e in
    record s {
      ends = notices e s.ends;
      process = tells (owner x.place) e (returned_reports e (waiting_message x.outward) ++ dead_reports e x) s.process;
    }

-- 16, to the owner: the report of the send, and then as by notice if e has no mark
abbrev pub tells_returned : Option Pid → EndId → End → (ℕ → Process) → (ℕ → Process)
tells_returned to e x process =
    let sent = returned_reports e (matched_message x.outward) in
    if x.noticed then gains_owner to sent process else tells to e (sent ++ dead_reports e x) process

-- 16
abbrev pub after_return : EndId → State → State
after_return e s =
    record s { ends = returns e s.ends; process = tells_returned (owner (s.ends e).place) e (s.ends e) s.process }

-- 9: each end of p is destroyed, its reports go, and it ends. All the ends that p owns are among mine; others there stay
pub record Exits (p : Pid) (s t : State) : Type 0 where
  pub mine : List EndId
  pub all : (e : EndId) → IsTrue (is_owned_by p (s.ends e).place) → Contains mine e
  pub after : t ≡ record s { ends = destroys_each p mine s.ends; process = ends_process p s.process }

-- the effect of each step
abbrev pub Leaves : State → ServiceStep → State → Type 0
Leaves s (step.Make p a b) t = t ≡ after_make p a b s
Leaves s (step.Refuse p call cause) t = t ≡ s
Leaves s (step.Destroy e) t = t ≡ record s { ends = destroys e s.ends }
Leaves s (step.Send e n bytes xs) t = t ≡ record s { ends = starts_send e n (record { bytes = bytes; carried = xs }) s.ends }
Leaves s (step.Receive e) t = t ≡ record s { ends = turns_inward inward.Posted e s.ends }
Leaves s (step.Cancel e w) t = t ≡ after_cancel (owner (s.ends e).place) e w s
Leaves s (step.Wait p) t = t ≡ record s { process = turns p phase.Waiting s.process }
Leaves s (step.Report p r) t = t ≡ after_report p r s
Leaves s (step.Exit p) t = Exits p s t
Leaves s (step.Match e n) t = t ≡ record s { ends = matches e n s.ends }
Leaves s (step.Take e n p late) t = t ≡ after_take e p s
Leaves s (step.Complete e n) t = t ≡ after_complete e s
Leaves s (step.Withdraw e) t = t ≡ record s { ends = turns_inward inward.Withdrawn e s.ends }
Leaves s (step.Free e) t = t ≡ after_free e s
Leaves s (step.Notice e dead) t = t ≡ after_notice e s
Leaves s (step.Back e n dead) t = t ≡ after_return e s

-- the step is allowed in s and leaves t
pub record IsServiceStep (s : State) (made : ServiceStep) (t : State) : Type 0 where
  pub allowed : IsAllowed s made
  pub after : Leaves s made t
