-- Worked runs: what the definitions of streams give, computed.
use Rattle.std.proofs.Common.{◌≡◌, Bool, true, false, ◌&&◌, List, [], ◌∷◌, refl}
use Rattle.charlotte_calls.specs.declared.calls.ServiceStep.{ServiceStep}
use Rattle.charlotte_calls.specs.declared.calls.ServiceStep.TheVariants as step
use Rattle.charlotte_calls.specs.declared.names.EndId.{EndId}
use Rattle.charlotte_calls.specs.declared.names.Outcome.TheVariants as outcome
use Rattle.charlotte_calls.specs.declared.names.Pid.{Pid}
use Rattle.charlotte_calls.specs.declared.names.Side.TheVariants.{A, B}
use Rattle.charlotte_calls.specs.declared.names.Way.TheVariants as way
use Rattle.charlotte_calls.specs.declared.setting.Setting.{Setting}
use Rattle.service_step.specs.Ends.{end_eq, destroys, idles, matches, notices, owner, places, puts, returns, starts_send, takes, turns_inward, turns_outward, withdraws_send}
use Rattle.service_step.specs.Run.{new_processes, start_state, wires_one}
use Rattle.service_step.specs.State.{State, gains, given, receive_report, send_report, turns, wakes}
use Rattle.service_step.specs.Steps.{after_cancel, after_complete, after_report, after_return, after_take, may_cancel, may_complete, may_destroy, may_match, may_receive, may_return, may_send, may_take}
use Rattle.service_step.specs.declared.state.Inward.TheVariants as inward
use Rattle.service_step.specs.declared.state.Phase.TheVariants as phase
use Rattle.service_streams.specs.Streams.{kept_on, reported_in, sent_on, taken_at, told_in, outstanding}

-- two processes with two links, the first of them with all sides a
abbrev setting : Setting
setting = record { version = 2; kernels = 2; homes = 0 ∷ 1 ∷ []; wires = (record { 0 = 0 }, record { 0 = 1 }) ∷ (record { 0 = 0 }, record { 0 = 1 }) ∷ [] }

abbrev first : Pid
first = record { 0 = 0 }

abbrev second : Pid
second = record { 0 = 1 }

-- of the link that they talk over
abbrev a : EndId
a = record { link = record { maker = 0; count = 0 }; side = A }

abbrev b : EndId
b = record { link = record { maker = 0; count = 0 }; side = B }

-- of the other one, which moves
abbrev moving : EndId
moving = record { link = record { maker = 0; count = 1 }; side = A }

-- the state that a step leaves; the steps that do not come here leave all as it was
abbrev left_by : State → ServiceStep → State
left_by s (step.Destroy e) = record s { ends = destroys e s.ends }
left_by s (step.Send e n bytes xs) = record s { ends = starts_send e n (record { bytes = bytes; carried = xs }) s.ends }
left_by s (step.Receive e) = record s { ends = turns_inward inward.Posted e s.ends }
left_by s (step.Cancel e w) = after_cancel (owner (s.ends e).place) e w s
left_by s (step.Wait p) = record s { process = turns p phase.Waiting s.process }
left_by s (step.Report p r) = after_report p r s
left_by s (step.Match e n) = record s { ends = matches e n s.ends }
left_by s (step.Take e n p late) = after_take e p s
left_by s (step.Complete e n) = after_complete e s
left_by s (step.Back e n dead) = after_return e s
left_by s _ = s

abbrev run_from : State → List ServiceStep → List (ServiceStep × State)
run_from s [] = []
run_from s (x ∷ xs) = (x, left_by s x) ∷ run_from (left_by s x) xs

abbrev left_by_all : State → List ServiceStep → State
left_by_all s [] = s
left_by_all s (x ∷ xs) = left_by_all (left_by s x) xs

-- the steps on ends are allowed, one after the other
abbrev may_be : State → ServiceStep → Bool
may_be s (step.Destroy e) = may_destroy s e
may_be s (step.Send e n bytes xs) = may_send s e n xs
may_be s (step.Receive e) = may_receive s e
may_be s (step.Cancel e w) = may_cancel s e w
may_be s (step.Match e n) = may_match s.ends e n
may_be s (step.Take e n p late) = may_take s e n p late
may_be s (step.Complete e n) = may_complete s.ends e n
may_be s (step.Back e n dead) = may_return s e n dead
may_be s _ = true

abbrev may_all_be : State → List ServiceStep → Bool
may_all_be s [] = true
may_all_be s (x ∷ xs) = may_be s x && may_all_be (left_by s x) xs

-- the first message is taken and reported. The second, with an end, is cancelled, the third taken, and its report stands
abbrev cancelled : List ServiceStep
cancelled =
    step.Send a 1 (120 ∷ []) []
    ∷ step.Receive b
    ∷ step.Match a 1
    ∷ step.Take a 1 second false
    ∷ step.Complete a 1
    ∷ step.Wait first
    ∷ step.Report first (send_report a outcome.Done [])
    ∷ step.Wait second
    ∷ step.Report second (receive_report b (120 ∷ []) [])
    ∷ step.Send a 2 (121 ∷ []) (moving ∷ [])
    ∷ step.Cancel a way.Outward
    ∷ step.Receive b
    ∷ step.Send a 3 (122 ∷ []) (moving ∷ [])
    ∷ step.Match a 3
    ∷ step.Take a 3 second false
    ∷ []

cancelled-sent : sent_on a cancelled ≡ record { number = 1; message = record { bytes = 120 ∷ []; carried = [] } } ∷ record { number = 2; message = record { bytes = 121 ∷ []; carried = moving ∷ [] } } ∷ record { number = 3; message = record { bytes = 122 ∷ []; carried = moving ∷ [] } } ∷ []
unfolding end_eq
cancelled-sent = refl

cancelled-kept : kept_on a cancelled ≡ record { number = 1; message = record { bytes = 120 ∷ []; carried = [] } } ∷ record { number = 3; message = record { bytes = 122 ∷ []; carried = moving ∷ [] } } ∷ []
unfolding end_eq
cancelled-kept = refl

cancelled-reported : reported_in b cancelled ≡ record { bytes = 120 ∷ []; carried = [] } ∷ []
unfolding end_eq
cancelled-reported = refl

cancelled-allowed : may_all_be (start_state setting) cancelled ≡ true
unfolding end_eq wires_one new_processes starts_send places puts turns_inward turns_outward matches takes gains wakes turns given idles withdraws_send
cancelled-allowed = refl

cancelled-taken : taken_at b (start_state setting) (run_from (start_state setting) cancelled) ≡ kept_on a cancelled
unfolding end_eq wires_one new_processes starts_send places puts turns_inward turns_outward matches takes gains wakes turns given idles withdraws_send
cancelled-taken = refl

-- its report is pending
cancelled-told : told_in b ((left_by_all (start_state setting) cancelled).process 1).reports ≡ record { bytes = 122 ∷ []; carried = moving ∷ [] } ∷ []
unfolding end_eq wires_one new_processes starts_send places puts turns_inward turns_outward matches takes gains wakes turns given idles withdraws_send
cancelled-told = refl

-- a message whose receiver destroys its end comes back
abbrev returned : List ServiceStep
returned = step.Receive b ∷ step.Send a 1 (120 ∷ []) (moving ∷ []) ∷ step.Match a 1 ∷ step.Destroy b ∷ step.Back a 1 false ∷ []

returned-kept : kept_on a returned ≡ record { number = 1; message = record { bytes = 120 ∷ []; carried = moving ∷ [] } } ∷ []
unfolding end_eq
returned-kept = refl

returned-allowed : may_all_be (start_state setting) returned ≡ true
unfolding end_eq wires_one new_processes starts_send places puts turns_inward turns_outward matches destroys returns notices gains wakes turns
returned-allowed = refl

returned-taken : taken_at b (start_state setting) (run_from (start_state setting) returned) ≡ []
unfolding end_eq wires_one new_processes starts_send places puts turns_inward turns_outward matches destroys returns notices gains wakes turns
returned-taken = refl

-- it is outstanding no more
returned-way : outstanding ((left_by_all (start_state setting) returned).ends a) ≡ []
unfolding end_eq wires_one new_processes starts_send places puts turns_inward turns_outward matches destroys returns notices gains wakes turns
returned-way = refl
