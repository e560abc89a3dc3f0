-- What is on its way from an end to its opposite in a run of the link service.
use Rattle.std.specs.Prelude.{◌≡◌, List, ◌++◌}
use Rattle.charlotte_calls.specs.Names.{opposite}
use Rattle.charlotte_calls.specs.declared.calls.ServiceStep.{ServiceStep}
use Rattle.charlotte_calls.specs.declared.names.EndId.{EndId}
use Rattle.end_protocol.specs.declared.messages.Message.{Message as Packed}
use Rattle.lynx_packets.specs.Spelling.{spelling}
use Rattle.service_step.specs.State.{State}
use Rattle.service_step.specs.declared.state.Message.{Message}
use Rattle.service_streams.specs.Streams.{given_by, kept_on, messages, reported_in, sent_by, steps_in, told_in}

-- these messages were sent on e after those of which the owners of the opposite were told by a report, in order
pub record IsWay (e : EndId) (run : List (ServiceStep × State)) (ms : List Message) : Type 0 where
  pub sent : reported_in (opposite e) (steps_in run) ++ ms ≡ messages (kept_on e (steps_in run))

-- a message of a process, as the service has it
abbrev pub spelled : Packed → Message
spelled m = record { bytes = spelling m.packet; carried = m.ends }

-- One step more: of what was on its way it tells the first, and behind that is what it sends
abbrev pub IsNextWay : EndId → ServiceStep → List Message → List Message → Type 0
IsNextWay e made before behind = told_in (opposite e) (given_by made) ++ behind ≡ before ++ messages (sent_by e made)

-- something is on its way, if only nothing
pub record HasWay (e : EndId) (run : List (ServiceStep × State)) : Type 0 where
  pub way : List Message
  pub is : IsWay e run way
