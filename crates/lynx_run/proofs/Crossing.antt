-- The program of a process may go to another thread: what proofs alone see of its last step owns nothing.
use denote.Param.Send.{IsSend, owning_send, sendable, view_send}
use denote.Param.SendFields.{declared_send}
use Rattle.std.proofs.option.Option.TheSendSync as option
use Rattle.lynx_rt.proofs.process.Running.TheSendSync as running
use Rattle.lynx_rt.specs.contracts.program.LynxProcess as LynxProcess
use Rattle.lynx_rt.specs.contracts.program.LynxProcess.TheInside as ProcessInside
use Rattle.lynx_rt.specs.contracts.seen.NextSeen as NextSeen
use Rattle.lynx_load.specs.contracts.role.Role as Role

next-send : IsSend NextSeen.the_row
next-send = owning_send NextSeen.the_type tt (λ d. tt) (λ k x w. tt)

process-inside : IsSend ProcessInside.the_row
process-inside = declared_send ProcessInside.the_type (running.the_send, (option.the_send _ next-send, tt))

process-send : IsSend LynxProcess.the_row
process-send = view_send ProcessInside.the_row _ _ _ _ process-inside

pub role-send : IsSend Role.the_row
role-send = let s : IsSend LynxProcess.the_row = process-send in search sendable depth 20
