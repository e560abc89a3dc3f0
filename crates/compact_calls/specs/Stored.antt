-- What is stored at its own length, as the value that it tells.
use Rattle.charlotte_calls.specs.declared.calls.Call.{Call}
use Rattle.charlotte_calls.specs.declared.calls.Call.TheVariants as call
use Rattle.charlotte_calls.specs.declared.calls.Report.{Report}
use Rattle.charlotte_calls.specs.declared.calls.ServiceStep.{ServiceStep}
use Rattle.charlotte_calls.specs.declared.calls.ServiceStep.TheVariants as step
use Rattle.charlotte_packets.specs.declared.picture.PictureWhat.{PictureWhat}
use Rattle.charlotte_packets.specs.declared.picture.PictureWhat.TheVariants as packet
use Rattle.compact_calls.specs.declared.call.StoredCall.{StoredCall}
use Rattle.compact_calls.specs.declared.call.StoredCall.TheVariants as stored_call
use Rattle.compact_calls.specs.declared.packet.StoredWhat.{StoredWhat}
use Rattle.compact_calls.specs.declared.packet.StoredWhat.TheVariants as stored_packet
use Rattle.compact_calls.specs.declared.report.StoredReport.{StoredReport}
use Rattle.compact_calls.specs.declared.step.StoredStep.{StoredStep}
use Rattle.compact_calls.specs.declared.step.StoredStep.TheVariants as stored_step

abbrev pub call_of : StoredCall → Call
call_of stored_call.Make = call.Make
call_of (stored_call.Destroy on) = call.Destroy on
call_of (stored_call.Send on message) = call.Send on message.value.bytes message.value.enclose
call_of (stored_call.Receive on) = call.Receive on
call_of (stored_call.Cancel on way) = call.Cancel on way
call_of stored_call.Wait = call.Wait
call_of (stored_call.Print bytes) = call.Print bytes
call_of stored_call.Exit = call.Exit

abbrev pub what_of : StoredWhat → PictureWhat
what_of (stored_packet.Want to w at hops) = packet.Want to w at hops
what_of (stored_packet.Unwant to w at hops) = packet.Unwant to w at hops
what_of (stored_packet.Unwanted to w at hops) = packet.Unwanted to w at hops
what_of (stored_packet.Parcel to n w at hops carried) = packet.Parcel to n w at hops carried.value.bytes carried.value.moving
what_of (stored_packet.Taken to n at hops) = packet.Taken to n at hops
what_of (stored_packet.Back to n moving) = packet.Back to n moving
what_of (stored_packet.Gone to at) = packet.Gone to at
what_of (stored_packet.Moved to at hops) = packet.Moved to at hops
what_of (stored_packet.Known to hops) = packet.Known to hops
what_of (stored_packet.Forget to hops) = packet.Forget to hops
what_of (stored_packet.GoneSeen to) = packet.GoneSeen to

abbrev pub report_of : StoredReport → Report
report_of r =
    record { on = r.on; way = r.way; outcome = r.outcome; bytes = r.message.value.bytes; enclosed = r.message.value.enclose }

abbrev pub step_of : StoredStep → ServiceStep
step_of (stored_step.Make p a b) = step.Make p a b
step_of (stored_step.Refuse p call cause) = step.Refuse p call.value cause
step_of (stored_step.Destroy on) = step.Destroy on
step_of (stored_step.Send on n message) = step.Send on n message.value.bytes message.value.enclose
step_of (stored_step.Receive on) = step.Receive on
step_of (stored_step.Cancel on way) = step.Cancel on way
step_of (stored_step.Wait p) = step.Wait p
step_of (stored_step.Report p report) = step.Report p (report_of report)
step_of (stored_step.Exit p) = step.Exit p
step_of (stored_step.Match on n) = step.Match on n
step_of (stored_step.Take on n p late) = step.Take on n p late
step_of (stored_step.Complete on n) = step.Complete on n
step_of (stored_step.Withdraw on) = step.Withdraw on
step_of (stored_step.Free on) = step.Free on
step_of (stored_step.Notice on dead) = step.Notice on dead
step_of (stored_step.Back on n dead) = step.Back on n dead
