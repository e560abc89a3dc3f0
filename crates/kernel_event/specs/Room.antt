-- How much an event adds at most, by the packet or the call that it is about.
use Rattle.charlotte_calls.specs.declared.calls.Call.{Call}
use Rattle.charlotte_calls.specs.declared.calls.Call.TheVariants as call
use Rattle.charlotte_packets.specs.declared.packet.What.{What}
use Rattle.charlotte_packets.specs.declared.packet.What.TheVariants as packet
use Rattle.charlotte_packets.specs.declared.work.Room.{Room}
use Rattle.kernel_step.specs.Room.{no_room, one_step, room_of_back, room_of_destroy, room_of_forgets, room_of_gone, room_of_moved}
use Rattle.kernel_step.specs.Room.{room_of_parcel, room_of_receive, room_of_send, room_of_taken, room_of_unwanted, room_of_want}

-- by a packet: up to eight ends that it brings or that are forgotten, two packets that news sends again, and its own
abbrev pub room_of_packet : What → Room
room_of_packet (packet.Want to w at hops) = room_of_want
room_of_packet (packet.Unwant to w at hops) = room_of_want
room_of_packet (packet.Unwanted to w at hops) = room_of_unwanted
room_of_packet (packet.Parcel to n w at hops bytes moving) = room_of_parcel
room_of_packet (packet.Taken to n at hops) = room_of_taken
room_of_packet (packet.Back to n moving) = room_of_back
room_of_packet (packet.Gone to at) = room_of_gone
room_of_packet (packet.Moved to at hops) = room_of_moved
room_of_packet (packet.Known to hops) = room_of_forgets
room_of_packet (packet.Forget to hops) = no_room
room_of_packet (packet.GoneSeen to) = room_of_forgets

-- by a call, without the packets of an Exit, which are those of an END for each end of its process
abbrev pub room_of_call : Call → Room
room_of_call call.Make = one_step
room_of_call (call.Destroy on) = room_of_destroy
room_of_call (call.Send on bytes xs) = room_of_send
room_of_call (call.Receive on) = room_of_receive
room_of_call (call.Cancel on way) = room_of_receive
room_of_call call.Wait = record one_step { steps = 2 }
room_of_call (call.Print bytes) = one_step
room_of_call call.Exit = one_step
