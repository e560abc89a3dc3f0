-- How much room the parts of an event need, at most, in the lists of a `Work`.
use Rattle.std.specs.Prelude.{ℕ, ◌+◌, ◌*◌}
use Rattle.charlotte_packets.specs.declared.work.Room.{Room}
use Rattle.kernel_step.specs.declared.bounds.TheConstants.{MOST_ENDS, MOST_FORGETS, MOST_RESENT, PACKETS_OF_BACK}
use Rattle.kernel_step.specs.declared.bounds.TheConstants.{PACKETS_OF_END, PACKETS_OF_NOTICE, PACKETS_OF_PARCEL}

-- nothing
abbrev pub no_room : Room
no_room = record { packets = 0; reports = 0; answers = 0; steps = 0 }

-- so many packets
abbrev pub packets : ℕ → Room
packets n = record no_room { packets = n }

abbrev pub one_packet : Room
one_packet = packets 1

-- what news sends again
abbrev pub room_of_news : Room
room_of_news = packets MOST_RESENT

-- each other kernel of a trail is told to forget an end
abbrev pub room_of_forgets : Room
room_of_forgets = packets MOST_FORGETS

-- each end that came tells that it has moved, or ends
abbrev pub room_of_ends : Room
room_of_ends = packets MOST_ENDS

-- END, and a Destroy with its step
abbrev pub room_of_end : Room
room_of_end = packets PACKETS_OF_END

abbrev pub room_of_destroy : Room
room_of_destroy = record { packets = PACKETS_OF_END; reports = 0; answers = 0; steps = 1 }

abbrev pub one_report : Room
one_report = record no_room { reports = 1 }

abbrev pub one_answer : Room
one_answer = record no_room { answers = 1 }

abbrev pub one_step : Room
one_step = record no_room { steps = 1 }

-- MATCH: the parcel, and its step
abbrev pub room_of_match : Room
room_of_match = record { packets = 1; reports = 0; answers = 0; steps = 1 }

-- Send, with its MATCH
abbrev pub room_of_send : Room
room_of_send = record room_of_match { steps = 2 }

-- Receive, and Cancel of a receive: the want or unwant, and the step
abbrev pub room_of_receive : Room
room_of_receive = record { packets = 1; reports = 0; answers = 0; steps = 1 }

-- a report that also answers a Cancel
abbrev pub room_of_dead_receive : Room
room_of_dead_receive = record { packets = 0; reports = 1; answers = 1; steps = 0 }

-- NOTICE: each other kernel of the trail forgets the end, and both activities are reported
abbrev pub room_of_notice : Room
room_of_notice = record { packets = MOST_FORGETS; reports = 2; answers = 1; steps = 0 }

-- NOTICE with its goneseen
abbrev pub room_of_first_notice : Room
room_of_first_notice = record room_of_notice { packets = PACKETS_OF_NOTICE }

-- the rules want and unwant: the parcel or the unwanted, and what news sends again
abbrev pub room_of_want : Room
room_of_want = record { packets = 1 + MOST_RESENT; reports = 0; answers = 0; steps = 1 }

-- the rule of unwanted
abbrev pub room_of_unwanted : Room
room_of_unwanted = record { packets = MOST_RESENT; reports = 0; answers = 1; steps = 1 }

-- the rule of taken
abbrev pub room_of_taken : Room
room_of_taken = record { packets = MOST_RESENT; reports = 1; answers = 0; steps = 1 }

-- of the rule of parcel the message alone
abbrev pub room_of_message : Room
room_of_message = record { packets = 1 + MOST_RESENT; reports = 1; answers = 1; steps = 1 }

-- the rule of parcel
abbrev pub room_of_parcel : Room
room_of_parcel = record room_of_message { packets = PACKETS_OF_PARCEL }

-- of the rule of back the return of the ends, all of it where no send is matched, and all where one is
abbrev pub room_of_return : Room
room_of_return = record { packets = MOST_ENDS; reports = 1; answers = 0; steps = 0 }

abbrev pub room_of_stray_back : Room
room_of_stray_back = record room_of_return { steps = 1 }

abbrev pub room_of_back : Room
room_of_back = record { packets = PACKETS_OF_BACK; reports = 3; answers = 1; steps = 1 }

-- the rule of gone
abbrev pub room_of_gone : Room
room_of_gone = record room_of_first_notice { steps = 1 }

-- the rule of moved
abbrev pub room_of_moved : Room
room_of_moved = packets (1 + MOST_RESENT)

-- this room, and the packets of an END for each of n ends besides
abbrev pub and_ends : ℕ → Room → Room
and_ends n r = record r { packets = r.packets + PACKETS_OF_END * n }
