-- Worked exchanges between two ends, computed by the definitions.
use Rattle.std.specs.Prelude.{◌≡◌, ℕ, true, pos, List, [], ◌∷◌, ◌++◌, Option, None, Some, refl}
use Rattle.charlotte_calls.specs.declared.names.EndId.{EndId}
use Rattle.charlotte_calls.specs.declared.names.Side.TheVariants.{A}
use Rattle.lynx_tree.specs.declared.declaration.TypeName.{TypeName}
use Rattle.lynx_tree.specs.declared.declaration.TypeName.TheVariants as types
use Rattle.lynx_packets.specs.declared.packet.RtPacket.{RtPacket}
use Rattle.lynx_packets.specs.declared.packet.RtPacket.TheVariants.{Request, Reply, Forbid, Allow, GoAhead, Enc}
use Rattle.lynx_packets.specs.declared.value.RtValue.{RtValue}
use Rattle.lynx_packets.specs.declared.value.RtValue.TheVariants as values
use Rattle.end_protocol.specs.declared.kept.Accept.{Accept}
use Rattle.end_protocol.specs.declared.kept.Kept.{Kept}
use Rattle.end_protocol.specs.declared.kept.Response.{Response}
use Rattle.end_protocol.specs.declared.messages.Connect.{Connect}
use Rattle.end_protocol.specs.declared.messages.Message.{Message}
use Rattle.end_protocol.specs.Lists.{head}
use Rattle.end_protocol.specs.Kept.{fresh, queued}
use Rattle.end_protocol.specs.Wanting.{is_needed, taker}
use Rattle.end_protocol.specs.Asking.{asked, lined_up, connected, accepts_too, replied}
use Rattle.end_protocol.specs.Hearing.{is_readable, accepted, let_come, forbade, gone_on, hears}
use Rattle.end_protocol.specs.Falling.{fallen, held_again, destroyed, raised}
use Rattle.end_protocol.specs.Going.{settled, allows, sent, send_over, enclosed}
use Rattle.end_protocol.specs.Deeds.{Deed, Issued, Accepted, Replied, Returned, issued_deeds, replied_deeds, heard_deeds}

-- two ends of a link, with the packets that went between them, and the deeds on the two
record Talk : Type 0 where
  here : Kept
  there : Kept
  wire : List RtPacket
  deeds : List Deed

abbrev turned : Talk → Talk
turned t = record t { here = t.there; there = t.here }

-- the first packet of `here` comes to `there`
abbrev gone : ℕ → Option Message → Talk → Talk
gone version None t = t
gone version (Some m) t =
    let h = hears version true m.packet (enclosed version m) t.there in
    record { here = send_over (sent t.here); there = h.0; wire = t.wire ++ m.packet ∷ []; deeds = t.deeds ++ heard_deeds h.1 }

-- the packet goes the one way, and the other
abbrev to_there : ℕ → Talk → Talk
to_there version t = gone version (head t.here.queue) t

abbrev to_here : ℕ → Talk → Talk
to_here version t = turned (to_there version (turned t))

-- what the threads do: thread 0 connects here, thread 3 accepts there, and what was accepted is replied to there
abbrev connects : ℕ → Connect → Talk → Talk
connects version c t = record t { here = connected version c t.here; deeds = t.deeds ++ issued_deeds c t.here }

abbrev accepts : Accept → Talk → Talk
accepts a t = record t { there = settled true (accepts_too a t.there) }

abbrev answers : ℕ → Response → Talk → Talk
answers version r t = record t { there = replied version r t.there; deeds = t.deeds ++ replied_deeds r t.there }

abbrev begun : Talk
begun = record { here = fresh; there = fresh; wire = []; deeds = [] }

-- the operation `o():()`, or another one: only the bytes of its signature count
abbrev o : List ℕ
o = 111 ∷ 40 ∷ 41 ∷ 58 ∷ 40 ∷ 41 ∷ []

abbrev end : ℕ → EndId
end n = record { link = record { maker = 0; count = n }; side = A }

abbrev asking : List RtValue → List TypeName → List EndId → Connect
asking vs ts xs = record { thread = 0; number = 0; signature = o; values = vs; results = ts; ends = xs }

abbrev accepting_o : Accept
accepting_o = record { thread = 3; signature = o }

abbrev done : List RtValue → List EndId → Response
done vs xs = record { number = 1; status = 0; values = vs; ends = xs }

abbrev int : ℕ → RtValue
int n = values.Int (pos n)

abbrev links : List RtValue
links = values.Link ∷ values.Link ∷ values.Link ∷ []

abbrev three : List EndId
three = end 1 ∷ end 2 ∷ end 3 ∷ []

-- ---- a request and its reply: the two ends are as before, but for the number of the request

abbrev answered_once : ℕ → Talk
answered_once version =
    to_here version (answers version (done (int 42 ∷ []) []) (to_there version (connects version (asking (int 20 ∷ []) (types.Int ∷ []) []) (accepts accepting_o begun))))

abbrev once : Talk
once =
    record {
      here = record fresh { last = 1 };
      there = fresh;
      wire = Request 1 o (int 20 ∷ []) ∷ Reply 1 0 (int 42 ∷ []) ∷ [];
      deeds = Issued 1 o (int 20 ∷ []) [] ∷ Accepted 1 o (int 20 ∷ []) [] ∷ Replied 1 0 (int 42 ∷ []) [] ∷ Returned 1 0 (int 42 ∷ []) [] ∷ [];
    }

-- ---- three ends in a request: in version 1 they come one by one, in version 2 together

abbrev asked_with_three : ℕ → Talk
asked_with_three version = to_there version (connects version (asking links [] three) (accepts accepting_o begun))

abbrev three_in_part : Talk
three_in_part = to_there 1 (to_there 1 (to_here 1 (asked_with_three 1)))

abbrev deeds_with_three : List Deed
deeds_with_three = Issued 1 o links three ∷ Accepted 1 o links three ∷ []

-- three links are asked for, and replied
abbrev asked_for_three : Talk
asked_for_three =
    answers 1 (done links three) (to_there 1 (connects 1 (asking [] (types.Link ∷ types.Link ∷ types.Link ∷ []) []) (accepts accepting_o begun)))

-- ---- a request is forbidden while the other side waits for a reply itself, and is sent again when it is wanted

-- a thread connects on both sides, and here's request comes there; then a thread accepts there
abbrev crossed : ℕ → Talk
crossed version = to_here version (to_there version (connects version (asking links [] three) (record begun { there = send_over (sent (connected version (asking [] [] []) fresh)) })))

abbrev allowed_later : ℕ → Talk
allowed_later version = to_there version (to_here version (accepts accepting_o (crossed version)))

-- what comes of these exchanges
pub record Worked : Type 0 where
  -- a request and its reply: the two ends are as before, but for the number of the request
  pub answered_in_version_1 : answered_once 1 ≡ once
  pub answered_in_version_2 : answered_once 2 ≡ once
  -- three ends in a request: in version 1 they come one by one, in version 2 together
  pub three_ends_in_version_1 : (to_here 1 (answers 1 (done [] []) three_in_part)).wire ≡ Request 1 o links ∷ GoAhead 1 ∷ Enc 1 1 2 ∷ Enc 1 1 3 ∷ Reply 1 0 [] ∷ []
  pub three_ends_in_version_2 : (to_here 2 (answers 2 (done [] []) (asked_with_three 2))).wire ≡ Request 1 o links ∷ Reply 1 0 [] ∷ []
  -- the deeds are the same in both
  pub three_accepted_in_version_1 : three_in_part.deeds ≡ deeds_with_three
  pub three_accepted_in_version_2 : (asked_with_three 2).deeds ≡ deeds_with_three
  -- three ends in a reply of version 1: its enc follow at once
  pub three_ends_in_a_reply : (to_here 1 (to_here 1 (to_here 1 asked_for_three))).deeds ≡ Issued 1 o [] [] ∷ Accepted 1 o [] [] ∷ Replied 1 0 links three ∷ Returned 1 0 links three ∷ []
  -- a request is forbidden while the other side waits for a reply itself, and is sent again when it is wanted
  pub forbidden_in_version_2 : (allowed_later 2).wire ≡ Request 1 o links ∷ Forbid 1 ∷ Allow 1 ∷ Request 1 o links ∷ []
  pub accepted_later_in_version_2 : (allowed_later 2).deeds ≡ deeds_with_three
  pub accepted_later_in_version_1 : (to_there 1 (to_there 1 (to_here 1 (allowed_later 1)))).deeds ≡ deeds_with_three
  -- the link dies with a request under way: before its packet is sent, all of its ends are held again
  pub all_are_held_in_version_1 : held_again (fallen (connected 1 (asking links [] three) fresh)) ≡ three
  pub all_are_held_in_version_2 : held_again (fallen (connected 2 (asking links [] three) fresh)) ≡ three
  -- after it is sent, and where the further ends are queued, these are
  pub others_are_held : held_again (fallen (asked_with_three 1).here) ≡ end 2 ∷ end 3 ∷ []
  pub queued_are_held : held_again (fallen (to_here 1 (asked_with_three 1)).here) ≡ end 2 ∷ end 3 ∷ []
  -- what came in part is destroyed, and the thread that accepts is told
  pub part_is_destroyed : destroyed (fallen (to_there 1 (to_here 1 (asked_with_three 1))).there) ≡ end 1 ∷ end 2 ∷ []
  pub accepting_is_told : raised (fallen (asked_with_three 1).there) ≡ 3 ∷ []

pub worked : Worked
unfolding queued is_needed taker asked lined_up replied is_readable accepted let_come forbade gone_on allows sent fallen
worked =
    record {
      answered_in_version_1 = refl;
      answered_in_version_2 = refl;
      three_ends_in_version_1 = refl;
      three_ends_in_version_2 = refl;
      three_accepted_in_version_1 = refl;
      three_accepted_in_version_2 = refl;
      three_ends_in_a_reply = refl;
      forbidden_in_version_2 = refl;
      accepted_later_in_version_2 = refl;
      accepted_later_in_version_1 = refl;
      all_are_held_in_version_1 = refl;
      all_are_held_in_version_2 = refl;
      others_are_held = refl;
      queued_are_held = refl;
      part_is_destroyed = refl;
      accepting_is_told = refl;
    }
