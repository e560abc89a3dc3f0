-- What each action does. t is what the kernel keeps of each end before it.
use Rattle.std.specs.Prelude.{ℕ, nat_eq, ◌&&◌, not, if◌then◌else◌, List, [], ◌∷◌, ◌++◌}
use Rattle.std.specs.Int.{bit_at}
use Rattle.std.specs.List.{flat_map}
use Rattle.charlotte_calls.specs.Names.{opposite}
use Rattle.charlotte_calls.specs.declared.calls.Answer.{Answer}
use Rattle.charlotte_calls.specs.declared.calls.Answer.TheVariants as answer
use Rattle.charlotte_calls.specs.declared.calls.Cause.TheVariants as cause
use Rattle.charlotte_calls.specs.declared.calls.Report.{Report}
use Rattle.charlotte_calls.specs.declared.calls.ServiceStep.TheVariants as step
use Rattle.charlotte_calls.specs.declared.names.EndId.{EndId}
use Rattle.charlotte_calls.specs.declared.names.Outcome.TheVariants as outcome
use Rattle.charlotte_packets.specs.declared.picture.MovingPicture.{MovingPicture}
use Rattle.charlotte_packets.specs.declared.picture.PictureWhat.{PictureWhat}
use Rattle.charlotte_packets.specs.declared.picture.PictureWhat.TheVariants as packet
use Rattle.end_table.specs.Entries.{is_news, learned, settled, left_entry, ended_entry}
use Rattle.end_table.specs.declared.entry.Entry.{Entry}
use Rattle.end_table.specs.declared.entry.Entry.TheVariants as entry
use Rattle.end_table.specs.declared.entry.HereView.{HereView}
use Rattle.end_table.specs.declared.entry.Holder.{Holder}
use Rattle.end_table.specs.declared.entry.Inward.{Inward}
use Rattle.end_table.specs.declared.entry.Inward.TheVariants as inward
use Rattle.end_table.specs.declared.entry.Outward.{Outward}
use Rattle.end_table.specs.declared.entry.Outward.TheVariants as outward
use Rattle.kernel_step.specs.Actions.{hint_kernel, enclosed_of, kernel_numbers, values_leaving, send_report}
use Rattle.kernel_step.specs.Actions.{dead_receive_report, noticed_value, noticed_outward, noticed_inward, learned_view}
use Rattle.kernel_effects.specs.Effect.{Effect, changed, sent, puts, stays, turns, brings, for_holder}

-- ---- packets

-- a kernel of the trail, other than k, is told to forget the end
abbrev pub forget_packet : ℕ → MovingPicture → ℕ → List (ℕ × PictureWhat)
forget_packet k m j = if nat_eq (bit_at m.trail j) 1 && not (nat_eq j k) then (j, packet.Forget m.end m.hops) ∷ [] else []

-- each is, in order
abbrev pub forget_packets : ℕ → MovingPicture → List (ℕ × PictureWhat)
forget_packets k m = flat_map (forget_packet k m) kernel_numbers

-- the opposite end is told of the destruction, unless the link is known to be dead
abbrev pub gone_packets : ℕ → MovingPicture → List (ℕ × PictureWhat)
gone_packets k m = if m.dead then [] else (m.hint.0, packet.Gone (opposite m.end) k) ∷ []

-- the same, of an end that is here
abbrev pub gone_of : ℕ → Entry → List (ℕ × PictureWhat)
gone_of k entry.Nothing = []
gone_of k (entry.Here v) = gone_packets k v.value
gone_of k (entry.Left to hops) = []
gone_of k (entry.Destroyed m) = []

-- the opposite end is told that the end has moved
abbrev pub moved_packets : ℕ → MovingPicture → List (ℕ × PictureWhat)
moved_packets k m = (m.hint.0, packet.Moved (opposite m.end) k m.hops) ∷ []

-- an end that became Here tells so, unless it is dead
abbrev pub arrival_packets : ℕ → MovingPicture → List (ℕ × PictureWhat)
arrival_packets k m = if m.dead then [] else moved_packets k m

-- the live packet of a receive
abbrev pub receive_packets : ℕ → MovingPicture → Inward → List (ℕ × PictureWhat)
receive_packets k m inward.Idle = []
receive_packets k m (inward.Posted w) = (m.hint.0, packet.Want (opposite m.end) w k m.hops) ∷ []
receive_packets k m (inward.Withdrawing w) = (m.hint.0, packet.Unwant (opposite m.end) w k m.hops) ∷ []
receive_packets k m inward.Unreported = []

-- the live packets of an end
abbrev pub live_packets : ℕ → MovingPicture → Inward → List (ℕ × PictureWhat)
live_packets k m i = receive_packets k m i ++ (if nat_eq m.trail 0 then [] else moved_packets k m)

-- they go again where the news rose the hint
abbrev pub news_packets : ℕ → MovingPicture → ℕ → MovingPicture → Inward → List (ℕ × PictureWhat)
news_packets k before hops m i = if is_news before hops then live_packets k m i else []

-- the message of a send goes to the hint
abbrev pub parcel_packets : ℕ → HereView → ℕ → List ℕ → List MovingPicture → List (ℕ × PictureWhat)
parcel_packets k v n bytes ms = (hint_kernel v, packet.Parcel (opposite v.value.end) n v.value.want k v.value.hops bytes ms) ∷ []

-- ---- entries of several ends

-- the entry of an end after LEAVE
abbrev pub left_of : ℕ → Entry → Entry
left_of to entry.Nothing = entry.Nothing
left_of to (entry.Here v) = left_entry to v.value
left_of to (entry.Left there hops) = entry.Left there hops
left_of to (entry.Destroyed m) = entry.Destroyed m

-- the entry of an idle end after END
abbrev pub ended_of : Entry → Entry
ended_of entry.Nothing = entry.Nothing
ended_of (entry.Here v) = ended_entry v.value
ended_of (entry.Left there hops) = entry.Left there hops
ended_of (entry.Destroyed m) = entry.Destroyed m

-- the entry of an end that gets another holder
abbrev pub held_entry : Holder → Entry → Entry
held_entry h entry.Nothing = entry.Nothing
held_entry h (entry.Here v) = entry.Here (record v { holder = h })
held_entry h (entry.Left there hops) = entry.Left there hops
held_entry h (entry.Destroyed m) = entry.Destroyed m

-- LEAVE of each of these ends
abbrev pub leaves_each : ℕ → List EndId → Effect
leaves_each to xs = changed (turns xs (left_of to) stays)

-- each of these ends gets another holder
abbrev pub holds_each : Holder → List EndId → Effect
holds_each h xs = changed (turns xs (held_entry h) stays)

-- END of each of these ends
abbrev pub ends_all : ℕ → (EndId → Entry) → List EndId → Effect
ends_all k t xs = record (changed (turns xs ended_of stays)) { packets = flat_map (λ x. gone_of k (t x)) xs }

-- each of these values becomes an end that is here
abbrev pub settles_each : Holder → List MovingPicture → Effect
settles_each h ms = changed (brings ms (λ m. entry.Here (settled h m)) stays)

-- each leaves again
abbrev pub passes_each : ℕ → List MovingPicture → Effect
passes_each to ms = changed (brings ms (left_entry to) stays)

-- each becomes Here and is destroyed
abbrev pub ends_arrivals : ℕ → List MovingPicture → Effect
ends_arrivals k ms = record (changed (brings ms ended_entry stays)) { packets = flat_map (gone_packets k) ms }

-- ---- MATCH

-- a view after its send n was matched
abbrev pub matched_view : HereView → ℕ → HereView
matched_view v n = record v { value = record v.value { served = v.value.want; want = 0 }; outward = outward.Matched n }

abbrev pub match_effect : ℕ → (EndId → Entry) → HereView → ℕ → List ℕ → List EndId → Effect
match_effect k t v n bytes xs =
    record (sent (parcel_packets k v n bytes (values_leaving k t xs))) {
      entry = puts v.value.end (entry.Here (matched_view v n)) (turns xs (left_of (hint_kernel v)) stays);
      steps = step.Match v.value.end n ∷ [];
    }

-- MATCH where a send waits; the view is kept in either case
abbrev pub match_waiting_effect : ℕ → (EndId → Entry) → HereView → Outward → Effect
match_waiting_effect k t v outward.Idle = changed (puts v.value.end (entry.Here v) stays)
match_waiting_effect k t v (outward.Waiting n bytes xs) = match_effect k t v n bytes xs
match_waiting_effect k t v (outward.Matched n) = changed (puts v.value.end (entry.Here v) stays)
match_waiting_effect k t v outward.Unreported = changed (puts v.value.end (entry.Here v) stays)

-- ---- NOTICE

abbrev pub noticed_view : HereView → HereView
noticed_view v = record v { value = noticed_value v.value; outward = noticed_outward v.outward; inward = noticed_inward v.inward }

-- the report of a send that waited
abbrev pub send_notice : EndId → Outward → List Report
send_notice e outward.Idle = []
send_notice e (outward.Waiting n bytes xs) = send_report e outcome.Destroyed xs ∷ []
send_notice e (outward.Matched n) = []
send_notice e outward.Unreported = []

-- the report of a receive that was started
abbrev pub receive_notice : EndId → Inward → List Report
receive_notice e inward.Idle = []
receive_notice e (inward.Posted w) = dead_receive_report e ∷ []
receive_notice e (inward.Withdrawing w) = dead_receive_report e ∷ []
receive_notice e inward.Unreported = []

-- the answer of a Cancel that waited
abbrev pub cancel_notice : Inward → List Answer
cancel_notice inward.Idle = []
cancel_notice (inward.Posted w) = []
cancel_notice (inward.Withdrawing w) = answer.Refused cause.Dead ∷ []
cancel_notice inward.Unreported = []

abbrev pub notice_effect : ℕ → HereView → Effect
notice_effect k v =
    record {
      entry = puts v.value.end (entry.Here (noticed_view v)) (turns (enclosed_of v.outward) (held_entry v.holder) stays);
      packets = forget_packets k v.value;
      reports = for_holder v.holder (send_notice v.value.end v.outward ++ receive_notice v.value.end v.inward);
      answers = for_holder v.holder (cancel_notice v.inward);
      steps = [];
    }

-- ---- LEARN

abbrev pub learn_effect : ℕ → ℕ → ℕ → HereView → Effect
learn_effect k at hops v =
    record (sent (news_packets k v.value hops (learned at hops v.value) v.inward)) {
      entry = puts v.value.end (entry.Here (learned_view v at hops)) stays;
    }
