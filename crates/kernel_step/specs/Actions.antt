-- The actions of which calls and packets are made, each on how far the event has come. k is this kernel.
-- A view is what the kernel keeps of an end that is here.
use Rattle.std.specs.Prelude.{ℕ, Bool, true, false, nat_eq, ◌&&◌, not, List, [], ◌∷◌, if◌then◌else◌, Option, Some, None}
use Rattle.std.specs.List.{fold, flat_map}
use Rattle.std.specs.Int.{bit_at}
use Rattle.charlotte_calls.specs.Names.{opposite}
use Rattle.charlotte_calls.specs.declared.calls.Answer.{Answer}
use Rattle.charlotte_calls.specs.declared.calls.Answer.TheVariants as answer
use Rattle.charlotte_calls.specs.declared.calls.Cause.TheVariants as cause
use Rattle.charlotte_calls.specs.declared.calls.Report.{Report}
use Rattle.charlotte_calls.specs.declared.calls.ServiceStep.TheVariants as step
use Rattle.charlotte_calls.specs.declared.names.EndId.{EndId}
use Rattle.charlotte_calls.specs.declared.names.Outcome.{Outcome}
use Rattle.charlotte_calls.specs.declared.names.Outcome.TheVariants as outcome
use Rattle.charlotte_calls.specs.declared.names.Way.TheVariants as way
use Rattle.charlotte_packets.specs.declared.picture.MovingPicture.{MovingPicture}
use Rattle.charlotte_packets.specs.declared.picture.PictureWhat.TheVariants as packet
use Rattle.end_table.specs.Entries.{left_value, left_entry, ended_entry, is_news, learned, settled}
use Rattle.end_table.specs.declared.entry.Entry.{Entry}
use Rattle.end_table.specs.declared.entry.Entry.TheVariants as entry
use Rattle.end_table.specs.declared.entry.HereView.{HereView}
use Rattle.end_table.specs.declared.entry.Holder.{Holder}
use Rattle.end_table.specs.declared.entry.Holder.TheVariants as holder
use Rattle.end_table.specs.declared.entry.Inward.{Inward}
use Rattle.end_table.specs.declared.entry.Inward.TheVariants as inward
use Rattle.end_table.specs.declared.entry.Outward.{Outward}
use Rattle.end_table.specs.declared.entry.Outward.TheVariants as outward
use Rattle.kernel_step.specs.Progress.{Progress, sends, reports_to, answers_to, means, keeps}

-- the view of an end that is here
abbrev pub here : Entry → Option HereView
here entry.Nothing = None
here (entry.Here v) = Some v
here (entry.Left to hops) = None
here (entry.Destroyed m) = None

-- the kernel of the hint
abbrev pub hint_kernel : HereView → ℕ
hint_kernel v = v.value.hint.0

-- the ends that a started send encloses
abbrev pub enclosed_of : Outward → List EndId
enclosed_of outward.Idle = []
enclosed_of (outward.Waiting n bytes xs) = xs
enclosed_of (outward.Matched n) = []
enclosed_of outward.Unreported = []

-- an end that is enclosed is owned by nobody, and reports to nobody
abbrev pub reports : Holder → Report → Progress → Progress
reports (holder.Owner p) r d = reports_to p r d
reports (holder.EnclosedIn on) r d = d

abbrev pub answers : Holder → Answer → Progress → Progress
answers (holder.Owner p) a d = answers_to p a d
answers (holder.EnclosedIn on) a d = d

-- the report of a send that is over
abbrev pub send_report : EndId → Outcome → List EndId → Report
send_report e outcome xs = record { on = e; way = way.Outward; outcome = outcome; bytes = []; enclosed = xs }

-- the report of a receive whose message was taken
abbrev pub receive_report : EndId → List ℕ → List EndId → Report
receive_report e bytes xs = record { on = e; way = way.Inward; outcome = outcome.Done; bytes = bytes; enclosed = xs }

-- the report of a receive whose link died
abbrev pub dead_receive_report : EndId → Report
dead_receive_report e = record { on = e; way = way.Inward; outcome = outcome.Destroyed; bytes = []; enclosed = [] }

-- the eight kernels that may be
abbrev pub kernel_numbers : List ℕ
kernel_numbers = 0 ∷ 1 ∷ 2 ∷ 3 ∷ 4 ∷ 5 ∷ 6 ∷ 7 ∷ []

-- a kernel of the trail, other than k, is told to forget the end
abbrev pub forget_at : ℕ → MovingPicture → ℕ → Progress → Progress
forget_at k m j d = if nat_eq (bit_at m.trail j) 1 && not (nat_eq j k) then sends j (packet.Forget m.end m.hops) d else d

-- each other kernel of the trail is told so, in order
unfoldable pub forgets : ℕ → MovingPicture → Progress → Progress
forgets k m d = fold (λ so_far j. forget_at k m j so_far) d kernel_numbers

-- LEAVE, as far as the entry goes: it tells where the end went (the value that leaves is `left_value`)
abbrev pub leaves : ℕ → MovingPicture → Progress → Progress
leaves to m d = keeps m.end (left_entry to m) d

-- LEAVE of an end that is here
abbrev pub leaves_here : ℕ → Option HereView → Progress → Progress
leaves_here to None d = d
leaves_here to (Some v) d = leaves to v.value d

-- LEAVE of each of these ends, in order
unfoldable pub leave_each : ℕ → List EndId → Progress → Progress
leave_each to xs d = fold (λ so_far x. leaves_here to (here (so_far.table x)) so_far) d xs

-- the value of an end that leaves kernel k
abbrev pub value_leaving : ℕ → Option HereView → List MovingPicture
value_leaving k None = []
value_leaving k (Some v) = left_value k v.value ∷ []

-- the values of these ends as they leave, in order
unfoldable pub values_leaving : ℕ → (EndId → Entry) → List EndId → List MovingPicture
values_leaving k t xs = flat_map (λ x. value_leaving k (here (t x))) xs

-- MATCH of an end's send, which encloses xs, with the receive that is wanted of it
unfoldable pub matches : ℕ → HereView → ℕ → List ℕ → List EndId → Progress → Progress
matches k v n bytes xs d =
    let s = v.value.end in
    let served = record v { value = record v.value { served = v.value.want; want = 0 }; outward = outward.Matched n } in
    let kept = keeps s (entry.Here served) d in
    sends (hint_kernel v)
    (packet.Parcel (opposite s) n v.value.want k v.value.hops bytes (values_leaving k kept.table xs))
    (means (step.Match s n) (leave_each (hint_kernel v) xs kept))

-- MATCH where a send waits; the end's view is kept in either case
abbrev pub match_waiting : ℕ → HereView → Outward → Progress → Progress
match_waiting k v outward.Idle d = keeps v.value.end (entry.Here v) d
match_waiting k v (outward.Waiting n bytes xs) d = matches k v n bytes xs d
match_waiting k v (outward.Matched n) d = keeps v.value.end (entry.Here v) d
match_waiting k v outward.Unreported d = keeps v.value.end (entry.Here v) d

-- the opposite end is told of the destruction, unless the link is known to be dead
unfoldable pub tells_gone : ℕ → MovingPicture → Progress → Progress
tells_gone k m d = if m.dead then d else sends m.hint.0 (packet.Gone (opposite m.end) k) d

-- END of an end without a message
unfoldable pub ends_idle : ℕ → MovingPicture → Progress → Progress
ends_idle k m d = tells_gone k m (keeps m.end (ended_entry m) d)

abbrev pub ends_idle_here : ℕ → Option HereView → Progress → Progress
ends_idle_here k None d = d
ends_idle_here k (Some v) d = ends_idle k v.value d

-- END of each of these ends; an end that is enclosed is idle, and so has no message
unfoldable pub end_each : ℕ → List EndId → Progress → Progress
end_each k xs d = fold (λ so_far x. ends_idle_here k (here (so_far.table x)) so_far) d xs

-- END: the end is destroyed, then those that its waiting message encloses, and then the opposite end is told
unfoldable pub ends : ℕ → HereView → Progress → Progress
ends k v d = tells_gone k v.value (end_each k (enclosed_of v.outward) (keeps v.value.end (ended_entry v.value) d))

-- an end that was enclosed is held otherwise
abbrev pub held : Holder → Option HereView → Progress → Progress
held h None d = d
held h (Some v) d = keeps v.value.end (entry.Here (record v { holder = h })) d

-- each of these ends gets another holder
unfoldable pub hold_each : Holder → List EndId → Progress → Progress
hold_each h xs d = fold (λ so_far x. held h (here (so_far.table x)) so_far) d xs

-- what NOTICE makes of the value
abbrev pub noticed_value : MovingPicture → MovingPicture
noticed_value m = record m { want = 0; dead = true; trail = 0 }

-- what NOTICE makes of the activities: those that were started, but for a matched send, are over
abbrev pub noticed_outward : Outward → Outward
noticed_outward outward.Idle = outward.Idle
noticed_outward (outward.Waiting n bytes xs) = outward.Unreported
noticed_outward (outward.Matched n) = outward.Matched n
noticed_outward outward.Unreported = outward.Unreported

abbrev pub noticed_inward : Inward → Inward
noticed_inward inward.Idle = inward.Idle
noticed_inward (inward.Posted w) = inward.Unreported
noticed_inward (inward.Withdrawing w) = inward.Unreported
noticed_inward inward.Unreported = inward.Unreported

-- NOTICE of a send: a waiting one reports Destroyed, and the ends that it encloses are its owner's again
unfoldable pub notice_send : EndId → Holder → Outward → Progress → Progress
notice_send e h outward.Idle d = d
notice_send e h (outward.Waiting n bytes xs) d = hold_each h xs (reports h (send_report e outcome.Destroyed xs) d)
notice_send e h (outward.Matched n) d = d
notice_send e h outward.Unreported d = d

-- NOTICE of a receive: a started one reports Destroyed, and a Cancel that waits is answered Dead
unfoldable pub notice_receive : EndId → Holder → Inward → Progress → Progress
notice_receive e h inward.Idle d = d
notice_receive e h (inward.Posted w) d = reports h (dead_receive_report e) d
notice_receive e h (inward.Withdrawing w) d = answers h (answer.Refused cause.Dead) (reports h (dead_receive_report e) d)
notice_receive e h inward.Unreported d = d

-- NOTICE: the death of the link is known at the end
unfoldable pub notices : ℕ → HereView → Progress → Progress
notices k v d =
    let e = v.value.end in
    let noticed = record v { value = noticed_value v.value; outward = noticed_outward v.outward; inward = noticed_inward v.inward } in
    forgets k v.value (notice_receive e v.holder v.inward (notice_send e v.holder v.outward (keeps e (entry.Here noticed) d)))

-- whether a Cancel of a receive waits at the end
abbrev pub is_withdrawing : Inward → Bool
is_withdrawing inward.Idle = false
is_withdrawing (inward.Posted w) = false
is_withdrawing (inward.Withdrawing w) = true
is_withdrawing inward.Unreported = false

-- LEARN: the view after news of the opposite end
abbrev pub learned_view : HereView → ℕ → ℕ → HereView
learned_view v at hops = record v { value = learned at hops v.value }

-- the live packet of a receive
abbrev pub resends_receive : ℕ → MovingPicture → Inward → Progress → Progress
resends_receive k m inward.Idle d = d
resends_receive k m (inward.Posted w) d = sends m.hint.0 (packet.Want (opposite m.end) w k m.hops) d
resends_receive k m (inward.Withdrawing w) d = sends m.hint.0 (packet.Unwant (opposite m.end) w k m.hops) d
resends_receive k m inward.Unreported d = d

-- the opposite end is told that the end has moved
unfoldable pub tells_moved : ℕ → MovingPicture → Progress → Progress
tells_moved k m d = sends m.hint.0 (packet.Moved (opposite m.end) k m.hops) d

-- the live packets of an end go to the kernel of the new hint: want or unwant, and then moved
unfoldable pub resends : ℕ → MovingPicture → Inward → Progress → Progress
resends k m inward d =
    let asked = resends_receive k m inward d in
    if nat_eq m.trail 0 then asked else tells_moved k m asked

-- they go again where the hint rose: before is the value to which the news came, m and inward are what the packet leaves
unfoldable pub resends_on_news : ℕ → MovingPicture → ℕ → MovingPicture → Inward → Progress → Progress
resends_on_news k before hops m inward d = if is_news before hops then resends k m inward d else d

-- LEARN, where nothing else happens to the end
unfoldable pub learns : ℕ → ℕ → ℕ → HereView → Progress → Progress
learns k at hops v d =
    let informed = learned_view v at hops in
    resends_on_news k v.value hops informed.value v.inward (keeps v.value.end (entry.Here informed) d)

-- each of these values becomes an end that is here
unfoldable pub settle_each : Holder → List MovingPicture → Progress → Progress
settle_each h ms d = fold (λ so_far m. keeps m.end (entry.Here (settled h m)) so_far) d ms

-- an end that became Here, unless it is dead, tells its opposite that it has moved
abbrev pub tells_arrival : ℕ → MovingPicture → Progress → Progress
tells_arrival k m d = if m.dead then d else tells_moved k m d

unfoldable pub tell_arrivals : ℕ → List MovingPicture → Progress → Progress
tell_arrivals k ms d = fold (λ so_far m. tells_arrival k m so_far) d ms
