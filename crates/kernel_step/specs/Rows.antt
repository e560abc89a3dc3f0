-- What a kernel does with a packet, by the entry of the end that it is addressed to: one definition for each kind of packet.
-- k is this kernel, to the end addressed, at and hops kernel and hop count of the opposite end that sent the packet
-- (of a known or forget, hops are those of the addressed end itself).
use Rattle.std.specs.Prelude.{ℕ, Bool, true, false, nat_eq, nat_lt, nat_le, ◌&&◌, not}
use Rattle.std.specs.Prelude.{List, [], ◌∷◌, map, if◌then◌else◌, Option, Some, None}
use Rattle.std.specs.List.{fold, filter}
use Rattle.charlotte_calls.specs.Names.{opposite}
use Rattle.charlotte_calls.specs.declared.calls.Answer.TheVariants as answer
use Rattle.charlotte_calls.specs.declared.calls.Cause.TheVariants as cause
use Rattle.charlotte_calls.specs.declared.calls.ServiceStep.TheVariants as step
use Rattle.charlotte_calls.specs.declared.names.EndId.{EndId}
use Rattle.charlotte_calls.specs.declared.names.Outcome.TheVariants as outcome
use Rattle.charlotte_packets.specs.declared.picture.MovingPicture.{MovingPicture}
use Rattle.charlotte_packets.specs.declared.picture.PictureWhat.{PictureWhat}
use Rattle.charlotte_packets.specs.declared.picture.PictureWhat.TheVariants as packet
use Rattle.end_table.specs.Entries.{left_value, is_news, learned}
use Rattle.end_table.specs.declared.entry.Entry.{Entry}
use Rattle.end_table.specs.declared.entry.Entry.TheVariants as entry
use Rattle.end_table.specs.declared.entry.HereView.{HereView}
use Rattle.end_table.specs.declared.entry.Holder.{Holder}
use Rattle.end_table.specs.declared.entry.Holder.TheVariants as holder
use Rattle.end_table.specs.declared.entry.Inward.{Inward}
use Rattle.end_table.specs.declared.entry.Inward.TheVariants as inward
use Rattle.end_table.specs.declared.entry.Outward.{Outward}
use Rattle.end_table.specs.declared.entry.Outward.TheVariants as outward
use Rattle.end_table.specs.Place.{put}
use Rattle.kernel_step.specs.Progress.{Progress, sends, means, keeps}
use Rattle.kernel_step.specs.Actions.{answers, reports, send_report, receive_report, forgets, leaves, match_waiting, ends_idle}
use Rattle.kernel_step.specs.Actions.{notices, is_withdrawing, learned_view, learns, resends_on_news, settle_each, tell_arrivals}

-- want: the receive w of the opposite end asks for a message, unless it was matched or withdrawn
unfoldable pub wants : ℕ → ℕ → ℕ → ℕ → HereView → Progress → Progress
wants k w at hops v d =
    let informed = learned_view v at hops in
    resends_on_news k v.value hops informed.value v.inward
    (match_waiting k (record informed { value = record informed.value { want = w } }) v.outward d)

unfoldable pub want_here : ℕ → ℕ → ℕ → ℕ → HereView → Progress → Progress
want_here k w at hops v d =
    if v.value.dead then d else if nat_lt v.value.served w then wants k w at hops v d else learns k at hops v d

abbrev pub want_row : ℕ → EndId → ℕ → ℕ → ℕ → Entry → Progress → Progress
want_row k to w at hops entry.Nothing d = d
want_row k to w at hops (entry.Here v) d = want_here k w at hops v d
want_row k to w at hops (entry.Left there h) d = sends there (packet.Want to w at hops) d
want_row k to w at hops (entry.Destroyed m) d = d

-- unwant: the receive w of the opposite end is withdrawn, unless it was matched or withdrawn before
unfoldable pub voids : ℕ → ℕ → ℕ → ℕ → HereView → Progress → Progress
voids k w at hops v d =
    let e = v.value.end in
    let informed = learned_view v at hops in
    let voided = record informed { value = record informed.value { served = w; want = 0 } } in
    resends_on_news k v.value hops informed.value v.inward
    (sends at (packet.Unwanted (opposite e) w k v.value.hops) (means (step.Withdraw (opposite e)) (keeps e (entry.Here voided) d)))

unfoldable pub unwant_here : ℕ → ℕ → ℕ → ℕ → HereView → Progress → Progress
unwant_here k w at hops v d =
    if v.value.dead then d else if nat_lt v.value.served w then voids k w at hops v d else learns k at hops v d

abbrev pub unwant_row : ℕ → EndId → ℕ → ℕ → ℕ → Entry → Progress → Progress
unwant_row k to w at hops entry.Nothing d = d
unwant_row k to w at hops (entry.Here v) d = unwant_here k w at hops v d
unwant_row k to w at hops (entry.Left there h) d = sends there (packet.Unwant to w at hops) d
unwant_row k to w at hops (entry.Destroyed m) d = d

-- unwanted: the Cancel of the receive w is answered
unfoldable pub frees : ℕ → ℕ → ℕ → HereView → Progress → Progress
frees k at hops v d =
    let freed = record (learned_view v at hops) { inward = inward.Idle } in
    resends_on_news k v.value hops freed.value inward.Idle
    (answers v.holder answer.Ok (means (step.Free v.value.end) (keeps v.value.end (entry.Here freed) d)))

abbrev pub unwanted_here : ℕ → ℕ → ℕ → ℕ → HereView → Inward → Progress → Progress
unwanted_here k w at hops v inward.Idle d = d
unwanted_here k w at hops v (inward.Posted x) d = d
unwanted_here k w at hops v (inward.Withdrawing x) d = if nat_eq x w then frees k at hops v d else d
unwanted_here k w at hops v inward.Unreported d = d

abbrev pub unwanted_row : ℕ → ℕ → ℕ → ℕ → Entry → Progress → Progress
unwanted_row k w at hops entry.Nothing d = d
unwanted_row k w at hops (entry.Here v) d = unwanted_here k w at hops v v.inward d
unwanted_row k w at hops (entry.Left there h) d = d
unwanted_row k w at hops (entry.Destroyed m) d = d

-- a value in a packet whose end belongs to a link that this kernel, its maker, has not made yet is not carried
abbrev pub is_unmade : ℕ → ℕ → MovingPicture → Bool
is_unmade k made m = nat_eq m.end.link.maker k && nat_le made m.end.link.count

abbrev pub is_here : Entry → Bool
is_here entry.Nothing = false
is_here (entry.Here v) = true
is_here (entry.Left to hops) = false
is_here (entry.Destroyed m) = false

-- nor is one whose end is here already
abbrev pub is_carried : ℕ → ℕ → (EndId → Entry) → MovingPicture → Bool
is_carried k made t m = not (is_here (t m.end)) && not (is_unmade k made m)

-- the values that leave or end here, one after the other: no end becomes Here by that, so one look at the table serves
abbrev pub passing : ℕ → ℕ → (EndId → Entry) → List MovingPicture → List MovingPicture
passing k made t ms = filter (is_carried k made t) ms

-- the values that become Here, one after the other, for this holder
abbrev pub arriving : ℕ → ℕ → Holder → (EndId → Entry) → List MovingPicture → List MovingPicture
arriving k made h t [] = []
arriving k made h t (m ∷ ms) =
    if is_carried k made t m
    then m
    ∷ arriving k made h (put t m.end (entry.Here (record { value = m; holder = h; outward = outward.Idle; inward = inward.Idle }))) ms
    else arriving k made h t ms

abbrev pub ends_in : List MovingPicture → List EndId
ends_in ms = map (λ m. m.end) ms

-- who takes the message that a receive asked for
abbrev pub takes : EndId → ℕ → Bool → Holder → Progress → Progress
takes e n late (holder.Owner p) d = means (step.Take (opposite e) n p late) d
takes e n late (holder.EnclosedIn on) d = d

-- parcel at the receive that it was sent for: the message is taken
unfoldable pub receives : ℕ → ℕ → ℕ → ℕ → List ℕ → List EndId → HereView → Progress → Progress
receives k n at hops bytes xs v d =
    let e = v.value.end in
    let late = is_withdrawing v.inward in
    let taken = record (learned_view v at hops) { inward = inward.Unreported } in
    let reported = reports v.holder (receive_report e bytes xs) (takes e n late v.holder (keeps e (entry.Here taken) d)) in
    sends at (packet.Taken (opposite e) n k v.value.hops)
    (if late then answers v.holder (answer.Refused cause.Late) reported else reported)

-- each of these values leaves to kernel `at`, in order
unfoldable pub pass_each : ℕ → List MovingPicture → Progress → Progress
pass_each at ms d = fold (λ so_far m. leaves at m so_far) d ms

-- parcel anywhere else: its ends leave again, and go back with it
unfoldable pub sends_back : ℕ → EndId → ℕ → ℕ → List MovingPicture → Progress → Progress
sends_back k to n at ms d = sends at (packet.Back (opposite to) n (map (left_value k) ms)) (pass_each at ms d)

-- the receive w is started
abbrev pub is_asked : ℕ → Inward → Bool
is_asked w inward.Idle = false
is_asked w (inward.Posted x) = nat_eq x w
is_asked w (inward.Withdrawing x) = nat_eq x w
is_asked w inward.Unreported = false

abbrev pub asks : ℕ → Entry → Option HereView
asks w entry.Nothing = None
asks w (entry.Here v) = if is_asked w v.inward then Some v else None
asks w (entry.Left to hops) = None
asks w (entry.Destroyed m) = None

-- the part of the rule that is about the message; xs are the ends that came with it
abbrev pub arrived_row : ℕ → ℕ → ℕ → ℕ → List ℕ → List EndId → Option HereView → Progress → Progress
arrived_row k n at hops bytes xs None d = d
arrived_row k n at hops bytes xs (Some v) d =
    resends_on_news k v.value hops (learned at hops v.value) inward.Unreported (receives k n at hops bytes xs v d)

abbrev pub parcel_row : ℕ → ℕ → EndId → ℕ → ℕ → ℕ → List ℕ → List MovingPicture → Option HereView → Progress → Progress
parcel_row k made to n at hops bytes ms None d = sends_back k to n at (passing k made d.table ms) d
parcel_row k made to n at hops bytes ms (Some v) d =
    let came = arriving k made v.holder d.table ms in
    resends_on_news k v.value hops (learned at hops v.value) inward.Unreported
    (tell_arrivals k came (receives k n at hops bytes (ends_in came) v (settle_each v.holder came d)))

-- the part of the rule that is about the ends that came with it; ms are those that are carried
abbrev pub arrive_row : ℕ → EndId → ℕ → ℕ → List MovingPicture → Option HereView → Progress → Progress
arrive_row k to n at ms None d = sends_back k to n at ms d
arrive_row k to n at ms (Some v) d = tell_arrivals k ms (settle_each v.holder ms d)

-- taken: the send n is completed
unfoldable pub completes : ℕ → ℕ → ℕ → ℕ → HereView → Progress → Progress
completes k n at hops v d =
    let e = v.value.end in
    let done = record (learned_view v at hops) { outward = outward.Unreported } in
    resends_on_news k v.value hops done.value v.inward
    (reports v.holder (send_report e outcome.Done []) (means (step.Complete e n) (keeps e (entry.Here done) d)))

-- the send n is matched
abbrev pub is_matched : ℕ → Outward → Bool
is_matched n outward.Idle = false
is_matched n (outward.Waiting x bytes xs) = false
is_matched n (outward.Matched x) = nat_eq x n
is_matched n outward.Unreported = false

abbrev pub awaits : ℕ → Entry → Option HereView
awaits n entry.Nothing = None
awaits n (entry.Here v) = if is_matched n v.outward then Some v else None
awaits n (entry.Left to hops) = None
awaits n (entry.Destroyed m) = None

abbrev pub taken_row : ℕ → ℕ → ℕ → ℕ → Option HereView → Progress → Progress
taken_row k n at hops None d = d
taken_row k n at hops (Some v) d = completes k n at hops v d

-- back at its matched send: the message was not taken, and its ends are the sender's again
unfoldable pub gives_back : List MovingPicture → HereView → Progress → Progress
gives_back came v d =
    settle_each v.holder came
    (reports v.holder (send_report v.value.end outcome.Destroyed (ends_in came))
    (keeps v.value.end (entry.Here (record v { outward = outward.Unreported })) d))

-- NOTICE, unless the death was noticed before; the destroyed end is told so at the kernel that sent the packet
unfoldable pub notices_first : ℕ → ℕ → HereView → Progress → Progress
notices_first k from v d =
    if v.value.dead then d else sends from (packet.GoneSeen (opposite v.value.end)) (notices k v d)

-- each of these values becomes Here and is destroyed
unfoldable pub end_arrivals : ℕ → List MovingPicture → Progress → Progress
end_arrivals k ms d = fold (λ so_far m. ends_idle k m so_far) d ms

-- back anywhere else: its ends are destroyed. At an end that is here it means nothing where it carries none
abbrev pub means_back : EndId → ℕ → Bool → List MovingPicture → Progress → Progress
means_back to n true [] d = d
means_back to n true (m ∷ ms) d = means (step.Back to n false) d
means_back to n false ms d = means (step.Back to n false) d

abbrev pub back_row : ℕ → ℕ → ℕ → EndId → ℕ → List MovingPicture → Option HereView → Progress → Progress
back_row k made from to n ms None d =
    let passed = passing k made d.table ms in
    end_arrivals k passed (means_back to n (is_here (d.table to)) passed d)
back_row k made from to n ms (Some v) d =
    let came = arriving k made v.holder d.table ms in
    let returned = record v { outward = outward.Unreported } in
    let answers_cancel = not v.value.dead && is_withdrawing v.inward in
    tell_arrivals k came (notices_first k from returned (gives_back came v (means (step.Back to n answers_cancel) d)))

-- the part of the rule without the step and without NOTICE; ms are the values that are carried
abbrev pub give_back_row : ℕ → List MovingPicture → Option HereView → Progress → Progress
give_back_row k ms None d = end_arrivals k ms d
give_back_row k ms (Some v) d = tell_arrivals k ms (gives_back ms v d)

-- the end's death is known to all: its mark is erased, and its traces are forgotten
unfoldable pub erases : ℕ → MovingPicture → Progress → Progress
erases k m d = keeps m.end entry.Nothing (forgets k m d)

-- gone: the opposite end, at kernel `at`, is destroyed
unfoldable pub gone_here : ℕ → ℕ → HereView → Progress → Progress
gone_here k at v d =
    if v.value.dead then sends at (packet.GoneSeen (opposite v.value.end)) d
    else notices_first k at v (means (step.Notice v.value.end (is_withdrawing v.inward)) d)

abbrev pub gone_row : ℕ → EndId → ℕ → Entry → Progress → Progress
gone_row k to at entry.Nothing d = d
gone_row k to at (entry.Here v) d = gone_here k at v d
gone_row k to at (entry.Left there h) d = sends there (packet.Gone to at) d
gone_row k to at (entry.Destroyed m) d = erases k m (sends at (packet.GoneSeen (opposite to)) d)

-- moved: the opposite end is at kernel `at` now
unfoldable pub moved_here : ℕ → ℕ → ℕ → HereView → Progress → Progress
moved_here k at hops v d =
    if v.value.dead then d else sends at (packet.Known (opposite v.value.end) hops) (learns k at hops v d)

-- a destroyed end learns it too, and its opposite is told of the destruction
abbrev pub mark_learns : EndId → ℕ → ℕ → MovingPicture → Progress → Progress
mark_learns to at hops m d = if is_news m hops then keeps to (entry.Destroyed (learned at hops m)) d else d

unfoldable pub moved_mark : ℕ → EndId → ℕ → ℕ → MovingPicture → Progress → Progress
moved_mark k to at hops m d = sends at (packet.Gone (opposite to) k) (mark_learns to at hops m d)

abbrev pub moved_row : ℕ → EndId → ℕ → ℕ → Entry → Progress → Progress
moved_row k to at hops entry.Nothing d = d
moved_row k to at hops (entry.Here v) d = moved_here k at hops v d
moved_row k to at hops (entry.Left there h) d = sends there (packet.Moved to at hops) d
moved_row k to at hops (entry.Destroyed m) d = moved_mark k to at hops m d

-- known: that the end moved is known, so that its traces are forgotten
unfoldable pub known_here : ℕ → ℕ → HereView → Progress → Progress
known_here k hops v d =
    if not v.value.dead && nat_eq v.value.hops hops
    then keeps v.value.end (entry.Here (record v { value = record v.value { trail = 0 } })) (forgets k v.value d)
    else d

abbrev pub known_row : ℕ → ℕ → Entry → Progress → Progress
known_row k hops entry.Nothing d = d
known_row k hops (entry.Here v) d = known_here k hops v d
known_row k hops (entry.Left there h) d = d
known_row k hops (entry.Destroyed m) d = d

-- forget: an entry that told where the end went is not needed any more
abbrev pub forget_row : EndId → ℕ → Entry → Progress → Progress
forget_row to hops entry.Nothing d = d
forget_row to hops (entry.Here v) d = d
forget_row to hops (entry.Left there h) d = if nat_le h hops then keeps to entry.Nothing d else d
forget_row to hops (entry.Destroyed m) d = d

-- goneseen: that the end is destroyed is known
abbrev pub goneseen_row : ℕ → Entry → Progress → Progress
goneseen_row k entry.Nothing d = d
goneseen_row k (entry.Here v) d = d
goneseen_row k (entry.Left there h) d = d
goneseen_row k (entry.Destroyed m) d = erases k m d

-- what kernel k, which has made so many links, does with a packet from a kernel
abbrev pub row : ℕ → ℕ → ℕ → PictureWhat → Progress → Progress
row k made from (packet.Want to w at hops) d = want_row k to w at hops (d.table to) d
row k made from (packet.Unwant to w at hops) d = unwant_row k to w at hops (d.table to) d
row k made from (packet.Unwanted to w at hops) d = unwanted_row k w at hops (d.table to) d
row k made from (packet.Parcel to n w at hops bytes ms) d = parcel_row k made to n at hops bytes ms (asks w (d.table to)) d
row k made from (packet.Taken to n at hops) d = taken_row k n at hops (awaits n (d.table to)) d
row k made from (packet.Back to n ms) d = back_row k made from to n ms (awaits n (d.table to)) d
row k made from (packet.Gone to at) d = gone_row k to at (d.table to) d
row k made from (packet.Moved to at hops) d = moved_row k to at hops (d.table to) d
row k made from (packet.Known to hops) d = known_row k hops (d.table to) d
row k made from (packet.Forget to hops) d = forget_row to hops (d.table to) d
row k made from (packet.GoneSeen to) d = goneseen_row k (d.table to) d
