-- What each packet does, by the entry of the end that it is addressed to. k is this kernel, t what it keeps of each end, to the
-- end addressed, v its view where it is here; at and hops are kernel and hop count of the end that sent the packet.
use Rattle.std.specs.Prelude.{ℕ, Bool, true, false, nat_eq, nat_lt, nat_le, ◌&&◌, not}
use Rattle.std.specs.Prelude.{List, [], ◌∷◌, ◌++◌, map, if◌then◌else◌, Option, Some, None}
use Rattle.std.specs.List.{flat_map}
use Rattle.charlotte_calls.specs.Names.{opposite}
use Rattle.charlotte_calls.specs.declared.calls.Answer.TheVariants as answer
use Rattle.charlotte_calls.specs.declared.calls.Cause.TheVariants as cause
use Rattle.charlotte_calls.specs.declared.calls.ServiceStep.{ServiceStep}
use Rattle.charlotte_calls.specs.declared.calls.ServiceStep.TheVariants as step
use Rattle.charlotte_calls.specs.declared.names.EndId.{EndId}
use Rattle.charlotte_calls.specs.declared.names.Outcome.TheVariants as outcome
use Rattle.charlotte_packets.specs.declared.picture.MovingPicture.{MovingPicture}
use Rattle.charlotte_packets.specs.declared.picture.PictureWhat.{PictureWhat}
use Rattle.charlotte_packets.specs.declared.picture.PictureWhat.TheVariants as packet
use Rattle.end_table.specs.Entries.{left_value, learned, settled}
use Rattle.end_table.specs.declared.entry.Entry.{Entry}
use Rattle.end_table.specs.declared.entry.Entry.TheVariants as entry
use Rattle.end_table.specs.declared.entry.HereView.{HereView}
use Rattle.end_table.specs.declared.entry.Holder.{Holder}
use Rattle.end_table.specs.declared.entry.Holder.TheVariants as holder
use Rattle.end_table.specs.declared.entry.Inward.{Inward}
use Rattle.end_table.specs.declared.entry.Inward.TheVariants as inward
use Rattle.end_table.specs.declared.entry.Outward.TheVariants as outward
use Rattle.kernel_step.specs.Actions.{learned_view, is_withdrawing, send_report, receive_report}
use Rattle.kernel_step.specs.Rows.{is_here, passing, arriving, ends_in, asks, awaits}
use Rattle.kernel_effects.specs.Effect.{Effect, changed, sent, nothing, puts, stays, brings, for_holder}
use Rattle.kernel_effects.specs.Actions.{arrival_packets, cancel_notice, ends_arrivals, forget_packets, learn_effect}
use Rattle.kernel_effects.specs.Actions.{match_waiting_effect, news_packets, notice_effect, noticed_view, passes_each, receive_notice}

-- the packets that go again where this news reaches a view
abbrev pub view_news : ℕ → ℕ → ℕ → HereView → Inward → List (ℕ × PictureWhat)
view_news k at hops v i = news_packets k v.value hops (learned at hops v.value) i

-- ---- want and unwant

-- a view at which the receive w is asked for
abbrev pub asked_view : ℕ → ℕ → ℕ → HereView → HereView
asked_view w at hops v = record v { value = record (learned at hops v.value) { want = w } }

-- a view at which the receive w was withdrawn
abbrev pub voided_view : ℕ → ℕ → ℕ → HereView → HereView
voided_view w at hops v = record v { value = record (learned at hops v.value) { served = w; want = 0 } }

-- want of a receive that was not matched or withdrawn
abbrev pub wants_effect : ℕ → (EndId → Entry) → ℕ → ℕ → ℕ → HereView → Effect
wants_effect k t w at hops v =
    let asked = match_waiting_effect k t (asked_view w at hops v) v.outward in
    record asked { packets = asked.packets ++ view_news k at hops v v.inward }

-- unwant of one
abbrev pub voids_effect : ℕ → ℕ → ℕ → ℕ → HereView → Effect
voids_effect k w at hops v =
    record nothing {
      entry = puts v.value.end (entry.Here (voided_view w at hops v)) stays;
      packets = (at, packet.Unwanted (opposite v.value.end) w k v.value.hops) ∷ view_news k at hops v v.inward;
      steps = step.Withdraw (opposite v.value.end) ∷ [];
    }

-- a dead end takes neither, and one that served the receive only learns
abbrev pub unserved : ℕ → ℕ → ℕ → ℕ → HereView → Effect → Effect
unserved k w at hops v effect = if v.value.dead then nothing else if nat_lt v.value.served w then effect else learn_effect k at hops v

abbrev pub want_effect : ℕ → (EndId → Entry) → EndId → ℕ → ℕ → ℕ → Entry → Effect
want_effect k t to w at hops entry.Nothing = nothing
want_effect k t to w at hops (entry.Here v) = unserved k w at hops v (wants_effect k t w at hops v)
want_effect k t to w at hops (entry.Left there h) = sent ((there, packet.Want to w at hops) ∷ [])
want_effect k t to w at hops (entry.Destroyed m) = nothing

abbrev pub unwant_effect : ℕ → EndId → ℕ → ℕ → ℕ → Entry → Effect
unwant_effect k to w at hops entry.Nothing = nothing
unwant_effect k to w at hops (entry.Here v) = unserved k w at hops v (voids_effect k w at hops v)
unwant_effect k to w at hops (entry.Left there h) = sent ((there, packet.Unwant to w at hops) ∷ [])
unwant_effect k to w at hops (entry.Destroyed m) = nothing

-- ---- unwanted: the Cancel of the receive w is answered

abbrev pub frees_effect : ℕ → ℕ → ℕ → HereView → Effect
frees_effect k at hops v =
    record nothing {
      entry = puts v.value.end (entry.Here (record (learned_view v at hops) { inward = inward.Idle })) stays;
      packets = view_news k at hops v inward.Idle;
      answers = for_holder v.holder (answer.Ok ∷ []);
      steps = step.Free v.value.end ∷ [];
    }

abbrev pub unwanted_here_effect : ℕ → ℕ → ℕ → ℕ → HereView → Inward → Effect
unwanted_here_effect k w at hops v inward.Idle = nothing
unwanted_here_effect k w at hops v (inward.Posted x) = nothing
unwanted_here_effect k w at hops v (inward.Withdrawing x) = if nat_eq x w then frees_effect k at hops v else nothing
unwanted_here_effect k w at hops v inward.Unreported = nothing

abbrev pub unwanted_effect : ℕ → ℕ → ℕ → ℕ → Entry → Effect
unwanted_effect k w at hops entry.Nothing = nothing
unwanted_effect k w at hops (entry.Here v) = unwanted_here_effect k w at hops v v.inward
unwanted_effect k w at hops (entry.Left there h) = nothing
unwanted_effect k w at hops (entry.Destroyed m) = nothing

-- ---- parcel

-- the service step of a message that is taken
abbrev pub take_steps : EndId → ℕ → Bool → Holder → List ServiceStep
take_steps e n late (holder.Owner p) = step.Take (opposite e) n p late ∷ []
take_steps e n late (holder.EnclosedIn on) = []

-- a view whose receive took its message
abbrev pub taken_view : ℕ → ℕ → HereView → HereView
taken_view at hops v = record (learned_view v at hops) { inward = inward.Unreported }

-- at its receive: the message is taken, and the ends that came with it are Here
abbrev pub receives_effect : ℕ → ℕ → ℕ → ℕ → List ℕ → List MovingPicture → HereView → Effect
receives_effect k n at hops bytes came v =
    let e = v.value.end in
    let late = is_withdrawing v.inward in
    record {
      entry = puts e (entry.Here (taken_view at hops v)) (brings came (λ m. entry.Here (settled v.holder m)) stays);
      packets =
          (at, packet.Taken (opposite e) n k v.value.hops) ∷ (flat_map (arrival_packets k) came ++ view_news k at hops v inward.Unreported);
      reports = for_holder v.holder (receive_report e bytes (ends_in came) ∷ []);
      answers = for_holder v.holder (if late then answer.Refused cause.Late ∷ [] else []);
      steps = take_steps e n late v.holder;
    }

-- anywhere else it goes back with its ends
abbrev pub sends_back_effect : ℕ → EndId → ℕ → ℕ → List MovingPicture → Effect
sends_back_effect k to n at ms = record (passes_each at ms) { packets = (at, packet.Back (opposite to) n (map (left_value k) ms)) ∷ [] }

abbrev pub parcel_effect : ℕ → ℕ → (EndId → Entry) → EndId → ℕ → ℕ → ℕ → List ℕ → List MovingPicture → Option HereView → Effect
parcel_effect k made t to n at hops bytes ms None = sends_back_effect k to n at (passing k made t ms)
parcel_effect k made t to n at hops bytes ms (Some v) = receives_effect k n at hops bytes (arriving k made v.holder t ms) v

-- ---- taken: the send n is completed

abbrev pub completes_effect : ℕ → ℕ → ℕ → ℕ → HereView → Effect
completes_effect k n at hops v =
    record {
      entry = puts v.value.end (entry.Here (record (learned_view v at hops) { outward = outward.Unreported })) stays;
      packets = view_news k at hops v v.inward;
      reports = for_holder v.holder (send_report v.value.end outcome.Done [] ∷ []);
      answers = [];
      steps = step.Complete v.value.end n ∷ [];
    }

abbrev pub taken_effect : ℕ → ℕ → ℕ → ℕ → Option HereView → Effect
taken_effect k n at hops None = nothing
taken_effect k n at hops (Some v) = completes_effect k n at hops v

-- ---- back

-- the sender's end as its message comes back
abbrev pub returned_view : HereView → HereView
returned_view v = record v { outward = outward.Unreported }

-- at its send, where the death was noticed before: the ends that came with it are the sender's again
abbrev pub returns_effect : ℕ → EndId → ℕ → List MovingPicture → HereView → Effect
returns_effect k to n came v =
    let e = v.value.end in
    record {
      entry = puts e (entry.Here (returned_view v)) (brings came (λ m. entry.Here (settled v.holder m)) stays);
      packets = flat_map (arrival_packets k) came;
      reports = for_holder v.holder (send_report e outcome.Destroyed (ends_in came) ∷ []);
      answers = [];
      steps = step.Back to n false ∷ [];
    }

-- and where it is noticed now
abbrev pub returns_first_effect : ℕ → ℕ → EndId → ℕ → List MovingPicture → HereView → Effect
returns_first_effect k from to n came v =
    let e = v.value.end in
    record {
      entry = puts e (entry.Here (noticed_view (returned_view v))) (brings came (λ m. entry.Here (settled v.holder m)) stays);
      packets = forget_packets k v.value ++ (from, packet.GoneSeen (opposite e)) ∷ flat_map (arrival_packets k) came;
      reports = for_holder v.holder (send_report e outcome.Destroyed (ends_in came) ∷ receive_notice e v.inward);
      answers = for_holder v.holder (cancel_notice v.inward);
      steps = step.Back to n (is_withdrawing v.inward) ∷ [];
    }

-- what a back means to the service where it meets no send: nothing, where the end is here and it carries none
abbrev pub back_steps : EndId → ℕ → Bool → List MovingPicture → List ServiceStep
back_steps to n true [] = []
back_steps to n true (m ∷ ms) = step.Back to n false ∷ []
back_steps to n false ms = step.Back to n false ∷ []

abbrev pub back_effect : ℕ → ℕ → (EndId → Entry) → ℕ → EndId → ℕ → List MovingPicture → Option HereView → Effect
back_effect k made t from to n ms None =
    let passed = passing k made t ms in
    record (ends_arrivals k passed) { steps = back_steps to n (is_here (t to)) passed }
back_effect k made t from to n ms (Some v) =
    let came = arriving k made v.holder t ms in
    if v.value.dead then returns_effect k to n came v else returns_first_effect k from to n came v

-- ---- the packets of retiring

-- a mark is erased
abbrev pub erase_effect : ℕ → MovingPicture → Effect
erase_effect k m = record (sent (forget_packets k m)) { entry = puts m.end entry.Nothing stays }

abbrev pub gone_effect : ℕ → EndId → ℕ → Entry → Effect
gone_effect k to at entry.Nothing = nothing
gone_effect k to at (entry.Here v) =
    if v.value.dead
    then sent ((at, packet.GoneSeen (opposite v.value.end)) ∷ [])
    else record (notice_effect k v) {
      packets = forget_packets k v.value ++ (at, packet.GoneSeen (opposite v.value.end)) ∷ [];
      steps = step.Notice v.value.end (is_withdrawing v.inward) ∷ [];
    }
gone_effect k to at (entry.Left there h) = sent ((there, packet.Gone to at) ∷ [])
gone_effect k to at (entry.Destroyed m) = record (erase_effect k m) { packets = (at, packet.GoneSeen (opposite to)) ∷ forget_packets k m }

abbrev pub moved_effect : ℕ → EndId → ℕ → ℕ → Entry → Effect
moved_effect k to at hops entry.Nothing = nothing
moved_effect k to at hops (entry.Here v) =
    if v.value.dead
    then nothing
    else record (learn_effect k at hops v) {
      packets = view_news k at hops v v.inward ++ (at, packet.Known (opposite v.value.end) hops) ∷ [];
    }
moved_effect k to at hops (entry.Left there h) = sent ((there, packet.Moved to at hops) ∷ [])
moved_effect k to at hops (entry.Destroyed m) =
    record (sent ((at, packet.Gone (opposite to) k) ∷ [])) { entry = puts to (entry.Destroyed (learned at hops m)) stays }

abbrev pub known_effect : ℕ → ℕ → Entry → Effect
known_effect k hops entry.Nothing = nothing
known_effect k hops (entry.Here v) =
    if not v.value.dead && nat_eq v.value.hops hops
    then record (sent (forget_packets k v.value)) {
      entry = puts v.value.end (entry.Here (record v { value = record v.value { trail = 0 } })) stays;
    }
    else nothing
known_effect k hops (entry.Left there h) = nothing
known_effect k hops (entry.Destroyed m) = nothing

abbrev pub forget_effect : EndId → ℕ → Entry → Effect
forget_effect to hops entry.Nothing = nothing
forget_effect to hops (entry.Here v) = nothing
forget_effect to hops (entry.Left there h) = if nat_le h hops then changed (puts to entry.Nothing stays) else nothing
forget_effect to hops (entry.Destroyed m) = nothing

abbrev pub goneseen_effect : ℕ → Entry → Effect
goneseen_effect k entry.Nothing = nothing
goneseen_effect k (entry.Here v) = nothing
goneseen_effect k (entry.Left there h) = nothing
goneseen_effect k (entry.Destroyed m) = erase_effect k m

-- ---- any packet from a kernel, at kernel k, which has made so many links

abbrev pub row_effect : ℕ → ℕ → ℕ → (EndId → Entry) → PictureWhat → Effect
row_effect k made from t (packet.Want to w at hops) = want_effect k t to w at hops (t to)
row_effect k made from t (packet.Unwant to w at hops) = unwant_effect k to w at hops (t to)
row_effect k made from t (packet.Unwanted to w at hops) = unwanted_effect k w at hops (t to)
row_effect k made from t (packet.Parcel to n w at hops bytes ms) = parcel_effect k made t to n at hops bytes ms (asks w (t to))
row_effect k made from t (packet.Taken to n at hops) = taken_effect k n at hops (awaits n (t to))
row_effect k made from t (packet.Back to n ms) = back_effect k made t from to n ms (awaits n (t to))
row_effect k made from t (packet.Gone to at) = gone_effect k to at (t to)
row_effect k made from t (packet.Moved to at hops) = moved_effect k to at hops (t to)
row_effect k made from t (packet.Known to hops) = known_effect k hops (t to)
row_effect k made from t (packet.Forget to hops) = forget_effect to hops (t to)
row_effect k made from t (packet.GoneSeen to) = goneseen_effect k (t to)

-- the values that a packet carries
abbrev pub values_in : PictureWhat → List MovingPicture
values_in (packet.Parcel to n w at hops bytes ms) = ms
values_in (packet.Back to n ms) = ms
values_in what = []
