-- What the rules of packets keep.
use Rattle.std.proofs.Common.{ℕ, ◌≤◌, Bool, true, false, nat_eq, nat_lt, nat_le, ◌&&◌, not, List, [], ◌∷◌, length, map, Option, None, Some, cond, refl, arith}
use Rattle.std.specs.List.{filter}
use Rattle.std.proofs.lemmas.List.{length-map}
use Rattle.charlotte_calls.specs.Names.{opposite}
use Rattle.charlotte_calls.specs.declared.calls.Answer.TheVariants as answer
use Rattle.charlotte_calls.specs.declared.calls.Cause.TheVariants as cause
use Rattle.charlotte_calls.specs.declared.calls.ServiceStep.TheVariants as step
use Rattle.charlotte_calls.specs.declared.names.EndId.{EndId}
use Rattle.charlotte_calls.specs.declared.names.Outcome.TheVariants as outcome
use Rattle.charlotte_packets.specs.declared.picture.MovingPicture.{MovingPicture}
use Rattle.charlotte_packets.specs.declared.picture.PictureWhat.{PictureWhat}
use Rattle.charlotte_packets.specs.declared.picture.PictureWhat.TheVariants as packet
use Rattle.end_table.specs.Entries.{left_value, is_news, learned}
use Rattle.end_table.specs.Place.{put}
use Rattle.end_table.specs.declared.entry.Entry.{Entry}
use Rattle.end_table.specs.declared.entry.Entry.TheVariants as entry
use Rattle.end_table.specs.declared.entry.HereView.{HereView}
use Rattle.end_table.specs.declared.entry.Holder.{Holder}
use Rattle.end_table.specs.declared.entry.Holder.TheVariants as holder
use Rattle.end_table.specs.declared.entry.Inward.{Inward}
use Rattle.end_table.specs.declared.entry.Inward.TheVariants as inward
use Rattle.end_table.specs.declared.entry.Outward.TheVariants as outward
use Rattle.transcript_lines.specs.TranscriptText.{IsFew, HasFewPacket}
use Rattle.kernel_step.specs.Actions.{send_report, receive_report, reports, answers, notices, is_withdrawing, learned_view, learns, forgets}
use Rattle.kernel_step.specs.Progress.{Progress, sends, means, keeps}
use Rattle.kernel_step.specs.Rows.{wants, want_here, want_row, voids, unwant_here, unwant_row, frees, unwanted_here, unwanted_row, is_carried, passing, arriving, ends_in, takes, receives}
use Rattle.kernel_step.specs.Rows.{pass_each, sends_back, is_asked, asks, parcel_row, completes, is_matched, awaits, taken_row, gives_back, notices_first, end_arrivals, means_back}
use Rattle.kernel_step.specs.Rows.{is_here, back_row, erases, gone_here, gone_row, moved_here, mark_learns, moved_mark, moved_row, known_here, known_row, forget_row, goneseen_row, row}
use Rattle.kernel_entries.specs.declared.entry.Happened.{Happened}
use Rattle.transcript_record.specs.Told.{HasFewEnds, IsFewEntry}
use Rattle.transcript_record.proofs.Kept.{Kept, IsFewView, few_none, few_fewer, sends-kept, says-kept, keeps-kept, reports-kept, answers-kept, forgets-kept, leaves-kept, match_waiting-kept, ends_idle-kept, notices-kept, resends_on_news-kept, learns-kept, settle_each-kept, tell_arrivals-kept}

-- v is the version, n the stamp of the event, w what happened

-- ---- want

wants-kept : {v n : ℕ} {w : Happened} {d : Progress} (k x at hops : ℕ) (view : HereView) → HasFewEnds v view.outward → Kept v n w d → Kept v n w (wants k x at hops view d)
unfolding wants
wants-kept k x at hops view few kept =
    resends_on_news-kept k view.value hops (learned_view view at hops).value view.inward
    (match_waiting-kept k (record (learned_view view at hops) { value = record (learned_view view at hops).value { want = x } }) view.outward few few kept)

want_here-kept : {v n : ℕ} {w : Happened} {d : Progress} (k x at hops : ℕ) (view : HereView) → HasFewEnds v view.outward → Kept v n w d → Kept v n w (want_here k x at hops view d)
unfolding want_here
want_here-kept {v} {n} {w} {d} k x at hops view few kept =
    elim view.value.dead as (λ b. Kept v n w (cond b d (cond (nat_lt view.value.served x) (wants k x at hops view d) (learns k at hops view d)))) [
      | true ↦ kept
      | false ↦ elim (nat_lt view.value.served x) as (λ b. Kept v n w (cond b (wants k x at hops view d) (learns k at hops view d))) [ true ↦ wants-kept k x at hops view few kept | false ↦ learns-kept k at hops view few kept ]
    ]

want_row-kept : {v n : ℕ} {w : Happened} {d : Progress} (k : ℕ) (to : EndId) (x at hops : ℕ) (e : Entry) → IsFewEntry v e → Kept v n w d → Kept v n w (want_row k to x at hops e d)
want_row-kept k to x at hops entry.Nothing few kept = kept
want_row-kept k to x at hops (entry.Here view) few kept = want_here-kept k x at hops view few kept
want_row-kept k to x at hops (entry.Left there h) few kept = sends-kept there (packet.Want to x at hops) tt kept
want_row-kept k to x at hops (entry.Destroyed m) few kept = kept

-- ---- unwant

voids-kept : {v n : ℕ} {w : Happened} {d : Progress} (k x at hops : ℕ) (view : HereView) → HasFewEnds v view.outward → Kept v n w d → Kept v n w (voids k x at hops view d)
unfolding voids
voids-kept k x at hops view few kept =
    resends_on_news-kept k view.value hops (learned_view view at hops).value view.inward
    (sends-kept at (packet.Unwanted (opposite view.value.end) x k view.value.hops) tt
    (says-kept (step.Withdraw (opposite view.value.end)) tt
    (keeps-kept view.value.end (entry.Here (record (learned_view view at hops) { value = record (learned_view view at hops).value { served = x; want = 0 } })) few kept)))

unwant_here-kept : {v n : ℕ} {w : Happened} {d : Progress} (k x at hops : ℕ) (view : HereView) → HasFewEnds v view.outward → Kept v n w d → Kept v n w (unwant_here k x at hops view d)
unfolding unwant_here
unwant_here-kept {v} {n} {w} {d} k x at hops view few kept =
    elim view.value.dead as (λ b. Kept v n w (cond b d (cond (nat_lt view.value.served x) (voids k x at hops view d) (learns k at hops view d)))) [
      | true ↦ kept
      | false ↦ elim (nat_lt view.value.served x) as (λ b. Kept v n w (cond b (voids k x at hops view d) (learns k at hops view d))) [ true ↦ voids-kept k x at hops view few kept | false ↦ learns-kept k at hops view few kept ]
    ]

unwant_row-kept : {v n : ℕ} {w : Happened} {d : Progress} (k : ℕ) (to : EndId) (x at hops : ℕ) (e : Entry) → IsFewEntry v e → Kept v n w d → Kept v n w (unwant_row k to x at hops e d)
unwant_row-kept k to x at hops entry.Nothing few kept = kept
unwant_row-kept k to x at hops (entry.Here view) few kept = unwant_here-kept k x at hops view few kept
unwant_row-kept k to x at hops (entry.Left there h) few kept = sends-kept there (packet.Unwant to x at hops) tt kept
unwant_row-kept k to x at hops (entry.Destroyed m) few kept = kept

-- ---- unwanted

frees-kept : {v n : ℕ} {w : Happened} {d : Progress} (k at hops : ℕ) (view : HereView) → HasFewEnds v view.outward → Kept v n w d → Kept v n w (frees k at hops view d)
unfolding frees
frees-kept k at hops view few kept =
    resends_on_news-kept k view.value hops (learned_view view at hops).value inward.Idle
    (answers-kept view.holder answer.Ok (says-kept (step.Free view.value.end) tt
    (keeps-kept view.value.end (entry.Here (record (learned_view view at hops) { inward = inward.Idle })) few kept)))

unwanted_here-kept : {v n : ℕ} {w : Happened} {d : Progress} (k x at hops : ℕ) (view : HereView) (i : Inward) → HasFewEnds v view.outward → Kept v n w d → Kept v n w (unwanted_here k x at hops view i d)
unwanted_here-kept k x at hops view inward.Idle few kept = kept
unwanted_here-kept k x at hops view (inward.Posted y) few kept = kept
unwanted_here-kept {v} {n} {w} {d} k x at hops view (inward.Withdrawing y) few kept =
    elim (nat_eq y x) as (λ b. Kept v n w (cond b (frees k at hops view d) d)) [ true ↦ frees-kept k at hops view few kept | false ↦ kept ]
unwanted_here-kept k x at hops view inward.Unreported few kept = kept

unwanted_row-kept : {v n : ℕ} {w : Happened} {d : Progress} (k x at hops : ℕ) (e : Entry) → IsFewEntry v e → Kept v n w d → Kept v n w (unwanted_row k x at hops e d)
unwanted_row-kept k x at hops entry.Nothing few kept = kept
unwanted_row-kept k x at hops (entry.Here view) few kept = unwanted_here-kept k x at hops view view.inward few kept
unwanted_row-kept k x at hops (entry.Left there h) few kept = kept
unwanted_row-kept k x at hops (entry.Destroyed m) few kept = kept

-- ---- values that are carried: no more than came

cond-le : (b : Bool) (m n k : ℕ) → m ≤ k → n ≤ k → cond b m n ≤ k
cond-le true m n k p q = p
cond-le false m n k p q = q

pub length-filter_le : {X : Type 0} (p : X → Bool) (xs : List X) → length (filter p xs) ≤ length xs
length-filter_le p [] = omega arith
length-filter_le p (x ∷ xs) =
    let others = length-filter_le p xs in
    elim (p x) as (λ b. length (cond b (x ∷ filter p xs) (filter p xs)) ≤ length (x ∷ xs)) [ true ↦ omega (arith, others) | false ↦ omega (arith, others) ]

length-arriving_le : (k made : ℕ) (h : Holder) (t : EndId → Entry) (ms : List MovingPicture) → length (arriving k made h t ms) ≤ length ms
length-arriving_le k made h t [] = omega arith
length-arriving_le k made h t (m ∷ ms) =
    let more = arriving k made h (put t m.end (entry.Here (record { value = m; holder = h; outward = outward.Idle; inward = inward.Idle }))) ms in
    elim (is_carried k made t m) as (λ b. length (cond b (m ∷ more) (arriving k made h t ms)) ≤ length (m ∷ ms)) [
      | true ↦ omega (arith, length-arriving_le k made h (put t m.end (entry.Here (record { value = m; holder = h; outward = outward.Idle; inward = inward.Idle }))) ms)
      | false ↦ omega (arith, length-arriving_le k made h t ms)
    ]

few_passing : (v k made : ℕ) (t : EndId → Entry) (ms : List MovingPicture) → IsFew v (length ms) → IsFew v (length (passing k made t ms))
few_passing v k made t ms few = few_fewer v (length (passing k made t ms)) (length ms) (length-filter_le (is_carried k made t) ms) few

few_leaving : (v k : ℕ) (ms : List MovingPicture) → IsFew v (length ms) → IsFew v (length (map (left_value k) ms))
few_leaving v k ms few = few_fewer v (length (map (left_value k) ms)) (length ms) (omega (arith, length-map ms (left_value k))) few

few_arriving : (v k made : ℕ) (h : Holder) (t : EndId → Entry) (ms : List MovingPicture) → IsFew v (length ms) → IsFew v (length (ends_in (arriving k made h t ms)))
few_arriving v k made h t ms few =
    few_fewer v (length (ends_in (arriving k made h t ms))) (length ms) (omega (arith, length-map (arriving k made h t ms) (λ m. m.end), length-arriving_le k made h t ms)) few

-- ---- parcel

takes-kept : {v n : ℕ} {w : Happened} {d : Progress} (e : EndId) (send : ℕ) (late : Bool) (h : Holder) → Kept v n w d → Kept v n w (takes e send late h d)
takes-kept e send late (holder.Owner p) kept = says-kept (step.Take (opposite e) send p late) tt kept
takes-kept e send late (holder.EnclosedIn on) kept = kept

receives-kept : {v n : ℕ} {w : Happened} {d : Progress} (k send at hops : ℕ) (bytes : List ℕ) (xs : List EndId) (view : HereView) → HasFewEnds v view.outward → IsFew v (length xs) → Kept v n w d → Kept v n w (receives k send at hops bytes xs view d)
unfolding receives
receives-kept {v} {n} {w} {d} k send at hops bytes xs view few few_xs kept =
    let e : EndId = view.value.end in
    let late : Bool = is_withdrawing view.inward in
    let now : Progress = reports view.holder (receive_report e bytes xs) (takes e send late view.holder (keeps e (entry.Here (record (learned_view view at hops) { inward = inward.Unreported })) d)) in
    let reported : Kept v n w now =
    reports-kept view.holder (receive_report e bytes xs) few_xs (takes-kept e send late view.holder (keeps-kept e (entry.Here (record (learned_view view at hops) { inward = inward.Unreported })) few kept)) in
    sends-kept at (packet.Taken (opposite e) send k view.value.hops) tt
    (elim late as (λ b. Kept v n w (cond b (answers view.holder (answer.Refused cause.Late) now) now)) [ true ↦ answers-kept view.holder (answer.Refused cause.Late) reported | false ↦ reported ])

pass_each-kept : {v n : ℕ} {w : Happened} (at : ℕ) (ms : List MovingPicture) {d : Progress} → Kept v n w d → Kept v n w (pass_each at ms d)
unfolding pass_each
pass_each-kept at [] kept = kept
pass_each-kept at (m ∷ ms) kept = pass_each-kept at ms (leaves-kept at m kept)

sends_back-kept : {v n : ℕ} {w : Happened} {d : Progress} (k : ℕ) (to : EndId) (send at : ℕ) (ms : List MovingPicture) → IsFew v (length ms) → Kept v n w d → Kept v n w (sends_back k to send at ms d)
unfolding sends_back
sends_back-kept {v} k to send at ms few kept =
    sends-kept at (packet.Back (opposite to) send (map (left_value k) ms)) (few_leaving v k ms few) (pass_each-kept at ms kept)

asks-few : (v x : ℕ) (e : Entry) → IsFewEntry v e → IsFewView v (asks x e)
asks-few v x entry.Nothing few = tt
asks-few v x (entry.Here view) few = elim (is_asked x view.inward) as (λ b. IsFewView v (cond b (Some view) None)) [ true ↦ few | false ↦ tt ]
asks-few v x (entry.Left to hops) few = tt
asks-few v x (entry.Destroyed m) few = tt

awaits-few : (v x : ℕ) (e : Entry) → IsFewEntry v e → IsFewView v (awaits x e)
awaits-few v x entry.Nothing few = tt
awaits-few v x (entry.Here view) few = elim (is_matched x view.outward) as (λ b. IsFewView v (cond b (Some view) None)) [ true ↦ few | false ↦ tt ]
awaits-few v x (entry.Left to hops) few = tt
awaits-few v x (entry.Destroyed m) few = tt

parcel_row-kept : {v n : ℕ} {w : Happened} {d : Progress} (k made : ℕ) (to : EndId) (send at hops : ℕ) (bytes : List ℕ) (ms : List MovingPicture) (o : Option HereView) → IsFewView v o → IsFew v (length ms) → Kept v n w d → Kept v n w (parcel_row k made to send at hops bytes ms o d)
parcel_row-kept {v} {n} {w} {d} k made to send at hops bytes ms None few few_ms kept =
    sends_back-kept k to send at (passing k made d.table ms) (few_passing v k made d.table ms few_ms) kept
parcel_row-kept {v} {n} {w} {d} k made to send at hops bytes ms (Some view) few few_ms kept =
    let came : List MovingPicture = arriving k made view.holder d.table ms in
    resends_on_news-kept k view.value hops (learned at hops view.value) inward.Unreported
    (tell_arrivals-kept k came
    (receives-kept k send at hops bytes (ends_in came) view few (few_arriving v k made view.holder d.table ms few_ms) (settle_each-kept view.holder came kept)))

-- ---- taken

completes-kept : {v n : ℕ} {w : Happened} {d : Progress} (k send at hops : ℕ) (view : HereView) → Kept v n w d → Kept v n w (completes k send at hops view d)
unfolding completes
completes-kept {v} k send at hops view kept =
    let e : EndId = view.value.end in
    let done : HereView = record (learned_view view at hops) { outward = outward.Unreported } in
    resends_on_news-kept k view.value hops done.value view.inward
    (reports-kept view.holder (send_report e outcome.Done []) (refl, refl)
    (says-kept (step.Complete e send) tt (keeps-kept e (entry.Here done) (few_none v) kept)))

taken_row-kept : {v n : ℕ} {w : Happened} {d : Progress} (k send at hops : ℕ) (o : Option HereView) → Kept v n w d → Kept v n w (taken_row k send at hops o d)
taken_row-kept k send at hops None kept = kept
taken_row-kept k send at hops (Some view) kept = completes-kept k send at hops view kept

-- ---- back

gives_back-kept : {v n : ℕ} {w : Happened} {d : Progress} (came : List MovingPicture) (view : HereView) → IsFew v (length (ends_in came)) → Kept v n w d → Kept v n w (gives_back came view d)
unfolding gives_back
gives_back-kept {v} came view few kept =
    settle_each-kept view.holder came
    (reports-kept view.holder (send_report view.value.end outcome.Destroyed (ends_in came)) (refl, few)
    (keeps-kept view.value.end (entry.Here (record view { outward = outward.Unreported })) (few_none v) kept))

notices_first-kept : {v n : ℕ} {w : Happened} {d : Progress} (k from : ℕ) (view : HereView) → HasFewEnds v view.outward → Kept v n w d → Kept v n w (notices_first k from view d)
unfolding notices_first
notices_first-kept {v} {n} {w} {d} k from view few kept =
    elim view.value.dead as (λ b. Kept v n w (cond b d (sends from (packet.GoneSeen (opposite view.value.end)) (notices k view d)))) [
      | true ↦ kept
      | false ↦ sends-kept from (packet.GoneSeen (opposite view.value.end)) tt (notices-kept k view few kept)
    ]

end_arrivals-kept : {v n : ℕ} {w : Happened} (k : ℕ) (ms : List MovingPicture) {d : Progress} → Kept v n w d → Kept v n w (end_arrivals k ms d)
unfolding end_arrivals
end_arrivals-kept k [] kept = kept
end_arrivals-kept k (m ∷ ms) kept = end_arrivals-kept k ms (ends_idle-kept k m kept)

means_back-kept : {v n : ℕ} {w : Happened} {d : Progress} (to : EndId) (send : ℕ) (b : Bool) (ms : List MovingPicture) → Kept v n w d → Kept v n w (means_back to send b ms d)
means_back-kept to send true [] kept = kept
means_back-kept to send true (m ∷ ms) kept = says-kept (step.Back to send false) tt kept
means_back-kept to send false ms kept = says-kept (step.Back to send false) tt kept

back_row-kept : {v n : ℕ} {w : Happened} {d : Progress} (k made from : ℕ) (to : EndId) (send : ℕ) (ms : List MovingPicture) (o : Option HereView) → IsFew v (length ms) → Kept v n w d → Kept v n w (back_row k made from to send ms o d)
back_row-kept {v} {n} {w} {d} k made from to send ms None few kept =
    end_arrivals-kept k (passing k made d.table ms) (means_back-kept to send (is_here (d.table to)) (passing k made d.table ms) kept)
back_row-kept {v} {n} {w} {d} k made from to send ms (Some view) few kept =
    let came : List MovingPicture = arriving k made view.holder d.table ms in
    tell_arrivals-kept k came (notices_first-kept k from (record view { outward = outward.Unreported }) (few_none v)
    (gives_back-kept came view (few_arriving v k made view.holder d.table ms few)
    (says-kept (step.Back to send (not view.value.dead && is_withdrawing view.inward)) tt kept)))

-- ---- gone, moved, known, forget, goneseen

erases-kept : {v n : ℕ} {w : Happened} {d : Progress} (k : ℕ) (m : MovingPicture) → Kept v n w d → Kept v n w (erases k m d)
unfolding erases
erases-kept k m kept = keeps-kept m.end entry.Nothing tt (forgets-kept k m kept)

gone_here-kept : {v n : ℕ} {w : Happened} {d : Progress} (k at : ℕ) (view : HereView) → HasFewEnds v view.outward → Kept v n w d → Kept v n w (gone_here k at view d)
unfolding gone_here
gone_here-kept {v} {n} {w} {d} k at view few kept =
    let told : Progress = means (step.Notice view.value.end (is_withdrawing view.inward)) d in
    elim view.value.dead as (λ b. Kept v n w (cond b (sends at (packet.GoneSeen (opposite view.value.end)) d) (notices_first k at view told))) [
      | true ↦ sends-kept at (packet.GoneSeen (opposite view.value.end)) tt kept
      | false ↦ notices_first-kept k at view few (says-kept (step.Notice view.value.end (is_withdrawing view.inward)) tt kept)
    ]

gone_row-kept : {v n : ℕ} {w : Happened} {d : Progress} (k : ℕ) (to : EndId) (at : ℕ) (e : Entry) → IsFewEntry v e → Kept v n w d → Kept v n w (gone_row k to at e d)
gone_row-kept k to at entry.Nothing few kept = kept
gone_row-kept k to at (entry.Here view) few kept = gone_here-kept k at view few kept
gone_row-kept k to at (entry.Left there h) few kept = sends-kept there (packet.Gone to at) tt kept
gone_row-kept k to at (entry.Destroyed m) few kept = erases-kept k m (sends-kept at (packet.GoneSeen (opposite to)) tt kept)

moved_here-kept : {v n : ℕ} {w : Happened} {d : Progress} (k at hops : ℕ) (view : HereView) → HasFewEnds v view.outward → Kept v n w d → Kept v n w (moved_here k at hops view d)
unfolding moved_here
moved_here-kept {v} {n} {w} {d} k at hops view few kept =
    elim view.value.dead as (λ b. Kept v n w (cond b d (sends at (packet.Known (opposite view.value.end) hops) (learns k at hops view d)))) [
      | true ↦ kept
      | false ↦ sends-kept at (packet.Known (opposite view.value.end) hops) tt (learns-kept k at hops view few kept)
    ]

mark_learns-kept : {v n : ℕ} {w : Happened} {d : Progress} (to : EndId) (at hops : ℕ) (m : MovingPicture) → Kept v n w d → Kept v n w (mark_learns to at hops m d)
mark_learns-kept {v} {n} {w} {d} to at hops m kept =
    elim (is_news m hops) as (λ b. Kept v n w (cond b (keeps to (entry.Destroyed (learned at hops m)) d) d)) [ true ↦ keeps-kept to (entry.Destroyed (learned at hops m)) tt kept | false ↦ kept ]

moved_mark-kept : {v n : ℕ} {w : Happened} {d : Progress} (k : ℕ) (to : EndId) (at hops : ℕ) (m : MovingPicture) → Kept v n w d → Kept v n w (moved_mark k to at hops m d)
unfolding moved_mark
moved_mark-kept k to at hops m kept = sends-kept at (packet.Gone (opposite to) k) tt (mark_learns-kept to at hops m kept)

moved_row-kept : {v n : ℕ} {w : Happened} {d : Progress} (k : ℕ) (to : EndId) (at hops : ℕ) (e : Entry) → IsFewEntry v e → Kept v n w d → Kept v n w (moved_row k to at hops e d)
moved_row-kept k to at hops entry.Nothing few kept = kept
moved_row-kept k to at hops (entry.Here view) few kept = moved_here-kept k at hops view few kept
moved_row-kept k to at hops (entry.Left there h) few kept = sends-kept there (packet.Moved to at hops) tt kept
moved_row-kept k to at hops (entry.Destroyed m) few kept = moved_mark-kept k to at hops m kept

known_here-kept : {v n : ℕ} {w : Happened} {d : Progress} (k hops : ℕ) (view : HereView) → HasFewEnds v view.outward → Kept v n w d → Kept v n w (known_here k hops view d)
unfolding known_here
known_here-kept {v} {n} {w} {d} k hops view few kept =
    let known : HereView = record view { value = record view.value { trail = 0 } } in
    elim (not view.value.dead && nat_eq view.value.hops hops) as (λ b. Kept v n w (cond b (keeps view.value.end (entry.Here known) (forgets k view.value d)) d)) [
      | true ↦ keeps-kept view.value.end (entry.Here known) few (forgets-kept k view.value kept)
      | false ↦ kept
    ]

known_row-kept : {v n : ℕ} {w : Happened} {d : Progress} (k hops : ℕ) (e : Entry) → IsFewEntry v e → Kept v n w d → Kept v n w (known_row k hops e d)
known_row-kept k hops entry.Nothing few kept = kept
known_row-kept k hops (entry.Here view) few kept = known_here-kept k hops view few kept
known_row-kept k hops (entry.Left there h) few kept = kept
known_row-kept k hops (entry.Destroyed m) few kept = kept

forget_row-kept : {v n : ℕ} {w : Happened} {d : Progress} (to : EndId) (hops : ℕ) (e : Entry) → Kept v n w d → Kept v n w (forget_row to hops e d)
forget_row-kept to hops entry.Nothing kept = kept
forget_row-kept to hops (entry.Here view) kept = kept
forget_row-kept {v} {n} {w} {d} to hops (entry.Left there h) kept =
    elim (nat_le h hops) as (λ b. Kept v n w (cond b (keeps to entry.Nothing d) d)) [ true ↦ keeps-kept to entry.Nothing tt kept | false ↦ kept ]
forget_row-kept to hops (entry.Destroyed m) kept = kept

goneseen_row-kept : {v n : ℕ} {w : Happened} {d : Progress} (k : ℕ) (e : Entry) → Kept v n w d → Kept v n w (goneseen_row k e d)
goneseen_row-kept k entry.Nothing kept = kept
goneseen_row-kept k (entry.Here view) kept = kept
goneseen_row-kept k (entry.Left there h) kept = kept
goneseen_row-kept k (entry.Destroyed m) kept = erases-kept k m kept

-- every rule
pub row-kept : {v n : ℕ} {w : Happened} {d : Progress} (k made from : ℕ) (q : PictureWhat) → HasFewPacket v q → Kept v n w d → Kept v n w (row k made from q d)
row-kept {v} {n} {w} {d} k made from (packet.Want to x at hops) few kept = want_row-kept k to x at hops (d.table to) (kept.table to) kept
row-kept {v} {n} {w} {d} k made from (packet.Unwant to x at hops) few kept = unwant_row-kept k to x at hops (d.table to) (kept.table to) kept
row-kept {v} {n} {w} {d} k made from (packet.Unwanted to x at hops) few kept = unwanted_row-kept k x at hops (d.table to) (kept.table to) kept
row-kept {v} {n} {w} {d} k made from (packet.Parcel to send x at hops bytes ms) few kept =
    parcel_row-kept k made to send at hops bytes ms (asks x (d.table to)) (asks-few v x (d.table to) (kept.table to)) few kept
row-kept {v} {n} {w} {d} k made from (packet.Taken to send at hops) few kept = taken_row-kept k send at hops (awaits send (d.table to)) kept
row-kept {v} {n} {w} {d} k made from (packet.Back to send ms) few kept = back_row-kept k made from to send ms (awaits send (d.table to)) few kept
row-kept {v} {n} {w} {d} k made from (packet.Gone to at) few kept = gone_row-kept k to at (d.table to) (kept.table to) kept
row-kept {v} {n} {w} {d} k made from (packet.Moved to at hops) few kept = moved_row-kept k to at hops (d.table to) (kept.table to) kept
row-kept {v} {n} {w} {d} k made from (packet.Known to hops) few kept = known_row-kept k hops (d.table to) (kept.table to) kept
row-kept {v} {n} {w} {d} k made from (packet.Forget to hops) few kept = forget_row-kept to hops (d.table to) kept
row-kept {v} {n} {w} {d} k made from (packet.GoneSeen to) few kept = goneseen_row-kept k (d.table to) kept
