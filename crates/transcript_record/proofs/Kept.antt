-- What the actions of an event keep: what an event sends, reports and means can be told by a transcript, and its packets have its stamp.
use Rattle.std.proofs.Common.{◌≡◌, ℕ, ◌≤◌, true, false, nat_eq, ◌&&◌, not, List, [], ◌∷◌, length, All, Option, None, Some, cond, refl, arith, length-append}
use Rattle.std.specs.List.{fold}
use Rattle.std.specs.Int.{bit_at}
use Rattle.std.proofs.lemmas.List.Elements.{All-push}
use Rattle.charlotte_calls.specs.Names.{opposite}
use Rattle.charlotte_calls.specs.declared.calls.Answer.{Answer}
use Rattle.charlotte_calls.specs.declared.calls.Answer.TheVariants as answer
use Rattle.charlotte_calls.specs.declared.calls.Cause.TheVariants as cause
use Rattle.charlotte_calls.specs.declared.calls.Report.{Report}
use Rattle.charlotte_calls.specs.declared.calls.ServiceStep.{ServiceStep}
use Rattle.charlotte_calls.specs.declared.calls.ServiceStep.TheVariants as step
use Rattle.charlotte_calls.specs.declared.names.EndId.{EndId}
use Rattle.charlotte_calls.specs.declared.names.Outcome.TheVariants as outcome
use Rattle.charlotte_calls.specs.declared.names.Pid.{Pid}
use Rattle.charlotte_packets.specs.declared.picture.MovingPicture.{MovingPicture}
use Rattle.charlotte_packets.specs.declared.picture.Picture.{Picture}
use Rattle.charlotte_packets.specs.declared.picture.PictureWhat.{PictureWhat}
use Rattle.charlotte_packets.specs.declared.picture.PictureWhat.TheVariants as packet
use Rattle.end_table.specs.Entries.{gains_one, left_entry, ended_entry, is_news, settled}
use Rattle.end_table.specs.Owned.{owned, is_owner}
use Rattle.end_table.specs.Place.{put, end_eq}
use Rattle.end_table.specs.declared.entry.Entry.{Entry}
use Rattle.end_table.specs.declared.entry.Entry.TheVariants as entry
use Rattle.end_table.specs.declared.entry.HereView.{HereView}
use Rattle.end_table.specs.declared.entry.Holder.{Holder}
use Rattle.end_table.specs.declared.entry.Holder.TheVariants as holder
use Rattle.end_table.specs.declared.entry.Inward.{Inward}
use Rattle.end_table.specs.declared.entry.Inward.TheVariants as inward
use Rattle.end_table.specs.declared.entry.Outward.{Outward}
use Rattle.end_table.specs.declared.entry.Outward.TheVariants as outward
use Rattle.transcript_lines.specs.TranscriptText.{IsFew, HasFewPacket, IsShownStep}
use Rattle.kernel_step.specs.Actions.{here, hint_kernel, enclosed_of, reports, answers, send_report, dead_receive_report, kernel_numbers, forget_at, forgets, leaves, leaves_here, leave_each}
use Rattle.kernel_step.specs.Actions.{value_leaving, values_leaving, matches, match_waiting, tells_gone, ends_idle, ends_idle_here, end_each, ends, held, hold_each, noticed_outward, notice_send}
use Rattle.kernel_step.specs.Actions.{notice_receive, notices, learned_view, resends_receive, tells_moved, resends, resends_on_news, learns, settle_each, tells_arrival, tell_arrivals}
use Rattle.kernel_step.specs.Progress.{Progress, sends, reports_to, answers_to, means, keeps}
use Rattle.kernel_entries.specs.declared.entry.Happened.{Happened}
use Rattle.kernel_entries.specs.declared.entry.Happened.TheVariants.{Asked, Took}
use Rattle.transcript_record.specs.Told.{HasFewEnds, IsFewEntry, IsToldReport}

-- v is the version, n the stamp of the event, w what happened

abbrev pub IsFewView : ℕ → Option HereView → Type 0
IsFewView v None = Unit {0}
IsFewView v (Some view) = HasFewEnds v view.outward

abbrev pub IsFewSent : ℕ → ℕ → ℕ × Picture → Type 0
IsFewSent v n sent = (sent.1.stamp ≡ n) × HasFewPacket v sent.1.what

abbrev pub IsToldSent : ℕ → Pid × Report → Type 0
IsToldSent v r = IsToldReport v r.1

pub record Kept (v n : ℕ) (w : Happened) (d : Progress) : Type 0 where
  pub stamp : d.stamp ≡ n
  pub table : (e : EndId) → IsFewEntry v (d.table e)
  pub packets : All (IsFewSent v n) d.packets
  pub reports : All (IsToldSent v) d.reports
  pub steps : All (IsShownStep v w) d.steps

pub few_none : (v : ℕ) → IsFew v 0
few_none v = omega arith

pub few_fewer : (v m n : ℕ) → m ≤ n → IsFew v n → IsFew v m
few_fewer v m n le few = omega arith

-- steps whose line shows all of them
abbrev pub IsPlain : ServiceStep → Type 0
IsPlain (step.Make p a b) = ⊥
IsPlain (step.Refuse p c cause) = ⊥
IsPlain (step.Send on n bytes ends) = ⊥
IsPlain (step.Report p r) = ⊥
IsPlain _ = Unit {0}

pub plain-shown : (v : ℕ) (w : Happened) (t : ServiceStep) → IsPlain t → IsShownStep v w t
plain-shown v (Asked p c) (step.Make q a b) h = absurd h
plain-shown v (Asked p c) (step.Refuse q d cause) h = absurd h
plain-shown v (Asked p c) (step.Send on n bytes ends) h = absurd h
plain-shown v (Asked p c) (step.Report q r) h = absurd h
plain-shown v (Asked p c) _ h = tt
plain-shown v (Took from q) (step.Make p a b) h = absurd h
plain-shown v (Took from q) (step.Refuse p d cause) h = absurd h
plain-shown v (Took from q) (step.Send on n bytes ends) h = absurd h
plain-shown v (Took from q) (step.Report p r) h = absurd h
plain-shown v (Took from q) _ h = tt

pub report-shown : (v : ℕ) (w : Happened) (p : Pid) (r : Report) → IsToldReport v r → IsShownStep v w (step.Report p r)
report-shown v (Asked q c) p r h = h
report-shown v (Took from q) p r h = h

-- ---- one writer

pub sends-kept : {v n : ℕ} {w : Happened} {d : Progress} (to : ℕ) (q : PictureWhat) → HasFewPacket v q → Kept v n w d → Kept v n w (sends to q d)
unfolding sends
sends-kept {v} {n} {w} {d} to q few k =
    record { stamp = k.stamp; table = k.table; packets = All-push (IsFewSent v n) d.packets (to, record { stamp = d.stamp; what = q }) k.packets (k.stamp, few); reports = k.reports; steps = k.steps }

pub reports_to-kept : {v n : ℕ} {w : Happened} {d : Progress} (p : Pid) (r : Report) → IsToldReport v r → Kept v n w d → Kept v n w (reports_to p r d)
unfolding reports_to
reports_to-kept {v} {n} {w} {d} p r told k =
    record { stamp = k.stamp; table = k.table; packets = k.packets; reports = All-push (IsToldSent v) d.reports (p, r) k.reports told; steps = k.steps }

pub answers_to-kept : {v n : ℕ} {w : Happened} {d : Progress} (p : Pid) (a : Answer) → Kept v n w d → Kept v n w (answers_to p a d)
unfolding answers_to
answers_to-kept p a k = record { stamp = k.stamp; table = k.table; packets = k.packets; reports = k.reports; steps = k.steps }

pub means-kept : {v n : ℕ} {w : Happened} {d : Progress} (t : ServiceStep) → IsShownStep v w t → Kept v n w d → Kept v n w (means t d)
unfolding means
means-kept {v} {n} {w} {d} t shown k =
    record { stamp = k.stamp; table = k.table; packets = k.packets; reports = k.reports; steps = All-push (IsShownStep v w) d.steps t k.steps shown }

-- a step that shows all of it
pub says-kept : {v n : ℕ} {w : Happened} {d : Progress} (t : ServiceStep) → IsPlain t → Kept v n w d → Kept v n w (means t d)
says-kept {v} {n} {w} t plain k = means-kept t (plain-shown v w t plain) k

pub put-few : (v : ℕ) (table : EndId → Entry) (e : EndId) (x : Entry) → ((q : EndId) → IsFewEntry v (table q)) → IsFewEntry v x → (q : EndId) → IsFewEntry v (put table e x q)
unfolding put
put-few v table e x all few q = elim (end_eq e q) as (λ b. IsFewEntry v (cond b x (table q))) [ true ↦ few | false ↦ all q ]

pub keeps-kept : {v n : ℕ} {w : Happened} {d : Progress} (e : EndId) (x : Entry) → IsFewEntry v x → Kept v n w d → Kept v n w (keeps e x d)
unfolding keeps
keeps-kept {v} {n} {w} {d} e x few k =
    record { stamp = k.stamp; table = put-few v d.table e x k.table few; packets = k.packets; reports = k.reports; steps = k.steps }

-- ---- views

pub here-few : (v : ℕ) (x : Entry) → IsFewEntry v x → IsFewView v (here x)
here-few v entry.Nothing few = tt
here-few v (entry.Here view) few = few
here-few v (entry.Left to hops) few = tt
here-few v (entry.Destroyed m) few = tt

pub owned-few : (v : ℕ) (p : Pid) (x : Entry) → IsFewEntry v x → IsFewView v (owned p x)
owned-few v p entry.Nothing few = tt
owned-few v p (entry.Here view) few = elim (is_owner p view.holder) as (λ b. IsFewView v (cond b (Some view) None)) [ true ↦ few | false ↦ tt ]
owned-few v p (entry.Left to hops) few = tt
owned-few v p (entry.Destroyed m) few = tt

-- ---- actions

pub reports-kept : {v n : ℕ} {w : Happened} {d : Progress} (h : Holder) (r : Report) → IsToldReport v r → Kept v n w d → Kept v n w (reports h r d)
reports-kept (holder.Owner p) r told k = reports_to-kept p r told k
reports-kept (holder.EnclosedIn on) r told k = k

pub answers-kept : {v n : ℕ} {w : Happened} {d : Progress} (h : Holder) (a : Answer) → Kept v n w d → Kept v n w (answers h a d)
answers-kept (holder.Owner p) a k = answers_to-kept p a k
answers-kept (holder.EnclosedIn on) a k = k

forget_at-kept : {v n : ℕ} {w : Happened} {d : Progress} (k : ℕ) (m : MovingPicture) (j : ℕ) → Kept v n w d → Kept v n w (forget_at k m j d)
forget_at-kept {v} {n} {w} {d} k m j kept =
    elim (nat_eq (bit_at m.trail j) 1 && not (nat_eq j k)) as (λ b. Kept v n w (cond b (sends j (packet.Forget m.end m.hops) d) d)) [ true ↦ sends-kept j (packet.Forget m.end m.hops) tt kept | false ↦ kept ]

forget_each-kept : {v n : ℕ} {w : Happened} (k : ℕ) (m : MovingPicture) (js : List ℕ) {d : Progress} → Kept v n w d → Kept v n w (fold (λ so_far j. forget_at k m j so_far) d js)
forget_each-kept k m [] kept = kept
forget_each-kept k m (j ∷ js) kept = forget_each-kept k m js (forget_at-kept k m j kept)

pub forgets-kept : {v n : ℕ} {w : Happened} {d : Progress} (k : ℕ) (m : MovingPicture) → Kept v n w d → Kept v n w (forgets k m d)
unfolding forgets
forgets-kept k m kept = forget_each-kept k m kernel_numbers kept

left-few : (v to : ℕ) (m : MovingPicture) → IsFewEntry v (left_entry to m)
left-few v to m = elim m.dead as (λ b. IsFewEntry v (cond b entry.Nothing (entry.Left to (gains_one m.hops)))) [ true ↦ tt | false ↦ tt ]

ended-few : (v : ℕ) (m : MovingPicture) → IsFewEntry v (ended_entry m)
ended-few v m = elim m.dead as (λ b. IsFewEntry v (cond b entry.Nothing (entry.Destroyed m))) [ true ↦ tt | false ↦ tt ]

pub leaves-kept : {v n : ℕ} {w : Happened} {d : Progress} (to : ℕ) (m : MovingPicture) → Kept v n w d → Kept v n w (leaves to m d)
leaves-kept {v} to m k = keeps-kept m.end (left_entry to m) (left-few v to m) k

leaves_here-kept : {v n : ℕ} {w : Happened} {d : Progress} (to : ℕ) (view : Option HereView) → Kept v n w d → Kept v n w (leaves_here to view d)
leaves_here-kept to None k = k
leaves_here-kept to (Some view) k = leaves-kept to view.value k

leave_each-kept : {v n : ℕ} {w : Happened} (to : ℕ) (xs : List EndId) {d : Progress} → Kept v n w d → Kept v n w (leave_each to xs d)
unfolding leave_each
leave_each-kept to [] k = k
leave_each-kept to (x ∷ xs) {d} k = leave_each-kept to xs (leaves_here-kept to (here (d.table x)) k)

-- no more values leave than ends
value_leaving-few : (k : ℕ) (view : Option HereView) → length (value_leaving k view) ≤ 1
value_leaving-few k None = omega arith
value_leaving-few k (Some view) = omega arith

values_leaving-few : (k : ℕ) (t : EndId → Entry) (xs : List EndId) → length (values_leaving k t xs) ≤ length xs
unfolding values_leaving
values_leaving-few k t [] = omega arith
values_leaving-few k t (x ∷ xs) = omega (arith, length-append (value_leaving k (here (t x))) (values_leaving k t xs), value_leaving-few k (here (t x)), values_leaving-few k t xs)

pub matches-kept : {v n : ℕ} {w : Happened} {d : Progress} (k : ℕ) (view : HereView) (send : ℕ) (bytes : List ℕ) (xs : List EndId) → IsFew v (length xs) → Kept v n w d → Kept v n w (matches k view send bytes xs d)
unfolding matches
matches-kept {v} {n} {w} {d} k view send bytes xs few kept =
    let served : HereView = record view { value = record view.value { served = view.value.want; want = 0 }; outward = outward.Matched send } in
    let now : Progress = keeps view.value.end (entry.Here served) d in
    sends-kept (hint_kernel view) (packet.Parcel (opposite view.value.end) send view.value.want k view.value.hops bytes (values_leaving k now.table xs))
    (few_fewer v (length (values_leaving k now.table xs)) (length xs) (values_leaving-few k now.table xs) few)
    (says-kept (step.Match view.value.end send) tt (leave_each-kept (hint_kernel view) xs (keeps-kept view.value.end (entry.Here served) (few_none v) kept)))

pub match_waiting-kept : {v n : ℕ} {w : Happened} {d : Progress} (k : ℕ) (view : HereView) (o : Outward) → HasFewEnds v view.outward → HasFewEnds v o → Kept v n w d → Kept v n w (match_waiting k view o d)
match_waiting-kept k view outward.Idle few few_o kept = keeps-kept view.value.end (entry.Here view) few kept
match_waiting-kept k view (outward.Waiting n bytes xs) few few_o kept = matches-kept k view n bytes xs few_o kept
match_waiting-kept k view (outward.Matched n) few few_o kept = keeps-kept view.value.end (entry.Here view) few kept
match_waiting-kept k view outward.Unreported few few_o kept = keeps-kept view.value.end (entry.Here view) few kept

tells_gone-kept : {v n : ℕ} {w : Happened} {d : Progress} (k : ℕ) (m : MovingPicture) → Kept v n w d → Kept v n w (tells_gone k m d)
unfolding tells_gone
tells_gone-kept {v} {n} {w} {d} k m kept =
    elim m.dead as (λ b. Kept v n w (cond b d (sends m.hint.0 (packet.Gone (opposite m.end) k) d))) [ true ↦ kept | false ↦ sends-kept m.hint.0 (packet.Gone (opposite m.end) k) tt kept ]

pub ends_idle-kept : {v n : ℕ} {w : Happened} {d : Progress} (k : ℕ) (m : MovingPicture) → Kept v n w d → Kept v n w (ends_idle k m d)
unfolding ends_idle
ends_idle-kept {v} k m kept = tells_gone-kept k m (keeps-kept m.end (ended_entry m) (ended-few v m) kept)

ends_idle_here-kept : {v n : ℕ} {w : Happened} {d : Progress} (k : ℕ) (view : Option HereView) → Kept v n w d → Kept v n w (ends_idle_here k view d)
ends_idle_here-kept k None kept = kept
ends_idle_here-kept k (Some view) kept = ends_idle-kept k view.value kept

end_each-kept : {v n : ℕ} {w : Happened} (k : ℕ) (xs : List EndId) {d : Progress} → Kept v n w d → Kept v n w (end_each k xs d)
unfolding end_each
end_each-kept k [] kept = kept
end_each-kept k (x ∷ xs) {d} kept = end_each-kept k xs (ends_idle_here-kept k (here (d.table x)) kept)

pub ends-kept : {v n : ℕ} {w : Happened} {d : Progress} (k : ℕ) (view : HereView) → Kept v n w d → Kept v n w (ends k view d)
unfolding ends
ends-kept {v} k view kept = tells_gone-kept k view.value (end_each-kept k (enclosed_of view.outward) (keeps-kept view.value.end (ended_entry view.value) (ended-few v view.value) kept))

held-kept : {v n : ℕ} {w : Happened} {d : Progress} (h : Holder) (view : Option HereView) → IsFewView v view → Kept v n w d → Kept v n w (held h view d)
held-kept h None few k = k
held-kept h (Some view) few k = keeps-kept view.value.end (entry.Here (record view { holder = h })) few k

pub hold_each-kept : {v n : ℕ} {w : Happened} (h : Holder) (xs : List EndId) {d : Progress} → Kept v n w d → Kept v n w (hold_each h xs d)
unfolding hold_each
hold_each-kept h [] k = k
hold_each-kept {v} h (x ∷ xs) {d} k = hold_each-kept h xs (held-kept h (here (d.table x)) (here-few v (d.table x) (k.table x)) k)

noticed-few : (v : ℕ) (o : Outward) → HasFewEnds v o → HasFewEnds v (noticed_outward o)
noticed-few v outward.Idle few = few
noticed-few v (outward.Waiting n bytes xs) few = few_none v
noticed-few v (outward.Matched n) few = few
noticed-few v outward.Unreported few = few

notice_send-kept : {v n : ℕ} {w : Happened} {d : Progress} (e : EndId) (h : Holder) (o : Outward) → HasFewEnds v o → Kept v n w d → Kept v n w (notice_send e h o d)
unfolding notice_send
notice_send-kept e h outward.Idle few k = k
notice_send-kept e h (outward.Waiting n bytes xs) few k = hold_each-kept h xs (reports-kept h (send_report e outcome.Destroyed xs) (refl, few) k)
notice_send-kept e h (outward.Matched n) few k = k
notice_send-kept e h outward.Unreported few k = k

notice_receive-kept : {v n : ℕ} {w : Happened} {d : Progress} (e : EndId) (h : Holder) (i : Inward) → Kept v n w d → Kept v n w (notice_receive e h i d)
unfolding notice_receive
notice_receive-kept e h inward.Idle k = k
notice_receive-kept e h (inward.Posted x) k = reports-kept h (dead_receive_report e) (refl, refl) k
notice_receive-kept e h (inward.Withdrawing x) k = answers-kept h (answer.Refused cause.Dead) (reports-kept h (dead_receive_report e) (refl, refl) k)
notice_receive-kept e h inward.Unreported k = k

pub notices-kept : {v n : ℕ} {w : Happened} {d : Progress} (k : ℕ) (view : HereView) → HasFewEnds v view.outward → Kept v n w d → Kept v n w (notices k view d)
unfolding notices
notices-kept {v} k view few kept =
    forgets-kept k view.value (notice_receive-kept view.value.end view.holder view.inward (notice_send-kept view.value.end view.holder view.outward few
    (keeps-kept view.value.end (entry.Here _) (noticed-few v view.outward few) kept)))

resends_receive-kept : {v n : ℕ} {w : Happened} {d : Progress} (k : ℕ) (m : MovingPicture) (i : Inward) → Kept v n w d → Kept v n w (resends_receive k m i d)
resends_receive-kept k m inward.Idle kept = kept
resends_receive-kept k m (inward.Posted x) kept = sends-kept m.hint.0 (packet.Want (opposite m.end) x k m.hops) tt kept
resends_receive-kept k m (inward.Withdrawing x) kept = sends-kept m.hint.0 (packet.Unwant (opposite m.end) x k m.hops) tt kept
resends_receive-kept k m inward.Unreported kept = kept

tells_moved-kept : {v n : ℕ} {w : Happened} {d : Progress} (k : ℕ) (m : MovingPicture) → Kept v n w d → Kept v n w (tells_moved k m d)
unfolding tells_moved
tells_moved-kept k m kept = sends-kept m.hint.0 (packet.Moved (opposite m.end) k m.hops) tt kept

resends-kept : {v n : ℕ} {w : Happened} {d : Progress} (k : ℕ) (m : MovingPicture) (i : Inward) → Kept v n w d → Kept v n w (resends k m i d)
unfolding resends
resends-kept {v} {n} {w} {d} k m i kept =
    let asked : Kept v n w (resends_receive k m i d) = resends_receive-kept k m i kept in
    elim (nat_eq m.trail 0) as (λ b. Kept v n w (cond b (resends_receive k m i d) (tells_moved k m (resends_receive k m i d)))) [ true ↦ asked | false ↦ tells_moved-kept k m asked ]

pub resends_on_news-kept : {v n : ℕ} {w : Happened} {d : Progress} (k : ℕ) (before : MovingPicture) (hops : ℕ) (m : MovingPicture) (i : Inward) → Kept v n w d → Kept v n w (resends_on_news k before hops m i d)
unfolding resends_on_news
resends_on_news-kept {v} {n} {w} {d} k before hops m i kept =
    elim (is_news before hops) as (λ b. Kept v n w (cond b (resends k m i d) d)) [ true ↦ resends-kept k m i kept | false ↦ kept ]

pub learns-kept : {v n : ℕ} {w : Happened} {d : Progress} (k at hops : ℕ) (view : HereView) → HasFewEnds v view.outward → Kept v n w d → Kept v n w (learns k at hops view d)
unfolding learns
learns-kept k at hops view few kept =
    resends_on_news-kept k view.value hops (learned_view view at hops).value view.inward (keeps-kept view.value.end (entry.Here (learned_view view at hops)) few kept)

pub settle_each-kept : {v n : ℕ} {w : Happened} (h : Holder) (ms : List MovingPicture) {d : Progress} → Kept v n w d → Kept v n w (settle_each h ms d)
unfolding settle_each
settle_each-kept h [] k = k
settle_each-kept {v} h (m ∷ ms) k = settle_each-kept h ms (keeps-kept m.end (entry.Here (settled h m)) (few_none v) k)

tells_arrival-kept : {v n : ℕ} {w : Happened} {d : Progress} (k : ℕ) (m : MovingPicture) → Kept v n w d → Kept v n w (tells_arrival k m d)
tells_arrival-kept {v} {n} {w} {d} k m kept =
    elim m.dead as (λ b. Kept v n w (cond b d (tells_moved k m d))) [ true ↦ kept | false ↦ tells_moved-kept k m kept ]

pub tell_arrivals-kept : {v n : ℕ} {w : Happened} (k : ℕ) (ms : List MovingPicture) {d : Progress} → Kept v n w d → Kept v n w (tell_arrivals k ms d)
unfolding tell_arrivals
tell_arrivals-kept k [] kept = kept
tell_arrivals-kept k (m ∷ ms) kept = tell_arrivals-kept k ms (tells_arrival-kept k m kept)
