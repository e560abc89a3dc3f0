-- What a kernel step keeps, of a call and of a taking.
use Rattle.std.proofs.Common.{◌≡◌, ℕ, ◌+◌, max, true, false, nat_eq, List, [], ◌∷◌, ◌++◌, length, All, Option, None, Some, cond, refl}
use Rattle.std.proofs.lemmas.List.Elements.{All-push, All-nil, All-head, All-tail}
use Rattle.charlotte_calls.specs.Names.{opposite}
use Rattle.charlotte_packets.specs.Moving.{new_end}
use Rattle.charlotte_packets.specs.Packets.{is_addressed}
use Rattle.charlotte_calls.specs.declared.calls.Answer.{Answer}
use Rattle.charlotte_calls.specs.declared.calls.Answer.TheVariants as answer
use Rattle.charlotte_calls.specs.declared.calls.Call.{Call}
use Rattle.charlotte_calls.specs.declared.calls.Call.TheVariants as call
use Rattle.charlotte_calls.specs.declared.calls.Cause.{Cause}
use Rattle.charlotte_calls.specs.declared.calls.Report.{Report}
use Rattle.charlotte_calls.specs.declared.calls.ServiceStep.TheVariants as step
use Rattle.charlotte_calls.specs.declared.names.EndId.{EndId}
use Rattle.charlotte_calls.specs.declared.names.Pid.{Pid}
use Rattle.charlotte_calls.specs.declared.names.Way.{Way}
use Rattle.charlotte_calls.specs.declared.names.Way.TheVariants as way
use Rattle.charlotte_packets.specs.declared.picture.Picture.{Picture}
use Rattle.charlotte_packets.specs.declared.picture.PictureWhat.TheVariants as packet
use Rattle.end_table.specs.Entries.{gains_one, settled}
use Rattle.end_table.specs.Owned.{owned}
use Rattle.end_table.specs.declared.entry.Entry.{Entry}
use Rattle.end_table.specs.declared.entry.Entry.TheVariants as entry
use Rattle.end_table.specs.declared.entry.HereView.{HereView}
use Rattle.end_table.specs.declared.entry.Holder.TheVariants as holder
use Rattle.end_table.specs.declared.entry.Inward.{Inward}
use Rattle.end_table.specs.declared.entry.Inward.TheVariants as inward
use Rattle.end_table.specs.declared.entry.Outward.{Outward}
use Rattle.end_table.specs.declared.entry.Outward.TheVariants as outward
use Rattle.end_table.specs.Place.{put}
use Rattle.transcript_lines.specs.TranscriptText.{IsFew, HasFewCall, HasFewPacket, IsShownStep}
use Rattle.kernel_step.specs.Actions.{here, hint_kernel, enclosed_of, matches}
use Rattle.kernel_step.specs.Calls.{refusal, made_end, makes, starts_send, encloses, posts, withdraws_send, withdraws_receive, ends_here, ends_each}
use Rattle.kernel_step.specs.Kernel.{Kernel, Process, Outcome, next_stamp, begins, with_process, process_of, without_answer, stands, outward_reported, reported_view, reported_entry, answers_wait, is_waiting}
use Rattle.kernel_step.specs.Kernel.{joins, join_reports, join_answers, closes, take_step, turns, waits, granted, granted_on, cancels_receive, cancels, exits, performs, decides, has_report, call_step}
use Rattle.kernel_step.specs.Progress.{Progress, means, keeps}
use Rattle.kernel_step.specs.Rows.{row}
use Rattle.kernel_step.specs.declared.phase.Phase.{Phase}
use Rattle.kernel_step.specs.declared.phase.Phase.TheVariants.{Running, Waiting, Cancelling, Exited}
use Rattle.kernel_entries.specs.declared.entry.Happened.{Happened}
use Rattle.kernel_entries.specs.declared.entry.Happened.TheVariants.{Asked}
use Rattle.transcript_record.specs.Told.{HasFewEnds, IsFewEntry, IsToldReport, IsTold}
use Rattle.transcript_record.proofs.Kept.{Kept, IsFewView, IsFewSent, IsToldSent, few_none, put-few, owned-few, report-shown, sends-kept, says-kept, means-kept, keeps-kept, matches-kept, ends-kept, hold_each-kept}
use Rattle.transcript_record.proofs.KeptRows.{row-kept}

-- v is the version, n the stamp of the event, w what happened

-- what an event gives can be told
pub record Gives (v n : ℕ) (w : Happened) (o : Outcome) : Type 0 where
  pub stamp : o.kernel.stamp ≡ n
  pub told : IsTold v o.kernel
  pub packets : All (IsFewSent v n) o.packets
  pub steps : All (IsShownStep v w) o.steps

-- one process changes
told-with : (v : ℕ) (s : Kernel) (p : Pid) (x : Process) → IsTold v s → All (IsToldReport v) x.reports → IsTold v (with_process p x s)
told-with v s p x told all =
    record {
      table = told.table;
      reports = λ q. elim (nat_eq p.0 q) as (λ b. All (IsToldReport v) (cond b x (s.process q)).reports) [ true ↦ all | false ↦ told.reports q ];
    }

pub told-without_answer : (v : ℕ) (s : Kernel) (p : Pid) → IsTold v s → IsTold v (without_answer p s)
told-without_answer v s p told = told-with v s p (record (process_of p s) { answer = None }) told (told.reports p.0)

stands-gives : {v n : ℕ} {w : Happened} {o : Outcome} (p : Pid) (a : Answer) → Gives v n w o → Gives v n w (stands p a o)
stands-gives {v} {n} {w} {o} p a g =
    record { stamp = g.stamp; told = told-with v o.kernel p (record (process_of p o.kernel) { phase = Running; answer = Some a }) g.told (g.told.reports p.0); packets = g.packets; steps = g.steps }

outward_reported-few : (v : ℕ) (o : Outward) → HasFewEnds v o → HasFewEnds v (outward_reported o)
outward_reported-few v outward.Idle few = few
outward_reported-few v (outward.Waiting n bytes xs) few = few
outward_reported-few v (outward.Matched n) few = few
outward_reported-few v outward.Unreported few = few_none v

reported_view-few : (v : ℕ) (y : Way) (view : HereView) → HasFewEnds v view.outward → HasFewEnds v (reported_view y view).outward
reported_view-few v way.Outward view few = outward_reported-few v view.outward few
reported_view-few v way.Inward view few = few

reported_entry-few : (v : ℕ) (y : Way) (x : Entry) → IsFewEntry v x → IsFewEntry v (reported_entry y x)
reported_entry-few v y entry.Nothing few = tt
reported_entry-few v y (entry.Here view) few = reported_view-few v y view few
reported_entry-few v y (entry.Left to hops) few = tt
reported_entry-few v y (entry.Destroyed m) few = tt

answers_wait-gives : {v n : ℕ} {w : Happened} {o : Outcome} (p : Pid) (r : Report) (others : List Report) → IsToldReport v r → All (IsToldReport v) others → Gives v n w o → Gives v n w (answers_wait p r others o)
unfolding answers_wait
answers_wait-gives {v} {n} {w} {o} p r others told all g =
    let s : Kernel = record o.kernel { table = put o.kernel.table r.on (reported_entry r.way (o.kernel.table r.on)) } in
    let before : IsTold v s = record {
      table = put-few v o.kernel.table r.on (reported_entry r.way (o.kernel.table r.on)) g.told.table (reported_entry-few v r.way (o.kernel.table r.on) (g.told.table r.on));
      reports = g.told.reports;
    } in
    stands-gives p (answer.Reported r)
    (record {
      stamp = g.stamp;
      told = told-with v s p (record (process_of p o.kernel) { reports = others }) before all;
      packets = g.packets;
      steps = All-push (IsShownStep v w) o.steps (step.Report p r) g.steps (report-shown v w p r told);
    })

turned-told : (v : ℕ) (s : Kernel) (p : Pid) (phase : Phase) → IsTold v s → IsTold v (turns p phase s)
turned-told v s p phase told = told-with v s p (record (process_of p s) { phase = phase }) told (told.reports p.0)

waits-gives : {v n : ℕ} {w : Happened} {o : Outcome} (p : Pid) (rs : List Report) → All (IsToldReport v) rs → Gives v n w o → Gives v n w (waits p rs o)
waits-gives {v} {n} {w} {o} p [] all g = record { stamp = g.stamp; told = turned-told v o.kernel p Waiting g.told; packets = g.packets; steps = g.steps }
waits-gives {v} p (r ∷ rs) all g = answers_wait-gives p r rs (All-head (IsToldReport v) r rs all) (All-tail (IsToldReport v) r rs all) g

joins-gives : {v n : ℕ} {w : Happened} {o : Outcome} (p : Pid) (r : Report) (phase : Phase) → IsToldReport v r → Gives v n w o → Gives v n w (joins p r phase o)
joins-gives {v} {n} {w} {o} p r phase told g =
    let x : Process = process_of p o.kernel in
    let all : All (IsToldReport v) (x.reports ++ r ∷ []) = All-push (IsToldReport v) x.reports r (g.told.reports p.0) told in
    let joined : Outcome = record o { kernel = with_process p (record x { reports = x.reports ++ r ∷ [] }) o.kernel } in
    elim (is_waiting phase) as (λ b. Gives v n w (cond b (waits p (x.reports ++ r ∷ []) o) joined)) [
      | true ↦ waits-gives p (x.reports ++ r ∷ []) all g
      | false ↦ record { stamp = g.stamp; told = told-with v o.kernel p (record x { reports = x.reports ++ r ∷ [] }) g.told all; packets = g.packets; steps = g.steps }
    ]

join_reports-gives : {v n : ℕ} {w : Happened} (rs : List (Pid × Report)) {o : Outcome} → All (IsToldSent v) rs → Gives v n w o → Gives v n w (join_reports rs o)
unfolding join_reports
join_reports-gives [] all g = g
join_reports-gives {v} (r ∷ rs) {o} all g =
    join_reports-gives rs (All-tail (IsToldSent v) r rs all) (joins-gives r.0 r.1 (process_of r.0 o.kernel).phase (All-head (IsToldSent v) r rs all) g)

join_answers-gives : {v n : ℕ} {w : Happened} (as_given : List (Pid × Answer)) {o : Outcome} → Gives v n w o → Gives v n w (join_answers as_given o)
unfolding join_answers
join_answers-gives [] g = g
join_answers-gives (a ∷ more) g = join_answers-gives more (stands-gives a.0 a.1 g)

closes-gives : {v n : ℕ} {w : Happened} {d : Progress} (s : Kernel) → ((q : ℕ) → All (IsToldReport v) (s.process q).reports) → Kept v n w d → Gives v n w (closes s d)
unfolding closes
closes-gives {v} {n} {w} {d} s reports k =
    join_reports-gives d.reports k.reports (join_answers-gives d.answers (record {
      stamp = k.stamp;
      told = record { table = k.table; reports = reports };
      packets = k.packets;
      steps = k.steps;
    }))

begins-kept : (v n : ℕ) (w : Happened) (s : Kernel) → IsTold v s → Kept v n w (begins s n)
begins-kept v n w s told =
    record { stamp = refl; table = told.table; packets = All-nil (IsFewSent v n); reports = All-nil (IsToldSent v); steps = All-nil (IsShownStep v w) }

-- ---- taking a packet

pub take_step-gives : (v : ℕ) (w : Happened) (s : Kernel) (from : ℕ) (q : Picture) → IsTold v s → HasFewPacket v q.what → Gives v (next_stamp (max s.stamp q.stamp)) w (take_step s from q)
unfolding take_step
take_step-gives v w s from q told few =
    let n : ℕ = next_stamp (max s.stamp q.stamp) in
    let start : Kept v n w (begins s n) = begins-kept v n w s told in
    elim (is_addressed q.what s.kernels) as (λ b. Gives v n w (closes s (cond b (row s.number s.made from q.what (begins s n)) (begins s n)))) [
      | true ↦ closes-gives s told.reports (row-kept s.number s.made from q.what few start)
      | false ↦ closes-gives s told.reports start
    ]

-- ---- calls

makes-kept : {v n : ℕ} {p : Pid} {c : Call} {d : Progress} (k made : ℕ) → Kept v n (Asked p c) d → Kept v n (Asked p c) (makes k made p d)
unfolding makes
makes-kept {v} {n} {p} {c} {d} k made kept =
    let a : EndId = made_end k made in
    let b : EndId = opposite a in
    keeps-kept b (entry.Here (settled (holder.Owner p) (new_end b k))) (few_none v)
    (keeps-kept a (entry.Here (settled (holder.Owner p) (new_end a k))) (few_none v)
    (means-kept (step.Make p a b) refl kept))

starts_send-kept : {v n : ℕ} {p : Pid} {d : Progress} (on : EndId) (k : ℕ) (bytes : List ℕ) (xs : List EndId) (view : HereView) → IsFew v (length xs) → Kept v n (Asked p (call.Send on bytes xs)) d → Kept v n (Asked p (call.Send on bytes xs)) (starts_send k bytes xs view d)
unfolding starts_send
starts_send-kept {v} {n} {p} {d} on k bytes xs view few kept =
    let m : ℕ = gains_one view.value.sent in
    let started : HereView = record view { value = record view.value { sent = m }; outward = outward.Waiting m bytes xs } in
    let sent : Progress = means (step.Send view.value.end m bytes xs) d in
    let said : Kept v n (Asked p (call.Send on bytes xs)) sent = means-kept (step.Send view.value.end m bytes xs) (refl, few) kept in
    elim (nat_eq view.value.want 0) as (λ b. Kept v n (Asked p (call.Send on bytes xs)) (cond b (keeps view.value.end (entry.Here started) sent) (matches k started m bytes xs sent))) [
      | true ↦ keeps-kept view.value.end (entry.Here started) few said
      | false ↦ matches-kept k started m bytes xs few said
    ]

posts-kept : {v n : ℕ} {w : Happened} {d : Progress} (k : ℕ) (view : HereView) → HasFewEnds v view.outward → Kept v n w d → Kept v n w (posts k view d)
unfolding posts
posts-kept k view few kept =
    let x : ℕ = gains_one view.value.asked in
    sends-kept (hint_kernel view) (packet.Want (opposite view.value.end) x k view.value.hops) tt
    (says-kept (step.Receive view.value.end) tt
    (keeps-kept view.value.end (entry.Here (record view { value = record view.value { asked = x }; inward = inward.Posted x })) few kept))

withdraws_send-kept : {v n : ℕ} {w : Happened} {d : Progress} (view : HereView) → Kept v n w d → Kept v n w (withdraws_send view d)
unfolding withdraws_send
withdraws_send-kept {v} view kept =
    hold_each-kept view.holder (enclosed_of view.outward)
    (says-kept (step.Cancel view.value.end way.Outward) tt (keeps-kept view.value.end (entry.Here (record view { outward = outward.Idle })) (few_none v) kept))

withdraws_receive-kept : {v n : ℕ} {w : Happened} {d : Progress} (k x : ℕ) (view : HereView) → HasFewEnds v view.outward → Kept v n w d → Kept v n w (withdraws_receive k x view d)
unfolding withdraws_receive
withdraws_receive-kept k x view few kept =
    sends-kept (hint_kernel view) (packet.Unwant (opposite view.value.end) x k view.value.hops) tt
    (says-kept (step.Cancel view.value.end way.Inward) tt (keeps-kept view.value.end (entry.Here (record view { inward = inward.Withdrawing x })) few kept))

ends_here-kept : {v n : ℕ} {w : Happened} {d : Progress} (k : ℕ) (view : Option HereView) → Kept v n w d → Kept v n w (ends_here k view d)
ends_here-kept k None kept = kept
ends_here-kept k (Some view) kept = ends-kept k view kept

ends_each-kept : {v n : ℕ} {w : Happened} (k : ℕ) (xs : List EndId) {d : Progress} → Kept v n w d → Kept v n w (ends_each k xs d)
unfolding ends_each
ends_each-kept k [] kept = kept
ends_each-kept k (x ∷ xs) {d} kept = ends_each-kept k xs (ends_here-kept k (here (d.table x)) kept)

encloses-kept : {v n : ℕ} {w : Happened} {d : Progress} (on : EndId) (xs : List EndId) → Kept v n w d → Kept v n w (encloses on xs d)
unfolding encloses
encloses-kept on xs kept = hold_each-kept (holder.EnclosedIn on) xs kept

granted-gives : {v n : ℕ} {w : Happened} {d : Progress} (p : Pid) (s : Kernel) → IsTold v s → Kept v n w d → Gives v n w (granted p s d)
granted-gives p s told kept = stands-gives p answer.Ok (closes-gives s told.reports kept)

granted_on-gives : {v n : ℕ} {w : Happened} {d : Progress} (p : Pid) (s : Kernel) (o : Option HereView) (part : HereView → Progress → Progress) → IsTold v s → IsFewView v o
    → ((view : HereView) → HasFewEnds v view.outward → Kept v n w (part view d)) → Kept v n w d → Gives v n w (granted_on p s o part d)
granted_on-gives p s None part told few parts kept = closes-gives s told.reports kept
granted_on-gives p s (Some view) part told few parts kept = granted-gives p s told (parts view few)

cancels_receive-gives : {v n : ℕ} {w : Happened} {d : Progress} (p : Pid) (s : Kernel) (view : HereView) (i : Inward) → IsTold v s → HasFewEnds v view.outward → Kept v n w d → Gives v n w (cancels_receive p s view i d)
cancels_receive-gives p s view inward.Idle told few kept = closes-gives s told.reports kept
cancels_receive-gives {v} p s view (inward.Posted x) told few kept =
    closes-gives (turns p (Cancelling view.value.end) s) (turned-told v s p (Cancelling view.value.end) told).reports (withdraws_receive-kept s.number x view few kept)
cancels_receive-gives p s view (inward.Withdrawing x) told few kept = closes-gives s told.reports kept
cancels_receive-gives p s view inward.Unreported told few kept = closes-gives s told.reports kept

cancels-gives : {v n : ℕ} {w : Happened} {d : Progress} (p : Pid) (s : Kernel) (y : Way) (o : Option HereView) → IsTold v s → IsFewView v o → Kept v n w d → Gives v n w (cancels p s y o d)
cancels-gives p s y None told few kept = closes-gives s told.reports kept
cancels-gives p s way.Outward (Some view) told few kept = granted-gives p s told (withdraws_send-kept view kept)
cancels-gives p s way.Inward (Some view) told few kept = cancels_receive-gives p s view view.inward told few kept

exits-gives : {v n : ℕ} {w : Happened} {o : Outcome} (p : Pid) → Gives v n w o → Gives v n w (exits p o)
exits-gives {v} {n} {w} {o} p g =
    record { stamp = g.stamp; told = told-with v o.kernel p (record { phase = Exited; reports = []; answer = Some answer.Ok }) g.told (All-nil (IsToldReport v)); packets = g.packets; steps = g.steps }

performs-gives : (v n : ℕ) (p : Pid) (s : Kernel) (mine : List EndId) (c : Call) {d : Progress} → HasFewCall v c → IsTold v s → Kept v n (Asked p c) d → Gives v n (Asked p c) (performs p s mine c d)
unfolding performs
performs-gives v n p s mine call.Make few told kept =
    stands-gives p (answer.Made (made_end s.number s.made) (opposite (made_end s.number s.made))) (closes-gives (record s { made = s.made + 1 }) told.reports (makes-kept s.number s.made kept))
performs-gives v n p s mine (call.Destroy on) few told kept =
    granted_on-gives p s (owned p (s.table on)) _ told (owned-few v p (s.table on) (told.table on)) (λ view f. ends-kept s.number view (says-kept (step.Destroy on) tt kept)) kept
performs-gives v n p s mine (call.Send on bytes xs) few told kept =
    granted_on-gives p s (owned p (s.table on)) _ told (owned-few v p (s.table on) (told.table on)) (λ view f. starts_send-kept on s.number bytes xs view few (encloses-kept on xs kept)) kept
performs-gives v n p s mine (call.Receive on) few told kept =
    granted_on-gives p s (owned p (s.table on)) (posts s.number) told (owned-few v p (s.table on) (told.table on)) (λ view f. posts-kept s.number view f kept) kept
performs-gives v n p s mine (call.Cancel on y) few told kept = cancels-gives p s y (owned p (s.table on)) told (owned-few v p (s.table on) (told.table on)) kept
performs-gives v n p s mine call.Wait few told kept =
    waits-gives p (process_of p s).reports (told.reports p.0) (closes-gives s told.reports (says-kept (step.Wait p) tt kept))
performs-gives v n p s mine (call.Print bytes) few told kept = granted-gives p s told kept
performs-gives v n p s mine call.Exit few told kept = exits-gives p (closes-gives s told.reports (ends_each-kept s.number mine (says-kept (step.Exit p) tt kept)))

decides-gives : (v n : ℕ) (p : Pid) (s : Kernel) (mine : List EndId) (c : Call) (o : Option Cause) {d : Progress} → HasFewCall v c → IsTold v s → Kept v n (Asked p c) d → Gives v n (Asked p c) (decides p s mine c o d)
decides-gives v n p s mine c None few told kept = performs-gives v n p s mine c few told kept
decides-gives v n p s mine c (Some cause) few told kept =
    stands-gives p (answer.Refused cause) (closes-gives s told.reports (means-kept (step.Refuse p c cause) refl kept))

pub call_step-gives : (v : ℕ) (s : Kernel) (p : Pid) (mine : List EndId) (c : Call) → HasFewCall v c → IsTold v s → Gives v (next_stamp s.stamp) (Asked p c) (call_step s p mine c)
unfolding call_step
call_step-gives v s p mine c few told =
    decides-gives v (next_stamp s.stamp) p s mine c (refusal p s.table s.made mine (has_report (process_of p s)) c) few told (begins-kept v (next_stamp s.stamp) (Asked p c) s told)
