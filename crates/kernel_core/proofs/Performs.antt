-- A call that is not refused is its part, the end of the event, and what comes after.
use Rattle.std.proofs.Common.{◌≡◌, ℕ, Bool, true, false, true≢false, not, nat_eq, max, List, [], Option, Some, None, refl, sym, ap, ◌∙◌}
use Rattle.charlotte_calls.proofs.Causes.{first_of-none}
use Rattle.charlotte_calls.specs.Causes.{cancel_causes, destroy_causes, receive_causes, send_causes}
use Rattle.charlotte_calls.specs.Names.{opposite}
use Rattle.charlotte_packets.specs.Packets.{is_addressed}
use Rattle.charlotte_calls.specs.declared.calls.Answer.TheVariants as answer
use Rattle.charlotte_calls.specs.declared.calls.Call.{Call}
use Rattle.charlotte_calls.specs.declared.calls.Call.TheVariants as call
use Rattle.charlotte_calls.specs.declared.calls.Cause.{Cause}
use Rattle.charlotte_calls.specs.declared.calls.ServiceStep.{ServiceStep}
use Rattle.charlotte_calls.specs.declared.calls.ServiceStep.TheVariants as step
use Rattle.charlotte_calls.specs.declared.names.EndId.{EndId}
use Rattle.charlotte_calls.specs.declared.names.Pid.{Pid}
use Rattle.charlotte_calls.specs.declared.names.Way.TheVariants as way
use Rattle.charlotte_packets.specs.declared.picture.MovingPicture.{MovingPicture}
use Rattle.charlotte_packets.specs.declared.picture.Picture.{Picture}
use Rattle.charlotte_packets.specs.declared.picture.PictureWhat.{PictureWhat}
use Rattle.charlotte_packets.specs.declared.picture.PictureWhat.TheVariants as packet
use Rattle.end_table.specs.Owned.{owned}
use Rattle.end_table.specs.declared.entry.Entry.{Entry}
use Rattle.end_table.specs.declared.entry.HereView.{HereView}
use Rattle.end_table.specs.declared.entry.Holder.{Holder}
use Rattle.end_table.specs.declared.entry.Inward.{Inward}
use Rattle.end_table.specs.declared.entry.Inward.TheVariants as inward
use Rattle.kernel_sound.proofs.Sends.{either-keeps, fold-keeps}
use Rattle.kernel_sound.specs.Acts.{acts, acts_on, made_after, withdraws_posted}
use Rattle.kernel_core.specs.Finishing.{finishes, turned, turned_by, turned_on}
use Rattle.kernel_step.specs.Actions.{end_each, ends, ends_idle, ends_idle_here, enclosed_of, held, here, hold_each, leave_each, leaves_here, matches, tells_gone}
use Rattle.kernel_step.specs.Calls.{encloses, ends_each, ends_here, makes, posts, refusal, starts_send, withdraws_receive, withdraws_send, seen, sees}
use Rattle.kernel_step.specs.Kernel.{Kernel, Outcome, begins, call_step, cancels, cancels_receive, closes, decides, granted_on, has_report, join_answers, join_reports, next_stamp, performs, process_of, stands, take_step, waits}
use Rattle.kernel_step.specs.Progress.{Progress, keeps, means, sends}
use Rattle.kernel_step.specs.Rows.{row}

-- the end of an event gives the kernel its table and its stamp, whatever they were
pub closes-kept : (s : Kernel) (t : EndId → Entry) (n : ℕ) (d : Progress) → closes (record s { table = t; stamp = n }) d ≡ closes s d
unfolding closes
closes-kept s t n d = refl

-- an event that gave no report and no answer changes no process as it ends
pub closes-none : (s : Kernel) (d : Progress) → d.reports ≡ [] → d.answers ≡ []
    → closes s d ≡ record { kernel = record s { table = d.table; stamp = d.stamp }; packets = d.packets; answered = []; steps = d.steps }
unfolding closes join_reports join_answers
closes-none s d reports answers =
    ap (λ rs. join_reports rs (join_answers d.answers ended)) reports ∙ ap (λ xs. join_answers xs ended) answers
  where
    ended : Outcome
    ended = record { kernel = record s { table = d.table; stamp = d.stamp }; packets = d.packets; answered = []; steps = d.steps }

-- so the reports of each process stay
pub closes-reports : (p : Pid) (s : Kernel) (d : Progress) → d.reports ≡ [] → d.answers ≡ [] → (process_of p (closes s d).kernel).reports ≡ (process_of p s).reports
closes-reports p s d reports answers = ap (λ o. (process_of p o.kernel).reports) (closes-none s d reports answers)

-- the event came so far without a report or an answer
pub record AddsNone (old new : Progress) : Type 0 where
  pub reports : new.reports ≡ old.reports
  pub answers : new.answers ≡ old.answers

module _ {old : Progress} where
  -- an entry changed
  keeps-none : (e : EndId) (x : Entry) (d : Progress) → AddsNone old d → AddsNone old (keeps e x d)
  unfolding keeps
  keeps-none e x d s = record { reports = s.reports; answers = s.answers }

  -- a packet
  sends-none : (to : ℕ) (what : PictureWhat) (d : Progress) → AddsNone old d → AddsNone old (sends to what d)
  unfolding sends
  sends-none to what d s = record { reports = s.reports; answers = s.answers }

  -- a service step
  means-none : (x : ServiceStep) (d : Progress) → AddsNone old d → AddsNone old (means x d)
  unfolding means
  means-none x d s = record { reports = s.reports; answers = s.answers }

  -- an end held otherwise
  held-none : (h : Holder) (v : Option HereView) (d : Progress) → AddsNone old d → AddsNone old (held h v d)
  held-none h None d s = s
  held-none h (Some v) d s = keeps-none _ _ d s

  -- so is each
  hold_each-none : (h : Holder) (xs : List EndId) (d : Progress) → AddsNone old d → AddsNone old (hold_each h xs d)
  unfolding hold_each
  hold_each-none h xs d s = fold-keeps (AddsNone old) _ (λ d x s. held-none h (here (d.table x)) d s) xs d s

  -- an end that leaves
  leaves_here-none : (to : ℕ) (v : Option HereView) (d : Progress) → AddsNone old d → AddsNone old (leaves_here to v d)
  leaves_here-none to None d s = s
  leaves_here-none to (Some v) d s = keeps-none _ _ d s

  -- so does each
  leave_each-none : (to : ℕ) (xs : List EndId) (d : Progress) → AddsNone old d → AddsNone old (leave_each to xs d)
  unfolding leave_each
  leave_each-none to xs d s = fold-keeps (AddsNone old) _ (λ d x s. leaves_here-none to (here (d.table x)) d s) xs d s

  -- a match
  matches-none : (k : ℕ) (v : HereView) (n : ℕ) (bytes : List ℕ) (xs : List EndId) (d : Progress) → AddsNone old d → AddsNone old (matches k v n bytes xs d)
  unfolding matches
  matches-none k v n bytes xs d s = sends-none _ _ _ (means-none _ _ (leave_each-none _ xs _ (keeps-none _ _ d s)))

  -- the opposite end is told of a destruction
  tells_gone-none : (k : ℕ) (m : MovingPicture) (d : Progress) → AddsNone old d → AddsNone old (tells_gone k m d)
  unfolding tells_gone
  tells_gone-none k m d s =
      either-keeps (AddsNone old) m.dead d (sends m.hint.0 (packet.Gone (opposite m.end) k) d) (λ is. s) (λ is. sends-none _ _ d s)

  -- END of an end without a message
  ends_idle_here-none : (k : ℕ) (v : Option HereView) (d : Progress) → AddsNone old d → AddsNone old (ends_idle_here k v d)
  unfolding ends_idle
  ends_idle_here-none k None d s = s
  ends_idle_here-none k (Some v) d s = tells_gone-none k v.value _ (keeps-none _ _ d s)

  -- so of each
  end_each-none : (k : ℕ) (xs : List EndId) (d : Progress) → AddsNone old d → AddsNone old (end_each k xs d)
  unfolding end_each
  end_each-none k xs d s = fold-keeps (AddsNone old) _ (λ d x s. ends_idle_here-none k (here (d.table x)) d s) xs d s

  -- END of any end
  ends-none : (k : ℕ) (v : HereView) (d : Progress) → AddsNone old d → AddsNone old (ends k v d)
  unfolding ends
  ends-none k v d s = tells_gone-none k v.value _ (end_each-none k (enclosed_of v.outward) _ (keeps-none _ _ d s))

  -- where it is here
  ends_here-none : (k : ℕ) (v : Option HereView) (d : Progress) → AddsNone old d → AddsNone old (ends_here k v d)
  ends_here-none k None d s = s
  ends_here-none k (Some v) d s = ends-none k v d s

  -- so of each
  ends_each-none : (k : ℕ) (xs : List EndId) (d : Progress) → AddsNone old d → AddsNone old (ends_each k xs d)
  unfolding ends_each
  ends_each-none k xs d s = fold-keeps (AddsNone old) _ (λ d x s. ends_here-none k (here (d.table x)) d s) xs d s

  -- the calls: Make
  makes-none : (k made : ℕ) (p : Pid) (d : Progress) → AddsNone old d → AddsNone old (makes k made p d)
  unfolding makes
  makes-none k made p d s = keeps-none _ _ _ (keeps-none _ _ _ (means-none _ d s))

  -- Send
  encloses-none : (on : EndId) (xs : List EndId) (d : Progress) → AddsNone old d → AddsNone old (encloses on xs d)
  unfolding encloses
  encloses-none on xs d s = hold_each-none _ xs d s

  starts_send-none : (k : ℕ) (bytes : List ℕ) (xs : List EndId) (v : HereView) (d : Progress) → AddsNone old d → AddsNone old (starts_send k bytes xs v d)
  unfolding starts_send
  starts_send-none k bytes xs v d s =
      either-keeps (AddsNone old) (nat_eq v.value.want 0) _ _ (λ is. keeps-none _ _ _ (means-none _ d s)) (λ is. matches-none k _ _ bytes xs _ (means-none _ d s))

  -- Receive
  posts-none : (k : ℕ) (v : HereView) (d : Progress) → AddsNone old d → AddsNone old (posts k v d)
  unfolding posts
  posts-none k v d s = sends-none _ _ _ (means-none _ _ (keeps-none _ _ d s))

  -- Cancel of a send
  withdraws_send-none : (v : HereView) (d : Progress) → AddsNone old d → AddsNone old (withdraws_send v d)
  unfolding withdraws_send
  withdraws_send-none v d s = hold_each-none _ _ _ (means-none _ _ (keeps-none _ _ d s))

  -- Cancel of a receive
  withdraws_posted-none : (k : ℕ) (v : HereView) (i : Inward) (d : Progress) → AddsNone old d → AddsNone old (withdraws_posted k v i d)
  unfolding withdraws_receive
  withdraws_posted-none k v inward.Idle d s = s
  withdraws_posted-none k v (inward.Posted w) d s = sends-none _ _ _ (means-none _ _ (keeps-none _ _ d s))
  withdraws_posted-none k v (inward.Withdrawing w) d s = s
  withdraws_posted-none k v inward.Unreported d s = s

  -- a call on an end
  acts_on-none : (o : Option HereView) (part : HereView → Progress → Progress) (d : Progress) → ((v : HereView) → AddsNone old (part v d)) → AddsNone old d → AddsNone old (acts_on o part d)
  acts_on-none None part d does s = s
  acts_on-none (Some v) part d does s = does v

  -- the part of a call gives no report and no answer
  pub acts-none : (p : Pid) (k made : ℕ) (mine : List EndId) (c : Call) (d : Progress) → AddsNone old d → AddsNone old (acts p k made mine c d)
  unfolding acts
  acts-none p k made mine call.Make d s = makes-none k made p d s
  acts-none p k made mine (call.Destroy on) d s = acts_on-none (owned p (d.table on)) _ d (λ v. ends-none k v _ (means-none _ d s)) s
  acts-none p k made mine (call.Send on bytes xs) d s =
      acts_on-none (owned p (d.table on)) _ d (λ v. starts_send-none k bytes xs v _ (encloses-none on xs d s)) s
  acts-none p k made mine (call.Receive on) d s = acts_on-none (owned p (d.table on)) _ d (λ v. posts-none k v d s) s
  acts-none p k made mine (call.Cancel on way.Outward) d s = acts_on-none (owned p (d.table on)) _ d (λ v. withdraws_send-none v d s) s
  acts-none p k made mine (call.Cancel on way.Inward) d s = acts_on-none (owned p (d.table on)) _ d (λ v. withdraws_posted-none k v v.inward d s) s
  acts-none p k made mine call.Wait d s = means-none _ d s
  acts-none p k made mine (call.Print bytes) d s = s
  acts-none p k made mine call.Exit d s = ends_each-none k mine _ (means-none _ d s)

module _ (p : Pid) (k made : ℕ) (mine : List EndId) (c : Call) (d : Progress) where
  adds : AddsNone d (acts p k made mine c d)
  adds = acts-none p k made mine c d (record { reports = refl; answers = refl })

  -- the reports stay
  pub acts-reports : (acts p k made mine c d).reports ≡ d.reports
  acts-reports = adds.reports

  -- and the answers
  pub acts-answers : (acts p k made mine c d).answers ≡ d.answers
  acts-answers = adds.answers

-- a call on an end that its process owns
granted-acts : (p : Pid) (s : Kernel) (o : Option HereView) (part : HereView → Progress → Progress) (d : Progress)
    → not (seen o).owned ≡ false → granted_on p s o part d ≡ stands p answer.Ok (closes s (acts_on o part d))
granted-acts p s None part d owns = absurd (true≢false owns)
granted-acts p s (Some v) part d owns = refl

-- a Cancel of a send
cancels_send-acts : (p : Pid) (s : Kernel) (o : Option HereView) (d : Progress)
    → not (seen o).owned ≡ false → cancels p s way.Outward o d ≡ stands p answer.Ok (closes s (acts_on o withdraws_send d))
cancels_send-acts p s None d owns = absurd (true≢false owns)
cancels_send-acts p s (Some v) d owns = refl

-- a Cancel of a receive, by what is started
cancels_receive-acts : (p : Pid) (s : Kernel) (v : HereView) (i : Inward) (d : Progress)
    → cancels_receive p s v i d ≡ closes (turned_by p v i s) (withdraws_posted s.number v i d)
cancels_receive-acts p s v inward.Idle d = refl
cancels_receive-acts p s v (inward.Posted w) d = refl
cancels_receive-acts p s v (inward.Withdrawing w) d = refl
cancels_receive-acts p s v inward.Unreported d = refl

-- and on an end
cancels_inward-acts : (p : Pid) (s : Kernel) (o : Option HereView) (d : Progress)
    → cancels p s way.Inward o d ≡ closes (turned_on p o s) (acts_on o (λ v so_far. withdraws_posted s.number v v.inward so_far) d)
cancels_inward-acts p s None d = refl
cancels_inward-acts p s (Some v) d = cancels_receive-acts p s v v.inward d

-- a Cancel changes no number of links
turned_by-made : (p : Pid) (v : HereView) (i : Inward) (s : Kernel) → record (turned_by p v i s) { made = s.made } ≡ turned_by p v i s
turned_by-made p v inward.Idle s = refl
turned_by-made p v (inward.Posted w) s = refl
turned_by-made p v (inward.Withdrawing w) s = refl
turned_by-made p v inward.Unreported s = refl

turned_on-made : (p : Pid) (o : Option HereView) (s : Kernel) → record (turned_on p o s) { made = s.made } ≡ turned_on p o s
turned_on-made p None s = refl
turned_on-made p (Some v) s = turned_by-made p v v.inward s

-- a Wait finds the reports that stood as it began
waits-acts : (p : Pid) (s : Kernel) (d : Progress) → d.reports ≡ [] → d.answers ≡ []
    → waits p (process_of p s).reports (closes s d) ≡ waits p (process_of p (closes s d).kernel).reports (closes s d)
waits-acts p s d reports answers = ap (λ rs. waits p rs (closes s d)) (sym (closes-reports p s d reports answers))

-- a call that is not refused is its part, the end of the event, and what comes after
pub performs-acts : (p : Pid) (s : Kernel) (mine : List EndId) (reported : Bool) (c : Call) (stamp : ℕ) → refusal p s.table s.made mine reported c ≡ None
    → performs p s mine c (begins s stamp) ≡ finishes p s.number s.made c (closes (record (turned p c s) { made = made_after c s.made }) (acts p s.number s.made mine c (begins s stamp)))
unfolding performs finishes acts turned means
performs-acts p s mine reported call.Make stamp granted = refl
performs-acts p s mine reported (call.Destroy on) stamp granted = granted-acts p s (owned p (s.table on)) _ (begins s stamp) (first_of-none (destroy_causes (sees p s.table on)) granted).0
performs-acts p s mine reported (call.Send on bytes xs) stamp granted = granted-acts p s (owned p (s.table on)) _ (begins s stamp) (first_of-none (send_causes (sees p s.table) on xs) granted).0
performs-acts p s mine reported (call.Receive on) stamp granted = granted-acts p s (owned p (s.table on)) _ (begins s stamp) (first_of-none (receive_causes (sees p s.table on)) granted).0
performs-acts p s mine reported (call.Cancel on way.Outward) stamp granted = cancels_send-acts p s (owned p (s.table on)) (begins s stamp) (first_of-none (cancel_causes way.Outward (sees p s.table on)) granted).0
performs-acts p s mine reported (call.Cancel on way.Inward) stamp granted =
    cancels_inward-acts p s (owned p (s.table on)) (begins s stamp)
    ∙ ap (λ z. closes z (acts p s.number s.made mine (call.Cancel on way.Inward) (begins s stamp))) (sym (turned_on-made p (owned p (s.table on)) s))
performs-acts p s mine reported call.Wait stamp granted = waits-acts p s (means (step.Wait p) (begins s stamp)) refl refl
performs-acts p s mine reported (call.Print bytes) stamp granted = refl
performs-acts p s mine reported call.Exit stamp granted = refl

module _ (p : Pid) (s : Kernel) (mine : List EndId) (c : Call) where
  -- a call that is not refused
  pub call-acts : refusal p s.table s.made mine (has_report (process_of p s)) c ≡ None
      → call_step s p mine c ≡ finishes p s.number s.made c (closes (record (turned p c s) { made = made_after c s.made }) (acts p s.number s.made mine c (begins s (next_stamp s.stamp))))
  unfolding call_step
  call-acts granted =
      ap (λ o. decides p s mine c o (begins s (next_stamp s.stamp))) granted
      ∙ performs-acts p s mine (has_report (process_of p s)) c (next_stamp s.stamp) granted

  -- and one that is
  pub call-refused : (cause : Cause) → refusal p s.table s.made mine (has_report (process_of p s)) c ≡ Some cause
      → call_step s p mine c ≡ stands p (answer.Refused cause) (closes s (means (step.Refuse p c cause) (begins s (next_stamp s.stamp))))
  unfolding call_step
  call-refused cause refused = ap (λ o. decides p s mine c o (begins s (next_stamp s.stamp))) refused

module _ (s : Kernel) (from : ℕ) (pic : Picture) where
  -- a packet that names kernels that are there
  pub take-addressed : is_addressed pic.what s.kernels ≡ true
      → take_step s from pic ≡ closes s (row s.number s.made from pic.what (begins s (next_stamp (max s.stamp pic.stamp))))
  unfolding take_step
  take-addressed addressed = rw addressed

  -- and one that is dropped
  pub take-dropped : is_addressed pic.what s.kernels ≡ false → take_step s from pic ≡ closes s (begins s (next_stamp (max s.stamp pic.stamp)))
  unfolding take_step
  take-dropped dropped = rw dropped
