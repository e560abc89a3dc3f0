-- What a kernel does with a packet of a silent kind: it changes no activity, and gives no report.
use Rattle.std.proofs.Common.{◌≡◌, ℕ, Bool, true, false, true≢false, nat_eq, nat_lt, not, ◌&&◌, ◌||◌, inl, inr, List, [], if◌then◌else◌, Option, Some, None, refl, sym, ap, subst, ◌∙◌}
use Rattle.charlotte_calls.specs.Causes.{is_started}
use Rattle.charlotte_calls.specs.Names.{opposite}
use Rattle.charlotte_calls.specs.declared.calls.Report.{Report}
use Rattle.charlotte_calls.specs.declared.calls.ServiceStep.TheVariants as step
use Rattle.charlotte_calls.specs.declared.names.EndId.{EndId}
use Rattle.charlotte_calls.specs.declared.names.Pid.{Pid}
use Rattle.charlotte_packets.specs.declared.picture.PictureWhat.{PictureWhat}
use Rattle.charlotte_packets.specs.declared.picture.PictureWhat.TheVariants as packet
use Rattle.charlotte_packets.specs.declared.work.Work.{Work}
use Rattle.end_table.specs.Owned.{is_owner, owned}
use Rattle.end_table.specs.Table.{IsHere}
use Rattle.end_table.specs.declared.entry.Entry.{Entry}
use Rattle.end_table.specs.declared.entry.Entry.TheVariants as entry
use Rattle.end_table.specs.declared.entry.HereView.{HereView}
use Rattle.end_table.specs.declared.entry.Outward.{Outward}
use Rattle.end_table.specs.declared.entry.Outward.TheVariants as outward
use Rattle.kernel_process.proofs.Away.{away-calm, away-reports}
use Rattle.kernel_sound.proofs.Actions.{end-here, learned-end, IsViewAfter-learned}
use Rattle.kernel_sound.proofs.Events.{begun-well, well-calm}
use Rattle.kernel_sound.proofs.Goes.{GoesWell, keeps-well, only-well}
use Rattle.kernel_sound.proofs.Lists.{IsReleasing, leave_each-well, releasing-first}
use Rattle.kernel_sound.proofs.Put.{IsViewAfter, put-sound-view}
use Rattle.kernel_sound.proofs.Sends.{SendsOnly, either-keeps, fold-keeps, forgets-only, means-only, only-same, resends_on_news-only, sends-only}
use Rattle.kernel_sound.specs.Sound.{IsSound, addressee}
use Rattle.kernel_step.specs.Actions.{enclosed_of, forgets, here, hint_kernel, leave_each, leaves_here, learned_view, learns, match_waiting, matches, resends_on_news, values_leaving}
use Rattle.kernel_step.specs.Calls.{inward_activity, is_active, outward_activity}
use Rattle.kernel_step.specs.Progress.{Progress, keeps, means, progress, sends}
use Rattle.kernel_touched.specs.Found.{is_silent}
use Rattle.kernel_step.specs.Rows.{forget_row, goneseen_row, known_here, known_row, moved_here, moved_row, row, unwant_here, unwant_row, voids, want_here, want_row, wants}

-- how far an event has come that changes no activity, and gave these reports
record GoesSilently (k made n : ℕ) (before : EndId → Entry) (reports : List (Pid × Report)) (d : Progress) : Type 0 where
  pub well : GoesWell k made n (λ p e. false) before d
  pub none : d.reports ≡ reports

-- an end that keeps its holder and its activity
active-same : (p : Pid) (v u : HereView) → u.holder ≡ v.holder → is_active (Some u) ≡ is_active (Some v) → is_active (owned p (entry.Here u)) ≡ is_active (owned p (entry.Here v))
active-same p v u holder active = ap (λ h. is_active (if is_owner p h then Some u else None)) holder ∙ by (is_owner p v.holder)
  where
    by : (b : Bool) → is_active (if b then Some u else None) ≡ is_active (if b then Some v else None)
    by true = active
    by false = refl

-- ends that leave give no report
leave_each-reports : (to : ℕ) (xs : List EndId) (d : Progress) → (leave_each to xs d).reports ≡ d.reports
unfolding leave_each keeps
leave_each-reports to xs d = fold-keeps (λ e. e.reports ≡ d.reports) (λ so_far x. leaves_here to (here (so_far.table x)) so_far) (λ e x same. by e (here (e.table x)) ∙ same) xs d refl
  where
    by : (e : Progress) (o : Option HereView) → (leaves_here to o e).reports ≡ e.reports
    by e None = refl
    by e (Some v) = refl

module _ {k made n : ℕ} {before : EndId → Entry} {reports : List (Pid × Report)} where
  -- packets and steps
  only-silent : {old new : Progress} → SendsOnly old new → GoesSilently k made n before reports old → GoesSilently k made n before reports new
  only-silent s w = record { well = only-well s w.well; none = s.reports ∙ w.none }

  -- the view of an end that keeps its activity
  view-silent : (e f : EndId) (v u : HereView) (d : Progress) → f ≡ e → d.table e ≡ entry.Here v → IsViewAfter v u → is_active (Some u) ≡ is_active (Some v)
      → GoesSilently k made n before reports d → GoesSilently k made n before reports (keeps f (entry.Here u) d)
  unfolding keeps
  view-silent e f v u d same is after active w =
      record {
        well = subst (λ z. GoesWell k made n (λ p e. false) before (keeps z (entry.Here u) d)) (sym same)
            (keeps-well e (entry.Here u) d (put-sound-view e v u w.well.sound is after) (λ p apart. active-same p v u after.holder active ∙ ap (λ x. is_active (owned p x)) (sym is)) w.well);
        none = w.none;
      }

  news-silent : (was : HereView) (hops : ℕ) (u : HereView) (d : Progress) → GoesSilently k made n before reports d → GoesSilently k made n before reports (resends_on_news k was.value hops u.value was.inward d)
  news-silent was hops u d w = only-silent (resends_on_news-only k was.value hops u.value was.inward d (only-same d)) w

  learns-silent : (e : EndId) (at hops : ℕ) (v : HereView) (d : Progress) → d.table e ≡ entry.Here v → GoesSilently k made n before reports d → GoesSilently k made n before reports (learns k at hops v d)
  unfolding learns
  learns-silent e at hops v d is w =
      let informed : HereView = learned_view v at hops in
      news-silent v hops informed (keeps v.value.end (entry.Here informed) d)
      (view-silent e v.value.end v informed d (end-here e v d w.well is) is (IsViewAfter-learned v at hops) refl w)

  matches-silent : (e : EndId) (v u : HereView) (m : ℕ) (bytes : List ℕ) (xs : List EndId) (d : Progress) → d.table e ≡ entry.Here v → v.outward ≡ outward.Waiting m bytes xs → IsViewAfter v u
      → GoesSilently k made n before reports d → GoesSilently k made n before reports (matches k u m bytes xs d)
  unfolding matches
  matches-silent e v u m bytes xs d is waits after w =
      let served : HereView = record u { value = record u.value { served = u.value.want; want = 0 }; outward = outward.Matched m } in
      let kept : Progress = keeps u.value.end (entry.Here served) d in
      let matched : IsViewAfter v served = record { end = after.end; holder = after.holder; idle = λ idle. absurd (busy idle.outward); message = inr refl } in
      let at : u.value.end ≡ e = after.end ∙ end-here e v d w.well is in
      let active : is_active (Some served) ≡ is_active (Some v) = sym (ap (λ o. is_started (outward_activity o) || is_started (inward_activity v.inward)) waits) in
      let silent : GoesSilently k made n before reports kept = view-silent e u.value.end v served d at is matched active w in
      let first : IsReleasing k made n (λ p e. false) before e (enclosed_of v.outward) kept = releasing-first e u.value.end v (entry.Here served) d at is refl w.well silent.well in
      let releasing : IsReleasing k made n (λ p e. false) before e xs kept = subst (λ ys. IsReleasing k made n (λ p e. false) before e ys kept) (ap enclosed_of waits) first in
      let left : Progress = leave_each (hint_kernel u) xs kept in
      let sent : SendsOnly left (sends (hint_kernel u) (packet.Parcel (opposite u.value.end) m u.value.want k u.value.hops bytes (values_leaving k kept.table xs)) (means (step.Match u.value.end m) left)) =
      sends-only _ _ _ (means-only (step.Match u.value.end m) left (only-same left)) in
      only-silent sent (record { well = leave_each-well (hint_kernel u) e xs kept releasing; none = leave_each-reports (hint_kernel u) xs kept ∙ silent.none })
    where
      busy : v.outward ≡ outward.Idle → ⊥
      busy idle = cc

  match_waiting-silent : (e : EndId) (v u : HereView) (d : Progress) → d.table e ≡ entry.Here v → IsViewAfter v u → is_active (Some u) ≡ is_active (Some v)
      → GoesSilently k made n before reports d → GoesSilently k made n before reports (match_waiting k u v.outward d)
  match_waiting-silent e v u d is after active w = by v.outward refl
    where
      kept : GoesSilently k made n before reports (keeps u.value.end (entry.Here u) d)
      kept = view-silent e u.value.end v u d (after.end ∙ end-here e v d w.well is) is after active w

      by : (o : Outward) → v.outward ≡ o → GoesSilently k made n before reports (match_waiting k u o d)
      by outward.Idle was = kept
      by (outward.Waiting m bytes xs) was = matches-silent e v u m bytes xs d is was after w
      by (outward.Matched m) was = kept
      by outward.Unreported was = kept

  -- a want or an unwant, where it goes so if the receive was not served yet
  served-silent : (e : EndId) (w at hops : ℕ) (v : HereView) (d unserved : Progress) → d.table e ≡ entry.Here v → GoesSilently k made n before reports d → GoesSilently k made n before reports unserved
      → GoesSilently k made n before reports (if v.value.dead then d else if nat_lt v.value.served w then unserved else learns k at hops v d)
  served-silent e w at hops v d unserved is well goes =
      either-keeps (GoesSilently k made n before reports) v.value.dead d (if nat_lt v.value.served w then unserved else learns k at hops v d) (λ dead. well)
      (λ lives. either-keeps (GoesSilently k made n before reports) (nat_lt v.value.served w) unserved (learns k at hops v d) (λ new. goes) (λ old. learns-silent e at hops v d is well))

  want_here-silent : (e : EndId) (w at hops : ℕ) (v : HereView) (d : Progress) → d.table e ≡ entry.Here v → GoesSilently k made n before reports d → GoesSilently k made n before reports (want_here k w at hops v d)
  unfolding want_here wants
  want_here-silent e w at hops v d is well =
      let informed : HereView = learned_view v at hops in
      let asked : HereView = record informed { value = record informed.value { want = w } } in
      let after : IsViewAfter v asked = record { end = learned-end at hops v.value; holder = refl; idle = λ idle. record { outward = idle.outward; inward = idle.inward }; message = inl refl } in
      served-silent e w at hops v d (wants k w at hops v d) is well
      (news-silent v hops informed (match_waiting k asked v.outward d) (match_waiting-silent e v asked d is after refl well))

  unwant_here-silent : (e : EndId) (w at hops : ℕ) (v : HereView) (d : Progress) → d.table e ≡ entry.Here v → GoesSilently k made n before reports d → GoesSilently k made n before reports (unwant_here k w at hops v d)
  unfolding unwant_here voids
  unwant_here-silent e w at hops v d is well =
      let f : EndId = v.value.end in
      let informed : HereView = learned_view v at hops in
      let voided : HereView = record informed { value = record informed.value { served = w; want = 0 } } in
      let after : IsViewAfter v voided = record { end = learned-end at hops v.value; holder = refl; idle = λ idle. record { outward = idle.outward; inward = idle.inward }; message = inl refl } in
      let kept : Progress = keeps f (entry.Here voided) d in
      let told : SendsOnly kept (sends at (packet.Unwanted (opposite f) w k v.value.hops) (means (step.Withdraw (opposite f)) kept)) =
      sends-only _ _ _ (means-only (step.Withdraw (opposite f)) kept (only-same kept)) in
      served-silent e w at hops v d (voids k w at hops v d) is well
      (news-silent v hops informed (sends at (packet.Unwanted (opposite f) w k v.value.hops) (means (step.Withdraw (opposite f)) kept))
      (only-silent told (view-silent e f v voided d (end-here e v d well.well is) is after refl well)))

  moved_here-silent : (e : EndId) (at hops : ℕ) (v : HereView) (d : Progress) → d.table e ≡ entry.Here v → GoesSilently k made n before reports d → GoesSilently k made n before reports (moved_here k at hops v d)
  unfolding moved_here
  moved_here-silent e at hops v d is well =
      let learnt : Progress = learns k at hops v d in
      either-keeps (GoesSilently k made n before reports) v.value.dead d (sends at (packet.Known (opposite v.value.end) hops) learnt) (λ dead. well)
      (λ lives. only-silent (sends-only _ _ _ (only-same learnt)) (learns-silent e at hops v d is well))

  known_here-silent : (e : EndId) (hops : ℕ) (v : HereView) (d : Progress) → d.table e ≡ entry.Here v → GoesSilently k made n before reports d → GoesSilently k made n before reports (known_here k hops v d)
  unfolding known_here
  known_here-silent e hops v d is well =
      let known : HereView = record v { value = record v.value { trail = 0 } } in
      let after : IsViewAfter v known = record { end = refl; holder = refl; idle = λ idle. record { outward = idle.outward; inward = idle.inward }; message = inl refl } in
      let only : SendsOnly d (forgets k v.value d) = forgets-only k v.value d (only-same d) in
      either-keeps (GoesSilently k made n before reports) (not v.value.dead && nat_eq v.value.hops hops) (keeps v.value.end (entry.Here known) (forgets k v.value d)) d
      (λ is_so. view-silent e v.value.end v known (forgets k v.value d) (end-here e v d well.well is) (ap (λ t. t e) only.table ∙ is) after refl (only-silent only well)) (λ not_so. well)

  -- each silent packet to an end that is here
  row-silent : (from : ℕ) (what : PictureWhat) (v : HereView) (d : Progress) → is_silent what ≡ true → d.table (addressee what) ≡ entry.Here v → GoesSilently k made n before reports d → GoesSilently k made n before reports (row k made from what d)
  row-silent from (packet.Want to w at hops) v d silent is well = subst (λ y. GoesSilently k made n before reports (want_row k to w at hops y d)) (sym is) (want_here-silent to w at hops v d is well)
  row-silent from (packet.Unwant to w at hops) v d silent is well = subst (λ y. GoesSilently k made n before reports (unwant_row k to w at hops y d)) (sym is) (unwant_here-silent to w at hops v d is well)
  row-silent from (packet.Unwanted to w at hops) v d silent is well = absurd (true≢false (sym silent))
  row-silent from (packet.Parcel to m w at hops bytes ms) v d silent is well = absurd (true≢false (sym silent))
  row-silent from (packet.Taken to m at hops) v d silent is well = absurd (true≢false (sym silent))
  row-silent from (packet.Back to m ms) v d silent is well = absurd (true≢false (sym silent))
  row-silent from (packet.Gone to at) v d silent is well = absurd (true≢false (sym silent))
  row-silent from (packet.Moved to at hops) v d silent is well = subst (λ y. GoesSilently k made n before reports (moved_row k to at hops y d)) (sym is) (moved_here-silent to at hops v d is well)
  row-silent from (packet.Known to hops) v d silent is well = subst (λ y. GoesSilently k made n before reports (known_row k hops y d)) (sym is) (known_here-silent to hops v d is well)
  row-silent from (packet.Forget to hops) v d silent is well = subst (λ y. GoesSilently k made n before reports (forget_row to hops y d)) (sym is) well
  row-silent from (packet.GoneSeen to) v d silent is well = subst (λ y. GoesSilently k made n before reports (goneseen_row k y d)) (sym is) well

-- so from the beginning of an event on, where the packet is silent or to an end that is not here
module _ (k made n from : ℕ) (what : PictureWhat) (t u : EndId → Entry) (work out : Work) (reports : work.reports.items ≡ []) (answers : work.answers.items ≡ []) (sound : IsSound k made n t)
    (after : progress u out ≡ row k made from what (progress t work)) (quiet : IsHere (t (addressee what)) → is_silent what ≡ true) where
  begun : GoesSilently k made n t (progress t work).reports (progress t work)
  begun = record { well = begun-well k made n (λ p e. false) t work reports answers sound; none = refl }

  goes : (v : HereView) → t (addressee what) ≡ entry.Here v → GoesSilently k made n t (progress t work).reports (row k made from what (progress t work))
  unfolding progress
  goes v is = row-silent from what v (progress t work) (quiet (subst IsHere (sym is) tt)) is begun

  pub quiet-reports : out.reports.items ≡ []
  unfolding progress
  quiet-reports = by (t (addressee what)) refl
    where
      away : (IsHere (t (addressee what)) → ⊥) → out.reports.items ≡ []
      away gone = away-reports k made n from what t u work out reports answers sound after gone

      by : (x : Entry) → t (addressee what) ≡ x → out.reports.items ≡ []
      by entry.Nothing is = away (λ here. subst IsHere is here)
      by (entry.Here v) is = ap (λ d. d.reports) after ∙ (goes v is).none ∙ reports
      by (entry.Left there h) is = away (λ here. subst IsHere is here)
      by (entry.Destroyed m) is = away (λ here. subst IsHere is here)

  pub quiet-calm : (p : Pid) (e : EndId) → is_active (owned p (u e)) ≡ is_active (owned p (t e))
  quiet-calm p e = by (t (addressee what)) refl
    where
      away : (IsHere (t (addressee what)) → ⊥) → is_active (owned p (u e)) ≡ is_active (owned p (t e))
      away gone = away-calm k made n from what t u work out reports answers sound after gone p e

      by : (x : Entry) → t (addressee what) ≡ x → is_active (owned p (u e)) ≡ is_active (owned p (t e))
      by entry.Nothing is = away (λ here. subst IsHere is here)
      by (entry.Here v) is = well-calm k made n (λ p e. false) t u out _ after (goes v is).well p e refl
      by (entry.Left there h) is = away (λ here. subst IsHere is here)
      by (entry.Destroyed m) is = away (λ here. subst IsHere is here)
