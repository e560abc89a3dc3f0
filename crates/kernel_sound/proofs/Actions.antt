-- What goes well of the actions of which calls and packets are made.
use Rattle.std.proofs.Common.{◌≡◌, ℕ, Bool, true, false, inl, inr, List, [], refl, ap, subst, ◌∙◌, if◌then◌else◌}
use Rattle.charlotte_calls.specs.Names.{opposite}
use Rattle.charlotte_calls.specs.declared.calls.Answer.TheVariants as answer
use Rattle.charlotte_calls.specs.declared.calls.Cause.TheVariants as cause
use Rattle.charlotte_calls.specs.declared.calls.ServiceStep.TheVariants as step
use Rattle.charlotte_calls.specs.declared.names.EndId.{EndId}
use Rattle.charlotte_calls.specs.declared.names.Outcome.TheVariants as outcome
use Rattle.charlotte_calls.specs.declared.names.Pid.{Pid}
use Rattle.charlotte_packets.specs.declared.picture.MovingPicture.{MovingPicture}
use Rattle.charlotte_packets.specs.declared.picture.PictureWhat.TheVariants as packet
use Rattle.end_table.specs.Entries.{learned, is_news}
use Rattle.end_table.specs.Table.{IfHere, IsOfEnd}
use Rattle.end_table.specs.declared.entry.Entry.{Entry}
use Rattle.end_table.specs.declared.entry.Entry.TheVariants as entry
use Rattle.end_table.specs.declared.entry.HereView.{HereView}
use Rattle.end_table.specs.declared.entry.Holder.{Holder}
use Rattle.end_table.specs.declared.entry.Inward.{Inward}
use Rattle.end_table.specs.declared.entry.Inward.TheVariants as inward
use Rattle.end_table.specs.declared.entry.Outward.{Outward}
use Rattle.end_table.specs.declared.entry.Outward.TheVariants as outward
use Rattle.kernel_step.specs.Actions.{enclosed_of, forgets, send_report, dead_receive_report, hint_kernel, values_leaving, leave_each, matches, match_waiting, noticed_value, noticed_outward, noticed_inward, notice_send, notice_receive, notices, learned_view, resends_on_news, learns, reports}
use Rattle.kernel_step.specs.Progress.{Progress, keeps, means}
use Rattle.kernel_sound.specs.Sound.{IsHeldWell}
use Rattle.kernel_sound.proofs.Put.{IsHolder, IsViewAfter, IsHolder-held}
use Rattle.kernel_sound.proofs.Sends.{forgets-only, resends_on_news-only, only-same}
use Rattle.kernel_sound.proofs.Goes.{GoesWell, only-well, sends-well, means-well, reports-well, answers-well, keeps-well-view}
use Rattle.kernel_sound.proofs.Lists.{IsReleasing, reports-releasing, releasing-first, leave_each-well, hold_each-well}

-- news of the opposite end changes no name
pub learned-end : (at hops : ℕ) (m : MovingPicture) → (learned at hops m).end ≡ m.end
learned-end at hops m = by (is_news m hops)
  where
    by : (b : Bool) → (if b then record m { hint = (at, hops) } else m).end ≡ m.end
    by true = refl
    by false = refl

-- nor any activity
pub IsViewAfter-learned : (v : HereView) (at hops : ℕ) → IsViewAfter v (learned_view v at hops)
IsViewAfter-learned v at hops = record { end = learned-end at hops v.value; holder = refl; idle = λ is. record { outward = is.outward; inward = is.inward }; message = inl refl }

-- an end whose death is noticed has no message that waits
pub enclosed_of-noticed : (o : Outward) → enclosed_of (noticed_outward o) ≡ []
enclosed_of-noticed outward.Idle = refl
enclosed_of-noticed (outward.Waiting n bytes xs) = refl
enclosed_of-noticed (outward.Matched n) = refl
enclosed_of-noticed outward.Unreported = refl

-- NOTICE leaves another view of the end
pub IsViewAfter-noticed : (v : HereView) → IsViewAfter v (record v { value = noticed_value v.value; outward = noticed_outward v.outward; inward = noticed_inward v.inward })
IsViewAfter-noticed v =
    record {
      end = refl;
      holder = refl;
      idle = λ is. record { outward = ap noticed_outward is.outward; inward = ap noticed_inward is.inward };
      message = inr (enclosed_of-noticed v.outward);
    }

module _ {k made n : ℕ} {touches : Pid → EndId → Bool} {before : EndId → Entry} where
  -- who holds an end that is here
  pub IsHolder-here : (e : EndId) (v : HereView) (d : Progress) → GoesWell k made n touches before d → d.table e ≡ entry.Here v → IsHolder n v.holder
  IsHolder-here e v d w here = IsHolder-held n v v.holder (subst (λ y. IfHere y (λ u. IsHeldWell n u u.holder)) here (w.sound.held e))

  -- an end that is here has its name
  pub end-here : (e : EndId) (v : HereView) (d : Progress) → GoesWell k made n touches before d → d.table e ≡ entry.Here v → v.value.end ≡ e
  end-here e v d w here = subst (IsOfEnd e) here (w.sound.own e)

  -- its traces are forgotten
  pub forgets-well : (m : MovingPicture) (d : Progress) → GoesWell k made n touches before d → GoesWell k made n touches before (forgets k m d)
  forgets-well m d w = only-well (forgets-only k m d (only-same d)) w

  -- its live packets go again
  pub news-well : (was : MovingPicture) (hops : ℕ) (m : MovingPicture) (i : Inward) (d : Progress) → GoesWell k made n touches before d → GoesWell k made n touches before (resends_on_news k was hops m i d)
  news-well was hops m i d w = only-well (resends_on_news-only k was hops m i d (only-same d)) w

  -- the view of an end changes that its packet or its process touches
  pub view-well : (e : EndId) (v u : HereView) (d : Progress) → d.table e ≡ entry.Here v → ((p : Pid) → touches p e ≡ true) → IsViewAfter v u → GoesWell k made n touches before d → GoesWell k made n touches before (keeps u.value.end (entry.Here u) d)
  view-well e v u d here touched after w = keeps-well-view e u.value.end v u d (after.end ∙ end-here e v d w here) here touched after w

  -- and at its old name
  pub view-well-own : (e : EndId) (v u : HereView) (d : Progress) → d.table e ≡ entry.Here v → ((p : Pid) → touches p e ≡ true) → IsViewAfter v u → GoesWell k made n touches before d → GoesWell k made n touches before (keeps v.value.end (entry.Here u) d)
  view-well-own e v u d here touched after w = keeps-well-view e v.value.end v u d (end-here e v d w here) here touched after w

  -- MATCH; u is the view with what was learned last
  pub matches-well : (e : EndId) (v u : HereView) (m : ℕ) (bytes : List ℕ) (xs : List EndId) (d : Progress) → d.table e ≡ entry.Here v → v.outward ≡ outward.Waiting m bytes xs → u.value.end ≡ v.value.end
      → u.holder ≡ v.holder → ((p : Pid) → touches p e ≡ true) → GoesWell k made n touches before d → GoesWell k made n touches before (matches k u m bytes xs d)
  unfolding matches
  matches-well e v u m bytes xs d here waits end holds touched w =
      let served : HereView = record u { value = record u.value { served = u.value.want; want = 0 }; outward = outward.Matched m } in
      let kept : Progress = keeps u.value.end (entry.Here served) d in
      let after : IsViewAfter v served = record { end = end; holder = holds; idle = λ idle. absurd (busy idle.outward); message = inr refl } in
      let at : u.value.end ≡ e = end ∙ end-here e v d w here in
      let well : GoesWell k made n touches before kept = keeps-well-view e u.value.end v served d at here touched after w in
      let first : IsReleasing k made n touches before e (enclosed_of v.outward) kept = releasing-first e u.value.end v (entry.Here served) d at here refl w well in
      let releasing : IsReleasing k made n touches before e xs kept = subst (λ ys. IsReleasing k made n touches before e ys kept) (ap enclosed_of waits) first in
      sends-well (hint_kernel u) (packet.Parcel (opposite u.value.end) m u.value.want k u.value.hops bytes (values_leaving k kept.table xs)) (means (step.Match u.value.end m) (leave_each (hint_kernel u) xs kept))
      (means-well (step.Match u.value.end m) (leave_each (hint_kernel u) xs kept)
      (leave_each-well (hint_kernel u) e xs kept releasing))
    where
      busy : v.outward ≡ outward.Idle → ⊥
      busy idle = cc

  -- MATCH where a send waits
  pub match_waiting-well : (e : EndId) (v u : HereView) (d : Progress) → d.table e ≡ entry.Here v → IsViewAfter v u → ((p : Pid) → touches p e ≡ true) → GoesWell k made n touches before d → GoesWell k made n touches before (match_waiting k u v.outward d)
  match_waiting-well e v u d here after touched w = by v.outward refl
    where
      by : (o : Outward) → v.outward ≡ o → GoesWell k made n touches before (match_waiting k u o d)
      by outward.Idle is = view-well e v u d here touched after w
      by (outward.Waiting m bytes xs) is = matches-well e v u m bytes xs d here is after.end after.holder touched w
      by (outward.Matched m) is = view-well e v u d here touched after w
      by outward.Unreported is = view-well e v u d here touched after w

  -- NOTICE of a send
  pub notice_send-well : (e f : EndId) (h : Holder) (o : Outward) (d : Progress) → IsHolder n h → IsReleasing k made n touches before e (enclosed_of o) d → GoesWell k made n touches before (notice_send f h o d)
  unfolding notice_send
  notice_send-well e f h outward.Idle d holds r = r.well
  notice_send-well e f h (outward.Waiting m bytes xs) d holds r =
      hold_each-well h e xs (reports h (send_report f outcome.Destroyed xs) d) holds (reports-releasing e xs h (send_report f outcome.Destroyed xs) d holds r)
  notice_send-well e f h (outward.Matched m) d holds r = r.well
  notice_send-well e f h outward.Unreported d holds r = r.well

  -- NOTICE of a receive
  pub notice_receive-well : (f : EndId) (h : Holder) (i : Inward) (d : Progress) → IsHolder n h → GoesWell k made n touches before d → GoesWell k made n touches before (notice_receive f h i d)
  unfolding notice_receive
  notice_receive-well f h inward.Idle d holds w = w
  notice_receive-well f h (inward.Posted m) d holds w = reports-well h (dead_receive_report f) d holds w
  notice_receive-well f h (inward.Withdrawing m) d holds w =
      answers-well h (answer.Refused cause.Dead) (reports h (dead_receive_report f) d) holds (reports-well h (dead_receive_report f) d holds w)
  notice_receive-well f h inward.Unreported d holds w = w

  -- NOTICE
  pub notices-well : (e : EndId) (v : HereView) (d : Progress) → d.table e ≡ entry.Here v → ((p : Pid) → touches p e ≡ true) → GoesWell k made n touches before d → GoesWell k made n touches before (notices k v d)
  unfolding notices
  notices-well e v d here touched w =
      let noticed : HereView = record v { value = noticed_value v.value; outward = noticed_outward v.outward; inward = noticed_inward v.inward } in
      let after : IsViewAfter v noticed = IsViewAfter-noticed v in
      let holds : IsHolder n v.holder = IsHolder-here e v d w here in
      let kept : Progress = keeps v.value.end (entry.Here noticed) d in
      let well : GoesWell k made n touches before kept = view-well-own e v noticed d here touched after w in
      let releasing = releasing-first e v.value.end v (entry.Here noticed) d (end-here e v d w here) here (enclosed_of-noticed v.outward) w well in
      let sent : Progress = notice_send v.value.end v.holder v.outward kept in
      let received : Progress = notice_receive v.value.end v.holder v.inward sent in
      forgets-well v.value received (notice_receive-well v.value.end v.holder v.inward sent holds (notice_send-well e v.value.end v.holder v.outward kept holds releasing))

  -- LEARN
  pub learns-well : (e : EndId) (at hops : ℕ) (v : HereView) (d : Progress) → d.table e ≡ entry.Here v → ((p : Pid) → touches p e ≡ true) → GoesWell k made n touches before d → GoesWell k made n touches before (learns k at hops v d)
  unfolding learns
  learns-well e at hops v d here touched w =
      let informed : HereView = learned_view v at hops in
      let kept : Progress = keeps v.value.end (entry.Here informed) d in
      news-well v.value hops informed.value v.inward kept (view-well-own e v informed d here touched (IsViewAfter-learned v at hops) w)
