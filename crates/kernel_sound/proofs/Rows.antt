-- What a kernel does with a packet goes well, whatever the packet: it changes an activity only at the end that it is addressed to.
use Rattle.std.proofs.Common.{◌≡◌, ℕ, Bool, true, nat_eq, nat_lt, nat_le, not, ◌&&◌, inl, refl, ap, subst, ◌∙◌, if◌then◌else◌}
use Rattle.charlotte_calls.specs.Names.{opposite}
use Rattle.charlotte_calls.specs.declared.calls.Answer.TheVariants as answer
use Rattle.charlotte_calls.specs.declared.calls.ServiceStep.TheVariants as step
use Rattle.charlotte_calls.specs.declared.names.EndId.{EndId}
use Rattle.charlotte_calls.specs.declared.names.Pid.{Pid}
use Rattle.charlotte_packets.specs.declared.picture.MovingPicture.{MovingPicture}
use Rattle.charlotte_packets.specs.declared.picture.PictureWhat.{PictureWhat}
use Rattle.charlotte_packets.specs.declared.picture.PictureWhat.TheVariants as packet
use Rattle.end_table.specs.Entries.{learned, is_news}
use Rattle.end_table.specs.Table.{IsHere, IsOfEnd}
use Rattle.end_table.specs.declared.entry.Entry.{Entry}
use Rattle.end_table.specs.declared.entry.Entry.TheVariants as entry
use Rattle.end_table.specs.declared.entry.HereView.{HereView}
use Rattle.end_table.specs.declared.entry.Inward.{Inward}
use Rattle.end_table.specs.declared.entry.Inward.TheVariants as inward
use Rattle.kernel_step.specs.Actions.{answers, forgets, match_waiting, is_withdrawing, learned_view, learns}
use Rattle.kernel_step.specs.Progress.{Progress, sends, means, keeps}
use Rattle.kernel_step.specs.Rows.{wants, want_here, want_row, voids, unwant_here, unwant_row, frees, unwanted_here, unwanted_row, notices_first, erases, gone_here, gone_row, moved_here, mark_learns, moved_mark, moved_row, known_here, known_row, forget_row, goneseen_row, row}
use Rattle.kernel_sound.specs.Sound.{addressee}
use Rattle.kernel_sound.proofs.Put.{IsViewAfter}
use Rattle.kernel_sound.proofs.Sends.{SendsOnly, either-keeps, forgets-only, sends-only, means-only, only-same}
use Rattle.kernel_sound.proofs.Goes.{GoesWell, only-well, sends-well, means-well, answers-well, keeps-well-away}
use Rattle.kernel_sound.proofs.Actions.{learned-end, IsHolder-here, news-well, view-well-own, match_waiting-well, learns-well}
use Rattle.kernel_sound.proofs.Parcels.{parcel-well, taken-well, notices_first-well, back-well}

module _ {k made n : ℕ} {touches : Pid → EndId → Bool} {before : EndId → Entry} where
  -- what is done by the entry of an end goes well where it does at each entry
  each-entry : (part : Entry → Progress) (x : Entry) → GoesWell k made n touches before (part entry.Nothing) → ((v : HereView) → x ≡ entry.Here v → GoesWell k made n touches before (part (entry.Here v)))
      → ((there h : ℕ) → x ≡ entry.Left there h → GoesWell k made n touches before (part (entry.Left there h)))
      → ((m : MovingPicture) → x ≡ entry.Destroyed m → GoesWell k made n touches before (part (entry.Destroyed m))) → GoesWell k made n touches before (part x)
  each-entry part entry.Nothing nothing here left destroyed = nothing
  each-entry part (entry.Here v) nothing here left destroyed = here v refl
  each-entry part (entry.Left there h) nothing here left destroyed = left there h refl
  each-entry part (entry.Destroyed m) nothing here left destroyed = destroyed m refl

  -- what a want or an unwant of the receive w does at an end that is here, where it goes well if w was not served yet
  served-well : (e : EndId) (w at hops : ℕ) (v : HereView) (d unserved : Progress) → d.table e ≡ entry.Here v → ((p : Pid) → touches p e ≡ true) → GoesWell k made n touches before d
      → GoesWell k made n touches before unserved → GoesWell k made n touches before (if v.value.dead then d else if nat_lt v.value.served w then unserved else learns k at hops v d)
  served-well e w at hops v d unserved here touched well goes =
      either-keeps (GoesWell k made n touches before) v.value.dead d (if nat_lt v.value.served w then unserved else learns k at hops v d) (λ is. well)
      (λ is. either-keeps (GoesWell k made n touches before) (nat_lt v.value.served w) unserved (learns k at hops v d) (λ is. goes) (λ is. learns-well e at hops v d here touched well))

  -- want, where the receive was not matched or withdrawn
  pub wants-well : (e : EndId) (w at hops : ℕ) (v : HereView) (d : Progress) → d.table e ≡ entry.Here v → ((p : Pid) → touches p e ≡ true) → GoesWell k made n touches before d → GoesWell k made n touches before (wants k w at hops v d)
  unfolding wants
  wants-well e w at hops v d here touched well =
      let informed : HereView = learned_view v at hops in
      let asked : HereView = record informed { value = record informed.value { want = w } } in
      let after : IsViewAfter v asked = record { end = learned-end at hops v.value; holder = refl; idle = λ idle. record { outward = idle.outward; inward = idle.inward }; message = inl refl } in
      news-well v.value hops informed.value v.inward (match_waiting k asked v.outward d) (match_waiting-well e v asked d here after touched well)

  -- want at an end that is here
  pub want_here-well : (e : EndId) (w at hops : ℕ) (v : HereView) (d : Progress) → d.table e ≡ entry.Here v → ((p : Pid) → touches p e ≡ true) → GoesWell k made n touches before d → GoesWell k made n touches before (want_here k w at hops v d)
  unfolding want_here
  want_here-well e w at hops v d here touched well =
      served-well e w at hops v d (wants k w at hops v d) here touched well (wants-well e w at hops v d here touched well)

  -- want at any entry
  pub want_row-well : (to : EndId) (w at hops : ℕ) (d : Progress) → ((p : Pid) → touches p to ≡ true) → GoesWell k made n touches before d → GoesWell k made n touches before (want_row k to w at hops (d.table to) d)
  want_row-well to w at hops d touched well =
      each-entry (λ y. want_row k to w at hops y d) (d.table to) well (λ v is. want_here-well to w at hops v d is touched well)
      (λ there h is. sends-well there (packet.Want to w at hops) d well) (λ m is. well)

  -- unwant, where the receive was not matched or withdrawn
  pub voids-well : (e : EndId) (w at hops : ℕ) (v : HereView) (d : Progress) → d.table e ≡ entry.Here v → ((p : Pid) → touches p e ≡ true) → GoesWell k made n touches before d → GoesWell k made n touches before (voids k w at hops v d)
  unfolding voids
  voids-well e w at hops v d here touched well =
      let f : EndId = v.value.end in
      let informed : HereView = learned_view v at hops in
      let voided : HereView = record informed { value = record informed.value { served = w; want = 0 } } in
      let after : IsViewAfter v voided = record { end = learned-end at hops v.value; holder = refl; idle = λ idle. record { outward = idle.outward; inward = idle.inward }; message = inl refl } in
      let kept : Progress = keeps f (entry.Here voided) d in
      let meant : Progress = means (step.Withdraw (opposite f)) kept in
      news-well v.value hops informed.value v.inward (sends at (packet.Unwanted (opposite f) w k v.value.hops) meant)
      (sends-well at (packet.Unwanted (opposite f) w k v.value.hops) meant (means-well (step.Withdraw (opposite f)) kept (view-well-own e v voided d here touched after well)))

  -- unwant at an end that is here
  pub unwant_here-well : (e : EndId) (w at hops : ℕ) (v : HereView) (d : Progress) → d.table e ≡ entry.Here v → ((p : Pid) → touches p e ≡ true) → GoesWell k made n touches before d → GoesWell k made n touches before (unwant_here k w at hops v d)
  unfolding unwant_here
  unwant_here-well e w at hops v d here touched well =
      served-well e w at hops v d (voids k w at hops v d) here touched well (voids-well e w at hops v d here touched well)

  -- unwant at any entry
  pub unwant_row-well : (to : EndId) (w at hops : ℕ) (d : Progress) → ((p : Pid) → touches p to ≡ true) → GoesWell k made n touches before d → GoesWell k made n touches before (unwant_row k to w at hops (d.table to) d)
  unwant_row-well to w at hops d touched well =
      each-entry (λ y. unwant_row k to w at hops y d) (d.table to) well (λ v is. unwant_here-well to w at hops v d is touched well)
      (λ there h is. sends-well there (packet.Unwant to w at hops) d well) (λ m is. well)

  -- unwanted, where the Cancel waits for it
  pub frees-well : (e : EndId) (at hops : ℕ) (v : HereView) (d : Progress) → d.table e ≡ entry.Here v → ((p : Pid) → touches p e ≡ true) → GoesWell k made n touches before d → GoesWell k made n touches before (frees k at hops v d)
  unfolding frees
  frees-well e at hops v d here touched well =
      let freed : HereView = record (learned_view v at hops) { inward = inward.Idle } in
      let after : IsViewAfter v freed = record { end = learned-end at hops v.value; holder = refl; idle = λ idle. record { outward = idle.outward; inward = refl }; message = inl refl } in
      let kept : Progress = keeps v.value.end (entry.Here freed) d in
      let meant : Progress = means (step.Free v.value.end) kept in
      news-well v.value hops freed.value inward.Idle (answers v.holder answer.Ok meant)
      (answers-well v.holder answer.Ok meant (IsHolder-here e v d well here) (means-well (step.Free v.value.end) kept (view-well-own e v freed d here touched after well)))

  -- unwanted at an end that is here
  pub unwanted_here-well : (e : EndId) (w at hops : ℕ) (v : HereView) (i : Inward) (d : Progress) → d.table e ≡ entry.Here v → ((p : Pid) → touches p e ≡ true) → GoesWell k made n touches before d → GoesWell k made n touches before (unwanted_here k w at hops v i d)
  unwanted_here-well e w at hops v inward.Idle d here touched well = well
  unwanted_here-well e w at hops v (inward.Posted x) d here touched well = well
  unwanted_here-well e w at hops v (inward.Withdrawing x) d here touched well =
      either-keeps (GoesWell k made n touches before) (nat_eq x w) (frees k at hops v d) d (λ is. frees-well e at hops v d here touched well) (λ is. well)
  unwanted_here-well e w at hops v inward.Unreported d here touched well = well

  -- unwanted at any entry
  pub unwanted_row-well : (to : EndId) (w at hops : ℕ) (d : Progress) → ((p : Pid) → touches p to ≡ true) → GoesWell k made n touches before d → GoesWell k made n touches before (unwanted_row k w at hops (d.table to) d)
  unwanted_row-well to w at hops d touched well =
      each-entry (λ y. unwanted_row k w at hops y d) (d.table to) well (λ v is. unwanted_here-well to w at hops v v.inward d is touched well) (λ there h is. well) (λ m is. well)

  -- a mark is erased
  pub erases-well : (e : EndId) (m : MovingPicture) (d : Progress) → d.table e ≡ entry.Destroyed m → GoesWell k made n touches before d → GoesWell k made n touches before (erases k m d)
  unfolding erases
  erases-well e m d there well =
      let only : SendsOnly d (forgets k m d) = forgets-only k m d (only-same d) in
      let own : m.end ≡ e = subst (IsOfEnd e) there (well.sound.own e) in
      let at : (forgets k m d).table m.end ≡ entry.Destroyed m = ap (λ t. t m.end) only.table ∙ ap d.table own ∙ there in
      keeps-well-away m.end entry.Nothing (forgets k m d) (λ here. subst IsHere at here) (λ here. here) tt (only-well only well)

  -- gone at an end that is here
  pub gone_here-well : (e : EndId) (at : ℕ) (v : HereView) (d : Progress) → d.table e ≡ entry.Here v → ((p : Pid) → touches p e ≡ true) → GoesWell k made n touches before d → GoesWell k made n touches before (gone_here k at v d)
  unfolding gone_here
  gone_here-well e at v d here touched well =
      let seen : Progress = sends at (packet.GoneSeen (opposite v.value.end)) d in
      let meant : Progress = means (step.Notice v.value.end (is_withdrawing v.inward)) d in
      either-keeps (GoesWell k made n touches before) v.value.dead seen (notices_first k at v meant) (λ is. sends-well at (packet.GoneSeen (opposite v.value.end)) d well)
      (λ is. noticed meant (means-only (step.Notice v.value.end (is_withdrawing v.inward)) d (only-same d)))
    where
      noticed : (meant : Progress) → SendsOnly d meant → GoesWell k made n touches before (notices_first k at v meant)
      noticed meant only = notices_first-well e at v meant (ap (λ t. t e) only.table ∙ here) touched (only-well only well)

  -- gone at any entry
  pub gone_row-well : (to : EndId) (at : ℕ) (d : Progress) → ((p : Pid) → touches p to ≡ true) → GoesWell k made n touches before d → GoesWell k made n touches before (gone_row k to at (d.table to) d)
  gone_row-well to at d touched well =
      let seen : SendsOnly d (sends at (packet.GoneSeen (opposite to)) d) = sends-only at (packet.GoneSeen (opposite to)) d (only-same d) in
      each-entry (λ y. gone_row k to at y d) (d.table to) well (λ v is. gone_here-well to at v d is touched well) (λ there h is. sends-well there (packet.Gone to at) d well)
      (λ m is. erases-well to m (sends at (packet.GoneSeen (opposite to)) d) (ap (λ t. t to) seen.table ∙ is) (only-well seen well))

  -- moved at an end that is here
  pub moved_here-well : (e : EndId) (at hops : ℕ) (v : HereView) (d : Progress) → d.table e ≡ entry.Here v → ((p : Pid) → touches p e ≡ true) → GoesWell k made n touches before d → GoesWell k made n touches before (moved_here k at hops v d)
  unfolding moved_here
  moved_here-well e at hops v d here touched well =
      let known : Progress = sends at (packet.Known (opposite v.value.end) hops) (learns k at hops v d) in
      either-keeps (GoesWell k made n touches before) v.value.dead d known (λ is. well)
      (λ is. sends-well at (packet.Known (opposite v.value.end) hops) (learns k at hops v d) (learns-well e at hops v d here touched well))

  -- moved at a mark
  pub moved_mark-well : (to : EndId) (at hops : ℕ) (m : MovingPicture) (d : Progress) → d.table to ≡ entry.Destroyed m → GoesWell k made n touches before d → GoesWell k made n touches before (moved_mark k to at hops m d)
  unfolding moved_mark
  moved_mark-well to at hops m d there well =
      let own : m.end ≡ to = subst (IsOfEnd to) there (well.sound.own to) in
      let informed : Entry = entry.Destroyed (learned at hops m) in
      sends-well at (packet.Gone (opposite to) k) (mark_learns to at hops m d)
      (either-keeps (GoesWell k made n touches before) (is_news m hops) (keeps to informed d) d
      (λ is. keeps-well-away to informed d (λ here. subst IsHere there here) (λ here. here) (learned-end at hops m ∙ own) well) (λ is. well))

  -- moved at any entry
  pub moved_row-well : (to : EndId) (at hops : ℕ) (d : Progress) → ((p : Pid) → touches p to ≡ true) → GoesWell k made n touches before d → GoesWell k made n touches before (moved_row k to at hops (d.table to) d)
  moved_row-well to at hops d touched well =
      each-entry (λ y. moved_row k to at hops y d) (d.table to) well (λ v is. moved_here-well to at hops v d is touched well)
      (λ there h is. sends-well there (packet.Moved to at hops) d well) (λ m is. moved_mark-well to at hops m d is well)

  -- known at an end that is here
  pub known_here-well : (e : EndId) (hops : ℕ) (v : HereView) (d : Progress) → d.table e ≡ entry.Here v → ((p : Pid) → touches p e ≡ true) → GoesWell k made n touches before d → GoesWell k made n touches before (known_here k hops v d)
  unfolding known_here
  known_here-well e hops v d here touched well =
      let known : HereView = record v { value = record v.value { trail = 0 } } in
      let after : IsViewAfter v known = record { end = refl; holder = refl; idle = λ idle. record { outward = idle.outward; inward = idle.inward }; message = inl refl } in
      let only : SendsOnly d (forgets k v.value d) = forgets-only k v.value d (only-same d) in
      either-keeps (GoesWell k made n touches before) (not v.value.dead && nat_eq v.value.hops hops) (keeps v.value.end (entry.Here known) (forgets k v.value d)) d
      (λ is. view-well-own e v known (forgets k v.value d) (ap (λ t. t e) only.table ∙ here) touched after (only-well only well)) (λ is. well)

  -- known at any entry
  pub known_row-well : (to : EndId) (hops : ℕ) (d : Progress) → ((p : Pid) → touches p to ≡ true) → GoesWell k made n touches before d → GoesWell k made n touches before (known_row k hops (d.table to) d)
  known_row-well to hops d touched well =
      each-entry (λ y. known_row k hops y d) (d.table to) well (λ v is. known_here-well to hops v d is touched well) (λ there h is. well) (λ m is. well)

  -- forget
  pub forget_row-well : (to : EndId) (hops : ℕ) (d : Progress) → GoesWell k made n touches before d → GoesWell k made n touches before (forget_row to hops (d.table to) d)
  forget_row-well to hops d well =
      each-entry (λ y. forget_row to hops y d) (d.table to) well (λ v is. well)
      (λ there h is. either-keeps (GoesWell k made n touches before) (nat_le h hops) (keeps to entry.Nothing d) d
      (λ small. keeps-well-away to entry.Nothing d (λ here. subst IsHere is here) (λ here. here) tt well) (λ large. well)) (λ m is. well)

  -- goneseen
  pub goneseen_row-well : (to : EndId) (d : Progress) → GoesWell k made n touches before d → GoesWell k made n touches before (goneseen_row k (d.table to) d)
  goneseen_row-well to d well =
      each-entry (λ y. goneseen_row k y d) (d.table to) well (λ v is. well) (λ there h is. well) (λ m is. erases-well to m d is well)

-- each packet, sensible or not
pub row-well : (k made n from : ℕ) (touches : Pid → EndId → Bool) (before : EndId → Entry) (what : PictureWhat) (d : Progress) → ((p : Pid) → touches p (addressee what) ≡ true) → GoesWell k made n touches before d → GoesWell k made n touches before (row k made from what d)
row-well k made n from touches before (packet.Want to w at hops) d touched well = want_row-well to w at hops d touched well
row-well k made n from touches before (packet.Unwant to w at hops) d touched well = unwant_row-well to w at hops d touched well
row-well k made n from touches before (packet.Unwanted to w at hops) d touched well = unwanted_row-well to w at hops d touched well
row-well k made n from touches before (packet.Parcel to m w at hops bytes ms) d touched well = parcel-well to m w at hops bytes ms d touched well
row-well k made n from touches before (packet.Taken to m at hops) d touched well = taken-well to m at hops d touched well
row-well k made n from touches before (packet.Back to m ms) d touched well = back-well from to m ms d touched well
row-well k made n from touches before (packet.Gone to at) d touched well = gone_row-well to at d touched well
row-well k made n from touches before (packet.Moved to at hops) d touched well = moved_row-well to at hops d touched well
row-well k made n from touches before (packet.Known to hops) d touched well = known_row-well to hops d touched well
row-well k made n from touches before (packet.Forget to hops) d touched well = forget_row-well to hops d well
row-well k made n from touches before (packet.GoneSeen to) d touched well = goneseen_row-well to d well
