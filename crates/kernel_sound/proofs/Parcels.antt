-- What a kernel does with a parcel, and with a taken or a back, goes well.
use Rattle.std.proofs.Common.{◌≡◌, ℕ, Bool, true, false, not, ◌&&◌, inl, inr, List, [], ◌∷◌, map, Option, Some, None, refl, sym, ap, subst, ◌∙◌, true≢false, if◌then◌else◌}
use Rattle.std.specs.List.{list_any}
use Rattle.charlotte_calls.specs.Names.{opposite}
use Rattle.charlotte_calls.specs.declared.calls.Answer.TheVariants as answer
use Rattle.charlotte_calls.specs.declared.calls.Cause.TheVariants as cause
use Rattle.charlotte_calls.specs.declared.calls.Report.{Report}
use Rattle.charlotte_calls.specs.declared.calls.ServiceStep.TheVariants as step
use Rattle.charlotte_calls.specs.declared.names.EndId.{EndId}
use Rattle.charlotte_calls.specs.declared.names.Outcome.TheVariants as outcome
use Rattle.charlotte_calls.specs.declared.names.Pid.{Pid}
use Rattle.charlotte_packets.specs.declared.picture.MovingPicture.{MovingPicture}
use Rattle.charlotte_packets.specs.declared.picture.PictureWhat.TheVariants as packet
use Rattle.end_table.proofs.EndEq.{put-at, put-other}
use Rattle.end_table.specs.Entries.{left_value, learned}
use Rattle.end_table.specs.Place.{end_eq, put}
use Rattle.end_table.specs.Table.{IsHere, IsIdle}
use Rattle.end_table.specs.declared.entry.Entry.{Entry}
use Rattle.end_table.specs.declared.entry.Entry.TheVariants as entry
use Rattle.end_table.specs.declared.entry.HereView.{HereView}
use Rattle.end_table.specs.declared.entry.Holder.{Holder}
use Rattle.end_table.specs.declared.entry.Holder.TheVariants as holder
use Rattle.end_table.specs.declared.entry.Inward.TheVariants as inward
use Rattle.end_table.specs.declared.entry.Outward.TheVariants as outward
use Rattle.kernel_step.specs.Actions.{answers, reports, send_report, receive_report, notices, is_withdrawing, learned_view, settle_each, tell_arrivals}
use Rattle.kernel_step.specs.Progress.{Progress, sends, means, keeps, reports_to}
use Rattle.kernel_step.specs.Rows.{is_here, passing, arriving, ends_in, takes, receives, pass_each, sends_back, is_asked, asks, parcel_row, completes, is_matched, awaits, taken_row, gives_back, notices_first, means_back, back_row}
use Rattle.kernel_sound.proofs.Put.{IsHolder, IsViewAfter}
use Rattle.kernel_sound.proofs.Sends.{SendsOnly, either-keeps, means-only, tell_arrivals-only, only-same}
use Rattle.kernel_sound.proofs.Goes.{GoesWell, only-well, sends-well, means-well, reports-well, answers-well}
use Rattle.kernel_sound.proofs.Values.{AreComing, AreGone, AreComing-others, apart-AreComing, AreComing-arriving, AreGone-passing, settle_each-others, settle_each-well, pass_each-well, end_arrivals-well}
use Rattle.kernel_sound.proofs.Actions.{learned-end, IsHolder-here, end-here, news-well, view-well-own, notices-well}

-- there is a view or there is none
none-some : (v : HereView) → None ≡ Some v → ⊥
none-some v is = cc

-- a view that was chosen by a test is here, and passed it
chosen : (test : HereView → Bool) (u v : HereView) → (if test u then Some u else None) ≡ Some v → (u ≡ v) × (test v ≡ true)
chosen test u v is = by (test u) refl is
  where
    by : (b : Bool) → test u ≡ b → (if b then Some u else None) ≡ Some v → (u ≡ v) × (test v ≡ true)
    by true passed is = let same : u ≡ v = cc in (same, ap test (sym same) ∙ passed)
    by false passed is = absurd (none-some v is)

-- an end that a parcel was sent for is here, and not idle
pub asks-here : (w : ℕ) (y : Entry) (v : HereView) → asks w y ≡ Some v → (y ≡ entry.Here v) × (IsIdle v → ⊥)
asks-here w (entry.Here u) v is =
    let found = chosen (λ x. is_asked w x.inward) u v is in (ap entry.Here found.0, (λ idle. true≢false (sym found.1 ∙ ap (is_asked w) idle.inward)))
asks-here w entry.Nothing v is = absurd (none-some v is)
asks-here w (entry.Left to hops) v is = absurd (none-some v is)
asks-here w (entry.Destroyed m) v is = absurd (none-some v is)

-- so is an end whose send was matched
pub awaits-here : (m : ℕ) (y : Entry) (v : HereView) → awaits m y ≡ Some v → (y ≡ entry.Here v) × (IsIdle v → ⊥)
awaits-here m (entry.Here u) v is =
    let found = chosen (λ x. is_matched m x.outward) u v is in (ap entry.Here found.0, (λ idle. true≢false (sym found.1 ∙ ap (is_matched m) idle.outward)))
awaits-here m entry.Nothing v is = absurd (none-some v is)
awaits-here m (entry.Left to hops) v is = absurd (none-some v is)
awaits-here m (entry.Destroyed x) v is = absurd (none-some v is)

-- a report changes no end
pub reports-table : (h : Holder) (r : Report) (d : Progress) → (reports h r d).table ≡ d.table
unfolding reports_to
reports-table (holder.Owner p) r d = refl
reports-table (holder.EnclosedIn on) r d = refl

-- an entry is kept at an end by its name
pub keeps-table : (e f : EndId) (x : Entry) (d : Progress) → f ≡ e → (keeps f x d).table ≡ put d.table e x
unfolding keeps
keeps-table e f x d same = ap (λ z. put d.table z x) same

-- what a back means to the link service is a step or nothing
pub means_back-only : (to : EndId) (m : ℕ) (b : Bool) (ms : List MovingPicture) (d : Progress) → SendsOnly d (means_back to m b ms d)
means_back-only to m true [] d = only-same d
means_back-only to m true (x ∷ xs) d = means-only (step.Back to m false) d (only-same d)
means_back-only to m false ms d = means-only (step.Back to m false) d (only-same d)

module _ {k made n : ℕ} {touches : Pid → EndId → Bool} {before : EndId → Entry} where
  -- the message is taken
  pub takes-well : (e : EndId) (m : ℕ) (late : Bool) (h : Holder) (d : Progress) → GoesWell k made n touches before d → GoesWell k made n touches before (takes e m late h d)
  takes-well e m late (holder.Owner p) d w = means-well (step.Take (opposite e) m p late) d w
  takes-well e m late (holder.EnclosedIn on) d w = w

  pub receives-well : (e : EndId) (m at hops : ℕ) (bytes : List ℕ) (xs : List EndId) (v : HereView) (d : Progress) → d.table e ≡ entry.Here v → (IsIdle v → ⊥) → ((p : Pid) → touches p e ≡ true)
      → GoesWell k made n touches before d → GoesWell k made n touches before (receives k m at hops bytes xs v d)
  unfolding receives
  receives-well e m at hops bytes xs v d here busy touched w =
      let f : EndId = v.value.end in
      let late : Bool = is_withdrawing v.inward in
      let taken : HereView = record (learned_view v at hops) { inward = inward.Unreported } in
      let after : IsViewAfter v taken = record { end = learned-end at hops v.value; holder = refl; idle = λ idle. absurd (busy idle); message = inl refl } in
      let holds : IsHolder n v.holder = IsHolder-here e v d w here in
      let kept : Progress = keeps f (entry.Here taken) d in
      let took : Progress = takes f m late v.holder kept in
      let reported : Progress = reports v.holder (receive_report f bytes xs) took in
      let well : GoesWell k made n touches before reported =
      reports-well v.holder (receive_report f bytes xs) took holds (takes-well f m late v.holder kept (view-well-own e v taken d here touched after w)) in
      let answered : Progress = answers v.holder (answer.Refused cause.Late) reported in
      sends-well at (packet.Taken (opposite f) m k v.value.hops) (if late then answered else reported)
      (either-keeps (GoesWell k made n touches before) late answered reported (λ is. answers-well v.holder (answer.Refused cause.Late) reported holds well) (λ is. well))

  -- it is not taken, and its ends go back
  pub sends_back-well : (to : EndId) (m at : ℕ) (ms : List MovingPicture) (d : Progress) → AreGone d.table ms → GoesWell k made n touches before d → GoesWell k made n touches before (sends_back k to m at ms d)
  unfolding sends_back
  sends_back-well to m at ms d are w =
      sends-well at (packet.Back (opposite to) m (map (left_value k) ms)) (pass_each at ms d) (pass_each-well at ms d are w)

  -- parcel
  pub parcel-well : (to : EndId) (m w at hops : ℕ) (bytes : List ℕ) (ms : List MovingPicture) (d : Progress) → ((p : Pid) → touches p to ≡ true)
      → GoesWell k made n touches before d → GoesWell k made n touches before (parcel_row k made to m at hops bytes ms (asks w (d.table to)) d)
  parcel-well to m w at hops bytes ms d touched well = by (asks w (d.table to)) refl
    where
      by : (o : Option HereView) → asks w (d.table to) ≡ o → GoesWell k made n touches before (parcel_row k made to m at hops bytes ms o d)
      by None is = sends_back-well to m at (passing k made d.table ms) d (AreGone-passing k made d.table ms) well
      by (Some v) is =
          let asked = asks-here w (d.table to) v is in
          let came : List MovingPicture = arriving k made v.holder d.table ms in
          let come : AreComing k made d.table came = AreComing-arriving k made v.holder d.table ms in
          let apart : list_any (end_eq to) (ends_in came) ≡ false = apart-AreComing k made d.table to came (subst IsHere (sym asked.0) tt) come in
          let settled : Progress = settle_each v.holder came d in
          let there : settled.table to ≡ entry.Here v = settle_each-others v.holder to came d apart ∙ asked.0 in
          let received : Progress = receives k m at hops bytes (ends_in came) v settled in
          news-well v.value hops (learned at hops v.value) inward.Unreported (tell_arrivals k came received)
          (only-well (tell_arrivals-only k came received (only-same received))
          (receives-well to m at hops bytes (ends_in came) v settled there asked.1 touched
          (settle_each-well v.holder came d (IsHolder-here to v d well asked.0) come well)))

  -- taken
  pub completes-well : (e : EndId) (m at hops : ℕ) (v : HereView) (d : Progress) → d.table e ≡ entry.Here v → (IsIdle v → ⊥) → ((p : Pid) → touches p e ≡ true)
      → GoesWell k made n touches before d → GoesWell k made n touches before (completes k m at hops v d)
  unfolding completes
  completes-well e m at hops v d here busy touched w =
      let f : EndId = v.value.end in
      let done : HereView = record (learned_view v at hops) { outward = outward.Unreported } in
      let after : IsViewAfter v done = record { end = learned-end at hops v.value; holder = refl; idle = λ idle. absurd (busy idle); message = inr refl } in
      let kept : Progress = keeps f (entry.Here done) d in
      let meant : Progress = means (step.Complete f m) kept in
      let report : Report = send_report f outcome.Done [] in
      news-well v.value hops done.value v.inward (reports v.holder report meant)
      (reports-well v.holder report meant (IsHolder-here e v d w here) (means-well (step.Complete f m) kept (view-well-own e v done d here touched after w)))

  -- taken, at an end that waits for it or not
  pub taken-well : (to : EndId) (m at hops : ℕ) (d : Progress) → ((p : Pid) → touches p to ≡ true) → GoesWell k made n touches before d → GoesWell k made n touches before (taken_row k m at hops (awaits m (d.table to)) d)
  taken-well to m at hops d touched w = by (awaits m (d.table to)) refl
    where
      by : (o : Option HereView) → awaits m (d.table to) ≡ o → GoesWell k made n touches before (taken_row k m at hops o d)
      by None is = w
      by (Some v) is = let awaited = awaits-here m (d.table to) v is in completes-well to m at hops v d awaited.0 awaited.1 touched w

  -- a death that was not known is noticed
  pub notices_first-well : (e : EndId) (from : ℕ) (v : HereView) (d : Progress) → d.table e ≡ entry.Here v → ((p : Pid) → touches p e ≡ true)
      → GoesWell k made n touches before d → GoesWell k made n touches before (notices_first k from v d)
  unfolding notices_first
  notices_first-well e from v d here touched w =
      let seen : Progress = sends from (packet.GoneSeen (opposite v.value.end)) (notices k v d) in
      either-keeps (GoesWell k made n touches before) v.value.dead d seen (λ is. w) (λ is. sends-well from (packet.GoneSeen (opposite v.value.end)) (notices k v d) (notices-well e v d here touched w))

-- the sender's end as its message comes back
abbrev pub returned : HereView → HereView
returned v = record v { outward = outward.Unreported }

-- its send is over, and its owner is told so
abbrev pub reported_back : List MovingPicture → HereView → Progress → Progress
reported_back came v d = reports v.holder (send_report v.value.end outcome.Destroyed (ends_in came)) (keeps v.value.end (entry.Here (returned v)) d)

-- only its entry changes before the ends are the sender's again
reported_back-table : (e : EndId) (v : HereView) (came : List MovingPicture) (d : Progress) → v.value.end ≡ e → (reported_back came v d).table ≡ put d.table e (entry.Here (returned v))
reported_back-table e v came d own = reports-table v.holder _ _ ∙ keeps-table e v.value.end (entry.Here (returned v)) d own

-- the end is as it was returned
pub gives_back-table : (e : EndId) (v : HereView) (came : List MovingPicture) (d : Progress) → v.value.end ≡ e → list_any (end_eq e) (ends_in came) ≡ false → (gives_back came v d).table e ≡ entry.Here (returned v)
unfolding gives_back
gives_back-table e v came d own apart =
    settle_each-others v.holder e came (reported_back came v d) apart
    ∙ ap (λ t. t e) (reported_back-table e v came d own)
    ∙ put-at d.table e (entry.Here (returned v))

module _ {k made n : ℕ} {touches : Pid → EndId → Bool} {before : EndId → Entry} where
  -- the ends of a message that comes back are the sender's again
  pub gives_back-well : (e : EndId) (v : HereView) (came : List MovingPicture) (d : Progress) → d.table e ≡ entry.Here v → (IsIdle v → ⊥) → ((p : Pid) → touches p e ≡ true) → AreComing k made d.table came
      → GoesWell k made n touches before d → GoesWell k made n touches before (gives_back came v d)
  unfolding gives_back
  gives_back-well e v came d here busy touched come w =
      let own : v.value.end ≡ e = end-here e v d w here in
      let after : IsViewAfter v (returned v) = record { end = refl; holder = refl; idle = λ idle. absurd (busy idle); message = inr refl } in
      let holds : IsHolder n v.holder = IsHolder-here e v d w here in
      let apart : list_any (end_eq e) (ends_in came) ≡ false = apart-AreComing k made d.table e came (subst IsHere (sym here) tt) come in
      let x : Entry = entry.Here (returned v) in
      let come_now : AreComing k made (reported_back came v d).table came =
      subst (λ t. AreComing k made t came) (sym (reported_back-table e v came d own))
      (AreComing-others k made d.table (put d.table e x) e came (λ q other. put-other d.table e x q other) apart come) in
      settle_each-well v.holder came (reported_back came v d) holds come_now
      (reports-well v.holder (send_report v.value.end outcome.Destroyed (ends_in came)) (keeps v.value.end x d) holds (view-well-own e v (returned v) d here touched after w))

  -- back
  pub back-well : (from : ℕ) (to : EndId) (m : ℕ) (ms : List MovingPicture) (d : Progress) → ((p : Pid) → touches p to ≡ true)
      → GoesWell k made n touches before d → GoesWell k made n touches before (back_row k made from to m ms (awaits m (d.table to)) d)
  back-well from to m ms d touched w = by (awaits m (d.table to)) refl
    where
      by : (o : Option HereView) → awaits m (d.table to) ≡ o → GoesWell k made n touches before (back_row k made from to m ms o d)
      by None is =
          let passed : List MovingPicture = passing k made d.table ms in
          let meant : Progress = means_back to m (is_here (d.table to)) passed d in
          let only : SendsOnly d meant = means_back-only to m (is_here (d.table to)) passed d in
          end_arrivals-well passed meant (subst (λ t. AreGone t passed) (sym only.table) (AreGone-passing k made d.table ms)) (only-well only w)
      by (Some v) is =
          let awaited = awaits-here m (d.table to) v is in
          let came : List MovingPicture = arriving k made v.holder d.table ms in
          let come : AreComing k made d.table came = AreComing-arriving k made v.holder d.table ms in
          let own : v.value.end ≡ to = end-here to v d w awaited.0 in
          let apart : list_any (end_eq to) (ends_in came) ≡ false = apart-AreComing k made d.table to came (subst IsHere (sym awaited.0) tt) come in
          let answers_cancel : Bool = not v.value.dead && is_withdrawing v.inward in
          let meant : Progress = means (step.Back to m answers_cancel) d in
          let only : SendsOnly d meant = means-only (step.Back to m answers_cancel) d (only-same d) in
          let there : meant.table to ≡ entry.Here v = ap (λ t. t to) only.table ∙ awaited.0 in
          let back : Progress = gives_back came v meant in
          let noticed : Progress = notices_first k from (returned v) back in
          only-well (tell_arrivals-only k came noticed (only-same noticed))
          (notices_first-well to from (returned v) back (gives_back-table to v came meant own apart) touched
          (gives_back-well to v came meant there awaited.1 touched (subst (λ t. AreComing k made t came) (sym only.table) come) (only-well only w)))
