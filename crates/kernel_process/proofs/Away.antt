-- What a kernel does with a packet to an end that is not here: it changes no activity, and gives no report.
use Rattle.std.proofs.Common.{◌≡◌, ℕ, Bool, false, List, [], Option, Some, None, nat_le, refl, sym, ap, subst, ◌∙◌}
use Rattle.charlotte_calls.specs.Names.{opposite}
use Rattle.charlotte_calls.specs.declared.names.EndId.{EndId}
use Rattle.charlotte_calls.specs.declared.names.Pid.{Pid}
use Rattle.charlotte_packets.specs.declared.picture.MovingPicture.{MovingPicture}
use Rattle.charlotte_packets.specs.declared.picture.PictureWhat.{PictureWhat}
use Rattle.charlotte_packets.specs.declared.picture.PictureWhat.TheVariants as packet
use Rattle.charlotte_packets.specs.declared.work.Work.{Work}
use Rattle.end_table.specs.Entries.{ended_entry, is_news, learned}
use Rattle.end_table.specs.Owned.{owned}
use Rattle.end_table.specs.Table.{IsHere}
use Rattle.end_table.specs.declared.entry.Entry.{Entry}
use Rattle.end_table.specs.declared.entry.Entry.TheVariants as entry
use Rattle.end_table.specs.declared.entry.HereView.{HereView}
use Rattle.kernel_step.specs.Actions.{ends_idle, leaves}
use Rattle.kernel_step.specs.Calls.{is_active}
use Rattle.kernel_step.specs.Progress.{Progress, progress, sends, keeps}
use Rattle.kernel_step.specs.Rows.{want_row, unwant_row, unwanted_row, is_here, passing, asks, pass_each, sends_back, parcel_row, awaits, taken_row, end_arrivals, means_back, back_row, erases, gone_row, moved_mark, moved_row, known_row, forget_row, goneseen_row, row}
use Rattle.kernel_sound.specs.Sound.{IsSound, addressee}
use Rattle.kernel_sound.proofs.Events.{begun-well, well-calm}
use Rattle.kernel_sound.proofs.Goes.{GoesWell, sends-well, only-well}
use Rattle.kernel_sound.proofs.Parcels.{asks-here, awaits-here, means_back-only, sends_back-well}
use Rattle.kernel_sound.proofs.Rows.{erases-well, forget_row-well, moved_mark-well}
use Rattle.kernel_sound.proofs.Sends.{SendsOnly, either-keeps, fold-keeps, forgets-only, sends-only, tells_gone-only, only-same}
use Rattle.kernel_sound.proofs.Values.{AreGone, AreGone-passing, end_arrivals-well}

-- an entry that is not Here is not of this view
not-here : {X : Type 0} (x : Entry) (v : HereView) → (IsHere x → ⊥) → x ≡ entry.Here v → X
not-here x v away is = absurd (away (subst IsHere (sym is) tt))

-- a mark that is erased gives no report
erases-reports : (k : ℕ) (m : MovingPicture) (d : Progress) → (erases k m d).reports ≡ d.reports
unfolding erases keeps
erases-reports k m d = (forgets-only k m d (only-same d)).reports

-- nor does one that hears of its opposite
moved_mark-reports : (k : ℕ) (to : EndId) (at hops : ℕ) (m : MovingPicture) (d : Progress) → (moved_mark k to at hops m d).reports ≡ d.reports
unfolding moved_mark sends keeps
moved_mark-reports k to at hops m d =
    either-keeps (λ e. e.reports ≡ d.reports) (is_news m hops) (keeps to (entry.Destroyed (learned at hops m)) d) d (λ is. refl) (λ is. refl)

-- nor do values that leave again
pass_each-reports : (at : ℕ) (ms : List MovingPicture) (d : Progress) → (pass_each at ms d).reports ≡ d.reports
unfolding pass_each keeps
pass_each-reports at ms d = fold-keeps (λ e. e.reports ≡ d.reports) (λ so_far m. leaves at m so_far) (λ e m same. same) ms d refl

sends_back-reports : (k : ℕ) (to : EndId) (n at : ℕ) (ms : List MovingPicture) (d : Progress) → (sends_back k to n at ms d).reports ≡ d.reports
unfolding sends_back sends
sends_back-reports k to n at ms d = pass_each-reports at ms d

-- nor do values that end
end_arrivals-reports : (k : ℕ) (ms : List MovingPicture) (d : Progress) → (end_arrivals k ms d).reports ≡ d.reports
unfolding end_arrivals ends_idle keeps
end_arrivals-reports k ms d =
    fold-keeps (λ e. e.reports ≡ d.reports) (λ so_far m. ends_idle k m so_far)
    (λ e m same. (tells_gone-only k m (keeps m.end (ended_entry m) e) (only-same (keeps m.end (ended_entry m) e))).reports ∙ same) ms d refl

-- what is true of the event before such a packet, and of packets and entries that are not here, is true of it afterwards
module _ (P : Progress → Type 0) (k made from : ℕ) (d : Progress) (before : P d)
    (sent : (to : ℕ) (what : PictureWhat) → P (sends to what d))
    (erased : (to : EndId) (m : MovingPicture) → d.table to ≡ entry.Destroyed m → P (erases k m d))
    (erased_seen : (to : EndId) (at : ℕ) (m : MovingPicture) → d.table to ≡ entry.Destroyed m → P (erases k m (sends at (packet.GoneSeen (opposite to)) d)))
    (heard : (to : EndId) (at hops : ℕ) (m : MovingPicture) → d.table to ≡ entry.Destroyed m → P (moved_mark k to at hops m d))
    (forgot : (to : EndId) (hops : ℕ) → P (forget_row to hops (d.table to) d))
    (passed : (to : EndId) (n at : ℕ) (ms : List MovingPicture) → P (sends_back k to n at (passing k made d.table ms) d))
    (ended : (to : EndId) (n : ℕ) (ms : List MovingPicture) → P (end_arrivals k (passing k made d.table ms) (means_back to n (is_here (d.table to)) (passing k made d.table ms) d))) where
  row-away : (what : PictureWhat) → (IsHere (d.table (addressee what)) → ⊥) → P (row k made from what d)
  row-away (packet.Want to w at hops) away = by (d.table to) refl
    where
      by : (y : Entry) → d.table to ≡ y → P (want_row k to w at hops y d)
      by entry.Nothing is = before
      by (entry.Here v) is = not-here (d.table to) v away is
      by (entry.Left there h) is = sent there (packet.Want to w at hops)
      by (entry.Destroyed m) is = before
  row-away (packet.Unwant to w at hops) away = by (d.table to) refl
    where
      by : (y : Entry) → d.table to ≡ y → P (unwant_row k to w at hops y d)
      by entry.Nothing is = before
      by (entry.Here v) is = not-here (d.table to) v away is
      by (entry.Left there h) is = sent there (packet.Unwant to w at hops)
      by (entry.Destroyed m) is = before
  row-away (packet.Unwanted to w at hops) away = by (d.table to) refl
    where
      by : (y : Entry) → d.table to ≡ y → P (unwanted_row k w at hops y d)
      by entry.Nothing is = before
      by (entry.Here v) is = not-here (d.table to) v away is
      by (entry.Left there h) is = before
      by (entry.Destroyed m) is = before
  row-away (packet.Parcel to n w at hops bytes ms) away = by (asks w (d.table to)) refl
    where
      by : (o : Option HereView) → asks w (d.table to) ≡ o → P (parcel_row k made to n at hops bytes ms o d)
      by None is = passed to n at ms
      by (Some v) is = not-here (d.table to) v away (asks-here w (d.table to) v is).0
  row-away (packet.Taken to n at hops) away = by (awaits n (d.table to)) refl
    where
      by : (o : Option HereView) → awaits n (d.table to) ≡ o → P (taken_row k n at hops o d)
      by None is = before
      by (Some v) is = not-here (d.table to) v away (awaits-here n (d.table to) v is).0
  row-away (packet.Back to n ms) away = by (awaits n (d.table to)) refl
    where
      by : (o : Option HereView) → awaits n (d.table to) ≡ o → P (back_row k made from to n ms o d)
      by None is = ended to n ms
      by (Some v) is = not-here (d.table to) v away (awaits-here n (d.table to) v is).0
  row-away (packet.Gone to at) away = by (d.table to) refl
    where
      by : (y : Entry) → d.table to ≡ y → P (gone_row k to at y d)
      by entry.Nothing is = before
      by (entry.Here v) is = not-here (d.table to) v away is
      by (entry.Left there h) is = sent there (packet.Gone to at)
      by (entry.Destroyed m) is = erased_seen to at m is
  row-away (packet.Moved to at hops) away = by (d.table to) refl
    where
      by : (y : Entry) → d.table to ≡ y → P (moved_row k to at hops y d)
      by entry.Nothing is = before
      by (entry.Here v) is = not-here (d.table to) v away is
      by (entry.Left there h) is = sent there (packet.Moved to at hops)
      by (entry.Destroyed m) is = heard to at hops m is
  row-away (packet.Known to hops) away = by (d.table to) refl
    where
      by : (y : Entry) → d.table to ≡ y → P (known_row k hops y d)
      by entry.Nothing is = before
      by (entry.Here v) is = not-here (d.table to) v away is
      by (entry.Left there h) is = before
      by (entry.Destroyed m) is = before
  row-away (packet.Forget to hops) away = forgot to hops
  row-away (packet.GoneSeen to) away = by (d.table to) refl
    where
      by : (y : Entry) → d.table to ≡ y → P (goneseen_row k y d)
      by entry.Nothing is = before
      by (entry.Here v) is = not-here (d.table to) v away is
      by (entry.Left there h) is = before
      by (entry.Destroyed m) is = erased to m is

-- such a packet gives no report
row-reports : (k made from : ℕ) (what : PictureWhat) (d : Progress) → (IsHere (d.table (addressee what)) → ⊥) → (row k made from what d).reports ≡ d.reports
unfolding sends keeps
row-reports k made from what d away =
    row-away (λ e. e.reports ≡ d.reports) k made from d refl
    (λ to what. refl)
    (λ to m is. erases-reports k m d)
    (λ to at m is. erases-reports k m (sends at (packet.GoneSeen (opposite to)) d))
    (λ to at hops m is. moved_mark-reports k to at hops m d)
    (λ to hops. forgot to hops (d.table to))
    (λ to n at ms. sends_back-reports k to n at (passing k made d.table ms) d)
    (λ to n ms. end_arrivals-reports k (passing k made d.table ms) (means_back to n (is_here (d.table to)) (passing k made d.table ms) d)
    ∙ (means_back-only to n (is_here (d.table to)) (passing k made d.table ms) d).reports)
    what away
  where
    forgot : (to : EndId) (hops : ℕ) (y : Entry) → (forget_row to hops y d).reports ≡ d.reports
    forgot to hops entry.Nothing = refl
    forgot to hops (entry.Here v) = refl
    forgot to hops (entry.Left there h) = either-keeps (λ e. e.reports ≡ d.reports) (nat_le h hops) (keeps to entry.Nothing d) d (λ is. refl) (λ is. refl)
    forgot to hops (entry.Destroyed m) = refl

-- and it goes well, whatever activities may change
row-well-away : (k made n from : ℕ) (touches : Pid → EndId → Bool) (before : EndId → Entry) (what : PictureWhat) (d : Progress) → (IsHere (d.table (addressee what)) → ⊥)
    → GoesWell k made n touches before d → GoesWell k made n touches before (row k made from what d)
row-well-away k made n from touches before what d away well =
    row-away (GoesWell k made n touches before) k made from d well
    (λ to what. sends-well to what d well)
    (λ to m is. erases-well to m d is well)
    (λ to at m is. erases-well to m (sends at (packet.GoneSeen (opposite to)) d) (ap (λ t. t to) (seen to at).table ∙ is) (only-well (seen to at) well))
    (λ to at hops m is. moved_mark-well to at hops m d is well)
    (λ to hops. forget_row-well to hops d well)
    (λ to m at ms. sends_back-well to m at (passing k made d.table ms) d (AreGone-passing k made d.table ms) well)
    (λ to m ms. end_arrivals-well (passing k made d.table ms) (means_back to m (is_here (d.table to)) (passing k made d.table ms) d)
    (subst (λ t. AreGone t (passing k made d.table ms)) (sym (meant to m ms).table) (AreGone-passing k made d.table ms)) (only-well (meant to m ms) well))
    what away
  where
    seen : (to : EndId) (at : ℕ) → SendsOnly d (sends at (packet.GoneSeen (opposite to)) d)
    seen to at = sends-only at (packet.GoneSeen (opposite to)) d (only-same d)

    meant : (to : EndId) (m : ℕ) (ms : List MovingPicture) → SendsOnly d (means_back to m (is_here (d.table to)) (passing k made d.table ms) d)
    meant to m ms = means_back-only to m (is_here (d.table to)) (passing k made d.table ms) d

-- so from the beginning of an event on
module _ (k made n from : ℕ) (what : PictureWhat) (t u : EndId → Entry) (work out : Work) (reports : work.reports.items ≡ []) (answers : work.answers.items ≡ []) (sound : IsSound k made n t)
    (after : progress u out ≡ row k made from what (progress t work)) (away : IsHere (t (addressee what)) → ⊥) where
  pub away-reports : out.reports.items ≡ []
  unfolding progress
  away-reports = ap (λ d. d.reports) after ∙ row-reports k made from what (progress t work) away ∙ reports

  pub away-calm : (p : Pid) (e : EndId) → is_active (owned p (u e)) ≡ is_active (owned p (t e))
  unfolding progress
  away-calm p e =
      well-calm k made n (λ p e. false) t u out _ after (row-well-away k made n from (λ p e. false) t what (progress t work) away (begun-well k made n (λ p e. false) t work reports answers sound)) p e refl
