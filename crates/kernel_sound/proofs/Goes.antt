-- What lets an event go well, one change at a time.
use Rattle.std.proofs.Common.{◌≡◌, ℕ, ◌<◌, ◌≤◌, Bool, true, false, List, [], ◌∷◌, ◌++◌, refl, sym, ap, subst, ◌∙◌, true≢false, Some, None, if◌then◌else◌}
use Rattle.charlotte_calls.specs.declared.calls.Answer.{Answer}
use Rattle.charlotte_calls.specs.declared.calls.Report.{Report}
use Rattle.charlotte_calls.specs.declared.calls.ServiceStep.{ServiceStep}
use Rattle.charlotte_calls.specs.declared.names.EndId.{EndId}
use Rattle.charlotte_calls.specs.declared.names.Pid.{Pid}
use Rattle.charlotte_packets.specs.declared.picture.MovingPicture.{MovingPicture}
use Rattle.charlotte_packets.specs.declared.picture.PictureWhat.{PictureWhat}
use Rattle.end_table.specs.Entries.{settled, left_entry, ended_entry}
use Rattle.end_table.specs.Owned.{is_owner, owned}
use Rattle.end_table.specs.Place.{put}
use Rattle.end_table.specs.Table.{IsHere, IfHere, IsOfEnd}
use Rattle.end_table.specs.declared.entry.Entry.{Entry}
use Rattle.end_table.specs.declared.entry.Entry.TheVariants as entry
use Rattle.end_table.specs.declared.entry.HereView.{HereView}
use Rattle.end_table.specs.declared.entry.Holder.{Holder}
use Rattle.end_table.specs.declared.entry.Holder.TheVariants as holder
use Rattle.kernel_step.specs.Actions.{reports, answers}
use Rattle.kernel_step.specs.Calls.{is_active}
use Rattle.kernel_step.specs.Progress.{Progress, sends, means, keeps, reports_to, answers_to}
use Rattle.kernel_sound.specs.Sound.{IsSound, AreFor}
use Rattle.kernel_sound.proofs.Put.{IsHolder, IsQuiet, IsFreeFor, IsFreeFor-away, IsViewAfter, IfHere-away, put-each, put-sound-quiet, put-sound-view}
use Rattle.kernel_sound.proofs.Sends.{SendsOnly, sends-only, means-only, only-same}

-- how far an event has come from a table on, which changes whether a process has an activity at the ends that it touches alone
pub record GoesWell (k made n : ℕ) (touches : Pid → EndId → Bool) (before : EndId → Entry) (d : Progress) : Type 0 where
  pub sound : IsSound k made n d.table
  pub reports : AreFor n d.reports
  pub answers : AreFor n d.answers
  pub calm : (p : Pid) (e : EndId) → touches p e ≡ false → is_active (owned p (d.table e)) ≡ is_active (owned p (before e))

-- one more of a list is for a process
pub AreFor-more : {X : Type 0} (n : ℕ) (xs : List (Pid × X)) (x : Pid × X) → x.0.0 < n → AreFor n xs → AreFor n (xs ++ x ∷ [])
AreFor-more n [] x is are = (is, tt)
AreFor-more n (y ∷ ys) x is are = (are.0, AreFor-more n ys x is are.1)

-- no process has an activity where none is
pub inactive-quiet : (p : Pid) (x : Entry) → IsQuiet x → is_active (owned p x) ≡ false
inactive-quiet p (entry.Here v) quiet = by (is_owner p v.holder)
  where
    idle : is_active (Some v) ≡ false
    idle = rw (quiet.outward, quiet.inward)

    by : (b : Bool) → is_active (if b then Some v else None) ≡ false
    by true = idle
    by false = refl
inactive-quiet p entry.Nothing quiet = refl
inactive-quiet p (entry.Left to hops) quiet = refl
inactive-quiet p (entry.Destroyed m) quiet = refl

-- what a kernel leaves of an end is of that end
pub IsOfEnd-left : (to : ℕ) (m : MovingPicture) (e : EndId) → IsOfEnd e (left_entry to m)
IsOfEnd-left to m e = by m.dead
  where
    by : (b : Bool) → IsOfEnd e (if b then entry.Nothing else left_entry to (record m { dead = false }))
    by true = tt
    by false = tt

-- and so is what a destroyed end leaves
pub IsOfEnd-ended : (m : MovingPicture) (e : EndId) → m.end ≡ e → IsOfEnd e (ended_entry m)
IsOfEnd-ended m e same = by m.dead
  where
    by : (b : Bool) → IsOfEnd e (if b then entry.Nothing else entry.Destroyed m)
    by true = tt
    by false = same

module _ {k made n : ℕ} {touches : Pid → EndId → Bool} {before : EndId → Entry} where
  -- packets and steps change nothing of it
  pub only-well : {old new : Progress} → SendsOnly old new → GoesWell k made n touches before old → GoesWell k made n touches before new
  only-well {old} {new} s w =
      record {
        sound = subst (IsSound k made n) (sym s.table) w.sound;
        reports = subst (AreFor n) (sym s.reports) w.reports;
        answers = subst (AreFor n) (sym s.answers) w.answers;
        calm = λ p e not. ap (λ t. is_active (owned p (t e))) s.table ∙ w.calm p e not;
      }

  -- one packet more
  pub sends-well : (to : ℕ) (what : PictureWhat) (d : Progress) → GoesWell k made n touches before d → GoesWell k made n touches before (sends to what d)
  sends-well to what d w = only-well (sends-only to what d (only-same d)) w

  -- one service step more
  pub means-well : (step : ServiceStep) (d : Progress) → GoesWell k made n touches before d → GoesWell k made n touches before (means step d)
  means-well step d w = only-well (means-only step d (only-same d)) w

  -- a report or an answer for one of the first n processes
  pub reports_to-well : (p : Pid) (r : Report) (d : Progress) → p.0 < n → GoesWell k made n touches before d → GoesWell k made n touches before (reports_to p r d)
  unfolding reports_to
  reports_to-well p r d is w = record { sound = w.sound; reports = AreFor-more n d.reports (p, r) is w.reports; answers = w.answers; calm = w.calm }

  -- an answer for one of them
  pub answers_to-well : (p : Pid) (a : Answer) (d : Progress) → p.0 < n → GoesWell k made n touches before d → GoesWell k made n touches before (answers_to p a d)
  unfolding answers_to
  answers_to-well p a d is w = record { sound = w.sound; reports = w.reports; answers = AreFor-more n d.answers (p, a) is w.answers; calm = w.calm }

  -- a report to a holder
  pub reports-well : (h : Holder) (r : Report) (d : Progress) → IsHolder n h → GoesWell k made n touches before d → GoesWell k made n touches before (reports h r d)
  reports-well (holder.Owner p) r d is w = reports_to-well p r d is w
  reports-well (holder.EnclosedIn on) r d is w = w

  -- an answer to a holder
  pub answers-well : (h : Holder) (a : Answer) (d : Progress) → IsHolder n h → GoesWell k made n touches before d → GoesWell k made n touches before (answers h a d)
  answers-well (holder.Owner p) a d is w = answers_to-well p a d is w
  answers-well (holder.EnclosedIn on) a d is w = w

  -- one entry changes, which is no activity of a process that does not touch it
  pub keeps-well : (e : EndId) (x : Entry) (d : Progress) → IsSound k made n (put d.table e x) → ((p : Pid) → touches p e ≡ false → is_active (owned p x) ≡ is_active (owned p (d.table e)))
      → GoesWell k made n touches before d → GoesWell k made n touches before (keeps e x d)
  unfolding keeps
  keeps-well e x d sound same w =
      record {
        sound = sound;
        reports = w.reports;
        answers = w.answers;
        calm = λ p q. put-each (λ q y. touches p q ≡ false → is_active (owned p y) ≡ is_active (owned p (before q))) d.table e x (λ not. same p not ∙ w.calm p e not) q (λ apart not. w.calm p q not);
      }

  -- and so where every process touches it
  pub keeps-well-touched : (e : EndId) (x : Entry) (d : Progress) → IsSound k made n (put d.table e x) → ((p : Pid) → touches p e ≡ true)
      → GoesWell k made n touches before d → GoesWell k made n touches before (keeps e x d)
  keeps-well-touched e x d sound touched w = keeps-well e x d sound (λ p not. absurd (true≢false (sym (touched p) ∙ not))) w

  -- or where no activity is there before and after
  pub keeps-well-quiet : (e : EndId) (x : Entry) (d : Progress) → IsQuiet (d.table e) → IsFreeFor d.table e x → IsOfEnd e x → IsQuiet x → IfHere x (λ v. IsHolder n v.holder)
      → (e.link.maker ≡ k → made ≤ e.link.count → IsHere x → ⊥) → GoesWell k made n touches before d → GoesWell k made n touches before (keeps e x d)
  keeps-well-quiet e x d was free own quiet holds unmade w =
      keeps-well e x d (put-sound-quiet e x w.sound free own quiet holds unmade) (λ p not. inactive-quiet p x quiet ∙ sym (inactive-quiet p (d.table e) was)) w

  -- the view of an end changes that every process touches
  pub keeps-well-view : (e f : EndId) (v u : HereView) (d : Progress) → f ≡ e → d.table e ≡ entry.Here v → ((p : Pid) → touches p e ≡ true) → IsViewAfter v u
      → GoesWell k made n touches before d → GoesWell k made n touches before (keeps f (entry.Here u) d)
  keeps-well-view e f v u d same here touched after w =
      subst (λ z. GoesWell k made n touches before (keeps z (entry.Here u) d)) (sym same)
      (keeps-well-touched e (entry.Here u) d (put-sound-view e v u w.sound here after) touched w)

  -- an end that was not here does not become Here
  pub keeps-well-away : (e : EndId) (x : Entry) (d : Progress) → (IsHere (d.table e) → ⊥) → (IsHere x → ⊥) → IsOfEnd e x → GoesWell k made n touches before d → GoesWell k made n touches before (keeps e x d)
  keeps-well-away e x d was away own w =
      keeps-well-quiet e x d (IfHere-away (d.table e) _ was) (IsFreeFor-away d.table e x was) own (IfHere-away x _ away) (IfHere-away x _ away) (λ maker count here. away here) w

  -- an end that was not here, of a link that was made, becomes Here
  pub keeps-well-settled : (h : Holder) (m : MovingPicture) (d : Progress) → (IsHere (d.table m.end) → ⊥) → IsHolder n h → (m.end.link.maker ≡ k → made ≤ m.end.link.count → ⊥)
      → GoesWell k made n touches before d → GoesWell k made n touches before (keeps m.end (entry.Here (settled h m)) d)
  keeps-well-settled h m d was holds unmade w =
      keeps-well-quiet m.end (entry.Here (settled h m)) d (IfHere-away (d.table m.end) _ was) (IsFreeFor-away d.table m.end (entry.Here (settled h m)) was) refl (record { outward = refl; inward = refl }) holds (λ maker count here. unmade maker count) w
