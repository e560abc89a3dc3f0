-- What an event leaves true of the table, from its beginning on.
use Rattle.std.proofs.Common.{◌<◌, IfSome, ◌≡◌, ℕ, Bool, false, [], refl, sym, ap, subst, ◌∙◌}
use Rattle.charlotte_calls.specs.declared.names.EndId.{EndId}
use Rattle.charlotte_calls.specs.declared.names.Pid.{Pid}
use Rattle.charlotte_packets.specs.declared.picture.PictureWhat.{PictureWhat}
use Rattle.charlotte_packets.specs.declared.work.Work.{Work}
use Rattle.end_table.proofs.EndEq.{end_eq-refl}
use Rattle.end_table.specs.Owned.{owned}
use Rattle.end_table.specs.Place.{end_eq}
use Rattle.end_table.specs.Table.{IfHere}
use Rattle.end_table.specs.declared.entry.Entry.TheVariants as entry
use Rattle.end_table.specs.declared.entry.HereView.{HereView}
use Rattle.end_table.specs.declared.entry.Holder.{Holder}
use Rattle.end_table.specs.declared.entry.Holder.TheVariants as holder
use Rattle.end_table.specs.declared.entry.Entry.{Entry}
use Rattle.kernel_sound.proofs.Goes.{GoesWell}
use Rattle.kernel_sound.proofs.Rows.{row-well}
use Rattle.kernel_sound.specs.Owners.{owner_in, owner_of}
use Rattle.kernel_sound.specs.Sound.{IsSound, IsHeldWell, AreFor, addressee}
use Rattle.kernel_step.specs.Calls.{is_active}
use Rattle.kernel_step.specs.Progress.{Progress, progress}
use Rattle.kernel_step.specs.Rows.{row}

-- an event begins well
pub begun-well : (k made n : ℕ) (touches : Pid → EndId → Bool) (t : EndId → Entry) (work : Work) → work.reports.items ≡ [] → work.answers.items ≡ [] → IsSound k made n t → GoesWell k made n touches t (progress t work)
unfolding progress
begun-well k made n touches t work reports answers sound =
    record {
      sound = sound;
      reports = subst (AreFor n) (sym reports) tt;
      answers = subst (AreFor n) (sym answers) tt;
      calm = λ p e apart. refl;
    }

-- what a part that goes well leaves
module _ (k made n : ℕ) (touches : Pid → EndId → Bool) (before t : EndId → Entry) (out : Work) (d : Progress) (after : progress t out ≡ d) (well : GoesWell k made n touches before d) where
  pub well-sound : IsSound k made n t
  unfolding progress
  well-sound = subst (IsSound k made n) (sym (ap (λ u. u.table) after)) well.sound

  pub well-reports : AreFor n out.reports.items
  unfolding progress
  well-reports = subst (AreFor n) (sym (ap (λ u. u.reports) after)) well.reports

  pub well-answers : AreFor n out.answers.items
  unfolding progress
  well-answers = subst (AreFor n) (sym (ap (λ u. u.answers) after)) well.answers

  pub well-calm : (p : Pid) (e : EndId) → touches p e ≡ false → is_active (owned p (t e)) ≡ is_active (owned p (before e))
  unfolding progress
  well-calm p e apart = ap (λ u. is_active (owned p (u.table e))) after ∙ well.calm p e apart

-- the rule of a packet goes well, and touches the end that it is addressed to alone
pub row-goes : (k made n from : ℕ) (what : PictureWhat) (t : EndId → Entry) (work : Work) → work.reports.items ≡ [] → work.answers.items ≡ [] → IsSound k made n t
    → GoesWell k made n (λ p e. end_eq (addressee what) e) t (row k made from what (progress t work))
row-goes k made n from what t work reports answers sound =
    row-well k made n from (λ p e. end_eq (addressee what) e) t what (progress t work) (λ p. end_eq-refl (addressee what)) (begun-well k made n (λ p e. end_eq (addressee what) e) t work reports answers sound)

-- an owner is one of the processes
pub owner-below : (k made n : ℕ) (t : EndId → Entry) → IsSound k made n t → (e : EndId) → IfSome (owner_of (t e)) (λ p. p.0 < n)
owner-below k made n t sound e = by (t e) (sound.held e)
  where
    held : (v : HereView) (h : Holder) → IsHeldWell n v h → IfSome (owner_in h) (λ p. p.0 < n)
    held v (holder.Owner p) well = well
    held v (holder.EnclosedIn on) well = tt

    by : (x : Entry) → IfHere x (λ v. IsHeldWell n v v.holder) → IfSome (owner_of x) (λ p. p.0 < n)
    by entry.Nothing well = tt
    by (entry.Here v) well = held v v.holder well
    by (entry.Left to hops) well = tt
    by (entry.Destroyed m) well = tt

-- what the rule of a packet leaves
module _ (k made n from : ℕ) (what : PictureWhat) (t u : EndId → Entry) (work out : Work) (reports : work.reports.items ≡ []) (answers : work.answers.items ≡ []) (sound : IsSound k made n t)
    (after : progress u out ≡ row k made from what (progress t work)) where
  pub row-sound : IsSound k made n u
  row-sound = well-sound k made n (λ p e. end_eq (addressee what) e) t u out _ after (row-goes k made n from what t work reports answers sound)

  pub row-calm : (p : Pid) (e : EndId) → end_eq (addressee what) e ≡ false → is_active (owned p (u e)) ≡ is_active (owned p (t e))
  row-calm = well-calm k made n (λ p e. end_eq (addressee what) e) t u out _ after (row-goes k made n from what t work reports answers sound)
