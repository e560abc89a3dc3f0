-- What goes well for the ends that a message encloses, one after another.
use Rattle.std.proofs.Common.{◌≡◌, ℕ, Bool, true, false, List, [], ◌∷◌, refl, sym, subst}
use Rattle.std.specs.List.{list_any}
use Rattle.charlotte_calls.specs.declared.calls.Report.{Report}
use Rattle.charlotte_calls.specs.declared.names.EndId.{EndId}
use Rattle.charlotte_calls.specs.declared.names.Pid.{Pid}
use Rattle.end_table.proofs.EndEq.{end_eq-same, put-at}
use Rattle.end_table.specs.Entries.{left_entry, ended_entry}
use Rattle.end_table.specs.Place.{end_eq, put}
use Rattle.end_table.specs.Table.{IfHere, IsIdle, IsOfEnd}
use Rattle.end_table.specs.declared.entry.Entry.{Entry}
use Rattle.end_table.specs.declared.entry.Entry.TheVariants as entry
use Rattle.end_table.specs.declared.entry.HereView.{HereView}
use Rattle.end_table.specs.declared.entry.Holder.{Holder}
use Rattle.end_table.specs.declared.entry.Holder.TheVariants as holder
use Rattle.end_table.specs.declared.entry.Outward.{Outward}
use Rattle.end_table.specs.declared.entry.Outward.TheVariants as outward
use Rattle.kernel_step.specs.Actions.{here, enclosed_of, reports, leaves_here, leave_each, ends_idle, ends_idle_here, end_each, held, hold_each}
use Rattle.kernel_step.specs.Progress.{Progress, keeps, reports_to}
use Rattle.kernel_step.proofs.Departed.{left-IsHere, ended-IsHere}
use Rattle.kernel_sound.specs.Sound.{AreHeldBy}
use Rattle.kernel_sound.proofs.Put.{IsHeldBy, HasNoMessage, IsQuiet, IsHolder, IsFreeFor-released, HasNoMessage-quiet, IfHere-away, IsHere-held, AreHeldBy-others, put-each, made-here}
use Rattle.kernel_sound.proofs.Sends.{SendsOnly, tells_gone-only, only-same}
use Rattle.kernel_sound.proofs.Goes.{GoesWell, IsOfEnd-left, IsOfEnd-ended, only-well, reports_to-well, keeps-well-quiet}

-- an event that goes well, while s holds each of xs and has no message any more that encloses them
pub record IsReleasing (k made n : ℕ) (touches : Pid → EndId → Bool) (before : EndId → Entry) (s : EndId) (xs : List EndId) (d : Progress) : Type 0 where
  pub well : GoesWell k made n touches before d
  pub none : HasNoMessage (d.table s)
  pub are : AreHeldBy s d.table xs

-- an end that is held is quiet
pub IsQuiet-held : (s : EndId) (x : Entry) → IsHeldBy s x → IsQuiet x
IsQuiet-held s (entry.Here v) is = is.0
IsQuiet-held s entry.Nothing is = tt
IsQuiet-held s (entry.Left to hops) is = tt
IsQuiet-held s (entry.Destroyed m) is = tt

-- an end that q does not hold is none of those that it holds
pub apart-AreHeldBy : (q e : EndId) (t : EndId → Entry) (xs : List EndId) → (IsHeldBy q (t e) → ⊥) → AreHeldBy q t xs → list_any (end_eq e) xs ≡ false
apart-AreHeldBy q e t [] other are = refl
apart-AreHeldBy q e t (x ∷ xs) other are = by (end_eq e x) refl (apart-AreHeldBy q e t xs other are.2)
  where
    by : (b : Bool) → end_eq e x ≡ b → list_any (end_eq e) xs ≡ false → list_any (end_eq e) (x ∷ xs) ≡ false
    by true same rest = absurd (other (subst (λ z. IsHeldBy q (t z)) (sym (end_eq-same e x same)) are.0))
    by false apart rest = rw (apart, rest)

-- a message that waits does not enclose its own end, which is not idle
pub AreHeldBy-own : (e : EndId) (v : HereView) (t : EndId → Entry) (y : Entry) → t e ≡ entry.Here v → AreHeldBy e t (enclosed_of v.outward) → AreHeldBy e (put t e y) (enclosed_of v.outward)
AreHeldBy-own e v t y here are = by v.outward refl are
  where
    by : (o : Outward) → v.outward ≡ o → AreHeldBy e t (enclosed_of o) → AreHeldBy e (put t e y) (enclosed_of o)
    by outward.Idle is are = tt
    by (outward.Waiting n bytes xs) is are =
        let other : IsHeldBy e (t e) → ⊥ = λ held. busy n bytes xs is (subst (IsHeldBy e) here held).0.outward in
        AreHeldBy-others t e y e xs (apart-AreHeldBy e e t xs other are) are
      where
        busy : (n : ℕ) (bytes : List ℕ) (xs : List EndId) → v.outward ≡ outward.Waiting n bytes xs → v.outward ≡ outward.Idle → ⊥
        busy n bytes xs is idle = cc
    by (outward.Matched n) is are = tt
    by outward.Unreported is are = tt

module _ {k made n : ℕ} {touches : Pid → EndId → Bool} {before : EndId → Entry} where
  -- packets and steps release nothing
  pub only-releasing : {old new : Progress} (s : EndId) (xs : List EndId) → SendsOnly old new → IsReleasing k made n touches before s xs old → IsReleasing k made n touches before s xs new
  only-releasing {old} {new} s xs only r =
      record {
        well = only-well only r.well;
        none = subst (λ t. HasNoMessage (t s)) (sym only.table) r.none;
        are = subst (λ t. AreHeldBy s t xs) (sym only.table) r.are;
      }

  -- nor do reports
  pub reports-releasing : (s : EndId) (xs : List EndId) (h : Holder) (r : Report) (d : Progress) → IsHolder n h → IsReleasing k made n touches before s xs d → IsReleasing k made n touches before s xs (reports h r d)
  unfolding reports_to
  reports-releasing s xs (holder.Owner p) r d holds rel = record { well = reports_to-well p r d holds rel.well; none = rel.none; are = rel.are }
  reports-releasing s xs (holder.EnclosedIn on) r d holds rel = rel

  -- an end whose message is no more holds what it enclosed, until these are released
  pub releasing-first : (e f : EndId) (v : HereView) (y : Entry) (d : Progress) → f ≡ e → d.table e ≡ entry.Here v → HasNoMessage y → GoesWell k made n touches before d → GoesWell k made n touches before (keeps f y d)
      → IsReleasing k made n touches before e (enclosed_of v.outward) (keeps f y d)
  unfolding keeps
  releasing-first e f v y d same here empty w after =
      record {
        well = after;
        none = subst (λ z. HasNoMessage (put d.table z y e)) (sym same) (subst HasNoMessage (sym (put-at d.table e y)) empty);
        are =
            subst (λ z. AreHeldBy e (put d.table z y) (enclosed_of v.outward)) (sym same)
            (AreHeldBy-own e v d.table y here (subst (λ z. IfHere z (λ u. AreHeldBy e d.table (enclosed_of u.outward))) here (w.sound.enclosed e)));
      }

  -- the entry of the first end becomes another, without an activity
  pub keeps-releasing : (s x f : EndId) (xs : List EndId) (y : Entry) (d : Progress) → f ≡ x → IsOfEnd x y → IsQuiet y → IfHere y (λ v. IsHolder n v.holder)
      → IsReleasing k made n touches before s (x ∷ xs) d → IsReleasing k made n touches before s xs (keeps f y d)
  unfolding keeps
  keeps-releasing s x f xs y d same own quiet holds r =
      subst (λ z. IsReleasing k made n touches before s xs (keeps z y d)) (sym same)
      (record {
        well =
            keeps-well-quiet x y d (IsQuiet-held s (d.table x) r.are.0) (IsFreeFor-released d.table x y s r.are.0 r.none) own quiet holds
            (made-here x r.well.sound (IsHere-held (d.table x) _ r.are.0) y) r.well;
        none = put-each (λ q z. s ≡ q → HasNoMessage z) d.table x y (λ at. HasNoMessage-quiet y quiet) s (λ apart at. r.none) refl;
        are = AreHeldBy-others d.table x y s xs r.are.1 r.are.2;
      })

  -- LEAVE of the first
  leaves-releasing : (to : ℕ) (s x : EndId) (xs : List EndId) (d : Progress) → IsReleasing k made n touches before s (x ∷ xs) d → IsReleasing k made n touches before s xs (leaves_here to (here (d.table x)) d)
  leaves-releasing to s x xs d r = by (d.table x) (r.well.sound.own x) r.are.0
    where
      by : (y : Entry) → IsOfEnd x y → IsHeldBy s y → IsReleasing k made n touches before s xs (leaves_here to (here y) d)
      by (entry.Here v) own is =
          let gone = left-IsHere to v.value in
          keeps-releasing s x v.value.end xs (left_entry to v.value) d own (IsOfEnd-left to v.value x) (IfHere-away _ IsIdle gone) (IfHere-away _ (λ u. IsHolder n u.holder) gone) r
      by entry.Nothing own is = absurd is
      by (entry.Left there hops) own is = absurd is
      by (entry.Destroyed m) own is = absurd is

  -- END of the first
  ends-releasing : (s x : EndId) (xs : List EndId) (d : Progress) → IsReleasing k made n touches before s (x ∷ xs) d → IsReleasing k made n touches before s xs (ends_idle_here k (here (d.table x)) d)
  unfolding ends_idle
  ends-releasing s x xs d r = by (d.table x) (r.well.sound.own x) r.are.0
    where
      by : (y : Entry) → IsOfEnd x y → IsHeldBy s y → IsReleasing k made n touches before s xs (ends_idle_here k (here y) d)
      by (entry.Here v) own is =
          let gone = ended-IsHere v.value in
          only-releasing s xs (tells_gone-only k v.value _ (only-same _))
          (keeps-releasing s x v.value.end xs (ended_entry v.value) d own (IsOfEnd-ended v.value x own) (IfHere-away _ IsIdle gone) (IfHere-away _ (λ u. IsHolder n u.holder) gone) r)
      by entry.Nothing own is = absurd is
      by (entry.Left there hops) own is = absurd is
      by (entry.Destroyed m) own is = absurd is

  -- another holder of the first
  held-releasing : (h : Holder) (s x : EndId) (xs : List EndId) (d : Progress) → IsHolder n h → IsReleasing k made n touches before s (x ∷ xs) d → IsReleasing k made n touches before s xs (held h (here (d.table x)) d)
  held-releasing h s x xs d holds r = by (d.table x) (r.well.sound.own x) r.are.0
    where
      by : (y : Entry) → IsOfEnd x y → IsHeldBy s y → IsReleasing k made n touches before s xs (held h (here y) d)
      by (entry.Here v) own is =
          keeps-releasing s x v.value.end xs (entry.Here (record v { holder = h })) d own own (record { outward = is.0.outward; inward = is.0.inward }) holds r
      by entry.Nothing own is = absurd is
      by (entry.Left there hops) own is = absurd is
      by (entry.Destroyed m) own is = absurd is

  -- ends whose message is gone leave, end, or get another holder
  pub leave_each-well : (to : ℕ) (s : EndId) (xs : List EndId) (d : Progress) → IsReleasing k made n touches before s xs d → GoesWell k made n touches before (leave_each to xs d)
  unfolding leave_each
  leave_each-well to s [] d r = r.well
  leave_each-well to s (x ∷ xs) d r = leave_each-well to s xs (leaves_here to (here (d.table x)) d) (leaves-releasing to s x xs d r)

  -- they are destroyed
  pub end_each-well : (s : EndId) (xs : List EndId) (d : Progress) → IsReleasing k made n touches before s xs d → GoesWell k made n touches before (end_each k xs d)
  unfolding end_each
  end_each-well s [] d r = r.well
  end_each-well s (x ∷ xs) d r = end_each-well s xs (ends_idle_here k (here (d.table x)) d) (ends-releasing s x xs d r)

  -- they get another holder
  pub hold_each-well : (h : Holder) (s : EndId) (xs : List EndId) (d : Progress) → IsHolder n h → IsReleasing k made n touches before s xs d → GoesWell k made n touches before (hold_each h xs d)
  unfolding hold_each
  hold_each-well h s [] d holds r = r.well
  hold_each-well h s (x ∷ xs) d holds r = hold_each-well h s xs (held h (here (d.table x)) d) holds (held-releasing h s x xs d holds r)
