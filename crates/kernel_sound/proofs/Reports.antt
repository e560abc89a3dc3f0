-- An activity that was over is idle once it is reported: the table stays sound, and nobody's activities change.
use Rattle.std.proofs.Common.{◌≡◌, ℕ, Bool, true, false, ◌||◌, inl, Some, None, refl, ap, subst, ◌∙◌, if◌then◌else◌}
use Rattle.charlotte_calls.specs.Causes.{is_started}
use Rattle.charlotte_calls.specs.declared.names.EndId.{EndId}
use Rattle.charlotte_calls.specs.declared.names.Pid.{Pid}
use Rattle.charlotte_calls.specs.declared.names.Way.{Way}
use Rattle.charlotte_calls.specs.declared.names.Way.TheVariants as way
use Rattle.end_table.specs.Owned.{is_owner, owned}
use Rattle.end_table.specs.Place.{put}
use Rattle.end_table.specs.Table.{IsHere, IsOfEnd}
use Rattle.end_table.specs.declared.entry.Entry.{Entry}
use Rattle.end_table.specs.declared.entry.Entry.TheVariants as entry
use Rattle.end_table.specs.declared.entry.HereView.{HereView}
use Rattle.end_table.specs.declared.entry.Inward.{Inward}
use Rattle.end_table.specs.declared.entry.Inward.TheVariants as inward
use Rattle.end_table.specs.declared.entry.Outward.{Outward}
use Rattle.end_table.specs.declared.entry.Outward.TheVariants as outward
use Rattle.kernel_sound.proofs.Put.{IsViewAfter, put-each, put-sound-away, put-sound-view}
use Rattle.kernel_sound.specs.Sound.{IsSound}
use Rattle.kernel_step.specs.Actions.{enclosed_of}
use Rattle.kernel_step.specs.Calls.{inward_activity, is_active, outward_activity}
use Rattle.kernel_step.specs.Kernel.{inward_reported, outward_reported, reported_entry, reported_view}

-- a report changes nothing that is started, and encloses nothing
outward_reported-started : (o : Outward) → is_started (outward_activity (outward_reported o)) ≡ is_started (outward_activity o)
outward_reported-started outward.Idle = refl
outward_reported-started (outward.Waiting n bytes xs) = refl
outward_reported-started (outward.Matched n) = refl
outward_reported-started outward.Unreported = refl

-- so it is inward
inward_reported-started : (i : Inward) → is_started (inward_activity (inward_reported i)) ≡ is_started (inward_activity i)
inward_reported-started inward.Idle = refl
inward_reported-started (inward.Posted w) = refl
inward_reported-started (inward.Withdrawing w) = refl
inward_reported-started inward.Unreported = refl

-- a message that waits encloses what it did
enclosed-reported : (o : Outward) → enclosed_of (outward_reported o) ≡ enclosed_of o
enclosed-reported outward.Idle = refl
enclosed-reported (outward.Waiting n bytes xs) = refl
enclosed-reported (outward.Matched n) = refl
enclosed-reported outward.Unreported = refl

-- the holder stays
holder-reported : (w : Way) (v : HereView) → (reported_view w v).holder ≡ v.holder
holder-reported way.Outward v = refl
holder-reported way.Inward v = refl

-- what a report leaves is another view of the end
IsViewAfter-reported : (w : Way) (v : HereView) → IsViewAfter v (reported_view w v)
IsViewAfter-reported way.Outward v =
    record {
      end = refl;
      holder = refl;
      idle = λ idle. record { outward = ap outward_reported idle.outward; inward = idle.inward };
      message = inl (enclosed-reported v.outward);
    }
IsViewAfter-reported way.Inward v =
    record { end = refl; holder = refl; idle = λ idle. record { outward = idle.outward; inward = ap inward_reported idle.inward }; message = inl refl }

-- a view has an activity where it had one
is_active-reported_view : (w : Way) (v : HereView) → is_active (Some (reported_view w v)) ≡ is_active (Some v)
is_active-reported_view way.Outward v = ap (λ b. b || is_started (inward_activity v.inward)) (outward_reported-started v.outward)
is_active-reported_view way.Inward v = ap (λ b. is_started (outward_activity v.outward) || b) (inward_reported-started v.inward)

-- and so has a process at the entry
is_active-reported : (w : Way) (p : Pid) (x : Entry) → is_active (owned p (reported_entry w x)) ≡ is_active (owned p x)
is_active-reported w p entry.Nothing = refl
is_active-reported w p (entry.Here v) =
    ap (λ h. is_active (if is_owner p h then Some (reported_view w v) else None)) (holder-reported w v) ∙ by (is_owner p v.holder)
  where
    by : (b : Bool) → is_active (if b then Some (reported_view w v) else None) ≡ is_active (if b then Some v else None)
    by true = is_active-reported_view w v
    by false = refl
is_active-reported w p (entry.Left to hops) = refl
is_active-reported w p (entry.Destroyed m) = refl

-- once an activity at one end is reported
module _ (w : Way) (on : EndId) (t : EndId → Entry) where
  -- the table stays sound
  pub IsSound-reported : (k made n : ℕ) → IsSound k made n t → IsSound k made n (put t on (reported_entry w (t on)))
  IsSound-reported k made n sound = by (t on) refl
    where
      same : (x : Entry) → t on ≡ x → (IsHere x → ⊥) → IsSound k made n (put t on x)
      same x is away = put-sound-away on x sound (λ here. away (subst IsHere is here)) away (subst (IsOfEnd on) is (sound.own on))

      by : (x : Entry) → t on ≡ x → IsSound k made n (put t on (reported_entry w x))
      by entry.Nothing is = same entry.Nothing is (λ here. here)
      by (entry.Here v) here = put-sound-view on v (reported_view w v) sound here (IsViewAfter-reported w v)
      by (entry.Left to hops) is = same (entry.Left to hops) is (λ here. here)
      by (entry.Destroyed m) is = same (entry.Destroyed m) is (λ here. here)

  -- and nobody's activities change
  pub is_active-reported_put : (p : Pid) (q : EndId) → is_active (owned p (put t on (reported_entry w (t on)) q)) ≡ is_active (owned p (t q))
  is_active-reported_put p q = put-each (λ r z. is_active (owned p z) ≡ is_active (owned p (t r))) t on (reported_entry w (t on)) (is_active-reported w p (t on)) q (λ apart. refl)
