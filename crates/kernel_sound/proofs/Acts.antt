-- A call that is not refused goes well.
use Rattle.std.proofs.Common.{◌≡◌, ℕ, ◌<◌, Bool, true, nat_eq, List, Option, Some, None, refl}
use Rattle.charlotte_calls.specs.declared.calls.Call.{Call}
use Rattle.charlotte_calls.specs.declared.calls.Call.TheVariants as call
use Rattle.charlotte_calls.specs.declared.calls.ServiceStep.TheVariants as step
use Rattle.charlotte_calls.specs.declared.names.EndId.{EndId}
use Rattle.charlotte_calls.specs.declared.names.Pid.{Pid}
use Rattle.charlotte_calls.specs.declared.names.Way.TheVariants as way
use Rattle.end_table.specs.Owned.{owned}
use Rattle.end_table.specs.declared.entry.Entry.{Entry}
use Rattle.end_table.specs.declared.entry.Entry.TheVariants as entry
use Rattle.end_table.specs.declared.entry.HereView.{HereView}
use Rattle.end_table.specs.declared.entry.Holder.TheVariants as holder
use Rattle.end_table.specs.declared.entry.Inward.{Inward}
use Rattle.end_table.specs.declared.entry.Inward.TheVariants as inward
use Rattle.kernel_sound.proofs.Needs.{owned-here}
use Rattle.kernel_sound.proofs.Calls.{AreOwnedBy-all, destroys-well, ends_each-well, makes-well, posts-well, starts_send-well, withdraws_receive-well, withdraws_send-well}
use Rattle.kernel_sound.proofs.Goes.{GoesWell, means-well}
use Rattle.kernel_sound.specs.Acts.{acts, acts_on, made_after, withdraws_posted}
use Rattle.kernel_step.specs.Calls.{IsCallWith, refusal}
use Rattle.kernel_step.specs.Progress.{Progress, means}

-- these touches have the end that the call is on, and for an Exit all that its process has
abbrev pub Covers : (Pid → EndId → Bool) → Pid → Call → Type 0
Covers touches p call.Make = Unit {0}
Covers touches p (call.Destroy on) = (q : Pid) → touches q on ≡ true
Covers touches p (call.Send on bytes xs) = (q : Pid) → touches q on ≡ true
Covers touches p (call.Receive on) = (q : Pid) → touches q on ≡ true
Covers touches p (call.Cancel on w) = (q : Pid) → touches q on ≡ true
Covers touches p call.Wait = Unit {0}
Covers touches p (call.Print bytes) = Unit {0}
Covers touches p call.Exit = (q : Pid) (e : EndId) → touches q e ≡ nat_eq p.0 q.0

-- a call on an end that its process owns goes well where its part does
on-well : (P : Progress → Type 0) (part : HereView → Progress → Progress) (p : Pid) (on : EndId) (d : Progress)
    → ((v : HereView) → owned p (d.table on) ≡ Some v → d.table on ≡ entry.Here v → v.holder ≡ holder.Owner p → P (part v d)) → P d → P (acts_on (owned p (d.table on)) part d)
on-well P part p on d well is = by (owned p (d.table on)) refl
  where
    by : (o : Option HereView) → owned p (d.table on) ≡ o → P (acts_on o part d)
    by None same = is
    by (Some v) same = let here = owned-here p (d.table on) v same in well v same here.0 here.1

module _ (k made n : ℕ) (touches : Pid → EndId → Bool) (before : EndId → Entry) (p : Pid) where
  -- a Cancel of a receive
  withdraws_posted-well : (on : EndId) (v : HereView) (i : Inward) (d : Progress) → d.table on ≡ entry.Here v → v.holder ≡ holder.Owner p → Covers touches p (call.Receive on)
      → GoesWell k made n touches before d → GoesWell k made n touches before (withdraws_posted k v i d)
  withdraws_posted-well on v inward.Idle d at owner covers w = w
  withdraws_posted-well on v (inward.Posted r) d at owner covers w = withdraws_receive-well on v p d at owner covers w r
  withdraws_posted-well on v (inward.Withdrawing r) d at owner covers w = w
  withdraws_posted-well on v inward.Unreported d at owner covers w = w

  -- each call
  pub acts-well : (mine : List EndId) (c : Call) (d : Progress) → p.0 < n → (reported : Bool) → refusal p d.table made mine reported c ≡ None → IsCallWith p d.table mine c → Covers touches p c
      → GoesWell k made n touches before d → GoesWell k (made_after c made) n touches before (acts p k made mine c d)
  unfolding acts means
  acts-well mine call.Make d below reported granted ends covers w = makes-well p d below w
  acts-well mine (call.Destroy on) d below reported granted ends covers w =
      on-well (GoesWell k made n touches before) _ p on d (λ v same at owner. destroys-well on v p d at owner covers w (step.Destroy on)) w
  acts-well mine (call.Send on bytes xs) d below reported granted ends covers w =
      on-well (GoesWell k made n touches before) _ p on d
      (λ v same at owner. starts_send-well on v p d at owner covers w bytes xs granted) w
  acts-well mine (call.Receive on) d below reported granted ends covers w =
      on-well (GoesWell k made n touches before) _ p on d (λ v same at owner. posts-well on v p d at owner covers w) w
  acts-well mine (call.Cancel on way.Outward) d below reported granted ends covers w =
      on-well (GoesWell k made n touches before) _ p on d (λ v same at owner. withdraws_send-well on v p d at owner covers w) w
  acts-well mine (call.Cancel on way.Inward) d below reported granted ends covers w =
      on-well (GoesWell k made n touches before) _ p on d (λ v same at owner. withdraws_posted-well on v v.inward d at owner covers w) w
  acts-well mine call.Wait d below reported granted ends covers w = means-well (step.Wait p) d w
  acts-well mine (call.Print bytes) d below reported granted ends covers w = w
  acts-well mine call.Exit d below reported granted ends covers w =
      ends_each-well p covers mine (means (step.Exit p) d) (AreOwnedBy-all p d.table mine ends) (means-well (step.Exit p) d w)
