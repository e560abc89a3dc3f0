-- What a call that is not refused does with the table and adds, before the event closes.
use Rattle.std.specs.Prelude.{◌≡◌, ℕ, ◌+◌, List, Contains, Option, Some, None}
use Rattle.charlotte_calls.specs.declared.calls.Call.{Call}
use Rattle.charlotte_calls.specs.declared.calls.Call.TheVariants as call
use Rattle.charlotte_calls.specs.declared.calls.ServiceStep.TheVariants as step
use Rattle.charlotte_calls.specs.declared.names.EndId.{EndId}
use Rattle.charlotte_calls.specs.declared.names.Pid.{Pid}
use Rattle.charlotte_calls.specs.declared.names.Way.{Way}
use Rattle.charlotte_calls.specs.declared.names.Way.TheVariants as way
use Rattle.end_table.specs.Owned.{owned}
use Rattle.end_table.specs.Table.{IfHere}
use Rattle.end_table.specs.declared.entry.Entry.{Entry}
use Rattle.end_table.specs.declared.entry.HereView.{HereView}
use Rattle.end_table.specs.declared.entry.Holder.TheVariants as holder
use Rattle.end_table.specs.declared.entry.Inward.{Inward}
use Rattle.end_table.specs.declared.entry.Inward.TheVariants as inward
use Rattle.kernel_step.specs.Actions.{ends}
use Rattle.kernel_step.specs.Calls.{makes, starts_send, encloses, posts, withdraws_send, withdraws_receive, ends_each}
use Rattle.kernel_sound.specs.Sound.{IsSound}
use Rattle.kernel_step.specs.Progress.{Progress, means}

-- the part of a call on an end that the caller owns
abbrev pub acts_on : Option HereView → (HereView → Progress → Progress) → Progress → Progress
acts_on None part d = d
acts_on (Some v) part d = part v d

-- a receive that is posted begins to be withdrawn
abbrev pub withdraws_posted : ℕ → HereView → Inward → Progress → Progress
withdraws_posted k v inward.Idle d = d
withdraws_posted k v (inward.Posted w) d = withdraws_receive k w v d
withdraws_posted k v (inward.Withdrawing w) d = d
withdraws_posted k v inward.Unreported d = d

-- a Cancel by what is started
abbrev pub withdraws : ℕ → Way → HereView → Progress → Progress
withdraws k way.Outward v d = withdraws_send v d
withdraws k way.Inward v d = withdraws_posted k v v.inward d

-- the call of process p at kernel k, which has made so many links; mine are the ends that p owns, in order
unfoldable pub acts : Pid → ℕ → ℕ → List EndId → Call → Progress → Progress
acts p k made mine call.Make d = makes k made p d
acts p k made mine (call.Destroy on) d = acts_on (owned p (d.table on)) (λ v so_far. ends k v (means (step.Destroy on) so_far)) d
acts p k made mine (call.Send on bytes xs) d =
    acts_on (owned p (d.table on)) (λ v so_far. starts_send k bytes xs v (encloses on xs so_far)) d
acts p k made mine (call.Receive on) d = acts_on (owned p (d.table on)) (posts k) d
acts p k made mine (call.Cancel on way.Outward) d = acts_on (owned p (d.table on)) withdraws_send d
acts p k made mine (call.Cancel on way.Inward) d = acts_on (owned p (d.table on)) (λ v so_far. withdraws_posted k v v.inward so_far) d
acts p k made mine call.Wait d = means (step.Wait p) d
acts p k made mine (call.Print bytes) d = d
acts p k made mine call.Exit d = ends_each k mine (means (step.Exit p) d)

-- how many links are made after it
abbrev pub made_after : Call → ℕ → ℕ
made_after call.Make made = made + 1
made_after c made = made

-- in a table that is sound, these ends are owned by one process where they are here
pub record AreOfOne (k : ℕ) (t : EndId → Entry) (xs : List EndId) : Type 0 where
  pub made : ℕ
  pub n : ℕ
  pub p : Pid
  pub sound : IsSound k made n t
  pub owned : (e : EndId) → Contains xs e → IfHere (t e) (λ v. v.holder ≡ holder.Owner p)
