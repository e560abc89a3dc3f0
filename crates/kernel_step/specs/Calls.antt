-- The calls of processes: when each is refused, and what it does with the kernel's table where it is not.
-- p is the calling process, k its kernel, t what the kernel keeps of each end.
use Rattle.std.specs.Prelude.{ℕ, Bool, true, false, nat_eq, ◌||◌, List, if◌then◌else◌, Option, Some, None}
use Rattle.std.specs.List.{fold, list_any}
use Rattle.charlotte_calls.specs.Causes.{Activity, Idle, Started, Matched, Unreported, Seen, first_cause, is_started}
use Rattle.charlotte_calls.specs.Names.{opposite}
use Rattle.charlotte_packets.specs.Moving.{new_end}
use Rattle.charlotte_calls.specs.declared.calls.Call.{Call}
use Rattle.charlotte_calls.specs.declared.calls.Call.TheVariants as call
use Rattle.charlotte_calls.specs.declared.calls.Cause.{Cause}
use Rattle.charlotte_calls.specs.declared.calls.Cause.TheVariants as cause
use Rattle.charlotte_calls.specs.declared.calls.ServiceStep.TheVariants as step
use Rattle.charlotte_calls.specs.declared.names.EndId.{EndId}
use Rattle.charlotte_calls.specs.declared.names.Side.TheVariants.{A}
use Rattle.charlotte_calls.specs.declared.names.Pid.{Pid}
use Rattle.charlotte_calls.specs.declared.names.Way.TheVariants as way
use Rattle.charlotte_packets.specs.declared.picture.PictureWhat.TheVariants as packet
use Rattle.end_table.specs.Owned.{owned, AreEndsOf}
use Rattle.end_table.specs.Entries.{gains_one, settled}
use Rattle.end_table.specs.declared.entry.Entry.{Entry}
use Rattle.end_table.specs.declared.entry.Entry.TheVariants as entry
use Rattle.end_table.specs.declared.entry.HereView.{HereView}
use Rattle.end_table.specs.declared.entry.Holder.TheVariants as holder
use Rattle.end_table.specs.declared.entry.Inward.{Inward}
use Rattle.end_table.specs.declared.entry.Inward.TheVariants as inward
use Rattle.end_table.specs.declared.entry.Outward.{Outward}
use Rattle.end_table.specs.declared.entry.Outward.TheVariants as outward
use Rattle.kernel_step.specs.Progress.{Progress, sends, means, keeps}
use Rattle.kernel_step.specs.Actions.{here, hint_kernel, enclosed_of, matches, ends, hold_each}

-- how far an activity has come: a receive can be taken back while its Cancel waits, too

abbrev pub outward_activity : Outward → Activity
outward_activity outward.Idle = Idle
outward_activity (outward.Waiting n bytes xs) = Started
outward_activity (outward.Matched n) = Matched
outward_activity outward.Unreported = Unreported

abbrev pub inward_activity : Inward → Activity
inward_activity inward.Idle = Idle
inward_activity (inward.Posted w) = Started
inward_activity (inward.Withdrawing w) = Started
inward_activity inward.Unreported = Unreported

-- what the owner of an end sees of it
abbrev pub seen_of : HereView → Seen
seen_of v =
    record {
      owned = true;
      outward = outward_activity v.outward;
      inward = inward_activity v.inward;
      dead = v.value.dead;
    }

-- what a process sees of an end: of one that it does not own, no more than that
abbrev pub seen : Option HereView → Seen
seen None = record { owned = false; outward = Idle; inward = Idle; dead = false }
seen (Some v) = seen_of v

-- what p sees of each end
abbrev pub sees : Pid → (EndId → Entry) → EndId → Seen
sees p t e = seen (owned p (t e))

-- an end that p owns has a started activity
abbrev pub is_active : Option HereView → Bool
is_active None = false
is_active (Some v) = is_started (outward_activity v.outward) || is_started (inward_activity v.inward)

-- the first cause that holds, if one does; mine are the ends that p owns, reported tells whether a report of p stands
abbrev pub refusal : Pid → (EndId → Entry) → ℕ → List EndId → Bool → Call → Option Cause
refusal p t made mine reported call.Wait =
    if reported || list_any (λ e. is_active (here (t e))) mine then None else Some cause.NoActivity
refusal p t made mine reported c = first_cause (sees p t) made c

-- Make: both ends of a new link are owned by the caller
abbrev pub made_end : ℕ → ℕ → EndId
made_end k made = record { link = record { maker = k; count = made }; side = A }

unfoldable pub makes : ℕ → ℕ → Pid → Progress → Progress
makes k made p d =
    let a = made_end k made in
    let b = opposite a in
    keeps b (entry.Here (settled (holder.Owner p) (new_end b k)))
    (keeps a (entry.Here (settled (holder.Owner p) (new_end a k))) (means (step.Make p a b) d))

-- Send: a send of these bytes is started, which encloses xs; it is matched where a receive wants it
unfoldable pub starts_send : ℕ → List ℕ → List EndId → HereView → Progress → Progress
starts_send k bytes xs v d =
    let n = gains_one v.value.sent in
    let started = record v { value = record v.value { sent = n }; outward = outward.Waiting n bytes xs } in
    let sent = means (step.Send v.value.end n bytes xs) d in
    if nat_eq v.value.want 0 then keeps v.value.end (entry.Here started) sent else matches k started n bytes xs sent

unfoldable pub encloses : EndId → List EndId → Progress → Progress
encloses on xs d = hold_each (holder.EnclosedIn on) xs d

-- Receive: a receive is started, and the opposite end is asked
unfoldable pub posts : ℕ → HereView → Progress → Progress
posts k v d =
    let w = gains_one v.value.asked in
    sends (hint_kernel v) (packet.Want (opposite v.value.end) w k v.value.hops)
    (means (step.Receive v.value.end)
    (keeps v.value.end (entry.Here (record v { value = record v.value { asked = w }; inward = inward.Posted w })) d))

-- Cancel of a send: it never happened, and the ends that it enclosed are its owner's again
unfoldable pub withdraws_send : HereView → Progress → Progress
withdraws_send v d =
    hold_each v.holder (enclosed_of v.outward)
    (means (step.Cancel v.value.end way.Outward) (keeps v.value.end (entry.Here (record v { outward = outward.Idle })) d))

-- Cancel of the receive w: the opposite end is asked whether it was matched
unfoldable pub withdraws_receive : ℕ → ℕ → HereView → Progress → Progress
withdraws_receive k w v d =
    sends (hint_kernel v) (packet.Unwant (opposite v.value.end) w k v.value.hops)
    (means (step.Cancel v.value.end way.Inward) (keeps v.value.end (entry.Here (record v { inward = inward.Withdrawing w })) d))

-- END of an end that is here
abbrev pub ends_here : ℕ → Option HereView → Progress → Progress
ends_here k None d = d
ends_here k (Some v) d = ends k v d

-- END of each of these ends, in order
unfoldable pub ends_each : ℕ → List EndId → Progress → Progress
ends_each k xs d = fold (λ so_far x. ends_here k (here (so_far.table x)) so_far) d xs

-- a Wait and an Exit are about the ends that the process owns
abbrev pub IsCallWith : Pid → (EndId → Entry) → List EndId → Call → Type 0
IsCallWith p t mine call.Wait = AreEndsOf p t mine
IsCallWith p t mine call.Exit = AreEndsOf p t mine
IsCallWith p t mine _ = Unit {0}
