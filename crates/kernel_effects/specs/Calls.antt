-- What each call does that is not refused, before the event closes. p is the calling process, k its kernel, t what the kernel
-- keeps of each end, v the view of the end that the call is on.
use Rattle.std.specs.Prelude.{ℕ, nat_eq, List, [], ◌∷◌, ◌++◌, if◌then◌else◌, Option, Some, None}
use Rattle.std.specs.List.{flat_map}
use Rattle.charlotte_packets.specs.Moving.{new_end}
use Rattle.charlotte_calls.specs.Names.{opposite}
use Rattle.charlotte_calls.specs.declared.calls.Call.{Call}
use Rattle.charlotte_calls.specs.declared.calls.Call.TheVariants as call
use Rattle.charlotte_calls.specs.declared.calls.ServiceStep.TheVariants as step
use Rattle.charlotte_calls.specs.declared.names.EndId.{EndId}
use Rattle.charlotte_calls.specs.declared.names.Pid.{Pid}
use Rattle.charlotte_calls.specs.declared.names.Way.TheVariants as way
use Rattle.charlotte_packets.specs.declared.picture.PictureWhat.TheVariants as packet
use Rattle.end_table.specs.Entries.{gains_one, settled}
use Rattle.end_table.specs.Owned.{owned}
use Rattle.end_table.specs.declared.entry.Entry.{Entry}
use Rattle.end_table.specs.declared.entry.Entry.TheVariants as entry
use Rattle.end_table.specs.declared.entry.HereView.{HereView}
use Rattle.end_table.specs.declared.entry.Holder.TheVariants as holder
use Rattle.end_table.specs.declared.entry.Inward.{Inward}
use Rattle.end_table.specs.declared.entry.Inward.TheVariants as inward
use Rattle.end_table.specs.declared.entry.Outward.TheVariants as outward
use Rattle.kernel_step.specs.Actions.{hint_kernel, enclosed_of}
use Rattle.kernel_step.specs.Calls.{made_end}
use Rattle.kernel_effects.specs.Effect.{Effect, nothing, puts, stays, turns}
use Rattle.kernel_effects.specs.Actions.{ends_all, held_entry, match_effect}

-- Make
abbrev pub make_effect : ℕ → ℕ → Pid → Effect
make_effect k made p =
    let a = made_end k made in
    let b = opposite a in
    record nothing {
      entry =
          puts b (entry.Here (settled (holder.Owner p) (new_end b k))) (puts a (entry.Here (settled (holder.Owner p) (new_end a k))) stays);
      steps = step.Make p a b ∷ [];
    }

-- a view as its next send starts
abbrev pub sending_view : HereView → List ℕ → List EndId → HereView
sending_view v bytes xs =
    let n = gains_one v.value.sent in
    record v { value = record v.value { sent = n }; outward = outward.Waiting n bytes xs }

-- Send: the message waits where no receive wants it, and is matched at once where one does
abbrev pub send_effect : ℕ → (EndId → Entry) → List ℕ → List EndId → HereView → Effect
send_effect k t bytes xs v =
    let e = v.value.end in
    let n = gains_one v.value.sent in
    if nat_eq v.value.want 0
    then record nothing {
      entry = puts e (entry.Here (sending_view v bytes xs)) (turns xs (held_entry (holder.EnclosedIn e)) stays);
      steps = step.Send e n bytes xs ∷ [];
    }
    else record (match_effect k t (sending_view v bytes xs) n bytes xs) { steps = step.Send e n bytes xs ∷ step.Match e n ∷ [] }

-- Receive
abbrev pub post_effect : ℕ → HereView → Effect
post_effect k v =
    let e = v.value.end in
    let w = gains_one v.value.asked in
    record nothing {
      entry = puts e (entry.Here (record v { value = record v.value { asked = w }; inward = inward.Posted w })) stays;
      packets = (hint_kernel v, packet.Want (opposite e) w k v.value.hops) ∷ [];
      steps = step.Receive e ∷ [];
    }

-- Cancel of a send that waits
abbrev pub withdraw_send_effect : HereView → Effect
withdraw_send_effect v =
    let e = v.value.end in
    record nothing {
      entry = puts e (entry.Here (record v { outward = outward.Idle })) (turns (enclosed_of v.outward) (held_entry v.holder) stays);
      steps = step.Cancel e way.Outward ∷ [];
    }

-- Cancel of the receive w
abbrev pub withdraw_receive_effect : ℕ → ℕ → HereView → Effect
withdraw_receive_effect k w v =
    let e = v.value.end in
    record nothing {
      entry = puts e (entry.Here (record v { inward = inward.Withdrawing w })) stays;
      packets = (hint_kernel v, packet.Unwant (opposite e) w k v.value.hops) ∷ [];
      steps = step.Cancel e way.Inward ∷ [];
    }

abbrev pub withdraw_posted_effect : ℕ → HereView → Inward → Effect
withdraw_posted_effect k v inward.Idle = nothing
withdraw_posted_effect k v (inward.Posted w) = withdraw_receive_effect k w v
withdraw_posted_effect k v (inward.Withdrawing w) = nothing
withdraw_posted_effect k v inward.Unreported = nothing

-- the ends that are destroyed with an end, in the order in which their opposite ends are told
abbrev pub ended_with : EndId → Entry → List EndId
ended_with e entry.Nothing = []
ended_with e (entry.Here v) = enclosed_of v.outward ++ e ∷ []
ended_with e (entry.Left to hops) = []
ended_with e (entry.Destroyed m) = []

-- those that are destroyed with some ends
abbrev pub ended_list : (EndId → Entry) → List EndId → List EndId
ended_list t xs = flat_map (λ x. ended_with x (t x)) xs

-- the part of a call on an end that its process owns
abbrev pub effect_on : Option HereView → (HereView → Effect) → Effect
effect_on None part = nothing
effect_on (Some v) part = part v

-- a call; mine are the ends that p owns, in order
abbrev pub act_effect : Pid → ℕ → ℕ → List EndId → (EndId → Entry) → Call → Effect
act_effect p k made mine t call.Make = make_effect k made p
act_effect p k made mine t (call.Destroy on) =
    effect_on (owned p (t on)) (λ v. record (ends_all k t (ended_with on (entry.Here v))) { steps = step.Destroy on ∷ [] })
act_effect p k made mine t (call.Send on bytes xs) = effect_on (owned p (t on)) (send_effect k t bytes xs)
act_effect p k made mine t (call.Receive on) = effect_on (owned p (t on)) (post_effect k)
act_effect p k made mine t (call.Cancel on way.Outward) = effect_on (owned p (t on)) withdraw_send_effect
act_effect p k made mine t (call.Cancel on way.Inward) = effect_on (owned p (t on)) (λ v. withdraw_posted_effect k v v.inward)
act_effect p k made mine t call.Wait = record nothing { steps = step.Wait p ∷ [] }
act_effect p k made mine t (call.Print bytes) = nothing
act_effect p k made mine t call.Exit = record (ends_all k t (ended_list t mine)) { steps = step.Exit p ∷ [] }
