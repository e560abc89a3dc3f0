-- The packets of a call have to do with the links of the ends that it touches alone.
use Rattle.std.proofs.Common.{◌≡◌, ℕ, nat_eq, List, [], ◌∷◌, Option, Some, None, refl, subst}
use Rattle.std.specs.List.{AllByRecursion, flat_map}
use Rattle.charlotte_calls.specs.declared.calls.Call.{Call}
use Rattle.charlotte_calls.specs.declared.calls.Call.TheVariants as call
use Rattle.charlotte_calls.specs.declared.names.EndId.{EndId}
use Rattle.charlotte_calls.specs.declared.names.Pid.{Pid}
use Rattle.charlotte_calls.specs.declared.names.Way.TheVariants as way
use Rattle.end_table.specs.Entries.{gains_one}
use Rattle.end_table.specs.Owned.{owned}
use Rattle.end_table.specs.declared.entry.Entry.{Entry}
use Rattle.end_table.specs.declared.entry.Entry.TheVariants as entry
use Rattle.end_table.specs.declared.entry.HereView.{HereView}
use Rattle.end_table.specs.declared.entry.Inward.{Inward}
use Rattle.end_table.specs.declared.entry.Inward.TheVariants as inward
use Rattle.kernel_effects.proofs.Uses.{all-append}
use Rattle.kernel_effects.specs.Actions.{gone_of}
use Rattle.kernel_effects.specs.Calls.{act_effect, effect_on, ended_list, ended_with, sending_view, withdraw_posted_effect}
use Rattle.kernel_effects.specs.Effect.{Effect}
use Rattle.kernel_outcomes.specs.Touched.{act_ends, enclosed_at}
use Rattle.kernel_sound.proofs.Needs.{owned-here}
use Rattle.kernel_step.proofs.Folds.{AreOwn}
use Rattle.kernel_step.specs.Actions.{enclosed_of}
use Rattle.theorem_effects.specs.Aside.{IsClear, IsFar}
use Rattle.theorem_effects.proofs.Clear.{AreClear, either-clear, far-here, far-opposite, gone_of-clear, match-clear}

module _ (q : EndId) (k made : ℕ) (p : Pid) (mine : List EndId) (t : EndId → Entry) (own : AreOwn t) where
  gone_all-clear : (xs : List EndId) → AllByRecursion (IsFar q) xs → AreClear q (flat_map (λ x. gone_of k (t x)) xs)
  gone_all-clear [] far = tt
  gone_all-clear (x ∷ xs) far = all-append (IsClear q) (gone_of k (t x)) (flat_map (λ x. gone_of k (t x)) xs) (gone_of-clear q k x (t x) (own x) far.0) (gone_all-clear xs far.1)

  on-clear : (on : EndId) (effect : HereView → Effect) → ((v : HereView) → t on ≡ entry.Here v → AreClear q (effect v).packets) → AreClear q (effect_on (owned p (t on)) effect).packets
  on-clear on effect gives = by (owned p (t on)) refl
    where
      by : (o : Option HereView) → owned p (t on) ≡ o → AreClear q (effect_on o effect).packets
      by None is = tt
      by (Some v) is = gives v (owned-here p (t on) v is).0

  posted-clear : (v : HereView) (i : Inward) → IsFar q v.value.end → AreClear q (withdraw_posted_effect k v i).packets
  posted-clear v inward.Idle far = tt
  posted-clear v (inward.Posted w) far = ((far-opposite q v.value.end far, refl), tt)
  posted-clear v (inward.Withdrawing w) far = tt
  posted-clear v inward.Unreported far = tt

  ended-far : (on : EndId) (v : HereView) → t on ≡ entry.Here v → IsFar q on → AllByRecursion (IsFar q) (enclosed_at (t on)) → AllByRecursion (IsFar q) (ended_with on (entry.Here v))
  ended-far on v is far among = all-append (IsFar q) (enclosed_of v.outward) (on ∷ []) (subst (λ y. AllByRecursion (IsFar q) (enclosed_at y)) is among) (far, tt)

  -- any call, where the end is far from all ends that it touches
  pub act-clear : (c : Call) → AllByRecursion (IsFar q) (act_ends k made mine t c) → AreClear q (act_effect p k made mine t c).packets
  act-clear call.Make far = tt
  act-clear (call.Destroy on) far = on-clear on _ (λ v is. gone_all-clear (ended_with on (entry.Here v)) (ended-far on v is far.0 far.1))
  act-clear (call.Send on bytes xs) far =
      on-clear on _ (λ v is. either-clear q (nat_eq v.value.want 0) _ _ tt (match-clear q k t own (sending_view v bytes xs) (gains_one v.value.sent) bytes xs (far-here q k t own on v is far.0) far.1))
  act-clear (call.Receive on) far = on-clear on _ (λ v is. ((far-opposite q v.value.end (far-here q k t own on v is far.0), refl), tt))
  act-clear (call.Cancel on way.Outward) far = on-clear on _ (λ v is. tt)
  act-clear (call.Cancel on way.Inward) far = on-clear on _ (λ v is. posted-clear v v.inward (far-here q k t own on v is far.0))
  act-clear call.Wait far = tt
  act-clear (call.Print bytes) far = tt
  act-clear call.Exit far = gone_all-clear (ended_list t mine) far
