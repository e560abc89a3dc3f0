-- A call makes a kernel name no other kernels than those that it named, and itself.
use Rattle.std.proofs.Common.{◌≡◌, ℕ, ◌<◌, nat_eq, List, Option, Some, None, refl, subst, lt-ltb, pow_pos}
use Rattle.charlotte_packets.specs.Moving.{new_end}
use Rattle.charlotte_calls.specs.Names.{opposite}
use Rattle.charlotte_calls.specs.declared.calls.Call.{Call}
use Rattle.charlotte_calls.specs.declared.calls.Call.TheVariants as call
use Rattle.charlotte_calls.specs.declared.names.EndId.{EndId}
use Rattle.charlotte_calls.specs.declared.names.Pid.{Pid}
use Rattle.charlotte_calls.specs.declared.names.Way.TheVariants as way
use Rattle.end_table.specs.Entries.{gains_one, settled}
use Rattle.end_table.specs.Owned.{owned}
use Rattle.end_table.specs.declared.entry.Entry.{Entry}
use Rattle.end_table.specs.declared.entry.Entry.TheVariants as entry
use Rattle.end_table.specs.declared.entry.HereView.{HereView}
use Rattle.end_table.specs.declared.entry.Holder.TheVariants as holder
use Rattle.end_table.specs.declared.entry.Inward.{Inward}
use Rattle.end_table.specs.declared.entry.Inward.TheVariants as inward
use Rattle.kernel_effects.specs.Actions.{ended_of, ends_all, held_entry}
use Rattle.kernel_effects.specs.Calls.{act_effect, effect_on, ended_list, ended_with, sending_view, withdraw_posted_effect}
use Rattle.kernel_effects.specs.Effect.{Effect, puts, stays, turns}
use Rattle.kernel_sound.proofs.Needs.{owned-here}
use Rattle.kernel_step.specs.Actions.{enclosed_of}
use Rattle.kernel_step.specs.Calls.{made_end}
use Rattle.theorem_meaning.specs.Invariant.{NamesBelow}
use Rattle.theorem_effects.specs.Named.{NamesWithin}
use Rattle.theorem_effects.proofs.NamedParts.{IsNamed, either-names, ended_of-names, gone_all-within, held_entry-names, hint-below, named, puts-names, stays-names, turns-names}
use Rattle.theorem_effects.proofs.NamedRows.{match-names}

module _ (n k made : ℕ) (p : Pid) (mine : List EndId) (t : EndId → Entry) (below : k < n) (names : (e : EndId) → NamesBelow n (t e)) where
  -- an end that is made knows its opposite at this kernel
  new-named : (e : EndId) → IsNamed n (new_end e k)
  new-named e = named n (new_end e k) below (pow_pos n)

  ends-names : (xs : List EndId) → NamesWithin n (ends_all k t xs)
  ends-names xs = record { entries = turns-names n xs ended_of stays (ended_of-names n) (stays-names n); sent = gone_all-within n k below t xs names }

  on-names : (on : EndId) (effect : HereView → Effect) → ((v : HereView) → IsNamed n v.value → NamesWithin n (effect v)) → NamesWithin n (effect_on (owned p (t on)) effect)
  on-names on effect gives = by (owned p (t on)) refl
    where
      by : (o : Option HereView) → owned p (t on) ≡ o → NamesWithin n (effect_on o effect)
      by None is = record { entries = stays-names n; sent = tt }
      by (Some v) is = gives v (subst (NamesBelow n) (owned-here p (t on) v is).0 (names on))

  posted-names : (v : HereView) (i : Inward) → IsNamed n v.value → NamesWithin n (withdraw_posted_effect k v i)
  posted-names v inward.Idle is = record { entries = stays-names n; sent = tt }
  posted-names v (inward.Posted w) is = record { entries = puts-names n v.value.end _ stays is (stays-names n); sent = ((hint-below n v.value is, lt-ltb k n below), tt) }
  posted-names v (inward.Withdrawing w) is = record { entries = stays-names n; sent = tt }
  posted-names v inward.Unreported is = record { entries = stays-names n; sent = tt }

  pub act-names : (c : Call) → NamesWithin n (act_effect p k made mine t c)
  act-names call.Make =
      let a = made_end k made in
      record {
        entries =
            puts-names n (opposite a) _ (puts a (entry.Here (settled (holder.Owner p) (new_end a k))) stays) (new-named (opposite a)) (puts-names n a _ stays (new-named a) (stays-names n));
        sent = tt;
      }
  act-names (call.Destroy on) =
      on-names on _ (λ v is. record { entries = (ends-names (ended_with on (entry.Here v))).entries; sent = (ends-names (ended_with on (entry.Here v))).sent })
  act-names (call.Send on bytes xs) =
      on-names on _ (λ v is.
      let m = gains_one v.value.sent in
      let matched = match-names n k made k t below below names (sending_view v bytes xs) m bytes xs is in
      either-names n (nat_eq v.value.want 0) _ _
      (record {
        entries =
            puts-names n v.value.end (entry.Here (sending_view v bytes xs)) (turns xs (held_entry (holder.EnclosedIn v.value.end)) stays) is
            (turns-names n xs (held_entry (holder.EnclosedIn v.value.end)) stays (held_entry-names n (holder.EnclosedIn v.value.end)) (stays-names n));
        sent = tt;
      })
      (record { entries = matched.entries; sent = matched.sent }))
  act-names (call.Receive on) = on-names on _ (λ v is. record { entries = puts-names n v.value.end _ stays is (stays-names n); sent = ((hint-below n v.value is, lt-ltb k n below), tt) })
  act-names (call.Cancel on way.Outward) =
      on-names on _ (λ v is.
      record {
        entries =
            puts-names n v.value.end _ (turns (enclosed_of v.outward) (held_entry v.holder) stays) is
            (turns-names n (enclosed_of v.outward) (held_entry v.holder) stays (held_entry-names n v.holder) (stays-names n));
        sent = tt;
      })
  act-names (call.Cancel on way.Inward) = on-names on _ (λ v is. posted-names v v.inward is)
  act-names call.Wait = record { entries = stays-names n; sent = tt }
  act-names (call.Print bytes) = record { entries = stays-names n; sent = tt }
  act-names call.Exit = record { entries = (ends-names (ended_list t mine)).entries; sent = (ends-names (ended_list t mine)).sent }
