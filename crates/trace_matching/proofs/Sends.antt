-- A Send whose message is matched at once keeps all that is true of the traces of ends.
use Rattle.std.proofs.Common.{◌≡◌, ◌≢◌, ◌⊎◌, inl, inr, ℕ, ◌^◌, ◌<◌, ◌≤◌, Bool, true, false, nat_eq, if◌then◌else◌, List, [], ◌∷◌, length, Contains, Some, None, refl, sym, ap, subst, ◌∙◌, arith, ne_eqb}
use Rattle.charlotte_calls.specs.Causes.{first_of, send_causes}
use Rattle.charlotte_calls.specs.Names.{opposite}
use Rattle.charlotte_calls.specs.declared.calls.Call.TheVariants as call
use Rattle.charlotte_calls.specs.declared.calls.ServiceStep.TheVariants as step
use Rattle.charlotte_calls.specs.declared.names.EndId.{EndId}
use Rattle.charlotte_calls.specs.declared.names.Pid.{Pid}
use Rattle.charlotte_packets.specs.declared.picture.MovingPicture.{MovingPicture}
use Rattle.end_table.specs.Entries.{gains_one}
use Rattle.end_table.specs.Owned.{owned}
use Rattle.end_table.specs.Table.{IsHere, IsHereAnd, IsIdle}
use Rattle.end_table.specs.declared.entry.Entry.{Entry}
use Rattle.end_table.specs.declared.entry.Entry.TheVariants as entry
use Rattle.end_table.specs.declared.entry.HereView.{HereView}
use Rattle.end_table.specs.declared.entry.Holder.TheVariants as holder
use Rattle.kernel_effects.specs.Actions.{match_effect, matched_view}
use Rattle.kernel_effects.specs.Calls.{act_effect, effect_on, send_effect, sending_view}
use Rattle.kernel_effects.specs.Effect.{Effect}
use Rattle.kernel_step.specs.Calls.{sees}
use Rattle.kernel_step.specs.declared.phase.Phase.TheVariants as kernel_phase
use Rattle.kernel_world.specs.World.{Calls, World, happens}
use Rattle.service_lawful.specs.Consistent.{is_open}
use Rattle.service_step.specs.State.{State}
use Rattle.service_step.specs.declared.state.End.{End}
use Rattle.trace_landing.proofs.Granted.{IsFreeToSend}
use Rattle.trace_landing.proofs.Sends.{free, owned-is, waits_effect}
use Rattle.theorem_effects.proofs.Allowed.{performs-allowed}
use Rattle.theorem_effects.specs.Change.{Change, Happens}
use Rattle.theorem_effects.specs.Events.{calling}
use Rattle.theorem_meaning.proofs.Ends.{opposite-twice}
use Rattle.theorem_meaning.specs.Fields.{At, HasFields, IsUnserved, value_of}
use Rattle.theorem_meaning.specs.Invariant.{Invariant}
use Rattle.theorem_meaning.specs.Packets.{Links, links_of}
use Rattle.theorem_meaning.specs.StandsFor.{entry_at, home_of}
use Rattle.theorem_take_silent.proofs.Places.{here-living}
use Rattle.trace_landing.specs.Calm.{AreAsOpen}
use Rattle.trace_events.proofs.Open.{open-so}
use Rattle.trace_matching.proofs.Matching.{departing-traced, told-any}
use Rattle.trace_meaning.specs.Traces.{AreTraced, IsTraceRight}

pub here-only : (y : Entry) (P : HereView → Type 0) → IsHereAnd y P → IsHere y
here-only (entry.Here v) P is = tt
here-only _ P is = absurd is

module _ (i : ℕ) (w : World) (s : State) (k : ℕ) (p : Pid) (mine : List EndId) (is : Invariant i w s) (below : p.0 < length s.homes) (at : home_of s p ≡ k) (running : ((w.kernel k).process p.0).phase ≡ kernel_phase.Running)
    (v : HereView) (bytes : List ℕ) (xs : List EndId) (here : (w.kernel k).table v.value.end ≡ entry.Here v) (owner_is : v.holder ≡ holder.Owner p) (few : i < 2 ^ 31) (fits : length xs ≤ (if nat_eq s.version 1 then 1 else 8))
    (granted : first_of (send_causes (sees p (w.kernel k).table) v.value.end xs) ≡ None) (wanted : 0 < v.value.want) (now : EndId → End) (as_open : AreAsOpen s.ends now) (traced : AreTraced (links_of w) s.ends) where
  abbrev l : Links
  l = links_of w

  abbrev e : EndId
  e = v.value.end

  abbrev n : ℕ
  n = gains_one v.value.sent

  abbrev table : EndId → Entry
  table = (w.kernel k).table

  abbrev matches_it : Effect
  matches_it = record (match_effect k table (sending_view v bytes xs) n bytes xs) { steps = step.Send e n bytes xs ∷ step.Match e n ∷ [] }

  effect : act_effect p k (w.kernel k).made mine table (call.Send e bytes xs) ≡ matches_it
  effect =
      ap (λ o. effect_on o (send_effect k table bytes xs)) (owned-is i w s k p mine is below at running v bytes xs here owner_is few fits granted)
      ∙ ap (λ b. if b then waits_effect v bytes xs else matches_it) (ne_eqb v.value.want 0 (λ none. omega (arith, none, wanted)))

  happened : Happens w (Calls k p (call.Send e bytes xs) mine) (calling w k p (call.Send e bytes xs) matches_it)
  happened = performs-allowed is k p (call.Send e bytes xs) mine matches_it granted tt effect

  is-free : IsFreeToSend p table e xs v
  is-free = free i w s k p mine is below at running v bytes xs here owner_is few fits granted

  opens : is_open (s.ends e) ≡ true
  opens =
      let lives = here-living (length s.made) l s.ends is.setting.few is.links.named is.links.marked is.stands.links.once e k v here in
      open-so (s.ends e) lives (sym ((is.links.counted e).dead (At k) v.value lives (ap value_of here)) ∙ is-free.alive)

  served : v.value.served ≤ v.value.want
  served = by ((is.links.wanted e).kept (At k) v.value opens (ap value_of here))
    where
      by : (v.value.want ≡ 0) ⊎ (v.value.served < v.value.want) → v.value.served ≤ v.value.want
      by (inl none) = absurd (omega (arith, none, wanted))
      by (inr more) = omega (arith, more)

  -- the receive is asked for from the mark, if its end left one
  site : (d : ℕ) (m : MovingPicture) → entry_at l d (opposite e) ≡ entry.Destroyed m → is_open (s.ends e) ≡ true → v.value.hint.0 ≡ d
  site d m mark open_is =
      ((subst (IsTraceRight l s.ends (opposite e) d) mark ((traced (opposite e)).entries d)).asked (At k) v.value v.value.want v.value.hint.0 v.value.hint.1
      (subst (λ z. is_open (s.ends z) ≡ true) (sym (opposite-twice e)) open_is) (subst (λ z. HasFields l z (At k) v.value) (sym (opposite-twice e)) (ap value_of here))
      (inl (refl, wanted, refl))).0

  pub matched-traced : AreTraced (links_of (happens w (Calls k p (call.Send v.value.end bytes xs) mine))) now
  matched-traced =
      departing-traced i w s is few k v (matched_view (sending_view v bytes xs) n) here n v.value.want v.value.hint.0 bytes xs
      (λ x has. here-only (table x) (λ y. IsIdle y × (y.holder ≡ holder.Owner p)) (is-free.free x (told-any x xs has))) is-free.apart [] (calling w k p (call.Send e bytes xs) matches_it)
      (links_of (happens w (Calls k p (call.Send e bytes xs) mine))) happened.becomes.links (record { like = refl; hint = inl refl; want = inr refl; served = served }) tt tt site now as_open traced
