-- The service goes with a Cancel of a send that is not refused, by one step.
use Rattle.std.proofs.Common.{◌≡◌, ℕ, ◌+◌, ◌<◌, Bool, true, false, not, ◌&&◌, ◌||◌, is_some, if◌then◌else◌, IsTrue, List, [], ◌∷◌, length, Some, None, slice_index, refl, sym, ap, subst, ◌∙◌, true≢false}
use Rattle.charlotte_calls.proofs.Causes.{AllFail, first_of-none}
use Rattle.charlotte_calls.specs.Causes.{cancel_causes, is_idle, is_late}
use Rattle.charlotte_calls.specs.declared.calls.Answer.TheVariants as answer
use Rattle.charlotte_calls.specs.declared.calls.Call.TheVariants as call
use Rattle.charlotte_calls.specs.declared.calls.ServiceStep.TheVariants as step
use Rattle.charlotte_calls.specs.declared.names.EndId.{EndId}
use Rattle.charlotte_calls.specs.declared.names.Pid.{Pid}
use Rattle.charlotte_calls.specs.declared.names.Way.TheVariants as way
use Rattle.charlotte_calls.specs.declared.setting.Setting.{Setting}
use Rattle.end_table.proofs.EndEq.{end_eq-same}
use Rattle.end_table.specs.Owned.{owned}
use Rattle.end_table.specs.Place.{end_eq}
use Rattle.end_table.specs.Table.{IfHere, IsHereAnd, IsIdle}
use Rattle.end_table.specs.declared.entry.Entry.{Entry}
use Rattle.end_table.specs.declared.entry.Entry.TheVariants as entry
use Rattle.end_table.specs.declared.entry.HereView.{HereView}
use Rattle.end_table.specs.declared.entry.Holder.TheVariants as holder
use Rattle.end_table.specs.declared.entry.Outward.{Outward}
use Rattle.end_table.specs.declared.entry.Outward.TheVariants as kernel_outward
use Rattle.kernel_effects.specs.Actions.{held_entry}
use Rattle.kernel_effects.specs.Calls.{act_effect, effect_on, withdraw_send_effect}
use Rattle.kernel_effects.specs.Effect.{puts, stays, turns}
use Rattle.kernel_sound.specs.Sound.{AreHeldBy}
use Rattle.kernel_step.specs.Actions.{enclosed_of}
use Rattle.kernel_step.specs.Calls.{outward_activity, refusal, seen_of, sees}
use Rattle.kernel_step.specs.Kernel.{has_report, process_of}
use Rattle.kernel_step.specs.declared.phase.Phase.TheVariants as kernel_phase
use Rattle.kernel_world.specs.Run.{IsAllowed}
use Rattle.kernel_world.specs.World.{World, Calls, Event, happens}
use Rattle.service_consistent.proofs.Laws.{consistent_after}
use Rattle.service_step.specs.Ends.{owner, waiting_message}
use Rattle.service_step.specs.State.{State, is_running}
use Rattle.service_step.specs.Steps.{IsServiceStep, after_cancel, is_running_owner, may_cancel}
use Rattle.service_step.specs.declared.state.Place.{Place}
use Rattle.service_step.specs.declared.state.Place.TheVariants as place
use Rattle.theorem_call_send.proofs.Allowed.{performs-allowed}
use Rattle.theorem_call_send.specs.Change.{Happens}
use Rattle.theorem_call_send.specs.Events.{calling}
use Rattle.theorem_meaning.proofs.Goes.{Goes}
use Rattle.theorem_meaning.specs.Invariant.{Invariant}
use Rattle.theorem_meaning.specs.Packets.{links_of}
use Rattle.theorem_meaning.specs.StandsFor.{home_of}
use Rattle.theorem_call_send.proofs.Answered.{granted-on, owned-of, processes-after, setting-called}
use Rattle.theorem_call_send.proofs.Receives.{runs-there}
use Rattle.theorem_call_send.specs.Regrouped.{is_among}
use Rattle.theorem_call_send.proofs.SamePackets.{no-packets}
use Rattle.theorem_call_cancel.specs.TakenBack.{IsTakingBack, taken_back}
use Rattle.theorem_call_cancel.proofs.TakenBack.{its-end, placed, taken-links, taken-right, was-waiting}

-- ends that are held one by one
held-among : (e : EndId) (t : EndId → Entry) (xs : List EndId) → AreHeldBy e t xs → (f : EndId) → is_among xs f ≡ true → IsHereAnd (t f) (λ y. IsIdle y × (y.holder ≡ holder.EnclosedIn e))
held-among e t [] held f is = absurd (true≢false (sym is))
held-among e t (x ∷ xs) held f is = by (end_eq f x) refl is (held-among e t xs held.2 f)
  where
    by : (b : Bool) → end_eq f x ≡ b → (b || is_among xs f) ≡ true → (is_among xs f ≡ true → IsHereAnd (t f) (λ y. IsIdle y × (y.holder ≡ holder.EnclosedIn e))) → IsHereAnd (t f) (λ y. IsIdle y × (y.holder ≡ holder.EnclosedIn e))
    by true same is rest = subst (λ z. IsHereAnd (t z) (λ y. IsIdle y × (y.holder ≡ holder.EnclosedIn e))) (sym (end_eq-same f x same)) held.0
    by false apart is rest = rest is

-- a send that can be taken back waits
pub record IsWaiting (o : Outward) : Type 0 where
  pub number : ℕ
  pub bytes : List ℕ
  pub enclosed : List EndId
  pub is : o ≡ kernel_outward.Waiting number bytes enclosed

waits : (o : Outward) → is_late (outward_activity o) ≡ false → is_idle (outward_activity o) ≡ false → IsWaiting o
waits kernel_outward.Idle soon some = absurd (true≢false some)
waits (kernel_outward.Waiting n bytes xs) soon some = record { number = n; bytes = bytes; enclosed = xs; is = refl }
waits (kernel_outward.Matched n) soon some = absurd (true≢false soon)
waits kernel_outward.Unreported soon some = absurd (true≢false soon)

module _ (i : ℕ) (w : World) (s : State) (k : ℕ) (p : Pid) (mine : List EndId) (is : Invariant i w s) (below : p.0 < length s.homes) (at : home_of s p ≡ k) (running : ((w.kernel k).process p.0).phase ≡ kernel_phase.Running)
    (v : HereView) (here : (w.kernel k).table v.value.end ≡ entry.Here v) (owner_is : v.holder ≡ holder.Owner p) (send : IsWaiting v.outward) (alive : v.value.dead ≡ false)
    (granted : refusal p (w.kernel k).table (w.kernel k).made mine (has_report (process_of p (w.kernel k))) (call.Cancel v.value.end way.Outward) ≡ None) where
  abbrev e : EndId
  e = v.value.end

  abbrev xs : List EndId
  xs = send.enclosed

  abbrev event : Event
  event = Calls k p (call.Cancel v.value.end way.Outward) mine

  owned-is : owned p ((w.kernel k).table e) ≡ Some v
  owned-is = owned-of p ((w.kernel k).table e) v here owner_is

  effect : act_effect p k (w.kernel k).made mine (w.kernel k).table (call.Cancel e way.Outward) ≡ withdraw_send_effect v
  effect = ap (λ o. effect_on o withdraw_send_effect) owned-is

  happened : Happens w event (calling w k p (call.Cancel e way.Outward) (withdraw_send_effect v))
  happened = performs-allowed is k p (call.Cancel e way.Outward) mine (withdraw_send_effect v) granted tt effect

  taking : IsTakingBack (links_of w) (links_of (happens w event)) s k p v send.number send.bytes xs
  taking =
      record {
        here = here;
        owner = owner_is;
        waits = send.is;
        at = at;
        held =
            held-among e (w.kernel k).table xs
            (subst (λ o. AreHeldBy e (w.kernel k).table (enclosed_of o)) send.is (subst (λ z. IfHere z (λ v. AreHeldBy e (w.kernel k).table (enclosed_of v.outward))) here ((is.setting.sound k).enclosed e)));
        entries =
            λ f. happened.becomes.links.entry f
            ∙ ap (λ o. puts e (entry.Here (record v { outward = kernel_outward.Idle })) (turns (enclosed_of o) (held_entry v.holder) stays) f ((w.kernel k).table f)) send.is;
        others = happened.becomes.links.others;
        packets = no-packets happened.becomes.links refl refl;
      }

  place-is : (s.ends e).place ≡ place.Owned p
  place-is = placed is.setting.few is.stands.links is.links is.service.kept taking

  -- the service allows the step
  may : IsTrue (may_cancel s e way.Outward)
  may =
      ap (λ (o : Place). is_running_owner s (owner o) && is_some (waiting_message (s.ends e).outward) && not (s.ends e).noticed) place-is
      ∙ (λ j. is_running (runs-there i w s k p mine is below at running j)
      && is_some (waiting_message (was-waiting is.setting.few is.stands.links is.links is.service.kept taking j))
      && not (((its-end is.setting.few is.stands.links is.links is.service.kept taking).noticed ∙ alive) j))

  stepped : IsServiceStep s (step.Cancel e way.Outward) (taken_back s p e)
  stepped = record { allowed = may; after = sym (ap (λ (o : Place). after_cancel (owner o) e way.Outward s) place-is) }

  invariant : Invariant (i + 1) (happens w event) (taken_back s p e)
  invariant =
      record {
        stands = record { processes = processes-after happened.becomes s answer.Ok refl running is.stands.processes; links = taken-links is.setting.few is.stands.links is.links is.service.kept taking };
        service = consistent_after s (step.Cancel e way.Outward) (taken_back s p e) is.service stepped;
        setting = setting-called is k p mine (call.Cancel e way.Outward) effect happened.becomes refl refl below granted tt (λ q. refl) (taken_back s p e) refl refl refl;
        links = taken-right is.setting.few is.stands.links is.links is.service.kept taking;
        waiting = is.waiting;
      }

  pub taken_back-goes : Goes i w s event
  taken_back-goes = record { part = (step.Cancel e way.Outward, taken_back s p e) ∷ []; steps = sym happened.steps; run = (stepped, tt); after = invariant; homes = refl }

-- the service goes with a Cancel of a send that its kernel does not refuse
pub cancel-send-goes : (g : Setting) (i : ℕ) (w : World) (s : State) (k : ℕ) (p : Pid) (on : EndId) (mine : List EndId) → Invariant i w s → s.homes ≡ g.homes → IsAllowed g w (Calls k p (call.Cancel on way.Outward) mine)
    → refusal p (w.kernel k).table (w.kernel k).made mine (has_report (process_of p (w.kernel k))) (call.Cancel on way.Outward) ≡ None → Goes i w s (Calls k p (call.Cancel on way.Outward) mine)
cancel-send-goes g i w s k p on mine is homes allowed granted =
    let none : AllFail (cancel_causes way.Outward (sees p (w.kernel k).table on)) = first_of-none (cancel_causes way.Outward (sees p (w.kernel k).table on)) granted in
    let o = granted-on (is.setting.sound k) p on none.0 in
    let fail : AllFail (cancel_causes way.Outward (seen_of o.view)) = subst (λ x. AllFail (cancel_causes way.Outward x)) o.as_seen none in
    subst (λ z. Goes i w s (Calls k p (call.Cancel z way.Outward) mine)) o.end
    (taken_back-goes i w s k p mine is (subst (λ hs. p.0 < length hs) (sym homes) allowed.0) (ap (λ hs. slice_index hs p.0) homes ∙ allowed.1) allowed.2 o.view o.here o.owner (waits o.view.outward fail.1.1.0 fail.1.1.1.0) fail.1.0
    (subst (λ z. refusal p (w.kernel k).table (w.kernel k).made mine (has_report (process_of p (w.kernel k))) (call.Cancel z way.Outward) ≡ None) (sym o.end) granted))
