-- The service goes with a Send that is not refused and meets no receive, by one step.
use Rattle.std.proofs.Common.{◌≡◌, ℕ, ◌+◌, ◌^◌, ◌<◌, ◌≤◌, false, nat_eq, if◌then◌else◌, IsTrue, List, [], ◌∷◌, length, Some, None, slice_index, refl, sym, ap, subst, ◌∙◌, eq-eqb}
use Rattle.charlotte_calls.proofs.Causes.{first_of-none}
use Rattle.charlotte_calls.specs.Causes.{first_of, send_causes}
use Rattle.charlotte_calls.specs.declared.calls.Answer.TheVariants as answer
use Rattle.charlotte_calls.specs.declared.calls.Call.TheVariants as call
use Rattle.charlotte_calls.specs.declared.calls.ServiceStep.TheVariants as step
use Rattle.charlotte_calls.specs.declared.names.EndId.{EndId}
use Rattle.charlotte_calls.specs.declared.names.Pid.{Pid}
use Rattle.charlotte_calls.specs.declared.setting.Setting.{Setting}
use Rattle.end_table.specs.Entries.{gains_one}
use Rattle.end_table.specs.Owned.{owned}
use Rattle.end_table.specs.Table.{IfHere}
use Rattle.end_table.specs.declared.entry.Entry.TheVariants as entry
use Rattle.end_table.specs.declared.entry.HereView.{HereView}
use Rattle.end_table.specs.declared.entry.Holder.TheVariants as holder
use Rattle.kernel_effects.specs.Actions.{held_entry, match_effect}
use Rattle.kernel_effects.specs.Calls.{act_effect, effect_on, send_effect, sending_view}
use Rattle.kernel_effects.specs.Effect.{Effect, nothing, puts, stays, turns}
use Rattle.kernel_step.specs.Calls.{refusal, sees}
use Rattle.kernel_step.specs.Kernel.{has_report, process_of}
use Rattle.kernel_step.specs.declared.phase.Phase.TheVariants as kernel_phase
use Rattle.kernel_world.specs.Run.{IsAllowed}
use Rattle.kernel_world.specs.World.{World, Calls, Event, happens}
use Rattle.service_consistent.proofs.Laws.{consistent_after}
use Rattle.service_step.specs.State.{State}
use Rattle.service_step.specs.Steps.{IsServiceStep, may_send}
use Rattle.theorem_call_wait.proofs.Allowed.{performs-allowed}
use Rattle.theorem_call_wait.specs.Change.{Happens}
use Rattle.theorem_call_wait.specs.Events.{calling}
use Rattle.theorem_meaning.proofs.Goes.{Goes}
use Rattle.theorem_meaning.specs.Fields.{At, value_of}
use Rattle.theorem_meaning.specs.Invariant.{Invariant}
use Rattle.theorem_meaning.specs.Packets.{Links, links_of}
use Rattle.theorem_meaning.specs.StandsFor.{home_of}
use Rattle.theorem_call_begin.proofs.Answered.{granted-on, owned-of, processes-after, setting-called}
use Rattle.theorem_call_begin.proofs.Receives.{runs-there}
use Rattle.theorem_call_send.specs.Begun.{IsBeginning, begun}
use Rattle.theorem_call_send.proofs.Begun.{begun-links, begun-right, its-end, placed}
use Rattle.theorem_call_send.proofs.Granted.{IsFreeToSend, free-to-send, gains, may-send}
use Rattle.theorem_call_send.proofs.SamePackets.{no-packets}

-- a Send whose message comes to wait
abbrev pub waits_effect : HereView → List ℕ → List EndId → Effect
waits_effect v bytes xs =
    record nothing {
      entry = puts v.value.end (entry.Here (sending_view v bytes xs)) (turns xs (held_entry (holder.EnclosedIn v.value.end)) stays);
      steps = step.Send v.value.end (gains_one v.value.sent) bytes xs ∷ [];
    }

module _ (i : ℕ) (w : World) (s : State) (k : ℕ) (p : Pid) (mine : List EndId) (is : Invariant i w s) (below : p.0 < length s.homes) (at : home_of s p ≡ k) (running : ((w.kernel k).process p.0).phase ≡ kernel_phase.Running)
    (v : HereView) (bytes : List ℕ) (xs : List EndId) (here : (w.kernel k).table v.value.end ≡ entry.Here v) (owner_is : v.holder ≡ holder.Owner p) (few : i < 2 ^ 31) (fits : length xs ≤ (if nat_eq s.version 1 then 1 else 8))
    (granted : first_of (send_causes (sees p (w.kernel k).table) v.value.end xs) ≡ None) where
  abbrev e : EndId
  e = v.value.end

  pub owned-is : owned p ((w.kernel k).table e) ≡ Some v
  owned-is = owned-of p ((w.kernel k).table e) v here owner_is

  pub free : IsFreeToSend p (w.kernel k).table e xs v
  free = free-to-send p (w.kernel k).table e xs v owned-is granted

  -- whatever links come of it, so far as the send begins
  pub begins : (u : Links) → ((f : EndId) → u.entry k f ≡ puts e (entry.Here (sending_view v bytes xs)) (turns xs (held_entry (holder.EnclosedIn e)) stays) f ((w.kernel k).table f))
      → ((j : ℕ) (f : EndId) → nat_eq j k ≡ false → u.entry j f ≡ (w.kernel j).table f) → ((from to : ℕ) → u.packets from to ≡ w.packets from to) → IsBeginning (links_of w) u s k p v bytes xs
  begins u entries others packets =
      record { here = here; owner = owner_is; idle = free.idle; at = at; free = free.free; apart = free.apart; entries = entries; others = others; packets = packets }

  -- the service makes its step
  pub send-step : IsServiceStep s (step.Send e (gains_one v.value.sent) bytes xs) (begun s v bytes xs)
  send-step = record { allowed = allowed; after = refl }
    where
      -- the links in which the send has begun
      middle : Links
      middle =
          record {
            entry = λ j f. if nat_eq j k then puts e (entry.Here (sending_view v bytes xs)) (turns xs (held_entry (holder.EnclosedIn e)) stays) f ((w.kernel j).table f) else (w.kernel j).table f;
            packets = w.packets;
          }

      beginning : IsBeginning (links_of w) middle s k p v bytes xs
      beginning =
          begins middle
          (λ f. ap (λ b. if b then puts e (entry.Here (sending_view v bytes xs)) (turns xs (held_entry (holder.EnclosedIn e)) stays) f ((w.kernel k).table f) else (w.kernel k).table f) (eq-eqb k k refl))
          (λ j f apart. ap (λ b. if b then puts e (entry.Here (sending_view v bytes xs)) (turns xs (held_entry (holder.EnclosedIn e)) stays) f ((w.kernel j).table f) else (w.kernel j).table f) apart)
          (λ from to. refl)

      allowed : IsTrue (may_send s e (gains_one v.value.sent) xs)
      allowed =
          may-send (links_of w) s p k at is.stands.links e bytes xs v (placed is.setting.few is.stands.links is.links beginning) (runs-there i w s k p mine is below at running) granted (gains_one v.value.sent)
          (gains i v.value.sent few (is.links.few e (At k) v.value (ap value_of here)).sent ∙ ap (λ n. n + 1) (sym (its-end is.setting.few is.stands.links is.links beginning).sent)) fits

  module _ (unasked : v.value.want ≡ 0) where
    abbrev event : Event
    event = Calls k p (call.Send v.value.end bytes xs) mine

    effect : act_effect p k (w.kernel k).made mine (w.kernel k).table (call.Send e bytes xs) ≡ waits_effect v bytes xs
    effect =
        ap (λ o. effect_on o (send_effect k (w.kernel k).table bytes xs)) owned-is
        ∙ ap (λ b. if b then waits_effect v bytes xs else record (match_effect k (w.kernel k).table (sending_view v bytes xs) (gains_one v.value.sent) bytes xs) { steps = step.Send e (gains_one v.value.sent) bytes xs ∷ step.Match e (gains_one v.value.sent) ∷ [] })
        (eq-eqb v.value.want 0 unasked)

    happened : Happens w event (calling w k p (call.Send e bytes xs) (waits_effect v bytes xs))
    happened = performs-allowed is k p (call.Send e bytes xs) mine (waits_effect v bytes xs) granted tt effect

    beginning : IsBeginning (links_of w) (links_of (happens w event)) s k p v bytes xs
    beginning = begins (links_of (happens w event)) happened.becomes.links.entry happened.becomes.links.others packets
      where
        packets : (from to : ℕ) → (happens w event).packets from to ≡ w.packets from to
        packets = no-packets happened.becomes.links refl refl

    invariant : Invariant (i + 1) (happens w event) (begun s v bytes xs)
    invariant =
        record {
          stands = record { processes = processes-after happened.becomes s answer.Ok refl running is.stands.processes; links = begun-links is.setting.few is.stands.links is.links beginning };
          service = consistent_after s (step.Send e (gains_one v.value.sent) bytes xs) (begun s v bytes xs) is.service send-step;
          setting = setting-called is k p mine (call.Send e bytes xs) effect happened.becomes refl refl below granted tt (λ q. refl) (begun s v bytes xs) refl refl refl;
          links = begun-right is.setting.few is.stands.links is.links beginning;
          waiting = is.waiting;
        }

    pub waits-goes : Goes i w s event
    waits-goes = record { part = (step.Send e (gains_one v.value.sent) bytes xs, begun s v bytes xs) ∷ []; steps = sym happened.steps; run = (send-step, tt); after = invariant; homes = refl }

-- the service goes with a Send that its kernel does not refuse, where no receive of the opposite is asked for
pub send-waits-goes : (g : Setting) (i : ℕ) (w : World) (s : State) (k : ℕ) (p : Pid) (on : EndId) (bytes : List ℕ) (xs : List EndId) (mine : List EndId) → Invariant i w s → s.homes ≡ g.homes → s.version ≡ g.version → i < 2 ^ 31
    → IsAllowed g w (Calls k p (call.Send on bytes xs) mine) → refusal p (w.kernel k).table (w.kernel k).made mine (has_report (process_of p (w.kernel k))) (call.Send on bytes xs) ≡ None
    → IfHere ((w.kernel k).table on) (λ v. v.value.want ≡ 0) → Goes i w s (Calls k p (call.Send on bytes xs) mine)
send-waits-goes g i w s k p on bytes xs mine is homes version few allowed granted unasked =
    let o = granted-on (is.setting.sound k) p on (first_of-none (send_causes (sees p (w.kernel k).table) on xs) granted).0 in
    subst (λ z. Goes i w s (Calls k p (call.Send z bytes xs) mine)) o.end
    (waits-goes i w s k p mine is (subst (λ hs. p.0 < length hs) (sym homes) allowed.0) (ap (λ hs. slice_index hs p.0) homes ∙ allowed.1) allowed.2 o.view bytes xs o.here o.owner few
    (subst (λ n. length xs ≤ (if nat_eq n 1 then 1 else 8)) (sym version) allowed.3.0)
    (subst (λ z. first_of (send_causes (sees p (w.kernel k).table) z xs) ≡ None) (sym o.end) granted)
    (subst (λ z. IfHere z (λ v. v.value.want ≡ 0)) o.there unasked))
