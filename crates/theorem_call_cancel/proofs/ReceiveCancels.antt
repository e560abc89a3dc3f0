-- The service goes with a Cancel of a receive that is not refused, by one step.
use Rattle.std.proofs.Common.{◌≡◌, ◌≢◌, ◌⊎◌, inl, inr, ℕ, ◌+◌, ◌<◌, false, not, ◌&&◌, ◌||◌, if◌then◌else◌, IsTrue, List, [], ◌∷◌, length, Some, None, slice_index, refl, sym, ap, subst, ◌∙◌, true≢false}
use Rattle.charlotte_calls.proofs.Causes.{AllFail, first_of-none}
use Rattle.charlotte_calls.specs.Causes.{cancel_causes, is_idle, is_late}
use Rattle.charlotte_calls.specs.declared.calls.Call.TheVariants as call
use Rattle.charlotte_calls.specs.declared.calls.ServiceStep.TheVariants as step
use Rattle.charlotte_calls.specs.declared.names.EndId.{EndId}
use Rattle.charlotte_calls.specs.declared.names.Pid.{Pid}
use Rattle.charlotte_calls.specs.declared.names.Way.TheVariants as way
use Rattle.charlotte_calls.specs.declared.setting.Setting.{Setting}
use Rattle.end_table.specs.Owned.{owned}
use Rattle.end_table.specs.declared.entry.Entry.TheVariants as entry
use Rattle.end_table.specs.declared.entry.HereView.{HereView}
use Rattle.end_table.specs.declared.entry.Holder.TheVariants as holder
use Rattle.end_table.specs.declared.entry.Inward.{Inward}
use Rattle.end_table.specs.declared.entry.Inward.TheVariants as kernel_inward
use Rattle.kernel_effects.specs.Calls.{act_effect, effect_on, withdraw_posted_effect, withdraw_receive_effect}
use Rattle.kernel_outcomes.specs.Closing.{cancelling, cancelling_on}
use Rattle.kernel_step.specs.Calls.{inward_activity, refusal, seen_of, sees}
use Rattle.kernel_step.specs.Kernel.{has_report, process_of}
use Rattle.kernel_step.specs.declared.phase.Phase.TheVariants as kernel_phase
use Rattle.kernel_world.specs.Run.{IsAllowed}
use Rattle.kernel_world.specs.World.{World, Calls, Event, happens}
use Rattle.service_consistent.proofs.Laws.{consistent_after}
use Rattle.service_lawful.proofs.Turned.{turned, turned-other, turned-own, turned-phase, turned-reports}
use Rattle.service_step.specs.Ends.{is_made, is_matched_inward, is_posted, owner}
use Rattle.service_step.specs.State.{State, Process, is_running}
use Rattle.service_step.specs.Steps.{IsServiceStep, after_cancel, is_running_owner, may_cancel}
use Rattle.service_step.specs.declared.state.Phase.TheVariants as phase
use Rattle.service_step.specs.declared.state.Place.{Place}
use Rattle.theorem_call_send.proofs.Allowed.{performs-allowed}
use Rattle.theorem_call_send.proofs.NamedAfter.{performs-names}
use Rattle.theorem_call_send.specs.Change.{Happens}
use Rattle.theorem_call_send.specs.Events.{calling, caller}
use Rattle.theorem_meaning.proofs.Goes.{Goes}
use Rattle.theorem_meaning.specs.Invariant.{Invariant}
use Rattle.theorem_meaning.specs.Packets.{links_of}
use Rattle.theorem_meaning.specs.StandsFor.{IsProcessOf, home_of}
use Rattle.theorem_take_answer.proofs.World.{processes-told}
use Rattle.theorem_call_send.proofs.Answered.{IsGranted, granted-on, owned-of, setting-called}
use Rattle.theorem_call_send.proofs.Receives.{home-near, runs-there}
use Rattle.theorem_call_cancel.proofs.Withdrawing.{IsWithdrawing, is-started, placed, unaware}
use Rattle.theorem_call_cancel.proofs.WithdrawnClauses.{withdrawn-right}
use Rattle.theorem_call_cancel.proofs.WithdrawnLinks.{withdrawn-links}

module _ (i : ℕ) (w : World) (s : State) (k : ℕ) (p : Pid) (mine : List EndId) (is : Invariant i w s) (below : p.0 < length s.homes) (at : home_of s p ≡ k) (running : ((w.kernel k).process p.0).phase ≡ kernel_phase.Running)
    (v : HereView) (r : ℕ) (here : (w.kernel k).table v.value.end ≡ entry.Here v) (owner_is : v.holder ≡ holder.Owner p) (posts : v.inward ≡ kernel_inward.Posted r) (alive : v.value.dead ≡ false)
    (granted : refusal p (w.kernel k).table (w.kernel k).made mine (has_report (process_of p (w.kernel k))) (call.Cancel v.value.end way.Inward) ≡ None) where
  abbrev e : EndId
  e = v.value.end

  abbrev event : Event
  event = Calls k p (call.Cancel v.value.end way.Inward) mine

  abbrev next : State
  next = turned s p (phase.Cancelling e)

  owned-is : owned p ((w.kernel k).table e) ≡ Some v
  owned-is = owned-of p ((w.kernel k).table e) v here owner_is

  effect : act_effect p k (w.kernel k).made mine (w.kernel k).table (call.Cancel e way.Inward) ≡ withdraw_receive_effect k r v
  effect = ap (λ o. effect_on o (λ v. withdraw_posted_effect k v v.inward)) owned-is ∙ ap (withdraw_posted_effect k v) posts

  happened : Happens w event (calling w k p (call.Cancel e way.Inward) (withdraw_receive_effect k r v))
  happened = performs-allowed is k p (call.Cancel e way.Inward) mine (withdraw_receive_effect k r v) granted tt effect

  runs : (s.process p.0).phase ≡ phase.Running
  runs = runs-there i w s k p mine is below at running

  abbrev withdrawing : IsWithdrawing i w s k p (links_of (happens w event))
  withdrawing =
      record {
        is = is;
        view = v;
        number = r;
        here = here;
        owner = owner_is;
        posts = posts;
        alive = alive;
        at = at;
        running = runs;
        changes = happened.becomes.links;
      }

  -- the service allows the step
  may : IsTrue (may_cancel s e way.Inward)
  may =
      ap (λ (o : Place). is_running_owner s (owner o) && (is_posted (s.ends e).inward || is_matched_inward (s.ends e).inward) && not (s.ends e).noticed) (placed withdrawing)
      ∙ (λ j. is_running (runs j) && is-started withdrawing j && not (unaware withdrawing j))

  stepped : IsServiceStep s (step.Cancel e way.Inward) next
  stepped = record { allowed = may; after = sym (ap (λ (o : Place). after_cancel (owner o) e way.Inward s) (placed withdrawing)) }

  -- ---- the world

  -- the process is in the Cancel, and no answer of it stands
  calls_so : cancelling_on (caller p (w.kernel k)) (owned p ((w.kernel k).table e)) ≡ record (caller p (w.kernel k)) { phase = kernel_phase.Cancelling e }
  calls_so = ap (cancelling_on (caller p (w.kernel k))) owned-is ∙ ap (cancelling (caller p (w.kernel k)) v) posts

  process-own : IsProcessOf (cancelling_on (caller p (w.kernel k)) (owned p ((w.kernel k).table e))) (next.process p.0)
  process-own =
      subst (λ z. IsProcessOf z (next.process p.0)) (sym calls_so)
      (record {
        phase = ap (λ (z : Process). z.phase) (turned-own s p (phase.Cancelling e) p.0 refl);
        unanswered = λ suspended. refl;
        reports = turned-reports s p (phase.Cancelling e) p.0 ∙ (subst (λ j. IsProcessOf ((w.kernel j).process p.0) (s.process p.0)) at (is.stands.processes p below)).reports;
      })

  waits : (q : Pid) → (next.process q.0).phase ≡ phase.Waiting → (next.process q.0).reports ≡ []
  waits q waiting = turned-reports s p (phase.Cancelling e) q.0 ∙ by (turned-phase s p (phase.Cancelling e) q.0)
    where
      by : ((p.0 ≡ q.0) × ((next.process q.0).phase ≡ phase.Cancelling e)) ⊎ ((p.0 ≢ q.0) × ((next.process q.0).phase ≡ (s.process q.0).phase)) → (s.process q.0).reports ≡ []
      by (inl own) = let no : phase.Cancelling e ≡ phase.Waiting = sym own.1 ∙ waiting in absurd cc
      by (inr other) = is.waiting q (sym other.1 ∙ waiting)

  invariant : Invariant (i + 1) (happens w event) next
  invariant =
      record {
        stands =
            record {
              processes = processes-told happened.becomes s s.ends next.process at process-own (turned-other s p (phase.Cancelling e)) is.stands.processes;
              links = withdrawn-links withdrawing;
            };
        service = consistent_after s (step.Cancel e way.Inward) next is.service stepped;
        setting = setting-called is k p mine (call.Cancel e way.Inward) effect happened.becomes refl refl below granted tt (λ q. refl) next refl refl refl;
        links =
            withdrawn-right withdrawing (home-near i w s k p mine is below at running)
            (performs-names is k p (call.Cancel e way.Inward) mine (home-near i w s k p mine is below at running) (withdraw_receive_effect k r v) effect) (ap is_made (placed withdrawing));
        waiting = waits;
      }

  pub withdrawn-goes : Goes i w s event
  withdrawn-goes = record { part = (step.Cancel e way.Inward, next) ∷ []; steps = sym happened.steps; run = (stepped, tt); after = invariant; homes = refl }

-- a receive that can be taken back is posted, or is taken back already
begun : (x : Inward) → is_late (inward_activity x) ≡ false → is_idle (inward_activity x) ≡ false → ((r : ℕ) × (x ≡ kernel_inward.Posted r)) ⊎ ((r : ℕ) × (x ≡ kernel_inward.Withdrawing r))
begun kernel_inward.Idle soon some = absurd (true≢false some)
begun (kernel_inward.Posted r) soon some = inl (r, refl)
begun (kernel_inward.Withdrawing r) soon some = inr (r, refl)
begun kernel_inward.Unreported soon some = absurd (true≢false soon)

-- the service goes with a Cancel of a receive that its kernel does not refuse
pub cancel-receive-goes : (g : Setting) (i : ℕ) (w : World) (s : State) (k : ℕ) (p : Pid) (on : EndId) (mine : List EndId) → Invariant i w s → s.homes ≡ g.homes → IsAllowed g w (Calls k p (call.Cancel on way.Inward) mine)
    → refusal p (w.kernel k).table (w.kernel k).made mine (has_report (process_of p (w.kernel k))) (call.Cancel on way.Inward) ≡ None → Goes i w s (Calls k p (call.Cancel on way.Inward) mine)
cancel-receive-goes g i w s k p on mine is homes allowed granted = which (begun o.view.inward fail.1.1.0 fail.1.1.1.0)
  where
    below : p.0 < length s.homes
    below = subst (λ hs. p.0 < length hs) (sym homes) allowed.0

    at : home_of s p ≡ k
    at = ap (λ hs. slice_index hs p.0) homes ∙ allowed.1

    none : AllFail (cancel_causes way.Inward (sees p (w.kernel k).table on))
    none = first_of-none (cancel_causes way.Inward (sees p (w.kernel k).table on)) granted

    o : IsGranted p (w.kernel k).table on
    o = granted-on (is.setting.sound k) p on none.0

    fail : AllFail (cancel_causes way.Inward (seen_of o.view))
    fail = subst (λ x. AllFail (cancel_causes way.Inward x)) o.as_seen none

    which : ((r : ℕ) × (o.view.inward ≡ kernel_inward.Posted r)) ⊎ ((r : ℕ) × (o.view.inward ≡ kernel_inward.Withdrawing r)) → Goes i w s (Calls k p (call.Cancel on way.Inward) mine)
    which (inl posted) =
        subst (λ z. Goes i w s (Calls k p (call.Cancel z way.Inward) mine)) o.end
        (withdrawn-goes i w s k p mine is below at allowed.2 o.view posted.0 o.here o.owner posted.1 fail.1.0
        (subst (λ z. refusal p (w.kernel k).table (w.kernel k).made mine (has_report (process_of p (w.kernel k))) (call.Cancel z way.Inward) ≡ None) (sym o.end) granted))
    -- its process would be in that Cancel, and not run
    which (inr withdrawn) =
        let no : phase.Running ≡ phase.Cancelling on = sym (runs-there i w s k p mine is below at allowed.2) ∙ (is.links.asked on).cancelled k o.view withdrawn.0 p o.there withdrawn.1 o.owner in
        absurd cc
