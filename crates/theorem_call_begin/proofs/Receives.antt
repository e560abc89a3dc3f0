-- The service goes with a Receive that is not refused, by one step.
use Rattle.std.proofs.Common.{◌≡◌, ℕ, ◌+◌, ◌<◌, true, false, not, is_none, ◌&&◌, IsTrue, if◌then◌else◌, List, [], ◌∷◌, length, Some, None, slice_index, refl, sym, ap, subst, ◌∙◌, true≢false, eq-eqb}
use Rattle.std.proofs.lemmas.List.Elements.{All-get_or}
use Rattle.charlotte_calls.proofs.Causes.{AllFail, first_of-none}
use Rattle.charlotte_calls.specs.Causes.{first_of, is_idle, receive_causes}
use Rattle.charlotte_calls.specs.declared.calls.Answer.TheVariants as answer
use Rattle.charlotte_calls.specs.declared.calls.Call.TheVariants as call
use Rattle.charlotte_calls.specs.declared.calls.Cause.TheVariants as cause
use Rattle.charlotte_calls.specs.declared.calls.ServiceStep.TheVariants as step
use Rattle.charlotte_calls.specs.declared.names.EndId.{EndId}
use Rattle.charlotte_calls.specs.declared.names.Pid.{Pid}
use Rattle.charlotte_calls.specs.declared.setting.Setting.{Setting}
use Rattle.end_table.specs.Owned.{owned}
use Rattle.end_table.specs.declared.entry.Entry.TheVariants as entry
use Rattle.end_table.specs.declared.entry.HereView.{HereView}
use Rattle.end_table.specs.declared.entry.Holder.TheVariants as holder
use Rattle.end_table.specs.declared.entry.Inward.{Inward}
use Rattle.end_table.specs.declared.entry.Inward.TheVariants as kernel_inward
use Rattle.theorem_take_silent.specs.Calls.{act_effect, effect_on, post_effect}
use Rattle.kernel_step.specs.Calls.{inward_activity, refusal, seen_of, sees}
use Rattle.kernel_step.specs.Kernel.{has_report, process_of}
use Rattle.kernel_step.specs.declared.phase.Phase.TheVariants as kernel_phase
use Rattle.theorem_meaning.specs.Run.{IsAllowed}
use Rattle.theorem_meaning.specs.World.{World, Calls, Event, happens}
use Rattle.service_consistent.proofs.Laws.{consistent_after}
use Rattle.service_step.specs.Ends.{is_idle_inward, is_made, is_owned_by, owner}
use Rattle.service_step.specs.State.{State, is_running}
use Rattle.service_step.specs.Steps.{IsServiceStep, may_receive, may_receive_as}
use Rattle.service_step.specs.declared.state.Phase.TheVariants as phase
use Rattle.service_step.specs.declared.state.Place.{Place}
use Rattle.theorem_take_silent.proofs.Allowed.{performs-allowed}
use Rattle.theorem_take_silent.proofs.NamedAfter.{performs-names}
use Rattle.theorem_take_silent.specs.Change.{Change, Happens}
use Rattle.theorem_take_silent.specs.Events.{calling}
use Rattle.theorem_meaning.proofs.Goes.{Goes}
use Rattle.theorem_meaning.specs.Invariant.{Invariant}
use Rattle.theorem_meaning.specs.Packets.{links_of}
use Rattle.theorem_meaning.specs.StandsFor.{IsProcessOf, home_of, service_phase}
use Rattle.theorem_call_begin.proofs.Answered.{granted-on, owned-of, processes-after, setting-called}
use Rattle.theorem_call_begin.proofs.PostedClauses.{posted-right}
use Rattle.theorem_call_begin.proofs.PostedLinks.{posted-links}
use Rattle.theorem_call_begin.proofs.Posting.{Posting, placed, posted, was-idle, was-open}

module _ (i : ℕ) (w : World) (s : State) (k : ℕ) (p : Pid) (mine : List EndId) (is : Invariant i w s) (below : p.0 < length s.homes) (at : home_of s p ≡ k) (running : ((w.kernel k).process p.0).phase ≡ kernel_phase.Running) where
  -- kernels of processes are among those that there are
  pub home-near : k < length s.made
  home-near = subst (λ h. h < length s.made) at (All-get_or (λ h. h < length s.made) s.homes p.0 0 below is.setting.homes)

  -- the process runs in the service
  pub runs-there : (s.process p.0).phase ≡ phase.Running
  runs-there = (subst (λ j. IsProcessOf ((w.kernel j).process p.0) (s.process p.0)) at (is.stands.processes p below)).phase ∙ ap service_phase running

  module _ (v : HereView) (here : (w.kernel k).table v.value.end ≡ entry.Here v) (owner_is : v.holder ≡ holder.Owner p) (idle : v.inward ≡ kernel_inward.Idle) (alive : v.value.dead ≡ false)
      (granted : refusal p (w.kernel k).table (w.kernel k).made mine (has_report (process_of p (w.kernel k))) (call.Receive v.value.end) ≡ None) where
    abbrev e : EndId
    e = v.value.end

    abbrev event : Event
    event = Calls k p (call.Receive v.value.end) mine

    abbrev change : Change
    change = calling w k p (call.Receive v.value.end) (post_effect k v)

    owned-is : owned p ((w.kernel k).table e) ≡ Some v
    owned-is = owned-of p ((w.kernel k).table e) v here owner_is

    effect : act_effect p k (w.kernel k).made mine (w.kernel k).table (call.Receive e) ≡ post_effect k v
    effect = ap (λ o. effect_on o (post_effect k)) owned-is

    happened : Happens w event change
    happened = performs-allowed is k p (call.Receive e) mine (post_effect k v) granted tt effect

    abbrev posting : Posting i w s k p (links_of (happens w event))
    posting =
        record {
          is = is;
          view = v;
          here = here;
          owner = owner_is;
          idle = idle;
          alive = alive;
          below = below;
          at = at;
          changes = happened.becomes.links;
        }

    -- the service allows the step
    may : IsTrue (may_receive s e)
    may = ap (λ (o : Place). may_receive_as s (owner o) e) (placed posting) ∙ tests
      where
        own : is_owned_by p (s.ends e).place ≡ true
        own = ap (is_owned_by p) (placed posting) ∙ eq-eqb p.0 p.0 refl

        tests : (is_running (s.process p.0).phase && is_none (first_of ((not (is_owned_by p (s.ends e).place), cause.NoEnd) ∷ (not (is_idle_inward (s.ends e).inward), cause.Busy) ∷ ((s.ends e).noticed, cause.Dead) ∷ []))) ≡ true
        tests =
            λ j. is_running (runs-there j)
            && is_none (first_of ((not (own j), cause.NoEnd) ∷ (not (is_idle_inward (was-idle posting j)), cause.Busy) ∷ (was-open posting j, cause.Dead) ∷ []))

    stepped : IsServiceStep s (step.Receive e) (posted s e)
    stepped = record { allowed = may; after = refl }

    posted-invariant : Invariant (i + 1) (happens w event) (posted s e)
    posted-invariant =
        record {
          stands = record { processes = processes-after happened.becomes s answer.Ok refl running is.stands.processes; links = posted-links posting };
          service = consistent_after s (step.Receive e) (posted s e) is.service stepped;
          setting = setting-called is k p mine (call.Receive e) effect happened.becomes refl refl below granted tt (λ q. refl) (posted s e) refl refl refl;
          links = posted-right posting home-near (performs-names is k p (call.Receive e) mine home-near (post_effect k v) effect) (ap (λ (y : Place). is_made y) (placed posting));
          waiting = is.waiting;
        }

    pub posted-goes : Goes i w s event
    posted-goes = record { part = (step.Receive e, posted s e) ∷ []; steps = sym happened.steps; run = (stepped, tt); after = posted-invariant; homes = refl }

-- an activity inward that is free
free-idle : (x : Inward) → not (is_idle (inward_activity x)) ≡ false → x ≡ kernel_inward.Idle
free-idle kernel_inward.Idle is = refl
free-idle (kernel_inward.Posted n) is = absurd (true≢false is)
free-idle (kernel_inward.Withdrawing n) is = absurd (true≢false is)
free-idle kernel_inward.Unreported is = absurd (true≢false is)

-- the service goes with a Receive that its kernel does not refuse
pub receive-goes : (g : Setting) (i : ℕ) (w : World) (s : State) (k : ℕ) (p : Pid) (on : EndId) (mine : List EndId) → Invariant i w s → s.homes ≡ g.homes → IsAllowed g w (Calls k p (call.Receive on) mine)
    → refusal p (w.kernel k).table (w.kernel k).made mine (has_report (process_of p (w.kernel k))) (call.Receive on) ≡ None → Goes i w s (Calls k p (call.Receive on) mine)
receive-goes g i w s k p on mine is homes allowed granted =
    let fail : AllFail (receive_causes (sees p (w.kernel k).table on)) = first_of-none (receive_causes (sees p (w.kernel k).table on)) granted in
    let o = granted-on (is.setting.sound k) p on fail.0 in
    let free : AllFail (receive_causes (seen_of o.view)) = subst (λ x. AllFail (receive_causes x)) o.as_seen fail in
    subst (λ z. Goes i w s (Calls k p (call.Receive z) mine)) o.end
    (posted-goes i w s k p mine is (subst (λ hs. p.0 < length hs) (sym homes) allowed.0) (ap (λ hs. slice_index hs p.0) homes ∙ allowed.1) allowed.2 o.view o.here o.owner (free-idle o.view.inward free.1.0) free.1.1.0
    (subst (λ z. refusal p (w.kernel k).table (w.kernel k).made mine (has_report (process_of p (w.kernel k))) (call.Receive z) ≡ None) (sym o.end) granted))
