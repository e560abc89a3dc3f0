-- The service goes with a Destroy that is not refused: the end is destroyed, and what its message carries that waits.
use Rattle.std.proofs.Common.{◌≡◌, ℕ, ◌<◌, Bool, true, false, ◌||◌, if◌then◌else◌, List, [], ◌∷◌, length, None, slice_index, refl, sym, ap, subst, ◌∙◌, append-nil, true≢false, eq-eqb}
use Rattle.theorem_call_begin.proofs.Answered.{granted-on, owned-of}
use Rattle.charlotte_calls.proofs.Causes.{first_of-none}
use Rattle.charlotte_calls.specs.Causes.{destroy_causes}
use Rattle.charlotte_calls.specs.declared.calls.Call.TheVariants as call
use Rattle.charlotte_calls.specs.declared.calls.ServiceStep.TheVariants as step
use Rattle.charlotte_calls.specs.declared.names.EndId.{EndId}
use Rattle.charlotte_calls.specs.declared.names.Pid.{Pid}
use Rattle.charlotte_calls.specs.declared.setting.Setting.{Setting}
use Rattle.end_table.proofs.EndEq.{end_eq-same}
use Rattle.end_table.specs.Owned.{owned}
use Rattle.end_table.specs.Place.{end_eq}
use Rattle.end_table.specs.declared.entry.Entry.{Entry}
use Rattle.end_table.specs.declared.entry.Entry.TheVariants as entry
use Rattle.end_table.specs.declared.entry.HereView.{HereView}
use Rattle.end_table.specs.declared.entry.Holder.TheVariants as holder
use Rattle.kernel_effects.specs.Actions.{ends_all}
use Rattle.kernel_effects.specs.Calls.{act_effect, effect_on, ended_list, ended_with}
use Rattle.kernel_effects.specs.Effect.{Effect}
use Rattle.kernel_step.specs.Calls.{refusal, sees}
use Rattle.kernel_step.specs.Kernel.{has_report, process_of}
use Rattle.kernel_step.specs.declared.phase.Phase.TheVariants as kernel_phase
use Rattle.kernel_world.specs.Run.{IsAllowed}
use Rattle.kernel_world.specs.World.{World, Calls}
use Rattle.service_step.specs.Ends.{destroys_each, is_owned_by, owner}
use Rattle.service_step.specs.State.{State, is_running}
use Rattle.service_step.specs.Steps.{IsServiceStep, is_running_owner}
use Rattle.service_step.specs.declared.state.Phase.TheVariants as phase
use Rattle.service_step.specs.declared.state.Place.{Place}
use Rattle.service_step.specs.declared.state.Place.TheVariants as place
use Rattle.theorem_meaning.proofs.Goes.{Goes}
use Rattle.theorem_meaning.specs.Invariant.{Invariant}
use Rattle.theorem_meaning.specs.StandsFor.{IsOwnedHere, IsProcessOf, home_of, service_phase}
use Rattle.theorem_call_end.proofs.Destroyed.{destroys-one}
use Rattle.theorem_call_end.proofs.Ends.{Destroys, ends-goes}

module _ (i : ℕ) (w : World) (s : State) (k : ℕ) (p : Pid) (mine : List EndId) (is : Invariant i w s) (below : p.0 < length s.homes) (at : home_of s p ≡ k) (running : ((w.kernel k).process p.0).phase ≡ kernel_phase.Running)
    (e : EndId) (v : HereView) (here : (w.kernel k).table e ≡ entry.Here v) (own : v.holder ≡ holder.Owner p) where
  abbrev t : EndId → Entry
  t = (w.kernel k).table

  -- what a Destroy does that destroys these
  abbrev destroying : List EndId → Effect
  destroying xs = record (ends_all k t xs) { steps = step.Destroy e ∷ [] }

  abbrev effect : Effect
  effect = destroying (ended_list t (e ∷ []))

  process-is : IsProcessOf ((w.kernel k).process p.0) (s.process p.0)
  process-is = subst (λ j. IsProcessOf ((w.kernel j).process p.0) (s.process p.0)) at (is.stands.processes p below)

  pub runs : (s.process p.0).phase ≡ phase.Running
  runs = process-is.phase ∙ ap service_phase running

  owned-here-is : IsOwnedHere p (t e)
  owned-here-is = subst (IsOwnedHere p) (sym here) own

  placed : (s.ends e).place ≡ place.Owned p
  placed = (is.stands.links.owned e p).1 (subst (λ j. IsOwnedHere p ((w.kernel j).table e)) (sym at) owned-here-is)

  -- the effect of the call is on this end alone
  effect-is : act_effect p k (w.kernel k).made mine t (call.Destroy e) ≡ effect
  effect-is = ap (λ o. effect_on o (λ x. destroying (ended_with e (entry.Here x)))) (owned-of p (t e) v here own) ∙ ap destroying (ap (ended_with e) (sym here) ∙ sym (append-nil (ended_with e (t e))))

  stepped : IsServiceStep s (step.Destroy e) (record s { ends = destroys_each p (e ∷ []) s.ends; process = s.process })
  stepped =
      record {
        allowed = ap (λ (o : Place). is_running_owner s (owner o)) placed ∙ ap is_running runs;
        after = ap (λ z. record s { ends = z }) (destroys-one p e s.ends (ap (is_owned_by p) placed ∙ eq-eqb p.0 p.0 refl));
      }

  -- it destroys that end, with what its waiting message encloses
  pub destroy-does : refusal p t (w.kernel k).made mine (has_report (process_of p (w.kernel k))) (call.Destroy e) ≡ None → Destroys w s k p (call.Destroy e) mine (e ∷ []) effect s.process (step.Destroy e)
  destroy-does granted =
      record {
        granted = granted;
        with_ends = tt;
        effect = effect-is;
        untold = λ rs. refl;
        unmade = refl;
        touches = λ q f. true;
        covers = λ q. refl;
        owns = λ f has. only f (end_eq f e) refl has;
        different = (refl, tt);
        all = record { taken = refl; entry = λ f y. refl; packets = refl };
        others = λ q apart. refl;
        its = record { phase = runs; unanswered = λ none. absurd none; reports = process-is.reports };
        cancelling = λ q f. (λ cancels. cancels, λ cancels. cancels);
        waiting = is.waiting;
        steps = refl;
        stepped = stepped;
      }
    where
      only : (f : EndId) (b : Bool) → end_eq f e ≡ b → (b || false) ≡ true → IsOwnedHere p (t f)
      only f true same has = subst (λ z. IsOwnedHere p (t z)) (sym (end_eq-same f e same)) owned-here-is
      only f false apart has = absurd (true≢false (sym has))

  pub destroyed-goes : refusal p t (w.kernel k).made mine (has_report (process_of p (w.kernel k))) (call.Destroy e) ≡ None → Goes i w s (Calls k p (call.Destroy e) mine)
  destroyed-goes granted = ends-goes i w s k p is below at runs (call.Destroy e) mine (e ∷ []) effect s.process (step.Destroy e) (destroy-does granted)

-- the service goes with a Destroy that its kernel does not refuse
pub destroy-goes : (g : Setting) (i : ℕ) (w : World) (s : State) (k : ℕ) (p : Pid) (on : EndId) (mine : List EndId) → Invariant i w s → s.homes ≡ g.homes → IsAllowed g w (Calls k p (call.Destroy on) mine)
    → refusal p (w.kernel k).table (w.kernel k).made mine (has_report (process_of p (w.kernel k))) (call.Destroy on) ≡ None → Goes i w s (Calls k p (call.Destroy on) mine)
destroy-goes g i w s k p on mine is homes allowed granted =
    let o = granted-on (is.setting.sound k) p on (first_of-none (destroy_causes (sees p (w.kernel k).table on)) granted).0 in
    destroyed-goes i w s k p mine is (subst (λ hs. p.0 < length hs) (sym homes) allowed.0) (ap (λ hs. slice_index hs p.0) homes ∙ allowed.1) allowed.2 on o.view o.there o.owner granted
