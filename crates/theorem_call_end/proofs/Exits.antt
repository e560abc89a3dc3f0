-- The service goes with an Exit: each end of the process is destroyed, its reports are dropped, and it ends.
use Rattle.std.proofs.Common.{◌≡◌, ◌≢◌, ◌⊎◌, ◌↔◌, inl, inr, ℕ, ◌<◌, Bool, true, false, nat_eq, if◌then◌else◌, IsTrue, IsSome, List, [], ◌∷◌, Contains, length, None, Some, slice_index, refl, sym, ap, subst, ◌∙◌, true≢false, eq-eqb}
use Rattle.charlotte_calls.specs.declared.calls.Answer.TheVariants as answer
use Rattle.charlotte_calls.specs.declared.calls.Call.TheVariants as call
use Rattle.charlotte_calls.specs.declared.calls.ServiceStep.TheVariants as step
use Rattle.charlotte_calls.specs.declared.names.EndId.{EndId}
use Rattle.charlotte_calls.specs.declared.names.Pid.{Pid}
use Rattle.charlotte_calls.specs.declared.setting.Setting.{Setting}
use Rattle.end_table.specs.Owned.{AreEndsOf, is_owner, owned}
use Rattle.end_table.specs.declared.entry.Entry.{Entry}
use Rattle.end_table.specs.declared.entry.Entry.TheVariants as entry
use Rattle.end_table.specs.declared.entry.Holder.TheVariants as holder
use Rattle.kernel_effects.specs.Actions.{ends_all}
use Rattle.kernel_effects.specs.Calls.{ended_list}
use Rattle.kernel_effects.specs.Effect.{Effect}
use Rattle.kernel_outcomes.proofs.Sound.{AreDifferent-ordered}
use Rattle.kernel_sound.proofs.Needs.{owner-is_owner}
use Rattle.kernel_step.specs.Calls.{refusal}
use Rattle.kernel_step.specs.Kernel.{has_report, process_of}
use Rattle.kernel_step.specs.declared.phase.Phase.TheVariants as kernel_phase
use Rattle.kernel_world.specs.Run.{IsAllowed}
use Rattle.kernel_world.specs.World.{World, Calls}
use Rattle.service_change.proofs.Counts.{pid_tells}
use Rattle.service_change.proofs.EndEq.{among-Contains}
use Rattle.service_change.proofs.Facts.{owned_by-Owned, put_process-at, put_process-other}
use Rattle.service_step.specs.Ends.{destroys_each, is_owned_by}
use Rattle.service_step.specs.State.{State, Process, ends_process, is_running, no_process}
use Rattle.service_step.specs.Steps.{IsServiceStep}
use Rattle.service_step.specs.declared.state.Phase.{Phase}
use Rattle.service_step.specs.declared.state.Phase.TheVariants as phase
use Rattle.theorem_meaning.proofs.Goes.{Goes}
use Rattle.theorem_meaning.specs.Invariant.{Invariant}
use Rattle.theorem_meaning.specs.StandsFor.{IsOwnedHere, IsProcessOf, home_of, service_phase}
use Rattle.theorem_ends_destroyed.proofs.Facts.{among-same}
use Rattle.theorem_call_end.proofs.Ends.{Destroys, ends-goes}

-- an end that p owns is here with p as its owner
owned-some : (p : Pid) (y : Entry) → IsSome (owned p y) → IsOwnedHere p y
owned-some p entry.Nothing some = absurd (true≢false (sym some))
owned-some p (entry.Left to hops) some = absurd (true≢false (sym some))
owned-some p (entry.Destroyed m) some = absurd (true≢false (sym some))
owned-some p (entry.Here v) some = by (is_owner p v.holder) refl some
  where
    by : (b : Bool) → is_owner p v.holder ≡ b → IsSome (if b then Some v else None) → v.holder ≡ holder.Owner p
    by true own some = owner-is_owner p v.holder own
    by false other some = absurd (true≢false (sym some))

some-owned : (p : Pid) (y : Entry) → IsOwnedHere p y → IsSome (owned p y)
some-owned p (entry.Here v) own =
    subst (λ h. IsSome (if is_owner p h then Some v else None)) (sym own) (subst (λ b. IsSome (if b then Some v else None)) (sym (eq-eqb p.0 p.0 refl)) refl)
some-owned p _ own = absurd own

module _ (i : ℕ) (w : World) (s : State) (k : ℕ) (p : Pid) (mine : List EndId) (is : Invariant i w s) (below : p.0 < length s.homes) (at : home_of s p ≡ k) (running : ((w.kernel k).process p.0).phase ≡ kernel_phase.Running)
    (ends : AreEndsOf p (w.kernel k).table mine) where
  abbrev t : EndId → Entry
  t = (w.kernel k).table

  abbrev effect : Effect
  effect = record (ends_all k t (ended_list t mine)) { steps = step.Exit p ∷ [] }

  abbrev g : ℕ → Process
  g = ends_process p s.process

  abbrev after : State
  after = record s { ends = destroys_each p mine s.ends; process = g }

  pub runs : (s.process p.0).phase ≡ phase.Running
  runs = (subst (λ j. IsProcessOf ((w.kernel j).process p.0) (s.process p.0)) at (is.stands.processes p below)).phase ∙ ap service_phase running

  -- ---- processes

  its-process : g p.0 ≡ no_process
  unfolding ends_process
  its-process = put_process-at p no_process s.process

  other-process : (q : Pid) → nat_eq p.0 q.0 ≡ false → g q.0 ≡ s.process q.0
  unfolding ends_process
  other-process q apart = put_process-other p no_process s.process q apart

  cancels : (q : Pid) (e : EndId) → ((g q.0).phase ≡ phase.Cancelling e) ↔ ((s.process q.0).phase ≡ phase.Cancelling e)
  cancels q e = by (pid_tells p q)
    where
      differ : (x y : Phase) → x ≡ y → (y ≡ phase.Cancelling e → ⊥) → x ≡ phase.Cancelling e → ⊥
      differ x y same none is = none (sym same ∙ is)

      by : ((nat_eq p.0 q.0 ≡ true) × (p ≡ q)) ⊎ ((nat_eq p.0 q.0 ≡ false) × (p.0 ≢ q.0)) → ((g q.0).phase ≡ phase.Cancelling e) ↔ ((s.process q.0).phase ≡ phase.Cancelling e)
      by (inl same) =
          subst (λ z. ((g z.0).phase ≡ phase.Cancelling e) ↔ ((s.process z.0).phase ≡ phase.Cancelling e)) same.1 (
            λ cancelling. absurd (differ (g p.0).phase phase.Ended (ap (λ (y : Process). y.phase) its-process) (λ both. cc) cancelling),
            λ cancelling. absurd (differ (s.process p.0).phase phase.Running runs (λ both. cc) cancelling),
          )
      by (inr apart) =
          let same = ap (λ (y : Process). y.phase) (other-process q apart.0) in
          (λ cancelling. sym same ∙ cancelling, λ cancelling. same ∙ cancelling)

  waits : (q : Pid) → (g q.0).phase ≡ phase.Waiting → (g q.0).reports ≡ []
  waits q = by (pid_tells p q)
    where
      by : ((nat_eq p.0 q.0 ≡ true) × (p ≡ q)) ⊎ ((nat_eq p.0 q.0 ≡ false) × (p.0 ≢ q.0)) → (g q.0).phase ≡ phase.Waiting → (g q.0).reports ≡ []
      by (inl same) waiting = subst (λ z. (g z.0).reports ≡ []) same.1 (ap (λ (y : Process). y.reports) its-process)
      by (inr apart) waiting =
          ap (λ (y : Process). y.reports) (other-process q apart.0) ∙ is.waiting q (sym (ap (λ (y : Process). y.phase) (other-process q apart.0)) ∙ waiting)

  -- ---- the step

  all-mine : (e : EndId) → IsTrue (is_owned_by p (s.ends e).place) → Contains mine e
  all-mine e own =
      (ends.all e).1 (some-owned p (t e) (subst (λ j. IsOwnedHere p ((w.kernel j).table e)) at ((is.stands.links.owned e p).0 (owned_by-Owned p (s.ends e).place own))))

  stepped : IsServiceStep s (step.Exit p) after
  stepped = record { allowed = ap is_running runs; after = record { mine = mine; all = all-mine; after = refl } }

  -- it destroys the ends of the process, each with what its waiting message encloses
  pub exit-does : refusal p t (w.kernel k).made mine (has_report (process_of p (w.kernel k))) call.Exit ≡ None → Destroys w s k p call.Exit mine mine effect g (step.Exit p)
  exit-does granted =
      record {
        granted = granted;
        with_ends = ends;
        effect = refl;
        untold = λ rs. refl;
        unmade = refl;
        touches = λ q e. nat_eq p.0 q.0;
        covers = λ q e. refl;
        owns = λ e has. owned-some p (t e) ((ends.all e).0 (among-Contains e mine (among-same e mine ∙ has)));
        different = AreDifferent-ordered mine ends.order;
        all = record { taken = refl; entry = λ e y. refl; packets = refl };
        others = λ q apart. other-process (record { 0 = q }) apart;
        its = subst (IsProcessOf (record { phase = kernel_phase.Exited; reports = []; answer = Some answer.Ok })) (sym its-process) (record { phase = refl; unanswered = λ none. absurd none; reports = refl });
        cancelling = cancels;
        waiting = waits;
        steps = refl;
        stepped = stepped;
      }

  pub exits : refusal p t (w.kernel k).made mine (has_report (process_of p (w.kernel k))) call.Exit ≡ None → Goes i w s (Calls k p call.Exit mine)
  exits granted = ends-goes i w s k p is below at runs call.Exit mine mine effect g (step.Exit p) (exit-does granted)

-- the service goes with an Exit that its kernel does not refuse; mine are the ends that p owns, in order
pub exit-goes : (g : Setting) (i : ℕ) (w : World) (s : State) (k : ℕ) (p : Pid) (mine : List EndId) → Invariant i w s → s.homes ≡ g.homes → IsAllowed g w (Calls k p call.Exit mine)
    → refusal p (w.kernel k).table (w.kernel k).made mine (has_report (process_of p (w.kernel k))) call.Exit ≡ None → Goes i w s (Calls k p call.Exit mine)
exit-goes g i w s k p mine is homes allowed granted =
    exits i w s k p mine is (subst (λ hs. p.0 < length hs) (sym homes) allowed.0) (ap (λ hs. slice_index hs p.0) homes ∙ allowed.1) allowed.2 allowed.4 granted
