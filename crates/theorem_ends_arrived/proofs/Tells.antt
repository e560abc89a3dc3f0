-- What the service makes of a process that it tells.
use Rattle.std.proofs.Common.{◌≡◌, ℕ, Bool, true, false, nat_eq, if◌then◌else◌, List, ◌++◌, Some, refl, ap, ◌∙◌}
use Rattle.charlotte_calls.specs.declared.calls.Report.{Report}
use Rattle.charlotte_calls.specs.declared.names.EndId.{EndId}
use Rattle.charlotte_calls.specs.declared.names.Pid.{Pid}
use Rattle.service_change.proofs.Facts.{put_process-at, put_process-other}
use Rattle.service_step.specs.State.{Process, gains, is_cancelling, put_process, tells, turns, wakes}
use Rattle.service_step.specs.declared.state.Phase.TheVariants as phase

module _ (p : Pid) (e : EndId) (rs : List Report) (f : ℕ → Process) where
  pub tells-own : tells (Some p) e rs f p.0 ≡ record { phase = if is_cancelling e (f p.0).phase then phase.Running else (f p.0).phase; reports = (f p.0).reports ++ rs }
  unfolding gains wakes turns
  tells-own = by (put_process-at p (record (f p.0) { reports = (f p.0).reports ++ rs }) f)
    where
      g : ℕ → Process
      g = put_process p (record (f p.0) { reports = (f p.0).reports ++ rs }) f

      woken : (b : Bool) → (if b then put_process p (record (g p.0) { phase = phase.Running }) g else g) p.0 ≡ record (g p.0) { phase = if b then phase.Running else (g p.0).phase }
      woken true = put_process-at p (record (g p.0) { phase = phase.Running }) g
      woken false = refl

      by : g p.0 ≡ record (f p.0) { reports = (f p.0).reports ++ rs }
          → (if is_cancelling e (g p.0).phase then put_process p (record (g p.0) { phase = phase.Running }) g else g) p.0 ≡ record { phase = if is_cancelling e (f p.0).phase then phase.Running else (f p.0).phase; reports = (f p.0).reports ++ rs }
      by own = woken (is_cancelling e (g p.0).phase) ∙ ap (λ (z : Process). record z { phase = if is_cancelling e z.phase then phase.Running else z.phase }) own

  pub tells-other : (q : ℕ) → nat_eq p.0 q ≡ false → tells (Some p) e rs f q ≡ f q
  unfolding gains wakes turns
  tells-other q apart = woken (is_cancelling e (g p.0).phase) ∙ put_process-other p (record (f p.0) { reports = (f p.0).reports ++ rs }) f (record { 0 = q }) apart
    where
      g : ℕ → Process
      g = put_process p (record (f p.0) { reports = (f p.0).reports ++ rs }) f

      woken : (b : Bool) → (if b then put_process p (record (g p.0) { phase = phase.Running }) g else g) q ≡ g q
      woken true = put_process-other p (record (g p.0) { phase = phase.Running }) g (record { 0 = q }) apart
      woken false = refl

  -- it only gains them
  pub gains-own : gains p rs f p.0 ≡ record (f p.0) { reports = (f p.0).reports ++ rs }
  unfolding gains
  gains-own = put_process-at p (record (f p.0) { reports = (f p.0).reports ++ rs }) f

  pub gains-other : (q : ℕ) → nat_eq p.0 q ≡ false → gains p rs f q ≡ f q
  unfolding gains
  gains-other q apart = put_process-other p (record (f p.0) { reports = (f p.0).reports ++ rs }) f (record { 0 = q }) apart
