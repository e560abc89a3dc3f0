-- What of a world is kept, and what processes are told, in an event that makes no link.
use Rattle.std.proofs.Common.{◌≡◌, ◌≢◌, ◌⊎◌, inl, inr, ℕ, ◌<◌, Bool, true, false, nat_eq, if◌then◌else◌, length, slice_index, refl, sym, ap, subst, ◌∙◌, eqb-true, eq-eqb}
use Rattle.std.proofs.lemmas.Bool.Decides.{eqb_tells}
use Rattle.charlotte_calls.specs.declared.names.EndId.{EndId}
use Rattle.charlotte_calls.specs.declared.names.Pid.{Pid}
use Rattle.end_table.specs.declared.entry.Entry.{Entry}
use Rattle.kernel_sound.specs.Sound.{IsSound}
use Rattle.kernel_step.specs.Kernel.{Kernel}
use Rattle.theorem_meaning.specs.World.{World}
use Rattle.service_step.specs.State.{State, Process}
use Rattle.service_step.specs.declared.state.End.{End}
use Rattle.theorem_take_silent.specs.Change.{Becomes, Change}
use Rattle.theorem_meaning.specs.Invariant.{IsOfSetting}
use Rattle.theorem_meaning.specs.StandsFor.{IsProcessOf, home_of}
use Rattle.theorem_take_silent.proofs.Alike.{IsQuietly-same}
use Rattle.theorem_take_silent.proofs.World.{sound-still}
use Rattle.theorem_take_silent.specs.Quiet.{IsQuietly}

-- a table that is the same at each end is as sound
pub sound-same : (k made n : ℕ) (t y : EndId → Entry) → ((e : EndId) → y e ≡ t e) → IsSound k made n t → IsSound k made n y
sound-same k made n t y same is = sound-still k made n t y (λ e. subst (IsQuietly (t e)) (sym (same e)) (IsQuietly-same (t e))) is

module _ {w v : World} {c : Change} (becomes : Becomes w c v) (s : State) (t : EndId → End) (g : ℕ → Process) where
  -- what is kept of a kernel's state at the kernel of the event is kept at each
  kernel-same : {X : Type 0} (part : Kernel → X) → part (v.kernel c.kernel) ≡ part (w.kernel c.kernel) → (k : ℕ) → part (v.kernel k) ≡ part (w.kernel k)
  kernel-same part own k = by (eqb_tells k c.kernel)
    where
      by : ((nat_eq k c.kernel ≡ true) × (k ≡ c.kernel)) ⊎ ((nat_eq k c.kernel ≡ false) × (k ≢ c.kernel)) → part (v.kernel k) ≡ part (w.kernel k)
      by (inl at) = subst (λ j. part (v.kernel j) ≡ part (w.kernel j)) (sym at.1) own
      by (inr at) = ap part (becomes.others k at.0)

  pub setting-after : c.made ≡ (w.kernel c.kernel).made → IsSound c.kernel (w.kernel c.kernel).made (length s.homes) (v.kernel c.kernel).table → IsOfSetting w s → IsOfSetting v (record s { ends = t; process = g })
  setting-after unmade sound is =
      record {
        few = is.few;
        numbers = λ k. kernel-same (λ (s : Kernel). s.number) becomes.number k ∙ is.numbers k;
        kernels = λ k. kernel-same (λ (s : Kernel). s.kernels) becomes.kernels k ∙ is.kernels k;
        version = λ k. kernel-same (λ (s : Kernel). s.version) becomes.version k ∙ is.version k;
        made = λ k. is.made k ∙ sym (made k);
        homes = is.homes;
        sound = λ k. subst (λ m. IsSound k m (length s.homes) (v.kernel k).table) (sym (made k)) (by k (eqb_tells k c.kernel));
      }
    where
      made : (k : ℕ) → (v.kernel k).made ≡ (w.kernel k).made
      made = kernel-same (λ (s : Kernel). s.made) (becomes.made ∙ unmade)

      by : (k : ℕ) → ((nat_eq k c.kernel ≡ true) × (k ≡ c.kernel)) ⊎ ((nat_eq k c.kernel ≡ false) × (k ≢ c.kernel)) → IsSound k (w.kernel k).made (length s.homes) (v.kernel k).table
      by k (inl at) = subst (λ j. IsSound j (w.kernel j).made (length s.homes) (v.kernel j).table) (sym at.1) sound
      by k (inr at) = subst (λ (o : Kernel). IsSound k (w.kernel k).made (length s.homes) o.table) (sym (becomes.others k at.0)) (is.sound k)

  -- a process that the event does not change
  process-other : (p j : ℕ) → nat_eq c.pid.0 p ≡ false → (v.kernel j).process p ≡ (w.kernel j).process p
  process-other p j apart = kernel-same (λ (s : Kernel). s.process p) (becomes.process p ∙ ap (λ b. if b then c.process else (w.kernel c.kernel).process p) apart) j

  -- it may change one
  pub processes-told : home_of s c.pid ≡ c.kernel → IsProcessOf c.process (g c.pid.0) → ((p : ℕ) → nat_eq c.pid.0 p ≡ false → g p ≡ s.process p)
      → ((p : Pid) → p.0 < length s.homes → IsProcessOf ((w.kernel (home_of s p)).process p.0) (s.process p.0))
      → (p : Pid) → p.0 < length s.homes → IsProcessOf ((v.kernel (home_of s p)).process p.0) (g p.0)
  processes-told home own others are p below = by (nat_eq c.pid.0 p.0) refl
    where
      own-process : (v.kernel c.kernel).process c.pid.0 ≡ c.process
      own-process = becomes.process c.pid.0 ∙ ap (λ b. if b then c.process else (w.kernel c.kernel).process c.pid.0) (eq-eqb c.pid.0 c.pid.0 refl)

      by : (b : Bool) → nat_eq c.pid.0 p.0 ≡ b → IsProcessOf ((v.kernel (home_of s p)).process p.0) (g p.0)
      by true same =
          subst (λ n. IsProcessOf ((v.kernel (slice_index s.homes n)).process n) (g n)) (eqb-true c.pid.0 p.0 same)
          (subst (λ j. IsProcessOf ((v.kernel j).process c.pid.0) (g c.pid.0)) (sym home) (subst (λ o. IsProcessOf o (g c.pid.0)) (sym own-process) own))
      by false apart =
          subst (λ o. IsProcessOf o (g p.0)) (sym (process-other p.0 (home_of s p) apart)) (subst (IsProcessOf ((w.kernel (home_of s p)).process p.0)) (sym (others p.0 apart)) (are p below))

  -- or none
  pub processes-kept : c.process ≡ (w.kernel c.kernel).process c.pid.0 → (p k : ℕ) → (v.kernel k).process p ≡ (w.kernel k).process p
  processes-kept kept p = kernel-same (λ (s : Kernel). s.process p) (becomes.process p ∙ by (nat_eq c.pid.0 p) refl)
    where
      by : (b : Bool) → nat_eq c.pid.0 p ≡ b → (if b then c.process else (w.kernel c.kernel).process p) ≡ (w.kernel c.kernel).process p
      by true is = kept ∙ ap (w.kernel c.kernel).process (eqb-true c.pid.0 p is)
      by false is = refl
