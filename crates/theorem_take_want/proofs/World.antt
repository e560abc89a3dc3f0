-- A world after an event that tells no process anything, of a state of the service of which ends alone are other.
use Rattle.std.proofs.Common.{◌≡◌, ◌≢◌, ◌⊎◌, inl, inr, ℕ, ◌+◌, Bool, true, false, nat_eq, if◌then◌else◌, length, refl, sym, ap, subst, ◌∙◌, eqb-true}
use Rattle.std.proofs.lemmas.Bool.Decides.{eqb_tells}
use Rattle.charlotte_calls.specs.declared.names.EndId.{EndId}
use Rattle.end_table.proofs.EndEq.{end_eq-same, put-at, put-other}
use Rattle.end_table.specs.Place.{end_eq, put}
use Rattle.end_table.specs.declared.entry.Entry.{Entry}
use Rattle.end_table.specs.declared.entry.Entry.TheVariants as entry
use Rattle.end_table.specs.declared.entry.HereView.{HereView}
use Rattle.kernel_effects.specs.Effect.{puts, stays}
use Rattle.kernel_sound.proofs.Put.{IsViewAfter, put-sound-view}
use Rattle.kernel_sound.specs.Sound.{IsSound}
use Rattle.kernel_step.specs.Kernel.{Kernel}
use Rattle.kernel_world.specs.World.{World}
use Rattle.service_lawful.specs.Consistent.{IsConsistent}
use Rattle.service_step.specs.State.{State}
use Rattle.service_step.specs.declared.state.End.{End}
use Rattle.theorem_take_silent.specs.Change.{Becomes, Change}
use Rattle.theorem_meaning.specs.Invariant.{AreRight, Invariant, IsOfSetting}
use Rattle.theorem_meaning.specs.Packets.{links_of}
use Rattle.theorem_meaning.specs.StandsFor.{AreLinksOf, IsProcessOf, home_of}
use Rattle.theorem_take_silent.proofs.Alike.{IsQuietly-same}
use Rattle.theorem_take_silent.proofs.World.{IsUntold, sound-still}
use Rattle.theorem_take_silent.specs.Quiet.{IsQuietly}

-- a table in which the view of one end changes stays sound
pub sound-view : (k made n : ℕ) (t y : EndId → Entry) (v u : HereView) → t v.value.end ≡ entry.Here v → IsViewAfter v u → ((e : EndId) → y e ≡ puts v.value.end (entry.Here u) stays e (t e)) → IsSound k made n t → IsSound k made n y
sound-view k made n t y v u here after so is = sound-still k made n (put t v.value.end (entry.Here u)) y like (put-sound-view v.value.end v u is here after)
  where
    like : (e : EndId) → IsQuietly (put t v.value.end (entry.Here u) e) (y e)
    like e = by (end_eq v.value.end e) refl
      where
        by : (b : Bool) → end_eq v.value.end e ≡ b → IsQuietly (put t v.value.end (entry.Here u) e) (y e)
        by true same =
            let now : y e ≡ entry.Here u = so e ∙ ap (λ b. if b then entry.Here u else t e) same in
            let was : put t v.value.end (entry.Here u) e ≡ entry.Here u = subst (λ z. put t v.value.end (entry.Here u) z ≡ entry.Here u) (end_eq-same v.value.end e same) (put-at t v.value.end (entry.Here u)) in
            subst (IsQuietly (put t v.value.end (entry.Here u) e)) (was ∙ sym now) (IsQuietly-same (put t v.value.end (entry.Here u) e))
        by false apart =
            let now : y e ≡ t e = so e ∙ ap (λ b. if b then entry.Here u else t e) apart in
            let was : put t v.value.end (entry.Here u) e ≡ t e = put-other t v.value.end (entry.Here u) e apart in
            subst (IsQuietly (put t v.value.end (entry.Here u) e)) (was ∙ sym now) (IsQuietly-same (put t v.value.end (entry.Here u) e))

module _ {w v : World} {c : Change} (becomes : Becomes w c v) (s : State) (untold : IsUntold w c) where
  -- what is kept of a kernel's state at the kernel of the event is kept at each
  kernel-same : {X : Type 0} (part : Kernel → X) → part (v.kernel c.kernel) ≡ part (w.kernel c.kernel) → (k : ℕ) → part (v.kernel k) ≡ part (w.kernel k)
  kernel-same part own k = by (eqb_tells k c.kernel)
    where
      by : ((nat_eq k c.kernel ≡ true) × (k ≡ c.kernel)) ⊎ ((nat_eq k c.kernel ≡ false) × (k ≢ c.kernel)) → part (v.kernel k) ≡ part (w.kernel k)
      by (inl at) = subst (λ j. part (v.kernel j) ≡ part (w.kernel j)) (sym at.1) own
      by (inr at) = ap part (becomes.others k at.0)

  process-same : (p k : ℕ) → (v.kernel k).process p ≡ (w.kernel k).process p
  process-same p = kernel-same (λ (s : Kernel). s.process p) (becomes.process p ∙ by (nat_eq c.pid.0 p) refl)
    where
      by : (b : Bool) → nat_eq c.pid.0 p ≡ b → (if b then c.process else (w.kernel c.kernel).process p) ≡ (w.kernel c.kernel).process p
      by true is = untold.process ∙ ap (w.kernel c.kernel).process (eqb-true c.pid.0 p is)
      by false is = refl

  made-same : (k : ℕ) → (v.kernel k).made ≡ (w.kernel k).made
  made-same = kernel-same (λ (s : Kernel). s.made) (becomes.made ∙ untold.made)

  setting-anew : (t : EndId → End) → IsOfSetting w s → IsSound c.kernel (w.kernel c.kernel).made (length s.homes) (v.kernel c.kernel).table → IsOfSetting v (record s { ends = t })
  setting-anew t is sound =
      record {
        few = is.few;
        numbers = λ k. kernel-same (λ (s : Kernel). s.number) becomes.number k ∙ is.numbers k;
        kernels = λ k. kernel-same (λ (s : Kernel). s.kernels) becomes.kernels k ∙ is.kernels k;
        version = λ k. kernel-same (λ (s : Kernel). s.version) becomes.version k ∙ is.version k;
        made = λ k. is.made k ∙ sym (made-same k);
        homes = is.homes;
        sound = λ k. subst (λ m. IsSound k m (length s.homes) (v.kernel k).table) (sym (made-same k)) (by k (eqb_tells k c.kernel));
      }
    where
      by : (k : ℕ) → ((nat_eq k c.kernel ≡ true) × (k ≡ c.kernel)) ⊎ ((nat_eq k c.kernel ≡ false) × (k ≢ c.kernel)) → IsSound k (w.kernel k).made (length s.homes) (v.kernel k).table
      by k (inl at) = subst (λ j. IsSound j (w.kernel j).made (length s.homes) (v.kernel j).table) (sym at.1) sound
      by k (inr at) = subst (λ (z : Kernel). IsSound k (w.kernel k).made (length s.homes) z.table) (sym (becomes.others k at.0)) (is.sound k)

  -- all that is true of a world, by what is true of its links
  pub invariant-anew : (i : ℕ) (t : EndId → End) → Invariant i w s → IsSound c.kernel (w.kernel c.kernel).made (length s.homes) (v.kernel c.kernel).table → AreLinksOf (links_of v) (record s { ends = t })
      → IsConsistent (record s { ends = t }) → AreRight (i + 1) (links_of v) (record s { ends = t }) → Invariant (i + 1) v (record s { ends = t })
  invariant-anew i t is sound links service right =
      record {
        stands =
            record {
              processes = λ p below. subst (λ x. IsProcessOf x (s.process p.0)) (sym (process-same p.0 (home_of s p))) (is.stands.processes p below);
              links = links;
            };
        service = service;
        setting = setting-anew t is.setting sound;
        links = right;
        waiting = is.waiting;
      }
