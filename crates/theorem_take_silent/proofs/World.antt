-- A quiet event keeps all that is true of a world, and the service goes with it by no step.
use Rattle.std.proofs.Common.{◌≡◌, ◌≢◌, ◌⊎◌, inl, inr, ℕ, ◌+◌, Bool, true, false, nat_eq, if◌then◌else◌, List, [], ◌∷◌, length, refl, sym, ap, subst, ◌∙◌, eqb-true, append-nil}
use Rattle.std.proofs.lemmas.Bool.Decides.{eqb_tells}
use Rattle.charlotte_calls.specs.declared.names.EndId.{EndId}
use Rattle.charlotte_packets.specs.declared.picture.MovingPicture.{MovingPicture}
use Rattle.end_table.specs.Table.{IfHere, IsIdle, IsOfEnd}
use Rattle.end_table.specs.declared.entry.Entry.{Entry}
use Rattle.end_table.specs.declared.entry.Entry.TheVariants as entry
use Rattle.end_table.specs.declared.entry.HereView.{HereView}
use Rattle.end_table.specs.declared.entry.Holder.{Holder}
use Rattle.end_table.specs.declared.entry.Holder.TheVariants as holder
use Rattle.kernel_sound.specs.Sound.{AreHeldBy, IsHeldWell, IsSound}
use Rattle.kernel_step.specs.Actions.{enclosed_of}
use Rattle.kernel_step.specs.Kernel.{Kernel}
use Rattle.theorem_effects.specs.World.{Event, World, happens}
use Rattle.service_step.specs.State.{State}
use Rattle.theorem_effects.specs.Change.{Becomes, Change, Happens}
use Rattle.theorem_effects.proofs.Goes.{Goes}
use Rattle.theorem_effects.specs.Invariant.{AreRight, Invariant, IsOfSetting}
use Rattle.theorem_effects.specs.Packets.{links_of}
use Rattle.theorem_effects.specs.StandsFor.{IsProcessOf, home_of}
use Rattle.theorem_take_silent.specs.Quiet.{IsQuiet, IsQuietly, IsViewAlike}
use Rattle.theorem_take_silent.proofs.Alike.{here-still, here-was}
use Rattle.theorem_take_silent.proofs.Clauses.{entry-quietly, links-still}

-- ---- a table stays sound

module _ (k made n : ℕ) (t y : EndId → Entry) (like : (e : EndId) → IsQuietly (t e) (y e)) (is : IsSound k made n t) where
  own-still : (e : EndId) (x z : Entry) → IsQuietly x z → IsOfEnd e x → IsOfEnd e z
  own-still e (entry.Here v) (entry.Here u) alike own = ap (λ (m : MovingPicture). m.end) alike.1 ∙ own
  own-still e (entry.Destroyed m) (entry.Destroyed l) alike own = ap (λ (m : MovingPicture). m.end) alike ∙ own
  own-still e _ entry.Nothing alike own = tt
  own-still e _ (entry.Left to hops) alike own = tt
  own-still e _ _ alike own = absurd alike

  held-well : (v u : HereView) → IsViewAlike v u → IsHeldWell n v v.holder → IsHeldWell n u u.holder
  held-well v u alike well = subst (λ (z : HereView). IsHeldWell n z z.holder) (sym alike.0) (by v.holder well)
    where
      by : (h : Holder) → IsHeldWell n v h → IsHeldWell n (record v { value = u.value }) h
      by (holder.Owner p) well = well
      by (holder.EnclosedIn on) idle = record { outward = idle.outward; inward = idle.inward }

  held-still : (x z : Entry) → IsQuietly x z → IfHere x (λ v. IsHeldWell n v v.holder) → IfHere z (λ v. IsHeldWell n v v.holder)
  held-still (entry.Here v) (entry.Here u) alike well = held-well v u alike well
  held-still _ entry.Nothing alike well = tt
  held-still _ (entry.Left to hops) alike well = tt
  held-still _ (entry.Destroyed l) alike well = tt
  held-still _ _ alike well = absurd alike

  each-held : (e : EndId) (xs : List EndId) → AreHeldBy e t xs → AreHeldBy e y xs
  each-held e [] are = tt
  each-held e (x ∷ xs) are = (
    here-still (t x) (y x) (λ u. IsIdle u × (u.holder ≡ holder.EnclosedIn e)) (λ u. IsIdle u × (u.holder ≡ holder.EnclosedIn e)) (like x)
        (λ v u alike has. subst (λ (z : HereView). IsIdle z × (z.holder ≡ holder.EnclosedIn e)) (sym alike.0) (record { outward = has.0.outward; inward = has.0.inward }, has.1)) are.0,
    are.1,
    each-held e xs are.2,
  )

  enclosed-still : (e : EndId) (x z : Entry) → IsQuietly x z → IfHere x (λ v. AreHeldBy e t (enclosed_of v.outward)) → IfHere z (λ v. AreHeldBy e y (enclosed_of v.outward))
  enclosed-still e (entry.Here v) (entry.Here u) alike are =
      subst (λ (z : HereView). AreHeldBy e y (enclosed_of z.outward)) (sym alike.0) (each-held e (enclosed_of v.outward) are)
  enclosed-still e _ entry.Nothing alike are = tt
  enclosed-still e _ (entry.Left to hops) alike are = tt
  enclosed-still e _ (entry.Destroyed l) alike are = tt
  enclosed-still e _ _ alike are = absurd alike

  pub sound-still : IsSound k made n y
  sound-still =
      record {
        own = λ e. own-still e (t e) (y e) (like e) (is.own e);
        held = λ e. held-still (t e) (y e) (like e) (is.held e);
        enclosed = λ e. enclosed-still e (t e) (y e) (like e) (is.enclosed e);
        unmade = λ e of count has. is.unmade e of count (here-was (t e) (y e) (λ _. Unit {0}) (λ _. Unit {0}) (like e) (λ v u alike a. tt) has);
      }

-- ---- a world

-- an event that changes no process and makes no link
pub record IsUntold (w : World) (c : Change) : Type 0 where
  pub process : c.process ≡ (w.kernel c.kernel).process c.pid.0
  pub made : c.made ≡ (w.kernel c.kernel).made

module _ {w v : World} {c : Change} (becomes : Becomes w c v) (s : State) (quiet : IsQuiet (length s.made) s.ends (links_of w) c) (untold : IsUntold w c) where
  -- what is kept of a kernel's state at the kernel of the event is kept at each
  kernel-same : {X : Type 0} (part : Kernel → X) → part (v.kernel c.kernel) ≡ part (w.kernel c.kernel) → (k : ℕ) → part (v.kernel k) ≡ part (w.kernel k)
  kernel-same part own k = by (eqb_tells k c.kernel)
    where
      by : ((nat_eq k c.kernel ≡ true) × (k ≡ c.kernel)) ⊎ ((nat_eq k c.kernel ≡ false) × (k ≢ c.kernel)) → part (v.kernel k) ≡ part (w.kernel k)
      by (inl at) = subst (λ j. part (v.kernel j) ≡ part (w.kernel j)) (sym at.1) own
      by (inr at) = ap part (becomes.others k at.0)

  process-same : (p k : ℕ) → (v.kernel k).process p ≡ (w.kernel k).process p
  process-same p = kernel-same (λ (s : Kernel). s.process p) (becomes.process p ∙ by (nat_eq c.pid.0 p) refl)
    where
      by : (b : Bool) → nat_eq c.pid.0 p ≡ b → (if b then c.process else (w.kernel c.kernel).process p) ≡ (w.kernel c.kernel).process p
      by true is = untold.process ∙ ap (w.kernel c.kernel).process (eqb-true c.pid.0 p is)
      by false is = refl

  setting-still : IsOfSetting w s → IsOfSetting v s
  setting-still is =
      record {
        few = is.few;
        numbers = λ k. kernel-same (λ (s : Kernel). s.number) becomes.number k ∙ is.numbers k;
        kernels = λ k. kernel-same (λ (s : Kernel). s.kernels) becomes.kernels k ∙ is.kernels k;
        version = λ k. kernel-same (λ (s : Kernel). s.version) becomes.version k ∙ is.version k;
        made = λ k. is.made k ∙ sym (made k);
        homes = is.homes;
        sound = λ k.
            subst (λ m. IsSound k m (length s.homes) (v.kernel k).table) (sym (made k))
            (sound-still k (w.kernel k).made (length s.homes) (w.kernel k).table (v.kernel k).table (entry-quietly becomes.links s quiet k) (is.sound k));
      }
    where
      made : (k : ℕ) → (v.kernel k).made ≡ (w.kernel k).made
      made = kernel-same (λ (s : Kernel). s.made) (becomes.made ∙ untold.made)

  -- all that is true of a world stays true, of the same state of the service
  pub invariant-still : (i : ℕ) → Invariant i w s → AreRight (i + 1) (links_of v) s → Invariant (i + 1) v s
  invariant-still i is right =
      record {
        stands =
            record {
              processes = λ p below. subst (λ x. IsProcessOf x (s.process p.0)) (sym (process-same p.0 (home_of s p))) (is.stands.processes p below);
              links = links-still becomes.links s quiet is.stands.links;
            };
        service = is.service;
        setting = setting-still is.setting;
        links = right;
        waiting = is.waiting;
      }

-- the service goes with it by no step
pub silent-goes : (i : ℕ) (w : World) (s : State) (e : Event) (c : Change) → Happens w e c → Invariant i w s → IsQuiet (length s.made) s.ends (links_of w) c → IsUntold w c
    → AreRight (i + 1) (links_of (happens w e)) s → c.steps ≡ [] → Goes i w s e
silent-goes i w s e c happened is quiet untold right none =
    record {
      part = [];
      steps = sym (happened.steps ∙ none);
      run = tt;
      after = invariant-still happened.becomes s quiet untold i is right;
      homes = refl;
    }
