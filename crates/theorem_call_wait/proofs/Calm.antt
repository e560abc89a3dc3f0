-- Events that change no link: what is true of the world stays true.
use Rattle.std.proofs.Common.{◌≡◌, ◌≢◌, ◌⊎◌, inl, inr, ℕ, ◌+◌, ◌<◌, true, false, nat_eq, cond, List, [], length, Some, refl, sym, ap, subst, ◌∙◌, arith}
use Rattle.std.proofs.lemmas.Bool.Decides.{eqb_tells}
use Rattle.charlotte_calls.specs.declared.calls.Answer.{Answer}
use Rattle.charlotte_calls.specs.declared.calls.Call.{Call}
use Rattle.charlotte_calls.specs.declared.names.EndId.{EndId}
use Rattle.charlotte_calls.specs.declared.names.Pid.{Pid}
use Rattle.charlotte_packets.specs.declared.picture.MovingPicture.{MovingPicture}
use Rattle.charlotte_packets.specs.declared.picture.Picture.{Picture}
use Rattle.kernel_sound.specs.Sound.{IsSound}
use Rattle.kernel_step.specs.Kernel.{Kernel, Outcome}
use Rattle.kernel_step.specs.declared.phase.Phase.TheVariants as kernel_phase
use Rattle.theorem_effects.specs.World.{World, Event, Calls, happens, outcome, adds_all}
use Rattle.service_step.specs.State.{State}
use Rattle.theorem_meaning.proofs.Plain.{right-few}
use Rattle.theorem_meaning.specs.Invariant.{IsOfSetting, IsFew, AreRight, Invariant}
use Rattle.theorem_meaning.specs.Packets.{Links, links_of}
use Rattle.theorem_meaning.specs.StandsFor.{AreLinksOf, IsProcessOf, home_of, service_phase}

-- after one event more, numbers are few for one more
pub AreRight-later : (i : ℕ) (w : Links) (s : State) → AreRight i w s → AreRight (i + 1) w s
AreRight-later i w s r = right-few r (i + 1) (λ e at m has. later m (r.few e at m has))
  where
    later : (m : MovingPicture) → IsFew i m → IsFew (i + 1) m
    later m f = record { hops = omega (arith, f.hops); sent = omega (arith, f.sent); asked = omega (arith, f.asked) }

-- a kernel that has the links of another
pub record IsCalm (old new : Kernel) : Type 0 where
  pub number : new.number ≡ old.number
  pub kernels : new.kernels ≡ old.kernels
  pub version : new.version ≡ old.version
  pub table : new.table ≡ old.table
  pub made : new.made ≡ old.made

-- a world that has the links of another
pub record IsCalmWorld (old new : World) : Type 0 where
  pub kernels : (k : ℕ) → IsCalm (old.kernel k) (new.kernel k)
  pub packets : new.packets ≡ old.packets

pub calm-links : (old new : World) → IsCalmWorld old new → links_of new ≡ links_of old
calm-links old new calm = λ i. record { entry = λ k. (calm.kernels k).table i; packets = calm.packets i }

pub calm-setting : (old new : World) (s : State) → IsCalmWorld old new → IsOfSetting old s → IsOfSetting new s
calm-setting old new s calm is =
    record {
      few = is.few;
      numbers = λ k. (calm.kernels k).number ∙ is.numbers k;
      kernels = λ k. (calm.kernels k).kernels ∙ is.kernels k;
      version = λ k. (calm.kernels k).version ∙ is.version k;
      made = λ k. is.made k ∙ sym (calm.kernels k).made;
      homes = is.homes;
      sound = λ k. subst (λ m. IsSound k m (length s.homes) (new.kernel k).table) (sym (calm.kernels k).made) (subst (IsSound k (old.kernel k).made (length s.homes)) (sym (calm.kernels k).table) (is.sound k));
    }

-- what is true of the one is true of the other, where processes are as the service has them
pub calm-invariant : (i : ℕ) (old new : World) (s : State) → IsCalmWorld old new → ((p : Pid) → p.0 < length s.homes → IsProcessOf ((new.kernel (home_of s p)).process p.0) (s.process p.0))
    → Invariant i old s → Invariant (i + 1) new s
calm-invariant i old new s calm processes is =
    record {
      stands = record { processes = processes; links = subst (λ l. AreLinksOf l s) (sym (calm-links old new calm)) is.stands.links };
      service = is.service;
      setting = calm-setting old new s calm is.setting;
      links = subst (λ l. AreRight (i + 1) l s) (sym (calm-links old new calm)) (AreRight-later i (links_of old) s is.links);
      waiting = is.waiting;
    }

-- a call that changes no link: its process has an answer afterwards
pub record IsAnswered (k : Kernel) (p : Pid) (o : Outcome) : Type 0 where
  pub calm : IsCalm k o.kernel
  pub packets : o.packets ≡ []
  pub answer : Answer
  pub process : (q : ℕ) → o.kernel.process q ≡ cond (nat_eq p.0 q) (record { phase = kernel_phase.Running; reports = (k.process p.0).reports; answer = Some answer }) (k.process q)

IsCalm-same : (k : Kernel) → IsCalm k k
IsCalm-same k = record { number = refl; kernels = refl; version = refl; table = refl; made = refl }

-- a call of a kernel that leaves its links leaves those of the world
pub calm-world : (w : World) (k : ℕ) (p : Pid) (c : Call) (mine : List EndId) → IsCalm (w.kernel k) (outcome w (Calls k p c mine)).kernel → (outcome w (Calls k p c mine)).packets ≡ [] → IsCalmWorld w (happens w (Calls k p c mine))
calm-world w k p c mine calm none = record { kernels = λ q. by q (eqb_tells q k); packets = ap (λ (ps : List (ℕ × Picture)). adds_all k ps w.packets) none }
  where
    by : (q : ℕ) → ((nat_eq q k ≡ true) × (q ≡ k)) ⊎ ((nat_eq q k ≡ false) × (q ≢ k)) → IsCalm (w.kernel q) (cond (nat_eq q k) (outcome w (Calls k p c mine)).kernel (w.kernel q))
    by q (inl h) = subst (λ b. IsCalm (w.kernel q) (cond b (outcome w (Calls k p c mine)).kernel (w.kernel q))) (sym h.0) (subst (λ j. IsCalm (w.kernel j) (outcome w (Calls k p c mine)).kernel) (sym h.1) calm)
    by q (inr h) = subst (λ b. IsCalm (w.kernel q) (cond b (outcome w (Calls k p c mine)).kernel (w.kernel q))) (sym h.0) (IsCalm-same (w.kernel q))

module _ (i : ℕ) (w : World) (s : State) (k : ℕ) (p : Pid) (c : Call) (mine : List EndId) (is : Invariant i w s) (answered : IsAnswered (w.kernel k) p (outcome w (Calls k p c mine)))
    (running : ((w.kernel k).process p.0).phase ≡ kernel_phase.Running) where
  abbrev e : Event
  e = Calls k p c mine

  answered-calm : IsCalmWorld w (happens w e)
  answered-calm = calm-world w k p c mine answered.calm answered.packets

  -- what the kernel had of another process
  same-process : (q : Pid) → q.0 < length s.homes → IsProcessOf ((w.kernel (home_of s q)).process q.0) (s.process q.0)
  same-process = is.stands.processes

  answered-process : (q : Pid) → q.0 < length s.homes → IsProcessOf (((happens w e).kernel (home_of s q)).process q.0) (s.process q.0)
  answered-process q below = by (eqb_tells (home_of s q) k)
    where
      at : (j : ℕ) → j ≡ k → IsProcessOf ((w.kernel j).process q.0) (s.process q.0) → IsProcessOf ((outcome w e).kernel.process q.0) (s.process q.0)
      at j here old = subst (λ x. IsProcessOf x (s.process q.0)) (sym (answered.process q.0)) (own (eqb_tells p.0 q.0))
        where
          was : IsProcessOf ((w.kernel k).process q.0) (s.process q.0)
          was = subst (λ z. IsProcessOf ((w.kernel z).process q.0) (s.process q.0)) here old

          own : ((nat_eq p.0 q.0 ≡ true) × (p.0 ≡ q.0)) ⊎ ((nat_eq p.0 q.0 ≡ false) × (p.0 ≢ q.0))
              → IsProcessOf (cond (nat_eq p.0 q.0) (record { phase = kernel_phase.Running; reports = ((w.kernel k).process p.0).reports; answer = Some answered.answer }) ((w.kernel k).process q.0)) (s.process q.0)
          own (inl h) =
              subst (λ b. IsProcessOf (cond b (record { phase = kernel_phase.Running; reports = ((w.kernel k).process p.0).reports; answer = Some answered.answer }) ((w.kernel k).process q.0)) (s.process q.0)) (sym h.0)
              (record {
                phase = was.phase ∙ ap (λ z. service_phase ((w.kernel k).process z).phase) (sym h.1) ∙ ap service_phase running;
                unanswered = λ suspended. absurd suspended;
                reports = was.reports ∙ ap (λ z. ((w.kernel k).process z).reports) (sym h.1);
              })
          own (inr h) =
              subst (λ b. IsProcessOf (cond b (record { phase = kernel_phase.Running; reports = ((w.kernel k).process p.0).reports; answer = Some answered.answer }) ((w.kernel k).process q.0)) (s.process q.0)) (sym h.0) was

      by : ((nat_eq (home_of s q) k ≡ true) × (home_of s q ≡ k)) ⊎ ((nat_eq (home_of s q) k ≡ false) × (home_of s q ≢ k))
          → IsProcessOf ((cond (nat_eq (home_of s q) k) (outcome w e).kernel (w.kernel (home_of s q))).process q.0) (s.process q.0)
      by (inl h) = subst (λ b. IsProcessOf ((cond b (outcome w e).kernel (w.kernel (home_of s q))).process q.0) (s.process q.0)) (sym h.0) (at (home_of s q) h.1 (same-process q below))
      by (inr h) = subst (λ b. IsProcessOf ((cond b (outcome w e).kernel (w.kernel (home_of s q))).process q.0) (s.process q.0)) (sym h.0) (same-process q below)

  -- a call that only answers its process leaves true what is true of every world
  pub answered-invariant : Invariant (i + 1) (happens w e) s
  answered-invariant = calm-invariant i w (happens w e) s answered-calm answered-process is
