-- A Wait that finds no report: the process waits, and no link changes.
use Rattle.std.proofs.Common.{◌≡◌, ◌≢◌, ◌⊎◌, inl, inr, ℕ, ◌+◌, ◌<◌, Bool, true, false, nat_eq, not, cond, slice_index, List, [], ◌∷◌, length, None, refl, sym, ap, subst, ◌∙◌, eq-eqb}
use Rattle.std.proofs.lemmas.Bool.Decides.{eqb_tells}
use Rattle.charlotte_calls.specs.declared.calls.Call.TheVariants as call
use Rattle.charlotte_calls.specs.declared.calls.Report.{Report}
use Rattle.charlotte_calls.specs.declared.calls.ServiceStep.TheVariants as step
use Rattle.charlotte_calls.specs.declared.names.EndId.{EndId}
use Rattle.charlotte_calls.specs.declared.names.Pid.{Pid}
use Rattle.kernel_step.specs.Calls.{refusal}
use Rattle.kernel_step.specs.Kernel.{Kernel, Outcome, Process as KernelProcess, begins, call_step, closes, decides, has_report, join_answers, join_reports, next_stamp, performs, process_of, waits, without_answer}
use Rattle.kernel_step.specs.Progress.{means}
use Rattle.kernel_step.specs.declared.phase.Phase.TheVariants as kernel_phase
use Rattle.theorem_effects.specs.World.{World, Event, Calls, happens, outcome}
use Rattle.service_lawful.proofs.Turned.{turned, turned-consistent, turned-own, turned-other, turned-phase, turned-reports}
use Rattle.service_step.specs.State.{State, Process}
use Rattle.service_step.specs.declared.state.Phase.{Phase}
use Rattle.service_step.specs.declared.state.Phase.TheVariants as phase
use Rattle.theorem_call_wait.proofs.Calm.{AreRight-later, IsCalm, IsCalmWorld, calm-links, calm-setting, calm-world}
use Rattle.theorem_meaning.specs.Invariant.{AreRight, Invariant, IsOfSetting}
use Rattle.theorem_meaning.specs.Packets.{Links, links_of}
use Rattle.theorem_meaning.specs.StandsFor.{AreLinksOf, IsProcessOf, home_of}

-- ---- p, which ran, is in a phase that is no Cancel

module _ (s : State) (p : Pid) (to : Phase) (ran : (s.process p.0).phase ≡ phase.Running) (no_cancel : (e : EndId) → to ≢ phase.Cancelling e) where
  abbrev after : State
  after = turned s p to

  turned-links : (w : Links) → AreLinksOf w s → AreLinksOf w after
  turned-links w l = record { once = l.once; owned = l.owned; in_message = l.in_message; agree = l.agree }

  turned-setting : (w : World) → IsOfSetting w s → IsOfSetting w after
  turned-setting w g = record { few = g.few; numbers = g.numbers; kernels = g.kernels; version = g.version; made = g.made; homes = g.homes; sound = g.sound }

  -- a process is in a Cancel afterwards exactly where it was before
  still-cancelling : (q : Pid) (e : EndId) → (s.process q.0).phase ≡ phase.Cancelling e → (after.process q.0).phase ≡ phase.Cancelling e
  still-cancelling q e is = by (turned-phase s p to q.0)
    where
      by : ((p.0 ≡ q.0) × ((after.process q.0).phase ≡ to)) ⊎ ((p.0 ≢ q.0) × ((after.process q.0).phase ≡ (s.process q.0).phase)) → (after.process q.0).phase ≡ phase.Cancelling e
      by (inl t) = absurd (let running : (s.process q.0).phase ≡ phase.Running = ap (λ z. (s.process z).phase) (sym t.0) ∙ ran in cc)
      by (inr t) = t.1 ∙ is

  was-cancelling : (q : Pid) (e : EndId) → (after.process q.0).phase ≡ phase.Cancelling e → (s.process q.0).phase ≡ phase.Cancelling e
  was-cancelling q e is = by (turned-phase s p to q.0)
    where
      by : ((p.0 ≡ q.0) × ((after.process q.0).phase ≡ to)) ⊎ ((p.0 ≢ q.0) × ((after.process q.0).phase ≡ (s.process q.0).phase)) → (s.process q.0).phase ≡ phase.Cancelling e
      by (inl t) = absurd (no_cancel e (sym t.1 ∙ is))
      by (inr t) = sym t.1 ∙ is

  turned-right : (i : ℕ) (w : Links) → AreRight i w s → AreRight i w after
  turned-right i w r =
      record {
        named = r.named;
        few = r.few;
        marked = r.marked;
        counted = r.counted;
        honest = r.honest;
        asked = λ e. record { last = (r.asked e).last; cancelled = λ k v n q is withdrawing held. still-cancelling q e ((r.asked e).cancelled k v n q is withdrawing held) };
        cancelling = λ q e is. r.cancelling q e (was-cancelling q e is);
        served = r.served;
        wanted = r.wanted;
        unwanted = r.unwanted;
        once = r.once;
        packets = r.packets;
      }

-- ---- the kernel

-- a process whose standing answer was taken away, and that waits
alone : (b : Bool) (own other : KernelProcess)
    → cond b (record (cond true (record own { answer = None }) own) { phase = kernel_phase.Waiting }) (cond b (record own { answer = None }) other) ≡ cond b (record { phase = kernel_phase.Waiting; reports = own.reports; answer = None }) other
alone true own other = refl
alone false own other = refl

-- what a Wait does that finds no report
pub record IsWaiting (k : Kernel) (p : Pid) (o : Outcome) : Type 0 where
  pub calm : IsCalm k o.kernel
  pub packets : o.packets ≡ []
  pub steps : o.steps ≡ step.Wait p ∷ []
  pub process : (q : ℕ) → o.kernel.process q ≡ cond (nat_eq p.0 q) (record { phase = kernel_phase.Waiting; reports = (k.process p.0).reports; answer = None }) (k.process q)

waits-is : (k : Kernel) (p : Pid) (stamp : ℕ) → IsWaiting k p (waits p [] (closes (without_answer p k) (means (step.Wait p) (begins (without_answer p k) stamp))))
unfolding closes join_reports join_answers means
waits-is k p stamp =
    record {
      calm = record { number = refl; kernels = refl; version = refl; table = refl; made = refl };
      packets = refl;
      steps = refl;
      process = λ q. ap (λ c. cond (nat_eq p.0 q) (record (cond c (record (k.process p.0) { answer = None }) (k.process p.0)) { phase = kernel_phase.Waiting }) (cond (nat_eq p.0 q) (record (k.process p.0) { answer = None }) (k.process q))) (eq-eqb p.0 p.0 refl)
          ∙ alone (nat_eq p.0 q) (k.process p.0) (k.process q);
    }

-- taking away a standing answer leaves the reports
pub same-list : (k : Kernel) (p : Pid) → (process_of p (without_answer p k)).reports ≡ (process_of p k).reports
same-list k p = by (nat_eq p.0 p.0)
  where
    by : (b : Bool) → (cond b (record (k.process p.0) { answer = None }) (k.process p.0)).reports ≡ (k.process p.0).reports
    by true = refl
    by false = refl

-- a Wait that is not refused and finds no report
pub wait-is : (k : Kernel) (p : Pid) (mine : List EndId) → refusal p k.table k.made mine (has_report (process_of p k)) call.Wait ≡ None → (process_of p k).reports ≡ [] → IsWaiting k p (call_step (without_answer p k) p mine call.Wait)
unfolding call_step performs
wait-is k p mine granted none =
    subst (λ r. IsWaiting k p (decides p (without_answer p k) mine call.Wait r (begins (without_answer p k) (next_stamp k.stamp))))
    (sym (ap (λ (rs : List Report). refusal p k.table k.made mine (not (nat_eq (length rs) 0)) call.Wait) (same-list k p) ∙ granted))
    (subst (λ rs. IsWaiting k p (waits p rs (closes (without_answer p k) (means (step.Wait p) (begins (without_answer p k) (next_stamp k.stamp)))))) (sym (same-list k p ∙ none)) (waits-is k p (next_stamp k.stamp)))

-- ---- the world

module _ (i : ℕ) (w : World) (s : State) (k : ℕ) (p : Pid) (mine : List EndId) (is : Invariant i w s) (does : IsWaiting (w.kernel k) p (outcome w (Calls k p call.Wait mine)))
    (below : p.0 < length s.homes) (at : home_of s p ≡ k) (ran : (s.process p.0).phase ≡ phase.Running) (none : ((w.kernel k).process p.0).reports ≡ []) where
  abbrev e : Event
  e = Calls k p call.Wait mine

  abbrev t : State
  t = turned s p phase.Waiting

  waits-process : (q : Pid) → q.0 < length s.homes → IsProcessOf (((happens w e).kernel (home_of s q)).process q.0) (t.process q.0)
  waits-process q q_below = by (eqb_tells (home_of s q) k) (eqb_tells p.0 q.0)
    where
      was : IsProcessOf ((w.kernel (home_of s q)).process q.0) (s.process q.0)
      was = is.stands.processes q q_below

      waiting : KernelProcess
      waiting = record { phase = kernel_phase.Waiting; reports = ((w.kernel k).process p.0).reports; answer = None }

      others : nat_eq p.0 q.0 ≡ false → IsProcessOf ((w.kernel (home_of s q)).process q.0) (t.process q.0)
      others other = subst (IsProcessOf ((w.kernel (home_of s q)).process q.0)) (sym (turned-other s p phase.Waiting q.0 other)) was

      by : ((nat_eq (home_of s q) k ≡ true) × (home_of s q ≡ k)) ⊎ ((nat_eq (home_of s q) k ≡ false) × (home_of s q ≢ k)) → ((nat_eq p.0 q.0 ≡ true) × (p.0 ≡ q.0)) ⊎ ((nat_eq p.0 q.0 ≡ false) × (p.0 ≢ q.0))
          → IsProcessOf ((cond (nat_eq (home_of s q) k) (outcome w e).kernel (w.kernel (home_of s q))).process q.0) (t.process q.0)
      by (inr h) (inl same) = absurd (h.1 (ap (λ n. slice_index s.homes n) (sym same.1) ∙ at))
      by (inr h) (inr other) = subst (λ b. IsProcessOf ((cond b (outcome w e).kernel (w.kernel (home_of s q))).process q.0) (t.process q.0)) (sym h.0) (others other.0)
      by (inl h) (inr other) =
          subst (λ b. IsProcessOf ((cond b (outcome w e).kernel (w.kernel (home_of s q))).process q.0) (t.process q.0)) (sym h.0)
          (subst (λ x. IsProcessOf x (t.process q.0)) (sym (does.process q.0 ∙ ap (λ b. cond b (record { phase = kernel_phase.Waiting; reports = ((w.kernel k).process p.0).reports; answer = None }) ((w.kernel k).process q.0)) other.0))
          (subst (λ j. IsProcessOf ((w.kernel j).process q.0) (t.process q.0)) h.1 (others other.0)))
      by (inl h) (inl same) =
          subst (λ b. IsProcessOf ((cond b (outcome w e).kernel (w.kernel (home_of s q))).process q.0) (t.process q.0)) (sym h.0)
          (subst (λ x. IsProcessOf x (t.process q.0)) (sym (does.process q.0 ∙ ap (λ b. cond b (record { phase = kernel_phase.Waiting; reports = ((w.kernel k).process p.0).reports; answer = None }) ((w.kernel k).process q.0)) same.0))
          (record {
            phase = ap (λ (x : Process). x.phase) (turned-own s p phase.Waiting q.0 same.1);
            unanswered = λ suspended. refl;
            reports = turned-reports s p phase.Waiting q.0 ∙ was.reports ∙ (λ j. ((w.kernel (h.1 j)).process (sym same.1 j)).reports);
          }))

  calm : IsCalmWorld w (happens w e)
  calm = calm-world w k p call.Wait mine does.calm does.packets

  no_cancel : (f : EndId) → phase.Waiting ≢ phase.Cancelling f
  no_cancel f same = cc

  no_end : phase.Waiting ≢ phase.Ended
  no_end same = cc

  -- what is true of every world stays true
  pub waits-invariant : Invariant (i + 1) (happens w e) t
  waits-invariant =
      record {
        stands =
            record {
              processes = waits-process;
              links = subst (λ l. AreLinksOf l t) (sym (calm-links w (happens w e) calm)) (turned-links s p phase.Waiting ran no_cancel (links_of w) is.stands.links);
            };
        service = turned-consistent s p phase.Waiting below no_end (λ f same. absurd (no_cancel f same)) is.service;
        setting = turned-setting s p phase.Waiting ran no_cancel (happens w e) (calm-setting w (happens w e) s calm is.setting);
        links = subst (λ l. AreRight (i + 1) l t) (sym (calm-links w (happens w e) calm)) (turned-right s p phase.Waiting ran no_cancel (i + 1) (links_of w) (AreRight-later i (links_of w) s is.links));
        waiting = λ q h. turned-reports s p phase.Waiting q.0 ∙ empty q h (turned-phase s p phase.Waiting q.0);
      }
    where
      mine_none : (s.process p.0).reports ≡ []
      mine_none = (subst (λ j. IsProcessOf ((w.kernel j).process p.0) (s.process p.0)) at (is.stands.processes p below)).reports ∙ none

      empty : (q : Pid) → (t.process q.0).phase ≡ phase.Waiting → ((p.0 ≡ q.0) × ((t.process q.0).phase ≡ phase.Waiting)) ⊎ ((p.0 ≢ q.0) × ((t.process q.0).phase ≡ (s.process q.0).phase)) → (s.process q.0).reports ≡ []
      empty q h (inl same) = ap (λ z. (s.process z).reports) (sym same.0) ∙ mine_none
      empty q h (inr other) = is.waiting q (sym other.1 ∙ h)
