-- A process that runs begins to wait: the state stays consistent.
use Rattle.std.proofs.Common.{◌≡◌, ◌≢◌, ◌⊎◌, inl, inr, ℕ, ◌<◌, ◌≤◌, true, false, nat_eq, cond, [], length, Contains, sym, ap, subst, ◌∙◌, arith}
use Rattle.std.proofs.lemmas.Bool.Decides.{eqb_tells}
use Rattle.charlotte_calls.specs.declared.calls.Report.{Report}
use Rattle.charlotte_calls.specs.declared.names.EndId.{EndId}
use Rattle.charlotte_calls.specs.declared.names.Pid.{Pid}
use Rattle.service_lawful.specs.Consistent.{reports_on, IsConsistent}
use Rattle.service_step.specs.Ends.{is_started_inward}
use Rattle.service_step.specs.Lawful.{AreHeldOnce, IsHeldAt}
use Rattle.service_step.specs.State.{State, Process, turns}
use Rattle.service_step.specs.declared.state.Phase.{Phase}
use Rattle.service_step.specs.declared.state.Phase.TheVariants as phase
use Rattle.service_step.specs.declared.state.Place.{Place}
use Rattle.service_step.specs.declared.state.Place.TheVariants as place

module _ (s : State) (p : Pid) (to : Phase) where
  -- the state with p in this phase
  abbrev pub turned : State
  turned = record s { process = turns p to s.process }

  -- another process is as before
  pub turned-other : (q : ℕ) → nat_eq p.0 q ≡ false → turned.process q ≡ s.process q
  unfolding turns
  turned-other q other = ap (λ b. cond b (record (s.process p.0) { phase = to }) (s.process q)) other

  pub turned-own : (q : ℕ) → p.0 ≡ q → turned.process q ≡ record (s.process q) { phase = to }
  unfolding turns
  turned-own q same = by (eqb_tells p.0 q)
    where
      by : ((nat_eq p.0 q ≡ true) × (p.0 ≡ q)) ⊎ ((nat_eq p.0 q ≡ false) × (p.0 ≢ q)) → cond (nat_eq p.0 q) (record (s.process p.0) { phase = to }) (s.process q) ≡ record (s.process q) { phase = to }
      by (inl h) = ap (λ b. cond b (record (s.process p.0) { phase = to }) (s.process q)) h.0 ∙ ap (λ z. record (s.process z) { phase = to }) h.1
      by (inr h) = absurd (h.1 same)

  pub turned-reports : (q : ℕ) → (turned.process q).reports ≡ (s.process q).reports
  turned-reports q = by (eqb_tells p.0 q)
    where
      by : ((nat_eq p.0 q ≡ true) × (p.0 ≡ q)) ⊎ ((nat_eq p.0 q ≡ false) × (p.0 ≢ q)) → (turned.process q).reports ≡ (s.process q).reports
      by (inl h) = ap (λ (x : Process). x.reports) (turned-own q h.1)
      by (inr h) = ap (λ (x : Process). x.reports) (turned-other q h.0)

  -- its phase, and that of every other process
  pub turned-phase : (q : ℕ) → ((p.0 ≡ q) × ((turned.process q).phase ≡ to)) ⊎ ((p.0 ≢ q) × ((turned.process q).phase ≡ (s.process q).phase))
  turned-phase q = by (eqb_tells p.0 q)
    where
      by : ((nat_eq p.0 q ≡ true) × (p.0 ≡ q)) ⊎ ((nat_eq p.0 q ≡ false) × (p.0 ≢ q)) → ((p.0 ≡ q) × ((turned.process q).phase ≡ to)) ⊎ ((p.0 ≢ q) × ((turned.process q).phase ≡ (s.process q).phase))
      by (inl h) = inl (h.1, ap (λ (x : Process). x.phase) (turned-own q h.1))
      by (inr h) = inr (h.1, ap (λ (x : Process). x.phase) (turned-other q h.0))

  pub turned-held : to ≢ phase.Ended → AreHeldOnce s → AreHeldOnce turned
  turned-held lives h = record { held = λ e. held (s.ends e).place e (h.held e); carried = λ f e n c. h.carried f e n (record { message = c.message; there = c.there; number = c.number; carries = c.carries }) }
    where
      owner : (q : Pid) → (s.process q.0).phase ≢ phase.Ended → ((p.0 ≡ q.0) × ((turned.process q.0).phase ≡ to)) ⊎ ((p.0 ≢ q.0) × ((turned.process q.0).phase ≡ (s.process q.0).phase)) → (turned.process q.0).phase ≢ phase.Ended
      owner q was (inl t) is = lives (sym t.1 ∙ is)
      owner q was (inr t) is = was (sym t.1 ∙ is)

      held : (at : Place) (e : EndId) → IsHeldAt s e at → IsHeldAt turned e at
      held (place.Owned q) e was = owner q was (turned-phase q.0)
      held (place.InMessage f n) e c = record { message = c.message; there = c.there; number = c.number; carries = c.carries }
      held place.Destroyed e was = tt
      held place.Unmade e was = tt

  -- p, which is one of the processes, goes on to a phase that is not the end of it; of an end whose Cancel it is in it owns the started receive
  pub turned-consistent : p.0 < length s.homes → to ≢ phase.Ended → ((e : EndId) → to ≡ phase.Cancelling e → ((s.ends e).place ≡ place.Owned p) × (is_started_inward (s.ends e).inward ≡ true)) → IsConsistent s → IsConsistent turned
  turned-consistent below lives cancels c =
      record {
        kept =
            record {
              made = c.kept.made;
              unmade = c.kept.unmade;
              held = turned-held lives c.kept.held;
              apart = c.kept.apart;
              others = c.kept.others;
              waiting = c.kept.waiting;
              resting = c.kept.resting;
            };
        noticed = c.noticed;
        reported =
            record {
              over = λ q r has. c.reported.over q r (was q r has);
              once = λ q e w. subst (λ rs. reports_on e w rs ≤ 1) (sym (turned-reports q.0)) (c.reported.once q e w);
              alone = λ q o r t has others. c.reported.alone q o r t (was q r has) (was o t others);
              own = λ q r has. c.reported.own q r (was q r has);
              done = λ q r has. c.reported.done q r (was q r has);
              stands = λ q e w at over. ap (reports_on e w) (turned-reports q.0) ∙ c.reported.stands q e w at over;
            };
        processes =
            record {
              cancelling = λ q e is. cancelling q e is (turned-phase q.0);
              ended = λ q is. turned-reports q.0 ∙ ended q is (turned-phase q.0);
              others = λ q above. turned-other q.0 (off q above (eqb_tells p.0 q.0)) ∙ c.processes.others q above;
            };
      }
    where
      was : (q : Pid) (r : Report) → Contains (turned.process q.0).reports r → Contains (s.process q.0).reports r
      was q r has = subst (λ rs. Contains rs r) (turned-reports q.0) has

      cancelling : (q : Pid) (e : EndId) → (turned.process q.0).phase ≡ phase.Cancelling e → ((p.0 ≡ q.0) × ((turned.process q.0).phase ≡ to)) ⊎ ((p.0 ≢ q.0) × ((turned.process q.0).phase ≡ (s.process q.0).phase))
          → ((s.ends e).place ≡ place.Owned q) × (is_started_inward (s.ends e).inward ≡ true)
      cancelling q e is (inl t) = let one = cancels e (sym t.1 ∙ is) in (one.0 ∙ (λ i. place.Owned (record { 0 = t.0 i })), one.1)
      cancelling q e is (inr t) = c.processes.cancelling q e (sym t.1 ∙ is)

      ended : (q : Pid) → (turned.process q.0).phase ≡ phase.Ended → ((p.0 ≡ q.0) × ((turned.process q.0).phase ≡ to)) ⊎ ((p.0 ≢ q.0) × ((turned.process q.0).phase ≡ (s.process q.0).phase)) → (s.process q.0).reports ≡ []
      ended q is (inl t) = absurd (lives (sym t.1 ∙ is))
      ended q is (inr t) = c.processes.ended q (sym t.1 ∙ is)

      off : (q : Pid) → length s.homes ≤ q.0 → ((nat_eq p.0 q.0 ≡ true) × (p.0 ≡ q.0)) ⊎ ((nat_eq p.0 q.0 ≡ false) × (p.0 ≢ q.0)) → nat_eq p.0 q.0 ≡ false
      off q above (inl h) = absurd (omega (arith, h.1))
      off q above (inr h) = h.0
