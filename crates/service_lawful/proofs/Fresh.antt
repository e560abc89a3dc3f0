-- A state of the service before any step is consistent.
use Rattle.std.proofs.Common.{◌≡◌, ◌⊎◌, inl, inr, ℕ, ◌<◌, ◌≤◌, Bool, true, false, nat_lt, cond, [], length, Contains, Some, None, slice_index, refl, sym, ap, subst, ◌∙◌, arith, true≢false, ltb-true, ltb-false}
use Rattle.charlotte_calls.specs.declared.calls.Report.{Report}
use Rattle.charlotte_calls.specs.declared.names.EndId.{EndId}
use Rattle.charlotte_calls.specs.declared.names.Pid.{Pid}
use Rattle.charlotte_calls.specs.declared.names.Way.{Way}
use Rattle.charlotte_calls.specs.declared.names.Way.TheVariants as way
use Rattle.service_step.specs.Ends.{unmade, fresh, is_made}
use Rattle.service_step.specs.Lawful.{IsHeldAt, message_of}
use Rattle.service_step.specs.Run.{new_process, new_processes}
use Rattle.service_step.specs.State.{State, Process, no_process}
use Rattle.service_step.specs.declared.state.End.{End}
use Rattle.service_step.specs.declared.state.Inward.TheVariants as inward
use Rattle.service_step.specs.declared.state.Message.{Message}
use Rattle.service_step.specs.declared.state.Outward.TheVariants as outward
use Rattle.service_step.specs.declared.state.Phase.TheVariants as phase
use Rattle.service_step.specs.declared.state.Place.{Place}
use Rattle.service_step.specs.declared.state.Place.TheVariants as place
use Rattle.service_lawful.specs.Consistent.{is_over, reports_on, AreKept, IsConsistent}

-- an end that a process owns, and with which nothing has happened yet
pub record IsFreshEnd (s : State) (e : EndId) : Type 0 where
  pub p : Pid
  pub end : s.ends e ≡ fresh (place.Owned p)
  pub process : p.0 < length s.homes

-- nothing has happened yet
pub record IsFresh (s : State) : Type 0 where
  pub each : (e : EndId) → (s.ends e ≡ unmade) ⊎ IsFreshEnd s e
  pub made : (e : EndId) → is_made (s.ends e).place ≡ nat_lt e.link.count (slice_index s.made e.link.maker)
  pub processes : s.process ≡ new_processes (length s.homes)

module _ (s : State) (f : IsFresh s) where
  -- each end is as before any step, wherever it is
  pub fresh_at : (e : EndId) → (at : Place) × (s.ends e ≡ fresh at)
  fresh_at e = by (f.each e)
    where
      by : (s.ends e ≡ unmade) ⊎ IsFreshEnd s e → (at : Place) × (s.ends e ≡ fresh at)
      by (inl h) = (place.Unmade, h)
      by (inr h) = (place.Owned h.p, h.end)

  pub fresh-outward : (e : EndId) → (s.ends e).outward ≡ outward.Idle
  fresh-outward e = ap (λ (x : End). x.outward) (fresh_at e).1

  pub fresh-inward : (e : EndId) → (s.ends e).inward ≡ inward.Idle
  fresh-inward e = ap (λ (x : End). x.inward) (fresh_at e).1

  pub fresh-noticed : (e : EndId) → (s.ends e).noticed ≡ false
  fresh-noticed e = ap (λ (x : End). x.noticed) (fresh_at e).1

  pub fresh-sent : (e : EndId) → (s.ends e).sent ≡ 0
  fresh-sent e = ap (λ (x : End). x.sent) (fresh_at e).1

  -- a process is new, or there is none
  fresh_process : (p : Pid) → ((s.process p.0 ≡ new_process) × (p.0 < length s.homes)) ⊎ ((s.process p.0 ≡ no_process) × (length s.homes ≤ p.0))
  unfolding new_processes
  fresh_process p = by (nat_lt p.0 (length s.homes)) refl
    where
      is : s.process p.0 ≡ cond (nat_lt p.0 (length s.homes)) new_process no_process
      is = ap (λ (t : ℕ → Process). t p.0) f.processes

      by : (b : Bool) → nat_lt p.0 (length s.homes) ≡ b → ((s.process p.0 ≡ new_process) × (p.0 < length s.homes)) ⊎ ((s.process p.0 ≡ no_process) × (length s.homes ≤ p.0))
      by true h = inl (is ∙ ap (λ b. cond b new_process no_process) h, ltb-true _ _ h)
      by false h = inr (is ∙ ap (λ b. cond b new_process no_process) h, ltb-false _ _ h)

  pub fresh-reports : (p : Pid) → (s.process p.0).reports ≡ []
  fresh-reports p = by (fresh_process p)
    where
      by : ((s.process p.0 ≡ new_process) × (p.0 < length s.homes)) ⊎ ((s.process p.0 ≡ no_process) × (length s.homes ≤ p.0)) → (s.process p.0).reports ≡ []
      by (inl h) = ap (λ (x : Process). x.reports) h.0
      by (inr h) = ap (λ (x : Process). x.reports) h.0

  pub fresh-phase : (p : Pid) → ((s.process p.0).phase ≡ phase.Running) ⊎ ((s.process p.0).phase ≡ phase.Ended)
  fresh-phase p = by (fresh_process p)
    where
      by : ((s.process p.0 ≡ new_process) × (p.0 < length s.homes)) ⊎ ((s.process p.0 ≡ no_process) × (length s.homes ≤ p.0)) → ((s.process p.0).phase ≡ phase.Running) ⊎ ((s.process p.0).phase ≡ phase.Ended)
      by (inl h) = inl (ap (λ (x : Process). x.phase) h.0)
      by (inr h) = inr (ap (λ (x : Process). x.phase) h.0)

  pub fresh-running : (p : Pid) → p.0 < length s.homes → (s.process p.0).phase ≡ phase.Running
  fresh-running p below = by (fresh_process p)
    where
      by : ((s.process p.0 ≡ new_process) × (p.0 < length s.homes)) ⊎ ((s.process p.0 ≡ no_process) × (length s.homes ≤ p.0)) → (s.process p.0).phase ≡ phase.Running
      by (inl h) = ap (λ (x : Process). x.phase) h.0
      by (inr h) = absurd (omega (arith, h.1))

  none : (p : Pid) (r : Report) → Contains (s.process p.0).reports r → ⊥
  none p r has = let in_none : Contains {X = Report} [] r = subst (λ rs. Contains rs r) (fresh-reports p) has in omega (arith, in_none.1)

  no_message : (e : EndId) (m : Message) → message_of (s.ends e).outward ≡ Some m → ⊥
  no_message e m has = let is : message_of (s.ends e).outward ≡ None = ap message_of (fresh-outward e) in cc

  no_place : (e : EndId) (x : Place) → (s.ends e).place ≡ x → (x ≡ place.Destroyed) ⊎ ((g : EndId) × (n : ℕ) × (x ≡ place.InMessage g n)) → ⊥
  no_place e x at other = by (f.each e) other
    where
      by : (s.ends e ≡ unmade) ⊎ IsFreshEnd s e → (x ≡ place.Destroyed) ⊎ ((g : EndId) × (n : ℕ) × (x ≡ place.InMessage g n)) → ⊥
      by (inl h) (inl is) = let here : (s.ends e).place ≡ place.Unmade = ap (λ (y : End). y.place) h in cc
      by (inl h) (inr is) = let here : (s.ends e).place ≡ place.Unmade = ap (λ (y : End). y.place) h in let there : x ≡ place.InMessage is.0 is.1 = is.2 in cc
      by (inr h) (inl is) = let here : (s.ends e).place ≡ place.Owned h.p = ap (λ (y : End). y.place) h.end in cc
      by (inr h) (inr is) = let here : (s.ends e).place ≡ place.Owned h.p = ap (λ (y : End). y.place) h.end in let there : x ≡ place.InMessage is.0 is.1 = is.2 in cc

  pub fresh-nowhere : (e g : EndId) (n : ℕ) → (s.ends e).place ≡ place.InMessage g n → ⊥
  fresh-nowhere e g n at = no_place e (place.InMessage g n) at (inr (g, n, refl))

  pub fresh-lives : (e : EndId) → (s.ends e).place ≡ place.Destroyed → ⊥
  fresh-lives e at = no_place e place.Destroyed at (inl refl)

  fresh-kept : AreKept s
  fresh-kept =
      record {
        made = f.made;
        unmade = λ e at. unmade_is e at (f.each e);
        held = record { held = λ e. held e (f.each e); carried = λ g e n is. absurd (no_message g is.message is.there) };
        apart = λ g m is. absurd (no_message g m is);
        others = λ g m is. absurd (no_message g m is);
        waiting = λ g m is. absurd (no_message g m (ap message_of is));
        resting = λ e g n at. absurd (fresh-nowhere e g n at);
      }
    where
      unmade_is : (e : EndId) → (s.ends e).place ≡ place.Unmade → (s.ends e ≡ unmade) ⊎ IsFreshEnd s e → s.ends e ≡ unmade
      unmade_is e at (inl h) = h
      unmade_is e at (inr h) = absurd (let here : (s.ends e).place ≡ place.Owned h.p = ap (λ (y : End). y.place) h.end in cc)

      held : (e : EndId) → (s.ends e ≡ unmade) ⊎ IsFreshEnd s e → IsHeldAt s e (s.ends e).place
      held e (inl h) = subst (IsHeldAt s e) (sym (ap (λ (y : End). y.place) h)) tt
      held e (inr h) = subst (IsHeldAt s e) (sym (ap (λ (y : End). y.place) h.end)) (λ is. let runs : (s.process h.p.0).phase ≡ phase.Running = fresh-running h.p h.process in cc)

  fresh-not_noticed : (e : EndId) → (s.ends e).noticed ≡ true → ⊥
  fresh-not_noticed e is = true≢false (sym is ∙ fresh-noticed e)

  fresh-no_report : (p : Pid) (e : EndId) (w : Way) → reports_on e w (s.process p.0).reports ≡ 0
  fresh-no_report p e w = ap (reports_on e w) (fresh-reports p)

  fresh-not_over : (e : EndId) (w : Way) → is_over w (s.ends e) ≡ true → ⊥
  fresh-not_over e way.Inward is = true≢false (sym is ∙ ap (is_over way.Inward) (fresh_at e).1)
  fresh-not_over e way.Outward is = true≢false (sym is ∙ ap (is_over way.Outward) (fresh_at e).1)

  pub fresh-consistent : IsConsistent s
  fresh-consistent =
      record {
        kept = fresh-kept;
        noticed =
            record {
              opposite = λ e is. absurd (fresh-not_noticed e is);
              outward = λ e is lives. absurd (fresh-not_noticed e is);
              inward = λ e is lives. absurd (fresh-not_noticed e is);
            };
        reported =
            record {
              over = λ p r has. absurd (none p r has);
              once = λ p e w. let no : reports_on e w (s.process p.0).reports ≡ 0 = fresh-no_report p e w in omega arith;
              alone = λ p q r t has others on w. absurd (none p r has);
              own = λ p r has lives. absurd (none p r has);
              done = λ p r has open'. absurd (none p r has);
              stands = λ p e w at over. absurd (fresh-not_over e w over);
            };
        processes =
            record {
              cancelling = λ p e is. absurd (no_cancel p e is (fresh-phase p));
              ended = λ p is. fresh-reports p;
              others = λ p above. no_other p above (fresh_process p);
            };
      }
    where
      no_cancel : (p : Pid) (e : EndId) → (s.process p.0).phase ≡ phase.Cancelling e → ((s.process p.0).phase ≡ phase.Running) ⊎ ((s.process p.0).phase ≡ phase.Ended) → ⊥
      no_cancel p e is (inl h) = cc
      no_cancel p e is (inr h) = cc

      no_other : (p : Pid) → length s.homes ≤ p.0 → ((s.process p.0 ≡ new_process) × (p.0 < length s.homes)) ⊎ ((s.process p.0 ≡ no_process) × (length s.homes ≤ p.0)) → s.process p.0 ≡ no_process
      no_other p above (inl h) = absurd (omega (arith, h.1))
      no_other p above (inr h) = h.0
