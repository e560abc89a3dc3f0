-- The step take: the service allows it at a receive that is matched; what it makes of ends and processes.
use Rattle.std.proofs.Common.{◌≡◌, ℕ, Bool, true, false, nat_eq, ◌&&◌, not, if◌then◌else◌, List, [], ◌∷◌, ◌++◌, Contains, Some, is_some, refl, ap, subst, ◌∙◌, eq-eqb}
use Rattle.charlotte_calls.specs.Names.{opposite}
use Rattle.charlotte_calls.specs.declared.calls.Report.{Report}
use Rattle.charlotte_calls.specs.declared.calls.ServiceStep.TheVariants as step
use Rattle.charlotte_calls.specs.declared.names.EndId.{EndId}
use Rattle.charlotte_calls.specs.declared.names.Pid.{Pid}
use Rattle.end_table.proofs.EndEq.{end_eq-refl, end_eq-same, end_eq-sym}
use Rattle.end_table.specs.Place.{end_eq}
use Rattle.service_change.proofs.EndEq.{Contains-among, among, among-Contains, at_place, places-among, places-other, puts-at, puts-other}
use Rattle.service_step.specs.Ends.{carried_by, is_made, is_matched_with, is_owned_by, matched_message, places, puts, takes, turns_inward, turns_outward}
use Rattle.service_step.specs.State.{State, is_cancelling, receive_report, tells}
use Rattle.service_step.specs.Steps.{IsServiceStep, after_take, agree, done_reports}
use Rattle.service_step.specs.declared.state.End.{End}
use Rattle.service_step.specs.declared.state.Inward.TheVariants as inward
use Rattle.service_step.specs.declared.state.Message.{Message}
use Rattle.service_step.specs.declared.state.Outward.TheVariants as outward
use Rattle.service_step.specs.declared.state.Phase.TheVariants as phase
use Rattle.service_step.specs.declared.state.Place.TheVariants as place
use Rattle.theorem_meaning.proofs.Ends.{eq-same, opposite-apart, opposite-twice}
use Rattle.theorem_ends_arrived.proofs.Tells.{tells-other, tells-own}

-- ---- the step

module _ (s : State) (to : EndId) (n : ℕ) (p : Pid) (m : Message) (matched : (s.ends (opposite to)).outward ≡ outward.Matched m) (number : (s.ends (opposite to)).sent ≡ n) (owned : (s.ends to).place ≡ place.Owned p)
    (receives : (s.ends to).inward ≡ inward.Matched n) where
  abbrev f : EndId
  f = opposite to

  abbrev pub took : State
  took = after_take f p s

  twice : opposite f ≡ to
  twice = opposite-twice to

  module _ (unnoticed : (s.ends to).noticed ≡ false) (late : Bool) (cancels : is_cancelling to (s.process p.0).phase ≡ late) where
    agreed : (b : Bool) → agree b b ≡ true
    agreed true = refl
    agreed false = refl

    pub may-take : IsServiceStep s (step.Take f n p late) took
    may-take =
        record {
          allowed =
              ap (λ z. is_some (matched_message z) && nat_eq (s.ends f).sent n && is_owned_by p (s.ends (opposite f)).place && not (s.ends (opposite f)).noticed && is_matched_with n (s.ends (opposite f)).inward && agree late (is_cancelling (opposite f) (s.process p.0).phase)) matched
              ∙ ap (λ z. z && is_owned_by p (s.ends (opposite f)).place && not (s.ends (opposite f)).noticed && is_matched_with n (s.ends (opposite f)).inward && agree late (is_cancelling (opposite f) (s.process p.0).phase)) (eq-eqb (s.ends f).sent n number)
              ∙ ap (λ e. is_owned_by p (s.ends e).place && not (s.ends e).noticed && is_matched_with n (s.ends e).inward && agree late (is_cancelling e (s.process p.0).phase)) twice
              ∙ ap (λ z. is_owned_by p z && not (s.ends to).noticed && is_matched_with n (s.ends to).inward && agree late (is_cancelling to (s.process p.0).phase)) owned
              ∙ ap (λ z. z && not (s.ends to).noticed && is_matched_with n (s.ends to).inward && agree late (is_cancelling to (s.process p.0).phase)) (eq-eqb p.0 p.0 refl)
              ∙ ap (λ z. not z && is_matched_with n (s.ends to).inward && agree late (is_cancelling to (s.process p.0).phase)) unnoticed
              ∙ ap (λ z. is_matched_with n z && agree late (is_cancelling to (s.process p.0).phase)) receives
              ∙ ap (λ z. z && agree late (is_cancelling to (s.process p.0).phase)) (eq-eqb n n refl)
              ∙ ap (agree late) cancels
              ∙ agreed late;
          after = refl;
        }

  -- ---- ends

  made-to : is_made (s.ends to).place ≡ true
  made-to = ap (λ z. is_made z) owned

  module _ (made : is_made (s.ends f).place ≡ true) where
    abbrev table : EndId → End
    table = turns_inward inward.Unreported (opposite f) (turns_outward outward.Taken f s.ends)

    took-is : (e : EndId) → took.ends e ≡ places (place.Owned p) m.carried table e
    unfolding takes
    took-is e = ap (λ z. places (place.Owned p) (carried_by (matched_message z)) table e) matched

    first : (e : EndId) → turns_outward outward.Taken f s.ends e ≡ (if end_eq f e then record (s.ends f) { outward = outward.Taken } else s.ends e)
    unfolding turns_outward
    first e = by (end_eq f e) refl
      where
        by : (b : Bool) → end_eq f e ≡ b → puts f (record (s.ends f) { outward = outward.Taken }) s.ends e ≡ (if b then record (s.ends f) { outward = outward.Taken } else s.ends e)
        by true same = subst (λ z. puts f (record (s.ends f) { outward = outward.Taken }) s.ends z ≡ record (s.ends f) { outward = outward.Taken }) (end_eq-same f e same) (puts-at f (record (s.ends f) { outward = outward.Taken }) s.ends made)
        by false apart = puts-other f (record (s.ends f) { outward = outward.Taken }) s.ends e (eq-same f e ∙ apart)

    apart-sender : end_eq f to ≡ false
    apart-sender = end_eq-sym f to ∙ opposite-apart to

    table-to : table to ≡ record (s.ends to) { inward = inward.Unreported }
    unfolding turns_inward
    table-to =
        ap (λ e. puts e (record (turns_outward outward.Taken f s.ends e) { inward = inward.Unreported }) (turns_outward outward.Taken f s.ends) to) twice
        ∙ puts-at to (record (turns_outward outward.Taken f s.ends to) { inward = inward.Unreported }) (turns_outward outward.Taken f s.ends) (ap (λ (z : End). is_made z.place) same ∙ made-to)
        ∙ ap (λ (z : End). record z { inward = inward.Unreported }) same
      where
        same : turns_outward outward.Taken f s.ends to ≡ s.ends to
        same = first to ∙ ap (λ b. if b then record (s.ends f) { outward = outward.Taken } else s.ends to) apart-sender

    table-other : (e : EndId) → end_eq to e ≡ false → table e ≡ (if end_eq f e then record (s.ends f) { outward = outward.Taken } else s.ends e)
    unfolding turns_inward
    table-other e apart =
        ap (λ z. puts z (record (turns_outward outward.Taken f s.ends z) { inward = inward.Unreported }) (turns_outward outward.Taken f s.ends) e) twice
        ∙ puts-other to (record (turns_outward outward.Taken f s.ends to) { inward = inward.Unreported }) (turns_outward outward.Taken f s.ends) e (eq-same to e ∙ apart) ∙ first e

    away : (e : EndId) → (Contains m.carried e → ⊥) → among e m.carried ≡ false
    away e none = by (among e m.carried) refl
      where
        by : (b : Bool) → among e m.carried ≡ b → b ≡ false
        by true is = absurd (none (among-Contains e m.carried is))
        by false is = refl

    -- the receiver, the sender, the ends that the message carried, and the others
    pub took-to : (Contains m.carried to → ⊥) → took.ends to ≡ record (s.ends to) { inward = inward.Unreported }
    took-to none = took-is to ∙ places-other (place.Owned p) m.carried table to (away to none) ∙ table-to

    pub took-sender : (Contains m.carried f → ⊥) → took.ends f ≡ record (s.ends f) { outward = outward.Taken }
    took-sender none = took-is f ∙ places-other (place.Owned p) m.carried table f (away f none) ∙ table-other f (opposite-apart to) ∙ ap (λ b. if b then record (s.ends f) { outward = outward.Taken } else s.ends f) (end_eq-refl f)

    pub took-came : (e : EndId) → Contains m.carried e → end_eq to e ≡ false → end_eq f e ≡ false → is_made (s.ends e).place ≡ true → took.ends e ≡ record (s.ends e) { place = place.Owned p }
    took-came e has apart far made-it =
        took-is e ∙ places-among (place.Owned p) m.carried table e refl (Contains-among e m.carried has) (ap (λ (z : End). is_made z.place) same ∙ made-it) ∙ ap (at_place (place.Owned p)) same
      where
        same : table e ≡ s.ends e
        same = table-other e apart ∙ ap (λ b. if b then record (s.ends f) { outward = outward.Taken } else s.ends e) far

    pub took-other : (e : EndId) → (Contains m.carried e → ⊥) → end_eq to e ≡ false → end_eq f e ≡ false → took.ends e ≡ s.ends e
    took-other e none apart far = took-is e ∙ places-other (place.Owned p) m.carried table e (away e none) ∙ table-other e apart ∙ ap (λ b. if b then record (s.ends f) { outward = outward.Taken } else s.ends e) far

  -- ---- processes

  abbrev pub told : List Report
  told = receive_report to m.bytes m.carried ∷ []

  process-is : (q : ℕ) → took.process q ≡ tells (Some p) to told s.process q
  process-is q = ap (λ z. tells (Some p) (opposite f) (done_reports (opposite f) (matched_message z)) s.process q) matched ∙ ap (λ e. tells (Some p) e (receive_report e m.bytes m.carried ∷ []) s.process q) twice

  pub took-own : took.process p.0 ≡ record { phase = if is_cancelling to (s.process p.0).phase then phase.Running else (s.process p.0).phase; reports = (s.process p.0).reports ++ told }
  took-own = process-is p.0 ∙ tells-own p to told s.process

  pub took-another : (q : ℕ) → nat_eq p.0 q ≡ false → took.process q ≡ s.process q
  took-another q apart = process-is q ∙ tells-other p to told s.process q apart
