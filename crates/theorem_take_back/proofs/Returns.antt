-- The step back at an end that lives: the service allows it where its opposite is destroyed; what it makes of ends and processes.
use Rattle.std.proofs.Common.{◌≡◌, ℕ, Bool, true, false, nat_eq, ◌&&◌, ◌||◌, not, if◌then◌else◌, List, [], ◌∷◌, ◌++◌, Contains, Some, is_some, refl, ap, ◌∙◌, eq-eqb}
use Rattle.charlotte_calls.specs.Names.{opposite}
use Rattle.charlotte_calls.specs.declared.calls.Report.{Report}
use Rattle.charlotte_calls.specs.declared.calls.ServiceStep.TheVariants as step
use Rattle.charlotte_calls.specs.declared.names.EndId.{EndId}
use Rattle.charlotte_calls.specs.declared.names.Outcome.TheVariants as outcome
use Rattle.charlotte_calls.specs.declared.names.Pid.{Pid}
use Rattle.end_table.specs.Place.{end_eq}
use Rattle.service_change.proofs.EndEq.{Contains-among, among, among-Contains, at_place, places-among, places-other, puts-at, puts-other}
use Rattle.service_step.specs.Ends.{carried_by, is_destroyed, is_made, matched_message, owner, places, puts, returned_end, returns, to_owner, turns_outward}
use Rattle.service_step.specs.State.{State, gains, is_cancelling, owner_cancels, send_report, tells}
use Rattle.service_step.specs.Steps.{IsServiceStep, after_return, agree, dead_reports, returned_reports, tells_returned}
use Rattle.service_step.specs.declared.state.End.{End}
use Rattle.service_step.specs.declared.state.Message.{Message}
use Rattle.service_step.specs.declared.state.Outward.TheVariants as outward
use Rattle.service_step.specs.declared.state.Phase.TheVariants as phase
use Rattle.service_step.specs.declared.state.Place.TheVariants as place
use Rattle.theorem_meaning.proofs.Ends.{eq-same}
use Rattle.theorem_ends_arrived.proofs.Tells.{gains-other, gains-own, tells-other, tells-own}

module _ (s : State) (to : EndId) (n : ℕ) (p : Pid) (m : Message) (matched : (s.ends to).outward ≡ outward.Matched m) (owned : (s.ends to).place ≡ place.Owned p) where
  abbrev pub back : State
  back = after_return to s

  abbrev x : End
  x = s.ends to

  agreed : (b : Bool) → agree b b ≡ true
  agreed true = refl
  agreed false = refl

  pub may-return : (s.ends to).sent ≡ n → (s.ends (opposite to)).place ≡ place.Destroyed → (dead : Bool) → (not (s.ends to).noticed && is_cancelling to (s.process p.0).phase) ≡ dead → IsServiceStep s (step.Back to n dead) back
  may-return number gone dead cancels =
      record {
        allowed =
            ap (λ z. is_some (matched_message z) && nat_eq x.sent n && (is_destroyed (s.ends (opposite to)).place || (s.ends (opposite to)).noticed) && (is_destroyed x.place || is_some (owner x.place)) && agree dead (not x.noticed && owner_cancels (owner x.place) to s.process)) matched
            ∙ ap (λ z. z && (is_destroyed (s.ends (opposite to)).place || (s.ends (opposite to)).noticed) && (is_destroyed x.place || is_some (owner x.place)) && agree dead (not x.noticed && owner_cancels (owner x.place) to s.process)) (eq-eqb x.sent n number)
            ∙ ap (λ z. (is_destroyed z || (s.ends (opposite to)).noticed) && (is_destroyed x.place || is_some (owner x.place)) && agree dead (not x.noticed && owner_cancels (owner x.place) to s.process)) gone
            ∙ ap (λ z. (is_destroyed z || is_some (owner z)) && agree dead (not x.noticed && owner_cancels (owner z) to s.process)) owned
            ∙ ap (agree dead) cancels
            ∙ agreed dead;
        after = refl;
      }

  -- ---- ends

  made : is_made (s.ends to).place ≡ true
  made = ap (λ z. is_made z) owned

  abbrev table : EndId → End
  table = puts to (returned_end x) s.ends

  back-is : (e : EndId) → back.ends e ≡ places (place.Owned p) m.carried table e
  unfolding returns
  back-is e =
      ap (λ z. (if is_destroyed z then places place.Destroyed (carried_by (matched_message x.outward)) (turns_outward outward.Idle to s.ends) else to_owner (owner z) (carried_by (matched_message x.outward)) table) e) owned
      ∙ ap (λ z. places (place.Owned p) (carried_by (matched_message z)) table e) matched

  table-own : table to ≡ returned_end x
  table-own = puts-at to (returned_end x) s.ends made

  table-other : (e : EndId) → end_eq to e ≡ false → table e ≡ s.ends e
  table-other e apart = puts-other to (returned_end x) s.ends e (eq-same to e ∙ apart)

  away : (e : EndId) → (Contains m.carried e → ⊥) → among e m.carried ≡ false
  away e none = by (among e m.carried) refl
    where
      by : (b : Bool) → among e m.carried ≡ b → b ≡ false
      by true is = absurd (none (among-Contains e m.carried is))
      by false is = refl

  -- the end, those that its message carried, and the others
  pub back-own : (Contains m.carried to → ⊥) → back.ends to ≡ returned_end (s.ends to)
  back-own none = back-is to ∙ places-other (place.Owned p) m.carried table to (away to none) ∙ table-own

  pub back-came : (e : EndId) → Contains m.carried e → end_eq to e ≡ false → is_made (s.ends e).place ≡ true → back.ends e ≡ record (s.ends e) { place = place.Owned p }
  back-came e has apart made-it =
      back-is e ∙ places-among (place.Owned p) m.carried table e refl (Contains-among e m.carried has) (ap (λ (z : End). is_made z.place) (table-other e apart) ∙ made-it) ∙ ap (at_place (place.Owned p)) (table-other e apart)

  pub back-other : (e : EndId) → (Contains m.carried e → ⊥) → end_eq to e ≡ false → back.ends e ≡ s.ends e
  back-other e none apart = back-is e ∙ places-other (place.Owned p) m.carried table e (away e none) ∙ table-other e apart

  -- ---- processes

  abbrev pub sent : List Report
  sent = send_report to outcome.Destroyed m.carried ∷ []

  process-is : (q : ℕ) → back.process q ≡ (if x.noticed then gains p sent s.process q else tells (Some p) to (sent ++ dead_reports to x) s.process q)
  process-is q = ap (λ z. tells_returned (owner z) to x s.process q) owned ∙ by x.noticed ∙ ap (λ z. if x.noticed then gains p (returned_reports to (matched_message z)) s.process q else tells (Some p) to (returned_reports to (matched_message z) ++ dead_reports to x) s.process q) matched
    where
      by : (b : Bool) → (if b then gains p (returned_reports to (matched_message x.outward)) s.process else tells (Some p) to (returned_reports to (matched_message x.outward) ++ dead_reports to x) s.process) q
          ≡ (if b then gains p (returned_reports to (matched_message x.outward)) s.process q else tells (Some p) to (returned_reports to (matched_message x.outward) ++ dead_reports to x) s.process q)
      by true = refl
      by false = refl

  pub back-another : (q : ℕ) → nat_eq p.0 q ≡ false → back.process q ≡ s.process q
  back-another q apart = process-is q ∙ by x.noticed
    where
      by : (b : Bool) → (if b then gains p sent s.process q else tells (Some p) to (sent ++ dead_reports to x) s.process q) ≡ s.process q
      by true = gains-other p to sent s.process q apart
      by false = tells-other p to (sent ++ dead_reports to x) s.process q apart

  -- where the death was noticed before
  pub back-noticed : (s.ends to).noticed ≡ true → back.process p.0 ≡ record { phase = (s.process p.0).phase; reports = (s.process p.0).reports ++ sent }
  back-noticed noticed = process-is p.0 ∙ ap (λ b. if b then gains p sent s.process p.0 else tells (Some p) to (sent ++ dead_reports to x) s.process p.0) noticed ∙ gains-own p to sent s.process

  -- and where it is noticed now
  pub back-first : (s.ends to).noticed ≡ false
      → back.process p.0 ≡ record { phase = if is_cancelling to (s.process p.0).phase then phase.Running else (s.process p.0).phase; reports = (s.process p.0).reports ++ (sent ++ dead_reports to (s.ends to)) }
  back-first alive =
      process-is p.0 ∙ ap (λ b. if b then gains p sent s.process p.0 else tells (Some p) to (sent ++ dead_reports to x) s.process p.0) alive ∙ tells-own p to (sent ++ dead_reports to x) s.process
