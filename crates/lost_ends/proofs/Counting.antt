-- Ends in messages, in what is kept for an end, and in what an answer or report brings; and owners of ends.
use Rattle.std.proofs.Common.{arith, ◌≡◌, ◌⊎◌, inl, inr, ⊎_elim, ℕ, zero, suc, ◌+◌, ◌≤◌, ◌<◌, Bool, true, false, ◌&&◌, if◌then◌else◌, List, [], ◌∷◌, ◌++◌, Option, Some, None, refl, sym, ap, subst, ◌∙◌}
use Rattle.std.specs.List.{flat_map}
use Rattle.charlotte_calls.specs.EndEq.{end_eq}
use Rattle.charlotte_calls.specs.declared.calls.Answer.{Answer}
use Rattle.charlotte_calls.specs.declared.calls.Answer.TheVariants as answer
use Rattle.charlotte_calls.specs.declared.calls.Report.{Report}
use Rattle.charlotte_calls.specs.declared.names.EndId.{EndId}
use Rattle.charlotte_calls.specs.declared.names.Pid.{Pid}
use Rattle.charlotte_calls.specs.declared.names.Way.TheVariants as way
use Rattle.service_lawful.specs.Consistent.{is_report_on}
use Rattle.service_step.specs.Lawful.{IsHeldAt}
use Rattle.service_step.specs.State.{Process, State as Service}
use Rattle.service_step.specs.declared.state.Message.{Message as Told}
use Rattle.service_step.specs.declared.state.Phase.TheVariants as phase
use Rattle.service_step.specs.declared.state.Place.{Place}
use Rattle.service_step.specs.declared.state.Place.TheVariants as place
use Rattle.service_streams.specs.Streams.{is_done, told_by, told_in}
use Rattle.followed_links.specs.Moves.{brings, enclosed_in}
use Rattle.followed_links.specs.Moves as moves
use Rattle.end_protocol.specs.declared.kept.Kept.{Kept}
use Rattle.end_protocol.specs.declared.messages.Message.{Message}
use Rattle.process_run.specs.States.{Gone, Holding, Keeps}
use Rattle.process_run.specs.States as process_run
use Rattle.process_run.specs.Ends.{number_of, place_at, with_holding}
use Rattle.process_run.specs.Reports.{holding_of}
use Rattle.followed_links.specs.AtEnd.{known_ledger}
use Rattle.followed_links.specs.Ledgers.{brought, carried, carried_at, carried_in, how_often}
use Rattle.followed_links.proofs.Counting.{both, with_load}
use Rattle.request_law.specs.Law.{ends_in}
use Rattle.followed_links.specs.Sides.{is_destroyed, Free, Lost, Side}
use Rattle.followed_links.specs.Invariant.{AreOwners, AreSpelled, IsAlive, IsSide, IsSideAt, IsStandingIn, Owners, told_to}
use Rattle.followed_links.specs.Owners.{Owner, ledger_of, phase_of, seen_of, turn_of}
use Rattle.followed_links.proofs.Calling.{below-or-above}
use Rattle.lost_ends.specs.Stopped.{ends_of}

pub same-count : (y : EndId) (xs : List EndId) → moves.how_often y xs ≡ how_often y xs
same-count y [] = refl
same-count y (x ∷ xs) = ap (λ (k : ℕ). (if end_eq x y then 1 else 0) + k) (same-count y xs)

-- the ends of messages that are spelled are those that the service has
pub spelled-ends : (version : ℕ) (ms : List Message) (gs : List Told) → AreSpelled version ms gs → ends_in ms ≡ flat_map (λ (g : Told). g.carried) gs
spelled-ends version [] [] is = refl
spelled-ends version [] (g ∷ gs) is = absurd is
spelled-ends version (m ∷ ms) [] is = absurd is
spelled-ends version (m ∷ ms) (g ∷ gs) is = ap (λ (l : List EndId). l ++ ends_in ms) is.0.ends ∙ ap (λ (l : List EndId). g.carried ++ l) (spelled-ends version ms gs is.1)

pub ends-of-both : (y : EndId) (gs hs : List Told) → how_often y (ends_of (gs ++ hs)) ≡ how_often y (ends_of gs) + how_often y (ends_of hs)
ends-of-both y [] hs = omega arith
ends-of-both y (g ∷ gs) hs =
    let one : how_often y (g.carried ++ ends_of (gs ++ hs)) ≡ how_often y g.carried + how_often y (ends_of (gs ++ hs)) = both y g.carried (ends_of (gs ++ hs)) in
    let two : how_often y (g.carried ++ ends_of gs) ≡ how_often y g.carried + how_often y (ends_of gs) = both y g.carried (ends_of gs) in
    let rest = ends-of-both y gs hs in
    omega (arith, one, two, rest)

-- a report tells of no other ends than it encloses
pub told-few : (y e : EndId) (r : Report) → how_often y (ends_of (told_by e r)) ≤ how_often y r.enclosed
told-few y e r = by (is_report_on e way.Inward r && is_done r.outcome)
  where
    by : (b : Bool) → how_often y (ends_of (if b then record { bytes = r.bytes; carried = r.enclosed } ∷ [] else [])) ≤ how_often y r.enclosed
    by true = let all : how_often y (r.enclosed ++ []) ≡ how_often y r.enclosed + 0 = both y r.enclosed [] in omega (arith, all)
    by false = omega arith

pub told-in-few : (y e : EndId) (rs : List Report) → how_often y (ends_of (told_in e rs)) ≤ how_often y (enclosed_in rs)
told-in-few y e [] = omega arith
told-in-few y e (r ∷ rs) =
    let one = told-few y e r in
    let rest = told-in-few y e rs in
    let left : how_often y (ends_of (told_by e r ++ told_in e rs)) ≡ how_often y (ends_of (told_by e r)) + how_often y (ends_of (told_in e rs)) = ends-of-both y (told_by e r) (told_in e rs) in
    let right : how_often y (r.enclosed ++ enclosed_in rs) ≡ how_often y r.enclosed + how_often y (enclosed_in rs) = both y r.enclosed (enclosed_in rs) in
    omega (arith, one, rest, left, right)

pub told-to-few : (y e : EndId) (given : Option Answer) → how_often y (ends_of (told_to e given)) ≤ how_often y (brought given)
told-to-few y e None = omega arith
told-to-few y e (Some (answer.Reported r)) = told-few y e r
told-to-few y e (Some (answer.Made a b)) = omega arith
told-to-few y e (Some answer.Ok) = omega arith
told-to-few y e (Some (answer.Refused cause)) = omega arith

pub some-or-none : (k : ℕ) → (1 ≤ k) ⊎ (k < 1)
some-or-none zero = inr (omega arith)
some-or-none (suc k) = inl (omega arith)

pub place-out : (ps : List process_run.Place) (number : ℕ) (k : Kept) → holding_of (place_at number ps) ≡ Keeps k → (y : EndId) → how_often y (carried k) ≤ how_often y (carried_at ps)
place-out ps number k held y = by (place_at number ps) refl
  where
    by : (at : Option process_run.Place) → place_at number ps ≡ at → how_often y (carried k) ≤ how_often y (carried_at ps)
    by None is = let no : Gone false ≡ Keeps k = sym (ap holding_of is) ∙ held in absurd cc
    by (Some p) is =
        let same : p.holding ≡ Keeps k = sym (ap holding_of is) ∙ held in
        let its : how_often y (carried_in p.holding) ≡ how_often y (carried k) = ap (λ (h : Holding). how_often y (carried_in h)) same in
        let all : how_often y (carried_at (with_holding number (Gone false) ps)) + how_often y (carried_in p.holding) ≡ how_often y (carried_at ps) + 0 = with_load y number p (Gone false) ps is in
        omega (arith, its, all)

-- what is kept for an end is carried
pub held-out : (o : Owner) (e : EndId) (k : Kept) → (seen_of o e).holding ≡ Keeps k → (y : EndId) → how_often y (carried k) ≤ (seen_of o y).out
held-out o e k held y =
    let few : how_often y (carried k) ≤ how_often y (carried_at (known_ledger (turn_of o) (ledger_of o)).places) =
    place-out (known_ledger (turn_of o) (ledger_of o)).places (number_of e (known_ledger (turn_of o) (ledger_of o)).places) k held y in
    omega (arith, few)

-- ---- owners

module _ (version count : ℕ) (s : Service) (n : ℕ) (os : Owners) (is : AreOwners version count s n os) where
  -- who owns an end is one of the processes, and has not ended
  pub owner-alive : (p : Pid) (e : EndId) → (s.ends e).place ≡ place.Owned p → (p.0 < count) × IsAlive (os p.0)
  owner-alive p e own = ⊎_elim (λ below. (below, λ over. running (is.each p.0 below).phase over)) (λ above. absurd (nobody above)) (below-or-above count p.0)
    where
      unended : (s.process p.0).phase ≡ phase.Ended → ⊥
      unended = subst (IsHeldAt s e) own (is.consistent.kept.held.held e)

      running : (s.process p.0).phase ≡ phase_of (os p.0).status → phase_of (os p.0).status ≡ phase.Ended → ⊥
      running same over = unended (same ∙ over)

      nobody : count ≤ p.0 → ⊥
      nobody above = unended (ap (λ (x : Process). x.phase) (is.consistent.processes.others p (subst (λ (c : ℕ). c ≤ p.0) (sym is.count_is) above)))

-- an end that is not destroyed stands so
pub undestroyed : (version : ℕ) (s : Service) (os : Owners) (e : EndId) (side : Side) → IsSide version s os e side → ((s.ends e).place ≡ place.Destroyed → ⊥) → is_destroyed side.standing ≡ false
undestroyed version s os e side sides stays = by (s.ends e).place refl sides
  where
    held : (m : ℕ) (o : Owners) (p : ℕ) (h : Holding) → IsStandingIn m (seen_of (o p) e) h side.standing → is_destroyed side.standing ≡ false
    held m o p (Keeps k) stands = ap is_destroyed stands
    held m o p (Gone own) stands = ⊎_elim (λ (free : side.standing ≡ Free). ap is_destroyed free) (λ (lost : side.standing ≡ Lost). ap is_destroyed lost) stands.0

    by : (at : Place) → (s.ends e).place ≡ at → IsSideAt version s os e side at → is_destroyed side.standing ≡ false
    by place.Unmade unmade at = ap (λ (z : Side). is_destroyed z.standing) at
    by (place.Owned p) own at = held (brings s p e) os p.0 (seen_of (os p.0) e).holding at.standing
    by (place.InMessage f m) inside at = ap is_destroyed at.0
    by place.Destroyed gone at = absurd (stays gone)
