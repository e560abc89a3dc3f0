-- What a process has of an end, where no Send of it was answered.
use Rattle.std.proofs.Common.{◌≡◌, ℕ, ◌+◌, Bool, false, if◌then◌else◌, None, List, [], ◌∷◌, refl, sym, ap, ap₂, ◌∙◌, arith}
use Rattle.charlotte_calls.specs.declared.names.EndId.{EndId}
use Rattle.end_protocol.specs.Going.{sent}
use Rattle.run_invariant.specs.States.{Asked, Gone, Holding, Keeps, Place}
use Rattle.run_invariant.specs.States as process
use Rattle.run_invariant.specs.AtEnd.{Seen, is_sent, known_from, known_holding, seen, total}
use Rattle.run_invariant.specs.Ledgers.{brought, carried_at, how_often}
use Rattle.run_invariant.specs.Telling.{Turn}
use Rattle.run_invariant.specs.Owners.{Owner, Status, given_of, ledger_of, seen_of, turn_of}

pub unanswered : (asked : Asked) (n : ℕ) → is_sent asked None n ≡ false
unanswered (process.Send m) n = refl
unanswered _ n = refl

module _ (t : Turn) (unsent : (n : ℕ) → is_sent t.asked t.given n ≡ false) where
  same-holding : (n : ℕ) (g : Holding) → known_holding t n g ≡ g
  same-holding n (Keeps k) = ap (λ (b : Bool). Keeps (if b then sent k else k)) (unsent n)
  same-holding n (Gone own) = refl

  same-places : (n : ℕ) (ps : List Place) → known_from t n ps ≡ ps
  same-places n [] = refl
  same-places n (p ∷ ps) = ap₂ (λ (g : Holding) (l : List Place). record p { holding = g } ∷ l) (same-holding n p.holding) (same-places (n + 1) ps)

-- no Send of it was answered Ok
abbrev pub IsUnsent : Owner → Type 0
IsUnsent o = (n : ℕ) → is_sent o.state.asked (given_of o.status) n ≡ false

pub seen-so : (o : Owner) (x : EndId) → IsUnsent o → seen_of o x ≡ seen x (ledger_of o)
seen-so o x unsent = ap (λ (ps : List Place). seen x (record (ledger_of o) { places = ps })) (same-places (turn_of o) unsent 1 o.state.places)

-- two owners that keep the same
module _ (o : Owner) (st : Status) (x : EndId) (o-unsent : IsUnsent o) (q-unsent : IsUnsent (record o { status = st })) where
  abbrev now : Owner
  now = record o { status = st }

  pub holding-same : (seen_of now x).holding ≡ (seen_of o x).holding
  holding-same = ap (λ (a : Seen). a.holding) (seen-so now x q-unsent) ∙ sym (ap (λ (a : Seen). a.holding) (seen-so o x o-unsent))

  pub out-more : (seen_of now x).out + how_often x (brought (given_of o.status)) ≡ (seen_of o x).out + how_often x (brought (given_of st))
  out-more =
      let there : (seen_of now x).out ≡ how_often x (carried_at o.state.places) + how_often x (brought (given_of st)) = ap (λ (a : Seen). a.out) (seen-so now x q-unsent) in
      let here : (seen_of o x).out ≡ how_often x (carried_at o.state.places) + how_often x (brought (given_of o.status)) = ap (λ (a : Seen). a.out) (seen-so o x o-unsent) in
      omega arith

  pub total-more : total (seen_of now x) + how_often x (brought (given_of o.status)) ≡ total (seen_of o x) + how_often x (brought (given_of st))
  total-more =
      let there : total (seen_of now x) ≡ total (seen x (ledger_of now)) = ap total (seen-so now x q-unsent) in
      let here : total (seen_of o x) ≡ total (seen x (ledger_of o)) = ap total (seen-so o x o-unsent) in
      omega arith
