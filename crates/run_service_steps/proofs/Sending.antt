-- What a process has of each end, where its Send was answered Ok.
use Rattle.std.proofs.Common.{◌≡◌, ◌⊎◌, inl, inr, ℕ, zero, suc, ◌+◌, ◌≤◌, ◌==◌, Bool, true, false, if◌then◌else◌, Option, Some, None, List, [], ◌∷◌, ◌++◌, take, slice_get, refl, sym, ap, subst, ◌∙◌, arith}
use Rattle.std.specs.List.{Contains, flat_map}
use Rattle.charlotte_calls.specs.declared.calls.Answer.TheVariants as answer
use Rattle.charlotte_calls.specs.declared.calls.Call.TheVariants as call
use Rattle.charlotte_calls.specs.declared.names.EndId.{EndId}
use Rattle.service_change.proofs.EndEq.{end_eq-refl, end_eq-same}
use Rattle.service_step.specs.Ends.{end_eq}
use Rattle.end_protocol.specs.declared.kept.Kept.{Kept}
use Rattle.end_protocol.specs.declared.messages.Message.{Message}
use Rattle.end_protocol.specs.Falling.{outstanding_ends, reply_ends, request_ends}
use Rattle.end_protocol.specs.Going.{enclosed, sent}
use Rattle.end_protocol.specs.Lists.{tail}
use Rattle.end_protocol.specs.Messages.{most_of}
use Rattle.run_invariant.specs.Ends.{number_from, number_of, or_number, place_at}
use Rattle.run_invariant.specs.Reports.{holding_of}
use Rattle.run_invariant.specs.States.{Asked, Gone, Holding, Keeps, Place, State}
use Rattle.run_invariant.specs.States as process
use Rattle.run_invariant.specs.Asking.{IsSending}
use Rattle.run_invariant.specs.AtEnd.{AreSingle, Seen, held_count, holding_at, is_sent, known_from, known_holding, seen, total}
use Rattle.run_invariant.specs.Ledgers.{carried, carried_at, carried_in, how_often}
use Rattle.run_invariant.specs.Telling.{Turn}
use Rattle.run_invariant.specs.Owners.{Asks, Owner, Told, ledger_of, seen_of}
use Rattle.run_service_steps.proofs.Owning.{other-pid, same-pid}
use Rattle.run_service_steps.proofs.Seen.{seen-so, unanswered}

-- ---- lists of ends

pub append-often : (x : EndId) (xs ys : List EndId) → how_often x (xs ++ ys) ≡ how_often x xs + how_often x ys
append-often x [] ys = omega arith
append-often x (y ∷ xs) ys = let more = append-often x xs ys in omega arith

take-often : (x : EndId) (n : ℕ) (xs : List EndId) → how_often x (take n xs) ≤ how_often x xs
take-often x zero xs = omega arith
take-often x (suc n) [] = omega arith
take-often x (suc n) (y ∷ xs) = let more = take-often x n xs in omega arith

among-often : (x : EndId) (xs : List EndId) → Contains xs x → 1 ≤ how_often x xs
among-often x [] (k, below, same) = absurd (omega arith)
among-often x (y ∷ xs) (zero, below, same) =
    let one : how_often x (y ∷ xs) ≡ 1 + how_often x xs = ap (λ (b : Bool). (if b then 1 else 0) + how_often x xs) (ap (end_eq y) (sym same) ∙ end_eq-refl y) in omega arith
among-often x (y ∷ xs) (suc k, below, same) =
    let more : 1 ≤ how_often x xs = among-often x xs (k, (omega arith), same) in omega arith

-- ---- what is carried

-- with this queue
abbrev carried_with : Kept → List Message → List EndId
carried_with k q =
    flat_map (λ m. m.ends) q ++ outstanding_ends k.outstanding ++ flat_map (λ c. c.ends) k.behind ++ request_ends k.request ++ reply_ends k.reply

often-with : (x : EndId) (k : Kept) (q : List Message)
    → how_often x (carried_with k q) ≡ how_often x (flat_map (λ m. m.ends) q) + (how_often x (outstanding_ends k.outstanding) + how_often x (flat_map (λ c. c.ends) k.behind) + how_often x (request_ends k.request) + how_often x (reply_ends k.reply))
often-with x k q =
    let one = append-often x (flat_map (λ m. m.ends) q ++ outstanding_ends k.outstanding ++ flat_map (λ c. c.ends) k.behind ++ request_ends k.request) (reply_ends k.reply) in
    let two = append-often x (flat_map (λ m. m.ends) q ++ outstanding_ends k.outstanding ++ flat_map (λ c. c.ends) k.behind) (request_ends k.request) in
    let three = append-often x (flat_map (λ m. m.ends) q ++ outstanding_ends k.outstanding) (flat_map (λ c. c.ends) k.behind) in
    let four = append-often x (flat_map (λ m. m.ends) q) (outstanding_ends k.outstanding) in
    omega arith

first-of : (x : EndId) (k : Kept) (m : Message) (rest : List Message) → how_often x (carried_with k rest) + how_often x m.ends ≡ how_often x (carried_with k (m ∷ rest))
first-of x k m rest =
    let less = often-with x k rest in
    let all = often-with x k (m ∷ rest) in
    let more : how_often x (flat_map (λ l. l.ends) (m ∷ rest)) ≡ how_often x m.ends + how_often x (flat_map (λ l. l.ends) rest) = append-often x m.ends (flat_map (λ l. l.ends) rest) in
    omega arith

sent-first : (x : EndId) (k : Kept) (m : Message) (rest : List Message) → k.queue ≡ m ∷ rest → how_often x (carried (sent k)) + how_often x m.ends ≡ how_often x (carried k)
unfolding sent
sent-first x k m rest e = subst (λ (q : List Message). how_often x (carried_with k (tail q)) + how_often x m.ends ≡ how_often x (carried_with k q)) (sym e) (first-of x k m rest)

sent-none : (x : EndId) (k : Kept) → k.queue ≡ [] → how_often x (carried (sent k)) ≡ how_often x (carried k)
unfolding sent
sent-none x k e = subst (λ (q : List Message). how_often x (carried_with k (tail q)) ≡ how_often x (carried_with k q)) (sym e) refl

sent-less : (x : EndId) (k : Kept) → how_often x (carried (sent k)) ≤ how_often x (carried k)
sent-less x k = by k.queue refl
  where
    by : (q : List Message) → k.queue ≡ q → how_often x (carried (sent k)) ≤ how_often x (carried k)
    by [] e = let same = sent-none x k e in omega arith
    by (m ∷ rest) e = let first = sent-first x k m rest e in omega arith

-- ---- numbers

number-least : (x : EndId) (n : ℕ) (ps : List Place) → (number_from n x ps ≡ 0) ⊎ (n ≤ number_from n x ps)
number-least x n [] = inl refl
number-least x n (p ∷ ps) = by (number_from (n + 1) x ps) (number-least x (n + 1) ps) (end_eq p.end x)
  where
    by : (z : ℕ) → (z ≡ 0) ⊎ (n + 1 ≤ z) → (b : Bool) → (or_number z (if b then n else 0) ≡ 0) ⊎ (n ≤ or_number z (if b then n else 0))
    by zero least true = inr (omega arith)
    by zero least false = inl refl
    by (suc z) (inl none) b = absurd (omega arith)
    by (suc z) (inr more) b = inr (omega arith)

same-place : (p q : Place) → ◌≡◌ {A = Option Place} (Some p) (Some q) → p ≡ q
same-place p q e = cc

no-place : (p : Place) → ◌≡◌ {A = Option Place} None (Some p) → ⊥
no-place p e = cc

-- the place of an end's number is of that end
number-named : (x : EndId) (n i : ℕ) (ps : List Place) (p : Place) → 1 ≤ n → slice_get ps i ≡ Some p → number_from n x ps ≡ n + i → p.end ≡ x
number-named x n i [] p from at is = absurd (no-place p at)
number-named x n zero (q ∷ ps) p from at is = by (number_from (n + 1) x ps) (number-least x (n + 1) ps) (end_eq q.end x) refl is
  where
    by : (z : ℕ) → (z ≡ 0) ⊎ (n + 1 ≤ z) → (b : Bool) → end_eq q.end x ≡ b → or_number z (if b then n else 0) ≡ n + 0 → p.end ≡ x
    by zero least true same eq = ap (λ (r : Place). r.end) (sym (same-place q p at)) ∙ end_eq-same q.end x same
    by zero least false apart eq = absurd (omega arith)
    by (suc z) (inl none) b e eq = absurd (omega arith)
    by (suc z) (inr more) b e eq = absurd (omega arith)
number-named x n (suc i) (q ∷ ps) p from at is = by (number_from (n + 1) x ps) refl (end_eq q.end x) is (λ eq. number-named x (n + 1) i ps p (omega arith) at eq)
  where
    by : (z : ℕ) → number_from (n + 1) x ps ≡ z → (b : Bool) → or_number z (if b then n else 0) ≡ n + suc i → (number_from (n + 1) x ps ≡ n + 1 + i → p.end ≡ x) → p.end ≡ x
    by zero none true eq later = absurd (omega arith)
    by zero none false eq later = absurd (omega arith)
    by (suc z) its b eq later = later (omega arith)

-- ---- known places

module _ (t : Turn) where
  count-known : (n : ℕ) (g : Holding) → held_count (known_holding t n g) ≡ held_count g
  count-known n (Keeps k) = refl
  count-known n (Gone own) = refl

  number-known : (x : EndId) (n m : ℕ) (ps : List Place) → number_from n x (known_from t m ps) ≡ number_from n x ps
  number-known x n m [] = refl
  number-known x n m (p ∷ ps) = ap (λ (i : ℕ). or_number i (if end_eq p.end x then n else 0)) (number-known x (n + 1) (m + 1) ps)

  place-known : (n i : ℕ) (ps : List Place) → holding_of (slice_get (known_from t n ps) i) ≡ known_holding t (n + i) (holding_of (slice_get ps i))
  place-known n i [] = refl
  place-known n zero (p ∷ ps) = ap (λ (m : ℕ). known_holding t m p.holding) (omega arith)
  place-known n (suc i) (p ∷ ps) = place-known (n + 1) i ps ∙ ap (λ (m : ℕ). known_holding t m (holding_of (slice_get ps i))) (omega arith)

  pub holding-known : (x : EndId) (ps : List Place) → holding_at x (known_from t 1 ps) ≡ known_holding t (number_of x ps) (holding_at x ps)
  holding-known x ps = ap (λ (n : ℕ). holding_of (place_at n (known_from t 1 ps))) (number-known x 1 1 ps) ∙ by (number_of x ps)
    where
      by : (n : ℕ) → holding_of (place_at n (known_from t 1 ps)) ≡ known_holding t n (holding_of (place_at n ps))
      by zero = refl
      by (suc i) = place-known 1 i ps ∙ ap (λ (m : ℕ). known_holding t m (holding_of (slice_get ps i))) (omega arith)

  known-less : (x : EndId) (n : ℕ) (g : Holding) → how_often x (carried_in (known_holding t n g)) ≤ how_often x (carried_in g)
  known-less x n (Gone own) = omega arith
  known-less x n (Keeps k) = by (is_sent t.asked t.given n)
    where
      by : (b : Bool) → how_often x (carried (if b then sent k else k)) ≤ how_often x (carried k)
      by true = sent-less x k
      by false = omega arith

  places-less : (x : EndId) (n : ℕ) (ps : List Place) → how_often x (carried_at (known_from t n ps)) ≤ how_often x (carried_at ps)
  places-less x n [] = omega arith
  places-less x n (p ∷ ps) =
      let now : how_often x (carried_at (known_from t n (p ∷ ps))) ≡ how_often x (carried_in (known_holding t n p.holding)) + how_often x (carried_at (known_from t (n + 1) ps)) =
      append-often x (carried_in (known_holding t n p.holding)) (carried_at (known_from t (n + 1) ps)) in
      let was : how_often x (carried_at (p ∷ ps)) ≡ how_often x (carried_in p.holding) + how_often x (carried_at ps) = append-often x (carried_in p.holding) (carried_at ps) in
      let here = known-less x n p.holding in
      let rest = places-less x (n + 1) ps in
      omega arith

  places-first : (x : EndId) (n i : ℕ) (ps : List Place) (p : Place) (k : Kept) (m : Message) (rest : List Message) → slice_get ps i ≡ Some p → p.holding ≡ Keeps k
      → is_sent t.asked t.given (n + i) ≡ true → k.queue ≡ m ∷ rest → how_often x (carried_at (known_from t n ps)) + how_often x m.ends ≤ how_often x (carried_at ps)
  places-first x n i [] p k m rest at holds its first = absurd (no-place p at)
  places-first x n zero (q ∷ ps) p k m rest at holds its first =
      let now : how_often x (carried_at (known_from t n (q ∷ ps))) ≡ how_often x (carried_in (known_holding t n q.holding)) + how_often x (carried_at (known_from t (n + 1) ps)) =
      append-often x (carried_in (known_holding t n q.holding)) (carried_at (known_from t (n + 1) ps)) in
      let was : how_often x (carried_at (q ∷ ps)) ≡ how_often x (carried_in q.holding) + how_often x (carried_at ps) = append-often x (carried_in q.holding) (carried_at ps) in
      let here : how_often x (carried_in (known_holding t n q.holding)) ≡ how_often x (carried (sent k)) =
      ap (λ (g : Holding). how_often x (carried_in (known_holding t n g))) holding ∙ ap (λ (b : Bool). how_often x (carried (if b then sent k else k))) (ap (is_sent t.asked t.given) (omega arith) ∙ its) in
      let there : how_often x (carried_in q.holding) ≡ how_often x (carried k) = ap (λ (g : Holding). how_often x (carried_in g)) holding in
      let less = sent-first x k m rest first in
      let others = places-less x (n + 1) ps in
      omega arith
    where
      holding : q.holding ≡ Keeps k
      holding = ap (λ (r : Place). r.holding) (same-place q p at) ∙ holds
  places-first x n (suc i) (q ∷ ps) p k m rest at holds its first =
      let now : how_often x (carried_at (known_from t n (q ∷ ps))) ≡ how_often x (carried_in (known_holding t n q.holding)) + how_often x (carried_at (known_from t (n + 1) ps)) =
      append-often x (carried_in (known_holding t n q.holding)) (carried_at (known_from t (n + 1) ps)) in
      let was : how_often x (carried_at (q ∷ ps)) ≡ how_often x (carried_in q.holding) + how_often x (carried_at ps) = append-often x (carried_in q.holding) (carried_at ps) in
      let here = known-less x n q.holding in
      let more = places-first x (n + 1) i ps p k m rest at holds (ap (is_sent t.asked t.given) (omega arith) ∙ its) first in
      omega arith

-- ---- the owner of the end

module _ (state : State) (e : EndId) (bytes : List ℕ) (xs : List EndId) (asked : IsSending state e bytes xs) (single : AreSingle state.places) where
  abbrev pub asking : Owner
  asking = record { state = state; status = Asks (call.Send e bytes xs) }

  abbrev pub answered : Owner
  answered = record { state = state; status = Told (call.Send e bytes xs) answer.Ok }

  abbrev turn : Turn
  turn = record { asked = process.Send asked.number; given = Some answer.Ok }

  abbrev its : Place
  its = record { end = e; holding = Keeps asked.kept }

  was-so : (x : EndId) → seen_of asking x ≡ seen x (ledger_of asking)
  was-so x = seen-so asking x (unanswered state.asked)

  now-so : (x : EndId) → seen_of answered x ≡ seen x (record (ledger_of asking) { places = known_from turn 1 state.places })
  now-so x = ap (λ (a : Asked). seen x (record (ledger_of asking) { places = known_from (record { asked = a; given = Some answer.Ok }) 1 state.places })) asked.asked

  holding-now : (x : EndId) → (seen_of answered x).holding ≡ known_holding turn (number_of x state.places) (holding_at x state.places)
  holding-now x = ap (λ (a : Seen). a.holding) (now-so x) ∙ holding-known turn x state.places

  its-holding : holding_at e state.places ≡ Keeps asked.kept
  its-holding =
      ap (λ (n : ℕ). holding_of (place_at n state.places)) (sym (single asked.number e asked.kept asked.held)) ∙ ap holding_of asked.held

  pub held-before : (seen_of asking e).holding ≡ Keeps asked.kept
  held-before = ap (λ (a : Seen). a.holding) (was-so e) ∙ its-holding

  pub held-after : (seen_of answered e).holding ≡ Keeps (sent asked.kept)
  held-after =
      holding-now e ∙ ap (known_holding turn (number_of e state.places)) its-holding
      ∙ ap (λ (b : Bool). Keeps (if b then sent asked.kept else asked.kept)) (ap (λ (n : ℕ). asked.number == n) (sym (single asked.number e asked.kept asked.held)) ∙ same-pid asked.number)

  -- at another end nothing changes
  other-number : (x : EndId) → (e ≡ x → ⊥) → asked.number == number_of x state.places ≡ false
  other-number x apart = other-pid asked.number (number_of x state.places) (λ same. by asked.number asked.held same)
    where
      by : (n : ℕ) → place_at n state.places ≡ Some its → n ≡ number_of x state.places → ⊥
      by zero at same = no-place its at
      by (suc i) at same = apart (number-named x 1 i state.places its (omega arith) at (sym same ∙ omega arith))

  pub held-else : (x : EndId) → (e ≡ x → ⊥) → (seen_of answered x).holding ≡ (seen_of asking x).holding
  held-else x apart = holding-now x ∙ still (holding_at x state.places) ∙ sym (ap (λ (a : Seen). a.holding) (was-so x))
    where
      still : (g : Holding) → known_holding turn (number_of x state.places) g ≡ g
      still (Keeps k) = ap (λ (b : Bool). Keeps (if b then sent k else k)) (other-number x apart)
      still (Gone own) = refl

  count-same : (x : EndId) → held_count (seen_of answered x).holding ≡ held_count (seen_of asking x).holding
  count-same x = ap held_count (holding-now x) ∙ count-known turn (number_of x state.places) (holding_at x state.places) ∙ sym (ap held_count (ap (λ (a : Seen). a.holding) (was-so x)))

  out-now : (x : EndId) → (seen_of answered x).out ≡ how_often x (carried_at (known_from turn 1 state.places)) + 0
  out-now x = ap (λ (a : Seen). a.out) (now-so x)

  out-was : (x : EndId) → (seen_of asking x).out ≡ how_often x (carried_at state.places) + 0
  out-was x = ap (λ (a : Seen). a.out) (was-so x)

  pub out-less : (x : EndId) → (seen_of answered x).out ≤ (seen_of asking x).out
  out-less x =
      let less = places-less turn x 1 state.places in
      let now = out-now x in
      let was = out-was x in
      omega arith

  pub total-less : (x : EndId) → total (seen_of answered x) ≤ total (seen_of asking x)
  total-less x =
      let out = out-less x in
      let count = count-same x in
      omega arith

  -- the ends that are sent with it are in one place less
  less-carried : (x : EndId) (n : ℕ) → place_at n state.places ≡ Some its → asked.number ≡ n
      → how_often x (carried_at (known_from turn 1 state.places)) + how_often x asked.message.ends ≤ how_often x (carried_at state.places)
  less-carried x zero at same = absurd (no-place its at)
  less-carried x (suc i) at same =
      places-first turn x 1 i state.places its asked.kept asked.message asked.rest at refl (ap (λ (n : ℕ). asked.number == n) (omega arith) ∙ same-pid asked.number) asked.first

  pub out-sent : (x : EndId) → Contains xs x → suc (seen_of answered x).out ≤ (seen_of asking x).out
  out-sent x among =
      let less = less-carried x asked.number asked.held refl in
      let some : 1 ≤ how_often x xs = among-often x xs among in
      let of : how_often x xs ≡ how_often x (enclosed state.version asked.message) = ap (how_often x) asked.encloses in
      let most : how_often x (enclosed state.version asked.message) ≤ how_often x asked.message.ends = take-often x (most_of state.version) asked.message.ends in
      let now = out-now x in
      let was = out-was x in
      omega arith

  pub total-sent : (x : EndId) → Contains xs x → suc (total (seen_of answered x)) ≤ total (seen_of asking x)
  total-sent x among =
      let out = out-sent x among in
      let count = count-same x in
      omega arith
