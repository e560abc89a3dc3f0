-- Where each step brings an end, and with which report.
use Rattle.std.proofs.Common.{◌≡◌, ℕ, ◌+◌, ◌≤◌, Bool, true, false, true≢false, nat_eq, ◌||◌, not, ◌⊎◌, inl, inr, if◌then◌else◌, Option, Some, None, List, [], ◌∷◌, ◌++◌, append-nil, refl, sym, ap, subst, ◌∙◌, arith}
use Rattle.std.proofs.lemmas.Grind.{flat_map-append}
use Rattle.std.specs.List.{list_any}
use Rattle.charlotte_calls.proofs.Causes.{AllFail, none-fails}
use Rattle.charlotte_calls.specs.Causes.{send_causes}
use Rattle.charlotte_calls.specs.EndEq.{names_twice}
use Rattle.charlotte_calls.specs.Names.{opposite}
use Rattle.charlotte_calls.specs.declared.calls.Report.{Report}
use Rattle.charlotte_calls.specs.declared.calls.ServiceStep.{ServiceStep}
use Rattle.charlotte_calls.specs.declared.calls.ServiceStep.TheVariants as step
use Rattle.charlotte_calls.specs.declared.names.EndId.{EndId}
use Rattle.charlotte_calls.specs.declared.names.Outcome.TheVariants as outcome
use Rattle.charlotte_calls.specs.declared.names.Pid.{Pid}
use Rattle.charlotte_calls.specs.declared.names.Way.{Way}
use Rattle.charlotte_calls.specs.declared.names.Way.TheVariants as way
use Rattle.service_change.proofs.Change.{none-some}
use Rattle.service_change.proofs.Counts.{and-true}
use Rattle.service_change.proofs.EndEq.{among, among-Contains, end_eq-refl, end_eq-same, end_eq-sym, places-among, places-other, put-at, put-other, puts-at}
use Rattle.service_change.proofs.Facts.{made-owned, not-false, owned_by-Owned, owner-Owned, running-owner}
use Rattle.service_custody.proofs.Gains.{Gain, adds, ended, gain, gained, to_each}
use Rattle.service_custody.proofs.Turns.{destroyed-is, new-unmade}
use Rattle.service_custody.specs.Moves.{Moves, Ends, Lands, Leaves, Makes, Stays, brings, enclosed_in, gives, given_to, how_often}
use Rattle.service_lawful.specs.Consistent.{IsConsistent}
use Rattle.service_runs.proofs.Moves.{puts-apart, puts-either}
use Rattle.service_step.specs.Causes.{sees}
use Rattle.service_step.specs.Ends.{end_eq, is_started_inward, matched_outward, carried_by, destroys, destroys_each, destroys_owned, dropped, fresh, idles, is_destroyed, is_made, is_owned_by, makes, matched_message, matches, noticed_end, notices, owner, places, put, puts, returned_end, returns, starts_send, takes, to_owner, turns_inward, turns_outward, unmade, waiting_message}
use Rattle.service_step.specs.Lawful.{message_of}
use Rattle.service_step.specs.State.{State, dead_receive_report, next_link, send_report}
use Rattle.service_step.specs.Steps.{IsServiceStep, after_cancel, dead_reports, done_reports, is_new_pair, may_send_as, returned_reports, runs}
use Rattle.service_step.specs.declared.state.End.{End}
use Rattle.service_step.specs.declared.state.Inward.TheVariants as inward
use Rattle.service_step.specs.declared.state.Message.{Message}
use Rattle.service_step.specs.declared.state.Outward.{Outward}
use Rattle.service_step.specs.declared.state.Outward.TheVariants as outward
use Rattle.service_step.specs.declared.state.Phase.TheVariants as phase
use Rattle.service_step.specs.declared.state.Place.TheVariants as place
use Rattle.service_streams.specs.Streams.{cancels_send}

-- how often reports bring an end
abbrev bring : EndId → List Report → ℕ
bring x rs = how_often x (enclosed_in rs)

how_often-append : (x : EndId) (a b : List EndId) → how_often x (a ++ b) ≡ how_often x a + how_often x b
how_often-append x [] b = omega arith
how_often-append x (y ∷ a) b = let rest = how_often-append x a b in omega arith

bring-append : (x : EndId) (a b : List Report) → bring x (a ++ b) ≡ bring x a + bring x b
bring-append x a b = ap (how_often x) (flat_map-append (λ (r : Report). r.enclosed) a b) ∙ how_often-append x (enclosed_in a) (enclosed_in b)

or-false : (a b : Bool) → a || b ≡ false → (a ≡ false) × (b ≡ false)
or-false true b is = absurd (true≢false is)
or-false false b is = (refl, is)

how_often-none : (x : EndId) (xs : List EndId) → among x xs ≡ false → how_often x xs ≡ 0
how_often-none x [] none = refl
how_often-none x (y ∷ xs) none =
    let both = or-false (end_eq x y) (among x xs) none in
    let first : how_often x (y ∷ xs) ≡ 0 + how_often x xs = ap (λ b. (if b then 1 else 0) + how_often x xs) (end_eq-sym y x ∙ both.0) in
    let rest : how_often x xs ≡ 0 = how_often-none x xs both.1 in
    omega arith

-- an end stands once among different ones
how_often-one : (x : EndId) (xs : List EndId) → names_twice xs ≡ false → among x xs ≡ true → how_often x xs ≡ 1
how_often-one x [] apart is = absurd (true≢false (sym is))
how_often-one x (y ∷ xs) apart is = by (end_eq x y) refl is (how_often-one x xs)
  where
    both : (list_any (end_eq y) xs ≡ false) × (names_twice xs ≡ false)
    both = or-false (list_any (end_eq y) xs) (names_twice xs) apart

    first : (b : Bool) → end_eq x y ≡ b → how_often x (y ∷ xs) ≡ (if b then 1 else 0) + how_often x xs
    first b same = ap (λ c. (if c then 1 else 0) + how_often x xs) (end_eq-sym y x ∙ same)

    by : (b : Bool) → end_eq x y ≡ b → b || among x xs ≡ true → (names_twice xs ≡ false → among x xs ≡ true → how_often x xs ≡ 1) → how_often x (y ∷ xs) ≡ 1
    by true same is rest =
        let none : how_often x xs ≡ 0 = how_often-none x xs (subst (λ z. list_any (end_eq z) xs ≡ false) (sym (end_eq-same x y same)) both.0) in
        let whole : how_often x (y ∷ xs) ≡ 1 + how_often x xs = first true same in
        omega arith
    by false other is rest = let whole : how_often x (y ∷ xs) ≡ 0 + how_often x xs = first false other in let one : how_often x xs ≡ 1 = rest both.1 is in omega arith

-- what the reports of a step bring

returned-bring : (x e : EndId) (o : Option Message) → bring x (returned_reports e o) ≡ how_often x (carried_by o)
returned-bring x e None = refl
returned-bring x e (Some m) = ap (how_often x) (append-nil m.carried)

done-bring : (x e : EndId) (o : Option Message) → bring x (done_reports e o) ≡ how_often x (carried_by o)
done-bring x e None = refl
done-bring x e (Some m) = ap (how_often x) (append-nil m.carried)

dead-bring : (x e : EndId) (y : End) → bring x (dead_reports e y) ≡ 0
dead-bring x e y = by (is_started_inward y.inward)
  where
    by : (b : Bool) → bring x (if b then dead_receive_report e ∷ [] else []) ≡ 0
    by true = refl
    by false = refl

both-bring : (x e : EndId) (o : Option Message) (y : End) → bring x (returned_reports e o ++ dead_reports e y) ≡ how_often x (carried_by o)
both-bring x e o y =
    let whole : bring x (returned_reports e o ++ dead_reports e y) ≡ bring x (returned_reports e o) + bring x (dead_reports e y) = bring-append x (returned_reports e o) (dead_reports e y) in
    let first : bring x (returned_reports e o) ≡ how_often x (carried_by o) = returned-bring x e o in
    let none : bring x (dead_reports e y) ≡ 0 = dead-bring x e y in
    omega arith

back-bring : (x e : EndId) (o : Option Message) (y : End) (b : Bool) → bring x (if b then returned_reports e o else returned_reports e o ++ dead_reports e y) ≡ how_often x (carried_by o)
back-bring x e o y true = returned-bring x e o
back-bring x e o y false = both-bring x e o y

-- places

puts-place : (e : EndId) (y : End) (t : EndId → End) (q : EndId) → y.place ≡ (t e).place → (puts e y t q).place ≡ (t q).place
puts-place e y t q same = by (end_eq q e) refl
  where
    its : (puts e y t e ≡ y) ⊎ (puts e y t e ≡ t e) → (puts e y t e).place ≡ (t e).place
    its (inl put) = ap (λ z. z.place) put ∙ same
    its (inr kept) = ap (λ z. z.place) kept

    by : (b : Bool) → end_eq q e ≡ b → (puts e y t q).place ≡ (t q).place
    by true one = subst (λ z. (puts e y t z).place ≡ (t z).place) (sym (end_eq-same q e one)) (its (puts-either e y t))
    by false apart = ap (λ z. z.place) (puts-apart e q y t apart)

-- destroy: an end is destroyed as the one, or with its message, or stays
destroys-one : (t : EndId → End) (e q : EndId) → is_made (t e).place ≡ true → (among q (carried_by (waiting_message (t e).outward)) ≡ true → is_made (t q).place ≡ true)
    → (((destroys e t q).place ≡ place.Destroyed) × ((q ≡ e) ⊎ (among q (carried_by (waiting_message (t e).outward)) ≡ true))) ⊎ (destroys e t q ≡ t q)
unfolding destroys
destroys-one t e q was there = by (end_eq q e) refl (among q xs) refl
  where
    xs : List EndId
    xs = carried_by (waiting_message (t e).outward)

    y : End
    y = record (t e) { place = place.Destroyed; outward = dropped (t e).outward }

    u : EndId → End
    u = puts e y t

    its : q ≡ e → (u q).place ≡ place.Destroyed
    its same = subst (λ z. (u z).place ≡ place.Destroyed) (sym same) (ap (λ z. z.place) (puts-at e y t was))

    by : (b : Bool) → end_eq q e ≡ b → (c : Bool) → among q xs ≡ c
        → (((places place.Destroyed xs (puts e y t) q).place ≡ place.Destroyed) × ((q ≡ e) ⊎ (among q xs ≡ true))) ⊎ (places place.Destroyed xs (puts e y t) q ≡ t q)
    by true same true is = inl (ap (λ z. z.place) (places-among place.Destroyed xs u q refl is (ap is_made (its (end_eq-same q e same)))), inr is)
    by true same false none = inl (ap (λ z. z.place) (places-other place.Destroyed xs u q none) ∙ its (end_eq-same q e same), inl (end_eq-same q e same))
    by false apart true is = inl (ap (λ z. z.place) (places-among place.Destroyed xs u q refl is (ap (λ z. is_made z.place) (puts-apart e q y t apart) ∙ there is)), inr is)
    by false apart false none = inr (places-other place.Destroyed xs u q none ∙ puts-apart e q y t apart)

-- the ends that a message carries are in it, and differ

waiting-some : (o : Outward) (m : Message) → waiting_message o ≡ Some m → message_of o ≡ Some m
waiting-some (outward.Waiting n) m is = is
waiting-some outward.Idle m is = absurd (none-some None m refl is)
waiting-some (outward.Matched n) m is = absurd (none-some None m refl is)
waiting-some outward.Taken m is = absurd (none-some None m refl is)
waiting-some outward.Unreported m is = absurd (none-some None m refl is)

matched-some : (o : Outward) (m : Message) → matched_message o ≡ Some m → message_of o ≡ Some m
matched-some (outward.Matched n) m is = is
matched-some outward.Idle m is = absurd (none-some None m refl is)
matched-some (outward.Waiting n) m is = absurd (none-some None m refl is)
matched-some outward.Taken m is = absurd (none-some None m refl is)
matched-some outward.Unreported m is = absurd (none-some None m refl is)

abbrev AreInside : State → EndId → List EndId → Type 0
AreInside s e xs = (y : EndId) → among y xs ≡ true → (s.ends y).place ≡ place.InMessage e (s.ends e).sent

carried-inside : (s : State) (e : EndId) (o : Option Message) → IsConsistent s → ((m : Message) → o ≡ Some m → message_of (s.ends e).outward ≡ Some m) → AreInside s e (carried_by o) × (names_twice (carried_by o) ≡ false)
carried-inside s e None k there = (λ y is. absurd (true≢false (sym is)), refl)
carried-inside s e (Some m) k there =
    (λ y is. k.kept.held.carried e y (s.ends e).sent (record { message = m; there = there m refl; number = refl; carries = among-Contains y m.carried is }), k.kept.apart e m (there m refl))

waiting-inside : (s : State) (e : EndId) → IsConsistent s → AreInside s e (carried_by (waiting_message (s.ends e).outward)) × (names_twice (carried_by (waiting_message (s.ends e).outward)) ≡ false)
waiting-inside s e k = carried-inside s e (waiting_message (s.ends e).outward) k (λ m is. waiting-some (s.ends e).outward m is)

matched-inside : (s : State) (e : EndId) → IsConsistent s → AreInside s e (carried_by (matched_message (s.ends e).outward)) × (names_twice (carried_by (matched_message (s.ends e).outward)) ≡ false)
matched-inside s e k = carried-inside s e (matched_message (s.ends e).outward) k (λ m is. matched-some (s.ends e).outward m is)

-- exit: an end stays, or is destroyed: as one that p owned, or in a message

abbrev CanEnd : State → Pid → EndId → Type 0
CanEnd s p q = ((s.ends q).place ≡ place.Owned p) ⊎ ((e : EndId) × (n : ℕ) × ((s.ends q).place ≡ place.InMessage e n))

abbrev IsFated : State → Pid → (EndId → End) → EndId → Type 0
IsFated s p t q = (t q ≡ s.ends q) ⊎ (((t q).place ≡ place.Destroyed) × CanEnd s p q)

module _ (s : State) (k : IsConsistent s) (p : Pid) where
  owned-fated : (e : EndId) (t : EndId → End) → ((q : EndId) → IsFated s p t q) → (q : EndId) → IsFated s p (destroys_owned p e t) q
  unfolding destroys_owned
  owned-fated e t fated q = by (is_owned_by p (t e).place) refl (fated e)
    where
      made-so : IsFated s p t q → is_made (s.ends q).place ≡ true → is_made (t q).place ≡ true
      made-so (inl same) was = ap (λ z. is_made z.place) same ∙ was
      made-so (inr gone) was = ap is_made gone.0

      by : (b : Bool) → is_owned_by p (t e).place ≡ b → IsFated s p t e → IsFated s p (if b then destroys e t else t) q
      by false not its = fated q
      by true owned (inr gone) = absurd (true≢false (sym owned ∙ ap (is_owned_by p) gone.0))
      by true owned (inl same) = one (destroys-one t e q (made-owned (t e).place p (owned_by-Owned p (t e).place owned)) (λ is. made-so (fated q) (ap is_made (inside is))))
        where
          inside : among q (carried_by (waiting_message (t e).outward)) ≡ true → (s.ends q).place ≡ place.InMessage e (s.ends e).sent
          inside is = (waiting-inside s e k).0 q (ap (λ z. among q (carried_by (waiting_message z.outward))) (sym same) ∙ is)

          one : (((destroys e t q).place ≡ place.Destroyed) × ((q ≡ e) ⊎ (among q (carried_by (waiting_message (t e).outward)) ≡ true))) ⊎ (destroys e t q ≡ t q) → IsFated s p (destroys e t) q
          one (inl (gone, inl its)) = inr (gone, inl (subst (λ z. (s.ends z).place ≡ place.Owned p) (sym its) (sym (ap (λ z. z.place) same) ∙ owned_by-Owned p (t e).place owned)))
          one (inl (gone, inr is)) = inr (gone, inr (e, (s.ends e).sent, inside is))
          one (inr kept) = subst (λ z. (z ≡ s.ends q) ⊎ ((z.place ≡ place.Destroyed) × CanEnd s p q)) (sym kept) (fated q)

  each-fated : (mine : List EndId) (t : EndId → End) → ((q : EndId) → IsFated s p t q) → (q : EndId) → IsFated s p (destroys_each p mine t) q
  unfolding destroys_each
  each-fated [] t fated q = fated q
  each-fated (e ∷ mine) t fated q = each-fated mine (destroys_owned p e t) (owned-fated e t fated) q

-- a step in which no process ends
abbrev is_exit : ServiceStep → Bool
is_exit (step.Exit p) = true
is_exit _ = false

module _ (s : State) (made : ServiceStep) (t : State) (x : EndId) (is : IsServiceStep s made t) where
  sum : (q : Pid) → Gain s made t q → (brings t q x + gives q x made ≡ brings s q x + bring x (gained s made q)) ⊎ ((made ≡ step.Exit q) × (brings t q x ≡ 0))
  sum q (ended its none) = inr (its, ap (bring x) none)
  sum q (adds same) =
      let left : bring x (given_to q made ++ (t.process q.0).reports) ≡ gives q x made + brings t q x = bring-append x (given_to q made) (t.process q.0).reports in
      let right : bring x ((s.process q.0).reports ++ gained s made q) ≡ brings s q x + bring x (gained s made q) = bring-append x (s.process q.0).reports (gained s made q) in
      let both : bring x (given_to q made ++ (t.process q.0).reports) ≡ bring x ((s.process q.0).reports ++ gained s made q) = ap (bring x) same in
      inl (omega arith)

  plain : is_exit made ≡ false → (q : Pid) → brings t q x + gives q x made ≡ brings s q x + bring x (gained s made q)
  plain not q = by (sum q (gain s made t q is))
    where
      by : (brings t q x + gives q x made ≡ brings s q x + bring x (gained s made q)) ⊎ ((made ≡ step.Exit q) × (brings t q x ≡ 0)) → brings t q x + gives q x made ≡ brings s q x + bring x (gained s made q)
      by (inl same) = same
      by (inr exits) = absurd (true≢false (sym (ap is_exit exits.0) ∙ not))

  -- no report more brings it

  module _ (none : (q : Pid) → bring x (gained s made q) ≡ 0) where
    as-was : (q : Pid) → (brings t q x + gives q x made ≡ brings s q x) ⊎ ((made ≡ step.Exit q) × (brings t q x ≡ 0))
    as-was q = by (sum q (gain s made t q is))
      where
        by : (brings t q x + gives q x made ≡ brings s q x + bring x (gained s made q)) ⊎ ((made ≡ step.Exit q) × (brings t q x ≡ 0)) → (brings t q x + gives q x made ≡ brings s q x) ⊎ ((made ≡ step.Exit q) × (brings t q x ≡ 0))
        by (inl same) = inl (let zero : bring x (gained s made q) ≡ 0 = none q in omega arith)
        by (inr exits) = inr exits

    less : (q : Pid) → brings t q x ≤ brings s q x
    less q = by (as-was q)
      where
        by : (brings t q x + gives q x made ≡ brings s q x) ⊎ ((made ≡ step.Exit q) × (brings t q x ≡ 0)) → brings t q x ≤ brings s q x
        by (inl same) = omega arith
        by (inr (its, zero)) = omega arith

    stays : (t.ends x).place ≡ (s.ends x).place → Moves s made t x
    stays same = Stays same as-was

    alike : is_exit made ≡ false → ((q : Pid) → gives q x made ≡ 0) → (q : Pid) → brings t q x ≡ brings s q x
    alike not quiet q = let same = plain not q in let zero : bring x (gained s made q) ≡ 0 = none q in let still : gives q x made ≡ 0 = quiet q in omega arith

  -- the ends of a message go to the owner of its end
  module _ (e : EndId) (n : ℕ) (xs : List EndId) (rs : List Report) (inside : (y : EndId) → among y xs ≡ true → (s.ends y).place ≡ place.InMessage e n) (once : names_twice xs ≡ false) (whole : bring x rs ≡ how_often x xs)
      (u : EndId → End) (same : (u x).place ≡ (s.ends x).place) (not : is_exit made ≡ false) (quiet : (q : Pid) → gives q x made ≡ 0) where
    each-bring : (o : Option Pid) → how_often x xs ≡ 0 → (q : Pid) → bring x (to_each o rs q) ≡ 0
    each-bring None none q = refl
    each-bring (Some p) none q = by (nat_eq p.0 q.0)
      where
        by : (b : Bool) → bring x (if b then rs else []) ≡ 0
        by true = whole ∙ none
        by false = refl

    one-bring : (p q : Pid) → how_often x xs ≡ 1 → bring x (to_each (Some p) rs q) ≡ (if nat_eq p.0 q.0 then 1 else 0)
    one-bring p q one = by (nat_eq p.0 q.0)
      where
        by : (b : Bool) → bring x (if b then rs else []) ≡ (if b then 1 else 0)
        by true = whole ∙ one
        by false = refl

    lands : (o : Option Pid) → ((q : Pid) → gained s made q ≡ to_each o rs q) → (t.ends x).place ≡ (to_owner o xs u x).place → Moves s made t x
    lands None are after = stays (λ q. ap (bring x) (are q)) (after ∙ same)
    lands (Some p) are after = by (among x xs) refl
      where
        by : (b : Bool) → among x xs ≡ b → Moves s made t x
        by false none = stays (λ q. ap (bring x) (are q) ∙ each-bring (Some p) (how_often-none x xs none) q) (after ∙ ap (λ z. z.place) (places-other (place.Owned p) xs u x none) ∙ same)
        by true is_in =
            Lands p e n (inside x is_in) (after ∙ ap (λ z. z.place) (places-among (place.Owned p) xs u x refl is_in (ap is_made (same ∙ inside x is_in))))
            (λ q.
            let sums = plain not q in
            let more : bring x (gained s made q) ≡ (if nat_eq p.0 q.0 then 1 else 0) = ap (bring x) (are q) ∙ one-bring p q (how_often-one x xs once is_in) in
            let still : gives q x made ≡ 0 = quiet q in
            omega arith)
            quiet

-- each of some ends passes
all-of : (f : EndId → Bool) (xs : List EndId) → list_any f xs ≡ false → (y : EndId) → among y xs ≡ true → f y ≡ false
all-of f [] none y is = absurd (true≢false (sym is))
all-of f (x ∷ xs) none y is = by (end_eq y x) refl is (all-of f xs)
  where
    both : (f x ≡ false) × (list_any f xs ≡ false)
    both = or-false (f x) (list_any f xs) none

    by : (c : Bool) → end_eq y x ≡ c → c || among y xs ≡ true → (list_any f xs ≡ false → (z : EndId) → among z xs ≡ true → f z ≡ false) → f y ≡ false
    by true same is rest = subst (λ z. f z ≡ false) (sym (end_eq-same y x same)) both.0
    by false apart is rest = rest both.1 y is

module _ (s : State) (t : State) (x : EndId) (k : IsConsistent s) where
  moves-send : (e : EndId) (n : ℕ) (bytes : List ℕ) (xs : List EndId) → IsServiceStep s (step.Send e n bytes xs) t → Moves s (step.Send e n bytes xs) t x
  unfolding starts_send
  moves-send e n bytes xs is = by (owner (s.ends e).place) refl is.allowed
    where
      u : EndId → End
      u = puts e (record (s.ends e) { outward = outward.Waiting (record { bytes = bytes; carried = xs }); sent = n }) s.ends

      same : (u x).place ≡ (s.ends x).place
      same = puts-place e (record (s.ends e) { outward = outward.Waiting (record { bytes = bytes; carried = xs }); sent = n }) s.ends x refl

      after : (t.ends x).place ≡ (places (place.InMessage e n) xs u x).place
      after = ap (λ z. (z.ends x).place) is.after

      at : (p : Pid) → owner (s.ends e).place ≡ Some p → AllFail (send_causes (sees p s.ends) e xs) → (b : Bool) → among x xs ≡ b → Moves s (step.Send e n bytes xs) t x
      at p owns fails false none = stays s _ t x is (λ q. refl) (after ∙ ap (λ z. z.place) (places-other (place.InMessage e n) xs u x none) ∙ same)
      at p owns fails true is_in =
          let owned = owned_by-Owned p (s.ends x).place (not-false _ (all-of (λ z. not (is_owned_by p (s.ends z).place)) xs fails.1.1.1.0 x is_in)) in
          Leaves p e n bytes xs refl (among-Contains x xs is_in) (owner-Owned (s.ends e).place p owns) owned
          (after ∙ ap (λ z. z.place) (places-among (place.InMessage e n) xs u x refl is_in (ap is_made (same ∙ owned)))) (alike s _ t x is (λ q. refl) refl (λ q. refl))

      by : (o : Option Pid) → owner (s.ends e).place ≡ o → may_send_as s o e n xs ≡ true → Moves s (step.Send e n bytes xs) t x
      by None owns may = absurd (true≢false (sym may))
      by (Some p) owns may = at p owns (none-fails (send_causes (sees p s.ends) e xs) (and-true _ _ (and-true _ _ (and-true _ _ may).0).0).1) (among x xs) refl

  moves-make : (p : Pid) (a b : EndId) → IsServiceStep s (step.Make p a b) t → Moves s (step.Make p a b) t x
  unfolding makes
  moves-make p a b is = by (end_eq b x) refl (end_eq a x) refl
    where
      f : End
      f = fresh (place.Owned p)

      both : (s.ends a ≡ unmade) × (s.ends b ≡ unmade)
      both = new-unmade s (next_link s p) a b k (and-true (runs s p) (is_new_pair s.ends (next_link s p) a b) is.allowed).1

      brought : (q : Pid) → brings t q x ≡ brings s q x
      brought = alike s (step.Make p a b) t x is (λ q. refl) refl (λ q. refl)

      at_b : t.ends b ≡ f
      at_b = ap (λ z. z.ends b) is.after ∙ put-at (put s.ends a f) b f

      at_a : end_eq b a ≡ false → t.ends a ≡ f
      at_a apart = ap (λ z. z.ends a) is.after ∙ put-other (put s.ends a f) b f a apart ∙ put-at s.ends a f

      by : (c : Bool) → end_eq b x ≡ c → (d : Bool) → end_eq a x ≡ d → Moves s (step.Make p a b) t x
      by true one d is_d =
          let its = end_eq-same b x one in
          Makes p a b refl (inr (sym its)) (subst (λ z. (s.ends z).place ≡ place.Unmade) its (ap (λ z. z.place) both.1)) (subst (λ z. (t.ends z).place ≡ place.Owned p) its (ap (λ z. z.place) at_b)) brought
      by false apart true one =
          let its = end_eq-same a x one in
          Makes p a b refl (inl (sym its)) (subst (λ z. (s.ends z).place ≡ place.Unmade) its (ap (λ z. z.place) both.0))
          (subst (λ z. (t.ends z).place ≡ place.Owned p) its (ap (λ z. z.place) (at_a (subst (λ z. end_eq b z ≡ false) (sym its) apart)))) brought
      by false apart false other = stays s _ t x is (λ q. refl) (ap (λ z. (z.ends x).place) is.after ∙ ap (λ z. z.place) (put-other (put s.ends a f) b f x apart ∙ put-other s.ends a f x other))

  moves-destroy : (e : EndId) → IsServiceStep s (step.Destroy e) t → Moves s (step.Destroy e) t x
  moves-destroy e is = by (destroys-one s.ends e x (made-owned (s.ends e).place found.0 (owner-Owned (s.ends e).place found.0 found.1)) (λ is_in. ap is_made ((waiting-inside s e k).0 x is_in)))
    where
      found : (p : Pid) × (owner (s.ends e).place ≡ Some p) × ((s.process p.0).phase ≡ phase.Running)
      found = running-owner s (owner (s.ends e).place) is.allowed

      by : (((destroys e s.ends x).place ≡ place.Destroyed) × ((x ≡ e) ⊎ (among x (carried_by (waiting_message (s.ends e).outward)) ≡ true))) ⊎ (destroys e s.ends x ≡ s.ends x) → Moves s (step.Destroy e) t x
      by (inl (gone, inl same)) = Ends (ap (λ z. (z.ends x).place) is.after ∙ gone) (inl (ap step.Destroy (sym same))) (less s _ t x is (λ q. refl))
      by (inl (gone, inr is_in)) = Ends (ap (λ z. (z.ends x).place) is.after ∙ gone) (inr (inr (e, (s.ends e).sent, (waiting-inside s e k).0 x is_in))) (less s _ t x is (λ q. refl))
      by (inr same) = stays s _ t x is (λ q. refl) (ap (λ z. (z.ends x).place) is.after ∙ ap (λ z. z.place) same)

  moves-exit : (p : Pid) → IsServiceStep s (step.Exit p) t → Moves s (step.Exit p) t x
  moves-exit p is = by (subst (λ f. IsFated s p f x) (sym (ap (λ z. z.ends) is.after.after)) (each-fated s k p is.after.mine s.ends (λ q. inl refl) x))
    where
      by : IsFated s p t.ends x → Moves s (step.Exit p) t x
      by (inl same) = stays s _ t x is (λ q. refl) (ap (λ z. z.place) same)
      by (inr (gone, inl owned)) = Ends gone (inr (inl (p, refl, owned))) (less s _ t x is (λ q. refl))
      by (inr (gone, inr inside)) = Ends gone (inr (inr inside)) (less s _ t x is (λ q. refl))

  moves-take : (e : EndId) (n : ℕ) (p : Pid) (late : Bool) → IsServiceStep s (step.Take e n p late) t → Moves s (step.Take e n p late) t x
  unfolding takes turns_inward turns_outward
  moves-take e n p late is =
      let u = puts e (record (s.ends e) { outward = outward.Taken }) s.ends in
      let v = puts (opposite e) (record (u (opposite e)) { inward = inward.Unreported }) u in
      lands s _ t x is e (s.ends e).sent (carried_by (matched_message (s.ends e).outward)) (done_reports (opposite e) (matched_message (s.ends e).outward)) (matched-inside s e k).0 (matched-inside s e k).1
      (done-bring x (opposite e) (matched_message (s.ends e).outward)) v (puts-place (opposite e) (record (u (opposite e)) { inward = inward.Unreported }) u x refl ∙ puts-place e (record (s.ends e) { outward = outward.Taken }) s.ends x refl)
      refl (λ q. refl) (Some p) (λ q. refl) (ap (λ z. (z.ends x).place) is.after)

  moves-notice : (e : EndId) (dead : Bool) → IsServiceStep s (step.Notice e dead) t → Moves s (step.Notice e dead) t x
  unfolding notices
  moves-notice e dead is =
      lands s _ t x is e (s.ends e).sent (carried_by (waiting_message (s.ends e).outward)) (returned_reports e (waiting_message (s.ends e).outward) ++ dead_reports e (s.ends e)) (waiting-inside s e k).0 (waiting-inside s e k).1
      (both-bring x e (waiting_message (s.ends e).outward) (s.ends e)) (puts e (noticed_end (s.ends e)) s.ends) (puts-place e (noticed_end (s.ends e)) s.ends x refl)
      refl (λ q. refl) (owner (s.ends e).place) (λ q. refl) (ap (λ z. (z.ends x).place) is.after)

  moves-back : (e : EndId) (n : ℕ) (dead : Bool) → IsServiceStep s (step.Back e n dead) t → Moves s (step.Back e n dead) t x
  unfolding returns turns_outward
  moves-back e n dead is = by (is_destroyed (s.ends e).place) refl (ap (λ z. (z.ends x).place) is.after)
    where
      xs : List EndId
      xs = carried_by (matched_message (s.ends e).outward)

      u : EndId → End
      u = puts e (record (s.ends e) { outward = outward.Idle }) s.ends

      same : (u x).place ≡ (s.ends x).place
      same = puts-place e (record (s.ends e) { outward = outward.Idle }) s.ends x refl

      returned-place : (b : Bool) → (if b then record (s.ends e) { outward = outward.Unreported } else noticed_end (record (s.ends e) { outward = outward.Unreported })).place ≡ (s.ends e).place
      returned-place true = refl
      returned-place false = refl

      nobody : (s.ends e).place ≡ place.Destroyed → (q : Pid) → bring x (gained s (step.Back e n dead) q) ≡ 0
      nobody gone q =
          ap
          (λ at. bring x (to_each (owner at) (if (s.ends e).noticed then returned_reports e (matched_message (s.ends e).outward) else returned_reports e (matched_message (s.ends e).outward) ++ dead_reports e (s.ends e)) q))
          gone

      gone-by : (s.ends e).place ≡ place.Destroyed → (t.ends x).place ≡ (places place.Destroyed xs u x).place → (b : Bool) → among x xs ≡ b → Moves s (step.Back e n dead) t x
      gone-by gone after true is_in =
          let inside = (matched-inside s e k).0 x is_in in
          Ends (after ∙ ap (λ z. z.place) (places-among place.Destroyed xs u x refl is_in (ap is_made (same ∙ inside)))) (inr (inr (e, (s.ends e).sent, inside))) (less s _ t x is (nobody gone))
      gone-by gone after false none = stays s _ t x is (nobody gone) (after ∙ ap (λ z. z.place) (places-other place.Destroyed xs u x none) ∙ same)

      by : (b : Bool) → is_destroyed (s.ends e).place ≡ b → (t.ends x).place ≡ ((if b then places place.Destroyed xs (puts e (record (s.ends e) { outward = outward.Idle }) s.ends) else to_owner (owner (s.ends e).place) xs (puts e (returned_end (s.ends e)) s.ends)) x).place → Moves s (step.Back e n dead) t x
      by true gone after = gone-by (destroyed-is (s.ends e).place gone) after (among x xs) refl
      by false lives after =
          lands s _ t x is e (s.ends e).sent xs (if (s.ends e).noticed then returned_reports e (matched_message (s.ends e).outward) else returned_reports e (matched_message (s.ends e).outward) ++ dead_reports e (s.ends e))
          (matched-inside s e k).0 (matched-inside s e k).1 (back-bring x e (matched_message (s.ends e).outward) (s.ends e) (s.ends e).noticed)
          (puts e (returned_end (s.ends e)) s.ends) (puts-place e (returned_end (s.ends e)) s.ends x (returned-place (s.ends e).noticed)) refl (λ q. refl) (owner (s.ends e).place) (λ q. refl) after

  idles-place : (w : Way) (e : EndId) → (idles w e s.ends x).place ≡ (s.ends x).place
  unfolding idles turns_inward turns_outward
  idles-place way.Outward e = puts-place e (record (s.ends e) { outward = outward.Idle }) s.ends x refl
  idles-place way.Inward e = puts-place e (record (s.ends e) { inward = inward.Idle }) s.ends x refl

  complete-none : (e : EndId) (n : ℕ) (q : Pid) → bring x (gained s (step.Complete e n) q) ≡ 0
  complete-none e n q = by (owner (s.ends e).place)
    where
      at : (b : Bool) → bring x (if b then send_report e outcome.Done [] ∷ [] else []) ≡ 0
      at true = refl
      at false = refl

      by : (o : Option Pid) → bring x (to_each o (send_report e outcome.Done [] ∷ []) q) ≡ 0
      by None = refl
      by (Some p) = at (nat_eq p.0 q.0)

  -- each step
  pub moves : (made : ServiceStep) → ((e : EndId) → cancels_send e made ≡ false) → IsServiceStep s made t → Moves s made t x
  unfolding matches turns_inward turns_outward
  moves (step.Make p a b) uncancelled is = moves-make p a b is
  moves (step.Refuse p call cause) uncancelled is = stays s _ t x is (λ q. refl) (ap (λ z. (z.ends x).place) is.after)
  moves (step.Destroy e) uncancelled is = moves-destroy e is
  moves (step.Send e n bytes xs) uncancelled is = moves-send e n bytes xs is
  moves (step.Receive e) uncancelled is = stays s _ t x is (λ q. refl) (ap (λ z. (z.ends x).place) is.after ∙ puts-place e (record (s.ends e) { inward = inward.Posted }) s.ends x refl)
  moves (step.Cancel e way.Outward) uncancelled is = absurd (true≢false (sym (end_eq-refl e) ∙ uncancelled e))
  moves (step.Cancel e way.Inward) uncancelled is = stays s _ t x is (λ q. refl) (ap (λ z. (z.ends x).place) is.after ∙ by (owner (s.ends e).place))
    where
      by : (o : Option Pid) → ((after_cancel o e way.Inward s).ends x).place ≡ (s.ends x).place
      by None = refl
      by (Some p) = refl
  moves (step.Wait p) uncancelled is = stays s _ t x is (λ q. refl) (ap (λ z. (z.ends x).place) is.after)
  moves (step.Report p r) uncancelled is = stays s _ t x is (λ q. refl) (ap (λ z. (z.ends x).place) is.after ∙ idles-place r.way r.on)
  moves (step.Exit p) uncancelled is = moves-exit p is
  moves (step.Match e n) uncancelled is =
      let u = puts e (record (s.ends e) { outward = matched_outward (s.ends e).outward }) s.ends in
      stays s _ t x is (λ q. refl)
      (ap (λ z. (z.ends x).place) is.after ∙ puts-place (opposite e) (record (u (opposite e)) { inward = inward.Matched n }) u x refl ∙ puts-place e (record (s.ends e) { outward = matched_outward (s.ends e).outward }) s.ends x refl)
  moves (step.Take e n p late) uncancelled is = moves-take e n p late is
  moves (step.Complete e n) uncancelled is = stays s _ t x is (complete-none e n) (ap (λ z. (z.ends x).place) is.after ∙ puts-place e (record (s.ends e) { outward = outward.Unreported }) s.ends x refl)
  moves (step.Withdraw e) uncancelled is = stays s _ t x is (λ q. refl) (ap (λ z. (z.ends x).place) is.after ∙ puts-place e (record (s.ends e) { inward = inward.Withdrawn }) s.ends x refl)
  moves (step.Free e) uncancelled is = stays s _ t x is (λ q. refl) (ap (λ z. (z.ends x).place) is.after ∙ puts-place e (record (s.ends e) { inward = inward.Idle }) s.ends x refl)
  moves (step.Notice e dead) uncancelled is = moves-notice e dead is
  moves (step.Back e n dead) uncancelled is = moves-back e n dead is

pub each-moves : (s : State) (made : ServiceStep) (t : State) (x : EndId) → IsConsistent s → ((e : EndId) → cancels_send e made ≡ false) → IsServiceStep s made t → Moves s made t x
each-moves s made t x k uncancelled is = moves s t x k made uncancelled is
