-- What a process has of each of its ends after one of its places changes, after allows that are due, and after it got one end more.
use Rattle.std.proofs.Common.{arith, ◌≡◌, ⊎_elim, ℕ, zero, suc, ◌+◌, ◌<◌, Bool, true, false, if◌then◌else◌, List, [], ◌∷◌, ◌++◌, length, map, take, Option, Some, None, slice_get, eq-eqb, eqb-true, refl, sym, ap, ◌∙◌}
use Rattle.std.specs.Prelude.{◌==◌, ◌-◌, min, option_map}
use Rattle.std.proofs.lemmas.List.{length-append, length-map, length-take}
use Rattle.std.proofs.lemmas.Option.{slice_get-map}
use Rattle.charlotte_calls.specs.EndEq.{end_eq}
use Rattle.charlotte_calls.specs.declared.names.EndId.{EndId}
use Rattle.end_protocol.specs.declared.kept.Kept.{Kept}
use Rattle.end_protocol.specs.Asking.{later}
use Rattle.end_protocol.specs.Kept.{fresh}
use Rattle.process_run.specs.States.{Gone, Holding, Keeps, Place}
use Rattle.process_run.specs.Ends.{gets_one, number_from, number_of, or_number, place_at, set_holding, with_holding}
use Rattle.process_run.specs.Reports.{holding_of}
use Rattle.process_run.specs.Runs.{settled_at, settled_in}
use Rattle.process_run.proofs.Numbers.{got_last, others_got}
use Rattle.process_changes.specs.AtEnd.{AreSingle, holding_at}
use Rattle.process_changes.specs.Changes.{IsHeld}
use Rattle.process_changes.proofs.Numbers.{Found, end_eq_self, found, kept_index, none_at, numbered, other_place, same_end, same_place}

-- ---- numbers

abbrev pub ends : List Place → List EndId
ends ps = map (λ p. p.end) ps

-- the number of an end depends on the ends alone
pub same_number : (x : EndId) (n : ℕ) (ps qs : List Place) → ends ps ≡ ends qs → number_from n x ps ≡ number_from n x qs
same_number x n [] [] e = refl
same_number x n [] (q ∷ qs) e = let no : ◌≡◌ {A = List EndId} [] (q.end ∷ ends qs) = e in absurd cc
same_number x n (p ∷ ps) [] e = let no : ◌≡◌ {A = List EndId} (p.end ∷ ends ps) [] = e in absurd cc
same_number x n (p ∷ ps) (q ∷ qs) e =
    let both : p.end ∷ ends ps ≡ q.end ∷ ends qs = e in
    let first : p.end ≡ q.end = cc in
    let rest : ends ps ≡ ends qs = cc in
    ap (λ (m : ℕ). or_number m (if end_eq p.end x then n else 0)) (same_number x (n + 1) ps qs rest)
    ∙ ap (λ (y : EndId). or_number (number_from (n + 1) x qs) (if end_eq y x then n else 0)) first

ends_set : (i : ℕ) (g : Holding) (ps : List Place) → ends (set_holding i g (slice_get ps i) ps) ≡ ends ps
ends_set i g [] = refl
ends_set zero g (p ∷ ps) = refl
ends_set (suc i) g (p ∷ ps) = by_rest (slice_get ps i) (ends_set i g ps)
  where
    by_rest : (o : Option Place) → ends (set_holding i g o ps) ≡ ends ps → ends (set_holding (suc i) g o (p ∷ ps)) ≡ ends (p ∷ ps)
    by_rest None rest = refl
    by_rest (Some q) rest = ap (λ (l : List EndId). p.end ∷ l) rest

ends_with : (n : ℕ) (g : Holding) (ps : List Place) → ends (with_holding n g ps) ≡ ends ps
ends_with zero g ps = refl
ends_with (suc i) g ps = ends_set i g ps

ends_settled : (room : Bool) (ps : List Place) → ends (map (settled_at room) ps) ≡ ends ps
ends_settled room [] = refl
ends_settled room (p ∷ ps) = ap (λ (l : List EndId). p.end ∷ l) (ends_settled room ps)

pub number_with : (x : EndId) (n : ℕ) (g : Holding) (ps : List Place) → number_of x (with_holding n g ps) ≡ number_of x ps
number_with x n g ps = same_number x 1 (with_holding n g ps) ps (ends_with n g ps)

-- ---- one place changes

pub kept_at : (n : ℕ) (p : Place) (g : Holding) (ps : List Place) → place_at n ps ≡ Some p → place_at n (with_holding n g ps) ≡ Some (record p { holding = g })
kept_at zero p g ps at = absurd (none_at p at)
kept_at (suc i) p g ps at = ap (λ (o : Option Place). slice_get (set_holding i g o ps) i) at ∙ kept_index i p g ps at

-- a place of an end x, under its number
module _ (n : ℕ) (p : Place) (ps : List Place) (at : place_at n ps ≡ Some p) (its : n ≡ number_of p.end ps) where
  -- there it is so
  pub here_so : (g : Holding) → holding_at p.end (with_holding n g ps) ≡ g
  here_so g =
      ap (λ (m : ℕ). holding_of (place_at m (with_holding n g ps))) (number_with p.end n g ps ∙ sym its) ∙ ap holding_of (kept_at n p g ps at)

  pub here_was : holding_at p.end ps ≡ p.holding
  here_was = ap (λ (m : ℕ). holding_of (place_at m ps)) (sym its) ∙ ap holding_of at

  -- another end has another number
  pub differ : (y : EndId) → end_eq p.end y ≡ false → n ≡ number_of y ps → ⊥
  differ y apart e =
      let same : p.end ≡ y = numbered y ps p (sym (ap (λ (m : ℕ). place_at m ps) e) ∙ at) in
      let yes : end_eq p.end y ≡ true = ap (λ (z : EndId). end_eq p.end z) (sym same) ∙ end_eq_self p.end in
      let no : true ≡ false = sym yes ∙ apart in cc

  -- elsewhere it is as it was
  pub others_so : (g : Holding) (y : EndId) → end_eq p.end y ≡ false → holding_at y (with_holding n g ps) ≡ holding_at y ps
  others_so g y apart = ap (λ (m : ℕ). holding_of (place_at m (with_holding n g ps))) (number_with y n g ps) ∙ ap holding_of (other_place n (number_of y ps) g ps (differ y apart))

  pub single_so : (g : Holding) → AreSingle ps → AreSingle (with_holding n g ps)
  single_so g single m y k held = by_test (n == m) refl
    where
      by_test : (b : Bool) → (n == m) ≡ b → m ≡ number_of y (with_holding n g ps)
      by_test true e =
          let same : n ≡ m = eqb-true n m e in
          let there : place_at m (with_holding n g ps) ≡ Some (record p { holding = g }) = ap (λ (i : ℕ). place_at i (with_holding n g ps)) (sym same) ∙ kept_at n p g ps at in
          let ends_same : p.end ≡ y = ap (λ (q : Place). q.end) (same_place (record p { holding = g }) (record { end = y; holding = Keeps k }) (sym there ∙ held)) in
          sym same ∙ its ∙ ap (λ (z : EndId). number_of z ps) ends_same ∙ sym (number_with y n g ps)
      by_test false e =
          single m y k (sym (other_place n m g ps (λ same. let no : true ≡ false = sym (eq-eqb n m same) ∙ e in cc)) ∙ held) ∙ sym (number_with y n g ps)

-- ---- how many there are

same_many : (ps qs : List Place) → ends ps ≡ ends qs → length ps ≡ length qs
same_many ps qs e = sym (length-map ps (λ (p : Place). p.end)) ∙ ap length e ∙ length-map qs (λ (p : Place). p.end)

pub many_with : (n : ℕ) (g : Holding) (ps : List Place) → length (with_holding n g ps) ≡ length ps
many_with n g ps = same_many (with_holding n g ps) ps (ends_with n g ps)

pub many_settled : (room : Bool) (ps : List Place) → length (map (settled_at room) ps) ≡ length ps
many_settled room ps = length-map ps (settled_at room)

-- there was room where there is room afterwards
pub many_got : (x : EndId) (ps : List Place) → length (gets_one x ps) < 4294967295 → length ps < 4294967295
many_got x ps few =
    let got : Place = record { end = x; holding = Keeps fresh } in
    let front : List Place = take (later (length ps) - 1) ps in
    let all : length (gets_one x ps) ≡ length front + 1 = length-append front (got ∷ []) in
    let some : length front ≡ min (min (length ps + 1) 4294967295 - 1) (length ps) = length-take (later (length ps) - 1) ps in
    omega (arith, all, some, few)

-- ---- allows that are due

module _ (room : Bool) (ps : List Place) where
  number_settled : (y : EndId) → number_of y (map (settled_at room) ps) ≡ number_of y ps
  number_settled y = same_number y 1 (map (settled_at room) ps) ps (ends_settled room ps)

  place_settled : (n : ℕ) → place_at n (map (settled_at room) ps) ≡ option_map (settled_at room) (place_at n ps)
  place_settled zero = refl
  place_settled (suc i) = slice_get-map (settled_at room) ps i

  pub holding_settled : (y : EndId) → holding_at y (map (settled_at room) ps) ≡ settled_in room (holding_at y ps)
  holding_settled y =
      ap (λ (m : ℕ). holding_of (place_at m (map (settled_at room) ps))) (number_settled y) ∙ ap holding_of (place_settled (number_of y ps)) ∙ by_place (place_at (number_of y ps) ps)
    where
      by_place : (o : Option Place) → holding_of (option_map (settled_at room) o) ≡ settled_in room (holding_of o)
      by_place None = refl
      by_place (Some p) = refl

  module _ (single : AreSingle ps) where
    was_held : (m : ℕ) (y : EndId) (k : Kept) (p : Place) (g : Holding) → p.holding ≡ g → place_at m ps ≡ Some p → p.end ≡ y → settled_in room g ≡ Keeps k → m ≡ number_of y ps
    was_held m y k p (Keeps j) is at ends_same e =
        single m y j (at ∙ ap (λ (q : Place). Some q) (ap (λ (g : Holding). record { end = p.end; holding = g }) is ∙ ap (λ (z : EndId). record { end = z; holding = Keeps j }) ends_same))
    was_held m y k p (Gone own) is at ends_same e = let no : Gone own ≡ Keeps k = e in absurd cc

    by_held : (m : ℕ) (y : EndId) (k : Kept) (o : Option Place) → place_at m ps ≡ o → option_map (settled_at room) o ≡ Some (record { end = y; holding = Keeps k }) → m ≡ number_of y ps
    by_held m y k None at e = absurd (none_at (record { end = y; holding = Keeps k }) e)
    by_held m y k (Some p) at e =
        let same : settled_at room p ≡ record { end = y; holding = Keeps k } = same_place (settled_at room p) (record { end = y; holding = Keeps k }) e in
        was_held m y k p p.holding refl at (ap (λ (q : Place). q.end) same) (ap (λ (q : Place). q.holding) same)

    pub single_settled : AreSingle (map (settled_at room) ps)
    single_settled m y k held = by_held m y k (place_at m ps) refl (sym (place_settled m) ∙ held) ∙ sym (number_settled y)

-- ---- an end that is not there

pub at_none : (n : ℕ) (g : Holding) (ps : List Place) → place_at n ps ≡ None → with_holding n g ps ≡ ps
at_none zero g ps none = refl
at_none (suc i) g ps none = ap (λ (o : Option Place). set_holding i g o ps) none

zero_and : (n : ℕ) → 0 + n ≡ n
zero_and n = omega arith

one_and : (n : ℕ) → 1 + n ≡ suc n
one_and n = omega arith

-- ---- one place more

module _ (got : Place) where
  last_there : (l : List Place) → slice_get (l ++ got ∷ []) (length l) ≡ Some got
  last_there [] = refl
  last_there (q ∷ l) = last_there l

  within : (l : List Place) (i : ℕ) (q : Place) → slice_get l i ≡ Some q → slice_get (l ++ got ∷ []) i ≡ Some q
  within [] zero q e = absurd (none_at q e)
  within [] (suc i) q e = absurd (none_at q e)
  within (p ∷ l) zero q e = e
  within (p ∷ l) (suc i) q e = within l i q e

  some_none : (p : Place) → ◌≡◌ {A = Option Place} (Some p) None → ⊥
  some_none p e = cc

  -- behind the others only this one stands
  behind : (l : List Place) (i : ℕ) (q : Place) → slice_get l i ≡ None → slice_get (l ++ got ∷ []) i ≡ Some q → (i ≡ length l) × (got ≡ q)
  behind [] zero q none e = (refl, same_place got q e)
  behind [] (suc zero) q none e = absurd (none_at q e)
  behind [] (suc (suc i)) q none e = absurd (none_at q e)
  behind (p ∷ l) zero q none e = absurd (some_none p none)
  behind (p ∷ l) (suc i) q none e = let rest = behind l i q none e in (ap suc rest.0, rest.1)

-- ---- an end that is got

module _ (x : EndId) (ps : List Place) where
  abbrev got : Place
  got = record { end = x; holding = Keeps fresh }

  abbrev qs : List Place
  qs = ps ++ got ∷ []

  number_here : number_of x qs ≡ suc (length ps)
  number_here = got_last 1 x ps got (end_eq_self x) ∙ one_and (length ps)

  number_elsewhere : (y : EndId) → end_eq x y ≡ false → number_of y qs ≡ number_of y ps
  number_elsewhere y apart = others_got 1 y ps got apart

  pub holding_here : holding_at x qs ≡ Keeps fresh
  holding_here = ap (λ (m : ℕ). holding_of (place_at m qs)) number_here ∙ ap holding_of (last_there got ps)

  within_place : (m : ℕ) (q : Place) → place_at m ps ≡ Some q → place_at m qs ≡ Some q
  within_place zero q e = absurd (none_at q e)
  within_place (suc i) q e = within got ps i q e

  pub holding_elsewhere : (y : EndId) → end_eq x y ≡ false → holding_at y qs ≡ holding_at y ps
  holding_elsewhere y apart =
      ap (λ (m : ℕ). holding_of (place_at m qs)) (number_elsewhere y apart)
      ∙ ⊎_elim
      (λ (none : number_from 1 y ps ≡ 0). ap (λ (m : ℕ). holding_of (place_at m qs)) none ∙ sym (ap (λ (m : ℕ). holding_of (place_at m ps)) none))
      (λ (f : Found 0 (number_from 1 y ps) y ps).
      let there : place_at (number_of y ps) ps ≡ Some f.place = ap (λ (m : ℕ). place_at m ps) (f.is ∙ ap suc (zero_and f.at)) ∙ f.there in
      ap holding_of (within_place (number_of y ps) f.place there) ∙ sym (ap holding_of there))
      (found 0 y ps)

  module _ (single : AreSingle ps) (unheld : (k : Kept) → holding_at x ps ≡ Keeps k → ⊥) where
    -- an end that was held before keeps its number
    got_held : (i : ℕ) (y : EndId) (k : Kept) → IsHeld (suc i) y k ps → suc i ≡ number_of y qs
    got_held i y k held = by_same (end_eq x y) refl
      where
        its : suc i ≡ number_of y ps
        its = single (suc i) y k held

        by_same : (b : Bool) → end_eq x y ≡ b → suc i ≡ number_of y qs
        by_same false e = its ∙ sym (number_elsewhere y e)
        by_same true e =
            let holds : holding_at y ps ≡ Keeps k = ap (λ (m : ℕ). holding_of (place_at m ps)) (sym its) ∙ ap holding_of held in
            absurd (unheld k (ap (λ (z : EndId). holding_at z ps) (same_end x y e) ∙ holds))

    pub got_single : AreSingle qs
    got_single zero y k held = absurd (none_at (record { end = y; holding = Keeps k }) held)
    got_single (suc i) y k held = by_place (slice_get ps i) refl
      where
        by_place : (o : Option Place) → slice_get ps i ≡ o → suc i ≡ number_of y qs
        by_place (Some q) e =
            let same : q ≡ record { end = y; holding = Keeps k } = same_place q (record { end = y; holding = Keeps k }) (sym (within got ps i q e) ∙ held) in
            got_held i y k (e ∙ ap (λ (p : Place). Some p) same)
        by_place None e =
            let last = behind got ps i (record { end = y; holding = Keeps k }) e held in
            ap suc last.0 ∙ sym number_here ∙ ap (λ (p : Place). number_of p.end qs) last.1
