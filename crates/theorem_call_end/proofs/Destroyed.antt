-- What the service makes of each end where a process destroys ends, one after another, each with what its message carries that waits.
use Rattle.std.proofs.Common.{◌≡◌, Bool, true, false, ◌||◌, if◌then◌else◌, List, [], ◌∷◌, ◌++◌, refl, sym, ap, subst, ◌∙◌, true≢false}
use Rattle.std.proofs.lemmas.List.Folds.{list_any-append}
use Rattle.std.specs.List.{flat_map}
use Rattle.charlotte_calls.specs.declared.names.EndId.{EndId}
use Rattle.charlotte_calls.specs.declared.names.Pid.{Pid}
use Rattle.kernel_step.proofs.Folds.{AreDifferent}
use Rattle.service_change.proofs.EndEq.{among, end_eq-refl, end_eq-same, end_eq-sym, places-among, places-other, puts-at, puts-other}
use Rattle.service_step.specs.Ends.{carried_by, destroys, destroys_each, destroys_owned, dropped, end_eq, is_made, is_owned_by, waiting_message}
use Rattle.service_step.specs.declared.state.End.{End}
use Rattle.service_step.specs.declared.state.Outward.{Outward}
use Rattle.service_step.specs.declared.state.Outward.TheVariants as outward
use Rattle.service_step.specs.declared.state.Place.{Place}
use Rattle.service_step.specs.declared.state.Place.TheVariants as place
use Rattle.theorem_ends_destroyed.proofs.Facts.{among-same, or-true, true-or}

-- the ends that the waiting message of an end carries
abbrev pub carried_at : (EndId → End) → EndId → List EndId
carried_at t e = carried_by (waiting_message (t e).outward)

-- they are destroyed with it
abbrev pub destroyed_with : (EndId → End) → EndId → List EndId
destroyed_with t e = carried_at t e ++ e ∷ []

abbrev pub destroyed_list : (EndId → End) → List EndId → List EndId
destroyed_list t mine = flat_map (destroyed_with t) mine

-- an end that is destroyed, or not; by a process that owns it, or not
abbrev pub as_destroyed : Bool → Bool → End → End
as_destroyed gone own x = record x { place = if gone then place.Destroyed else x.place; outward = if own then dropped x.outward else x.outward }

or-false : (b : Bool) → b || false ≡ b
or-false true = refl
or-false false = refl

-- ---- one end

module _ (t : EndId → End) (e : EndId) (made : is_made (t e).place ≡ true) (apart : among e (carried_at t e) ≡ false) (carried : (y : EndId) → among y (carried_at t e) ≡ true → is_made (t y).place ≡ true) where
  abbrev its : End
  its = record (t e) { place = place.Destroyed; outward = dropped (t e).outward }

  destroyed-its : destroys e t e ≡ its
  unfolding destroys
  destroyed-its = places-other place.Destroyed (carried_at t e) _ e apart ∙ puts-at e its t made

  destroyed-carried : (q : EndId) → end_eq e q ≡ false → among q (carried_at t e) ≡ true → destroys e t q ≡ record (t q) { place = place.Destroyed }
  unfolding destroys
  destroyed-carried q off is =
      let was = puts-other e its t q off in
      places-among place.Destroyed (carried_at t e) _ q refl is (ap (λ (y : End). is_made y.place) was ∙ carried q is) ∙ ap (λ (y : End). record y { place = place.Destroyed }) was

  destroyed-other : (q : EndId) → end_eq e q ≡ false → among q (carried_at t e) ≡ false → destroys e t q ≡ t q
  unfolding destroys
  destroyed-other q off none = places-other place.Destroyed (carried_at t e) _ q none ∙ puts-other e its t q off

  among-with : (q : EndId) → among q (destroyed_with t e) ≡ (among q (carried_at t e) || end_eq q e)
  among-with q = list_any-append (end_eq q) (carried_at t e) (e ∷ []) ∙ ap (λ b. among q (carried_at t e) || b) (or-false (end_eq q e))

  pub destroys-is : (q : EndId) → destroys e t q ≡ as_destroyed (among q (destroyed_with t e)) (end_eq q e) (t q)
  destroys-is q = by (end_eq e q) refl (among q (carried_at t e)) refl
    where
      turned : (a b : Bool) → among q (carried_at t e) ≡ a → end_eq q e ≡ b → as_destroyed (among q (destroyed_with t e)) (end_eq q e) (t q) ≡ as_destroyed (a || b) b (t q)
      turned a b first second = ap (λ z. as_destroyed z (end_eq q e) (t q)) (among-with q ∙ ap (λ z. z || end_eq q e) first) ∙ ap (λ z. as_destroyed (a || z) z (t q)) second

      by : (b : Bool) → end_eq e q ≡ b → (a : Bool) → among q (carried_at t e) ≡ a → destroys e t q ≡ as_destroyed (among q (destroyed_with t e)) (end_eq q e) (t q)
      by true same a is =
          subst (λ z. destroys e t z ≡ as_destroyed (among z (destroyed_with t e)) (end_eq z e) (t z)) (end_eq-same e q same)
          (destroyed-its ∙ sym (ap (λ z. as_destroyed z (end_eq e e) (t e)) (among-with e ∙ or-true _ _ (end_eq-refl e)) ∙ ap (λ z. as_destroyed true z (t e)) (end_eq-refl e)))
      by false off true is = destroyed-carried q off is ∙ sym (turned true false is (end_eq-sym q e ∙ off))
      by false off false none = destroyed-other q off none ∙ sym (turned false false none (end_eq-sym q e ∙ off))

-- ---- several

-- p owns each of these ends, and what their waiting messages carry is made, and not p's
pub record AreMine (p : Pid) (t : EndId → End) (mine : List EndId) : Type 0 where
  pub owned : (e : EndId) → among e mine ≡ true → is_owned_by p (t e).place ≡ true
  pub made : (e : EndId) → among e mine ≡ true → is_made (t e).place ≡ true
  pub carried : (e y : EndId) → among e mine ≡ true → among y (carried_at t e) ≡ true → is_made (t y).place ≡ true
  pub others : (e y : EndId) → among e mine ≡ true → among y (carried_at t e) ≡ true → is_owned_by p (t y).place ≡ false

-- what is destroyed twice is destroyed
dropped-twice : (o : Outward) → dropped (dropped o) ≡ dropped o
dropped-twice (outward.Waiting m) = refl
dropped-twice outward.Idle = refl
dropped-twice (outward.Matched m) = refl
dropped-twice outward.Taken = refl
dropped-twice outward.Unreported = refl

place-twice : (a b : Bool) (x : Place) → (if b then place.Destroyed else (if a then place.Destroyed else x)) ≡ (if a || b then place.Destroyed else x)
place-twice true true x = refl
place-twice true false x = refl
place-twice false b x = refl

outward-twice : (a b : Bool) (o : Outward) → (if b then dropped (if a then dropped o else o) else (if a then dropped o else o)) ≡ (if a || b then dropped o else o)
outward-twice true true o = dropped-twice o
outward-twice true false o = refl
outward-twice false b o = refl

as_destroyed-twice : (a b c d : Bool) (x : End) → as_destroyed b d (as_destroyed a c x) ≡ as_destroyed (a || b) (c || d) x
as_destroyed-twice a b c d x = λ i. record x { place = place-twice a b x.place i; outward = outward-twice c d x.outward i }

-- lists of the same ends
pub flat_map-same : (f g : EndId → List EndId) (xs : List EndId) → ((e : EndId) → among e xs ≡ true → f e ≡ g e) → flat_map f xs ≡ flat_map g xs
flat_map-same f g [] same = refl
flat_map-same f g (x ∷ xs) same =
    ap (λ l. l ++ flat_map f xs) (same x (true-or _ _ (end_eq-refl x))) ∙ ap (λ l. g x ++ l) (flat_map-same f g xs (λ e is. same e (or-true _ _ is)))

module _ (p : Pid) where
  -- the first end is destroyed, and the others stand as they were
  first-destroyed : (t : EndId → End) (e : EndId) (es : List EndId) → AreMine p t (e ∷ es) → destroys_owned p e t ≡ destroys e t
  unfolding destroys_owned
  first-destroyed t e es are = ap (λ b. if b then destroys e t else t) (are.owned e (true-or _ _ (end_eq-refl e)))

  module _ (t : EndId → End) (e : EndId) (es : List EndId) (are : AreMine p t (e ∷ es)) (apart : among e es ≡ false) where
    is_first : among e (e ∷ es) ≡ true
    is_first = true-or _ _ (end_eq-refl e)

    -- an end that p owns is not carried
    not-carried : (f : EndId) → is_owned_by p (t f).place ≡ true → among f (carried_at t e) ≡ false
    not-carried f owned = by (among f (carried_at t e)) refl
      where
        by : (b : Bool) → among f (carried_at t e) ≡ b → among f (carried_at t e) ≡ false
        by true is = absurd (true≢false (sym owned ∙ are.others e f is_first is))
        by false is = is

    abbrev next : EndId → End
    next = destroys e t

    next-is : (q : EndId) → next q ≡ as_destroyed (among q (destroyed_with t e)) (end_eq q e) (t q)
    next-is = destroys-is t e (are.made e is_first) (not-carried e (are.owned e is_first)) (λ y is. are.carried e y is_first is)

    later-apart : (f : EndId) → among f es ≡ true → end_eq f e ≡ false
    later-apart f is = by (end_eq f e) refl
      where
        by : (b : Bool) → end_eq f e ≡ b → end_eq f e ≡ false
        by true same = absurd (true≢false (sym is ∙ subst (λ z. among z es ≡ false) (sym (end_eq-same f e same)) apart))
        by false off = off

    later-same : (f : EndId) → among f es ≡ true → next f ≡ t f
    later-same f is =
        let off = later-apart f is in
        next-is f
        ∙ ap (λ z. as_destroyed z (end_eq f e) (t f)) (among-with t e (are.made e is_first) (not-carried e (are.owned e is_first)) (λ y is. are.carried e y is_first is) f ∙ ap (λ z. z || end_eq f e) (not-carried f (are.owned f (or-true _ _ is))) ∙ off)
        ∙ ap (λ z. as_destroyed false z (t f)) off

    carried-same : (f : EndId) → among f es ≡ true → carried_at next f ≡ carried_at t f
    carried-same f is = ap (λ (y : End). carried_by (waiting_message y.outward)) (later-same f is)

    -- places are as before or destroyed
    place-next : (P : Place → Type 0) → P place.Destroyed → (y : EndId) → P (t y).place → P (next y).place
    place-next P gone y was = subst (λ (z : End). P z.place) (sym (next-is y)) (by (among y (destroyed_with t e)))
      where
        by : (b : Bool) → P (if b then place.Destroyed else (t y).place)
        by true = gone
        by false = was

    mine-next : AreMine p next es
    mine-next =
        record {
          owned = λ f is. ap (λ (y : End). is_owned_by p y.place) (later-same f is) ∙ are.owned f (or-true _ _ is);
          made = λ f is. ap (λ (y : End). is_made y.place) (later-same f is) ∙ are.made f (or-true _ _ is);
          carried = λ f y is has. place-next (λ z. is_made z ≡ true) refl y (are.carried f y (or-true _ _ is) (ap (among y) (sym (carried-same f is)) ∙ has));
          others = λ f y is has. place-next (λ z. is_owned_by p z ≡ false) refl y (are.others f y (or-true _ _ is) (ap (among y) (sym (carried-same f is)) ∙ has));
        }

    list-next : destroyed_list next es ≡ destroyed_list t es
    list-next = flat_map-same (destroyed_with next) (destroyed_with t) es (λ f is. ap (λ l. l ++ f ∷ []) (carried-same f is))

  -- each end afterwards
  pub destroys_each-is : (mine : List EndId) (t : EndId → End) → AreDifferent mine → AreMine p t mine → (q : EndId) → destroys_each p mine t q ≡ as_destroyed (among q (destroyed_list t mine)) (among q mine) (t q)
  unfolding destroys_each
  destroys_each-is [] t apart are q = refl
  destroys_each-is (e ∷ es) t apart are q =
      ap (λ u. destroys_each p es u q) (first-destroyed t e es are)
      ∙ destroys_each-is es (destroys e t) apart.1 (mine-next t e es are (among-same e es ∙ apart.0)) q
      ∙ ap (λ l. as_destroyed (among q l) (among q es) (destroys e t q)) (list-next t e es are (among-same e es ∙ apart.0))
      ∙ ap (as_destroyed (among q (destroyed_list t es)) (among q es)) (next-is t e es are (among-same e es ∙ apart.0) q)
      ∙ as_destroyed-twice (among q (destroyed_with t e)) (among q (destroyed_list t es)) (end_eq q e) (among q es) (t q)
      ∙ ap (λ z. as_destroyed z (end_eq q e || among q es) (t q)) (sym (list_any-append (end_eq q) (destroyed_with t e) (destroyed_list t es)))

-- one alone
pub destroys-one : (p : Pid) (e : EndId) (t : EndId → End) → is_owned_by p (t e).place ≡ true → destroys_each p (e ∷ []) t ≡ destroys e t
unfolding destroys_each destroys_owned
destroys-one p e t own = ap (λ b. if b then destroys e t else t) own
