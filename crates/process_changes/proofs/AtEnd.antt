-- The changes of a process, and what it is told, seen at one of its ends.
use Rattle.std.proofs.Common.{arith, ◌≡◌, ◌≤◌, ◌<◌, ℕ, ◌+◌, Bool, true, false, if◌then◌else◌, cond, List, [], ◌∷◌, ◌++◌, length, map, filter, Option, Some, None, refl, sym, ap, subst, ◌∙◌}
use Rattle.std.proofs.lemmas.List.{map-append}
use Rattle.std.proofs.lemmas.List.Elements.{filter-append}
use Rattle.charlotte_calls.specs.EndEq.{end_eq}
use Rattle.charlotte_calls.specs.declared.names.EndId.{EndId}
use Rattle.end_protocol.specs.declared.kept.Kept.{Kept}
use Rattle.end_protocol.specs.Deeds.{Deed}
use Rattle.end_protocol.specs.Going.{returns}
use Rattle.end_protocol.specs.Happenings.{Happening, after, deeds_of}
use Rattle.end_protocol.specs.Kept.{fresh}
use Rattle.end_protocol.specs.Wanting.{is_busy}
use Rattle.process_run.specs.States.{DeedOn, Gone, Holding, Keeps, Place, deeds_on}
use Rattle.process_run.specs.Ends.{gets_one, number_of, place_at, with_holding}
use Rattle.process_run.specs.Runs.{settled_at, settled_in}
use Rattle.process_ends.proofs.Numbering.{got_as}
use Rattle.process_changes.specs.Changes.{Change, Changes, IsHeld, IsWhole, MayDo, taken_along}
use Rattle.process_changes.specs.Changes as changes
use Rattle.process_changes.specs.Ledgers.{Ledger, given_back, how_often}
use Rattle.process_changes.specs.AtEnd.{AreAt, AreSingle, ChangeAt, ChangesAt, Destroys, Does, Elsewhere, Holds, IsLess, LetsGo, None as NoChange, Seen, Settles, Then, deeds_at, held_count, holding_at, seen, total}
use Rattle.process_changes.proofs.Counting.{back_given, both, got_load, in_places, may_load, of_holding, settle_load, with_load}
use Rattle.process_changes.proofs.Held.{at_none, got_single, here_so, here_was, holding_elsewhere, holding_here, holding_settled, many_got, many_settled, many_with, others_so, single_settled, single_so}
use Rattle.process_changes.proofs.Numbers.{end_eq_self, numbered, same_end}

-- ---- deeds

deeds_here : (x : EndId) (ds : List Deed) → deeds_at x (deeds_on x ds) ≡ ds
deeds_here x [] = refl
deeds_here x (d ∷ ds) =
    let rest : List DeedOn = filter (λ (e : DeedOn). end_eq e.on x) (deeds_on x ds) in
    ap (λ (b : Bool). map (λ (e : DeedOn). e.deed) (cond b (record { on = x; deed = d } ∷ rest) rest)) (end_eq_self x) ∙ ap (λ (l : List Deed). d ∷ l) (deeds_here x ds)

deeds_elsewhere : (x y : EndId) (ds : List Deed) → end_eq x y ≡ false → deeds_at y (deeds_on x ds) ≡ []
deeds_elsewhere x y [] apart = refl
deeds_elsewhere x y (d ∷ ds) apart =
    let rest : List DeedOn = filter (λ (e : DeedOn). end_eq e.on y) (deeds_on x ds) in
    ap (λ (b : Bool). map (λ (e : DeedOn). e.deed) (cond b (record { on = x; deed = d } ∷ rest) rest)) apart ∙ deeds_elsewhere x y ds apart

pub deeds_both : (y : EndId) (ds es : List DeedOn) → deeds_at y (ds ++ es) ≡ deeds_at y ds ++ deeds_at y es
deeds_both y ds es =
    ap (map (λ (d : DeedOn). d.deed)) (filter-append (λ (d : DeedOn). end_eq d.on y) ds es)
    ∙ map-append (λ (d : DeedOn). d.deed) (filter (λ (d : DeedOn). end_eq d.on y) ds) (filter (λ (d : DeedOn). end_eq d.on y) es)

-- what is so at this end, with these deeds, and at each other end with none, is so at each end
pub by_end : (C : EndId → List Deed → Type 0) (x : EndId) (ds : List Deed) → C x ds → ((y : EndId) → end_eq x y ≡ false → C y []) → (y : EndId) → C y (deeds_at y (deeds_on x ds))
by_end C x ds here others y = by_same (end_eq x y) refl
  where
    by_same : (b : Bool) → end_eq x y ≡ b → C y (deeds_at y (deeds_on x ds))
    by_same true e = subst (λ (z : EndId). C z (deeds_at z (deeds_on x ds))) (same_end x y e) (subst (λ (l : List Deed). C x l) (sym (deeds_here x ds)) here)
    by_same false e = subst (λ (l : List Deed). C y l) (sym (deeds_elsewhere x y ds e)) (others y e)

-- ---- counting

-- this end once, if it is that one
abbrev pub once : EndId → EndId → ℕ
once x y = if end_eq x y then 1 else 0

pub once_self : (x : EndId) → once x x ≡ 1
once_self x = ap (λ (b : Bool). if b then 1 else 0) (end_eq_self x)

pub once_other : (x y : EndId) → end_eq x y ≡ false → once x y ≡ 0
once_other x y apart = ap (λ (b : Bool). if b then 1 else 0) apart

pub doomed_too : (x y : EndId) (l : List EndId) → how_often y (l ++ x ∷ []) ≡ how_often y l + once x y
doomed_too x y l = let all : how_often y (l ++ x ∷ []) ≡ how_often y l + (once x y + 0) = both y l (x ∷ []) in omega (arith, all)

-- no change puts an end into more places
pub change_less : (version : ℕ) (a : Seen) (ds : List Deed) (b : Seen) → ChangeAt version a ds b → total b ≤ total a
change_less version a ds b (Elsewhere f g same less) = let count : held_count b.holding ≡ held_count a.holding = ap held_count same in let all : b.out + b.doomed ≤ a.out + a.doomed = less.all in omega (arith, count, all)
change_less version a ds b (Does k h f g was is may less) =
    let before : held_count a.holding ≡ 1 = ap held_count was in
    let now : held_count b.holding ≡ 1 = ap held_count is in
    let all : b.out + b.doomed ≤ a.out + a.doomed = less.all in omega (arith, before, now, all)
change_less version a ds b (Settles room k f g was is less) =
    let before : held_count a.holding ≡ 1 = ap held_count was in
    let now : held_count b.holding ≡ 1 = ap held_count is in
    let all : b.out + b.doomed ≤ a.out + a.doomed = less.all in omega (arith, before, now, all)
change_less version a ds b (LetsGo k f g was is rests whole all) =
    let before : held_count a.holding ≡ 1 = ap held_count was in
    let now : held_count b.holding ≡ 0 = ap held_count is in omega (arith, before, now, all)
change_less version a ds b (Destroys k f g was is out all) =
    let before : held_count a.holding ≡ 1 = ap held_count was in
    let now : held_count b.holding ≡ 0 = ap held_count is in omega (arith, before, now, all)
change_less version a ds b (Holds f g is out all) = let now : held_count b.holding ≡ 1 = ap held_count is in omega (arith, now, all)

-- ---- one change

module _ (version : ℕ) where
  -- seen at each end, and afterwards no end is held under two numbers
  pub record One (b : Ledger) (ds : List DeedOn) (c : Ledger) : Type 0 where
    pub at : (y : EndId) → ChangeAt version (seen y b) (deeds_at y ds) (seen y c)
    pub single : AreSingle c.places

  module _ (b : Ledger) (single : AreSingle b.places) where
    -- at an end that is held
    module _ (n : ℕ) (x : EndId) (k : Kept) (there : IsHeld n x k b.places) where
      abbrev place : Place
      place = record { end = x; holding = Keeps k }

      its : n ≡ number_of x b.places
      its = single n x k there

      abbrev so : Holding → List EndId → List EndId → Ledger
      so g doomed hand = record { places = with_holding n g b.places; doomed = doomed; hand = hand }

      load : (g : Holding) (y : EndId) → in_places y (with_holding n g b.places) + of_holding y (Keeps k) ≡ in_places y b.places + of_holding y g
      load g y = with_load y n place g b.places there

      at_held : (g : Holding) (doomed hand : List EndId) (ds : List Deed) → ChangeAt version (seen x b) ds (seen x (so g doomed hand)) →
          ((y : EndId) → end_eq x y ≡ false → IsLess (seen y b) (seen y (so g doomed hand))) → One b (deeds_on x ds) (so g doomed hand)
      at_held g doomed hand ds here less =
          record {
            at = by_end (λ (y : EndId) (es : List Deed). ChangeAt version (seen y b) es (seen y (so g doomed hand))) x ds here
                (λ y apart. Elsewhere (seen y b) (seen y (so g doomed hand)) (others_so n place b.places there its g y apart) (less y apart));
            single = single_so n place b.places there its g single;
          }

      does_one : (h : Happening) (rest : List EndId) → MayDo h k → b.hand ≡ taken_along h ++ rest → One b (deeds_on x (deeds_of version h k)) (so (Keeps (after version h k)) b.doomed rest)
      does_one h rest may hand =
          at_held (Keeps (after version h k)) b.doomed rest (deeds_of version h k)
          (Does k h (seen x b) (seen x (so (Keeps (after version h k)) b.doomed rest)) (here_was n place b.places there its) (here_so n place b.places there its (Keeps (after version h k))) may (less x))
          (λ y apart. less y)
        where
          less : (y : EndId) → IsLess (seen y b) (seen y (so (Keeps (after version h k)) b.doomed rest))
          less y =
              let places : in_places y (with_holding n (Keeps (after version h k)) b.places) + of_holding y (Keeps k) ≡ in_places y b.places + of_holding y (Keeps (after version h k)) = load (Keeps (after version h k)) y in
              let grows : of_holding y (Keeps (after version h k)) ≤ of_holding y (Keeps k) + how_often y (taken_along h) = may_load y version h k may in
              let takes : how_often y b.hand ≡ how_often y (taken_along h) + how_often y rest = ap (how_often y) hand ∙ both y (taken_along h) rest in
              record { out = omega (arith, places, grows, takes); all = omega (arith, places, grows, takes) }

      goes_one : is_busy k ≡ false → IsWhole k → One b [] (so (Gone false) b.doomed (x ∷ b.hand))
      goes_one rests whole =
          at_held (Gone false) b.doomed (x ∷ b.hand) []
          (LetsGo k (seen x b) (seen x (so (Gone false) b.doomed (x ∷ b.hand))) (here_was n place b.places there its) (here_so n place b.places there its (Gone false)) rests whole
          (let places : in_places x (with_holding n (Gone false) b.places) + of_holding x (Keeps k) ≡ in_places x b.places + 0 = load (Gone false) x in
          let self : once x x ≡ 1 = once_self x in omega (arith, places, self)))
          (λ y apart.
          let places : in_places y (with_holding n (Gone false) b.places) + of_holding y (Keeps k) ≡ in_places y b.places + 0 = load (Gone false) y in
          let other : once x y ≡ 0 = once_other x y apart in
          record { out = omega (arith, places, other); all = omega (arith, places, other) })

      destroys_one : One b [] (so (Gone (returns k.sending)) (b.doomed ++ x ∷ []) (given_back k ++ b.hand))
      destroys_one =
          at_held (Gone own) (b.doomed ++ x ∷ []) (given_back k ++ b.hand) []
          (Destroys k (seen x b) (seen x c) (here_was n place b.places there its) (here_so n place b.places there its (Gone own)) (out x)
          (let less : (seen x c).out ≤ (seen x b).out = out x in
          let dooms : how_often x c.doomed ≡ how_often x b.doomed + once x x = doomed_too x x b.doomed in
          let self : once x x ≡ 1 = once_self x in omega (arith, less, dooms, self)))
          (λ y apart.
          let less : (seen y c).out ≤ (seen y b).out = out y in
          let dooms : how_often y c.doomed ≡ how_often y b.doomed + once x y = doomed_too x y b.doomed in
          let other : once x y ≡ 0 = once_other x y apart in
          record { out = less; all = omega (arith, less, dooms, other) })
        where
          own : Bool
          own = returns k.sending

          c : Ledger
          c = so (Gone own) (b.doomed ++ x ∷ []) (given_back k ++ b.hand)

          out : (y : EndId) → (seen y c).out ≤ (seen y b).out
          out y =
              let places : in_places y (with_holding n (Gone own) b.places) + of_holding y (Keeps k) ≡ in_places y b.places + 0 = load (Gone own) y in
              let gives : how_often y (given_back k) ≤ of_holding y (Keeps k) = back_given y k in
              let hand : how_often y (given_back k ++ b.hand) ≡ how_often y (given_back k) + how_often y b.hand = both y (given_back k) b.hand in
              omega (arith, places, gives, hand)

    -- allows that are due
    settles_one : (room : Bool) → One b [] (record b { places = map (settled_at room) b.places })
    settles_one room = record { at = λ y. by_holding y (holding_at y b.places) refl; single = single_settled room b.places single }
      where
        c : Ledger
        c = record b { places = map (settled_at room) b.places }

        less : (y : EndId) → IsLess (seen y b) (seen y c)
        less y =
            let places : in_places y (map (settled_at room) b.places) ≤ in_places y b.places = settle_load y room b.places in
            record { out = omega (arith, places); all = omega (arith, places) }

        by_holding : (y : EndId) (g : Holding) → holding_at y b.places ≡ g → ChangeAt version (seen y b) [] (seen y c)
        by_holding y (Keeps k) e = Settles room k (seen y b) (seen y c) e (holding_settled room b.places y ∙ ap (settled_in room) e) (less y)
        by_holding y (Gone own) e = Elsewhere (seen y b) (seen y c) (holding_settled room b.places y ∙ ap (settled_in room) e ∙ sym e) (less y)

    -- an end from the hand
    module _ (x : EndId) (rest : List EndId) (hand : b.hand ≡ x ∷ rest) where
      in_hand : (y : EndId) → how_often y b.hand ≡ once x y + how_often y rest
      in_hand y = ap (how_often y) hand

      dooms_one : One b [] (record b { doomed = b.doomed ++ x ∷ []; hand = rest })
      dooms_one = record { at = λ y. Elsewhere (seen y b) (seen y (record b { doomed = b.doomed ++ x ∷ []; hand = rest })) refl (less y); single = single }
        where
          less : (y : EndId) → IsLess (seen y b) (seen y (record b { doomed = b.doomed ++ x ∷ []; hand = rest }))
          less y =
              let takes : how_often y b.hand ≡ once x y + how_often y rest = in_hand y in
              let dooms : how_often y (b.doomed ++ x ∷ []) ≡ how_often y b.doomed + once x y = doomed_too x y b.doomed in
              record { out = omega (arith, takes); all = omega (arith, takes, dooms) }

      -- it is held from then on, and what else is carried is no more
      held_from_then : (qs : List Place) → holding_at x qs ≡ Keeps fresh → ((y : EndId) → end_eq x y ≡ false → holding_at y qs ≡ holding_at y b.places) →
          ((y : EndId) → in_places y qs ≤ in_places y b.places) → AreSingle qs → One b [] (record b { places = qs; hand = rest })
      held_from_then qs here others few singly =
          record {
            at = by_end (λ (y : EndId) (es : List Deed). ChangeAt version (seen y b) es (seen y c)) x []
                (let places : in_places x qs ≤ in_places x b.places = few x in
                let takes : how_often x b.hand ≡ once x x + how_often x rest = in_hand x in
                let self : once x x ≡ 1 = once_self x in
                Holds (seen x b) (seen x c) here (omega (arith, places, takes, self)) (omega (arith, places, takes, self)))
                (λ y apart.
                let places : in_places y qs ≤ in_places y b.places = few y in
                let takes : how_often y b.hand ≡ once x y + how_often y rest = in_hand y in
                Elsewhere (seen y b) (seen y c) (others y apart) (record { out = omega (arith, places, takes); all = omega (arith, places, takes) }));
            single = singly;
          }
        where
          c : Ledger
          c = record b { places = qs; hand = rest }

      holds_one : One b [] (record b { places = with_holding (number_of x b.places) (Keeps fresh) b.places; hand = rest })
      holds_one = by_place (place_at (number_of x b.places) b.places) refl
        where
          qs : List Place
          qs = with_holding (number_of x b.places) (Keeps fresh) b.places

          by_place : (o : Option Place) → place_at (number_of x b.places) b.places ≡ o → One b [] (record b { places = qs; hand = rest })
          by_place None at =
              subst (λ (l : List Place). One b [] (record b { places = l; hand = rest })) (sym (at_none (number_of x b.places) (Keeps fresh) b.places at))
              (record {
                at = λ y. Elsewhere (seen y b) (seen y (record b { hand = rest })) refl
                    (let takes : how_often y b.hand ≡ once x y + how_often y rest = in_hand y in record { out = omega (arith, takes); all = omega (arith, takes) });
                single = single;
              })
          by_place (Some p) at =
              held_from_then qs (subst (λ (z : EndId). holding_at z qs ≡ Keeps fresh) is (here_so n p b.places at its (Keeps fresh)))
              (λ y apart. others_so n p b.places at its (Keeps fresh) y (ap (λ (z : EndId). end_eq z y) is ∙ apart))
              (λ y. let places : in_places y qs + of_holding y p.holding ≡ in_places y b.places + 0 = with_load y n p (Keeps fresh) b.places at in omega (arith, places))
              (single_so n p b.places at its (Keeps fresh) single)
            where
              n : ℕ
              n = number_of x b.places

              is : p.end ≡ x
              is = numbered x b.places p at

              its : n ≡ number_of p.end b.places
              its = ap (λ (z : EndId). number_of z b.places) (sym is)

      gets_one_more : ((k : Kept) → holding_at x b.places ≡ Keeps k → ⊥) → length b.places < 4294967295 → One b [] (record b { places = gets_one x b.places; hand = rest })
      gets_one_more unheld few =
          subst (λ (l : List Place). One b [] (record b { places = l; hand = rest })) (got_as x b.places (length b.places) refl few)
          (held_from_then (b.places ++ record { end = x; holding = Keeps fresh } ∷ []) (holding_here x b.places) (holding_elsewhere x b.places)
          (λ y. let same : in_places y (b.places ++ record { end = x; holding = Keeps fresh } ∷ []) ≡ in_places y b.places = got_load y x b.places in omega (arith, same))
          (got_single x b.places single unheld))

    sorts_one : (hand : List EndId) → ((y : EndId) → how_often y hand ≤ how_often y b.hand) → One b [] (record b { hand = hand })
    sorts_one hand few =
        record {
          at = λ y. Elsewhere (seen y b) (seen y (record b { hand = hand })) refl
              (let less : how_often y hand ≤ how_often y b.hand = few y in record { out = omega (arith, less); all = omega (arith, less) });
          single = single;
        }

  -- ---- all changes

  -- an end in the hand is not held
  unheld_in_hand : (x : EndId) (rest : List EndId) (b : Ledger) → b.hand ≡ x ∷ rest → total (seen x b) ≤ 1 → (k : Kept) → holding_at x b.places ≡ Keeps k → ⊥
  unheld_in_hand x rest b hand few k keeps =
      let held : held_count (holding_at x b.places) ≡ 1 = ap held_count keeps in
      let takes : how_often x b.hand ≡ once x x + how_often x rest = ap (how_often x) hand in
      let self : once x x ≡ 1 = once_self x in
      absurd (omega (arith, held, takes, self, few))

  -- where there is room afterwards, there was
  had_room : (b : Ledger) (ds : List DeedOn) (c : Ledger) → Change version b ds c → length c.places < 4294967295 → length b.places < 4294967295
  had_room b ds c (changes.Does n x k h l rest there may hand) few = subst (λ (m : ℕ). m < 4294967295) (many_with n (Keeps (after version h k)) b.places) few
  had_room b ds c (changes.Settle room l) few = subst (λ (m : ℕ). m < 4294967295) (many_settled room b.places) few
  had_room b ds c (changes.LetsGo n x k l there rests whole) few = subst (λ (m : ℕ). m < 4294967295) (many_with n (Gone false) b.places) few
  had_room b ds c (changes.Destroys n x k l there) few = subst (λ (m : ℕ). m < 4294967295) (many_with n (Gone (returns k.sending)) b.places) few
  had_room b ds c (changes.Holds x rest l hand) few = subst (λ (m : ℕ). m < 4294967295) (many_with (number_of x b.places) (Keeps fresh) b.places) few
  had_room b ds c (changes.Gets x rest l hand) few = many_got x b.places few
  had_room b ds c (changes.Dooms x rest l hand) few = few
  had_room b ds c (changes.Sorts hand l less) few = few

  all_had_room : (b : Ledger) (ds : List DeedOn) (c : Ledger) → Changes version b ds c → length c.places < 4294967295 → length b.places < 4294967295
  all_had_room b ds c (changes.None l) few = few
  all_had_room b ds c (changes.Then l as' d bs m one others) few = had_room b as' d one (all_had_room d bs c others few)

  pub one_at : (b : Ledger) (ds : List DeedOn) (c : Ledger) → Change version b ds c → AreSingle b.places → ((y : EndId) → total (seen y b) ≤ 1) → length b.places < 4294967295 → One b ds c
  one_at b ds c (changes.Does n x k h l rest there may hand) single few room = does_one b single n x k there h rest may hand
  one_at b ds c (changes.Settle free l) single few room = settles_one b single free
  one_at b ds c (changes.LetsGo n x k l there rests whole) single few room = goes_one b single n x k there rests whole
  one_at b ds c (changes.Destroys n x k l there) single few room = destroys_one b single n x k there
  one_at b ds c (changes.Holds x rest l hand) single few room = holds_one b single x rest hand
  one_at b ds c (changes.Gets x rest l hand) single few room = gets_one_more b single x rest hand (unheld_in_hand x rest b hand (few x)) room
  one_at b ds c (changes.Dooms x rest l hand) single few room = dooms_one b single x rest hand
  one_at b ds c (changes.Sorts hand l less) single few room = sorts_one b single hand less

  -- an end is in no more places than before
  pub less_at : (y : EndId) (b : Ledger) (ds : List DeedOn) (c : Ledger) → One b ds c → total (seen y c) ≤ total (seen y b)
  less_at y b ds c one = change_less version (seen y b) (deeds_at y ds) (seen y c) (one.at y)

  few_still : (b : Ledger) (ds : List DeedOn) (c : Ledger) → One b ds c → ((y : EndId) → total (seen y b) ≤ 1) → (y : EndId) → total (seen y c) ≤ 1
  few_still b ds c one few y = let less : total (seen y c) ≤ total (seen y b) = less_at y b ds c one in let was : total (seen y b) ≤ 1 = few y in omega (arith, less, was)

  pub changes_at : (x : EndId) (b : Ledger) (ds : List DeedOn) (c : Ledger) → Changes version b ds c → AreSingle b.places → ((y : EndId) → total (seen y b) ≤ 1) → length c.places < 4294967295 → AreAt version x b ds c
  changes_at x b ds c (changes.None l) single few room = record { changes = NoChange (seen x b); single = single }
  changes_at x b ds c (changes.Then l as' d bs m one others) single few room =
      let first : One b as' d = one_at b as' d one single few (had_room b as' d one (all_had_room d bs c others room)) in
      let rest : AreAt version x d bs c = changes_at x d bs c others first.single (few_still b as' d first few) room in
      record {
        changes =
            subst (λ (es : List Deed). ChangesAt version (seen x b) es (seen x c)) (sym (deeds_both x as' bs))
            (Then (seen x b) (deeds_at x as') (seen x d) (deeds_at x bs) (seen x c) (first.at x) rest.changes);
        single = rest.single;
      }

-- an end is in no more places after all changes
pub changes_less : (version : ℕ) (a : Seen) (ds : List Deed) (b : Seen) → ChangesAt version a ds b → total b ≤ total a
changes_less version a ds b (NoChange f) = omega arith
changes_less version a ds b (Then f as' m bs g one others) =
    let first : total m ≤ total a = change_less version a as' m one in
    let rest : total b ≤ total m = changes_less version m bs b others in
    omega (arith, first, rest)

pub less_after : (version : ℕ) (y : EndId) (b : Ledger) (ds : List DeedOn) (c : Ledger) → Changes version b ds c → AreSingle b.places → ((z : EndId) → total (seen z b) ≤ 1) → length c.places < 4294967295 → total (seen y c) ≤ total (seen y b)
less_after version y b ds c changes single few room = changes_less version (seen y b) (deeds_at y ds) (seen y c) (changes_at version y b ds c changes single few room).changes
