-- What a port has after one of its rings changed.
use Rattle.std.proofs.Common.{◌≡◌, ℕ, zero, suc, ◌+◌, ◌<◌, ◌≤◌, List, [], ◌∷◌, ◌++◌, length, map, set, get_or, ap, ◌∙◌, sym, subst, refl, arith, append-nil}
use Rattle.std.proofs.lemmas.List.{get_or_default, length-map, set-get_or}
use Rattle.std.proofs.Math.Nat.{ne_of_lt}
use mathlib.Core.List.{IsPrefix, map-map}
use Rattle.kernel_net.specs.Letters.{MayBePut}
use Rattle.kernel_net.specs.Rings.{Ring, Outlet, Inlet, Puts, Gets, Learns, Looks, capacity_of}
use Rattle.kernel_net.specs.Ports.{kernels_of, PortView, place_of, put_to, got_from, places_to, known_from, room_to, HasPut, HasFound, GetsOne, HasGot, HasLooked, LooksOneWay, AreAllThere, IsJoined, IsPlace, FindsFirst}
use Rattle.kernel_net.specs.declared.letter.Letter.{Letter}
use Rattle.kernel_net.proofs.Lists.{read-at, set-at, set-others, set-kept, prefix-trans}

abbrev pub with_out : PortView → ℕ → Outlet → PortView
with_out p to o = record { kernel = p.kernel; out = set p.out to o; into = p.into }

abbrev pub with_into : PortView → ℕ → Inlet → PortView
with_into p from i = record { kernel = p.kernel; out = p.out; into = set p.into from i }

module _ (p : PortView) (to : ℕ) (old new : Outlet) (below : to < length p.out) (is : old ≡ get_or p.out to old) where
  pub place-out : new.ring ≡ old.ring → place_of (with_out p to new) ≡ place_of p
  place-out same = ap (λ (rs : List Ring). record { kernel = p.kernel; to = rs; from = map (λ i. i.ring) p.into }) (set-kept (λ o. o.ring) p.out to old new below is same)

  pub has-put : (letter : Letter) → Puts letter old new → HasPut to letter p (with_out p to new)
  has-put letter puts =
      record {
        put = set-at (λ o. o.put) p.out to old new below is [] ∙ puts.put ∙ ap (λ xs. xs ++ letter ∷ []) (sym (read-at (λ o. o.put) p.out to old new below is []));
        places = subst (λ n. n ≤ places_to (with_out p to new) to + 1) (sym (read-at (λ o. o.places) p.out to old new below is 0))
            (subst (λ n. old.places ≤ n + 1) (sym (set-at (λ o. o.places) p.out to old new below is 0)) puts.places);
        others = λ q other. (set-others (λ o. o.put) p.out to old new below is q [] other, set-others (λ o. o.places) p.out to old new below is q 0 other);
        into = refl;
      }

  pub looked-out : new.put ≡ old.put → old.places ≤ new.places → HasLooked to p (with_out p to new)
  looked-out put places =
      record {
        put = ap {B = ℕ → List Letter} (λ ls q. get_or ls q []) (set-kept (λ o. o.put) p.out to old new below is put);
        got = refl;
        places = subst (λ n. n ≤ places_to (with_out p to new) to) (sym (read-at (λ o. o.places) p.out to old new below is 0))
            (subst (λ n. old.places ≤ n) (sym (set-at (λ o. o.places) p.out to old new below is 0)) places);
        known = ([], append-nil (known_from p to));
        others = λ q other. (set-others (λ o. o.places) p.out to old new below is q 0 other, refl);
      }

  -- no free place is known, and nothing changed
  pub full-out : new ≡ old → new.places ≡ 0 → (with_out p to new ≡ p) × (places_to (with_out p to new) to ≡ 0)
  full-out same none = (
    ap {B = PortView} (λ (os : List Outlet). record { kernel = p.kernel; out = os; into = p.into }) (ap (set p.out to) (same ∙ is) ∙ set-get_or p.out to old),
    set-at (λ o. o.places) p.out to old new below is 0 ∙ none,
  )

  pub free-out : 0 < new.places → 0 < places_to (with_out p to new) to
  free-out some = subst (λ n. 0 < n) (sym (set-at (λ o. o.places) p.out to old new below is 0)) some

-- the letters that a ring takes are those that it took before its port looked
pub may-looked : (to : ℕ) (letter : Letter) (old mid : PortView) → HasLooked to old mid → MayBePut (put_to old to) letter → MayBePut (put_to mid to) letter
may-looked to letter old mid looked may = subst (λ (ls : ℕ → List Letter). MayBePut (ls to) letter) (sym looked.put) may

-- a port learned of its ring to a kernel, and then put a letter to it
pub looked-put : (to : ℕ) (letter : Letter) (old mid new : PortView) → HasLooked to old mid → mid.into ≡ old.into → HasPut to letter mid new → HasPut to letter old new
looked-put to letter old mid new looked into puts =
    record {
      put = puts.put ∙ ap (λ (ls : ℕ → List Letter). ls to ++ letter ∷ []) looked.put;
      places = omega (arith, looked.places, puts.places);
      others = λ q other. ((puts.others q other).0 ∙ ap (λ (ls : ℕ → List Letter). ls q) looked.put, (puts.others q other).1 ∙ (looked.others q other).0);
      into = puts.into ∙ into;
    }

module _ (p : PortView) (from : ℕ) (old new : Inlet) (below : from < length p.into) (is : old ≡ get_or p.into from old) where
  pub place-into : new.ring ≡ old.ring → place_of (with_into p from new) ≡ place_of p
  place-into same = ap (λ (rs : List Ring). record { kernel = p.kernel; to = map (λ o. o.ring) p.out; from = rs }) (set-kept (λ i. i.ring) p.into from old new below is same)

  known-old : known_from p from ≡ old.known
  known-old = read-at (λ i. i.known) p.into from old new below is []

  known-new : known_from (with_into p from new) from ≡ new.known
  known-new = set-at (λ i. i.known) p.into from old new below is []

  pub looked-into : new.got ≡ old.got → IsPrefix old.known new.known → HasLooked from p (with_into p from new)
  looked-into got known =
      record {
        put = refl;
        got = ap {B = ℕ → List Letter} (λ ls q. get_or ls q []) (set-kept (λ i. i.got) p.into from old new below is got);
        places = omega arith;
        known = subst (λ l. IsPrefix l (known_from (with_into p from new) from)) (sym known-old) (subst (λ l. IsPrefix old.known l) (sym known-new) known);
        others = λ q other. (refl, set-others (λ i. i.known) p.into from old new below is q [] other);
      }

  pub gets-one : (letter : Letter) → Gets letter old new → GetsOne from letter p (with_into p from new)
  gets-one letter gets =
      record {
        got = set-at (λ i. i.got) p.into from old new below is [] ∙ gets.got ∙ ap (λ xs. xs ++ letter ∷ []) (sym (read-at (λ i. i.got) p.into from old new below is []));
        allowed = subst (λ l. MayBePut l letter) (sym (read-at (λ i. i.got) p.into from old new below is [])) gets.allowed;
        known = subst (λ l. IsPrefix l (letter ∷ known_from (with_into p from new) from)) (sym known-old) (subst (λ l. IsPrefix old.known (letter ∷ l)) (sym known-new) gets.known);
        others = λ q other. (set-others (λ i. i.got) p.into from old new below is q [] other, set-others (λ i. i.known) p.into from old new below is q [] other);
        out = refl;
      }

  pub has-found : Learns old new → 0 < length new.known → length p.out ≡ length p.into → ((q : ℕ) (d : Inlet) → q < from → (get_or p.into q d).known ≡ []) → HasFound from p (with_into p from new)
  has-found learns some same before =
      record {
        kernel = omega (arith, same, below, length-map p.out (λ o. o.ring));
        some = subst (λ (l : List Letter). 0 < length l) (sym known-new) some;
        known = subst (λ l. IsPrefix l (known_from (with_into p from new) from)) (sym known-old) (subst (λ l. IsPrefix old.known l) (sym known-new) learns.known);
        before = λ q less. set-others (λ i. i.known) p.into from old new below is q [] (ne_of_lt less)
            ∙ read-at (λ i. i.known) p.into q (get_or p.into q old) old (omega (arith, less, below)) (get_or_default p.into q old _ (omega (arith, less, below))) [] ∙ before q old less;
        others = λ q other. set-others (λ i. i.known) p.into from old new below is q [] other;
        got = λ q. ap (λ (ls : List (List Letter)). get_or ls q []) (set-kept (λ i. i.got) p.into from old new below is learns.got);
        out = refl;
      }

-- the first letter of the kernel that was found is the first of the first
pub found-got : (from : ℕ) (letter : Letter) (old mid new : PortView) → HasFound from old mid → GetsOne from letter mid new → HasGot from letter old new
found-got from letter old mid new found gets =
    record {
      kernel = found.kernel;
      got = gets.got ∙ ap (λ xs. xs ++ letter ∷ []) (found.got from);
      allowed = subst (λ xs. MayBePut xs letter) (found.got from) gets.allowed;
      known = prefix-trans _ _ _ found.known gets.known;
      before = λ q less. (gets.others q (ne_of_lt less)).1 ∙ found.before q less;
      others = λ q other. ((gets.others q other).0 ∙ found.got q, (gets.others q other).1 ∙ found.others q other);
      out = gets.out ∙ found.out;
    }

pub looked-trans : (at : ℕ) (p q r : PortView) → HasLooked at p q → HasLooked at q r → HasLooked at p r
looked-trans at p q r a b =
    record {
      put = b.put ∙ a.put;
      got = b.got ∙ a.got;
      places = omega (arith, a.places, b.places);
      known = prefix-trans _ _ _ a.known b.known;
      others = λ k other. ((b.others k other).0 ∙ (a.others k other).0, (b.others k other).1 ∙ (a.others k other).1);
    }

-- ---- the two ends of the ring from one port to another

module _ (p q : PortView) (to from : ℕ) (same-to : to ≡ q.kernel) (same-from : from ≡ p.kernel) (joined : IsJoined (place_of p) (place_of q))
    (o o' : Outlet) (i i' : Inlet) (is-o : o ≡ get_or p.out to o) (is-i : i ≡ get_or q.into from i) where
  pub below-out : to < length p.out
  below-out = omega (arith, joined.to, same-to, length-map p.out (λ o. o.ring))

  pub below-into : from < length q.into
  below-into = omega (arith, joined.from, same-from, length-map q.into (λ i. i.ring))

  pub one-ring : o.ring ≡ i.ring
  one-ring =
      sym (read-at (λ o. o.ring) p.out to o o below-out is-o o.ring)
      ∙ ap (λ k. get_or (map (λ o. o.ring) p.out) k o.ring) same-to
      ∙ joined.ring o.ring
      ∙ sym (ap (λ k. get_or (map (λ i. i.ring) q.into) k o.ring) same-from)
      ∙ read-at (λ i. i.ring) q.into from i i below-into is-i o.ring

  pub looked : Looks o o' i i' → LooksOneWay p (with_out p to o') q (with_into q from i')
  looked looks =
      record {
        putter_place = place-out p to o o' below-out is-o looks.outlet;
        getter_place = place-into q from i i' below-into is-i looks.inlet;
        putting = subst (λ k. HasLooked k p (with_out p to o')) same-to (looked-out p to o o' below-out is-o looks.put looks.places);
        getting = subst (λ k. HasLooked k q (with_into q from i')) same-from (looked-into q from i i' below-into is-i looks.got looks.known);
        into = refl;
        out = refl;
      }

  pub known-there : known_from (with_into q from i') p.kernel ≡ i'.known
  known-there = sym (ap (known_from (with_into q from i')) same-from) ∙ set-at (λ i. i.known) q.into from i i' below-into is-i []

  pub are-there : Looks o o' i i' → AreAllThere (with_out p to o') (with_into q from i')
  are-there looks =
      record {
        there = ap (λ l. l ++ known_from (with_into q from i') p.kernel) (sym (ap (got_from (with_into q from i')) same-from) ∙ set-at (λ i. i.got) q.into from i i' below-into is-i [])
            ∙ ap (λ l. i'.got ++ l) known-there
            ∙ looks.there
            ∙ sym (sym (ap (put_to (with_out p to o')) same-to) ∙ set-at (λ o. o.put) p.out to o o' below-out is-o []);
        room = omega (
          arith,
          looks.room,
          ap (places_to (with_out p to o')) same-to,
          set-at (λ o. o.places) p.out to o o' below-out is-o 0,
          ap (room_to (place_of (with_out p to o'))) same-to,
          ap (λ l. get_or l to 0) (map-map capacity_of (λ o. o.ring) (set p.out to o')),
          set-at (λ o. capacity_of o.ring) p.out to o o' below-out is-o 0,
          ap capacity_of looks.outlet,
          ap length known-there,
        );
      }

-- ---- the first ring in which a letter is known

module _ (p : PortView) (from : ℕ) (into : List Inlet) (first : FindsFirst from p.into into) where
  abbrev was : Inlet
  was = get_or p.into from first.learned.0

  is-was : was ≡ get_or p.into from was
  is-was = get_or_default p.into from first.learned.0 was first.kernel

  pub place-first : place_of (record { kernel = p.kernel; out = p.out; into = into }) ≡ place_of p
  place-first = ap (λ (is : List Inlet). place_of (record { kernel = p.kernel; out = p.out; into = is })) first.learned.3
      ∙ place-into p from was first.learned.0 first.kernel is-was first.learned.1.ring

  pub found-first : IsPlace (place_of p) → HasFound from p (record { kernel = p.kernel; out = p.out; into = into })
  found-first is = subst (λ (is : List Inlet). HasFound from p (record { kernel = p.kernel; out = p.out; into = is })) (sym first.learned.3)
      (has-found p from was first.learned.0 first.kernel is-was first.learned.1 first.learned.2
      (omega (arith, is.same, length-map p.out (λ o. o.ring), length-map p.into (λ i. i.ring))) first.before)

-- a kernel of which a letter is known has a ring
pub known-below : (is : List Inlet) (from : ℕ) → 0 < length (get_or (map (λ i. i.known) is) from []) → from < length is
known-below [] from some = absurd (omega (arith, some))
known-below (i ∷ is) zero some = omega arith
known-below (i ∷ is) (suc from) some = let less : from < length is = known-below is from some in omega (arith, less)

pub known-none : (is : List Inlet) → ((q : ℕ) (d : Inlet) → q < length is → (get_or is q d).known ≡ []) → (q : ℕ) → get_or (map (λ i. i.known) is) q [] ≡ []
known-none [] none q = refl
known-none (i ∷ is) none zero = none 0 i (omega arith)
known-none (i ∷ is) none (suc q) = known-none is (λ k d less. none (suc k) d (omega (arith, less))) q

-- ---- a view for the port

pub below-known : (p v : PortView) (from at : ℕ) → p ≡ v → at ≡ from → 0 < length (known_from v from) → at < length p.into
below-known p v from at is same some = subst (λ k. k < length p.into) (sym same) (known-below p.into from (subst (λ (w : PortView). 0 < length (known_from w from)) (sym is) some))

pub joined-views : (p p' q q' : PortView) → p ≡ p' → q ≡ q' → IsJoined (place_of p') (place_of q') → IsJoined (place_of p) (place_of q)
joined-views p p' q q' a b is = subst (λ v. IsJoined (place_of v) (place_of q)) (sym a) (subst (λ v. IsJoined (place_of p') (place_of v)) (sym b) is)

-- both ends of the ring from a port to itself
pub looked-self : (p : PortView) (own : ℕ) → own ≡ p.kernel → IsJoined (place_of p) (place_of p) → (o o' : Outlet) (i i' : Inlet) → o ≡ get_or p.out own o → i ≡ get_or p.into own i
    → Looks o o' i i' → HasLooked p.kernel p (with_into (with_out p own o') own i')
looked-self p own same joined o o' i i' is-o is-i looks =
    let one = looked p p own own same same joined o o' i i' is-o is-i looks in
    let below = below-into p p own own same same joined o o' i i' is-o is-i in
    looked-trans p.kernel p (with_out p own o') _ one.putting
    (subst (λ k. HasLooked k (with_out p own o') (with_into (with_out p own o') own i')) same (looked-into (with_out p own o') own i i' below is-i looks.got looks.known))

pub place-self : (p : PortView) (own : ℕ) → own ≡ p.kernel → IsJoined (place_of p) (place_of p) → (o o' : Outlet) (i i' : Inlet) → o ≡ get_or p.out own o → i ≡ get_or p.into own i
    → Looks o o' i i' → place_of (with_into (with_out p own o') own i') ≡ place_of p
place-self p own same joined o o' i i' is-o is-i looks =
    let below = below-into p p own own same same joined o o' i i' is-o is-i in
    place-into (with_out p own o') own i i' below is-i looks.inlet ∙ (looked p p own own same same joined o o' i i' is-o is-i looks).putter_place

pub below-to : (p v : PortView) (to at : ℕ) → p ≡ v → at ≡ to → to < kernels_of (place_of v) → at < length p.out
below-to p v to at is same below = omega (arith, below, same, length-map p.out (λ o. o.ring), ap (λ (w : PortView). length w.out) is, length-map v.out (λ o. o.ring))
