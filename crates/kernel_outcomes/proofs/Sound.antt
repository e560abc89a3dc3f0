-- What the words ask for is true of every table that is sound.
use Rattle.std.proofs.Common.{◌≡◌, ℕ, ◌≤◌, Bool, true, false, true≢false, ◌||◌, List, [], ◌∷◌, ◌++◌, refl, sym, ap, subst, ◌∙◌, if◌then◌else◌}
use Rattle.std.proofs.lemmas.Bool.{and_from, and_parts, eqb-true, leb-true, not_from_false, false_from_ne_true}
use Rattle.std.proofs.lemmas.List.Folds.{list_any-append}
use Rattle.std.specs.List.{list_any}
use Rattle.charlotte_calls.specs.declared.names.EndId.{EndId}
use Rattle.charlotte_calls.specs.declared.names.Pid.{Pid}
use Rattle.charlotte_packets.specs.declared.picture.MovingPicture.{MovingPicture}
use Rattle.end_table.proofs.EndEq.{end_eq-same, end_eq-refl, end_eq-sym, put-other}
use Rattle.end_table.specs.Entries.{settled}
use Rattle.end_table.proofs.Owned.{end_before-irrefl, end_before-trans, in_order-tail}
use Rattle.end_table.specs.Owned.{AreEndsInOrder, AreEndsOf, end_before}
use Rattle.end_table.specs.Place.{end_eq, put}
use Rattle.end_table.specs.Table.{IfHere, IsHere}
use Rattle.end_table.specs.declared.entry.Entry.{Entry}
use Rattle.end_table.specs.declared.entry.Entry.TheVariants as entry
use Rattle.end_table.specs.declared.entry.HereView.{HereView}
use Rattle.end_table.specs.declared.entry.Holder.{Holder}
use Rattle.end_table.specs.declared.entry.Holder.TheVariants as holder
use Rattle.kernel_sound.proofs.Calls.{AreOwnedBy, AreOwnedBy-all}
use Rattle.kernel_sound.proofs.Needs.{AreFree, IfHere-at, apart_at-sound}
use Rattle.kernel_sound.proofs.Put.{IsHeldBy}
use Rattle.kernel_sound.proofs.Values.{AreComing, AreComing-others}
use Rattle.kernel_sound.specs.Sound.{AreHeldBy, IsSound}
use Rattle.kernel_step.proofs.EnclosedEnds.{first_false, second_false}
use Rattle.kernel_step.proofs.Folds.{AreDifferent}
use Rattle.kernel_step.specs.Actions.{enclosed_of}
use Rattle.kernel_step.specs.Rows.{arriving, ends_in, is_carried, is_here, passing}
use Rattle.kernel_effects.specs.Calls.{ended_list, ended_with}
use Rattle.kernel_effects.proofs.Ends.{AreNone, StandsAt}

-- ends that a send holds differ
pub AreDifferent-held : (e : EndId) (t : EndId → Entry) (xs : List EndId) → AreHeldBy e t xs → AreDifferent xs
AreDifferent-held e t [] held = tt
AreDifferent-held e t (x ∷ xs) held = (held.1, AreDifferent-held e t xs held.2)

-- so do those that are free
pub AreDifferent-free : (p : Pid) (t : EndId → Entry) (xs : List EndId) → AreFree p t xs → AreDifferent xs
AreDifferent-free p t [] free = tt
AreDifferent-free p t (x ∷ xs) free = (free.1, AreDifferent-free p t xs free.2)

-- and those of values that come
pub AreDifferent-coming : (k made : ℕ) (t : EndId → Entry) (ms : List MovingPicture) → AreComing k made t ms → AreDifferent (ends_in ms)
AreDifferent-coming k made t [] come = tt
AreDifferent-coming k made t (m ∷ ms) come = (come.2, AreDifferent-coming k made t ms come.3)

-- a value that comes is carried
carried-coming : (k made : ℕ) (t : EndId → Entry) (m : MovingPicture) → (IsHere (t m.end) → ⊥) → (m.end.link.maker ≡ k → made ≤ m.end.link.count → ⊥) → is_carried k made t m ≡ true
carried-coming k made t m away unmade = and_from _ _ (not_from_false _ (is_away (t m.end) away)) (not_from_false _ (false_from_ne_true _ (λ both. let parts = and_parts _ _ both in unmade (eqb-true _ _ parts.0) (leb-true _ _ parts.1))))
  where
    is_away : (y : Entry) → (IsHere y → ⊥) → is_here y ≡ false
    is_away entry.Nothing away = refl
    is_away (entry.Here v) away = absurd (away tt)
    is_away (entry.Left to hops) away = refl
    is_away (entry.Destroyed m) away = refl

-- where values come, all of them arrive
pub arriving-all : (k made : ℕ) (h : Holder) (t : EndId → Entry) (ms : List MovingPicture) → AreComing k made t ms → arriving k made h t ms ≡ ms
arriving-all k made h t [] come = refl
arriving-all k made h t (m ∷ ms) come =
    let after = put t m.end (entry.Here (settled h m)) in
    ap (λ b. if b then m ∷ arriving k made h after ms else arriving k made h t ms) (carried-coming k made t m come.0 come.1)
    ∙ ap (λ l. m ∷ l) (arriving-all k made h after ms (AreComing-others k made t after m.end ms (λ q apart. put-other t m.end (entry.Here (settled h m)) q apart) come.2 come.3))

-- and all of them pass
pub passing-all : (k made : ℕ) (t : EndId → Entry) (ms : List MovingPicture) → AreComing k made t ms → passing k made t ms ≡ ms
passing-all k made t [] come = refl
passing-all k made t (m ∷ ms) come =
    ap (λ b. if b then m ∷ passing k made t ms else passing k made t ms) (carried-coming k made t m come.0 come.1) ∙ ap (λ l. m ∷ l) (passing-all k made t ms come.3)

-- values that pass are some of all
pub none-passing : (k made : ℕ) (t : EndId → Entry) (e : EndId) (ms : List MovingPicture) → list_any (end_eq e) (ends_in ms) ≡ false → list_any (end_eq e) (ends_in (passing k made t ms)) ≡ false
none-passing k made t e [] none = refl
none-passing k made t e (m ∷ ms) none = by (is_carried k made t m) (none-passing k made t e ms (second_false _ _ none))
  where
    by : (b : Bool) → list_any (end_eq e) (ends_in (passing k made t ms)) ≡ false → list_any (end_eq e) (ends_in (if b then m ∷ passing k made t ms else passing k made t ms)) ≡ false
    by true rest = ap (λ b. b || list_any (end_eq e) (ends_in (passing k made t ms))) (first_false _ _ none) ∙ rest
    by false rest = rest

pub AreDifferent-passing : (k made : ℕ) (t : EndId → Entry) (ms : List MovingPicture) → AreDifferent (ends_in ms) → AreDifferent (ends_in (passing k made t ms))
AreDifferent-passing k made t [] different = tt
AreDifferent-passing k made t (m ∷ ms) different = by (is_carried k made t m) (AreDifferent-passing k made t ms different.1)
  where
    by : (b : Bool) → AreDifferent (ends_in (passing k made t ms)) → AreDifferent (ends_in (if b then m ∷ passing k made t ms else passing k made t ms))
    by true rest = (none-passing k made t m.end ms different.0, rest)
    by false rest = rest

module _ (k made n : ℕ) (t : EndId → Entry) (sound : IsSound k made n t) where
  -- an end that is here stands there
  pub stands-sound : (e : EndId) (v : HereView) → t e ≡ entry.Here v → StandsAt t e v
  stands-sound e v here =
      record {
        here = here;
        own = sound.own;
        different = AreDifferent-held e t (enclosed_of v.outward) (IfHere-at (t e) v (λ u. AreHeldBy e t (enclosed_of u.outward)) here (sound.enclosed e));
        apart = apart_at-sound k made n t sound e v here;
      }

-- ---- the ends of a process and what their messages enclose

-- the end with which an end is destroyed: its own process's end, or the one whose message encloses it
abbrev holder_end : EndId → Holder → EndId
holder_end y (holder.Owner p) = y
holder_end y (holder.EnclosedIn e) = e

abbrev keeper : EndId → Entry → EndId
keeper y entry.Nothing = y
keeper y (entry.Here v) = holder_end y v.holder
keeper y (entry.Left to hops) = y
keeper y (entry.Destroyed m) = y

-- all of these are destroyed with z
abbrev AreKept : (EndId → Entry) → EndId → List EndId → Type 0
AreKept t z [] = Unit {0}
AreKept t z (y ∷ ys) = (keeper y (t y) ≡ z) × AreKept t z ys

AreKept-append : (t : EndId → Entry) (z : EndId) (xs ys : List EndId) → AreKept t z xs → AreKept t z ys → AreKept t z (xs ++ ys)
AreKept-append t z [] ys first second = second
AreKept-append t z (x ∷ xs) ys first second = (first.0, AreKept-append t z xs ys first.1 second)

-- what z's message holds
AreKept-held : (t : EndId → Entry) (z : EndId) (ys : List EndId) → AreHeldBy z t ys → AreKept t z ys
AreKept-held t z [] held = tt
AreKept-held t z (y ∷ ys) held = (by (t y) held.0, AreKept-held t z ys held.2)
  where
    by : (x : Entry) → IsHeldBy z x → keeper y x ≡ z
    by (entry.Here v) is = ap (holder_end y) is.1
    by entry.Nothing is = absurd is
    by (entry.Left to hops) is = absurd is
    by (entry.Destroyed m) is = absurd is

-- ends that are destroyed with different ends differ
none-kept : (t : EndId → Entry) (x z y : EndId) (xs : List EndId) → end_eq x z ≡ false → keeper y (t y) ≡ z → AreKept t x xs → list_any (end_eq y) xs ≡ false
none-kept t x z y [] apart is kept = refl
none-kept t x z y (w ∷ ws) apart is kept = by (end_eq y w) refl (none-kept t x z y ws apart is kept.1)
  where
    by : (b : Bool) → end_eq y w ≡ b → list_any (end_eq y) ws ≡ false → (b || list_any (end_eq y) ws) ≡ false
    by true same rest =
        let there : keeper w (t w) ≡ z = subst (λ q. keeper q (t q) ≡ z) (end_eq-same y w same) is in
        let e : x ≡ z = sym kept.0 ∙ there in
        absurd (true≢false (sym (end_eq-refl x) ∙ ap (end_eq x) e ∙ apart))
    by false other rest = rest

AreNone-kept : (t : EndId → Entry) (x z : EndId) (xs ys : List EndId) → end_eq x z ≡ false → AreKept t x xs → AreKept t z ys → AreNone xs ys
AreNone-kept t x z xs [] apart first second = tt
AreNone-kept t x z xs (y ∷ ys) apart first second = (none-kept t x z y xs apart second.0 first, AreNone-kept t x z xs ys apart first second.1)

AreNone-append : (xs ys zs : List EndId) → AreNone xs ys → AreNone xs zs → AreNone xs (ys ++ zs)
AreNone-append xs [] zs first second = second
AreNone-append xs (y ∷ ys) zs first second = (first.0, AreNone-append xs ys zs first.1 second)

-- the first of some is none of theirs, and so are the others
none-first : (x : EndId) (xs ys : List EndId) → AreNone (x ∷ xs) ys → (list_any (end_eq x) ys ≡ false) × AreNone xs ys
none-first x xs [] none = (refl, tt)
none-first x xs (y ∷ ys) none =
    let rest = none-first x xs ys none.1 in
    (ap (λ b. b || list_any (end_eq x) ys) (end_eq-sym x y ∙ first_false _ _ none.0) ∙ rest.0, (second_false _ _ none.0, rest.1))

-- parts that differ, differ together
AreDifferent-append : (xs ys : List EndId) → AreDifferent xs → AreDifferent ys → AreNone xs ys → AreDifferent (xs ++ ys)
AreDifferent-append [] ys first second none = second
AreDifferent-append (x ∷ xs) ys first second none =
    let parts = none-first x xs ys none in
    (list_any-append (end_eq x) xs ys ∙ ap (λ b. b || list_any (end_eq x) ys) first.0 ∙ parts.0, AreDifferent-append xs ys first.1 second parts.1)

-- an end that stands before others in order is none of them
none-before : (x : EndId) (xs : List EndId) → AreEndsInOrder (x ∷ xs) → list_any (end_eq x) xs ≡ false
none-before x [] order = refl
none-before x (y ∷ ys) order = by (end_eq x y) refl (none-before x ys (shorter ys order.1))
  where
    shorter : (ys : List EndId) → AreEndsInOrder (y ∷ ys) → AreEndsInOrder (x ∷ ys)
    shorter [] rest = tt
    shorter (z ∷ zs) rest = (end_before-trans x y z order.0 rest.0, rest.1)

    by : (b : Bool) → end_eq x y ≡ b → list_any (end_eq x) ys ≡ false → (b || list_any (end_eq x) ys) ≡ false
    by true same none = absurd (end_before-irrefl x (subst (λ z. end_before x z ≡ true) (sym (end_eq-same x y same)) order.0))
    by false apart none = none

-- ends in order differ
pub AreDifferent-ordered : (xs : List EndId) → AreEndsInOrder xs → AreDifferent xs
AreDifferent-ordered [] order = tt
AreDifferent-ordered (x ∷ xs) order = (none-before x xs order, AreDifferent-ordered xs (in_order-tail x xs order))

module _ (k made n : ℕ) (t : EndId → Entry) (sound : IsSound k made n t) (p : Pid) where
  -- an owned end is destroyed with itself and what its message encloses
  kept-ended : (x : EndId) → IfHere (t x) (λ v. v.holder ≡ holder.Owner p) → AreKept t x (ended_with x (t x))
  kept-ended x owner = by (t x) refl owner
    where
      by : (y : Entry) → t x ≡ y → IfHere y (λ v. v.holder ≡ holder.Owner p) → AreKept t x (ended_with x y)
      by entry.Nothing at owner = tt
      by (entry.Here v) at owner =
          AreKept-append t x (enclosed_of v.outward) (x ∷ []) (AreKept-held t x (enclosed_of v.outward) (IfHere-at (t x) v (λ u. AreHeldBy x t (enclosed_of u.outward)) at (sound.enclosed x)))
          (ap (keeper x) at ∙ ap (holder_end x) owner, tt)
      by (entry.Left to hops) at owner = tt
      by (entry.Destroyed m) at owner = tt

  different-ended : (x : EndId) → AreDifferent (ended_with x (t x))
  different-ended x = by (t x) refl
    where
      by : (y : Entry) → t x ≡ y → AreDifferent (ended_with x y)
      by entry.Nothing at = tt
      by (entry.Here v) at =
          let s = stands-sound k made n t sound x v at in
          AreDifferent-append (enclosed_of v.outward) (x ∷ []) s.different (refl, tt) (s.apart, tt)
      by (entry.Left to hops) at = tt
      by (entry.Destroyed m) at = tt

  -- none of them is destroyed with another end of the process
  none-ended : (x : EndId) (xs : List EndId) → IfHere (t x) (λ v. v.holder ≡ holder.Owner p) → list_any (end_eq x) xs ≡ false → AreOwnedBy p t xs → AreNone (ended_with x (t x)) (ended_list t xs)
  none-ended x [] owner none owned = tt
  none-ended x (z ∷ zs) owner none owned =
      AreNone-append (ended_with x (t x)) (ended_with z (t z)) (ended_list t zs)
      (AreNone-kept t x z (ended_with x (t x)) (ended_with z (t z)) (first_false _ _ none) (kept-ended x owner) (kept-ended z owned.0))
      (none-ended x zs owner (second_false _ _ none) owned.1)

  -- so all that an Exit destroys differ
  pub AreDifferent-ended : (xs : List EndId) → AreDifferent xs → AreOwnedBy p t xs → AreDifferent (ended_list t xs)
  AreDifferent-ended [] different owned = tt
  AreDifferent-ended (x ∷ xs) different owned =
      AreDifferent-append (ended_with x (t x)) (ended_list t xs) (different-ended x) (AreDifferent-ended xs different.1 owned.1) (none-ended x xs owned.0 different.0 owned.1)

  pub AreDifferent-exit : (mine : List EndId) → AreEndsOf p t mine → AreDifferent (ended_list t mine)
  AreDifferent-exit mine ends = AreDifferent-ended mine (AreDifferent-ordered mine ends.order) (AreOwnedBy-all p t mine ends)
