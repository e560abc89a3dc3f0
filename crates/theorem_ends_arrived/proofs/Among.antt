-- The ends of some values: which they are, how many values are of an end, and what their entries become.
use Rattle.std.proofs.Common.{◌≡◌, ◌⊎◌, inl, inr, ◌+◌, ◌≤◌, Bool, true, false, ◌||◌, if◌then◌else◌, List, [], ◌∷◌, Contains, refl, sym, ap, subst, ◌∙◌, arith, true≢false}
use Rattle.std.specs.List.{list_all, list_any}
use Rattle.std.proofs.lemmas.Bool.{and_parts}
use Rattle.charlotte_calls.specs.declared.names.EndId.{EndId}
use Rattle.charlotte_packets.specs.declared.picture.MovingPicture.{MovingPicture}
use Rattle.end_table.proofs.EndEq.{end_eq-refl, end_eq-same, end_eq-sym}
use Rattle.end_table.specs.Place.{end_eq}
use Rattle.end_table.specs.declared.entry.Entry.{Entry}
use Rattle.theorem_take_gone.specs.Effect.{brings, stays}
use Rattle.kernel_step.specs.Rows.{ends_in}
use Rattle.theorem_take_gone.proofs.Aside.{ends_in-there, not_among}
use Rattle.theorem_take_gone.proofs.Lists.{first, first_or_later, later, none-there}
use Rattle.theorem_meaning.specs.Packets.{one_if, values_for}
use Rattle.theorem_ends_arrived.specs.Arrived.{IsAmong}

abbrev among-later : (x : MovingPicture) (ms : List MovingPicture) (e : EndId) → IsAmong ms e → IsAmong (x ∷ ms) e
among-later x ms e a = record { value = a.value; there = later x ms a.value a.there; of = a.of }

-- an end that is told to be one of them
pub told-among : (ms : List MovingPicture) (e : EndId) → list_any (end_eq e) (ends_in ms) ≡ true → IsAmong ms e
told-among [] e is = absurd (true≢false (sym is))
told-among (x ∷ ms) e is = by (end_eq e x.end) refl is (told-among ms e)
  where
    by : (b : Bool) → end_eq e x.end ≡ b → (b || list_any (end_eq e) (ends_in ms)) ≡ true → (list_any (end_eq e) (ends_in ms) ≡ true → IsAmong ms e) → IsAmong (x ∷ ms) e
    by true same is rest = record { value = x; there = first x ms; of = sym (end_eq-same e x.end same) }
    by false apart is rest = among-later x ms e (rest is)

-- one that is one of them is told to be
pub among-told : (ms : List MovingPicture) (e : EndId) → IsAmong ms e → list_any (end_eq e) (ends_in ms) ≡ true
among-told ms e a = by (list_any (end_eq e) (ends_in ms)) refl
  where
    by : (b : Bool) → list_any (end_eq e) (ends_in ms) ≡ b → b ≡ true
    by true is = refl
    by false none = absurd (not_among e (ends_in ms) none (subst (Contains (ends_in ms)) a.of (ends_in-there ms a.value a.there)))

pub among-contains : (ms : List MovingPicture) (e : EndId) → IsAmong ms e → Contains (ends_in ms) e
among-contains ms e a = subst (Contains (ends_in ms)) a.of (ends_in-there ms a.value a.there)

pub contains-among : (ms : List MovingPicture) (e : EndId) → Contains (ends_in ms) e → IsAmong ms e
contains-among ms e has = by (list_any (end_eq e) (ends_in ms)) refl
  where
    by : (b : Bool) → list_any (end_eq e) (ends_in ms) ≡ b → IsAmong ms e
    by true is = told-among ms e is
    by false none = absurd (not_among e (ends_in ms) none has)

-- ---- how many

pub among-least : (ms : List MovingPicture) (e : EndId) → IsAmong ms e → 1 ≤ values_for e ms
among-least ms e a = by ms a.there
  where
    by : (ms : List MovingPicture) → Contains ms a.value → 1 ≤ values_for e ms
    by [] has = absurd (none-there a.value has)
    by (x ∷ ms) has = either (by ms) (first_or_later x ms a.value has)
      where
        either : (Contains ms a.value → 1 ≤ values_for e ms) → (x ≡ a.value) ⊎ Contains ms a.value → 1 ≤ one_if (end_eq e x.end) + values_for e ms
        either rest (inl is) = let one : one_if (end_eq e x.end) ≡ 1 = ap one_if (ap (λ (z : MovingPicture). end_eq e z.end) is ∙ ap (end_eq e) a.of ∙ end_eq-refl e) in omega (arith, one)
        either rest (inr there) = let least = rest there in omega (arith, least)

pub among-none : (ms : List MovingPicture) (e : EndId) → list_any (end_eq e) (ends_in ms) ≡ false → values_for e ms ≡ 0
among-none [] e none = refl
among-none (x ∷ ms) e none = by (end_eq e x.end) none (among-none ms e)
  where
    by : (b : Bool) → (b || list_any (end_eq e) (ends_in ms)) ≡ false → (list_any (end_eq e) (ends_in ms) ≡ false → values_for e ms ≡ 0) → one_if b + values_for e ms ≡ 0
    by true none rest = absurd (true≢false none)
    by false none rest = let zero : values_for e ms ≡ 0 = rest none in omega (arith, zero)

-- ---- entries

-- the entry of an end: that of its value, or as it was
pub brings-case : (ms : List MovingPicture) (word : MovingPicture → Entry) (e : EndId) (y : Entry)
    → ((list_any (end_eq e) (ends_in ms) ≡ false) × (brings ms word stays e y ≡ y)) ⊎ ((a : IsAmong ms e) × (brings ms word stays e y ≡ word a.value))
brings-case [] word e y = inl (refl, refl)
brings-case (x ∷ ms) word e y = by (end_eq x.end e) refl (brings-case ms word e y)
  where
    by : (b : Bool) → end_eq x.end e ≡ b → ((list_any (end_eq e) (ends_in ms) ≡ false) × (brings ms word stays e y ≡ y)) ⊎ ((a : IsAmong ms e) × (brings ms word stays e y ≡ word a.value))
        → ((list_any (end_eq e) (ends_in (x ∷ ms)) ≡ false) × ((if b then word x else brings ms word stays e y) ≡ y)) ⊎ ((a : IsAmong (x ∷ ms) e) × ((if b then word x else brings ms word stays e y) ≡ word a.value))
    by true same rest = inr (record { value = x; there = first x ms; of = end_eq-same x.end e same }, refl)
    by false apart (inl rest) = inl (ap (λ b. b || list_any (end_eq e) (ends_in ms)) (end_eq-sym e x.end ∙ apart) ∙ rest.0, rest.1)
    by false apart (inr rest) = inr (among-later x ms e rest.0, rest.1)

-- what is true of each value
pub each-value : (test : MovingPicture → Bool) (ms : List MovingPicture) (m : MovingPicture) → list_all test ms ≡ true → Contains ms m → test m ≡ true
each-value test [] m all has = absurd (none-there m has)
each-value test (x ∷ ms) m all has = by (first_or_later x ms m has) (and_parts _ _ all) (each-value test ms m)
  where
    by : (x ≡ m) ⊎ Contains ms m → (test x ≡ true) × (list_all test ms ≡ true) → (list_all test ms ≡ true → Contains ms m → test m ≡ true) → test m ≡ true
    by (inl is) both rest = subst (λ z. test z ≡ true) is both.0
    by (inr there) both rest = rest both.1 there
