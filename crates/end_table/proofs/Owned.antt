-- The ends that a process owns, from the places of a table.
use Rattle.std.proofs.Common.{◌≡◌, ◌↔◌, ◌⊎◌, ⊎_elim, inl, inr, zero, suc, ◌+◌, Bool, true, false, true≢false, cond, List, [], ◌∷◌, Option, None, Some, is_some, filter, Contains, IsSome, refl, sym, ap, subst, ◌∙◌, arith, rules}
use Rattle.std.specs.Cmp.{IsTotalOrder, IsEquivalence}
use Rattle.std.specs.List.{IsDistinct}
use Rattle.std.specs.List.Sorted.{IsStrictlySortedBy, IsSorted, IsPermutation}
use Rattle.std.specs.Map.{lookup, keys_of}
use Rattle.std.specs.Ordering.{is_lt, is_eq, ordering_reverse}
use Rattle.std.specs.declared.cmp.Ordering.{Ordering}
use Rattle.std.specs.declared.cmp.Ordering.TheVariants.{Less, Equal, Greater}
use Rattle.std.proofs.lemmas.List.Sorted.{IsPermutation-sym, Contains-permutation}
use Rattle.std.proofs.lemmas.Map.Entries.{option_filter, lookup-filter-values}
use Rattle.std.proofs.lemmas.Map.Keys.{IsDistinct-IsPermutation, Less-from_sorted, apart_from_distinct, sorted_from_all_adjacent, sorted_tail}
use Rattle.std.proofs.lemmas.Map.Made.{IsDistinct-keys_filter}
use Rattle.std.proofs.lemmas.Map.Views.{Contains-keys_from_lookup, IsSome-lookup_from_Contains}
use Rattle.charlotte_calls.specs.contracts.names.EndIdEq.TheImpl.Laws.{laws-law}
use Rattle.charlotte_calls.specs.contracts.names.EndIdOrd.TheImpl as derived
use Rattle.charlotte_calls.specs.contracts.names.EndIdOrd.TheImpl.Laws.{total-law, matches_eq-law}
use Rattle.charlotte_calls.specs.declared.names.EndId.{EndId}
use Rattle.charlotte_calls.specs.declared.names.Pid.{Pid}
use Rattle.charlotte_calls.specs.declared.names.Side.TheVariants.{A}
use Rattle.end_table.specs.declared.entry.Entry.{Entry}
use Rattle.end_table.specs.Place.{end_eq}
use Rattle.end_table.specs.Owned.{AreEndsInOrder, AreEndsOf, end_before, owned}
use Rattle.end_table.specs.Slot.{owned_ends}
use Rattle.end_table.specs.Table.{TableView, entries}
use Rattle.end_table.proofs.Change.{entry_in}
use Rattle.end_table.proofs.EndEq.{end_eq-same, end_eq-sym}

-- what `<` of ends tells
unfoldable pub end_cmp : EndId → EndId → Ordering
end_cmp = (derived.ghosts).cmp

pub end_eq-equivalence : IsEquivalence end_eq
unfolding end_eq
end_eq-equivalence = laws-law

pub end_cmp-total : IsTotalOrder end_cmp
unfolding end_cmp
end_cmp-total = total-law

pub end_eq-end_cmp : (x y : EndId) → end_eq x y ≡ is_eq (end_cmp x y)
unfolding end_eq end_cmp
end_eq-end_cmp x y = matches_eq-law x y

-- of two different ends, one that is not behind the other is before it
pub before : (x y : EndId) → is_lt (end_cmp y x) ≡ false → end_eq x y ≡ false → end_cmp x y ≡ Less
before x y not_behind apart = by (end_cmp x y) refl
  where
    by : (o : Ordering) → end_cmp x y ≡ o → end_cmp x y ≡ Less
    by Less e = e
    by Equal e = absurd (true≢false (sym (end_eq-end_cmp x y ∙ ap is_eq e) ∙ apart))
    by Greater e = absurd (true≢false (sym (ap is_lt (end_cmp-total.antisymm y x ∙ ap ordering_reverse e)) ∙ not_behind))

-- in the order of `<` of ends, an end stands before another
pub end_before-end_cmp : (x y : EndId) → end_cmp x y ≡ Less → end_before x y ≡ true
unfolding end_cmp
end_before-end_cmp x y less = search rules

-- different ends that a sort put in order stand each before the next
pub AreEndsInOrder-sorted : (ends : List EndId) → IsStrictlySortedBy end_cmp ends → AreEndsInOrder ends
AreEndsInOrder-sorted [] sorted = tt
AreEndsInOrder-sorted (x ∷ []) sorted = tt
AreEndsInOrder-sorted (x ∷ y ∷ ends) sorted = (
  end_before-end_cmp x y (Less-from_sorted end_cmp (x ∷ y ∷ ends) 0 1 x sorted (omega arith) (omega arith)),
  AreEndsInOrder-sorted (y ∷ ends) (sorted_tail end_cmp x (y ∷ ends) sorted),
)

strict_from_sort : (ends : List EndId) → IsDistinct end_eq ends → IsSorted end_cmp ends → IsStrictlySortedBy end_cmp ends
strict_from_sort ends distinct sorted =
    sorted_from_all_adjacent end_cmp-total ends none
    (λ k within. before _ _ (sorted k none (omega arith) within) (apart_from_distinct end_eq ends k (k + 1) none distinct (omega arith) within))
  where
    none : EndId
    none = record { link = record { maker = 0; count = 0 }; side = A }

-- the keys of the places that a process owns are its ends
pub Contains-owned_ends : (t : TableView) (p : Pid) → IsDistinct end_eq (keys_of t.places)
    → (q : EndId) → Contains (owned_ends p t.places) q ↔ IsSome (owned p (entries t q))
unfolding entries
Contains-owned_ends t p distinct q = (to, from)
  where
    mine : Entry → Bool
    mine x = is_some (owned p x)

    own : EndId × Entry → Bool
    own e = mine e.1

    found : is_some (lookup (end_eq q) (filter own t.places)) ≡ mine (entry_in (lookup (end_eq q) t.places))
    found = ap is_some (lookup-filter-values end_eq-equivalence mine q t.places distinct) ∙ by (lookup (end_eq q) t.places)
      where
        chosen : (b : Bool) (x : Entry) → is_some (cond b (Some x) None) ≡ b
        chosen true x = refl
        chosen false x = refl

        by : (o : Option Entry) → is_some (option_filter mine o) ≡ mine (entry_in o)
        by None = refl
        by (Some x) = chosen (mine x) x

    to : Contains (owned_ends p t.places) q → mine (entry_in (lookup (end_eq q) t.places)) ≡ true
    to among = sym found ∙ IsSome-lookup_from_Contains end_eq-equivalence q (filter own t.places) among

    from : mine (entry_in (lookup (end_eq q) t.places)) ≡ true → Contains (owned_ends p t.places) q
    from owner = Contains-keys_from_lookup end_eq-same q (filter own t.places) (found ∙ owner)

-- the sorted keys of the places that a process owns are all its ends, in order
pub AreEndsOf-sorted : (t : TableView) (p : Pid) (ends : List EndId) → IsDistinct end_eq (keys_of t.places)
    → IsPermutation (owned_ends p t.places) ends → IsSorted end_cmp ends → AreEndsOf p (entries t) ends
AreEndsOf-sorted t p ends distinct moved sorted =
    record {
      order = AreEndsInOrder-sorted ends (strict_from_sort ends (IsDistinct-IsPermutation end_eq end_eq-sym _ ends moved (IsDistinct-keys_filter end_eq own t.places distinct)) sorted);
      all = λ q. (
        λ among. (Contains-owned_ends t p distinct q).0 (Contains-permutation ends _ q (IsPermutation-sym _ ends moved) among),
        λ owner. Contains-permutation _ ends q moved ((Contains-owned_ends t p distinct q).1 owner),
      );
    }
  where
    own : EndId × Entry → Bool
    own e = is_some (owned p e.1)

-- no end stands before itself, and none before one that stands before it
pub end_before-irrefl : (x : EndId) → end_before x x ≡ true → ⊥
end_before-irrefl x h = search rules

end_cmp-end_before : (x y : EndId) → end_before x y ≡ true → end_cmp x y ≡ Less
unfolding end_cmp
end_cmp-end_before x y before = search rules

pub end_before-trans : (x y z : EndId) → end_before x y ≡ true → end_before y z ≡ true → end_before x z ≡ true
end_before-trans x y z h k = end_before-end_cmp x z (end_cmp-total.trans x y z (end_cmp-end_before x y h) (end_cmp-end_before y z k))

-- where an element of a list with a first one stands
pub first_or_later : (x : EndId) (xs : List EndId) (q : EndId) → Contains (x ∷ xs) q → (x ≡ q) ⊎ Contains xs q
first_or_later x xs q (zero, within, is) = inl is
first_or_later x xs q (suc k, within, is) = inr (k, omega arith, is)

pub later : (x : EndId) (xs : List EndId) (q : EndId) → Contains xs q → Contains (x ∷ xs) q
later x xs q (k, within, is) = (suc k, omega arith, is)

pub first : (x : EndId) (xs : List EndId) → Contains (x ∷ xs) x
first x xs = (zero, omega arith, refl)

-- the first of ends in order stands before each other
before_later : (x : EndId) (xs : List EndId) → AreEndsInOrder (x ∷ xs) → (q : EndId) → Contains xs q → end_before x q ≡ true
before_later x [] order q (k, within, is) = absurd (omega arith)
before_later x (y ∷ ys) order q among =
    ⊎_elim (λ e. subst (λ z. end_before x z ≡ true) e order.0)
    (λ later. end_before-trans x y q order.0 (before_later y ys order.1 q later)) (first_or_later y ys q among)

pub in_order-tail : (x : EndId) (xs : List EndId) → AreEndsInOrder (x ∷ xs) → AreEndsInOrder xs
in_order-tail x [] order = tt
in_order-tail x (y ∷ ys) order = order.1

-- lists in order with the same ends are the same
pub in_order-unique : (xs ys : List EndId) → AreEndsInOrder xs → AreEndsInOrder ys → ((q : EndId) → Contains xs q ↔ Contains ys q) → xs ≡ ys
in_order-unique [] [] x_order y_order same = refl
in_order-unique [] (y ∷ ys) x_order y_order same = none ((same y).1 (first y ys))
  where
    none : Contains [] y → [] ≡ y ∷ ys
    none (k, within, is) = absurd (omega arith)
in_order-unique (x ∷ xs) [] x_order y_order same = none ((same x).0 (first x xs))
  where
    none : Contains [] x → x ∷ xs ≡ []
    none (k, within, is) = absurd (omega arith)
in_order-unique (x ∷ xs) (y ∷ ys) x_order y_order same =
    let heads : x ≡ y = firsts in
    (λ i. heads i ∷ (in_order-unique xs ys (in_order-tail x xs x_order) (in_order-tail y ys y_order) tails) i)
  where
    firsts : x ≡ y
    firsts =
        ⊎_elim (λ e. sym e)
        (λ x_later. ⊎_elim (λ e. e)
        (λ y_later. absurd (end_before-irrefl x (end_before-trans x y x (before_later x xs x_order y y_later) (before_later y ys y_order x x_later))))
        (first_or_later x xs y ((same y).1 (first y ys))))
        (first_or_later y ys x ((same x).0 (first x xs)))

    tails : (q : EndId) → Contains xs q ↔ Contains ys q
    tails q = (
      λ among. ⊎_elim (λ e. absurd (end_before-irrefl x (subst (λ z. end_before x z ≡ true) (sym e ∙ sym firsts) (before_later x xs x_order q among)))) (λ l. l)
          (first_or_later y ys q ((same q).0 (later x xs q among))),
      λ among. ⊎_elim (λ e. absurd (end_before-irrefl y (subst (λ z. end_before y z ≡ true) (sym e ∙ firsts) (before_later y ys y_order q among)))) (λ l. l)
          (first_or_later x xs q ((same q).1 (later y ys q among))),
    )

-- a process has one list of its ends
pub AreEndsOf-unique : (p : Pid) (t : EndId → Entry) (xs ys : List EndId) → AreEndsOf p t xs → AreEndsOf p t ys → xs ≡ ys
AreEndsOf-unique p t xs ys first second =
    in_order-unique xs ys first.order second.order
    (λ q. (λ among. (second.all q).1 ((first.all q).0 among), λ among. (first.all q).1 ((second.all q).0 among)))
