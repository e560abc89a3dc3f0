-- A list of the ends of a process, in order, without a sort.
use Rattle.std.proofs.Common.{◌≡◌, ◌↔◌, ◌⊎◌, ⊎_elim, inl, inr, Bool, true, false, true≢false, if◌then◌else◌, List, [], ◌∷◌, Contains, refl, sym, ap, subst, ◌∙◌}
use Rattle.std.specs.List.{IsDistinct}
use Rattle.std.specs.Map.{keys_of}
use Rattle.std.specs.Ordering.{is_lt}
use Rattle.std.specs.declared.cmp.Ordering.{Ordering}
use Rattle.std.specs.declared.cmp.Ordering.TheVariants.{Less, Equal, Greater}
use Rattle.charlotte_calls.specs.declared.names.EndId.{EndId}
use Rattle.charlotte_calls.specs.declared.names.Pid.{Pid}
use Rattle.end_table.specs.Owned.{AreEndsInOrder, AreEndsOf, end_before}
use Rattle.end_table.specs.Place.{end_eq}
use Rattle.end_table.specs.Slot.{owned_ends}
use Rattle.end_table.specs.Table.{TableView, entries}
use Rattle.end_table.proofs.EndEq.{end_eq-same, end_eq-sym}
use Rattle.end_table.proofs.Owned.{Contains-owned_ends, before, end_before-end_cmp, end_cmp, first, first_or_later, later}

-- one more end, at its place in the order; one that is there already stays once
insert_end : EndId → List EndId → List EndId
insert_end e [] = e ∷ []
insert_end e (x ∷ xs) = if end_before e x then e ∷ x ∷ xs else if end_eq e x then x ∷ xs else x ∷ insert_end e xs

-- these ends, in order
put_in_order : List EndId → List EndId
put_in_order [] = []
put_in_order (x ∷ xs) = insert_end x (put_in_order xs)

-- of two different ends one stands before the other
other_before : (x y : EndId) → end_before x y ≡ false → end_eq x y ≡ false → end_before y x ≡ true
other_before x y not_before apart = end_before-end_cmp y x (before y x (by (end_cmp x y) refl) (end_eq-sym y x ∙ apart))
  where
    by : (o : Ordering) → end_cmp x y ≡ o → is_lt (end_cmp x y) ≡ false
    by Less is = absurd (true≢false (sym (end_before-end_cmp x y is) ∙ not_before))
    by Equal is = ap is_lt is
    by Greater is = ap is_lt is

-- an end is put in order behind one that stands before it
in_order-behind : (x e : EndId) (xs : List EndId) → end_before x e ≡ true → AreEndsInOrder (x ∷ xs) → AreEndsInOrder (x ∷ insert_end e xs)
unfolding insert_end
in_order-behind x e [] is_before order = (is_before, tt)
in_order-behind x e (y ∷ ys) is_before order = by (end_before e y) refl (end_eq e y) refl (λ y_before. in_order-behind y e ys y_before order.1)
  where
    by : (b : Bool) → end_before e y ≡ b → (same : Bool) → end_eq e y ≡ same → (end_before y e ≡ true → AreEndsInOrder (y ∷ insert_end e ys))
        → AreEndsInOrder (x ∷ (if b then e ∷ y ∷ ys else if same then y ∷ ys else y ∷ insert_end e ys))
    by true first same is others = (is_before, (first, order.1))
    by false not_first true is others = order
    by false not_first false apart others = (order.0, others (other_before e y not_first apart))

in_order-insert : (e : EndId) (xs : List EndId) → AreEndsInOrder xs → AreEndsInOrder (insert_end e xs)
unfolding insert_end
in_order-insert e [] order = tt
in_order-insert e (y ∷ ys) order = by (end_before e y) refl (end_eq e y) refl
  where
    by : (b : Bool) → end_before e y ≡ b → (same : Bool) → end_eq e y ≡ same
        → AreEndsInOrder (if b then e ∷ y ∷ ys else if same then y ∷ ys else y ∷ insert_end e ys)
    by true first same is = (first, order)
    by false not_first true is = order
    by false not_first false apart = in_order-behind y e ys (other_before e y not_first apart) order

put_in_order-order : (xs : List EndId) → AreEndsInOrder (put_in_order xs)
unfolding put_in_order
put_in_order-order [] = tt
put_in_order-order (x ∷ xs) = in_order-insert x (put_in_order xs) (put_in_order-order xs)

-- the list with one more end has that end and the others
insert-to : (e : EndId) (xs : List EndId) (q : EndId) → Contains (insert_end e xs) q → (e ≡ q) ⊎ Contains xs q
unfolding insert_end
insert-to e [] q among = first_or_later e [] q among
insert-to e (x ∷ xs) q among = by (end_before e x) (end_eq e x) among (insert-to e xs q)
  where
    by : (b same : Bool) → Contains (if b then e ∷ x ∷ xs else if same then x ∷ xs else x ∷ insert_end e xs) q
        → (Contains (insert_end e xs) q → (e ≡ q) ⊎ Contains xs q) → (e ≡ q) ⊎ Contains (x ∷ xs) q
    by true same among others = first_or_later e (x ∷ xs) q among
    by false true among others = inr among
    by false false among others =
        ⊎_elim (λ is. inr (subst (Contains (x ∷ xs)) is (first x xs)))
        (λ behind. ⊎_elim (λ is. inl is) (λ among. inr (later x xs q among)) (others behind)) (first_or_later x (insert_end e xs) q among)

insert-from : (e : EndId) (xs : List EndId) (q : EndId) → (e ≡ q) ⊎ Contains xs q → Contains (insert_end e xs) q
unfolding insert_end
insert-from e [] q (inl is) = subst (Contains (e ∷ [])) is (first e [])
insert-from e [] q (inr among) = later e [] q among
insert-from e (x ∷ xs) q either = by (end_before e x) (end_eq e x) refl either (insert-from e xs q)
  where
    by : (b same : Bool) → end_eq e x ≡ same → (e ≡ q) ⊎ Contains (x ∷ xs) q → ((e ≡ q) ⊎ Contains xs q → Contains (insert_end e xs) q)
        → Contains (if b then e ∷ x ∷ xs else if same then x ∷ xs else x ∷ insert_end e xs) q
    by true same tells (inl is) others = subst (Contains (e ∷ x ∷ xs)) is (first e (x ∷ xs))
    by true same tells (inr among) others = later e (x ∷ xs) q among
    by false true tells (inl is) others = subst (Contains (x ∷ xs)) (sym (end_eq-same e x tells) ∙ is) (first x xs)
    by false true tells (inr among) others = among
    by false false tells (inl is) others = later x (insert_end e xs) q (others (inl is))
    by false false tells (inr among) others =
        ⊎_elim (λ is. subst (Contains (x ∷ insert_end e xs)) is (first x (insert_end e xs)))
        (λ behind. later x (insert_end e xs) q (others (inr behind))) (first_or_later x xs q among)

Contains-put_in_order : (xs : List EndId) (q : EndId) → Contains (put_in_order xs) q ↔ Contains xs q
unfolding put_in_order
Contains-put_in_order [] q = (λ among. among, λ among. among)
Contains-put_in_order (x ∷ xs) q = (
  λ among. ⊎_elim (λ is. subst (Contains (x ∷ xs)) is (first x xs)) (λ behind. later x xs q ((Contains-put_in_order xs q).0 behind))
      (insert-to x (put_in_order xs) q among),
  λ among. insert-from x (put_in_order xs) q
      (⊎_elim (λ is. inl is) (λ behind. inr ((Contains-put_in_order xs q).1 behind)) (first_or_later x xs q among)),
)

-- the ends of a process can be listed
pub AreEndsOf-listed : (t : TableView) (p : Pid) → IsDistinct end_eq (keys_of t.places) → (mine : List EndId) × AreEndsOf p (entries t) mine
AreEndsOf-listed t p distinct = (
  put_in_order (owned_ends p t.places),
  record {
    order = put_in_order-order (owned_ends p t.places);
    all = λ q. (
      λ among. (Contains-owned_ends t p distinct q).0 ((Contains-put_in_order (owned_ends p t.places) q).0 among),
      λ owner. (Contains-put_in_order (owned_ends p t.places) q).1 ((Contains-owned_ends t p distinct q).1 owner),
    );
  },
)
