-- What operators and rows give is in range.
use Rattle.std.proofs.Common.{arith, tests, ◌≡◌, ◌≤◌, ℕ, ℤ, pos, negsuc, neg_ℤ, ◌%◌, zero, suc, List, [], ◌∷◌, Bool, true, false, IsTrue, Ok, Err, IfOk, int_div, int_rem, nat_abs, slice_set, slice_index_or, ap, refl, ◌∙◌, if◌then◌else◌, length-set}
use Rattle.std.specs.List.{AllByRecursion}
use Rattle.std.specs.Ordering.{int_eq}
use native.Mathlib.Nat.{mod-le}
use Rattle.lynx_tree.specs.declared.declaration.TypeName.TheVariants as types
use Rattle.typing_rules.specs.declared.exception.Exception.TheVariants as exceptions
use Rattle.lynx_meaning.specs.Values.{Given, Int, Row, HasType, beside, divide, has_member, is_int, member, reduce, with_member, within}

-- ---- operators

typed_if : (b : Bool) (n : ℤ) → is_int n ≡ b → IfOk (if b then Ok (Int n) else Err exceptions.Overflow) (HasType types.Int)
typed_if true n e = e
typed_if false n e = tt

pub within_typed : (n : ℤ) → IfOk (within n) (HasType types.Int)
within_typed n = typed_if (is_int n) n refl

divided_if : (z : Bool) (n : ℤ) → IfOk (if z then Err exceptions.Divide else within n) (HasType types.Int)
divided_if true n = tt
divided_if false n = within_typed n

pub divide_typed : (a b : ℤ) → IfOk (divide a b) (HasType types.Int)
divide_typed a b = divided_if (int_eq b (pos 0)) (int_div a b)

fewer_is_int : (m a : ℕ) → m ≤ a → IsTrue (is_int (pos a)) → IsTrue (is_int (pos m))
fewer_is_int m a le fits = grind (arith, tests)

no_fewer_is_int : (m a : ℕ) → m ≤ suc a → IsTrue (is_int (negsuc a)) → IsTrue (is_int (neg_ℤ (pos m)))
no_fewer_is_int zero a le fits = refl
no_fewer_is_int (suc m) a le fits = grind (arith, tests)

-- a remainder is no further from 0 than the number that is divided
rem_is_int : (a b : ℤ) → IsTrue (is_int a) → IsTrue (is_int (int_rem a b))
rem_is_int (pos a) b fits = fewer_is_int (a % nat_abs b) a (mod-le a (nat_abs b)) fits
rem_is_int (negsuc a) b fits = no_fewer_is_int (suc a % nat_abs b) a (mod-le (suc a) (nat_abs b)) fits

beside_typed : (o : Given) (n : ℤ) → IsTrue (is_int n) → IfOk (beside o (Int n)) (HasType types.Int)
beside_typed (Ok v) n fits = fits
beside_typed (Err exception) n fits = tt

pub reduce_typed : (a b : ℤ) → IsTrue (is_int a) → IfOk (reduce a b) (HasType types.Int)
reduce_typed a b fits = beside_typed (divide a b) (int_rem a b) (rem_is_int a b fits)

-- ---- rows

abbrev AreInts : List ℤ → Type 0
AreInts ns = AllByRecursion (λ n. IsTrue (is_int n)) ns

member_is_int : (ns : List ℤ) (k : ℕ) → AreInts ns → IsTrue (is_int (slice_index_or ns k (pos 0)))
member_is_int [] k all = refl
member_is_int (n ∷ ns) zero all = all.0
member_is_int (n ∷ ns) (suc k) all = member_is_int ns k all.1

changed_are_ints : (ns : List ℤ) (k : ℕ) (w : ℤ) → AreInts ns → IsTrue (is_int w) → AreInts (slice_set ns k w)
changed_are_ints [] k w all fits = tt
changed_are_ints (n ∷ ns) zero w all fits = (fits, all.1)
changed_are_ints (n ∷ ns) (suc k) w all fits = (all.0, changed_are_ints ns k w all.1 fits)

member_if : (b : Bool) (n : ℤ) → IsTrue (is_int n) → IfOk (if b then Ok (Int n) else Err exceptions.Range) (HasType types.Int)
member_if true n fits = fits
member_if false n fits = tt

pub member_typed : (n : ℤ) (ns : List ℤ) (index : ℤ) → HasType (types.Row n) (Row ns) → IfOk (member ns index) (HasType types.Int)
member_typed n ns index typed = member_if (has_member ns index) (slice_index_or ns (nat_abs index) (pos 0)) (member_is_int ns (nat_abs index) typed.1)

changed_if : (b : Bool) (n : ℤ) (ms : List ℤ) → HasType (types.Row n) (Row ms) → IfOk (if b then Ok ms else Err exceptions.Range) (λ row. HasType (types.Row n) (Row row))
changed_if true n ms typed = typed
changed_if false n ms typed = tt

pub with_member_typed : (n : ℤ) (ns : List ℤ) (index w : ℤ) → HasType (types.Row n) (Row ns) → IsTrue (is_int w) → IfOk (with_member ns index w) (λ row. HasType (types.Row n) (Row row))
with_member_typed n ns index w typed fits =
    changed_if (has_member ns index) n (slice_set ns (nat_abs index) w)
    (ap pos (length-set ns (nat_abs index) w) ∙ typed.0, changed_are_ints ns (nat_abs index) w typed.1 fits)
