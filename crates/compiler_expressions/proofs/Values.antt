-- Values of a kind.
use Rattle.std.proofs.Common.{◌≡◌, ℕ, zero, suc, ◌<◌, ℤ, List, [], ◌∷◌, length, Some, slice_get, slice_index_or, slice_set, refl, sym, subst, arith}
use Rattle.std.proofs.lemmas.Option.{none-some, same_Some}
use Rattle.lynx_tree.specs.declared.declaration.TypeName.{TypeName}
use Rattle.lynx_tree.specs.declared.declaration.TypeName.TheVariants as types
use Rattle.lynx_meaning.specs.Values.{Value, Int, Truth, Text, Row, Link, int_of, truth_of, row_of}
use Rattle.compiler_expressions.specs.Kinds.{HaveKinds, IsOf}

pub int-is : (v : Value) → IsOf types.Int v → v ≡ Int (int_of v)
int-is (Int n) h = refl
int-is _ h = absurd h

pub truth-is : (v : Value) → IsOf types.Bool v → v ≡ Truth (truth_of v)
truth-is (Truth b) h = refl
truth-is _ h = absurd h

pub row-is : (n : ℤ) (v : Value) → IsOf (types.Row n) v → v ≡ Row (row_of v)
row-is n (Row ns) h = refl
row-is n _ h = absurd h

pub text-is : (v : Value) → IsOf types.Text v → (bytes : List ℕ) × (v ≡ Text bytes)
text-is (Text bytes) h = (bytes, refl)
text-is _ h = absurd h

pub link-is : (v : Value) → IsOf types.Link v → (n : ℕ) × (v ≡ Link n)
link-is (Link n) h = (n, refl)
link-is _ h = absurd h

-- the value in a place that has a type
pub kinds-get : (ts : List TypeName) (vs : List Value) (k : ℕ) (t : TypeName) → HaveKinds ts vs → slice_get ts k ≡ Some t → (slice_get vs k ≡ Some (slice_index_or vs k (Link 0))) × IsOf t (slice_index_or vs k (Link 0))
kinds-get [] vs k t h is = absurd (none-some t is)
kinds-get (u ∷ ts) [] k t h is = absurd h
kinds-get (u ∷ ts) (v ∷ vs) zero t h is = (refl, subst (λ x. IsOf x v) (same_Some u t is) h.0)
kinds-get (u ∷ ts) (v ∷ vs) (suc k) t h is = kinds-get ts vs k t h.1 is

pub kinds-within : (ts : List TypeName) (vs : List Value) (k : ℕ) (t : TypeName) → HaveKinds ts vs → slice_get ts k ≡ Some t → k < length vs
kinds-within [] vs k t h is = absurd (none-some t is)
kinds-within (u ∷ ts) [] k t h is = absurd h
kinds-within (u ∷ ts) (v ∷ vs) zero t h is = omega arith
kinds-within (u ∷ ts) (v ∷ vs) (suc k) t h is = let less = kinds-within ts vs k t h.1 is in omega (arith, less)

-- another value of the type in that place
pub kinds-set : (ts : List TypeName) (vs : List Value) (k : ℕ) (t : TypeName) (v : Value) → HaveKinds ts vs → slice_get ts k ≡ Some t → IsOf t v → HaveKinds ts (slice_set vs k v)
kinds-set [] vs k t v h is of = absurd (none-some t is)
kinds-set (u ∷ ts) [] k t v h is of = absurd h
kinds-set (u ∷ ts) (w ∷ vs) zero t v h is of = (subst (λ x. IsOf x v) (sym (same_Some u t is)) of, h.1)
kinds-set (u ∷ ts) (w ∷ vs) (suc k) t v h is of = (h.0, kinds-set ts vs k t v h.1 is of)
