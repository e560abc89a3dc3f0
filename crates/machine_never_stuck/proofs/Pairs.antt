-- Values by their types, one after the other.
use Rattle.std.proofs.Common.{arith, ◌≡◌, ℕ, zero, suc, List, [], ◌∷◌, ◌++◌, length, take, drop, reverse, Some, slice_get, slice_set, sym, subst, subst₂, refl}
use Rattle.std.proofs.lemmas.List.{reverse-append}
use Rattle.std.proofs.lemmas.Option.{none-some, same_Some}
use Rattle.lynx_tree.specs.declared.declaration.TypeName.{TypeName}
use Rattle.lynx_meaning.specs.Values.{Value, HasType, HaveTypes}

pub same_length : (ts : List TypeName) (vs : List Value) → HaveTypes ts vs → length ts ≡ length vs
same_length [] [] h = refl
same_length [] (v ∷ vs) h = absurd h
same_length (t ∷ ts) [] h = absurd h
same_length (t ∷ ts) (v ∷ vs) h = let rest = same_length ts vs h.1 in omega (arith, rest)

pub dropped : (k : ℕ) (ts : List TypeName) (vs : List Value) → HaveTypes ts vs → HaveTypes (drop k ts) (drop k vs)
dropped zero ts vs h = h
dropped (suc k) [] [] h = tt
dropped (suc k) [] (v ∷ vs) h = absurd h
dropped (suc k) (t ∷ ts) [] h = absurd h
dropped (suc k) (t ∷ ts) (v ∷ vs) h = dropped k ts vs h.1

pub joined : (ts us : List TypeName) (vs ws : List Value) → HaveTypes ts vs → HaveTypes us ws → HaveTypes (ts ++ us) (vs ++ ws)
joined [] us [] ws h k = k
joined [] us (v ∷ vs) ws h k = absurd h
joined (t ∷ ts) us [] ws h k = absurd h
joined (t ∷ ts) us (v ∷ vs) ws h k = (h.0, joined ts us vs ws h.1 k)

-- values and their types in the other order
pub turned : (ts : List TypeName) (vs : List Value) → HaveTypes ts vs → HaveTypes (reverse ts) (reverse vs)
turned [] [] h = tt
turned [] (v ∷ vs) h = absurd h
turned (t ∷ ts) [] h = absurd h
turned (t ∷ ts) (v ∷ vs) h =
    subst₂ HaveTypes (sym (reverse-append (t ∷ []) ts)) (sym (reverse-append (v ∷ []) vs)) (joined (reverse ts) (t ∷ []) (reverse vs) (v ∷ []) (turned ts vs h.1) (h.0, tt))

-- the values of the first types
pub above : (ts us : List TypeName) (vs : List Value) → HaveTypes (ts ++ us) vs → HaveTypes ts (take (length ts) vs)
above [] us vs h = tt
above (t ∷ ts) us [] h = absurd h
above (t ∷ ts) us (v ∷ vs) h = (h.0, above ts us vs h.1)

-- what is left below them
pub below : (ts us : List TypeName) (vs : List Value) → HaveTypes (ts ++ us) vs → HaveTypes us (drop (length ts) vs)
below [] us vs h = h
below (t ∷ ts) us [] h = absurd h
below (t ∷ ts) us (v ∷ vs) h = below ts us vs h.1

pub is_found : (ts : List TypeName) (vs : List Value) (k : ℕ) (t : TypeName) → HaveTypes ts vs → slice_get ts k ≡ Some t → (v : Value) × (slice_get vs k ≡ Some v) × HasType t v
is_found [] vs k t h e = absurd (none-some t e)
is_found (u ∷ ts) [] k t h e = absurd h
is_found (u ∷ ts) (v ∷ vs) zero t h e = (v, refl, subst (λ w. HasType w v) (same_Some u t e) h.0)
is_found (u ∷ ts) (v ∷ vs) (suc k) t h e = is_found ts vs k t h.1 e

pub is_stored : (ts : List TypeName) (vs : List Value) (k : ℕ) (t : TypeName) (w : Value) → HaveTypes ts vs → slice_get ts k ≡ Some t → HasType t w → HaveTypes ts (slice_set vs k w)
is_stored [] vs k t w h e typed = absurd (none-some t e)
is_stored (u ∷ ts) [] k t w h e typed = absurd h
is_stored (u ∷ ts) (v ∷ vs) zero t w h e typed = (subst (λ x. HasType x w) (sym (same_Some u t e)) typed, h.1)
is_stored (u ∷ ts) (v ∷ vs) (suc k) t w h e typed = (h.0, is_stored ts vs k t w h.1 e typed)
