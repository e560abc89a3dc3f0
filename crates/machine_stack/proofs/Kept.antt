-- Variables by their slots.
use Rattle.std.proofs.Common.{◌≡◌, ℕ, zero, suc, List, [], ◌∷◌, Some, slice_get, slice_set, slice_index_or, ap, sym, subst, ◌∙◌}
use Rattle.std.proofs.lemmas.List.{map-set}
use Rattle.lynx_meaning.specs.Values.{Value}
use Rattle.machine_stack.specs.declared.variables.Variable.{Variable}
use Rattle.machine_stack.specs.Stacks.{IsRow, variable_value, variable_values}

-- a variable is changed
pub set_there : (vs : List Variable) (shown : List Value) (slot : ℕ) (w : Variable) → shown ≡ variable_values vs → variable_values (slice_set vs slot w) ≡ slice_set shown slot (variable_value w)
set_there vs shown slot w e = map-set variable_value vs slot w ∙ ap (λ us. slice_set us slot (variable_value w)) (sym e)

found : (vs : List Variable) (slot : ℕ) (x : Variable) → IsRow (slice_get (variable_values vs) slot) → x ≡ slice_index_or vs slot x → slice_get (variable_values vs) slot ≡ Some (variable_value x)
found [] slot x row e = absurd row
found (v ∷ vs) zero x row e = ap (λ w. Some (variable_value w)) (sym e)
found (v ∷ vs) (suc k) x row e = found vs k x row e

-- a variable of a row is read
pub found_there : (vs : List Variable) (shown : List Value) (slot : ℕ) (x : Variable) → shown ≡ variable_values vs → IsRow (slice_get shown slot) → x ≡ slice_index_or vs slot x →
    slice_get shown slot ≡ Some (variable_value x)
found_there vs shown slot x same row e =
    ap (λ us. slice_get us slot) same ∙ found vs slot x (subst (λ us. IsRow (slice_get us slot)) same row) e
