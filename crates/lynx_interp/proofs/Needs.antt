-- What actions and entries need, by the operations of the code.
use Rattle.std.proofs.Common.{arith, ◌≡◌, ◌∙◌, ◌+◌, ◌<◌, length, ℕ, zero, suc, List, [], ◌∷◌, ◌++◌, map, take, Option, Some, option_map, slice_get, ap, sym, subst}
use Rattle.std.specs.Prelude.{slice_index_or}
use Rattle.std.proofs.lemmas.Option.{slice_get-map}
use Rattle.lynx_tree.specs.declared.declaration.TypeName.{TypeName}
use Rattle.lynx_code.specs.declared.code.Code.{Code}
use Rattle.lynx_code.specs.declared.code.CodeOp.{CodeOp}
use Rattle.lynx_code.specs.declared.code.Part as kept
use Rattle.lynx_meaning.specs.Values.{HasType, HaveTypes}
use Rattle.lynx_meaning.specs.Values as meaning
use Rattle.code_shapes.specs.Shapes.{code_types, kept_op, kept_part}
use Rattle.lynx_meaning.specs.Needs.{OpTypes, types_of}
use Rattle.machine_values.specs.Told.{value_of, values_of}
use Rattle.machine_values.specs.declared.value.Value.{Value}
use Rattle.compiler_runnable.specs.Runnable.{arguments_of}
use Rattle.lynx_interp.specs.Machines.{IsEntryFor, State, state_of}

-- what is found at a place
pub found : {X : Type 0} (xs : List X) (i : ℕ) (x : X) → i < length xs → x ≡ slice_index_or xs i x → slice_get xs i ≡ Some x
found [] i x inside is = absurd (omega (arith, inside))
found (y ∷ xs) zero x inside is = ap Some (sym is)
found (y ∷ xs) (suc i) x inside is = found xs i x (omega (arith, inside)) is

-- the types that an operation of the code has
pub field_of : (field : OpTypes → List TypeName) (ops : List CodeOp) (n : ℕ) (op : CodeOp) → slice_get ops n ≡ Some op → types_of field (slice_get (map kept_op ops) n) ≡ field (kept_op op)
field_of field ops n op here = ap (types_of field) (slice_get-map kept_op ops n ∙ ap (option_map kept_op) here)

-- values of them
pub typed_of : (field : OpTypes → List TypeName) (ops : List CodeOp) (n : ℕ) (op : CodeOp) (vs : List meaning.Value) → slice_get ops n ≡ Some op → HaveTypes (field (kept_op op)) vs → HaveTypes (types_of field (slice_get (map kept_op ops) n)) vs
typed_of field ops n op vs here typed = subst (λ (ts : List TypeName). HaveTypes ts vs) (sym (field_of field ops n op here)) typed

-- values for the parameters of an entry
pub entry_for : (s : State) (code : Code) (entry : ℕ) (k : kept.Part) (n : ℕ) (op : CodeOp) (vs : List meaning.Value) → s ≡ state_of code s.turns → slice_get code.parts.items (entry + 1) ≡ Some k → k.op ≡ Some n →
    slice_get code.ops.items n ≡ Some op → HaveTypes op.arguments.items vs → IsEntryFor entry vs s
entry_for s code entry k n op vs same here serves there typed =
    subst (λ (m : State). IsEntryFor entry vs m) (sym same) (
      kept_part k,
      slice_get-map kept_part code.parts.items (entry + 1) ∙ ap (option_map kept_part) here,
      subst (λ (o : Option ℕ). HaveTypes (arguments_of (code_types code) o) vs) (sym serves) (typed_of (λ o. o.arguments) code.ops.items n op vs there typed),
    )

one_value : (ts : List TypeName) (vs : List Value) (n : ℕ) (d : TypeName) (v : Value) → n < length ts → HaveTypes (take n ts) (values_of vs) → HasType (slice_index_or ts n d) (value_of v) →
    HaveTypes (take (suc n) ts) (values_of (vs ++ v ∷ []))
one_value [] vs n d v there typed has = absurd (omega (arith, there))
one_value (t ∷ ts) [] zero d v there typed has = (has, tt)
one_value (t ∷ ts) (w ∷ vs) zero d v there typed has = absurd typed
one_value (t ∷ ts) [] (suc n) d v there typed has = absurd typed
one_value (t ∷ ts) (w ∷ vs) (suc n) d v there typed has = (typed.0, one_value ts vs n d v (omega (arith, there)) typed.1 has)

-- one value more has its type
pub one_more : (ts : List TypeName) (vs all : List Value) (n : ℕ) (d : TypeName) (v : Value) → n < length ts → HaveTypes (take n ts) (values_of vs) → HasType (slice_index_or ts n d) (value_of v) → all ≡ vs ++ v ∷ [] →
    HaveTypes (take (n + 1) ts) (values_of all)
one_more ts vs all n d v there typed has is =
    let size : suc n ≡ n + 1 = omega arith in
    subst (λ (ws : List Value). HaveTypes (take (n + 1) ts) (values_of ws)) (sym is) (subst (λ (k : ℕ). HaveTypes (take k ts) (values_of (vs ++ v ∷ []))) size (one_value ts vs n d v there typed has))
