-- The variables of an entry at its start have their types.
use Rattle.std.proofs.Common.{arith, ◌≡◌, ℕ, ℤ, zero, suc, List, [], ◌∷◌, ◌++◌, map, replicate, pos, negsuc, IsTrue, Some, slice_get, refl, sym, ap, subst, ◌∙◌, true≢false}
use Rattle.std.proofs.lemmas.List.{length-replicate}
use Rattle.std.specs.List.{AllByRecursion}
use Rattle.lynx_tree.specs.declared.declaration.TypeName.{TypeName}
use Rattle.lynx_tree.specs.declared.declaration.TypeName.TheVariants as types
use Rattle.typing_rules.specs.Types.{has_length, is_length}
use Rattle.lynx_meaning.specs.Needs.{types_of}
use Rattle.lynx_meaning.specs.Values.{Value, HasType, HaveTypes, is_int, start_value}
use Rattle.code_shapes.specs.Shapes.{ModuleTypes, PartTypes}
use Rattle.compiler_runnable.specs.Runnable.{AreParts, HaveStarts, IsEntryPart, arguments_of, parameters, start_locals}

zeros_typed : (n : ℕ) → AllByRecursion (λ (member : ℤ). IsTrue (is_int member)) (replicate n (pos 0))
zeros_typed zero = tt
zeros_typed (suc n) = (refl, zeros_typed n)

row_typed : (n : ℤ) → IsTrue (is_length n) → HasType (types.Row n) (start_value (types.Row n))
row_typed (pos n) is = (ap pos (length-replicate n (pos 0)), zeros_typed n)
row_typed (negsuc n) is = absurd (true≢false (sym is))

start_typed : (t : TypeName) → IsTrue (has_length t) → HasType t (start_value t)
start_typed types.Int is = refl
start_typed types.Bool is = tt
start_typed types.Text is = omega arith
start_typed types.Link is = tt
start_typed (types.Row n) is = row_typed n is

pub starts_typed : (ts : List TypeName) → HaveStarts ts → HaveTypes ts (map start_value ts)
starts_typed [] have = tt
starts_typed (t ∷ ts) have = (start_typed t have.0, starts_typed ts have.1)

pub others_start : (ts us : List TypeName) → HaveStarts (ts ++ us) → HaveStarts us
others_start [] us have = have
others_start (t ∷ ts) us have = others_start ts us have.1

-- the values of the parameters come first
values_typed : (ts others : List TypeName) (vs : List Value) → HaveTypes ts vs → HaveStarts others → HaveTypes (ts ++ others) (start_locals (ts ++ others) vs)
values_typed [] others [] typed have = starts_typed others have
values_typed [] others (v ∷ vs) typed have = absurd typed
values_typed (t ∷ ts) others [] typed have = absurd typed
values_typed (t ∷ ts) others (v ∷ vs) typed have = (typed.0, values_typed ts others vs typed.1 have)

pub parameters_of : (m : ModuleTypes) (p : PartTypes) (is : IsEntryPart m p) → parameters m p ≡ is.of_op.arguments
parameters_of m p is = ap (arguments_of m) is.serves ∙ ap (types_of (λ o. o.arguments)) is.there

pub entry_typed : (m : ModuleTypes) (parts : List PartTypes) → AreParts m parts → (i : ℕ) (p : PartTypes) (values : List Value) → slice_get parts (suc i) ≡ Some p → HaveTypes (parameters m p) values → HaveTypes p.locals (start_locals p.locals values)
entry_typed m parts are i p values there typed =
    let is = are.entries i p there in
    let have = subst (λ (ts : List TypeName). HaveStarts ts) is.locals (are.starts (suc i) p there) in
    subst (λ (ts : List TypeName). HaveTypes ts (start_locals ts values)) (sym is.locals)
    (values_typed is.of_op.arguments is.others values (subst (λ (ts : List TypeName). HaveTypes ts values) (parameters_of m p is) typed) (others_start is.of_op.arguments is.others have))
