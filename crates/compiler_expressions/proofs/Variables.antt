-- Variables and members of rows.
use Rattle.std.proofs.Common.{◌≡◌, ℕ, ℤ, List, ◌∷◌, true, Option, Some, None, is_some, refl, sym, ap, ◌∙◌, subst₂}
use Rattle.lynx_tree.specs.declared.declaration.TypeName.{TypeName}
use Rattle.lynx_tree.specs.declared.declaration.TypeName.TheVariants as types
use Rattle.typing_rules.specs.Types.{is_row}
use Rattle.lynx_code.specs.Generation.{Slot, Global, Local, by_slot}
use Rattle.lynx_code.specs.declared.instruction.Instruction.TheVariants as code
use Rattle.lynx_meaning.specs.Code.{Thread, gives, goes, loads, loads_member, step}
use Rattle.lynx_meaning.specs.Expressions.{value_at}
use Rattle.lynx_meaning.specs.Values.{Value, int_of, member, row_of}
use Rattle.compiler_expressions.specs.Kinds.{IsOf}
use Rattle.compiler_expressions.specs.Setting.{Around, HasKinds, Setting, stands, type_at}
use Rattle.compiler_expressions.proofs.Clean.{no-false}
use Rattle.compiler_expressions.proofs.Values.{int-is, kinds-get, row-is}

pub some-of : {A : Type 0} (o : Option A) → is_some o ≡ true → (x : A) × (o ≡ Some x)
some-of None h = no-false h
some-of (Some x) h = (x, refl)

pub row-type : (t : TypeName) → is_row t ≡ true → (n : ℤ) × (t ≡ types.Row n)
row-type (types.Row n) h = (n, refl)
row-type _ h = no-false h

pub load-steps : (c : Setting) (a : Around) (slot : Slot) (t : TypeName) (at : ℕ) (stack : List Value) → HasKinds c a.moment.store → type_at c.globals c.locals slot ≡ Some t
    → (step c.program (stands a at stack) (by_slot code.LoadG code.LoadL slot) ≡ goes (value_at slot a.moment.store ∷ stack) (stands a at stack)) × IsOf t (value_at slot a.moment.store)
load-steps c a (Global k) t at stack kinds is =
    let got = kinds-get c.globals a.moment.store.globals k t kinds.of_globals is in
    (ap (λ found. loads found (stands a at stack)) got.0, got.1)
load-steps c a (Local k) t at stack kinds is =
    let got = kinds-get c.locals a.moment.store.locals k t kinds.of_locals is in
    (ap (λ found. loads found (stands a at stack)) got.0, got.1)

row-loaded : (n : ℤ) (r v : Value) (stack : List Value) (t : Thread) → IsOf (types.Row n) r → IsOf types.Int v → loads_member (Some r) (v ∷ stack) t ≡ gives (member (row_of r) (int_of v)) stack t
row-loaded n r v stack t h k =
    subst₂ (λ (x y : Value). loads_member (Some x) (y ∷ stack) t ≡ gives (member (row_of x) (int_of y)) stack t) (sym (row-is n r h)) (sym (int-is v k)) refl

pub member-steps : (c : Setting) (a : Around) (slot : Slot) (n : ℤ) (at : ℕ) (stack : List Value) (v : Value) → HasKinds c a.moment.store → type_at c.globals c.locals slot ≡ Some (types.Row n) → IsOf types.Int v
    → step c.program (stands a at (v ∷ stack)) (by_slot code.AtG code.AtL slot) ≡ gives (member (row_of (value_at slot a.moment.store)) (int_of v)) stack (stands a at (v ∷ stack))
member-steps c a (Global k) n at stack v kinds is h =
    let got = kinds-get c.globals a.moment.store.globals k (types.Row n) kinds.of_globals is in
    ap (λ found. loads_member found (v ∷ stack) (stands a at (v ∷ stack))) got.0 ∙ row-loaded n _ v stack _ got.1 h
member-steps c a (Local k) n at stack v kinds is h =
    let got = kinds-get c.locals a.moment.store.locals k (types.Row n) kinds.of_locals is in
    ap (λ found. loads_member found (v ∷ stack) (stands a at (v ∷ stack))) got.0 ∙ row-loaded n _ v stack _ got.1 h
