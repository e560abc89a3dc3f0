-- Values that have types are of their kinds.
use Rattle.std.proofs.Common.{List, [], ◌∷◌, map, reverse, sym, subst}
use mathlib.Core.List.{reverse_aux}
use Rattle.lynx_tree.specs.declared.declaration.TypeName.{TypeName}
use Rattle.lynx_tree.specs.declared.declaration.TypeName.TheVariants as types
use Rattle.lynx_code.specs.Modules.{ArePairs, variables}
use Rattle.lynx_meaning.specs.Agree.{Fits}
use Rattle.lynx_meaning.specs.Courses.{Action, Answer, Moment, after}
use Rattle.lynx_meaning.specs.Values.{Value, Int, Truth, Text, Row, Link, HasType, start_value, HaveTypes}
use Rattle.compiler_expressions.specs.Kinds.{HaveKinds, IsOf}
use Rattle.compiler_statements.specs.Running.{Body, IsAnswered, IsSound}
use Rattle.compiler_statements.proofs.Fronts.{used-more}

pub type-kind : (t : TypeName) (v : Value) → HasType t v → IsOf t v
type-kind types.Int (Int n) h = tt
type-kind types.Bool (Truth b) h = tt
type-kind types.Text (Text bytes) h = tt
type-kind types.Link (Link n) h = tt
type-kind (types.Row n) (Row ns) h = tt
type-kind _ _ h = absurd h

pub types-kinds : (ts : List TypeName) (vs : List Value) → HaveTypes ts vs → HaveKinds ts vs
types-kinds [] [] h = tt
types-kinds [] (v ∷ vs) h = absurd h
types-kinds (t ∷ ts) [] h = absurd h
types-kinds (t ∷ ts) (v ∷ vs) h = (type-kind t v h.0, types-kinds ts vs h.1)

pub start-kind : (t : TypeName) → IsOf t (start_value t)
start-kind types.Int = tt
start-kind types.Bool = tt
start-kind types.Text = tt
start-kind types.Link = tt
start-kind (types.Row n) = tt

-- the moment after an action that got an answer which fits
pub after-sound : (b : Body) (m : Moment) (action : Action) (a : Answer) (rest : List Answer) → IsAnswered action → IsSound b (record m { answers = a ∷ rest }) → Fits b.tree action a → IsSound b (after m action a rest)
after-sound b m action a rest is sound fits = record {
  kinds = record {
    of_globals = subst (λ (ts : List TypeName). HaveKinds ts a.globals) (sym b.kinds) (types-kinds (map (λ v. v.kind) (variables b.tree)) a.globals fits.globals);
    of_locals = sound.kinds.of_locals;
  };
  used = used-more m.actions action b.answers a rest is sound.used;
}

-- ---- pairs

pub pairs-reverse_aux : {X Y : Type 0} (P : X → Y → Type 0) (xs : List X) (ys : List Y) (left : List X) (bs : List Y) → ArePairs P xs ys → ArePairs P left bs → ArePairs P (reverse_aux xs left) (reverse_aux ys bs)
pairs-reverse_aux P [] [] left bs h k = k
pairs-reverse_aux P [] (y ∷ ys) left bs h k = absurd h
pairs-reverse_aux P (x ∷ xs) [] left bs h k = absurd h
pairs-reverse_aux P (x ∷ xs) (y ∷ ys) left bs h k = pairs-reverse_aux P xs ys (x ∷ left) (y ∷ bs) h.1 (h.0, k)

pub pairs-reverse : {X Y : Type 0} (P : X → Y → Type 0) (xs : List X) (ys : List Y) → ArePairs P xs ys → ArePairs P (reverse xs) (reverse ys)
pairs-reverse P xs ys h = pairs-reverse_aux P xs ys [] [] h tt
