-- Where no rule fails, each demand is met.
use Rattle.std.proofs.Common.{◌≡◌, ℕ, List, [], ◌∷◌, ◌++◌, Bool, true, false, Some, None, refl, sym, ap, true≢false}
use Rattle.lynx_tree.specs.declared.declaration.TypeName.{TypeName}
use Rattle.lynx_tree.specs.declared.declaration.TypeName.TheVariants as types
use Rattle.typing_rules.specs.Expressions.{judged}
use Rattle.typing_rules.specs.Progress.{is_clean}
use Rattle.typing_rules.specs.Rules.{Fault, demand}
use Rattle.typing_rules.specs.Types.{Held, fits, same_type}
use Rattle.lynx_meaning.specs.Values.{Value, Row}
use Rattle.compiler_expressions.specs.Kinds.{IsHeld, IsOf}

pub some-fault : (f : Fault) (fs : List Fault) → f ∷ fs ≡ [] → ⊥
some-fault f fs h = true≢false (sym (ap is_clean h))

pub both-clean : (xs ys : List Fault) → xs ++ ys ≡ [] → (xs ≡ []) × (ys ≡ [])
both-clean [] ys h = (refl, h)
both-clean (x ∷ xs) ys h = absurd (some-fault x (xs ++ ys) h)

pub demand-met : (rule at : ℕ) (b : Bool) → demand rule at b ≡ [] → b ≡ true
demand-met rule at true h = refl
demand-met rule at false h = absurd (some-fault (record { place = at; rule = rule }) [] h)

-- no fault inside, and the rule is met by what is shown
pub judged-clean : (rule : ℕ → Held → List Fault) (at : ℕ) (faults : List Fault) (shown : Held) → judged rule at faults shown ≡ [] → (faults ≡ []) × (rule at shown ≡ [])
judged-clean rule at [] shown h = (refl, h)
judged-clean rule at (f ∷ faults) shown h = absurd (some-fault f (faults ++ rule at None) h)

pub no-false : {A : Type 0} → false ≡ true → A
no-false h = absurd (true≢false (sym h))

row-of : (n m : _) (v : Value) → IsOf (types.Row m) v → IsOf (types.Row n) v
row-of n m (Row ns) h = tt
row-of n m _ h = absurd h

pub same-kind : (t u : TypeName) (v : Value) → same_type t u ≡ true → IsOf u v → IsOf t v
same-kind types.Int types.Int v same h = h
same-kind types.Bool types.Bool v same h = h
same-kind types.Text types.Text v same h = h
same-kind types.Link types.Link v same h = h
same-kind (types.Row n) (types.Row m) v same h = row-of n m v h
same-kind types.Int _ v same h = no-false same
same-kind types.Bool _ v same h = no-false same
same-kind types.Text _ v same h = no-false same
same-kind types.Link _ v same h = no-false same
same-kind (types.Row n) _ v same h = no-false same

-- the same the other way round
pub kind-same : (t u : TypeName) (v : Value) → same_type t u ≡ true → IsOf t v → IsOf u v
kind-same types.Int types.Int v same h = h
kind-same types.Bool types.Bool v same h = h
kind-same types.Text types.Text v same h = h
kind-same types.Link types.Link v same h = h
kind-same (types.Row n) (types.Row m) v same h = row-of m n v h
kind-same types.Int _ v same h = no-false same
kind-same types.Bool _ v same h = no-false same
kind-same types.Text _ v same h = no-false same
kind-same types.Link _ v same h = no-false same
kind-same (types.Row n) _ v same h = no-false same

-- a value that shows a type which fits
pub held-fits : (t : TypeName) (held : Held) (v : Value) → fits t held ≡ true → IsHeld held v → IsOf t v
held-fits t None v fit h = absurd h
held-fits t (Some u) v fit h = same-kind t u v fit h
