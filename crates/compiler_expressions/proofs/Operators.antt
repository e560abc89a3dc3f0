-- What operators find on the stack, and what they give.
use Rattle.std.proofs.Common.{◌≡◌, ℕ, ℤ, pos, List, [], ◌∷◌, Bool, true, false, not, ◌&&◌, if◌then◌else◌, Some, Ok, Err, slice_index_or, nat_abs, int_div, int_le, int_lt, int_rem, ◌+ℤ◌, ◌-ℤ◌, ◌*ℤ◌, refl, sym, ap, subst, subst₂, ◌∙◌, true≢false, None}
use Rattle.std.proofs.lemmas.Bool.{and_parts}
use Rattle.std.specs.Ordering.{int_eq}
use Rattle.lynx_lexer.specs.declared.sign.Sign.{Sign}
use Rattle.lynx_lexer.specs.declared.sign.Sign.TheVariants as signs
use Rattle.lynx_tree.specs.declared.declaration.TypeName.{TypeName}
use Rattle.lynx_tree.specs.declared.declaration.TypeName.TheVariants as types
use Rattle.lynx_tree.specs.declared.expression.TermSign.{TermSign}
use Rattle.lynx_tree.specs.declared.expression.TermSign.TheVariants as terms
use Rattle.typing_rules.specs.Expressions.{relation_faults}
use Rattle.typing_rules.specs.Rules.{operand_is_int}
use Rattle.typing_rules.specs.Types.{Held, agree, fits, is_row_or_link}
use Rattle.typing_rules.specs.declared.exception.Exception.{Exception}
use Rattle.typing_rules.specs.declared.exception.Exception.TheVariants as exceptions
use Rattle.lynx_code.specs.Generation.{relation, sum_operator, term_operator}
use Rattle.lynx_meaning.specs.Code.{Next, Program, Thread, by_link, by_truth, compares, gives, goes, one_int, step, two_alike, two_ints}
use Rattle.lynx_meaning.specs.Expressions.{multiplied, related, summed}
use Rattle.lynx_meaning.specs.Values.{Value, Int, Truth, Given, add, beside, divide, has_member, int_of, is_int, member, multiply, reduce, subtract, truth_of, value_eq, within}
use Rattle.compiler_expressions.specs.Kinds.{IsGiven, IsHeld, IsOf}
use Rattle.compiler_expressions.proofs.Clean.{both-clean, demand-met, held-fits}
use Rattle.compiler_expressions.proofs.Values.{int-is, link-is, text-is, truth-is}

-- ---- what operators give is a number

int-or-not : (b : Bool) (n : ℤ) (exception : Exception) → IsGiven (Some types.Int) (if b then Ok (Int n) else Err exception)
int-or-not true n exception = tt
int-or-not false n exception = tt

pub within-int : (n : ℤ) → IsGiven (Some types.Int) (within n)
within-int n = int-or-not (is_int n) n exceptions.Overflow

err-or : (b : Bool) (exception : Exception) (o : Given) → IsGiven (Some types.Int) o → IsGiven (Some types.Int) (if b then Err exception else o)
err-or true exception o h = tt
err-or false exception o h = h

divide-int : (a b : ℤ) → IsGiven (Some types.Int) (divide a b)
divide-int a b = err-or (int_eq b (pos 0)) exceptions.Divide (within (int_div a b)) (within-int (int_div a b))

beside-int : (o : Given) (n : ℤ) → IsGiven (Some types.Int) (beside o (Int n))
beside-int (Ok v) n = tt
beside-int (Err exception) n = tt

pub member-int : (row : List ℤ) (index : ℤ) → IsGiven (Some types.Int) (member row index)
member-int row index = int-or-not (has_member row index) (slice_index_or row (nat_abs index) (pos 0)) exceptions.Range

pub summed-int : (sign : Sign) (a b : ℤ) → IsGiven (Some types.Int) (summed sign a b)
summed-int signs.Plus a b = within-int (a +ℤ b)
summed-int _ a b = within-int (a -ℤ b)

pub multiplied-int : (sign : TermSign) (a b : ℤ) → IsGiven (Some types.Int) (multiplied sign a b)
multiplied-int terms.Times a b = within-int (a *ℤ b)
multiplied-int terms.Over a b = divide-int a b
multiplied-int terms.Mod a b = beside-int (divide a b) (int_rem a b)

-- ---- what they find

pub two-ints : (operator : ℤ → ℤ → Given) (t : Thread) (v w : Value) (stack : List Value) → IsOf types.Int v → IsOf types.Int w → two_ints operator t (w ∷ v ∷ stack) ≡ gives (operator (int_of v) (int_of w)) stack t
two-ints operator t v w stack h k =
    subst₂ (λ (x y : Value). two_ints operator t (y ∷ x ∷ stack) ≡ gives (operator (int_of x) (int_of y)) stack t) (sym (int-is v h)) (sym (int-is w k)) refl

pub one-int : (operator : ℤ → Given) (t : Thread) (v : Value) (stack : List Value) → IsOf types.Int v → one_int operator t (v ∷ stack) ≡ gives (operator (int_of v)) stack t
one-int operator t v stack h =
    subst (λ (x : Value). one_int operator t (x ∷ stack) ≡ gives (operator (int_of x)) stack t) (sym (int-is v h)) refl

ints-compared : (test : ℤ → ℤ → Bool) (t : Thread) (v w : Value) (stack : List Value) → IsOf types.Int v → IsOf types.Int w → compares test t (w ∷ v ∷ stack) ≡ goes (Truth (test (int_of v) (int_of w)) ∷ stack) t
ints-compared test t v w stack h k =
    subst₂ (λ (x y : Value). compares test t (y ∷ x ∷ stack) ≡ goes (Truth (test (int_of x) (int_of y)) ∷ stack) t) (sym (int-is v h)) (sym (int-is w k)) refl

pub truth-on-top : (next : Bool → List Value → Next) (v : Value) (stack : List Value) → IsOf types.Bool v → by_truth next (v ∷ stack) ≡ next (truth_of v) stack
truth-on-top next v stack h = subst (λ (x : Value). by_truth next (x ∷ stack) ≡ next (truth_of x) stack) (sym (truth-is v h)) refl

pub link-on-top : (next : Value → List Value → Next) (v : Value) (stack : List Value) → IsOf types.Link v → by_link next (v ∷ stack) ≡ next v stack
link-on-top next v stack h = subst (λ (x : Value). by_link next (x ∷ stack) ≡ next x stack) (sym (link-is v h).1) refl

same-alike : (t : TypeName) (v w : Value) → not (is_row_or_link (Some t)) ≡ true → IsOf t v → IsOf t w → (test : Value → Value → Bool) (u : Thread) (stack : List Value) → two_alike test u (w ∷ v ∷ stack) ≡ goes (Truth (test v w) ∷ stack) u
same-alike types.Int v w plain h k test u stack =
    subst₂ (λ (x y : Value). two_alike test u (y ∷ x ∷ stack) ≡ goes (Truth (test x y) ∷ stack) u) (sym (int-is v h)) (sym (int-is w k)) refl
same-alike types.Bool v w plain h k test u stack =
    subst₂ (λ (x y : Value). two_alike test u (y ∷ x ∷ stack) ≡ goes (Truth (test x y) ∷ stack) u) (sym (truth-is v h)) (sym (truth-is w k)) refl
same-alike types.Text v w plain h k test u stack =
    subst₂ (λ (x y : Value). two_alike test u (y ∷ x ∷ stack) ≡ goes (Truth (test x y) ∷ stack) u) (sym (text-is v h).1) (sym (text-is w k).1) refl
same-alike types.Link v w plain h k test u stack = absurd (true≢false (sym plain))
same-alike (types.Row n) v w plain h k test u stack = absurd (true≢false (sym plain))

pub two-alike : (first second : Held) → (agree first second && not (is_row_or_link first) && not (is_row_or_link second)) ≡ true → (v w : Value) → IsHeld first v → IsHeld second w → (test : Value → Value → Bool) (u : Thread) (stack : List Value)
    → two_alike test u (w ∷ v ∷ stack) ≡ goes (Truth (test v w) ∷ stack) u
two-alike None second met v w h k test u stack = absurd h
two-alike (Some t) second met v w h k test u stack =
    let parts = and_parts (agree (Some t) second && not (is_row_or_link (Some t))) (not (is_row_or_link second)) met in
    let inner = and_parts (agree (Some t) second) (not (is_row_or_link (Some t))) parts.0 in
    same-alike t v w inner.1 h (held-fits t second w inner.0 k) test u stack

-- a relation on what its rule allows
pub relation-steps : (p : Program) (t : Thread) (stack : List Value) (sign : Sign) (at second_at : ℕ) (first second : Held) → relation_faults sign at first second_at second ≡ [] → (v w : Value) → IsHeld first v → IsHeld second w → t.stack ≡ w ∷ v ∷ stack
    → step p t (relation sign) ≡ goes (Truth (related sign v w) ∷ stack) t
relation-steps p t stack signs.Equal at second_at first second clean v w h k on =
    ap (two_alike value_eq t) on ∙ two-alike first second (demand-met 10 second_at (agree first second && not (is_row_or_link first) && not (is_row_or_link second)) clean) v w h k value_eq t stack
relation-steps p t stack signs.NotEqual at second_at first second clean v w h k on =
    ap (two_alike (λ (x y : Value). not (value_eq x y)) t) on ∙ two-alike first second (demand-met 10 second_at (agree first second && not (is_row_or_link first) && not (is_row_or_link second)) clean) v w h k (λ (x y : Value). not (value_eq x y)) t stack
relation-steps p t stack signs.Less at second_at first second clean v w h k on =
    let both = both-clean (operand_is_int at first) (operand_is_int second_at second) clean in
    ap (compares int_lt t) on ∙ ints-compared int_lt t v w stack (held-fits types.Int first v (demand-met 9 at (fits types.Int first) both.0) h) (held-fits types.Int second w (demand-met 9 second_at (fits types.Int second) both.1) k)
relation-steps p t stack signs.AtMost at second_at first second clean v w h k on =
    let both = both-clean (operand_is_int at first) (operand_is_int second_at second) clean in
    ap (compares int_le t) on ∙ ints-compared int_le t v w stack (held-fits types.Int first v (demand-met 9 at (fits types.Int first) both.0) h) (held-fits types.Int second w (demand-met 9 second_at (fits types.Int second) both.1) k)
relation-steps p t stack signs.Greater at second_at first second clean v w h k on =
    let both = both-clean (operand_is_int at first) (operand_is_int second_at second) clean in
    ap (compares (λ (x y : ℤ). int_lt y x) t) on ∙ ints-compared (λ (x y : ℤ). int_lt y x) t v w stack (held-fits types.Int first v (demand-met 9 at (fits types.Int first) both.0) h) (held-fits types.Int second w (demand-met 9 second_at (fits types.Int second) both.1) k)
relation-steps p t stack _ at second_at first second clean v w h k on =
    let both = both-clean (operand_is_int at first) (operand_is_int second_at second) clean in
    ap (compares (λ (x y : ℤ). int_le y x) t) on ∙ ints-compared (λ (x y : ℤ). int_le y x) t v w stack (held-fits types.Int first v (demand-met 9 at (fits types.Int first) both.0) h) (held-fits types.Int second w (demand-met 9 second_at (fits types.Int second) both.1) k)

pub sum-steps : (p : Program) (t : Thread) (stack : List Value) (sign : Sign) (v w : Value) → IsOf types.Int v → IsOf types.Int w → t.stack ≡ w ∷ v ∷ stack
    → step p t (sum_operator sign) ≡ gives (summed sign (int_of v) (int_of w)) stack t
sum-steps p t stack signs.Plus v w h k on = ap (two_ints add t) on ∙ two-ints add t v w stack h k
sum-steps p t stack _ v w h k on = ap (two_ints subtract t) on ∙ two-ints subtract t v w stack h k

pub term-steps : (p : Program) (t : Thread) (stack : List Value) (sign : TermSign) (v w : Value) → IsOf types.Int v → IsOf types.Int w → t.stack ≡ w ∷ v ∷ stack
    → step p t (term_operator sign) ≡ gives (multiplied sign (int_of v) (int_of w)) stack t
term-steps p t stack terms.Times v w h k on = ap (two_ints multiply t) on ∙ two-ints multiply t v w stack h k
term-steps p t stack terms.Over v w h k on = ap (two_ints divide t) on ∙ two-ints divide t v w stack h k
term-steps p t stack terms.Mod v w h k on = ap (two_ints reduce t) on ∙ two-ints reduce t v w stack h k
