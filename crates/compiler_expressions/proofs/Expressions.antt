-- The code of an expression gives its value.
use Rattle.std.proofs.Common.{◌≡◌, ℕ, neg_ℤ, suc, ◌+◌, List, [], ◌∷◌, ◌++◌, length, Bool, true, false, not, if◌then◌else◌, Some, Ok, Err, is_some, slice_get, refl, sym, ap, ◌∙◌, subst, length-append, arith}
use Rattle.lynx_lexer.specs.declared.sign.Sign.{Sign}
use Rattle.lynx_tree.specs.Trees.{ExprTree, ExprTrees, SumTail, TermTail}
use Rattle.lynx_tree.specs.Trees as trees
use Rattle.lynx_tree.specs.Grammar.{AreExprs, AreSums, AreTerms, HasTwo, IsExpr}
use Rattle.lynx_tree.specs.declared.declaration.TypeName.{TypeName}
use Rattle.lynx_tree.specs.declared.declaration.TypeName.TheVariants as types
use Rattle.typing_rules.specs.Expressions.{bools_faults, expr_faults, expr_size, held, judged, related as related_faults, relation_faults, shown_type, sum_faults, term_faults, values_faults}
use Rattle.typing_rules.specs.Names.{type_of_variable}
use Rattle.typing_rules.specs.Rules.{Fault, index_is_int, indexed_is_row, is_variable, operand_is_bool, operand_is_int}
use Rattle.typing_rules.specs.Types.{Held, fits, may_be_row}
use Rattle.lynx_code.specs.Generation.{chain_code, chain_rest, expr_code, exprs_code, how_many, load, load_member, relation, sum_code, sum_operator, term_code, term_operator}
use Rattle.lynx_code.specs.declared.instruction.Instruction.{Instruction}
use Rattle.lynx_code.specs.declared.instruction.Instruction.TheVariants as code
use Rattle.lynx_code.specs.declared.instruction.Literal.{Literal}
use Rattle.lynx_code.specs.declared.instruction.Literal.TheVariants as literal
use Rattle.lynx_meaning.specs.Code.{Goes, Thread, decides, gives, goes, step, value_of_literal}
use Rattle.lynx_meaning.specs.Expressions.{before, looked_up, multiplied, related, sum_of, summed, term_of, until, value_of, values_of, with_both, with_one}
use Rattle.lynx_meaning.specs.Values.{Value, Truth, Given, int_of, member, negate, row_of, truth_eq, truth_of}
use Rattle.compiler_steps.specs.Steps.{Reaches, StandAt}
use Rattle.compiler_steps.proofs.Standing.{back-stands, front-stands, next-stands, rest-stands}
use Rattle.compiler_steps.proofs.Reaching.{reaches-none, reaches-on, reaches-step}
use Rattle.compiler_expressions.specs.Giving.{Gives, GivesAll}
use Rattle.compiler_expressions.specs.Kinds.{IsGiven, IsHeld, IsOf}
use Rattle.compiler_expressions.specs.Setting.{Around, IsReady, Setting, stands}
use Rattle.compiler_expressions.proofs.Clean.{both-clean, demand-met, held-fits, judged-clean, some-fault}
use Rattle.compiler_expressions.proofs.Values.{truth-is}
use Rattle.compiler_expressions.proofs.Operands.{gives-as, gives-from, gives-one, gives-to, gives-two}
use Rattle.compiler_expressions.proofs.Operators.{member-int, multiplied-int, one-int, relation-steps, sum-steps, summed-int, term-steps, truth-on-top, within-int}
use Rattle.compiler_expressions.proofs.Variables.{load-steps, member-steps, row-type, some-of}

-- no fault inside two operands, and the relation is met by what they show
related-clean : (sign : Sign) (at : ℕ) (fs : List Fault) (first : Held) (second_at : ℕ) (gs : List Fault) (second : Held) → related_faults sign at fs first second_at gs second ≡ [] → (fs ≡ []) × (gs ≡ []) × (relation_faults sign at first second_at second ≡ [])
related-clean sign at [] first second_at [] second h = (refl, refl, h)
related-clean sign at [] first second_at (g ∷ gs) second h = absurd (some-fault g _ h)
related-clean sign at (f ∷ fs) first second_at gs second h = absurd (some-fault f _ h)

module _ (c : Setting) (a : Around) (ready : IsReady c a) where
  -- a literal
  push-gives : (at : ℕ) (stack : List Value) (l : Literal) (held : Held) → slice_get c.program.instructions at ≡ Some (code.Push l) → IsHeld held (value_of_literal l) → Gives c a (stands a at stack) (at + 1) stack held (Ok (value_of_literal l))
  push-gives at stack l held here of = (of, reaches-step c.program (stands a at stack) (code.Push l) _ here refl)

  -- a variable
  pub name-gives : (at : ℕ) (stack : List Value) (name : List ℕ) → slice_get c.program.instructions at ≡ Some (load c.names name) → is_some (type_of_variable (c.scope name)) ≡ true
      → Gives c a (stands a at stack) (at + 1) stack (type_of_variable (c.scope name)) (Ok (looked_up c.names a.moment.store name))
  name-gives at stack name here known =
      let found = some-of (type_of_variable (c.scope name)) known in
      let loaded = load-steps c a (c.names.slot name) found.0 at stack ready.kinds (c.variable name found.0 found.1) in
      (subst (λ (h : Held). IsHeld h (looked_up c.names a.moment.store name)) (sym found.1) loaded.1, reaches-step c.program (stands a at stack) (load c.names name) _ here loaded.0)

  -- an operand, and an operator
  one-gives : (x : List Instruction) (i : Instruction) (at : ℕ) (stack : List Value) (operand held : Held) (o : Given) (f : Value → Given) → StandAt c.program.instructions at (x ++ i ∷ [])
      → ((end : ℕ) (v : Value) → IsHeld operand v → step c.program (stands a end (v ∷ stack)) i ≡ gives (f v) stack (stands a end (v ∷ stack)))
      → ((v : Value) → IsHeld operand v → IsGiven held (f v))
      → Gives c a (stands a at stack) (at + length x) stack operand o → Gives c a (stands a at stack) (at + length (x ++ i ∷ [])) stack held (with_one o f)
  one-gives x i at stack operand held o f has steps of first =
      let long : at + length x + 1 ≡ at + length (x ++ i ∷ []) = omega (arith, length-append x (i ∷ [])) in
      gives-to c a _ _ _ stack held (with_one o f) long
      (gives-one c a ready _ (at + length x) stack operand held o i f (next-stands c.program.instructions at x i [] has) (steps (at + length x)) of first)

  -- two operands, and an operator
  two-give : (x y : List Instruction) (i : Instruction) (at : ℕ) (stack : List Value) (left right held : Held) (o r : Given) (f : Value → Value → Given) → StandAt c.program.instructions at ((x ++ y) ++ i ∷ [])
      → ((end : ℕ) (v w : Value) → IsHeld left v → IsHeld right w → step c.program (stands a end (w ∷ v ∷ stack)) i ≡ gives (f v w) stack (stands a end (w ∷ v ∷ stack)))
      → ((v w : Value) → IsHeld left v → IsHeld right w → IsGiven held (f v w))
      → Gives c a (stands a at stack) (at + length x) stack left o → ((v : Value) → Gives c a (stands a (at + length x) (v ∷ stack)) (at + length x + length y) (v ∷ stack) right r)
      → Gives c a (stands a at stack) (at + length ((x ++ y) ++ i ∷ [])) stack held (with_both o r f)
  two-give x y i at stack left right held o r f has steps of first second =
      let end = at + length x + length y in
      let join : at + length (x ++ y) ≡ end = omega (arith, length-append x y) in
      let long : end + 1 ≡ at + length ((x ++ y) ++ i ∷ []) = omega (arith, length-append (x ++ y) (i ∷ []), length-append x y) in
      let here = subst (λ (n : ℕ). slice_get c.program.instructions n ≡ Some i) join (next-stands c.program.instructions at (x ++ y) i [] has) in
      gives-to c a _ _ _ stack held (with_both o r f) long
      (gives-two c a ready _ (at + length x) end stack left right held o r i f here (steps end) of first second)

  -- ---- chains

  -- what a member of a chain leaves on the stack, and what comes behind it
  member-then : (truth : Bool) (t : Thread) (middle end : ℕ) (stack : List Value) (operand : Held) (o rest : Given) → fits types.Bool operand ≡ true → Gives c a t middle stack operand o
      → ((b : Bool) → Reaches c.program t (Goes (stands a middle (Truth b ∷ stack))) → Gives c a t end stack (Some types.Bool) (if truth_eq truth b then Ok (Truth truth) else rest))
      → Gives c a t end stack (Some types.Bool) (with_one o (λ x. if truth_eq truth (truth_of x) then Ok (Truth truth) else rest))
  member-then truth t middle end stack operand (Err exception) rest fit first next = first
  member-then truth t middle end stack operand (Ok v) rest fit first next =
      let is = truth-is v (held-fits types.Bool operand v fit first.0) in
      next (truth_of v) (subst (λ (x : Value). Reaches c.program t (Goes (stands a middle (x ∷ stack)))) is first.1)

  -- a chain without further members: what stands on the stack is its value
  no-more : (truth b : Bool) (t : Thread) (at : ℕ) (stack : List Value) → Reaches c.program t (Goes (stands a at (Truth b ∷ stack))) → Gives c a t at stack (Some types.Bool) (if truth_eq truth b then Ok (Truth truth) else Ok (Truth (not truth)))
  no-more true true t at stack first = (tt, first)
  no-more true false t at stack first = (tt, first)
  no-more false true t at stack first = (tt, first)
  no-more false false t at stack first = (tt, first)

  -- a member behind a jump: the jump is made where the chain is decided, and goes to the next jump
  one-more : (truth b : Bool) (jump : ℕ → Instruction) → ((n : ℕ) (t : Thread) → step c.program t (jump n) ≡ decides truth n t) → (t : Thread) (at behind end : ℕ) (stack : List Value) (operand : Held) (o rest : Given)
      → slice_get c.program.instructions at ≡ Some (jump behind) → Reaches c.program t (Goes (stands a at (Truth b ∷ stack))) → fits types.Bool operand ≡ true
      → Gives c a (stands a (at + 1) stack) behind stack operand o
      → ((u : Thread) (d : Bool) → Reaches c.program u (Goes (stands a behind (Truth d ∷ stack))) → Gives c a u end stack (Some types.Bool) (if truth_eq truth d then Ok (Truth truth) else rest))
      → Gives c a t end stack (Some types.Bool) (if truth_eq truth b then Ok (Truth truth) else with_one o (λ x. if truth_eq truth (truth_of x) then Ok (Truth truth) else rest))
  one-more true true jump jumps t at behind end stack operand o rest here first fit inner next =
      next t true (reaches-on c.program t (stands a at (Truth true ∷ stack)) _ first (reaches-step c.program (stands a at (Truth true ∷ stack)) (jump behind) _ here (jumps behind _)))
  one-more false false jump jumps t at behind end stack operand o rest here first fit inner next =
      next t false (reaches-on c.program t (stands a at (Truth false ∷ stack)) _ first (reaches-step c.program (stands a at (Truth false ∷ stack)) (jump behind) _ here (jumps behind _)))
  one-more true false jump jumps t at behind end stack operand o rest here first fit inner next =
      let on = reaches-on c.program t (stands a at (Truth false ∷ stack)) _ first (reaches-step c.program (stands a at (Truth false ∷ stack)) (jump behind) _ here (jumps behind _)) in
      member-then true t behind end stack operand o rest fit (gives-from c a t (stands a (at + 1) stack) behind stack operand o on inner) (λ d. next t d)
  one-more false true jump jumps t at behind end stack operand o rest here first fit inner next =
      let on = reaches-on c.program t (stands a at (Truth true ∷ stack)) _ first (reaches-step c.program (stands a at (Truth true ∷ stack)) (jump behind) _ here (jumps behind _)) in
      member-then false t behind end stack operand o rest fit (gives-from c a t (stands a (at + 1) stack) behind stack operand o on inner) (λ d. next t d)

  -- ---- sums and terms

  -- one member more of a chain of numbers
  another : (x : List Instruction) (i : Instruction) (t : Thread) (at : ℕ) (stack : List Value) (operand : Held) (o r : Given) (f : Value → Value → Given) → slice_get c.program.instructions (at + length x) ≡ Some i → fits types.Int operand ≡ true
      → ((u : Thread) (v w : Value) → IsOf types.Int v → IsOf types.Int w → u.stack ≡ w ∷ v ∷ stack → step c.program u i ≡ gives (f v w) stack u)
      → ((v w : Value) → IsGiven (Some types.Int) (f v w))
      → Gives c a t at stack (Some types.Int) o → ((v : Value) → Gives c a (stands a at (v ∷ stack)) (at + length x) (v ∷ stack) operand r) → Gives c a t (at + length x + 1) stack (Some types.Int) (with_both o r f)
  another x i t at stack operand o r f here fit steps of first second =
      gives-two c a ready t at (at + length x) stack (Some types.Int) operand (Some types.Int) o r i f here
      (λ v w h k. steps (stands a (at + length x) (w ∷ v ∷ stack)) v w h (held-fits types.Int operand w fit k) refl) (λ v w h k. of v w) first second

  -- ---- all expressions

  mutual
    pub expr-gives : (x : ExprTree) (at place : ℕ) (stack : List Value) → IsExpr x → StandAt c.program.instructions at (expr_code c.names at x) → expr_faults c.scope place x ≡ []
        → Gives c a (stands a at stack) (at + length (expr_code c.names at x)) stack (shown_type c.scope x) (value_of c.names a.moment.store x)
    expr-gives (trees.Or es) at place stack is has clean = chain-gives es true code.OrJ (λ n t. refl) 5 at place stack is.0 is.1 has clean
    expr-gives (trees.And es) at place stack is has clean = chain-gives es false code.AndJ (λ n t. refl) 4 at place stack is.0 is.1 has clean
    expr-gives (trees.Relation first sign second) at place stack is has clean =
        let x = expr_code c.names at first in
        let y = expr_code c.names (at + length x) second in
        let met = related-clean sign place (expr_faults c.scope place first) (shown_type c.scope first) (place + expr_size first + 1) (expr_faults c.scope (place + expr_size first + 1) second) (shown_type c.scope second) clean in
        let both = front-stands c.program.instructions at (x ++ y) (relation sign ∷ []) has in
        two-give x y (relation sign) at stack (shown_type c.scope first) (shown_type c.scope second) (Some types.Bool) (value_of c.names a.moment.store first) (value_of c.names a.moment.store second) (λ v w. Ok (Truth (related sign v w))) has
        (λ end v w h k. relation-steps c.program (stands a end (w ∷ v ∷ stack)) stack sign place (place + expr_size first + 1) (shown_type c.scope first) (shown_type c.scope second) met.2 v w h k refl)
        (λ v w h k. tt)
        (expr-gives first at place stack is.1 (front-stands c.program.instructions at x y both) met.0)
        (λ v. expr-gives second (at + length x) (place + expr_size first + 1) (v ∷ stack) is.4 (back-stands c.program.instructions at x y both) met.1)
    expr-gives (trees.Sum first rest) at place stack is has clean =
        let x = expr_code c.names at first in
        let y = sum_code c.names (at + length x) rest in
        let parts = both-clean (judged operand_is_int place (expr_faults c.scope place first) (shown_type c.scope first)) (sum_faults c.scope (place + expr_size first) rest) clean in
        let met = judged-clean operand_is_int place (expr_faults c.scope place first) (shown_type c.scope first) parts.0 in
        let long : at + length x + length y ≡ at + length (x ++ y) = omega (arith, length-append x y) in
        gives-to c a (stands a at stack) (at + length x + length y) (at + length (x ++ y)) stack (Some types.Int) (sum_of c.names a.moment.store (value_of c.names a.moment.store first) rest) long
        (sum-gives rest (value_of c.names a.moment.store first) (stands a at stack) (at + length x) (place + expr_size first) stack is.3 (back-stands c.program.instructions at x y has) parts.1
        (gives-as c a (stands a at stack) (at + length x) stack (shown_type c.scope first) (Some types.Int) (value_of c.names a.moment.store first) (λ v. held-fits types.Int (shown_type c.scope first) v (demand-met _ _ _ met.1))
        (expr-gives first at place stack is.1 (front-stands c.program.instructions at x y has) met.0)))
    expr-gives (trees.Term first rest) at place stack is has clean =
        let x = expr_code c.names at first in
        let y = term_code c.names (at + length x) rest in
        let parts = both-clean (judged operand_is_int place (expr_faults c.scope place first) (shown_type c.scope first)) (term_faults c.scope (place + expr_size first) rest) clean in
        let met = judged-clean operand_is_int place (expr_faults c.scope place first) (shown_type c.scope first) parts.0 in
        let long : at + length x + length y ≡ at + length (x ++ y) = omega (arith, length-append x y) in
        gives-to c a (stands a at stack) (at + length x + length y) (at + length (x ++ y)) stack (Some types.Int) (term_of c.names a.moment.store (value_of c.names a.moment.store first) rest) long
        (term-gives rest (value_of c.names a.moment.store first) (stands a at stack) (at + length x) (place + expr_size first) stack is.3 (back-stands c.program.instructions at x y has) parts.1
        (gives-as c a (stands a at stack) (at + length x) stack (shown_type c.scope first) (Some types.Int) (value_of c.names a.moment.store first) (λ v. held-fits types.Int (shown_type c.scope first) v (demand-met _ _ _ met.1))
        (expr-gives first at place stack is.1 (front-stands c.program.instructions at x y has) met.0)))
    expr-gives (trees.Minus inner) at place stack is has clean =
        let x = expr_code c.names at inner in
        let met = judged-clean operand_is_int (place + 1) (expr_faults c.scope (place + 1) inner) (shown_type c.scope inner) clean in
        one-gives x code.Neg at stack (shown_type c.scope inner) (Some types.Int) (value_of c.names a.moment.store inner) (λ v. negate (int_of v)) has
        (λ end v h. one-int negate (stands a end (v ∷ stack)) v stack (held-fits types.Int (shown_type c.scope inner) v (demand-met _ _ _ met.1) h))
        (λ v h. within-int (neg_ℤ (int_of v)))
        (expr-gives inner at (place + 1) stack is.1 (front-stands c.program.instructions at x (code.Neg ∷ []) has) met.0)
    expr-gives (trees.Not inner) at place stack is has clean =
        let x = expr_code c.names at inner in
        let met = judged-clean operand_is_bool (place + 1) (expr_faults c.scope (place + 1) inner) (shown_type c.scope inner) clean in
        one-gives x code.Not at stack (shown_type c.scope inner) (Some types.Bool) (value_of c.names a.moment.store inner) (λ v. Ok (Truth (not (truth_of v)))) has
        (λ end v h. truth-on-top (λ b below. goes (Truth (not b) ∷ below) (stands a end (v ∷ stack))) v stack (held-fits types.Bool (shown_type c.scope inner) v (demand-met _ _ _ met.1) h))
        (λ v h. tt)
        (expr-gives inner at (place + 1) stack is.1 (front-stands c.program.instructions at x (code.Not ∷ []) has) met.0)
    expr-gives (trees.Number n) at place stack is has clean = push-gives at stack (literal.Int n) (Some types.Int) has.0 tt
    expr-gives (trees.Text inside) at place stack is has clean = push-gives at stack (literal.Text inside) (Some types.Text) has.0 tt
    expr-gives trees.True at place stack is has clean = push-gives at stack (literal.Bool true) (Some types.Bool) has.0 tt
    expr-gives trees.False at place stack is has clean = push-gives at stack (literal.Bool false) (Some types.Bool) has.0 tt
    expr-gives (trees.Name name) at place stack is has clean = name-gives at stack name has.0 (demand-met _ _ _ clean)
    expr-gives (trees.Member name index) at place stack is has clean =
        let x = expr_code c.names at index in
        let parts = both-clean (is_variable place (c.scope name) ++ indexed_is_row place (type_of_variable (c.scope name))) (judged index_is_int (place + 2) (expr_faults c.scope (place + 2) index) (shown_type c.scope index)) clean in
        let of_name = both-clean (is_variable place (c.scope name)) (indexed_is_row place (type_of_variable (c.scope name))) parts.0 in
        let met = judged-clean index_is_int (place + 2) (expr_faults c.scope (place + 2) index) (shown_type c.scope index) parts.1 in
        let found = some-of (type_of_variable (c.scope name)) (demand-met _ _ _ of_name.0) in
        let row = row-type found.0 (subst (λ (h : Held). may_be_row h ≡ true) found.1 (demand-met _ _ _ of_name.1)) in
        one-gives x (load_member c.names name) at stack (shown_type c.scope index) (Some types.Int) (value_of c.names a.moment.store index) (λ v. member (row_of (looked_up c.names a.moment.store name)) (int_of v)) has
        (λ end v h. member-steps c a (c.names.slot name) row.0 end stack v ready.kinds (c.variable name (types.Row row.0) (found.1 ∙ ap Some row.1)) (held-fits types.Int (shown_type c.scope index) v (demand-met _ _ _ met.1) h))
        (λ v h. member-int (row_of (looked_up c.names a.moment.store name)) (int_of v))
        (expr-gives index at (place + 2) stack is (front-stands c.program.instructions at x (load_member c.names name ∷ []) has) met.0)
    expr-gives (trees.Bracket inner) at place stack is has clean = expr-gives inner at (place + 1) stack is has clean

    chain-gives : (es : ExprTrees) (truth : Bool) (jump : ℕ → Instruction) → ((n : ℕ) (t : Thread) → step c.program t (jump n) ≡ decides truth n t) → (most at place : ℕ) (stack : List Value) → HasTwo es → AreExprs most es
        → StandAt c.program.instructions at (chain_code c.names jump at es) → bools_faults c.scope place es ≡ []
        → Gives c a (stands a at stack) (at + length (chain_code c.names jump at es)) stack (Some types.Bool) (until c.names a.moment.store truth es)
    chain-gives trees.no_exprs truth jump jumps most at place stack two is has clean = absurd two
    chain-gives (trees.more_exprs e es) truth jump jumps most at place stack two is has clean =
        let x = expr_code c.names at e in
        let y = chain_rest c.names jump (at + length x) es in
        let parts = both-clean (judged operand_is_bool place (expr_faults c.scope place e) (shown_type c.scope e)) (bools_faults c.scope (place + expr_size e + 1) es) clean in
        let met = judged-clean operand_is_bool place (expr_faults c.scope place e) (shown_type c.scope e) parts.0 in
        let long : at + length x + length y ≡ at + length (x ++ y) = omega (arith, length-append x y) in
        gives-to c a (stands a at stack) (at + length x + length y) (at + length (x ++ y)) stack (Some types.Bool) (until c.names a.moment.store truth (trees.more_exprs e es)) long
        (member-then truth (stands a at stack) (at + length x) (at + length x + length y) stack (shown_type c.scope e) (value_of c.names a.moment.store e) (until c.names a.moment.store truth es) (demand-met _ _ _ met.1)
        (expr-gives e at place stack is.1 (front-stands c.program.instructions at x y has) met.0)
        (λ b on. rest-gives es truth b jump jumps most (stands a at stack) (at + length x) (place + expr_size e + 1) stack is.2 (back-stands c.program.instructions at x y has) parts.1 on))

    rest-gives : (es : ExprTrees) (truth b : Bool) (jump : ℕ → Instruction) → ((n : ℕ) (t : Thread) → step c.program t (jump n) ≡ decides truth n t) → (most : ℕ) (t : Thread) (at place : ℕ) (stack : List Value) → AreExprs most es
        → StandAt c.program.instructions at (chain_rest c.names jump at es) → bools_faults c.scope place es ≡ [] → Reaches c.program t (Goes (stands a at (Truth b ∷ stack)))
        → Gives c a t (at + length (chain_rest c.names jump at es)) stack (Some types.Bool) (if truth_eq truth b then Ok (Truth truth) else until c.names a.moment.store truth es)
    rest-gives trees.no_exprs truth b jump jumps most t at place stack is has clean on =
        let same : at ≡ at + 0 = omega arith in
        gives-to c a t at (at + 0) stack (Some types.Bool) (if truth_eq truth b then Ok (Truth truth) else Ok (Truth (not truth))) same (no-more truth b t at stack on)
    rest-gives (trees.more_exprs e es) truth b jump jumps most t at place stack is has clean on =
        let x = expr_code c.names (at + 1) e in
        let behind = at + 1 + length x in
        let y = chain_rest c.names jump behind es in
        let parts = both-clean (judged operand_is_bool place (expr_faults c.scope place e) (shown_type c.scope e)) (bools_faults c.scope (place + expr_size e + 1) es) clean in
        let met = judged-clean operand_is_bool place (expr_faults c.scope place e) (shown_type c.scope e) parts.0 in
        let long : behind + length y ≡ at + length (jump behind ∷ (x ++ y)) = omega (arith, length-append x y) in
        gives-to c a t (behind + length y) (at + length (jump behind ∷ (x ++ y))) stack (Some types.Bool) (if truth_eq truth b then Ok (Truth truth) else until c.names a.moment.store truth (trees.more_exprs e es)) long
        (one-more truth b jump jumps t at behind (behind + length y) stack (shown_type c.scope e) (value_of c.names a.moment.store e) (until c.names a.moment.store truth es) has.0 on (demand-met _ _ _ met.1)
        (expr-gives e (at + 1) place stack is.1 (front-stands c.program.instructions (at + 1) x y has.1) met.0)
        (λ u d there. rest-gives es truth d jump jumps most u behind (place + expr_size e + 1) stack is.2 (back-stands c.program.instructions (at + 1) x y has.1) parts.1 there))

    sum-gives : (rest : SumTail) (o : Given) (t : Thread) (at place : ℕ) (stack : List Value) → AreSums rest → StandAt c.program.instructions at (sum_code c.names at rest) → sum_faults c.scope place rest ≡ []
        → Gives c a t at stack (Some types.Int) o → Gives c a t (at + length (sum_code c.names at rest)) stack (Some types.Int) (sum_of c.names a.moment.store o rest)
    sum-gives trees.no_sums o t at place stack is has clean first =
        let same : at ≡ at + 0 = omega arith in
        gives-to c a t at (at + 0) stack (Some types.Int) o same first
    sum-gives (trees.more_sums sign e rest) o t at place stack is has clean first =
        let x = expr_code c.names at e in
        let next = at + length x + 1 in
        let y = sum_code c.names next rest in
        let now = with_both o (value_of c.names a.moment.store e) (λ v w. summed sign (int_of v) (int_of w)) in
        let parts = both-clean (judged operand_is_int (place + 1) (expr_faults c.scope (place + 1) e) (shown_type c.scope e)) (sum_faults c.scope (place + 1 + expr_size e) rest) clean in
        let met = judged-clean operand_is_int (place + 1) (expr_faults c.scope (place + 1) e) (shown_type c.scope e) parts.0 in
        let long : next + length y ≡ at + length (x ++ sum_operator sign ∷ y) = omega (arith, length-append x (sum_operator sign ∷ y)) in
        gives-to c a t (next + length y) (at + length (x ++ sum_operator sign ∷ y)) stack (Some types.Int) (sum_of c.names a.moment.store now rest) long
        (sum-gives rest now t next (place + 1 + expr_size e) stack is.3 (rest-stands c.program.instructions at x (sum_operator sign) y has) parts.1
        (another x (sum_operator sign) t at stack (shown_type c.scope e) o (value_of c.names a.moment.store e) (λ v w. summed sign (int_of v) (int_of w)) (next-stands c.program.instructions at x (sum_operator sign) y has) (demand-met _ _ _ met.1)
        (λ u v w h k on. sum-steps c.program u stack sign v w h k on) (λ v w. summed-int sign (int_of v) (int_of w)) first
        (λ v. expr-gives e at (place + 1) (v ∷ stack) is.2 (front-stands c.program.instructions at x (sum_operator sign ∷ y) has) met.0)))

    term-gives : (rest : TermTail) (o : Given) (t : Thread) (at place : ℕ) (stack : List Value) → AreTerms rest → StandAt c.program.instructions at (term_code c.names at rest) → term_faults c.scope place rest ≡ []
        → Gives c a t at stack (Some types.Int) o → Gives c a t (at + length (term_code c.names at rest)) stack (Some types.Int) (term_of c.names a.moment.store o rest)
    term-gives trees.no_terms o t at place stack is has clean first =
        let same : at ≡ at + 0 = omega arith in
        gives-to c a t at (at + 0) stack (Some types.Int) o same first
    term-gives (trees.more_terms sign e rest) o t at place stack is has clean first =
        let x = expr_code c.names at e in
        let next = at + length x + 1 in
        let y = term_code c.names next rest in
        let now = with_both o (value_of c.names a.moment.store e) (λ v w. multiplied sign (int_of v) (int_of w)) in
        let parts = both-clean (judged operand_is_int (place + 1) (expr_faults c.scope (place + 1) e) (shown_type c.scope e)) (term_faults c.scope (place + 1 + expr_size e) rest) clean in
        let met = judged-clean operand_is_int (place + 1) (expr_faults c.scope (place + 1) e) (shown_type c.scope e) parts.0 in
        let long : next + length y ≡ at + length (x ++ term_operator sign ∷ y) = omega (arith, length-append x (term_operator sign ∷ y)) in
        gives-to c a t (next + length y) (at + length (x ++ term_operator sign ∷ y)) stack (Some types.Int) (term_of c.names a.moment.store now rest) long
        (term-gives rest now t next (place + 1 + expr_size e) stack is.2 (rest-stands c.program.instructions at x (term_operator sign) y has) parts.1
        (another x (term_operator sign) t at stack (shown_type c.scope e) o (value_of c.names a.moment.store e) (λ v w. multiplied sign (int_of v) (int_of w)) (next-stands c.program.instructions at x (term_operator sign) y has) (demand-met _ _ _ met.1)
        (λ u v w h k on. term-steps c.program u stack sign v w h k on) (λ v w. multiplied-int sign (int_of v) (int_of w)) first
        (λ v. expr-gives e at (place + 1) (v ∷ stack) is.1 (front-stands c.program.instructions at x (term_operator sign ∷ y) has) met.0)))

  -- values one after the other
  all-from : (t : Thread) (middle end number : ℕ) (stack : List Value) (operand : Held) (o : Given) (e : ExprTree) (es : ExprTrees) → Gives c a t middle stack operand o
      → ((v : Value) → GivesAll c a (stands a middle (v ∷ stack)) end (v ∷ stack) number (values_of c.names a.moment.store es)) → GivesAll c a t end stack (number + 1) (before o (values_of c.names a.moment.store es))
  all-from t middle end number stack operand (Err exception) e es first rest = first
  all-from t middle end number stack operand (Ok v) e es first rest = by (values_of c.names a.moment.store es) (rest v)
    where
      by : (r : _) → GivesAll c a (stands a middle (v ∷ stack)) end (v ∷ stack) number r → GivesAll c a t end stack (number + 1) (before (Ok v) r)
      by (Ok vs) there = let more : suc (length vs) ≡ number + 1 = omega (arith, there.0) in (more, reaches-on c.program t (stands a middle (v ∷ stack)) _ first.1 there.1)
      by (Err exception) there = reaches-on c.program t (stands a middle (v ∷ stack)) _ first.1 there

  more-give : (e : ExprTree) (es : ExprTrees) (most at place : ℕ) (stack : List Value) → IsExpr e → StandAt c.program.instructions at (exprs_code c.names at (trees.more_exprs e es)) → expr_faults c.scope place e ≡ []
      → ((v : Value) → StandAt c.program.instructions (at + length (expr_code c.names at e)) (exprs_code c.names (at + length (expr_code c.names at e)) es)
      → GivesAll c a (stands a (at + length (expr_code c.names at e)) (v ∷ stack)) (at + length (expr_code c.names at e) + length (exprs_code c.names (at + length (expr_code c.names at e)) es)) (v ∷ stack) (how_many es) (values_of c.names a.moment.store es))
      → GivesAll c a (stands a at stack) (at + length (exprs_code c.names at (trees.more_exprs e es))) stack (how_many es + 1) (values_of c.names a.moment.store (trees.more_exprs e es))
  more-give e es most at place stack is has fine rest =
      let x = expr_code c.names at e in
      let y = exprs_code c.names (at + length x) es in
      let long : at + length x + length y ≡ at + length (x ++ y) = omega (arith, length-append x y) in
      subst (λ (n : ℕ). GivesAll c a (stands a at stack) n stack (how_many es + 1) (values_of c.names a.moment.store (trees.more_exprs e es))) long
      (all-from (stands a at stack) (at + length x) (at + length x + length y) (how_many es) stack (shown_type c.scope e) (value_of c.names a.moment.store e) e es
      (expr-gives e at place stack is (front-stands c.program.instructions at x y has) fine)
      (λ v. rest v (back-stands c.program.instructions at x y has)))

  pub exprs-give : (es : ExprTrees) (rule : TypeName → ℕ → Held → List Fault) (ts : List TypeName) (most at place : ℕ) (stack : List Value) → AreExprs most es → StandAt c.program.instructions at (exprs_code c.names at es) → values_faults rule c.scope place es ts ≡ []
      → GivesAll c a (stands a at stack) (at + length (exprs_code c.names at es)) stack (how_many es) (values_of c.names a.moment.store es)
  exprs-give trees.no_exprs rule ts most at place stack is has clean =
      let same : at ≡ at + 0 = omega arith in
      (refl, subst (λ (n : ℕ). Reaches c.program (stands a at stack) (Goes (stands a n stack))) same (reaches-none c.program (stands a at stack)))
  exprs-give (trees.more_exprs e es) rule [] most at place stack is has clean =
      let parts = both-clean (expr_faults c.scope place e) (values_faults rule c.scope (place + expr_size e + 1) es []) clean in
      more-give e es most at place stack is.1 has parts.0
      (λ v there. exprs-give es rule [] most (at + length (expr_code c.names at e)) (place + expr_size e + 1) (v ∷ stack) is.2 there parts.1)
  exprs-give (trees.more_exprs e es) rule (t ∷ ts) most at place stack is has clean =
      let parts = both-clean (judged (rule t) place (expr_faults c.scope place e) (shown_type c.scope e)) (values_faults rule c.scope (place + expr_size e + 1) es ts) clean in
      more-give e es most at place stack is.1 has (judged-clean (rule t) place (expr_faults c.scope place e) (shown_type c.scope e) parts.0).0
      (λ v there. exprs-give es rule ts most (at + length (expr_code c.names at e)) (place + expr_size e + 1) (v ∷ stack) is.2 there parts.1)
