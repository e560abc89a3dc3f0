-- The shapes of the code of expressions.
use Rattle.std.proofs.Common.{◌≡◌, ℕ, ◌+◌, List, [], ◌∷◌, ◌++◌, length, true, false, Some, refl, sym, ap, subst, ◌∙◌, arith}
use Rattle.lynx_lexer.specs.declared.sign.Sign.{Sign}
use Rattle.lynx_tree.specs.Trees.{ExprTree, ExprTrees, SumTail, TermTail}
use Rattle.lynx_tree.specs.Trees as trees
use Rattle.lynx_tree.specs.Grammar.{AreExprs, AreSums, AreTerms, HasTwo, IsExpr}
use Rattle.lynx_tree.specs.declared.declaration.TypeName.{TypeName}
use Rattle.lynx_tree.specs.declared.declaration.TypeName.TheVariants as types
use Rattle.typing_rules.specs.Expressions.{bools_faults, expr_faults, expr_size, judged, related as related_faults, relation_faults, shown_type, sum_faults, term_faults}
use Rattle.typing_rules.specs.Names.{type_of_variable}
use Rattle.typing_rules.specs.Rules.{Fault, index_is_int, indexed_is_row, is_variable, operand_is_bool, operand_is_int}
use Rattle.typing_rules.specs.Types.{Held, agree, fits, may_be_row}
use Rattle.lynx_code.specs.Generation.{chain_code, chain_rest, expr_code, load_member, relation, sum_code, sum_operator, term_code, term_operator}
use Rattle.lynx_code.specs.declared.instruction.Instruction.{Instruction}
use Rattle.lynx_code.specs.declared.instruction.Instruction.TheVariants as code
use Rattle.lynx_code.specs.declared.instruction.Literal.TheVariants as literal
use Rattle.compiler_expressions.proofs.Clean.{both-clean, demand-met, judged-clean, some-fault}
use Rattle.compiler_expressions.proofs.Variables.{row-type, some-of}
use Rattle.code_shapes.specs.Shapes.{Shape, Shapes, Decides, Leads, Obeys}
use Rattle.compiler_shapes.proofs.Operands.{computes_pass, load_passes, member_passes, negates_pass, nots_pass, push_passes, relation_passes, same_is, sum_obeys, term_obeys}
use Rattle.compiler_shapes.proofs.Parts.{Caught, Open, Part, Passes, on}
use Rattle.compiler_shapes.proofs.Walks.{followed, followed_past, nothing, one, where_more}

-- code that leaves a value of the type that an expression shows
pub record Shows (c : Part) (o : Open) (at : ℕ) (is : List Instruction) (ts : List TypeName) (held : Held) : Type 0 where
  pub kind : TypeName
  pub shown : held ≡ Some kind
  pub passes : Passes c o at is ts (kind ∷ ts)

-- what a rule asks the shown type to be
pub as_wanted : (c : Part) (o : Open) (at : ℕ) (is : List Instruction) (ts : List TypeName) (held : Held) (t : TypeName) → fits t held ≡ true → Shows c o at is ts held → Passes c o at is ts (t ∷ ts)
as_wanted c o at is ts held t fit shows =
    let same = same_is t shows.kind (subst (λ (h : Held). agree (Some t) h ≡ true) shows.shown fit) in
    subst (λ (u : TypeName). Passes c o at is ts (u ∷ ts)) (sym same) shows.passes

-- no fault inside two operands, and the relation is met by what they show
related_clean : (sign : Sign) (at : ℕ) (fs : List Fault) (first : Held) (second_at : ℕ) (gs : List Fault) (second : Held) → related_faults sign at fs first second_at gs second ≡ [] → (fs ≡ []) × (gs ≡ []) × (relation_faults sign at first second_at second ≡ [])
related_clean sign at [] first second_at [] second h = (refl, refl, h)
related_clean sign at [] first second_at (g ∷ gs) second h = absurd (some-fault g _ h)
related_clean sign at (f ∷ fs) first second_at gs second h = absurd (some-fault f _ h)

module _ (c : Part) (o : Open) where
  -- code behind code
  pub pass_on : (at : ℕ) (a b : List Instruction) (ts us vs : List TypeName) → Passes c o at a ts us → Passes c o (at + length a) b us vs → Passes c o at (a ++ b) ts vs
  pass_on at a b ts us vs first second = followed c.whole (Caught c o) at (at + length a) a b (on c o ts) (on c o us) (on c o vs) refl first second

  mutual
    pub expr_shows : (x : ExprTree) (at place : ℕ) (ts : List TypeName) → IsExpr x → expr_faults c.scope place x ≡ [] → Shows c o at (expr_code c.names at x) ts (shown_type c.scope x)
    expr_shows (trees.Or es) at place ts is clean = record { kind = types.Bool; shown = refl; passes = chain_passes es code.OrJ (λ shapes there s address decides. decides) 5 at place ts is.0 is.1 clean }
    expr_shows (trees.And es) at place ts is clean = record { kind = types.Bool; shown = refl; passes = chain_passes es code.AndJ (λ shapes there s address decides. decides) 4 at place ts is.0 is.1 clean }
    expr_shows (trees.Relation first sign second) at place ts is clean =
        let x = expr_code c.names at first in
        let y = expr_code c.names (at + length x) second in
        let second_at = place + expr_size first + 1 in
        let met = related_clean sign place (expr_faults c.scope place first) (shown_type c.scope first) second_at (expr_faults c.scope second_at second) (shown_type c.scope second) clean in
        let a = expr_shows first at place ts is.1 met.0 in
        let b = expr_shows second (at + length x) second_at (a.kind ∷ ts) is.4 met.1 in
        let known : relation_faults sign place (Some a.kind) second_at (Some b.kind) ≡ [] =
        subst (λ (h : Held). relation_faults sign place (Some a.kind) second_at h ≡ []) b.shown (subst (λ (h : Held). relation_faults sign place h second_at (shown_type c.scope second) ≡ []) a.shown met.2) in
        record {
          kind = types.Bool;
          shown = refl;
          passes = pass_on at (x ++ y) (relation sign ∷ []) ts (b.kind ∷ a.kind ∷ ts) (types.Bool ∷ ts)
              (pass_on at x y ts (a.kind ∷ ts) (b.kind ∷ a.kind ∷ ts) a.passes b.passes)
              (relation_passes c o sign (at + length (x ++ y)) place second_at a.kind b.kind ts known);
        }
    expr_shows (trees.Sum first rest) at place ts is clean =
        let x = expr_code c.names at first in
        let parts = both-clean (judged operand_is_int place (expr_faults c.scope place first) (shown_type c.scope first)) (sum_faults c.scope (place + expr_size first) rest) clean in
        let met = judged-clean operand_is_int place (expr_faults c.scope place first) (shown_type c.scope first) parts.0 in
        record {
          kind = types.Int;
          shown = refl;
          passes = pass_on at x (sum_code c.names (at + length x) rest) ts (types.Int ∷ ts) (types.Int ∷ ts)
              (as_wanted c o at x ts (shown_type c.scope first) types.Int (demand-met _ _ _ met.1) (expr_shows first at place ts is.1 met.0))
              (sum_passes rest (at + length x) (place + expr_size first) ts is.3 parts.1);
        }
    expr_shows (trees.Term first rest) at place ts is clean =
        let x = expr_code c.names at first in
        let parts = both-clean (judged operand_is_int place (expr_faults c.scope place first) (shown_type c.scope first)) (term_faults c.scope (place + expr_size first) rest) clean in
        let met = judged-clean operand_is_int place (expr_faults c.scope place first) (shown_type c.scope first) parts.0 in
        record {
          kind = types.Int;
          shown = refl;
          passes = pass_on at x (term_code c.names (at + length x) rest) ts (types.Int ∷ ts) (types.Int ∷ ts)
              (as_wanted c o at x ts (shown_type c.scope first) types.Int (demand-met _ _ _ met.1) (expr_shows first at place ts is.1 met.0))
              (term_passes rest (at + length x) (place + expr_size first) ts is.3 parts.1);
        }
    expr_shows (trees.Minus inner) at place ts is clean =
        let x = expr_code c.names at inner in
        let met = judged-clean operand_is_int (place + 1) (expr_faults c.scope (place + 1) inner) (shown_type c.scope inner) clean in
        record {
          kind = types.Int;
          shown = refl;
          passes = pass_on at x (code.Neg ∷ []) ts (types.Int ∷ ts) (types.Int ∷ ts)
              (as_wanted c o at x ts (shown_type c.scope inner) types.Int (demand-met _ _ _ met.1) (expr_shows inner at (place + 1) ts is.1 met.0))
              (negates_pass c o (at + length x) ts);
        }
    expr_shows (trees.Not inner) at place ts is clean =
        let x = expr_code c.names at inner in
        let met = judged-clean operand_is_bool (place + 1) (expr_faults c.scope (place + 1) inner) (shown_type c.scope inner) clean in
        record {
          kind = types.Bool;
          shown = refl;
          passes = pass_on at x (code.Not ∷ []) ts (types.Bool ∷ ts) (types.Bool ∷ ts)
              (as_wanted c o at x ts (shown_type c.scope inner) types.Bool (demand-met _ _ _ met.1) (expr_shows inner at (place + 1) ts is.1 met.0))
              (nots_pass c o (at + length x) ts);
        }
    expr_shows (trees.Number n) at place ts is clean = record { kind = types.Int; shown = refl; passes = push_passes c o at (literal.Int n) ts }
    expr_shows (trees.Text inside) at place ts is clean = record { kind = types.Text; shown = refl; passes = push_passes c o at (literal.Text inside) ts }
    expr_shows trees.True at place ts is clean = record { kind = types.Bool; shown = refl; passes = push_passes c o at (literal.Bool true) ts }
    expr_shows trees.False at place ts is clean = record { kind = types.Bool; shown = refl; passes = push_passes c o at (literal.Bool false) ts }
    expr_shows (trees.Name name) at place ts is clean =
        let found = some-of (type_of_variable (c.scope name)) (demand-met _ _ _ clean) in
        record { kind = found.0; shown = found.1; passes = load_passes c o at name found.0 ts found.1 }
    expr_shows (trees.Member name index) at place ts is clean =
        let x = expr_code c.names at index in
        let parts = both-clean (is_variable place (c.scope name) ++ indexed_is_row place (type_of_variable (c.scope name))) (judged index_is_int (place + 2) (expr_faults c.scope (place + 2) index) (shown_type c.scope index)) clean in
        let of_name = both-clean (is_variable place (c.scope name)) (indexed_is_row place (type_of_variable (c.scope name))) parts.0 in
        let met = judged-clean index_is_int (place + 2) (expr_faults c.scope (place + 2) index) (shown_type c.scope index) parts.1 in
        let found = some-of (type_of_variable (c.scope name)) (demand-met _ _ _ of_name.0) in
        let row = row-type found.0 (subst (λ (h : Held). may_be_row h ≡ true) found.1 (demand-met _ _ _ of_name.1)) in
        record {
          kind = types.Int;
          shown = refl;
          passes = pass_on at x (load_member c.names name ∷ []) ts (types.Int ∷ ts) (types.Int ∷ ts)
              (as_wanted c o at x ts (shown_type c.scope index) types.Int (demand-met _ _ _ met.1) (expr_shows index at (place + 2) ts is met.0))
              (member_passes c o (at + length x) name row.0 ts (found.1 ∙ ap Some row.1));
        }
    expr_shows (trees.Bracket inner) at place ts is clean = expr_shows inner at (place + 1) ts is clean

    chain_passes : (es : ExprTrees) (jump : ℕ → Instruction) → ((shapes : Shapes) (at : ℕ) (s : Shape) (address : ℕ) → Decides shapes at address s → Obeys c.whole shapes at s (jump address)) → (most at place : ℕ) (ts : List TypeName) →
        HasTwo es → AreExprs most es → bools_faults c.scope place es ≡ [] → Passes c o at (chain_code c.names jump at es) ts (types.Bool ∷ ts)
    chain_passes trees.no_exprs jump obeys most at place ts two is clean = absurd two
    chain_passes (trees.more_exprs e es) jump obeys most at place ts two is clean =
        let x = expr_code c.names at e in
        let parts = both-clean (judged operand_is_bool place (expr_faults c.scope place e) (shown_type c.scope e)) (bools_faults c.scope (place + expr_size e + 1) es) clean in
        let met = judged-clean operand_is_bool place (expr_faults c.scope place e) (shown_type c.scope e) parts.0 in
        pass_on at x (chain_rest c.names jump (at + length x) es) ts (types.Bool ∷ ts) (types.Bool ∷ ts)
        (as_wanted c o at x ts (shown_type c.scope e) types.Bool (demand-met _ _ _ met.1) (expr_shows e at place ts is.1 met.0))
        (rest_passes es jump obeys most (at + length x) (place + expr_size e + 1) ts is.2 parts.1)

    -- a jump goes to the next one, where the value that decides stands on the stack as well
    rest_passes : (es : ExprTrees) (jump : ℕ → Instruction) → ((shapes : Shapes) (at : ℕ) (s : Shape) (address : ℕ) → Decides shapes at address s → Obeys c.whole shapes at s (jump address)) → (most at place : ℕ) (ts : List TypeName) →
        AreExprs most es → bools_faults c.scope place es ≡ [] → Passes c o at (chain_rest c.names jump at es) (types.Bool ∷ ts) (types.Bool ∷ ts)
    rest_passes trees.no_exprs jump obeys most at place ts is clean = nothing c.whole (Caught c o) at (on c o (types.Bool ∷ ts))
    rest_passes (trees.more_exprs e es) jump obeys most at place ts is clean =
        let x = expr_code c.names (at + 1) e in
        let behind = at + 1 + length x in
        let s = on c o (types.Bool ∷ ts) in
        let parts = both-clean (judged operand_is_bool place (expr_faults c.scope place e) (shown_type c.scope e)) (bools_faults c.scope (place + expr_size e + 1) es) clean in
        let met = judged-clean operand_is_bool place (expr_faults c.scope place e) (shown_type c.scope e) parts.0 in
        let here : at + length (jump behind ∷ x) ≡ behind = omega arith in
        let more = λ (shapes : Shapes). Caught c o shapes × Leads shapes behind s in
        let inner = as_wanted c o (at + 1) x ts (shown_type c.scope e) types.Bool (demand-met _ _ _ met.1) (expr_shows e (at + 1) place ts is.1 met.0) in
        followed_past c.whole (Caught c o) at behind behind (jump behind ∷ x) [] (chain_rest c.names jump behind es) s s s s here (omega arith)
        (followed c.whole more at (at + 1) (jump behind ∷ []) x s (on c o ts) s refl
        (one c.whole more at (jump behind) s (on c o ts) (λ shapes leads needs fits. obeys shapes at s behind (ts, refl, (needs.1, leads))))
        (where_more c.whole (Caught c o) more (at + 1) x (on c o ts) s (λ shapes needs. needs.0) inner))
        (nothing c.whole (Caught c o) behind s) (rest_passes es jump obeys most behind (place + expr_size e + 1) ts is.2 parts.1)

    sum_passes : (rest : SumTail) (at place : ℕ) (ts : List TypeName) → AreSums rest → sum_faults c.scope place rest ≡ [] → Passes c o at (sum_code c.names at rest) (types.Int ∷ ts) (types.Int ∷ ts)
    sum_passes trees.no_sums at place ts is clean = nothing c.whole (Caught c o) at (on c o (types.Int ∷ ts))
    sum_passes (trees.more_sums sign e rest) at place ts is clean =
        let x = expr_code c.names at e in
        let next = at + length x + 1 in
        let parts = both-clean (judged operand_is_int (place + 1) (expr_faults c.scope (place + 1) e) (shown_type c.scope e)) (sum_faults c.scope (place + 1 + expr_size e) rest) clean in
        let met = judged-clean operand_is_int (place + 1) (expr_faults c.scope (place + 1) e) (shown_type c.scope e) parts.0 in
        pass_on at x (sum_operator sign ∷ sum_code c.names next rest) (types.Int ∷ ts) (types.Int ∷ types.Int ∷ ts) (types.Int ∷ ts)
        (as_wanted c o at x (types.Int ∷ ts) (shown_type c.scope e) types.Int (demand-met _ _ _ met.1) (expr_shows e at (place + 1) (types.Int ∷ ts) is.2 met.0))
        (pass_on (at + length x) (sum_operator sign ∷ []) (sum_code c.names next rest) (types.Int ∷ types.Int ∷ ts) (types.Int ∷ ts) (types.Int ∷ ts)
        (computes_pass c o (sum_operator sign) (at + length x) ts (λ shapes s computes. sum_obeys c.whole shapes (at + length x) s sign computes))
        (sum_passes rest next (place + 1 + expr_size e) ts is.3 parts.1))

    term_passes : (rest : TermTail) (at place : ℕ) (ts : List TypeName) → AreTerms rest → term_faults c.scope place rest ≡ [] → Passes c o at (term_code c.names at rest) (types.Int ∷ ts) (types.Int ∷ ts)
    term_passes trees.no_terms at place ts is clean = nothing c.whole (Caught c o) at (on c o (types.Int ∷ ts))
    term_passes (trees.more_terms sign e rest) at place ts is clean =
        let x = expr_code c.names at e in
        let next = at + length x + 1 in
        let parts = both-clean (judged operand_is_int (place + 1) (expr_faults c.scope (place + 1) e) (shown_type c.scope e)) (term_faults c.scope (place + 1 + expr_size e) rest) clean in
        let met = judged-clean operand_is_int (place + 1) (expr_faults c.scope (place + 1) e) (shown_type c.scope e) parts.0 in
        pass_on at x (term_operator sign ∷ term_code c.names next rest) (types.Int ∷ ts) (types.Int ∷ types.Int ∷ ts) (types.Int ∷ ts)
        (as_wanted c o at x (types.Int ∷ ts) (shown_type c.scope e) types.Int (demand-met _ _ _ met.1) (expr_shows e at (place + 1) (types.Int ∷ ts) is.1 met.0))
        (pass_on (at + length x) (term_operator sign ∷ []) (term_code c.names next rest) (types.Int ∷ types.Int ∷ ts) (types.Int ∷ ts) (types.Int ∷ ts)
        (computes_pass c o (term_operator sign) (at + length x) ts (λ shapes s computes. term_obeys c.whole shapes (at + length x) s sign computes))
        (term_passes rest next (place + 1 + expr_size e) ts is.2 parts.1))
