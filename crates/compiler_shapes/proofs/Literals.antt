-- The literals of code are tokens, and so in range.
use Rattle.std.proofs.Common.{◌≡◌, ◌^◌, ℕ, pos, ◌+◌, suc, List, [], ◌∷◌, ◌++◌, length, map, reverse, Bool, true, false, IsTrue, Some, None, if◌then◌else◌, ltb, lt-ltb, ltb-false, refl, sym, subst, arith}
use Rattle.std.specs.List.{AllByRecursion}
use Rattle.std.proofs.lemmas.Option.{none-some}
use Rattle.lynx_lexer.specs.Pieces.{limit_passed}
use Rattle.lynx_lexer.specs.declared.fault.FaultKind.{FaultKind}
use Rattle.lynx_lexer.specs.declared.fault.FaultKind.TheVariants.{NumberTooWide, TextTooLong}
use Rattle.lynx_lexer.specs.declared.keyword.Keyword.TheVariants as keywords
use Rattle.lynx_lexer.specs.declared.sign.Sign.{Sign}
use Rattle.lynx_lexer.specs.declared.sign.Sign.TheVariants as signs
use Rattle.lynx_lexer.specs.declared.token.Kind.TheVariants as kinds
use Rattle.lynx_tree.specs.Grammar.{Mark, behind_marks, chain_marks, expr_marks, exprs_marks, handlers_marks, mark, names_marks, stmt_marks, stmts_marks, sum_marks, term_marks, word}
use Rattle.lynx_tree.specs.Printing.{IsPrintable}
use Rattle.lynx_tree.specs.Trees.{ExprTree, ExprTrees, HandlerTrees, StmtTree, StmtTrees, SumTail, TermTail}
use Rattle.lynx_tree.specs.Trees as trees
use Rattle.lynx_tree.specs.declared.expression.TermSign.{TermSign}
use Rattle.lynx_tree.specs.declared.expression.TermSign.TheVariants as terms
use Rattle.typing_rules.specs.Exceptions.{exception_of}
use Rattle.lynx_code.specs.Generation.{Global, Local, Names, Slot, by_slot, chain_code, chain_rest, exception_named, expr_code, exprs_code, handlers_code, how_many, load, load_member, relation, stmt_code, stmts_code, store, store_member, stores, sum_code, sum_operator, term_code, term_operator}
use Rattle.lynx_code.specs.declared.instruction.Instruction.{Instruction}
use Rattle.lynx_code.specs.declared.instruction.Instruction.TheVariants as code
use Rattle.lynx_code.specs.declared.instruction.Literal.TheVariants as literal
use Rattle.lynx_meaning.specs.Values.{is_int}
use Rattle.compiler_shapes.proofs.Walks.{LiteralFits, all_back, all_front}

-- each is a token within the limits
abbrev pub AreTokens : List Mark → Type 0
AreTokens marks = AllByRecursion (λ (t : Mark). IsPrintable t.kind) marks

abbrev pub AreLiterals : List Instruction → Type 0
AreLiterals is = AllByRecursion LiteralFits is

-- ---- literals

not_passed : (b : Bool) (fault : FaultKind) → (if b then Some fault else None) ≡ None → b ≡ false
not_passed true fault h = absurd (none-some fault (sym h))
not_passed false fault h = refl

number_fits : (n : _) → IsPrintable (kinds.Number n) → LiteralFits (code.Push (literal.Int n))
number_fits n h = subst (λ k. LiteralFits (code.Push (literal.Int k))) (sym h.1.1) (small _ (not_passed _ NumberTooWide (subst (λ k. limit_passed (kinds.Number k) ≡ None) h.1.1 h.2)))
  where
    small : (k : ℕ) → ltb 9223372036854775807 k ≡ false → IsTrue (is_int (pos k))
    small k within = let most = ltb-false 9223372036854775807 k within in lt-ltb k (2 ^ 63) (omega (arith, most))

text_fits : (inside : List ℕ) → IsPrintable (kinds.Text inside) → LiteralFits (code.Push (literal.Text inside))
text_fits inside h = ltb-false 64 (length inside) (not_passed (ltb 64 (length inside)) TextTooLong h.2)

-- ---- instructions that have no literal

both : (a b : List Instruction) → AreLiterals a → AreLiterals b → AreLiterals (a ++ b)
both [] b h k = k
both (i ∷ a) b h k = (h.0, both a b h.1 k)

slot_fits : (left right : ℕ → Instruction) → ((k : ℕ) → LiteralFits (left k)) → ((k : ℕ) → LiteralFits (right k)) → (slot : Slot) → LiteralFits (by_slot left right slot)
slot_fits left right first second (Global k) = first k
slot_fits left right first second (Local k) = second k

load_fits : (names : Names) (n : List ℕ) → LiteralFits (load names n)
load_fits names n = slot_fits code.LoadG code.LoadL (λ k. tt) (λ k. tt) (names.slot n)

load_member_fits : (names : Names) (n : List ℕ) → LiteralFits (load_member names n)
load_member_fits names n = slot_fits code.AtG code.AtL (λ k. tt) (λ k. tt) (names.slot n)

store_fits : (names : Names) (n : List ℕ) → LiteralFits (store names n)
store_fits names n = slot_fits code.StoreG code.StoreL (λ k. tt) (λ k. tt) (names.slot n)

store_member_fits : (names : Names) (n : List ℕ) → LiteralFits (store_member names n)
store_member_fits names n = slot_fits code.PutG code.PutL (λ k. tt) (λ k. tt) (names.slot n)

each_fits : (names : Names) (ns : List (List ℕ)) → AreLiterals (map (store names) ns)
each_fits names [] = tt
each_fits names (n ∷ ns) = (store_fits names n, each_fits names ns)

relation_fits : (sign : Sign) → LiteralFits (relation sign)
relation_fits signs.Equal = tt
relation_fits signs.NotEqual = tt
relation_fits signs.Less = tt
relation_fits signs.AtMost = tt
relation_fits signs.Greater = tt
relation_fits _ = tt

sum_fits : (sign : Sign) → LiteralFits (sum_operator sign)
sum_fits signs.Plus = tt
sum_fits _ = tt

term_fits : (sign : TermSign) → LiteralFits (term_operator sign)
term_fits terms.Times = tt
term_fits terms.Over = tt
term_fits terms.Mod = tt

-- ---- expressions

of_front : (a b : List Mark) → AreTokens (a ++ b) → AreTokens a
of_front a b h = all_front (λ (t : Mark). IsPrintable t.kind) a b h

of_back : (a b : List Mark) → AreTokens (a ++ b) → AreTokens b
of_back a b h = all_back (λ (t : Mark). IsPrintable t.kind) a b h

module _ (names : Names) where
  mutual
    pub expr_literals : (x : ExprTree) (at d : ℕ) → AreTokens (expr_marks d x) → AreLiterals (expr_code names at x)
    expr_literals (trees.Or es) at d h = chain_literals es code.OrJ (λ k. tt) at d (word d keywords.Or) h
    expr_literals (trees.And es) at d h = chain_literals es code.AndJ (λ k. tt) at d (word d keywords.And) h
    expr_literals (trees.Relation first sign second) at d h =
        let x = expr_code names at first in
        let y = expr_code names (at + length x) second in
        let back = of_back (expr_marks d first) (mark d sign ∷ expr_marks d second) h in
        both (x ++ y) (relation sign ∷ []) (both x y (expr_literals first at d (of_front (expr_marks d first) (mark d sign ∷ expr_marks d second) h)) (expr_literals second (at + length x) d back.1)) (relation_fits sign, tt)
    expr_literals (trees.Sum first rest) at d h =
        let x = expr_code names at first in
        both x (sum_code names (at + length x) rest) (expr_literals first at d (of_front (expr_marks d first) (sum_marks d rest) h)) (sum_literals rest (at + length x) d (of_back (expr_marks d first) (sum_marks d rest) h))
    expr_literals (trees.Term first rest) at d h =
        let x = expr_code names at first in
        both x (term_code names (at + length x) rest) (expr_literals first at d (of_front (expr_marks d first) (term_marks d rest) h)) (term_literals rest (at + length x) d (of_back (expr_marks d first) (term_marks d rest) h))
    expr_literals (trees.Minus inner) at d h = both (expr_code names at inner) (code.Neg ∷ []) (expr_literals inner at d h.1) (tt, tt)
    expr_literals (trees.Not inner) at d h = both (expr_code names at inner) (code.Not ∷ []) (expr_literals inner at d h.1) (tt, tt)
    expr_literals (trees.Number n) at d h = (number_fits n h.0, tt)
    expr_literals (trees.Text inside) at d h = (text_fits inside h.0, tt)
    expr_literals trees.True at d h = (tt, tt)
    expr_literals trees.False at d h = (tt, tt)
    expr_literals (trees.Name n) at d h = (load_fits names n, tt)
    expr_literals (trees.Member n index) at d h =
        let close = mark (suc d) signs.CloseRow ∷ [] in
        both (expr_code names at index) (load_member names n ∷ []) (expr_literals index at (suc d) (of_front (expr_marks (suc d) index) close h.1.1)) (load_member_fits names n, tt)
    expr_literals (trees.Bracket inner) at d h = expr_literals inner at (suc d) (of_front (expr_marks (suc d) inner) (mark (suc d) signs.Close ∷ []) h.1)

    chain_literals : (es : ExprTrees) (jump : ℕ → Instruction) → ((k : ℕ) → LiteralFits (jump k)) → (at d : ℕ) (between : Mark) → AreTokens (chain_marks d between es) → AreLiterals (chain_code names jump at es)
    chain_literals trees.no_exprs jump fits at d between h = tt
    chain_literals (trees.more_exprs e es) jump fits at d between h =
        let x = expr_code names at e in
        both x (chain_rest names jump (at + length x) es) (expr_literals e at d (of_front (expr_marks d e) (behind_marks d between es) h))
        (rest_literals es jump fits (at + length x) d between (of_back (expr_marks d e) (behind_marks d between es) h))

    rest_literals : (es : ExprTrees) (jump : ℕ → Instruction) → ((k : ℕ) → LiteralFits (jump k)) → (at d : ℕ) (between : Mark) → AreTokens (behind_marks d between es) → AreLiterals (chain_rest names jump at es)
    rest_literals trees.no_exprs jump fits at d between h = tt
    rest_literals (trees.more_exprs e es) jump fits at d between h =
        let x = expr_code names (at + 1) e in
        let behind = at + 1 + length x in
        (fits behind, both x (chain_rest names jump behind es) (expr_literals e (at + 1) d (of_front (expr_marks d e) (behind_marks d between es) h.1)) (rest_literals es jump fits behind d between (of_back (expr_marks d e) (behind_marks d between es) h.1)))

    sum_literals : (rest : SumTail) (at d : ℕ) → AreTokens (sum_marks d rest) → AreLiterals (sum_code names at rest)
    sum_literals trees.no_sums at d h = tt
    sum_literals (trees.more_sums sign e rest) at d h =
        let x = expr_code names at e in
        both x (sum_operator sign ∷ sum_code names (at + length x + 1) rest) (expr_literals e at d (of_front (expr_marks d e) (sum_marks d rest) h.1))
        (sum_fits sign, sum_literals rest (at + length x + 1) d (of_back (expr_marks d e) (sum_marks d rest) h.1))

    term_literals : (rest : TermTail) (at d : ℕ) → AreTokens (term_marks d rest) → AreLiterals (term_code names at rest)
    term_literals trees.no_terms at d h = tt
    term_literals (trees.more_terms sign e rest) at d h =
        let x = expr_code names at e in
        both x (term_operator sign ∷ term_code names (at + length x + 1) rest) (expr_literals e at d (of_front (expr_marks d e) (term_marks d rest) h.1))
        (term_fits sign, term_literals rest (at + length x + 1) d (of_back (expr_marks d e) (term_marks d rest) h.1))

  -- values with commas between
  behind_literals : (es : ExprTrees) (at d : ℕ) (between : Mark) → AreTokens (behind_marks d between es) → AreLiterals (exprs_code names at es)
  behind_literals trees.no_exprs at d between h = tt
  behind_literals (trees.more_exprs e es) at d between h =
      let x = expr_code names at e in
      both x (exprs_code names (at + length x) es) (expr_literals e at d (of_front (expr_marks d e) (behind_marks d between es) h.1)) (behind_literals es (at + length x) d between (of_back (expr_marks d e) (behind_marks d between es) h.1))

  comma_literals : (es : ExprTrees) (at d : ℕ) (between : Mark) → AreTokens (chain_marks d between es) → AreLiterals (exprs_code names at es)
  comma_literals trees.no_exprs at d between h = tt
  comma_literals (trees.more_exprs e es) at d between h =
      let x = expr_code names at e in
      both x (exprs_code names (at + length x) es) (expr_literals e at d (of_front (expr_marks d e) (behind_marks d between es) h)) (behind_literals es (at + length x) d between (of_back (expr_marks d e) (behind_marks d between es) h))

  values_literals : (es : ExprTrees) (at d : ℕ) → AreTokens (exprs_marks d es) → AreLiterals (exprs_code names at es)
  values_literals es at d h =
      let comma = mark (suc d) signs.Comma in
      comma_literals es at (suc d) comma (of_front (chain_marks (suc d) comma es) (mark (suc d) signs.Close ∷ []) h.1)

  -- ---- statements

  mutual
    stmt_literals : (s : StmtTree) (at d : ℕ) → AreTokens (stmt_marks d s) → AreLiterals (stmt_code names at s)
    stmt_literals (trees.Assign n value) at d h = both (expr_code names at value) (store names n ∷ []) (expr_literals value at d h.1.1) (store_fits names n, tt)
    stmt_literals (trees.AssignMember n index value) at d h =
        let x = expr_code names at index in
        let y = expr_code names (at + length x) value in
        let marks = expr_marks (suc d) index in
        let behind = mark (suc d) signs.CloseRow ∷ mark d signs.Becomes ∷ expr_marks d value in
        let back = of_back marks behind h.1.1 in
        both (x ++ y) (store_member names n ∷ []) (both x y (expr_literals index at (suc d) (of_front marks behind h.1.1)) (expr_literals value (at + length x) d back.1.1)) (store_member_fits names n, tt)
    stmt_literals (trees.If condition then_part) at d h =
        let x = expr_code names at condition in
        let start = at + length x + 1 in
        let y = stmts_code names start then_part in
        let behind = word d keywords.Then ∷ (stmts_marks d then_part ++ word d keywords.End ∷ []) in
        let back = of_back (expr_marks d condition) behind h.1 in
        both x (code.JumpF (start + length y) ∷ y) (expr_literals condition at d (of_front (expr_marks d condition) behind h.1)) (tt, stmts_literals then_part start d (of_front (stmts_marks d then_part) (word d keywords.End ∷ []) back.1))
    stmt_literals (trees.IfElse condition then_part else_part) at d h =
        let x = expr_code names at condition in
        let start = at + length x + 1 in
        let y = stmts_code names start then_part in
        let next = start + length y + 1 in
        let z = stmts_code names next else_part in
        let last = word d keywords.Else ∷ (stmts_marks d else_part ++ word d keywords.End ∷ []) in
        let behind = word d keywords.Then ∷ (stmts_marks d then_part ++ last) in
        let back = of_back (expr_marks d condition) behind h.1 in
        let others = of_back (stmts_marks d then_part) last back.1 in
        both (x ++ code.JumpF next ∷ y) (code.Jump (next + length z) ∷ z)
        (both x (code.JumpF next ∷ y) (expr_literals condition at d (of_front (expr_marks d condition) behind h.1)) (tt, stmts_literals then_part start d (of_front (stmts_marks d then_part) last back.1)))
        (tt, stmts_literals else_part next d (of_front (stmts_marks d else_part) (word d keywords.End ∷ []) others.1))
    stmt_literals (trees.While condition body) at d h =
        let x = expr_code names at condition in
        let start = at + length x + 1 in
        let y = stmts_code names start body in
        let end = start + length y + 1 in
        let behind = word d keywords.Do ∷ (stmts_marks d body ++ word d keywords.End ∷ []) in
        let back = of_back (expr_marks d condition) behind h.1 in
        both (x ++ code.JumpF end ∷ y) (code.Jump at ∷ [])
        (both x (code.JumpF end ∷ y) (expr_literals condition at d (of_front (expr_marks d condition) behind h.1)) (tt, stmts_literals body start d (of_front (stmts_marks d body) (word d keywords.End ∷ []) back.1))) (tt, tt)
    stmt_literals (trees.Write value) at d h = both (expr_code names at value) (code.Write ∷ []) (expr_literals value at d h.1) (tt, tt)
    stmt_literals (trees.Await condition) at d h = both (expr_code names at condition) (code.Await at ∷ []) (expr_literals condition at d h.1) (tt, tt)
    stmt_literals trees.Stop at d h = (tt, tt)
    stmt_literals (trees.Raise n) at d h = (tt, tt)
    stmt_literals (trees.New first second) at d h = (tt, (store_fits names second, (store_fits names first, tt)))
    stmt_literals (trees.Destroy n) at d h = (load_fits names n, (tt, tt))
    stmt_literals (trees.Bind link entry) at d h = (load_fits names link, (tt, tt))
    stmt_literals (trees.Unbind link entry) at d h = (load_fits names link, (tt, tt))
    stmt_literals (trees.Connect op link values results) at d h =
        let behind = mark d signs.Colon ∷ names_marks d results in
        both (exprs_code names at values) (load names link ∷ code.Connect (names.op op) ∷ stores names results) (values_literals values at d (of_front (exprs_marks d values) behind h.1.1.1.1)) (load_fits names link, (tt, each_fits names (reverse results)))
    stmt_literals (trees.Accept op link arguments body) at d h =
        let s = stores names arguments in
        let start = at + 2 + length s in
        let y = stmts_code names start body in
        let behind = word d keywords.Do ∷ (stmts_marks d body ++ word d keywords.End ∷ []) in
        let back = of_back (names_marks d arguments) behind h.1.1.1.1 in
        both ((load names link ∷ code.Accept (names.op op) ∷ s) ++ y) (code.Close ∷ [])
        (both (load names link ∷ code.Accept (names.op op) ∷ s) y (load_fits names link, (tt, each_fits names (reverse arguments))) (stmts_literals body start d (of_front (stmts_marks d body) (word d keywords.End ∷ []) back.1))) (tt, tt)
    stmt_literals (trees.Reply values) at d h = both (exprs_code names at values) (code.Reply (how_many values) ∷ []) (values_literals values at d h.1) (tt, tt)
    stmt_literals (trees.Try body handlers) at d h =
        let y = stmts_code names (at + 1) body in
        let first = at + 1 + length y + 2 in
        let end = first + length (handlers_code names 0 first handlers) + 1 in
        let hs = handlers_code names end first handlers in
        let behind = handlers_marks d handlers ++ word d keywords.End ∷ [] in
        let back = of_back (stmts_marks d body) behind h.1 in
        both ((code.Try first ∷ y) ++ (code.Untry ∷ code.Jump end ∷ hs)) (code.Again ∷ [])
        (both (code.Try first ∷ y) (code.Untry ∷ code.Jump end ∷ hs) (tt, stmts_literals body (at + 1) d (of_front (stmts_marks d body) behind h.1))
        (tt, (tt, handlers_literals handlers end first d (of_front (handlers_marks d handlers) (word d keywords.End ∷ []) back)))) (tt, tt)

    pub stmts_literals : (ss : StmtTrees) (at d : ℕ) → AreTokens (stmts_marks d ss) → AreLiterals (stmts_code names at ss)
    stmts_literals trees.no_stmts at d h = tt
    stmts_literals (trees.more_stmts s rest) at d h =
        let x = stmt_code names at s in
        let behind = mark d signs.Semicolon ∷ stmts_marks d rest in
        let back = of_back (stmt_marks (suc d) s) behind h in
        both x (stmts_code names (at + length x) rest) (stmt_literals s at (suc d) (of_front (stmt_marks (suc d) s) behind h)) (stmts_literals rest (at + length x) d back.1)

    handlers_literals : (hs : HandlerTrees) (behind at d : ℕ) → AreTokens (handlers_marks d hs) → AreLiterals (handlers_code names behind at hs)
    handlers_literals trees.no_handlers behind at d h = tt
    handlers_literals (trees.more_handlers n body rest) behind at d h =
        let y = stmts_code names (at + 1) body in
        let next = at + 1 + length y + 1 in
        both (code.Case (exception_named (exception_of n)) next ∷ y) (code.Jump behind ∷ handlers_code names behind next rest)
        (tt, stmts_literals body (at + 1) d (of_front (stmts_marks d body) (handlers_marks d rest) h.1.1.1)) (tt, handlers_literals rest behind next d (of_back (stmts_marks d body) (handlers_marks d rest) h.1.1.1))
