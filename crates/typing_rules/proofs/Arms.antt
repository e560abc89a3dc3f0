-- What a walk over the parts of an expression says of it.
use Rattle.std.proofs.Common.{◌≡◌, ℕ, ◌+◌, List, [], ◌∷◌, ◌++◌, Bool, Option, Some, None, is_some, cond, ◌&&◌, length, sym, ap, ◌∙◌, arith, length-append}
use Rattle.std.proofs.lemmas.List.{append-nil}
use Rattle.std.specs.Global.{Vec, Box}
use Rattle.lynx_lexer.specs.declared.sign.Sign.{Sign}
use Rattle.lynx_tree.specs.declared.expression.Expr as expr
use Rattle.lynx_tree.specs.declared.expression.TermSign.{TermSign}
use Rattle.lynx_tree.specs.declared.declaration.TypeName.{TypeName}
use Rattle.lynx_tree.specs.declared.declaration.TypeName.TheVariants as types
use Rattle.lynx_tree.specs.Grammar.{Mark, sum_marks, term_marks}
use Rattle.lynx_tree.specs.Trees.{ExprTree, ExprTrees, SumTail, TermTail, expr_tree, expr_list, sum_list, term_list}
use Rattle.lynx_tree.specs.Trees as trees
use Rattle.lynx_tree.proofs.Views.{expr_tree-Or, expr_tree-And, expr_tree-Sums, expr_tree-Terms}
use Rattle.typing_rules.specs.Types.{Held, fits}
use Rattle.typing_rules.specs.Names.{Scope, type_of_variable}
use Rattle.typing_rules.specs.Rules.{Fault, demand, wants, operand_is_int, is_variable, indexed_is_row}
use Rattle.typing_rules.specs.Expressions.{expr_size, held, shown_type, expr_faults, sum_faults, term_faults, value_faults, relation_faults, related}
use Rattle.typing_rules.specs.Progress.{first_with, is_clean}
use Rattle.typing_rules.proofs.Progress.{joined, joined_clean, is_clean-demand, held-some, held-shown}
use Rattle.typing_rules.proofs.Sizes.{expr-size, chain-size}

-- ---- the trees of what the program matches

pub or_tree : (e : expr.Expr) (b : Box (Vec expr.Expr)) (v : Vec expr.Expr) (items : List expr.Expr) → e ≡ expr.Or b → v ≡ b.value → items ≡ v.items → expr_tree e ≡ trees.Or (expr_list items)
or_tree e b v items is boxed are = ap expr_tree is ∙ expr_tree-Or b ∙ ap (λ xs. trees.Or (expr_list xs)) (sym (are ∙ ap (λ (w : Vec expr.Expr). w.items) boxed))

pub and_tree : (e : expr.Expr) (b : Box (Vec expr.Expr)) (v : Vec expr.Expr) (items : List expr.Expr) → e ≡ expr.And b → v ≡ b.value → items ≡ v.items → expr_tree e ≡ trees.And (expr_list items)
and_tree e b v items is boxed are = ap expr_tree is ∙ expr_tree-And b ∙ ap (λ xs. trees.And (expr_list xs)) (sym (are ∙ ap (λ (w : Vec expr.Expr). w.items) boxed))

pub sums_tree : (e x : expr.Expr) (first : Box expr.Expr) (b : Box (Vec (Sign × expr.Expr))) (v : Vec (Sign × expr.Expr)) (items : List (Sign × expr.Expr)) → e ≡ expr.Sums first b → x ≡ first.value → v ≡ b.value → items ≡ v.items
    → expr_tree e ≡ trees.Sum (expr_tree x) (sum_list items)
sums_tree e x first b v items is head boxed are =
    let all = are ∙ ap (λ (w : Vec (Sign × expr.Expr)). w.items) boxed in
    ap expr_tree is ∙ expr_tree-Sums first b ∙ (λ i. trees.Sum (expr_tree (sym head i)) (sum_list (sym all i)))

pub terms_tree : (e x : expr.Expr) (first : Box expr.Expr) (b : Box (Vec (TermSign × expr.Expr))) (v : Vec (TermSign × expr.Expr)) (items : List (TermSign × expr.Expr)) → e ≡ expr.Terms first b → x ≡ first.value → v ≡ b.value → items ≡ v.items
    → expr_tree e ≡ trees.Term (expr_tree x) (term_list items)
terms_tree e x first b v items is head boxed are =
    let all = are ∙ ap (λ (w : Vec (TermSign × expr.Expr)). w.items) boxed in
    ap expr_tree is ∙ expr_tree-Terms first b ∙ (λ i. trees.Term (expr_tree (sym head i)) (term_list (sym all i)))

pub bracket_tree : (e x : expr.Expr) (inner : Box expr.Expr) → e ≡ expr.Bracket inner → x ≡ inner.value → expr_tree e ≡ trees.Bracket (expr_tree x)
bracket_tree e x inner is head = ap expr_tree is ∙ ap (λ y. trees.Bracket (expr_tree y)) (sym head)

pub relation_tree : (e x y : expr.Expr) (sign : Sign) (first second : Box expr.Expr) → e ≡ expr.Relation sign first second → x ≡ first.value → y ≡ second.value
    → expr_tree e ≡ trees.Relation (expr_tree x) sign (expr_tree y)
relation_tree e x y sign first second is head last = ap expr_tree is ∙ (λ i. trees.Relation (expr_tree (sym head i)) sign (expr_tree (sym last i)))

-- ---- sizes

pub sum_size : (first : ExprTree) (rest : SumTail) → expr_size (trees.Sum first rest) ≡ expr_size first + length (sum_marks 0 rest)
sum_size first rest = omega (arith, length-append {A = Mark})

pub term_size : (first : ExprTree) (rest : TermTail) → expr_size (trees.Term first rest) ≡ expr_size first + length (term_marks 0 rest)
term_size first rest = omega (arith, length-append {A = Mark})

pub and_size : (es : ExprTrees) → expr_size (trees.And es) ≡ expr_size (trees.Or es)
and_size es = chain-size 0 _ _ es

pub bracket_size : (inner : ExprTree) → expr_size (trees.Bracket inner) ≡ expr_size inner + 2
bracket_size inner = omega (arith, length-append {A = Mark}, expr-size 1 inner)

pub member_size : (n : List ℕ) (index : ExprTree) → expr_size (trees.Member n index) ≡ expr_size index + 3
member_size n index = omega (arith, length-append {A = Mark}, expr-size 1 index)

-- ---- an expression that is this tree

module _ (t u : ExprTree) (is : u ≡ t) where
  pub arm_at : (a b : ℕ) → b ≡ a + expr_size t → b ≡ a + expr_size u
  arm_at a b h = h ∙ ap (λ x. a + expr_size x) (sym is)

  pub arm_first : (s : Scope) (a : ℕ) (o o1 : Option Fault) → o1 ≡ first_with o (expr_faults s a t) → o1 ≡ first_with o (expr_faults s a u)
  arm_first s a o o1 h = h ∙ ap (λ x. first_with o (expr_faults s a x)) (sym is)

  pub arm_held : (s : Scope) (a : ℕ) (kind : TypeName) (clean : Bool) (r : Held) → shown_type s t ≡ Some kind → clean ≡ is_clean (expr_faults s a t) → r ≡ cond clean (Some kind) None
      → r ≡ held (expr_faults s a u) (shown_type s u)
  arm_held s a kind clean r shows h g =
      g ∙ ap (λ b. cond b (Some kind) None) h ∙ ap (λ o. cond (is_clean (expr_faults s a t)) o None) (sym shows) ∙ sym (held-shown (expr_faults s a t) (shown_type s t))
      ∙ ap (λ x. held (expr_faults s a x) (shown_type s x)) (sym is)

-- ---- what is found in the parts is found in the whole

module _ (s : Scope) (a : ℕ) where
  pub operand_clean : (e : ExprTree) (rule : ℕ) (t : TypeName) (h : Held) (b c : Bool) → h ≡ held (expr_faults s a e) (shown_type s e) → b ≡ is_some h → c ≡ fits t h
      → (b && c) ≡ is_clean (value_faults (wants rule t) s a e)
  operand_clean e rule t h b c eh eb ec =
      joined_clean b c (expr_faults s a e) (demand rule a (fits t (held (expr_faults s a e) (shown_type s e))))
      (eb ∙ ap is_some eh ∙ held-some s a e) (ec ∙ ap (fits t) eh ∙ sym (is_clean-demand rule a (fits t (held (expr_faults s a e) (shown_type s e)))))

  module _ (first second : ExprTree) (sign : Sign) (b : ℕ) (at_b : b ≡ a + expr_size first + 1) (h g : Held) (eh : h ≡ held (expr_faults s a first) (shown_type s first)) (eg : g ≡ held (expr_faults s b second) (shown_type s second)) where
    -- the second operand stands where the walk is
    related_at : related sign a (expr_faults s a first) (shown_type s first) b (expr_faults s b second) (shown_type s second) ≡ expr_faults s a (trees.Relation first sign second)
    related_at = ap (λ n. related sign a (expr_faults s a first) (shown_type s first) n (expr_faults s n second) (shown_type s second)) at_b

    pub relation_first : (o o1 o2 o3 : Option Fault) → o1 ≡ first_with o (expr_faults s a first) → o2 ≡ first_with o1 (expr_faults s b second) → o3 ≡ first_with o2 (relation_faults sign a h b g)
        → o3 ≡ first_with o (expr_faults s a (trees.Relation first sign second))
    relation_first o o1 o2 o3 e1 e2 e3 =
        joined o o2 o3 (expr_faults s a first ++ expr_faults s b second) (relation_faults sign a (held (expr_faults s a first) (shown_type s first)) b (held (expr_faults s b second) (shown_type s second)))
        (joined o o1 o2 (expr_faults s a first) (expr_faults s b second) e1 e2) (e3 ∙ (λ i. first_with o2 (relation_faults sign a (eh i) b (eg i)))) ∙ ap (first_with o) related_at

    pub relation_clean : (x y z : Bool) → x ≡ is_some h → y ≡ is_some g → z ≡ is_clean (relation_faults sign a h b g) → ((x && y) && z) ≡ is_clean (expr_faults s a (trees.Relation first sign second))
    relation_clean x y z ex ey ez =
        joined_clean (x && y) z (expr_faults s a first ++ expr_faults s b second) (relation_faults sign a (held (expr_faults s a first) (shown_type s first)) b (held (expr_faults s b second) (shown_type s second)))
        (joined_clean x y (expr_faults s a first) (expr_faults s b second) (ex ∙ ap is_some eh ∙ held-some s a first) (ey ∙ ap is_some eg ∙ held-some s b second))
        (ez ∙ (λ i. is_clean (relation_faults sign a (eh i) b (eg i)))) ∙ ap is_clean related_at

  pub member_first : (n : List ℕ) (index : ExprTree) (b : ℕ) (o o1 o2 o3 : Option Fault) (h : Held) → b ≡ a + 2 → h ≡ type_of_variable (s n)
      → o1 ≡ first_with o (is_variable a (s n)) → o2 ≡ first_with o1 (indexed_is_row a h) → o3 ≡ first_with o2 (value_faults (wants 14 types.Int) s b index)
      → o3 ≡ first_with o (expr_faults s a (trees.Member n index))
  member_first n index b o o1 o2 o3 h at_b eh e1 e2 e3 =
      joined o o2 o3 (is_variable a (s n) ++ indexed_is_row a (type_of_variable (s n))) (value_faults (wants 14 types.Int) s (a + 2) index)
      (joined o o1 o2 (is_variable a (s n)) (indexed_is_row a (type_of_variable (s n))) e1 (e2 ∙ ap (λ x. first_with o1 (indexed_is_row a x)) eh))
      (e3 ∙ ap (λ n. first_with o2 (value_faults (wants 14 types.Int) s n index)) at_b)

  -- an operand, and the members behind it
  pub sum_first : (first : ExprTree) (rest : SumTail) (b : ℕ) (o o1 o2 : Option Fault) → b ≡ a + expr_size first → o1 ≡ first_with o (value_faults (wants 9 types.Int) s a first) → o2 ≡ first_with o1 (sum_faults s b rest)
      → o2 ≡ first_with o (expr_faults s a (trees.Sum first rest))
  sum_first first rest b o o1 o2 at_b e1 e2 =
      joined o o1 o2 (value_faults (wants 9 types.Int) s a first) (sum_faults s (a + expr_size first) rest) e1 (e2 ∙ ap (λ n. first_with o1 (sum_faults s n rest)) at_b)

  pub sum_clean : (first : ExprTree) (rest : SumTail) (b : ℕ) (x y : Bool) → b ≡ a + expr_size first → x ≡ is_clean (value_faults (wants 9 types.Int) s a first) → y ≡ is_clean (sum_faults s b rest)
      → (x && y) ≡ is_clean (expr_faults s a (trees.Sum first rest))
  sum_clean first rest b x y at_b ex ey =
      joined_clean x y (value_faults (wants 9 types.Int) s a first) (sum_faults s (a + expr_size first) rest) ex (ey ∙ ap (λ n. is_clean (sum_faults s n rest)) at_b)

  pub term_first : (first : ExprTree) (rest : TermTail) (b : ℕ) (o o1 o2 : Option Fault) → b ≡ a + expr_size first → o1 ≡ first_with o (value_faults (wants 9 types.Int) s a first) → o2 ≡ first_with o1 (term_faults s b rest)
      → o2 ≡ first_with o (expr_faults s a (trees.Term first rest))
  term_first first rest b o o1 o2 at_b e1 e2 =
      joined o o1 o2 (value_faults (wants 9 types.Int) s a first) (term_faults s (a + expr_size first) rest) e1 (e2 ∙ ap (λ n. first_with o1 (term_faults s n rest)) at_b)

  pub term_clean : (first : ExprTree) (rest : TermTail) (b : ℕ) (x y : Bool) → b ≡ a + expr_size first → x ≡ is_clean (value_faults (wants 9 types.Int) s a first) → y ≡ is_clean (term_faults s b rest)
      → (x && y) ≡ is_clean (expr_faults s a (trees.Term first rest))
  term_clean first rest b x y at_b ex ey =
      joined_clean x y (value_faults (wants 9 types.Int) s a first) (term_faults s (a + expr_size first) rest) ex (ey ∙ ap (λ n. is_clean (term_faults s n rest)) at_b)

-- ---- two numbers with an operator between

module _ (e x y : expr.Expr) (first second : Box expr.Expr) (head : x ≡ first.value) (last : y ≡ second.value) where
  pub sum_tree : {sign : Sign} → e ≡ expr.Sum sign first second → expr_tree e ≡ trees.Sum (expr_tree x) (trees.more_sums sign (expr_tree y) trees.no_sums)
  sum_tree {sign = sign} is = ap expr_tree is ∙ (λ i. trees.Sum (expr_tree (sym head i)) (trees.more_sums sign (expr_tree (sym last i)) trees.no_sums))

  pub term_tree : {sign : TermSign} → e ≡ expr.Term sign first second → expr_tree e ≡ trees.Term (expr_tree x) (trees.more_terms sign (expr_tree y) trees.no_terms)
  term_tree {sign = sign} is = ap expr_tree is ∙ (λ i. trees.Term (expr_tree (sym head i)) (trees.more_terms sign (expr_tree (sym last i)) trees.no_terms))

  pub two_summed : {sign : Sign} → e ≡ expr.Sum sign first second → expr_size (expr_tree e) ≡ expr_size (expr_tree x) + 1 + expr_size (expr_tree y)
  two_summed {sign = sign} is = ap expr_size (sum_tree is) ∙ sum_size (expr_tree x) (trees.more_sums sign (expr_tree y) trees.no_sums) ∙ omega (arith, length-append {A = Mark})

  pub two_joined : {sign : TermSign} → e ≡ expr.Term sign first second → expr_size (expr_tree e) ≡ expr_size (expr_tree x) + 1 + expr_size (expr_tree y)
  two_joined {sign = sign} is = ap expr_size (term_tree is) ∙ term_size (expr_tree x) (trees.more_terms sign (expr_tree y) trees.no_terms) ∙ omega (arith, length-append {A = Mark})

  module _ (s : Scope) (a b : ℕ) (at_b : b ≡ a + expr_size (expr_tree x)) where
    pub sum_pair_faults : {sign : Sign} → e ≡ expr.Sum sign first second → value_faults operand_is_int s a (expr_tree x) ++ value_faults operand_is_int s (b + 1) (expr_tree y) ≡ expr_faults s a (expr_tree e)
    sum_pair_faults is =
        (λ i. value_faults operand_is_int s a (expr_tree x) ++ sym (append-nil (value_faults operand_is_int s (at_b i + 1) (expr_tree y))) i) ∙ ap (expr_faults s a) (sym (sum_tree is))

    pub term_pair_faults : {sign : TermSign} → e ≡ expr.Term sign first second → value_faults operand_is_int s a (expr_tree x) ++ value_faults operand_is_int s (b + 1) (expr_tree y) ≡ expr_faults s a (expr_tree e)
    term_pair_faults is =
        (λ i. value_faults operand_is_int s a (expr_tree x) ++ sym (append-nil (value_faults operand_is_int s (at_b i + 1) (expr_tree y))) i) ∙ ap (expr_faults s a) (sym (term_tree is))
