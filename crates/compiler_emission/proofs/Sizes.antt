-- A module has fewer names than tokens.
use Rattle.std.proofs.Common.{◌≡◌, ℕ, ◌+◌, ◌<◌, ◌≤◌, List, [], ◌∷◌, ◌++◌, length, map, flat_map, arith, length-append}
use Rattle.std.specs.List.{AllByRecursion}
use Rattle.lynx_lexer.specs.declared.keyword.Keyword.{Keyword}
use Rattle.lynx_lexer.specs.declared.keyword.Keyword.TheVariants as keywords
use Rattle.lynx_lexer.specs.declared.sign.Sign.TheVariants as signs
use Rattle.lynx_tree.specs.Grammar.{Mark, word, mark, name, names_marks, op_marks, var_marks, vars_marks, entry_marks, stmts_marks, module_marks, AreStmts, HasTokens}
use Rattle.lynx_tree.specs.Trees.{ModuleTree, OpTree, VarTree, EntryTree}
use Rattle.compiler_emission.specs.Tables.{IsFit}

each_op : (ops : List OpTree) → length ops ≤ length (flat_map op_marks ops)
each_op [] = omega arith
each_op (op ∷ ops) = omega (arith, length-append (op_marks op) (flat_map op_marks ops), each_op ops)

each_var : (keyword : Keyword) (vs : List VarTree) → length vs ≤ length (flat_map (var_marks keyword) vs)
each_var keyword [] = omega arith
each_var keyword (v ∷ vs) = omega (arith, length-append (var_marks keyword v) (flat_map (var_marks keyword) vs), each_var keyword vs)

each_entry : (es : List EntryTree) → length es ≤ length (flat_map entry_marks es)
each_entry [] = omega arith
each_entry (e ∷ es) = omega (arith, length-append (entry_marks e) (flat_map entry_marks es), each_entry es)

each_behind : (d : ℕ) (names : List (List ℕ)) → length names ≤ length (flat_map (λ (next : List Mark). mark d signs.Comma ∷ next) (map (λ n. name d n ∷ []) names))
each_behind d [] = omega arith
each_behind d (n ∷ names) = omega (arith, each_behind d names)

each_name : (names : List (List ℕ)) → length names ≤ length (names_marks 0 names)
each_name [] = omega arith
each_name (n ∷ names) =
    let rest : List Mark = flat_map (λ (next : List Mark). mark 1 signs.Comma ∷ next) (map (λ m. name 1 m ∷ []) names) in
    omega (arith, each_behind 1 names, length-append rest (mark 1 signs.Close ∷ []))

-- ---- the names of the module

all_parts : (ops params vars entries body : List Mark) (a b c d e f : Mark)
    → length (a ∷ b ∷ c ∷ (ops ++ (params ++ (vars ++ (entries ++ d ∷ (body ++ e ∷ f ∷ [])))))) ≡ 6 + length ops + length params + length vars + length entries + length body
all_parts ops params vars entries body a b c d e f = omega (arith, length-append {A = Mark})

module _ (m : ModuleTree) (fits : length (module_marks m) < 4294967296) where
  whole : 6 + length (flat_map op_marks m.ops) + length (flat_map (var_marks keywords.Param) m.params) + length (vars_marks m.vars) + length (flat_map entry_marks m.entries) < 4294967296
  whole =
      let parts = all_parts (flat_map op_marks m.ops) (flat_map (var_marks keywords.Param) m.params) (vars_marks m.vars) (flat_map entry_marks m.entries) (stmts_marks 0 m.body)
      (word 0 keywords.Module) (name 0 m.name) (mark 0 signs.Semicolon) (word 0 keywords.Begin) (word 0 keywords.End) (mark 0 signs.Dot) in
      omega (arith, fits, parts)

  pub few_variables : length m.params + length m.vars < 4294967296
  few_variables = omega (arith, whole, each_var keywords.Param m.params, each_var keywords.Var m.vars)

  pub few_ops : length m.ops < 4294967296
  few_ops = omega (arith, whole, each_op m.ops)

-- ---- the names of entries

all_of_entry : (parameters vars body : List Mark) (a b c d e f g : Mark)
    → length (a ∷ b ∷ c ∷ d ∷ (parameters ++ (vars ++ e ∷ (body ++ f ∷ g ∷ [])))) ≡ 7 + length parameters + length vars + length body
all_of_entry parameters vars body a b c d e f g = omega (arith, length-append {A = Mark})

few_locals : (e : EntryTree) → length e.parameters + length e.vars ≤ length (entry_marks e)
few_locals e =
    omega (
      arith,
      each_name e.parameters,
      each_var keywords.Var e.vars,
      all_of_entry (names_marks 0 e.parameters) (vars_marks e.vars) (stmts_marks 0 e.body)
          (word 0 keywords.Entry) (name 0 e.name) (word 0 keywords.Of) (name 0 e.op) (word 0 keywords.Begin) (word 0 keywords.End) (mark 0 signs.Semicolon),
    )

fit : (es : List EntryTree) → length (flat_map entry_marks es) < 4294967296 → AllByRecursion (λ (e : EntryTree). AreStmts e.body) es → AllByRecursion IsFit es
fit [] few grammar = tt
fit (e ∷ es) few grammar =
    let size = length-append (entry_marks e) (flat_map entry_marks es) in
    ((omega (arith, few, size, few_locals e), grammar.0), fit es (omega (arith, few, size)) grammar.1)

pub entries_fit : (m : ModuleTree) → HasTokens m → length (module_marks m) < 4294967296 → AllByRecursion IsFit m.entries
entries_fit m grammar fits = fit m.entries (omega (arith, whole m fits)) grammar.0
