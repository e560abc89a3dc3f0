-- A module: what was found in its parts is found in the whole.
use Rattle.std.proofs.Common.{◌≡◌, ℕ, ◌+◌, List, [], ◌∷◌, ◌++◌, Bool, Option, None, length, refl, sym, ap, ◌∙◌, append_assoc, arith, length-append}
use Rattle.std.specs.List.{flat_map}
use Rattle.lynx_lexer.specs.declared.keyword.Keyword.TheVariants as keywords
use Rattle.lynx_lexer.specs.declared.sign.Sign.TheVariants as signs
use Rattle.lynx_tree.specs.Grammar.{Mark, word, name, mark, op_marks, var_marks, vars_marks, entry_marks, stmts_marks, module_marks}
use Rattle.lynx_tree.specs.Trees.{ModuleTree}
use Rattle.typing_rules.specs.Modules.{names_are_new, op_faults, param_faults, var_faults, entry_faults, first_fault, module_faults}
use Rattle.typing_rules.specs.Names.{Declared, Scope, each_at, op_size, op_named, var_size, var_named, entry_size, entry_named, ops_at, params_at, vars_at, entries_at, body_at, module_names, module_scope}
use Rattle.typing_rules.specs.Progress.{first_with}
use Rattle.typing_rules.specs.Rules.{Fault, Outside, module_name_is_new}
use Rattle.typing_rules.specs.Statements.{stmts_faults, stmts_size}
use Rattle.typing_rules.proofs.Order.{first_with-none}
use Rattle.typing_rules.proofs.Progress.{joined}
use Rattle.lynx_types.specs.News.{nowhere, then_declared, news_faults, are_new, told_faults}
use Rattle.lynx_types.proofs.News.{declared-append, same_scope, news_are_new, told-new}
use Rattle.lynx_types.proofs.Declarations.{news-step}

all_marks : (os ps vs es ss : List Mark) (a b c d e f : Mark) → length (a ∷ b ∷ c ∷ (os ++ (ps ++ (vs ++ (es ++ d ∷ (ss ++ e ∷ f ∷ [])))))) ≡ 6 + length os + length ps + length vs + length es + length ss
all_marks os ps vs es ss a b c d e f = omega (arith, length-append {A = Mark})

pub module-size : (m : ModuleTree) → length (module_marks m) ≡ 6 + length (flat_map op_marks m.ops) + length (flat_map (var_marks keywords.Param) m.params) + length (vars_marks m.vars) + length (flat_map entry_marks m.entries) + stmts_size m.body
module-size m =
    all_marks (flat_map op_marks m.ops) (flat_map (var_marks keywords.Param) m.params) (vars_marks m.vars) (flat_map entry_marks m.entries) (stmts_marks 0 m.body)
    (word 0 keywords.Module) (name 0 m.name) (mark 0 signs.Semicolon) (word 0 keywords.Begin) (word 0 keywords.End) (mark 0 signs.Dot)

then_more : (s t : Scope) (xs ys : List Declared) → ((q : List ℕ) → s q ≡ then_declared nowhere xs q) → ((q : List ℕ) → t q ≡ then_declared s ys q) → (q : List ℕ) → t q ≡ then_declared nowhere (xs ++ ys) q
then_more s t xs ys before means q = means q ∙ ap (λ w. then_declared w ys q) (same_scope s (then_declared nowhere xs) before) ∙ ap (λ w. w q) (sym (declared-append nowhere xs ys))

news_more : (o o1 : Option Fault) (s : Scope) (xs ys : List Declared) (fs gs : List Fault) → o ≡ first_with None (news_faults 1 nowhere xs ++ fs) → ((q : List ℕ) → s q ≡ then_declared nowhere xs q) → o1 ≡ first_with o (news_faults 1 s ys ++ gs)
    → o1 ≡ first_with None (news_faults 1 nowhere (xs ++ ys) ++ (fs ++ gs))
news_more o o1 s xs ys fs gs h before g = g ∙ news-step 1 None o nowhere s (xs ++ ys) xs ys (fs ++ gs) fs gs refl refl h before

regrouped : (a b c d e f : List Fault) → (a ++ (b ++ c ++ d ++ e)) ++ f ≡ a ++ b ++ c ++ d ++ e ++ f
regrouped a b c d e f = simp append_assoc

module _ (m : ModuleTree) where
  abbrev os : List Declared
  os = each_at op_size op_named ops_at m.ops

  abbrev ps : List Declared
  ps = each_at var_size var_named (params_at m) m.params

  abbrev vs : List Declared
  vs = each_at var_size var_named (vars_at m) m.vars

  abbrev es : List Declared
  es = each_at entry_size entry_named (entries_at m) m.entries

  pub module_names-are : (s0 s1 s2 s3 s4 : Scope) → ((q : List ℕ) → s0 q ≡ nowhere q) → ((q : List ℕ) → s1 q ≡ then_declared s0 os q) → ((q : List ℕ) → s2 q ≡ then_declared s1 ps q) → ((q : List ℕ) → s3 q ≡ then_declared s2 vs q)
      → ((q : List ℕ) → s4 q ≡ then_declared s3 es q) → (q : List ℕ) → s4 q ≡ module_scope m q
  module_names-are s0 s1 s2 s3 s4 n0 n1 n2 n3 n4 =
      let m1 : (q : List ℕ) → s1 q ≡ then_declared nowhere os q = λ q. n1 q ∙ ap (λ w. then_declared w os q) (same_scope s0 nowhere n0) in
      then_more s3 s4 (os ++ ps ++ vs) es (then_more s2 s3 (os ++ ps) vs (then_more s1 s2 os ps m1 n2) n3) n4

  pub module_first : (s0 s1 s2 s3 s4 : Scope) (o1 o2 o3 o4 o5 : Option Fault) (news : List Bool) → ((q : List ℕ) → s0 q ≡ nowhere q) → ((q : List ℕ) → s1 q ≡ then_declared s0 os q) → ((q : List ℕ) → s2 q ≡ then_declared s1 ps q)
      → ((q : List ℕ) → s3 q ≡ then_declared s2 vs q) → ((q : List ℕ) → s4 q ≡ then_declared s3 es q) → news ≡ are_new s3 es
      → o1 ≡ first_with None (news_faults 1 s0 os ++ each_at op_size op_faults ops_at m.ops)
      → o2 ≡ first_with o1 (news_faults 1 s1 ps ++ each_at var_size param_faults (params_at m) m.params)
      → o3 ≡ first_with o2 (news_faults 1 s2 vs ++ each_at var_size var_faults (vars_at m) m.vars)
      → o4 ≡ first_with o3 (told_faults 1 news es ++ each_at entry_size (entry_faults s4) (entries_at m) m.entries)
      → o5 ≡ first_with o4 (stmts_faults s4 Outside (body_at m) m.body) → o5 ≡ first_fault (module_faults m)
  module_first s0 s1 s2 s3 s4 o1 o2 o3 o4 o5 news n0 n1 n2 n3 n4 are e1 e2 e3 e4 e5 =
      let ops = each_at op_size op_faults ops_at m.ops in
      let params = each_at var_size param_faults (params_at m) m.params in
      let vars = each_at var_size var_faults (vars_at m) m.vars in
      let entries = each_at entry_size (entry_faults (module_scope m)) (entries_at m) m.entries in
      let body = stmts_faults (module_scope m) Outside (body_at m) m.body in
      let scope = same_scope s4 (module_scope m) (module_names-are s0 s1 s2 s3 s4 n0 n1 n2 n3 n4) in
      let m1 : (q : List ℕ) → s1 q ≡ then_declared nowhere os q = λ q. n1 q ∙ ap (λ w. then_declared w os q) (same_scope s0 nowhere n0) in
      let m2 = then_more s1 s2 os ps m1 n2 in
      let m3 = then_more s2 s3 (os ++ ps) vs m2 n3 in
      let f1 : o1 ≡ first_with None (news_faults 1 nowhere os ++ ops) = e1 ∙ ap (λ w. first_with None (news_faults 1 w os ++ ops)) (same_scope s0 nowhere n0) in
      let f2 = news_more o1 o2 s1 os ps ops params f1 m1 e2 in
      let f3 = news_more o2 o3 s2 (os ++ ps) vs (ops ++ params) vars f2 m2 e3 in
      let g4 : o4 ≡ first_with o3 (news_faults 1 s3 es ++ entries) = e4 ∙ (λ j. first_with o3 ((ap (λ x. told_faults 1 x es) are ∙ told-new 1 s3 es) j ++ each_at entry_size (entry_faults (scope j)) (entries_at m) m.entries)) in
      let f4 = news_more o3 o4 s3 (os ++ ps ++ vs) es (ops ++ params ++ vars) entries f3 m3 g4 in
      let told : news_faults 1 nowhere (module_names m) ≡ names_are_new module_name_is_new [] (module_names m) = sym (news_are_new 1 [] nowhere (module_names m) (λ q. refl)) in
      joined None o4 o5 (news_faults 1 nowhere (module_names m) ++ (ops ++ params ++ vars ++ entries)) body f4 (e5 ∙ ap (λ w. first_with o4 (stmts_faults w Outside (body_at m) m.body)) scope)
      ∙ ap (first_with None) (regrouped (news_faults 1 nowhere (module_names m)) ops params vars entries body ∙ ap (λ x. x ++ ops ++ params ++ vars ++ entries ++ body) told)
      ∙ first_with-none (module_faults m)
