use Rattle.std.proofs.Common.{◌≡◌, ℕ, ◌+◌, ◌++◌, List, [], ◌∷◌, None, refl, length, map, sym, ap, ◌∙◌, arith}
use Rattle.std.specs.List.{flat_map}
use Rattle.lynx_lexer.specs.declared.keyword.Keyword.TheVariants as keywords
use Rattle.lynx_tree.specs.declared.declaration.EntryDecl.{EntryDecl}
use Rattle.lynx_tree.specs.Grammar.{op_marks, var_marks, vars_marks, entry_marks}
use Rattle.lynx_tree.specs.Trees.{op_tree, var_tree, entry_tree, stmt_list, module_tree}
use Rattle.typing_rules.specs.Meanings.{look, scope_of}
use Rattle.typing_rules.specs.Modules.{op_faults, param_faults, var_faults, entry_faults}
use Rattle.typing_rules.specs.Names.{Scope, each_at, op_size, op_named, var_size, var_named, entry_size, entry_named, ops_at, params_at, vars_at, entries_at, body_at}
use Rattle.typing_rules.specs.Progress.{first_with}
use Rattle.typing_rules.specs.Rules.{Outside}
use Rattle.typing_rules.specs.Statements.{stmts_faults, stmts_size}
use Rattle.lynx_types.specs.News.{then_declared, news_faults, told_faults, are_new}
use Rattle.lynx_types.proofs.News.{same_scope}
use Rattle.lynx_types.proofs.Whole.{module-size, module_first}
use Rattle.lynx_types.proofs.checking.fault_in.Goals as goal

told-length : (s : Scope) (ds : List EntryDecl) (a : ℕ) → length (are_new s (each_at entry_size entry_named a (map entry_tree ds))) ≡ length ds
told-length s [] a = refl
told-length s (d ∷ ds) a = omega (arith, told-length (then_declared s (entry_named a (entry_tree d))) ds (a + entry_size (entry_tree d)))

pub entries-requires-clause-each : goal.entries-requires-clause-each
entries-requires-clause-each c =
    let s = look c.vars.new.names in
    ap length (c.deref-6.ensures.value ∙ c.in_ok-news.ensures.news 0) ∙ told-length s c.deref-4.result.now 0 ∙ ap length (c.deref-4.ensures.value ∙ sym c.deref-5.ensures.value)

pub statements-requires : goal.statements-requires
statements-requires c =
    let m = module_tree c.args.tree.now in
    omega (
      arith,
      c.requires.fits,
      module-size m,
      c.in_ok-ops.ensures.at,
      c.in_ok-params.ensures.at,
      c.in_ok-vars.ensures.at,
      c.in_ok-entries.ensures.at,
      ap (λ xs. length (flat_map op_marks (map op_tree xs))) c.deref.ensures.value,
      ap (λ xs. length (flat_map (var_marks keywords.Param) (map var_tree xs))) c.deref-2.ensures.value,
      ap (λ xs. length (vars_marks (map var_tree xs))) c.deref-3.ensures.value,
      ap (λ xs. length (flat_map entry_marks (map entry_tree xs))) c.deref-5.ensures.value,
      ap (λ xs. stmts_size (stmt_list xs)) c.deref-7.ensures.value,
    )

pub returns : goal.returns
returns c =
    let m = module_tree c.args.tree.now in
    let s0 = look c.args.names.now in
    let s1 = look c.ops.new.names in
    let s2 = look c.params.new.names in
    let s3 = look c.vars.new.names in
    let s4 = look c.declare_entries.new.names in
    let news = c.deref-6.result.now in
    let ops = c.deref.ensures.value in
    let params = c.deref-2.ensures.value in
    let vars = c.deref-3.ensures.value in
    let named = c.deref-4.ensures.value in
    let entries = c.deref-5.ensures.value in
    let at1 : c.skip.new.self.at ≡ ops_at = omega (arith, c.skip.ensures.at, c.start-walk.ensures.at) in
    let at2 : c.ops.new.walk.at ≡ params_at m = c.in_ok-ops.ensures.at ∙ (λ j. at1 j + length (flat_map op_marks (map op_tree (ops j)))) in
    let at3 : c.params.new.walk.at ≡ vars_at m = c.in_ok-params.ensures.at ∙ (λ j. at2 j + length (flat_map (var_marks keywords.Param) (map var_tree (params j)))) in
    let at4 : c.vars.new.walk.at ≡ entries_at m = c.in_ok-vars.ensures.at ∙ (λ j. at3 j + length (vars_marks (map var_tree (vars j)))) in
    let at5 : c.skip-2.new.self.at ≡ body_at m = c.skip-2.ensures.at ∙ ap (λ n. n + 1) (c.in_ok-entries.ensures.at ∙ (λ j. at4 j + length (flat_map entry_marks (map entry_tree (entries j))))) in
    let start : c.skip.new.self.first ≡ None = c.skip.ensures.first ∙ c.start-walk.ensures.first in
    let scope : scope_of c.outside-scope.result ≡ s4 = same_scope (scope_of c.outside-scope.result) s4 c.outside-scope.ensures in
    c.first.ensures
    ∙ module_first m s0 s1 s2 s3 s4 c.ops.new.walk.first c.params.new.walk.first c.vars.new.walk.first c.entries.new.walk.first c.statements.new.walk.first news c.requires.empty
    (λ q. c.in_ok-ops.ensures.names q ∙ (λ j. then_declared s0 (each_at op_size op_named (at1 j) (map op_tree (ops j))) q))
    (λ q. c.in_ok-params.ensures.names q ∙ (λ j. then_declared s1 (each_at var_size var_named (at2 j) (map var_tree (params j))) q))
    (λ q. c.in_ok-vars.ensures.names q ∙ (λ j. then_declared s2 (each_at var_size var_named (at3 j) (map var_tree (vars j))) q))
    (λ q. c.in_ok-news.ensures.names (entries_at m) q ∙ (λ j. then_declared s3 (each_at entry_size entry_named (entries_at m) (map entry_tree (named j))) q))
    (c.deref-6.ensures.value ∙ c.in_ok-news.ensures.news (entries_at m) ∙ (λ j. are_new s3 (each_at entry_size entry_named (entries_at m) (map entry_tree (named j)))))
    (c.in_ok-ops.ensures.first ∙ (λ j. first_with (start j) (news_faults 1 s0 (each_at op_size op_named (at1 j) (map op_tree (ops j))) ++ each_at op_size op_faults (at1 j) (map op_tree (ops j)))))
    (c.in_ok-params.ensures.first ∙ (λ j. first_with c.ops.new.walk.first (news_faults 1 s1 (each_at var_size var_named (at2 j) (map var_tree (params j))) ++ each_at var_size param_faults (at2 j) (map var_tree (params j)))))
    (c.in_ok-vars.ensures.first ∙ (λ j. first_with c.params.new.walk.first (news_faults 1 s2 (each_at var_size var_named (at3 j) (map var_tree (vars j))) ++ each_at var_size var_faults (at3 j) (map var_tree (vars j)))))
    (c.in_ok-entries.ensures.first ∙ (λ j. first_with c.vars.new.walk.first (told_faults 1 news (each_at entry_size entry_named (at4 j) (map entry_tree (entries j))) ++ each_at entry_size (entry_faults s4) (at4 j) (map entry_tree (entries j)))))
    (c.statements.ensures.first ∙ (λ j. first_with (c.skip-2.ensures.first j) (stmts_faults (scope j) Outside (at5 j) (stmt_list (c.deref-7.ensures.value j)))))
