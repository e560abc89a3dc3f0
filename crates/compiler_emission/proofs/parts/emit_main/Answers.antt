use Rattle.std.proofs.Common.{[], ap, sym, subst, ◌∙◌}
use Rattle.lynx_tree.specs.Grammar.{AreStmts}
use Rattle.lynx_tree.specs.Trees.{module_tree, stmt_list}
use Rattle.compiler_emission.specs.Tables.{names_in}
use Rattle.compiler_emission.proofs.Entries.{main_is, main_long}
use Rattle.compiler_emission.proofs.Wholes.{then_ok}
use Rattle.compiler_emission.proofs.parts.emit_main.Goals as goal

pub emit_body-requires : goal.emit_body-requires
emit_body-requires c = subst (λ xs. AreStmts (stmt_list xs)) (sym c.deref.ensures.value) c.requires.grammar

pub returns-clause-ok : goal.returns-clause-ok
returns-clause-ok c =
    let m = module_tree c.args.tree.now in
    then_ok c.emit_body.result
    (λ h. h ∙ main_is m c.args.code.now.items (names_in c.scope.result) (stmt_list c.deref.result.now) c.requires.first (c.scope.ensures m [] c.requires.tables c.new-none.ensures) (ap stmt_list c.deref.ensures.value)) c.emit_body.ensures.ok

pub returns-clause-long : goal.returns-clause-long
returns-clause-long c h =
    let m = module_tree c.args.tree.now in
    main_long m c.args.code.now.items (names_in c.scope.result) (stmt_list c.deref.result.now) c.requires.first (c.scope.ensures m [] c.requires.tables c.new-none.ensures) (ap stmt_list c.deref.ensures.value) (c.emit_body.ensures.long h)
