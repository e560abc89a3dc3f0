use Rattle.std.proofs.Common.{◌+◌, ◌++◌, length, map, ap, ◌∙◌}
use Rattle.lynx_tree.specs.Grammar.{names_marks}
use Rattle.lynx_tree.specs.Trees.{var_tree, entry_tree}
use Rattle.typing_rules.specs.Meanings.{look}
use Rattle.typing_rules.specs.Modules.{var_faults}
use Rattle.typing_rules.specs.Names.{each_at, var_size, var_named, parameters_named}
use Rattle.typing_rules.specs.Progress.{first_with}
use Rattle.lynx_types.specs.News.{then_declared, news_faults}
use Rattle.lynx_types.proofs.Entries.{locals_first, locals_names}
use Rattle.lynx_types.proofs.entry.locals.Goals as goal

pub returns-clause-first : goal.returns-clause-first
returns-clause-first c =
    let a = c.args.walk.now.at in
    let e = entry_tree c.args.entry.now in
    let ts = c.args.types.now in
    let p = a + length (names_marks 0 e.parameters) in
    let o1 = c.parameters.new.walk.first in
    let s = look c.in_ok-names.names in
    let t = look c.parameters.new.names in
    let at_p = c.in_ok-parameters.ensures.at ∙ ap (λ ns. a + length (names_marks 0 ns)) c.deref.ensures.value in
    locals_first c.args.walk.now.first o1 c.vars.new.walk.first s t (parameters_named (a + 1) e.parameters ts) (each_at var_size var_named p e.vars) (each_at var_size var_faults p e.vars) c.in_ok-names.ensures
    (c.in_ok-parameters.ensures.first ∙ ap (λ ns. first_with c.args.walk.now.first (news_faults 2 s (parameters_named (a + 1) ns ts))) c.deref.ensures.value)
    (λ q. c.in_ok-parameters.ensures.names q ∙ ap (λ ns. then_declared s (parameters_named (a + 1) ns ts) q) c.deref.ensures.value)
    (c.in_ok-vars.ensures.first ∙ (λ j. first_with o1 (news_faults 2 t (each_at var_size var_named (at_p j) (map var_tree (c.deref-2.ensures.value j))) ++ each_at var_size var_faults (at_p j) (map var_tree (c.deref-2.ensures.value j)))))

pub returns-clause-names : goal.returns-clause-names
returns-clause-names c =
    let a = c.args.walk.now.at in
    let e = entry_tree c.args.entry.now in
    let ts = c.args.types.now in
    let p = a + length (names_marks 0 e.parameters) in
    let s = look c.in_ok-names.names in
    let t = look c.parameters.new.names in
    let at_p = c.in_ok-parameters.ensures.at ∙ ap (λ ns. a + length (names_marks 0 ns)) c.deref.ensures.value in
    locals_names s t (look c.vars.new.names) (parameters_named (a + 1) e.parameters ts) (each_at var_size var_named p e.vars) c.in_ok-names.ensures
    (λ q. c.in_ok-parameters.ensures.names q ∙ ap (λ ns. then_declared s (parameters_named (a + 1) ns ts) q) c.deref.ensures.value)
    (λ q. c.in_ok-vars.ensures.names q ∙ (λ j. then_declared t (each_at var_size var_named (at_p j) (map var_tree (c.deref-2.ensures.value j))) q))
