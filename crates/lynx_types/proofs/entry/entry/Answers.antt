use Rattle.std.proofs.Common.{◌≡◌, ◌+◌, ◌++◌, length, ap, ◌∙◌, arith, rules}
use Rattle.lynx_tree.specs.Grammar.{names_marks}
use Rattle.lynx_tree.specs.Trees.{stmt_list, entry_tree}
use Rattle.typing_rules.specs.Meanings.{look, scope_of, types_known}
use Rattle.typing_rules.specs.Modules.{var_faults}
use Rattle.typing_rules.specs.Names.{meaning_in, inside, or_outside, known, arguments_of, results_of, each_at, var_size, local_names, entry_body_at}
use Rattle.typing_rules.specs.Progress.{first_with}
use Rattle.typing_rules.specs.Rules.{Asks}
use Rattle.typing_rules.specs.Statements.{stmts_faults}
use Rattle.lynx_types.specs.News.{nowhere, news_faults, locals_named}
use Rattle.lynx_types.specs.Parts.{heading_faults}
use Rattle.lynx_types.proofs.News.{same_scope}
use Rattle.lynx_types.proofs.Entries.{same_locals, entry_first}
use Rattle.lynx_types.proofs.entry.entry.Goals as goal

pub returns-clause-first : goal.returns-clause-first
returns-clause-first c =
    let a = c.args.walk.now.at in
    let e = entry_tree c.args.entry.now in
    let outside = look c.args.outside.now in
    let o = c.args.walk.now.first in
    let o1 = c.heading.new.walk.first in
    let many : c.len.result ≡ length e.parameters = search rules in
    let arguments : types_known c.arguments_of-arguments.result ≡ arguments_of (outside e.op) = c.arguments_of-arguments.ensures ∙ ap arguments_of c.look-meaning.ensures in
    let results : types_known c.results_of.result ≡ results_of (outside e.op) = c.results_of.ensures ∙ ap results_of c.look-meaning.ensures in
    let kinds : c.known.result.now ≡ known (arguments_of (outside e.op)) = c.known.ensures ∙ ap known arguments in
    let body_at : c.skip.new.self.at ≡ entry_body_at a e = omega (arith, c.in_ok-locals.ensures.at, c.heading.ensures.at, c.skip.ensures.at) in
    let scope : scope_of c.inside-scope.result ≡ inside (local_names outside a e) outside
    = same_scope (scope_of c.inside-scope.result) (inside (local_names outside a e) outside)
    (λ q. c.inside-scope.ensures q ∙ ap (λ m. or_outside m (outside q)) (c.in_ok-locals.ensures.names q ∙ (λ j. meaning_in (locals_named (c.heading.ensures.at j) e (kinds j)) q) ∙ ap (λ ds. meaning_in ds q) (same_locals outside a e))) in
    c.skip-2.ensures.first
    ∙ entry_first outside a e c.args.new o o1 c.locals.new.walk.first c.statements.new.walk.first
    (c.heading.ensures.first ∙ (λ j. first_with o (heading_faults a c.args.new (many j) (arguments j))))
    (c.in_ok-locals.ensures.first ∙ (λ j. first_with o1 (news_faults 2 nowhere (locals_named (c.heading.ensures.at j) e (kinds j)) ++ each_at var_size var_faults (c.heading.ensures.at j + length (names_marks 0 e.parameters)) e.vars)))
    (c.statements.ensures.first ∙ (λ j. first_with (c.skip.ensures.first j) (stmts_faults (scope j) (Asks (results j)) (body_at j) (stmt_list (c.deref.ensures.value j)))))
