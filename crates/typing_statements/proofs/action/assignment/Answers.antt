use Rattle.std.proofs.Common.{Some, sym, ap, ◌∙◌, arith}
use Rattle.lynx_tree.specs.declared.declaration.TypeName.TheVariants.{Int}
use Rattle.lynx_tree.specs.Trees.{expr_tree, index_tree}
use Rattle.typing_rules.specs.Expressions.{value_faults}
use Rattle.typing_rules.specs.Meanings.{scope_of}
use Rattle.typing_rules.specs.Progress.{first_with}
use Rattle.typing_rules.specs.Rules.{Outside, value_is_of_target}
use Rattle.typing_rules.specs.Statements.{stmt_faults}
use Rattle.typing_rules.proofs.Arms.{member_size}
use Rattle.typing_statements.specs.Parts.{assigned_tree}
use Rattle.typing_statements.proofs.Actions.{member_first}
use Rattle.typing_statements.proofs.action.assignment.Goals as goal

pub returns-in-Some-clause-first : goal.returns-in-Some-clause-first
returns-in-Some-clause-first c =
    let s = scope_of c.args.scope.now in
    let a = c.args.walk.now.at in
    let n = c.args.name.now in
    let x = expr_tree c.deref.result.now in
    let v = expr_tree c.args.value.now in
    member_first s a n x v c.skip-in-Some.new.self.at c.args.walk.now.first c.member.new.walk.first c.assigned-in-Some.new.walk.first (omega (arith, member_size n x)) c.member.ensures.first
    (c.assigned-in-Some.ensures.first ∙ ap (λ o. first_with o (value_faults (value_is_of_target (Some Int)) s c.skip-in-Some.new.self.at v)) c.skip-in-Some.ensures.first)
    ∙ ap (λ q. first_with c.args.walk.now.first (stmt_faults s Outside a (assigned_tree n q v))) (ap (λ y. Some (expr_tree y)) c.deref.ensures ∙ sym (ap index_tree c.in-Some.is))
