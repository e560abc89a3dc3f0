use Rattle.std.proofs.Common.{◌≡◌, ◌<◌, ◌+◌, ◌++◌, [], ◌∷◌, List, length, ap, subst, ◌∙◌, arith}
use Rattle.lynx_code.specs.declared.instruction.Instruction.{Instruction}
use Rattle.compiler_emission.specs.Chains.{chain_jump}
use Rattle.compiler_emission.specs.Tables.{names_in}
use Rattle.lynx_tree.specs.Trees.{expr_tree, sum_list, term_list}
use Rattle.lynx_code.specs.Generation.{expr_code, sum_code, term_code, sum_operator, term_operator}
use Rattle.std.proofs.lemmas.Result.{err_from_is_err_and}
use Rattle.compiler_emission.proofs.Emitting.{as_failed, each_end, each_long, both_ok, both_long, same_ok, same_long}
use Rattle.compiler_emission.proofs.Loops.{member_here, sum_here, term_here, sums_are, terms_are, chain_whole, chain_long, or_is, and_is, sum_is, sums_is, term_is, terms_is}
use Rattle.compiler_emission.proofs.emit_expression.+emit_expression.Goals as goal

pub emit_chain-returns-in_err-emit_member-clause-long : goal.emit_chain-returns-in_err-emit_member-clause-long
emit_chain-returns-in_err-emit_member-clause-long t c h =
    let names = names_in c.args.names.now in
    let jump = chain_jump c.args.or in
    let p = err_from_is_err_and c.from_residual-in_err-emit_member.result c.from_residual-in_err-emit_member.ensures.1 in
    let failed = as_failed c.emit_member.result c.from_residual-in_err-emit_member.result c.in_err-emit_member.field-0.0 p.0 c.in_err-emit_member.was p.1 p.2 h in
    chain_long names jump c.in-Some.first.now c.in-Some.rest.now c.args.members.now c.args.code.now.items c.emit_expr.new.code.items c.in-Some.ensures.cases.0 c.in_ok-emit_expr.ensures.ok
    (each_long (member_here names jump) c.in-Some.rest.now c.loop-member.member-index c.member-item.result c.emit_expr.new.code.items c.loop-member.code.items (omega arith) c.member-item.is (c.emit_member.ensures.long failed) c.loop-member.invariant)

pub emit_chain-returns-clause-ok : goal.emit_chain-returns-clause-ok
emit_chain-returns-clause-ok t c =
    let names = names_in c.args.names.now in
    let jump = chain_jump c.args.or in
    chain_whole names jump c.in-Some.first.now c.in-Some.rest.now c.args.members.now c.args.code.now.items c.emit_expr.new.code.items c.loop-member.code.items c.in-Some.ensures.cases.0 c.in_ok-emit_expr.ensures.ok
    (each_end (member_here names jump) c.in-Some.rest.now c.loop-member.member-index c.emit_expr.new.code.items c.loop-member.code.items (omega arith) c.loop-member.invariant)

pub emit_expr-returns-in-Or-clause-ok : goal.emit_expr-returns-in-Or-clause-ok
emit_expr-returns-in-Or-clause-ok t c =
    same_ok c.emit_chain.result c.args.code.now.items c.emit_chain.new.code.items _ _ (or_is (names_in c.args.names.now) (length c.args.code.now.items) c.args.expr.now c.in-Or.members c.deref.result.now c.deref-in-Or.result.now c.in-Or.is c.deref.ensures c.deref-in-Or.ensures.value)
    c.emit_chain.ensures.ok

pub emit_expr-returns-in-Or-clause-long : goal.emit_expr-returns-in-Or-clause-long
emit_expr-returns-in-Or-clause-long t c h =
    same_long c.args.code.now.items _ _ (or_is (names_in c.args.names.now) (length c.args.code.now.items) c.args.expr.now c.in-Or.members c.deref.result.now c.deref-in-Or.result.now c.in-Or.is c.deref.ensures c.deref-in-Or.ensures.value) (c.emit_chain.ensures.long h)

pub emit_expr-returns-in-And-clause-ok : goal.emit_expr-returns-in-And-clause-ok
emit_expr-returns-in-And-clause-ok t c =
    same_ok c.emit_chain-in-And.result c.args.code.now.items c.emit_chain-in-And.new.code.items _ _
    (and_is (names_in c.args.names.now) (length c.args.code.now.items) c.args.expr.now c.in-And.members c.deref-in-And.result.now c.deref-in-And-2.result.now c.in-And.is c.deref-in-And.ensures c.deref-in-And-2.ensures.value) c.emit_chain-in-And.ensures.ok

pub emit_expr-returns-in-And-clause-long : goal.emit_expr-returns-in-And-clause-long
emit_expr-returns-in-And-clause-long t c h =
    same_long c.args.code.now.items _ _ (and_is (names_in c.args.names.now) (length c.args.code.now.items) c.args.expr.now c.in-And.members c.deref-in-And.result.now c.deref-in-And-2.result.now c.in-And.is c.deref-in-And.ensures c.deref-in-And-2.ensures.value) (c.emit_chain-in-And.ensures.long h)

pub emit_expr-returns-in_ok-emit_expr-in-Sum-clause-ok : goal.emit_expr-returns-in_ok-emit_expr-in-Sum-clause-ok
emit_expr-returns-in_ok-emit_expr-in-Sum-clause-ok t c =
    let names = names_in c.args.names.now in
    let old = c.args.code.now.items in
    let x = c.deref-in-Sum.result.now in
    let y = c.deref-in-Sum-2.result.now in
    same_ok c.emit_then-in-Sum.result old c.emit_then-in-Sum.new.code.items _ _ (sum_is names (length old) c.args.expr.now x y c.in-Sum.sign c.in-Sum.first c.in-Sum.second c.sum_operator.result c.in-Sum.is c.deref-in-Sum.ensures c.deref-in-Sum-2.ensures c.sum_operator.ensures)
    (both_ok c.emit_then-in-Sum.result (λ k. expr_code names k (expr_tree y) ++ c.sum_operator.result ∷ []) old c.emit_expr-in-Sum.new.code.items c.emit_then-in-Sum.new.code.items (expr_code names (length old) (expr_tree x)) c.in_ok-emit_expr-in-Sum.ensures.ok c.emit_then-in-Sum.ensures.ok)

pub emit_expr-returns-in_ok-emit_expr-in-Sum-clause-long : goal.emit_expr-returns-in_ok-emit_expr-in-Sum-clause-long
emit_expr-returns-in_ok-emit_expr-in-Sum-clause-long t c h =
    let names = names_in c.args.names.now in
    let old = c.args.code.now.items in
    let x = c.deref-in-Sum.result.now in
    let y = c.deref-in-Sum-2.result.now in
    same_long old _ _ (sum_is names (length old) c.args.expr.now x y c.in-Sum.sign c.in-Sum.first c.in-Sum.second c.sum_operator.result c.in-Sum.is c.deref-in-Sum.ensures c.deref-in-Sum-2.ensures c.sum_operator.ensures)
    (both_long (λ k. expr_code names k (expr_tree y) ++ c.sum_operator.result ∷ []) old c.emit_expr-in-Sum.new.code.items (expr_code names (length old) (expr_tree x)) c.in_ok-emit_expr-in-Sum.ensures.ok (c.emit_then-in-Sum.ensures.long h))

pub emit_expr-returns-in_ok-emit_expr-in-Term-clause-ok : goal.emit_expr-returns-in_ok-emit_expr-in-Term-clause-ok
emit_expr-returns-in_ok-emit_expr-in-Term-clause-ok t c =
    let names = names_in c.args.names.now in
    let old = c.args.code.now.items in
    let x = c.deref-in-Term.result.now in
    let y = c.deref-in-Term-2.result.now in
    same_ok c.emit_then-in-Term.result old c.emit_then-in-Term.new.code.items _ _ (term_is names (length old) c.args.expr.now x y c.in-Term.sign c.in-Term.first c.in-Term.second c.term_operator.result c.in-Term.is c.deref-in-Term.ensures c.deref-in-Term-2.ensures c.term_operator.ensures)
    (both_ok c.emit_then-in-Term.result (λ k. expr_code names k (expr_tree y) ++ c.term_operator.result ∷ []) old c.emit_expr-in-Term.new.code.items c.emit_then-in-Term.new.code.items (expr_code names (length old) (expr_tree x)) c.in_ok-emit_expr-in-Term.ensures.ok c.emit_then-in-Term.ensures.ok)

pub emit_expr-returns-in_ok-emit_expr-in-Term-clause-long : goal.emit_expr-returns-in_ok-emit_expr-in-Term-clause-long
emit_expr-returns-in_ok-emit_expr-in-Term-clause-long t c h =
    let names = names_in c.args.names.now in
    let old = c.args.code.now.items in
    let x = c.deref-in-Term.result.now in
    let y = c.deref-in-Term-2.result.now in
    same_long old _ _ (term_is names (length old) c.args.expr.now x y c.in-Term.sign c.in-Term.first c.in-Term.second c.term_operator.result c.in-Term.is c.deref-in-Term.ensures c.deref-in-Term-2.ensures c.term_operator.ensures)
    (both_long (λ k. expr_code names k (expr_tree y) ++ c.term_operator.result ∷ []) old c.emit_expr-in-Term.new.code.items (expr_code names (length old) (expr_tree x)) c.in_ok-emit_expr-in-Term.ensures.ok (c.emit_then-in-Term.ensures.long h))

pub emit_expr-returns-in_ok-emit_expr-in-Sums-clause-ok : goal.emit_expr-returns-in_ok-emit_expr-in-Sums-clause-ok
emit_expr-returns-in_ok-emit_expr-in-Sums-clause-ok t c =
    let names = names_in c.args.names.now in
    let old = c.args.code.now.items in
    let first = c.deref-in-Sums.result.now in
    let members = c.deref-in-Sums-3.result.now in
    same_ok c.emit_sums.result old c.emit_sums.new.code.items _ _ (sums_is names (length old) c.args.expr.now first c.in-Sums.first c.in-Sums.rest c.deref-in-Sums-2.result.now members c.in-Sums.is c.deref-in-Sums.ensures c.deref-in-Sums-2.ensures c.deref-in-Sums-3.ensures.value)
    (both_ok c.emit_sums.result (λ k. sum_code names k (sum_list members)) old c.emit_expr-in-Sums.new.code.items c.emit_sums.new.code.items (expr_code names (length old) (expr_tree first)) c.in_ok-emit_expr-in-Sums.ensures.ok c.emit_sums.ensures.ok)

pub emit_expr-returns-in_ok-emit_expr-in-Sums-clause-long : goal.emit_expr-returns-in_ok-emit_expr-in-Sums-clause-long
emit_expr-returns-in_ok-emit_expr-in-Sums-clause-long t c h =
    let names = names_in c.args.names.now in
    let old = c.args.code.now.items in
    let first = c.deref-in-Sums.result.now in
    let members = c.deref-in-Sums-3.result.now in
    same_long old _ _ (sums_is names (length old) c.args.expr.now first c.in-Sums.first c.in-Sums.rest c.deref-in-Sums-2.result.now members c.in-Sums.is c.deref-in-Sums.ensures c.deref-in-Sums-2.ensures c.deref-in-Sums-3.ensures.value)
    (both_long (λ k. sum_code names k (sum_list members)) old c.emit_expr-in-Sums.new.code.items (expr_code names (length old) (expr_tree first)) c.in_ok-emit_expr-in-Sums.ensures.ok (c.emit_sums.ensures.long h))

pub emit_sums-returns-in_err-emit_then-clause-long : goal.emit_sums-returns-in_err-emit_then-clause-long
emit_sums-returns-in_err-emit_then-clause-long t c h =
    let names = names_in c.args.names.now in
    let p = err_from_is_err_and c.from_residual.result c.from_residual.ensures.1 in
    let failed = as_failed c.emit_then.result c.from_residual.result c.in_err-emit_then.field-0.0 p.0 c.in_err-emit_then.was p.1 p.2 h in
    let operator : c.sum_operator.result ≡ sum_operator c.loop-sign-item.result.0 = c.sum_operator.ensures in
    let member : List Instruction = expr_code names (length c.loop-sign.code.items) (expr_tree c.loop-sign-item.result.1) in
    let here = subst (λ (i : Instruction). 65535 < length c.loop-sign.code.items + length (member ++ i ∷ [])) operator (c.emit_then.ensures.long failed) in
    same_long c.args.code.now.items _ _ (sums_are names (length c.args.code.now.items) c.args.members.now)
    (each_long (sum_here names) c.args.members.now c.loop-sign.sign-index c.loop-sign-item.result c.args.code.now.items c.loop-sign.code.items (omega arith) c.loop-sign-item.is here c.loop-sign.invariant)

pub emit_sums-returns-clause-ok : goal.emit_sums-returns-clause-ok
emit_sums-returns-clause-ok t c =
    let names = names_in c.args.names.now in
    each_end (sum_here names) c.args.members.now c.loop-sign.sign-index c.args.code.now.items c.loop-sign.code.items (omega arith) c.loop-sign.invariant
    ∙ ap (λ (is : List Instruction). c.args.code.now.items ++ is) (sums_are names (length c.args.code.now.items) c.args.members.now)

pub emit_expr-returns-in_ok-emit_expr-in-Terms-clause-ok : goal.emit_expr-returns-in_ok-emit_expr-in-Terms-clause-ok
emit_expr-returns-in_ok-emit_expr-in-Terms-clause-ok t c =
    let names = names_in c.args.names.now in
    let old = c.args.code.now.items in
    let first = c.deref-in-Terms.result.now in
    let members = c.deref-in-Terms-3.result.now in
    same_ok c.emit_terms.result old c.emit_terms.new.code.items _ _ (terms_is names (length old) c.args.expr.now first c.in-Terms.first c.in-Terms.rest c.deref-in-Terms-2.result.now members c.in-Terms.is c.deref-in-Terms.ensures c.deref-in-Terms-2.ensures c.deref-in-Terms-3.ensures.value)
    (both_ok c.emit_terms.result (λ k. term_code names k (term_list members)) old c.emit_expr-in-Terms.new.code.items c.emit_terms.new.code.items (expr_code names (length old) (expr_tree first)) c.in_ok-emit_expr-in-Terms.ensures.ok c.emit_terms.ensures.ok)

pub emit_expr-returns-in_ok-emit_expr-in-Terms-clause-long : goal.emit_expr-returns-in_ok-emit_expr-in-Terms-clause-long
emit_expr-returns-in_ok-emit_expr-in-Terms-clause-long t c h =
    let names = names_in c.args.names.now in
    let old = c.args.code.now.items in
    let first = c.deref-in-Terms.result.now in
    let members = c.deref-in-Terms-3.result.now in
    same_long old _ _ (terms_is names (length old) c.args.expr.now first c.in-Terms.first c.in-Terms.rest c.deref-in-Terms-2.result.now members c.in-Terms.is c.deref-in-Terms.ensures c.deref-in-Terms-2.ensures c.deref-in-Terms-3.ensures.value)
    (both_long (λ k. term_code names k (term_list members)) old c.emit_expr-in-Terms.new.code.items (expr_code names (length old) (expr_tree first)) c.in_ok-emit_expr-in-Terms.ensures.ok (c.emit_terms.ensures.long h))

pub emit_terms-returns-in_err-emit_then-clause-long : goal.emit_terms-returns-in_err-emit_then-clause-long
emit_terms-returns-in_err-emit_then-clause-long t c h =
    let names = names_in c.args.names.now in
    let p = err_from_is_err_and c.from_residual.result c.from_residual.ensures.1 in
    let failed = as_failed c.emit_then.result c.from_residual.result c.in_err-emit_then.field-0.0 p.0 c.in_err-emit_then.was p.1 p.2 h in
    let operator : c.term_operator.result ≡ term_operator c.loop-sign-item.result.0 = c.term_operator.ensures in
    let member : List Instruction = expr_code names (length c.loop-sign.code.items) (expr_tree c.loop-sign-item.result.1) in
    let here = subst (λ (i : Instruction). 65535 < length c.loop-sign.code.items + length (member ++ i ∷ [])) operator (c.emit_then.ensures.long failed) in
    same_long c.args.code.now.items _ _ (terms_are names (length c.args.code.now.items) c.args.members.now)
    (each_long (term_here names) c.args.members.now c.loop-sign.sign-index c.loop-sign-item.result c.args.code.now.items c.loop-sign.code.items (omega arith) c.loop-sign-item.is here c.loop-sign.invariant)

pub emit_terms-returns-clause-ok : goal.emit_terms-returns-clause-ok
emit_terms-returns-clause-ok t c =
    let names = names_in c.args.names.now in
    each_end (term_here names) c.args.members.now c.loop-sign.sign-index c.args.code.now.items c.loop-sign.code.items (omega arith) c.loop-sign.invariant
    ∙ ap (λ (is : List Instruction). c.args.code.now.items ++ is) (terms_are names (length c.args.code.now.items) c.args.members.now)
