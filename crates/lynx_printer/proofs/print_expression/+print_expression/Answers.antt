use Rattle.std.proofs.Common.{arith}
use Rattle.std.proofs.lemmas.Result.{on_ok_weaker}
use Rattle.lynx_tree.specs.Grammar.{word}
use Rattle.lynx_lexer.specs.declared.keyword.Keyword.TheVariants as keywords
use Rattle.lynx_printer.proofs.Texts.{chain_step, chain_end, sum_step, term_step, text_of_or, text_of_and, or_printed, and_printed, sums_printed, terms_printed}
use Rattle.lynx_printer.proofs.print_expression.+print_expression.Goals as goal

pub push_sums-loop-sign-preserved : goal.push_sums-loop-sign-preserved
push_sums-loop-sign-preserved t c d =
    sum_step c.args.members.now c.loop-sign.sign-index c.loop-sign-item.result d c.loop-sign.out.items c.push_sign.new.out.items c.push_expr.new.out.items _ (omega arith) c.loop-sign-item.is
    c.in_ok-push_sign.ensures (c.in_ok-push_expr.ensures d) (c.loop-sign.invariant d)

pub push_terms-loop-sign-preserved : goal.push_terms-loop-sign-preserved
push_terms-loop-sign-preserved t c d =
    term_step c.args.members.now c.loop-sign.sign-index c.loop-sign-item.result d c.loop-sign.out.items c.push_term_sign.new.out.items c.push_expr.new.out.items _ (omega arith) c.loop-sign-item.is
    (c.in_ok-push_term_sign.ensures d) (c.in_ok-push_expr.ensures d) (c.loop-sign.invariant d)

pub push_chain-loop-member-preserved : goal.push_chain-loop-member-preserved
push_chain-loop-member-preserved t c d m spelled =
    chain_step c.in-Some.rest.now c.loop-member.member-index c.member-item.result d m _ c.loop-member.out.items c.push_spelling.new.out.items c.push_expr-in-loop-member.new.out.items _ (omega arith) c.member-item.is
    spelled c.in_ok-push_spelling.ensures (c.in_ok-push_expr-2.ensures d) (c.loop-member.invariant d m spelled)

pub push_chain-returns : goal.push_chain-returns
push_chain-returns t c d m spelled =
    chain_end c.args.members.now c.in-Some.rest.now c.in-Some.first.now c.loop-member.member-index d m c.args.out.now.items c.push_expr.new.out.items c.loop-member.out.items c.in-Some.ensures.cases.0 (omega arith)
    (c.in_ok-push_expr.ensures d) (c.loop-member.invariant d m spelled)

pub push_expr-returns-in-Or : goal.push_expr-returns-in-Or
push_expr-returns-in-Or t c d =
    or_printed c.args.expr.now c.in-Or.members c.deref.result.now c.deref-in-Or.result.now d c.push_chain.result c.args.out.now.items c.push_chain.new.out.items c.in-Or.is c.deref.ensures c.deref-in-Or.ensures.value
    (c.push_chain.ensures d (word d keywords.Or) (text_of_or d))

pub push_expr-returns-in-And : goal.push_expr-returns-in-And
push_expr-returns-in-And t c d =
    and_printed c.args.expr.now c.in-And.members c.deref-in-And.result.now c.deref-in-And-2.result.now d c.push_chain-in-And.result c.args.out.now.items c.push_chain-in-And.new.out.items c.in-And.is c.deref-in-And.ensures
    c.deref-in-And-2.ensures.value
    (c.push_chain-in-And.ensures d (word d keywords.And) (text_of_and d))

pub push_expr-returns-in_ok-push_expr-in-Sums : goal.push_expr-returns-in_ok-push_expr-in-Sums
push_expr-returns-in_ok-push_expr-in-Sums t c d =
    on_ok_weaker c.push_sums.result
    (λ last.
    sums_printed c.args.expr.now c.deref-in-Sums.result.now c.in-Sums.first c.in-Sums.rest c.deref-in-Sums-2.result.now c.deref-in-Sums-3.result.now d c.args.out.now.items c.push_expr-in-Sums.new.out.items c.push_sums.new.out.items c.in-Sums.is
    c.deref-in-Sums.ensures c.deref-in-Sums-2.ensures c.deref-in-Sums-3.ensures.value (c.in_ok-push_expr-in-Sums.ensures d) last)
    (c.push_sums.ensures d)

pub push_expr-returns-in_ok-push_expr-in-Terms : goal.push_expr-returns-in_ok-push_expr-in-Terms
push_expr-returns-in_ok-push_expr-in-Terms t c d =
    on_ok_weaker c.push_terms.result
    (λ last.
    terms_printed c.args.expr.now c.deref-in-Terms.result.now c.in-Terms.first c.in-Terms.rest c.deref-in-Terms-2.result.now c.deref-in-Terms-3.result.now d c.args.out.now.items c.push_expr-in-Terms.new.out.items c.push_terms.new.out.items c.in-Terms.is
    c.deref-in-Terms.ensures c.deref-in-Terms-2.ensures c.deref-in-Terms-3.ensures.value (c.in_ok-push_expr-in-Terms.ensures d) last)
    (c.push_terms.ensures d)
