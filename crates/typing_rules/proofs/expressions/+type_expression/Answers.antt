use Rattle.std.proofs.Common.{rules, ◌≡◌, ◌+◌, ◌<◌, ◌&&◌, subst, ap, sym, refl, ◌∙◌, arith, drop}
use Rattle.lynx_tree.specs.declared.declaration.TypeName.TheVariants.{Int, Bool}
use Rattle.lynx_tree.specs.Trees.{expr_tree, expr_list, sum_list, term_list}
use Rattle.lynx_tree.specs.Trees as trees
use Rattle.typing_rules.specs.Expressions.{expr_size, expr_faults, value_faults, bools_faults, sum_faults, term_faults}
use Rattle.typing_rules.specs.Rules.{wants, operand_is_int}
use Rattle.typing_rules.specs.Meanings.{scope_of}
use Rattle.typing_rules.specs.Progress.{first_with, is_clean}
use Rattle.lynx_tree.specs.declared.expression.Expr.TheViews.{the_lemmas}
use Rattle.typing_rules.proofs.Arms.{or_tree, and_tree, sum_tree, term_tree, sums_tree, terms_tree, two_summed, two_joined, sum_pair_faults, term_pair_faults, bracket_tree, and_size, bracket_size, member_size}
use Rattle.typing_rules.proofs.Arms.{arm_at, arm_first, arm_held, operand_clean, relation_tree, relation_first, relation_clean, member_first, sum_size, sum_first, sum_clean, term_size, term_first, term_clean}
use Rattle.typing_rules.proofs.Members.{bools-parts, next_bool, bool-split, next_sum, sum-split, next_term, term-split, none_left}
use Rattle.typing_rules.proofs.Progress.{joined, joined_clean, left_first, left_clean, end_first}
use Rattle.typing_rules.proofs.expressions.+type_expression.Goals as goal

pub bools-loop-member-preserved : goal.bools-loop-member-preserved
bools-loop-member-preserved t c =
    let s = scope_of c.args.scope.now in
    let i = c.loop-member.member-index in
    let rest = c.in-Some.rest.now in
    let e = c.member-item.result in
    let here = value_faults (wants 11 Bool) s c.skip.new.self.at (expr_tree e) in
    let left = bools_faults s (c.operand-next.new.walk.at + 1) (expr_list (drop (i + 1) rest)) in
    let split = bool-split s i c.loop-member.walk.at rest e c.skip.new.self.at c.operand-next.new.walk.at c.loop-member-test.true c.member-item.is c.skip.ensures.at c.operand-next.ensures.at in
    record {
      at = omega (arith, c.loop-member.invariant.at, next_bool s i 0 rest e c.loop-member-test.true c.member-item.is);
      first = left_first c.loop-member.walk.first c.operand-next.new.walk.first _ _ here left split (c.operand-next.ensures.first ∙ ap (λ o. first_with o here) c.skip.ensures.first) c.loop-member.invariant.first;
      clean = left_clean c.loop-member.clean c.both-clean.result c.operand-next.result _ _ here left split c.operand-next.ensures.clean c.both-clean.ensures c.loop-member.invariant.clean;
    }

pub bools-returns-clause-first : goal.bools-returns-clause-first
bools-returns-clause-first t c =
    let s = scope_of c.args.scope.now in
    let a = c.args.walk.now.at in
    let rest = c.in-Some.rest.now in
    let first = c.in-Some.first.now in
    joined c.args.walk.now.first c.operand-clean.new.walk.first c.loop-member.walk.first (value_faults (wants 11 Bool) s a (expr_tree first)) (bools_faults s (a + expr_size (expr_tree first) + 1) (expr_list rest)) c.operand-clean.ensures.first
    (end_first c.loop-member.walk.first _ _ (none_left (λ xs. bools_faults s (c.loop-member.walk.at + 1) (expr_list xs)) rest c.loop-member.member-index c.loop-member-test.false) c.loop-member.invariant.first
    ∙ ap (λ n. first_with c.operand-clean.new.walk.first (bools_faults s (n + 1) (expr_list rest))) c.operand-clean.ensures.at)
    ∙ ap (first_with c.args.walk.now.first) (sym (bools-parts c.args.members.now rest first c.in-Some.ensures.cases.0 s a))

pub expression-bools-requires : goal.expression-bools-requires
expression-bools-requires t c = (search (rules, the_lemmas), subst (λ x. c.args.walk.now.at + expr_size x < 4294967296) (or_tree c.args.value.now c.in-Or.members c.deref.result.now c.deref-in-Or.result.now c.in-Or.is c.deref.ensures c.deref-in-Or.ensures.value) c.requires.fits)

pub expression-bools-requires-in-And : goal.expression-bools-requires-in-And
expression-bools-requires-in-And t c = (
  search (rules, the_lemmas),
  subst (λ n. c.args.walk.now.at + n < 4294967296)
      (ap expr_size (and_tree c.args.value.now c.in-And.members c.deref-in-And.result.now c.deref-in-And-2.result.now c.in-And.is c.deref-in-And.ensures c.deref-in-And-2.ensures.value) ∙ and_size (expr_list c.deref-in-And-2.result.now)) c.requires.fits,
)

pub expression-expression-held-requires : goal.expression-expression-held-requires
expression-expression-held-requires t c =
    (search (rules, the_lemmas), omega (arith, bracket_size (expr_tree c.deref-in-Bracket.result.now), ap expr_size (bracket_tree c.args.value.now c.deref-in-Bracket.result.now c.in-Bracket.inner c.in-Bracket.is c.deref-in-Bracket.ensures)))

pub expression-skip-requires-in-Bracket-2 : goal.expression-skip-requires-in-Bracket-2
expression-skip-requires-in-Bracket-2 t c =
    omega (arith, bracket_size (expr_tree c.deref-in-Bracket.result.now), ap expr_size (bracket_tree c.args.value.now c.deref-in-Bracket.result.now c.in-Bracket.inner c.in-Bracket.is c.deref-in-Bracket.ensures))

pub expression-returns-in-Or-clause-at : goal.expression-returns-in-Or-clause-at
expression-returns-in-Or-clause-at t c = arm_at _ _ (or_tree c.args.value.now c.in-Or.members c.deref.result.now c.deref-in-Or.result.now c.in-Or.is c.deref.ensures c.deref-in-Or.ensures.value) _ _ c.bools.ensures.at

pub expression-returns-in-Or-clause-first : goal.expression-returns-in-Or-clause-first
expression-returns-in-Or-clause-first t c = arm_first _ _ (or_tree c.args.value.now c.in-Or.members c.deref.result.now c.deref-in-Or.result.now c.in-Or.is c.deref.ensures c.deref-in-Or.ensures.value) (scope_of c.args.scope.now) _ _ _ c.bools.ensures.first

pub expression-returns-in-Or-clause-held : goal.expression-returns-in-Or-clause-held
expression-returns-in-Or-clause-held t c =
    arm_held _ _ (or_tree c.args.value.now c.in-Or.members c.deref.result.now c.deref-in-Or.result.now c.in-Or.is c.deref.ensures c.deref-in-Or.ensures.value) (scope_of c.args.scope.now) c.args.walk.now.at Bool c.bools.result _ refl c.bools.ensures.clean c.shown.ensures

pub expression-returns-in-And-clause-at : goal.expression-returns-in-And-clause-at
expression-returns-in-And-clause-at t c =
    arm_at _ _ (and_tree c.args.value.now c.in-And.members c.deref-in-And.result.now c.deref-in-And-2.result.now c.in-And.is c.deref-in-And.ensures c.deref-in-And-2.ensures.value) _ _
    (c.bools-in-And.ensures.at ∙ ap (λ n. c.args.walk.now.at + n) (sym (and_size (expr_list c.deref-in-And-2.result.now))))

pub expression-returns-in-And-clause-first : goal.expression-returns-in-And-clause-first
expression-returns-in-And-clause-first t c = arm_first _ _ (and_tree c.args.value.now c.in-And.members c.deref-in-And.result.now c.deref-in-And-2.result.now c.in-And.is c.deref-in-And.ensures c.deref-in-And-2.ensures.value) (scope_of c.args.scope.now) _ _ _ c.bools-in-And.ensures.first

pub expression-returns-in-And-clause-held : goal.expression-returns-in-And-clause-held
expression-returns-in-And-clause-held t c =
    arm_held _ _ (and_tree c.args.value.now c.in-And.members c.deref-in-And.result.now c.deref-in-And-2.result.now c.in-And.is c.deref-in-And.ensures c.deref-in-And-2.ensures.value) (scope_of c.args.scope.now) c.args.walk.now.at Bool c.bools-in-And.result _ refl
    c.bools-in-And.ensures.clean c.shown-in-And.ensures

pub expression-returns-in-Bracket-clause-at : goal.expression-returns-in-Bracket-clause-at
expression-returns-in-Bracket-clause-at t c =
    omega (arith, bracket_size (expr_tree c.deref-in-Bracket.result.now), ap expr_size (bracket_tree c.args.value.now c.deref-in-Bracket.result.now c.in-Bracket.inner c.in-Bracket.is c.deref-in-Bracket.ensures))

pub member-operand-is_int-requires : goal.member-operand-is_int-requires
member-operand-is_int-requires t c = (search rules, omega (arith, member_size c.args.name.now (expr_tree c.args.index.now)))

pub member-skip-requires-2 : goal.member-skip-requires-2
member-skip-requires-2 t c = omega (arith, member_size c.args.name.now (expr_tree c.args.index.now))

pub member-returns-clause-at : goal.member-returns-clause-at
member-returns-clause-at t c = omega (arith, member_size c.args.name.now (expr_tree c.args.index.now))

pub member-returns-clause-first : goal.member-returns-clause-first
member-returns-clause-first t c =
    c.skip-2.ensures.first
    ∙ member_first (scope_of c.args.scope.now) c.args.walk.now.at c.args.name.now (expr_tree c.args.index.now) c.skip.new.self.at c.args.walk.now.first c.variable-held.new.walk.first c.demand-is_row.new.self.first c.operand-is_int.new.walk.first
    c.variable-held.result (omega arith) c.variable-held.ensures.held c.variable-held.ensures.first (cc c.demand-is_row.ensures.first)
    (c.operand-is_int.ensures.first ∙ ap (λ o. first_with o (value_faults (wants 14 Int) (scope_of c.args.scope.now) c.skip.new.self.at (expr_tree c.args.index.now))) c.skip.ensures.first)

pub operand-returns-clause-clean : goal.operand-returns-clause-clean
operand-returns-clause-clean t c =
    c.both.ensures ∙ operand_clean (scope_of c.args.scope.now) c.args.walk.now.at (expr_tree c.args.value.now) c.args.rule c.args.wanted c.expression-held.result c.is_some.result c.demand-holds.result c.expression-held.ensures.held c.is_some.ensures (cc)

pub sums-loop-member-preserved : goal.sums-loop-member-preserved
sums-loop-member-preserved t c =
    let s = scope_of c.args.scope.now in
    let i = c.loop-member.member-index in
    let m = c.member-item.result in
    let here = value_faults (wants 9 Int) s c.skip.new.self.at (expr_tree m.1) in
    let left = sum_faults s c.operand-next.new.walk.at (sum_list (drop (i + 1) c.args.members.now)) in
    let split = sum-split s i c.loop-member.walk.at c.args.members.now m c.skip.new.self.at c.operand-next.new.walk.at c.loop-member-test.true c.member-item.is c.skip.ensures.at c.operand-next.ensures.at in
    record {
      at = omega (arith, c.loop-member.invariant.at, next_sum s i 0 c.args.members.now m c.loop-member-test.true c.member-item.is);
      first = left_first c.loop-member.walk.first c.operand-next.new.walk.first _ _ here left split (c.operand-next.ensures.first ∙ ap (λ o. first_with o here) c.skip.ensures.first) c.loop-member.invariant.first;
      clean = left_clean c.loop-member.clean c.both-clean.result c.operand-next.result _ _ here left split c.operand-next.ensures.clean c.both-clean.ensures c.loop-member.invariant.clean;
    }

pub terms-loop-member-preserved : goal.terms-loop-member-preserved
terms-loop-member-preserved t c =
    let s = scope_of c.args.scope.now in
    let i = c.loop-member.member-index in
    let m = c.member-item.result in
    let here = value_faults (wants 9 Int) s c.skip.new.self.at (expr_tree m.1) in
    let left = term_faults s c.operand-next.new.walk.at (term_list (drop (i + 1) c.args.members.now)) in
    let split = term-split s i c.loop-member.walk.at c.args.members.now m c.skip.new.self.at c.operand-next.new.walk.at c.loop-member-test.true c.member-item.is c.skip.ensures.at c.operand-next.ensures.at in
    record {
      at = omega (arith, c.loop-member.invariant.at, next_term s i 0 c.args.members.now m c.loop-member-test.true c.member-item.is);
      first = left_first c.loop-member.walk.first c.operand-next.new.walk.first _ _ here left split (c.operand-next.ensures.first ∙ ap (λ o. first_with o here) c.skip.ensures.first) c.loop-member.invariant.first;
      clean = left_clean c.loop-member.clean c.both-clean.result c.operand-next.result _ _ here left split c.operand-next.ensures.clean c.both-clean.ensures c.loop-member.invariant.clean;
    }

pub sums-returns-clause-first : goal.sums-returns-clause-first
sums-returns-clause-first t c =
    end_first c.loop-member.walk.first _ _ (none_left (λ xs. sum_faults (scope_of c.args.scope.now) c.loop-member.walk.at (sum_list xs)) c.args.members.now c.loop-member.member-index c.loop-member-test.false) c.loop-member.invariant.first

pub terms-returns-clause-first : goal.terms-returns-clause-first
terms-returns-clause-first t c =
    end_first c.loop-member.walk.first _ _ (none_left (λ xs. term_faults (scope_of c.args.scope.now) c.loop-member.walk.at (term_list xs)) c.args.members.now c.loop-member.member-index c.loop-member-test.false) c.loop-member.invariant.first

pub number_behind-returns-clause-first : goal.number_behind-returns-clause-first
number_behind-returns-clause-first t c =
    c.operand-next.ensures.first ∙ (λ i. first_with (c.skip.ensures.first i) (value_faults operand_is_int (scope_of c.args.scope.now) (c.skip.ensures.at i) (expr_tree c.args.member.now)))

pub number_behind-returns-clause-clean : goal.number_behind-returns-clause-clean
number_behind-returns-clause-clean t c =
    c.both.ensures ∙ ap (λ b. c.args.clean && b) (c.operand-next.ensures.clean ∙ ap (λ n. is_clean (value_faults operand_is_int (scope_of c.args.scope.now) n (expr_tree c.args.member.now))) c.skip.ensures.at)

pub expression-number_behind-both_clean-requires : goal.expression-number_behind-both_clean-requires
expression-number_behind-both_clean-requires t c =
    (search (rules, the_lemmas), omega (arith, two_summed c.args.value.now c.deref-in-Sum.result.now c.deref-in-Sum-2.result.now c.in-Sum.first c.in-Sum.second c.deref-in-Sum.ensures c.deref-in-Sum-2.ensures c.in-Sum.is))

pub expression-returns-in-Sum-clause-at : goal.expression-returns-in-Sum-clause-at
expression-returns-in-Sum-clause-at t c = omega (arith, two_summed c.args.value.now c.deref-in-Sum.result.now c.deref-in-Sum-2.result.now c.in-Sum.first c.in-Sum.second c.deref-in-Sum.ensures c.deref-in-Sum-2.ensures c.in-Sum.is)

pub expression-returns-in-Sum-clause-first : goal.expression-returns-in-Sum-clause-first
expression-returns-in-Sum-clause-first t c =
    let s = scope_of c.args.scope.now in
    let a = c.args.walk.now.at in
    let b = c.operand-clean.new.walk.at in
    joined c.args.walk.now.first c.operand-clean.new.walk.first c.number_behind-both_clean.new.walk.first (value_faults operand_is_int s a (expr_tree c.deref-in-Sum.result.now)) (value_faults operand_is_int s (b + 1) (expr_tree c.deref-in-Sum-2.result.now)) c.operand-clean.ensures.first
    c.number_behind-both_clean.ensures.first
    ∙ ap (first_with c.args.walk.now.first) (sum_pair_faults c.args.value.now c.deref-in-Sum.result.now c.deref-in-Sum-2.result.now c.in-Sum.first c.in-Sum.second c.deref-in-Sum.ensures c.deref-in-Sum-2.ensures s a b c.operand-clean.ensures.at c.in-Sum.is)

pub expression-returns-in-Sum-clause-held : goal.expression-returns-in-Sum-clause-held
expression-returns-in-Sum-clause-held t c =
    let s = scope_of c.args.scope.now in
    let a = c.args.walk.now.at in
    let b = c.operand-clean.new.walk.at in
    let tree = sum_tree c.args.value.now c.deref-in-Sum.result.now c.deref-in-Sum-2.result.now c.in-Sum.first c.in-Sum.second c.deref-in-Sum.ensures c.deref-in-Sum-2.ensures c.in-Sum.is in
    let faults = sum_pair_faults c.args.value.now c.deref-in-Sum.result.now c.deref-in-Sum-2.result.now c.in-Sum.first c.in-Sum.second c.deref-in-Sum.ensures c.deref-in-Sum-2.ensures s a b c.operand-clean.ensures.at c.in-Sum.is ∙ ap (expr_faults s a) tree in
    let clean = c.number_behind-both_clean.ensures.clean ∙ joined_clean c.operand-clean.result _ (value_faults operand_is_int s a (expr_tree c.deref-in-Sum.result.now)) (value_faults operand_is_int s (b + 1) (expr_tree c.deref-in-Sum-2.result.now)) c.operand-clean.ensures.clean refl in
    arm_held _ _ tree s a Int c.number_behind-both_clean.result _ refl (clean ∙ ap is_clean faults) c.shown-in-Sum.ensures

pub expression-number_behind-both_clean-requires-in-Term : goal.expression-number_behind-both_clean-requires-in-Term
expression-number_behind-both_clean-requires-in-Term t c =
    (search (rules, the_lemmas), omega (arith, two_joined c.args.value.now c.deref-in-Term.result.now c.deref-in-Term-2.result.now c.in-Term.first c.in-Term.second c.deref-in-Term.ensures c.deref-in-Term-2.ensures c.in-Term.is))

pub expression-returns-in-Term-clause-at : goal.expression-returns-in-Term-clause-at
expression-returns-in-Term-clause-at t c = omega (arith, two_joined c.args.value.now c.deref-in-Term.result.now c.deref-in-Term-2.result.now c.in-Term.first c.in-Term.second c.deref-in-Term.ensures c.deref-in-Term-2.ensures c.in-Term.is)

pub expression-returns-in-Term-clause-first : goal.expression-returns-in-Term-clause-first
expression-returns-in-Term-clause-first t c =
    let s = scope_of c.args.scope.now in
    let a = c.args.walk.now.at in
    let b = c.operand-clean-in-Term.new.walk.at in
    joined c.args.walk.now.first c.operand-clean-in-Term.new.walk.first c.number_behind-both_clean-in-Term.new.walk.first (value_faults operand_is_int s a (expr_tree c.deref-in-Term.result.now)) (value_faults operand_is_int s (b + 1) (expr_tree c.deref-in-Term-2.result.now))
    c.operand-clean-in-Term.ensures.first c.number_behind-both_clean-in-Term.ensures.first
    ∙ ap (first_with c.args.walk.now.first) (term_pair_faults c.args.value.now c.deref-in-Term.result.now c.deref-in-Term-2.result.now c.in-Term.first c.in-Term.second c.deref-in-Term.ensures c.deref-in-Term-2.ensures s a b c.operand-clean-in-Term.ensures.at c.in-Term.is)

pub expression-returns-in-Term-clause-held : goal.expression-returns-in-Term-clause-held
expression-returns-in-Term-clause-held t c =
    let s = scope_of c.args.scope.now in
    let a = c.args.walk.now.at in
    let b = c.operand-clean-in-Term.new.walk.at in
    let tree = term_tree c.args.value.now c.deref-in-Term.result.now c.deref-in-Term-2.result.now c.in-Term.first c.in-Term.second c.deref-in-Term.ensures c.deref-in-Term-2.ensures c.in-Term.is in
    let faults = term_pair_faults c.args.value.now c.deref-in-Term.result.now c.deref-in-Term-2.result.now c.in-Term.first c.in-Term.second c.deref-in-Term.ensures c.deref-in-Term-2.ensures s a b c.operand-clean-in-Term.ensures.at c.in-Term.is ∙ ap (expr_faults s a) tree in
    let clean = c.number_behind-both_clean-in-Term.ensures.clean ∙ joined_clean c.operand-clean-in-Term.result _ (value_faults operand_is_int s a (expr_tree c.deref-in-Term.result.now)) (value_faults operand_is_int s (b + 1) (expr_tree c.deref-in-Term-2.result.now))
    c.operand-clean-in-Term.ensures.clean refl in
    arm_held _ _ tree s a Int c.number_behind-both_clean-in-Term.result _ refl (clean ∙ ap is_clean faults) c.shown-in-Term.ensures

pub expression-sums-others-requires : goal.expression-sums-others-requires
expression-sums-others-requires t c =
    let size = ap expr_size (sums_tree c.args.value.now c.deref-in-Sums.result.now c.in-Sums.first c.in-Sums.rest c.deref-in-Sums-2.result.now c.deref-in-Sums-3.result.now c.in-Sums.is c.deref-in-Sums.ensures c.deref-in-Sums-2.ensures c.deref-in-Sums-3.ensures.value) in
    (search (rules, the_lemmas), omega (arith, sum_size (expr_tree c.deref-in-Sums.result.now) (sum_list c.deref-in-Sums-3.result.now), size))

pub expression-returns-in-Sums-clause-at : goal.expression-returns-in-Sums-clause-at
expression-returns-in-Sums-clause-at t c =
    omega (
      arith,
      sum_size (expr_tree c.deref-in-Sums.result.now) (sum_list c.deref-in-Sums-3.result.now),
      ap expr_size (sums_tree c.args.value.now c.deref-in-Sums.result.now c.in-Sums.first c.in-Sums.rest c.deref-in-Sums-2.result.now c.deref-in-Sums-3.result.now c.in-Sums.is c.deref-in-Sums.ensures c.deref-in-Sums-2.ensures c.deref-in-Sums-3.ensures.value),
    )

pub expression-returns-in-Sums-clause-first : goal.expression-returns-in-Sums-clause-first
expression-returns-in-Sums-clause-first t c =
    arm_first _ _ (sums_tree c.args.value.now c.deref-in-Sums.result.now c.in-Sums.first c.in-Sums.rest c.deref-in-Sums-2.result.now c.deref-in-Sums-3.result.now c.in-Sums.is c.deref-in-Sums.ensures c.deref-in-Sums-2.ensures c.deref-in-Sums-3.ensures.value) (scope_of c.args.scope.now)
    c.args.walk.now.at _ _
    (sum_first (scope_of c.args.scope.now) c.args.walk.now.at (expr_tree c.deref-in-Sums.result.now)
    (sum_list c.deref-in-Sums-3.result.now) c.operand-clean-in-Sums.new.walk.at c.args.walk.now.first c.operand-clean-in-Sums.new.walk.first c.sums-others.new.walk.first c.operand-clean-in-Sums.ensures.at c.operand-clean-in-Sums.ensures.first c.sums-others.ensures.first)

pub expression-returns-in-Sums-clause-held : goal.expression-returns-in-Sums-clause-held
expression-returns-in-Sums-clause-held t c =
    arm_held _ _ (sums_tree c.args.value.now c.deref-in-Sums.result.now c.in-Sums.first c.in-Sums.rest c.deref-in-Sums-2.result.now c.deref-in-Sums-3.result.now c.in-Sums.is c.deref-in-Sums.ensures c.deref-in-Sums-2.ensures c.deref-in-Sums-3.ensures.value) (scope_of c.args.scope.now)
    c.args.walk.now.at Int c.both-in-Sums.result _ refl
    (c.both-in-Sums.ensures ∙ sum_clean (scope_of c.args.scope.now) c.args.walk.now.at (expr_tree c.deref-in-Sums.result.now)
    (sum_list c.deref-in-Sums-3.result.now) c.operand-clean-in-Sums.new.walk.at c.operand-clean-in-Sums.result c.sums-others.result c.operand-clean-in-Sums.ensures.at c.operand-clean-in-Sums.ensures.clean c.sums-others.ensures.clean) c.shown-in-Sums.ensures

pub expression-terms-others-requires : goal.expression-terms-others-requires
expression-terms-others-requires t c =
    let size = ap expr_size (terms_tree c.args.value.now c.deref-in-Terms.result.now c.in-Terms.first c.in-Terms.rest c.deref-in-Terms-2.result.now c.deref-in-Terms-3.result.now c.in-Terms.is c.deref-in-Terms.ensures c.deref-in-Terms-2.ensures c.deref-in-Terms-3.ensures.value) in
    (search (rules, the_lemmas), omega (arith, term_size (expr_tree c.deref-in-Terms.result.now) (term_list c.deref-in-Terms-3.result.now), size))

pub expression-returns-in-Terms-clause-at : goal.expression-returns-in-Terms-clause-at
expression-returns-in-Terms-clause-at t c =
    omega (
      arith,
      term_size (expr_tree c.deref-in-Terms.result.now) (term_list c.deref-in-Terms-3.result.now),
      ap expr_size (terms_tree c.args.value.now c.deref-in-Terms.result.now c.in-Terms.first c.in-Terms.rest c.deref-in-Terms-2.result.now c.deref-in-Terms-3.result.now c.in-Terms.is c.deref-in-Terms.ensures c.deref-in-Terms-2.ensures c.deref-in-Terms-3.ensures.value),
    )

pub expression-returns-in-Terms-clause-first : goal.expression-returns-in-Terms-clause-first
expression-returns-in-Terms-clause-first t c =
    arm_first _ _ (terms_tree c.args.value.now c.deref-in-Terms.result.now c.in-Terms.first c.in-Terms.rest c.deref-in-Terms-2.result.now c.deref-in-Terms-3.result.now c.in-Terms.is c.deref-in-Terms.ensures c.deref-in-Terms-2.ensures c.deref-in-Terms-3.ensures.value)
    (scope_of c.args.scope.now) c.args.walk.now.at _ _
    (term_first (scope_of c.args.scope.now) c.args.walk.now.at (expr_tree c.deref-in-Terms.result.now)
    (term_list c.deref-in-Terms-3.result.now) c.operand-clean-in-Terms.new.walk.at c.args.walk.now.first c.operand-clean-in-Terms.new.walk.first c.terms-others.new.walk.first c.operand-clean-in-Terms.ensures.at c.operand-clean-in-Terms.ensures.first c.terms-others.ensures.first)

pub expression-returns-in-Terms-clause-held : goal.expression-returns-in-Terms-clause-held
expression-returns-in-Terms-clause-held t c =
    arm_held _ _ (terms_tree c.args.value.now c.deref-in-Terms.result.now c.in-Terms.first c.in-Terms.rest c.deref-in-Terms-2.result.now c.deref-in-Terms-3.result.now c.in-Terms.is c.deref-in-Terms.ensures c.deref-in-Terms-2.ensures c.deref-in-Terms-3.ensures.value)
    (scope_of c.args.scope.now) c.args.walk.now.at Int c.both-in-Terms.result _ refl
    (c.both-in-Terms.ensures ∙ term_clean (scope_of c.args.scope.now) c.args.walk.now.at (expr_tree c.deref-in-Terms.result.now)
    (term_list c.deref-in-Terms-3.result.now) c.operand-clean-in-Terms.new.walk.at c.operand-clean-in-Terms.result c.terms-others.result c.operand-clean-in-Terms.ensures.at c.operand-clean-in-Terms.ensures.clean c.terms-others.ensures.clean) c.shown-in-Terms.ensures

pub expression-returns-in-Relation-clause-first : goal.expression-returns-in-Relation-clause-first
expression-returns-in-Relation-clause-first t c =
    arm_first _ _ (relation_tree c.args.value.now c.deref-in-Relation.result.now c.deref-in-Relation-2.result.now c.in-Relation.sign c.in-Relation.first c.in-Relation.second c.in-Relation.is c.deref-in-Relation.ensures c.deref-in-Relation-2.ensures) (scope_of c.args.scope.now) c.args.walk.now.at _ _
    (relation_first (scope_of c.args.scope.now) c.args.walk.now.at (expr_tree c.deref-in-Relation.result.now) (expr_tree c.deref-in-Relation-2.result.now) c.in-Relation.sign c.skip.new.self.at
    (omega arith) c.expression-first.result c.expression-second.result c.expression-first.ensures.held c.expression-second.ensures.held
    c.args.walk.now.first c.expression-first.new.walk.first c.expression-second.new.walk.first c.compare-holds.new.walk.first c.expression-first.ensures.first
    (c.expression-second.ensures.first ∙ ap (λ o. first_with o (expr_faults (scope_of c.args.scope.now) c.skip.new.self.at (expr_tree c.deref-in-Relation-2.result.now))) c.skip.ensures.first) (cc c.compare-holds.ensures.first))

pub expression-returns-in-Relation-clause-held : goal.expression-returns-in-Relation-clause-held
expression-returns-in-Relation-clause-held t c =
    arm_held _ _ (relation_tree c.args.value.now c.deref-in-Relation.result.now c.deref-in-Relation-2.result.now c.in-Relation.sign c.in-Relation.first c.in-Relation.second c.in-Relation.is c.deref-in-Relation.ensures c.deref-in-Relation-2.ensures)
    (scope_of c.args.scope.now) c.args.walk.now.at Bool c.both.result _ refl
    (c.both.ensures ∙ ap (λ b. b && c.compare-holds.result) c.both-clean.ensures ∙ relation_clean (scope_of c.args.scope.now) c.args.walk.now.at (expr_tree c.deref-in-Relation.result.now) (expr_tree c.deref-in-Relation-2.result.now) c.in-Relation.sign c.skip.new.self.at
    (omega arith) c.expression-first.result c.expression-second.result c.expression-first.ensures.held c.expression-second.ensures.held
    c.is_some.result c.is_some-in-Relation.result c.compare-holds.result c.is_some.ensures c.is_some-in-Relation.ensures (cc c.compare-holds.ensures.clean)) c.shown-in-Relation.ensures
