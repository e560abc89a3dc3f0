use Rattle.std.proofs.Common.{List, sym, subst}
use Rattle.lynx_lexer.specs.declared.token.Token.{Token}
use Rattle.lynx_tree.specs.Answers.{kinds}
use Rattle.lynx_tree.specs.Faults.{LeavesGrammar, IsTooDeep, IsNowhereTooDeep}
use Rattle.lynx_parser.proofs.parsing.parse.Goals as goal

pub returns-in-Ok-clause-only_fault : goal.returns-in-Ok-clause-only_fault
returns-in-Ok-clause-only_fault c at leaves nowhere =
    c.parse_lexemes.ensures.only_fault at (subst (λ (ts : List Token). LeavesGrammar at (kinds ts)) (sym c.in-Ok.ensures) leaves)
    (subst (λ (ts : List Token). IsNowhereTooDeep (kinds ts)) (sym c.in-Ok.ensures) nowhere)

pub returns-in-Ok-clause-only_too_deep : goal.returns-in-Ok-clause-only_too_deep
returns-in-Ok-clause-only_too_deep c at deep = c.parse_lexemes.ensures.only_too_deep at (subst (λ (ts : List Token). IsTooDeep at (kinds ts)) (sym c.in-Ok.ensures) deep)
