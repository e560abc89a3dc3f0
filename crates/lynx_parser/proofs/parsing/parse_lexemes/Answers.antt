use Rattle.std.proofs.Common.{List, subst, arith}
use Rattle.std.specs.List.{AllByRecursion}
use Rattle.lynx_lexer.specs.declared.token.Kind.{Kind}
use Rattle.lynx_tree.specs.Answers.{kinds, IsTreeOf}
use Rattle.lynx_tree.specs.Grammar.{kinds_of}
use Rattle.lynx_tree.specs.Printing.{IsPrintable}
use Rattle.lynx_tree.specs.Trees.{module_tree}
use Rattle.lynx_grammar.proofs.Exact.{gives_fault, gives_too_deep}
use Rattle.lynx_parser.proofs.Lengths.{tokens_fit}
use Rattle.lynx_parser.proofs.Printable.{tokens_printable, ok_then}
use Rattle.lynx_parser.proofs.parsing.parse_lexemes.Goals as goal

pub read-requires : goal.read-requires
read-requires c = omega (arith, tokens_fit c.args.tokens.now c.args.source.now c.requires.spell)

pub returns-clause-printable : goal.returns-clause-printable
returns-clause-printable c =
    let all = tokens_printable c.args.tokens.now c.args.source.now c.requires.spell c.requires.limits in
    ok_then c.read.result (λ m. IsTreeOf (kinds c.args.tokens.now) (module_tree m)) (λ m. AllByRecursion IsPrintable (kinds_of (module_tree m))) c.read.ensures.found
    (λ m h. subst (λ (ks : List Kind). AllByRecursion IsPrintable ks) h.0.1 all)

pub returns-clause-only_fault : goal.returns-clause-only_fault
returns-clause-only_fault c at leaves nowhere = gives_fault (kinds c.args.tokens.now) at c.read.result c.read.ensures.found c.read.ensures.fault leaves nowhere

pub returns-clause-only_too_deep : goal.returns-clause-only_too_deep
returns-clause-only_too_deep c at deep = gives_too_deep (kinds c.args.tokens.now) at c.read.result c.read.ensures.found c.read.ensures.fault deep
