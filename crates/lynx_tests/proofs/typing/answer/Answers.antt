-- A tree has no more tokens than its source has bytes.
use Rattle.std.proofs.Common.{◌≡◌, ℕ, ◌<◌, List, length, arith, sym, ap, subst}
use Rattle.std.proofs.lemmas.List.{length-map}
use Rattle.lynx_lexer.specs.Source.{Spell}
use Rattle.lynx_lexer.specs.declared.token.Token.{Token}
use Rattle.lynx_parser.proofs.Lengths.{tokens_fit}
use Rattle.lynx_tree.specs.Answers.{kinds}
use Rattle.lynx_tree.specs.Grammar.{Mark, module_marks, kinds_of}
use Rattle.lynx_tree.specs.Trees.{ModuleTree, module_tree}
use Rattle.lynx_tests.proofs.typing.answer.Goals as goal

few-marks : (source : List ℕ) (tokens : List Token) (m : ModuleTree) → Spell tokens source → kinds tokens ≡ kinds_of m → length source < 4294967295 → length (module_marks m) < 4294967296
few-marks source tokens m s are fits = omega (arith, tokens_fit tokens source s, ap length are, length-map tokens (λ (t : Token). t.kind), length-map (module_marks m) (λ (t : Mark). t.kind))

pub check-requires-clause-fits : goal.check-requires-clause-fits
check-requires-clause-fits c =
    let m = module_tree c.in-Ok-parse.tree in
    let small : length c.as_bytes-source.result.now < 4294967295 = omega (arith, c.as_bytes-source.ensures.len, c.if-source-gt1000000.false) in
    let spelled = subst (λ (ts : List Token). Spell ts c.as_bytes-source.result.now) (sym c.deref.ensures.value) c.in-Ok.ensures.found.0 in
    few-marks c.as_bytes-source.result.now c.deref.result.now m spelled c.in-Ok-parse.ensures.found.0.1 small
