use Rattle.std.proofs.Common.{◌+◌, ap, ◌∙◌, length, arith}
use Rattle.lynx_tree.specs.Grammar.{types_marks}
use Rattle.lynx_tree.specs.Trees.{op_tree}
use Rattle.typing_rules.specs.Meanings.{look}
use Rattle.typing_rules.specs.Modules.{types_faults}
use Rattle.typing_rules.specs.Names.{op_named}
use Rattle.typing_rules.specs.Progress.{first_with}
use Rattle.typing_rules.specs.Rules.{demand, op_has_few_links, op_fits_packets}
use Rattle.lynx_types.specs.News.{news_faults}
use Rattle.lynx_types.proofs.Declarations.{op_first}
use Rattle.lynx_types.proofs.declaration.op.Goals as goal

pub returns-clause-first : goal.returns-clause-first
returns-clause-first c =
    let a = c.args.walk.now.at in
    let op = op_tree c.args.op.now in
    let size = ap (λ ts. length (types_marks ts)) c.deref-3.ensures.value in
    c.skip-2.ensures.first
    ∙ op_first a (c.demand-2.new.self.at + 1) (c.skip.new.self.at + 1) op.arguments op.results c.args.walk.now.first c.declared.new.walk.first c.demand.new.self.first c.demand-2.new.self.first c.types.new.walk.first c.types-2.new.walk.first
    (news_faults 1 (look c.args.names.now) (op_named a op)) (op_has_few_links (a + 1) op) (op_fits_packets (a + 1) op)
    (omega (arith, c.in_ok-declared.ensures.at)) (omega (arith, c.in_ok-declared.ensures.at, size)) c.in_ok-declared.ensures.first
    (c.demand.ensures.first ∙ (λ j. first_with c.declared.new.walk.first (demand 5 (c.at-place.ensures j + 1) (c.has_few_links.ensures j))))
    (c.demand-2.ensures.first ∙ (λ j. first_with c.demand.new.self.first (demand 24 (c.at-place.ensures j + 1) (c.fits_packets.ensures j))))
    (c.types.ensures.first ∙ ap (λ ts. first_with c.demand-2.new.self.first (types_faults (c.demand-2.new.self.at + 1) ts)) c.deref-3.ensures.value)
    (c.types-2.ensures.first ∙ (λ j. first_with (c.skip.ensures.first j) (types_faults (c.skip.new.self.at + 1) (c.deref-4.ensures.value j))))
