use Rattle.std.proofs.Common.{sym, ap, ◌∙◌}
use Rattle.std.proofs.lemmas.List.{append-nil}
use Rattle.typing_rules.specs.Progress.{first_with}
use Rattle.typing_rules.specs.Rules.{demand}
use Rattle.lynx_types.proofs.declaration.declared.Goals as goal

pub returns-clause-first : goal.returns-clause-first
returns-clause-first c =
    let rule = c.args.rule in
    c.skip-2.ensures.first ∙ c.demand.ensures.first
    ∙ (λ j. first_with (c.skip.ensures.first j) (demand rule ((c.at.ensures ∙ c.skip.ensures.at) j) (c.in_ok-new.ensures.new j)))
    ∙ ap (first_with c.args.walk.now.first) (sym (append-nil (demand rule _ _)))

pub returns-clause-names : goal.returns-clause-names
returns-clause-names c q = c.in_ok-new.ensures.means q
