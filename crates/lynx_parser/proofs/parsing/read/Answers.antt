use Rattle.std.proofs.Common.{◌≡◌, ℕ, ◌-◌, Err, sym, ap, ◌∙◌, rules}
use Rattle.lynx_tree.specs.Answers.{kinds}
use Rattle.lynx_tree.specs.Faults.{most_open}
use Rattle.lynx_descent.specs.ReadingModules.{whole}
use Rattle.lynx_tree.specs.Trees.{module_tree}
use Rattle.lynx_descent.specs.declared.refusal.Refusal.TheVariants as refusals
use Rattle.lynx_grammar.proofs.Laws.{read_is, never_refused}
use Rattle.lynx_grammar.proofs.Answered.{found, deep_at}
use Rattle.lynx_grammar.proofs.Exact.{left_at}
use Rattle.lynx_parser.proofs.parsing.read.Goals as goal

pub returns-in-Ok-clause-found : goal.returns-in-Ok-clause-found
returns-in-Ok-clause-found c = found (kinds c.args.tokens.now) c.whole.new.self (module_tree c.in-Ok.found) (ap (whole most_open) (sym c.new-reader.ensures) ∙ c.in-Ok.ensures)

pub returns-in-Err-At-clause-fault : goal.returns-in-Err-At-clause-fault
returns-in-Err-At-clause-fault c =
    let h : whole most_open (kinds c.args.tokens.now) ≡ Err (refusals.At c.in-Err-At.left) = search rules in
    left_at c.args.tokens.now c.in-Err-At.left _ (c.place.ensures ∙ ap (λ (n : ℕ). n - c.in-Err-At.left) c.len.ensures) h

pub returns-in-Err-TooDeep-clause-fault : goal.returns-in-Err-TooDeep-clause-fault
returns-in-Err-TooDeep-clause-fault c =
    let h : whole most_open (kinds c.args.tokens.now) ≡ Err (refusals.TooDeep c.in-Err-TooDeep.left) = search rules in
    deep_at c.args.tokens.now c.in-Err-TooDeep.left _ (c.place-in-Err-TooDeep.ensures ∙ ap (λ (n : ℕ). n - c.in-Err-TooDeep.left) c.len-in-Err-TooDeep.ensures) h

pub returns-in-Ok-clause-only : goal.returns-in-Ok-clause-only
returns-in-Ok-clause-only c m is = read_is (kinds c.args.tokens.now) c.whole.new.self m (module_tree c.in-Ok.found) is (ap (whole most_open) (sym c.new-reader.ensures) ∙ c.in-Ok.ensures)

pub returns-in-Err-At-clause-only : goal.returns-in-Err-At-clause-only
returns-in-Err-At-clause-only c m is =
    let h : whole most_open (kinds c.args.tokens.now) ≡ Err (refusals.At c.in-Err-At.left) = search rules in
    never_refused (kinds c.args.tokens.now) m (refusals.At c.in-Err-At.left) is h

pub returns-in-Err-TooDeep-clause-only : goal.returns-in-Err-TooDeep-clause-only
returns-in-Err-TooDeep-clause-only c m is =
    let h : whole most_open (kinds c.args.tokens.now) ≡ Err (refusals.TooDeep c.in-Err-TooDeep.left) = search rules in
    never_refused (kinds c.args.tokens.now) m (refusals.TooDeep c.in-Err-TooDeep.left) is h
