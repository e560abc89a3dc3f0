use Rattle.std.proofs.Common.{sym, ap, ◌∙◌}
use Rattle.charlotte_text.specs.Reading.{number_of}
use Rattle.charlotte_text.proofs.Numbers.{number_takes, number_again}
use Rattle.charlotte_text.proofs.number.read_number.Goals as goal

pub returns-clause-found : goal.returns-clause-found
returns-clause-found c = λ n e. (number_takes c.args.word.now n (sym c.parse_number.ensures ∙ e)).0

pub returns-clause-only : goal.returns-clause-only
returns-clause-only c = λ n lt s. c.parse_number.ensures ∙ ap number_of s ∙ number_again n lt
