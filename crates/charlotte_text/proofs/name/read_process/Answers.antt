use Rattle.std.proofs.Common.{sym, ap, ◌∙◌}
use Rattle.charlotte_text.specs.Reading.{process_of}
use Rattle.charlotte_text.proofs.Names.{process_takes, process_again}
use Rattle.charlotte_text.proofs.name.read_process.Goals as goal

pub returns-clause-found : goal.returns-clause-found
returns-clause-found c = λ p e. (process_takes c.args.word.now p.0 (sym c.parse_process.ensures ∙ e)).0

pub returns-clause-only : goal.returns-clause-only
returns-clause-only c = λ p lt s. c.parse_process.ensures ∙ ap process_of s ∙ process_again p.0 lt
