use Rattle.std.proofs.Common.{ap, ◌∙◌}
use Rattle.charlotte_text.specs.Reading.{end_of}
use Rattle.charlotte_text.proofs.Names.{end_again}
use Rattle.charlotte_text.proofs.Clauses.{end_found}
use Rattle.charlotte_text.proofs.name.read_end.Goals as goal

pub returns-clause-found : goal.returns-clause-found
returns-clause-found c = end_found c.args.word.now c.parse_end.result c.parse_end.ensures

pub returns-clause-only : goal.returns-clause-only
returns-clause-only c = λ e fits s. c.parse_end.ensures ∙ ap end_of s ∙ end_again e fits
