use Rattle.std.proofs.Common.{ap, ◌∙◌}
use Rattle.charlotte_text.specs.Reading.{way_of}
use Rattle.charlotte_text.proofs.Calls.{way_again}
use Rattle.charlotte_text.proofs.Clauses.{way_found}
use Rattle.charlotte_text.proofs.call.read_way.Goals as goal

pub returns-clause-found : goal.returns-clause-found
returns-clause-found c = way_found c.args.word.now c.parse_way.result c.parse_way.ensures

pub returns-clause-only : goal.returns-clause-only
returns-clause-only c = λ way s. c.parse_way.ensures ∙ ap way_of s ∙ way_again way
