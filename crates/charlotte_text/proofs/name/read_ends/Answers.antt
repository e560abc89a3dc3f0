use Rattle.std.proofs.Common.{ap, ◌∙◌, option_copied}
use Rattle.charlotte_text.specs.Reading.{ends_of, rest_parts}
use Rattle.charlotte_text.proofs.Names.{ends_again}
use Rattle.charlotte_text.proofs.Clauses.{ends_found}
use Rattle.charlotte_text.proofs.name.read_ends.Goals as goal

pub returns-clause-found : goal.returns-clause-found
returns-clause-found c = ends_found c.args.most (rest_parts 32 (option_copied c.args.words)) c.parse_ends.result c.parse_ends.ensures

pub returns-clause-only : goal.returns-clause-only
returns-clause-only c = λ es fits le s. c.parse_ends.ensures ∙ ap (ends_of c.args.most) s ∙ ends_again c.args.most es fits le
