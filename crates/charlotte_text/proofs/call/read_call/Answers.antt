use Rattle.std.proofs.Common.{option_copied}
use Rattle.charlotte_text.proofs.Clauses.{call_found, call_fits, call_only}
use Rattle.charlotte_text.proofs.call.read_call.Goals as goal

pub returns-clause-found : goal.returns-clause-found
returns-clause-found c = call_found c.args.version (option_copied c.args.words) c.parse_call.result c.parse_call.ensures

pub returns-clause-fits : goal.returns-clause-fits
returns-clause-fits c = call_fits c.args.version (option_copied c.args.words) c.parse_call.result c.parse_call.ensures

pub returns-clause-only : goal.returns-clause-only
returns-clause-only c = λ x fits s. call_only c.args.version (option_copied c.args.words) c.parse_call.result x c.parse_call.ensures fits s
