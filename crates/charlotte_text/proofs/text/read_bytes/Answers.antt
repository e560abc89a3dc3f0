use Rattle.std.proofs.Common.{sym, ap, ◌∙◌}
use Rattle.charlotte_text.specs.Reading.{bytes_of}
use Rattle.charlotte_text.proofs.Texts.{bytes_long, bytes_again}
use Rattle.charlotte_text.proofs.Clauses.{bytes_found}
use Rattle.charlotte_text.proofs.text.read_bytes.Goals as goal

pub returns-clause-found : goal.returns-clause-found
returns-clause-found c = bytes_found c.args.word.now c.parse_bytes.result c.parse_bytes.ensures

pub returns-clause-long : goal.returns-clause-long
returns-clause-long c = λ e. let h = bytes_long c.args.word.now (sym c.parse_bytes.ensures ∙ e) in (h.0, h.2, h.1.text)

pub returns-clause-only : goal.returns-clause-only
returns-clause-only c = λ bs fits s. c.parse_bytes.ensures ∙ ap bytes_of s ∙ bytes_again bs fits
