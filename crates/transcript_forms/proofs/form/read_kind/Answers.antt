use Rattle.transcript_forms.proofs.Spelled.{line_found, line_fits, line_only}
use Rattle.transcript_forms.proofs.form.read_kind.Goals as goal

pub returns-clause-found : goal.returns-clause-found
returns-clause-found c = line_found c.args.version c.args.text.now c.parse_kind.result c.parse_kind.ensures

pub returns-clause-fits : goal.returns-clause-fits
returns-clause-fits c = line_fits c.args.version c.args.text.now c.parse_kind.result c.parse_kind.ensures

pub returns-clause-only : goal.returns-clause-only
returns-clause-only c = λ k is s. line_only c.args.version c.args.text.now c.parse_kind.result k c.parse_kind.ensures is s
