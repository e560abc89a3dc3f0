use Rattle.std.proofs.Common.{◌≡◌, drop}
use Rattle.transcript_expected.specs.Texts.{with_forms}
use Rattle.transcript_reader.specs.Lines.{seen}
use Rattle.transcript_expected.proofs.standing.add_forms.Given as goal

abbrev pub invariant-loop-form : goal.invariant-loop-form
invariant-loop-form l = with_forms (seen l.place) (drop l.form-index l.all) l.forms ≡ with_forms (seen l.place) l.all l.fn.forms
