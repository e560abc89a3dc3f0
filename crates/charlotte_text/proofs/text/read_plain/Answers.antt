use Rattle.std.proofs.Common.{sym, ap, ◌∙◌}
use Rattle.charlotte_text.specs.Reading.{◌>>=◌, limited}
use Rattle.charlotte_text.proofs.Bytes.{decoded_plain, kept_whole}
use Rattle.charlotte_text.proofs.text.read_plain.Goals as goal

pub returns : goal.returns
returns c =
    c.ok_or.ensures.value ∙ kept_whole c.args.word.now c.from_slice.result c.from_slice.ensures.long c.from_slice.ensures.same
    ∙ sym (ap (λ r. r >>= limited) (decoded_plain c.args.word.now c.requires))
