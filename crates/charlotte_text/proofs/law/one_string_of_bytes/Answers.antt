use Rattle.charlotte_text.proofs.Texts.{same_text}
use Rattle.charlotte_text.proofs.law.one_string_of_bytes.Goals as goal

pub returns : goal.returns
returns c = same_text
