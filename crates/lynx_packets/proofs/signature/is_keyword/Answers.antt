use Rattle.std.proofs.Common.{◌∙◌}
use Rattle.lynx_packets.proofs.Keywords.{keyword_told}
use Rattle.lynx_packets.proofs.signature.is_keyword.Goals as goal

pub returns : goal.returns
returns c = c.is_some.ensures ∙ keyword_told c.args.word.now c.from_slice.result c.from_slice.ensures.found c.from_slice.ensures.none
