use Rattle.std.proofs.Common.{ap, ◌∙◌}
use Rattle.lynx_lexer.specs.Slots.{slot_of, keyword_at}
use Rattle.lynx_lexer.proofs.WordLemmas.{found_at}
use Rattle.lynx_lexer.proofs.keyword.candidate.Goals as goal

pub returns : goal.returns
returns c keyword spelled = c.keyword_at.ensures ∙ ap keyword_at (c.slot.ensures.value ∙ ap slot_of spelled) ∙ found_at keyword
