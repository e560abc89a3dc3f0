use Rattle.lynx_lexer.proofs.law.one_list.Goals as goal
use Rattle.lynx_lexer.proofs.Cuts.{one_spelling}

pub returns : goal.returns
returns c = one_spelling
