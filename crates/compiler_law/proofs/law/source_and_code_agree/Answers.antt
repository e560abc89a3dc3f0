use Rattle.compiler_law.proofs.Whole.{law}
use Rattle.compiler_law.proofs.law.source_and_code_agree.Goals as goal

pub returns : goal.returns
returns c = law
