use Rattle.compiler_runnable.proofs.Whole.{law}
use Rattle.compiler_runnable.proofs.law.checked_code_is_runnable.Goals as goal

pub returns : goal.returns
returns c = law
