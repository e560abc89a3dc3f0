use Rattle.compiler_source.proofs.Stages.{one_compilation}
use Rattle.compiler_source.proofs.law.one_compilation.Goals as goal

pub returns : goal.returns
returns c = one_compilation
