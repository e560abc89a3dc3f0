use Rattle.compiler_shapes.proofs.Whole.{law}
use Rattle.compiler_shapes.proofs.law.module_code_is_shaped.Goals as goal

pub returns : goal.returns
returns c = law
