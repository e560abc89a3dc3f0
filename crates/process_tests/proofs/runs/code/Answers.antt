use Rattle.compiler_runnable.proofs.Whole.{law}
use Rattle.process_tests.proofs.runs.code.Goals as goal

pub returns-in-Ok-compile : goal.returns-in-Ok-compile
returns-in-Ok-compile c = law c.in-Ok-compile.code c.in-Ok-compile.ensures.checked
