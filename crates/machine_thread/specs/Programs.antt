-- The code of a module, as the meaning of code has it.
use Rattle.lynx_code.specs.declared.code.Code.{Code}
use Rattle.lynx_meaning.specs.Code.{Program}
use Rattle.code_shapes.specs.Shapes.{code_types, program}

abbrev pub program_of : Code → Program
program_of code = program (code_types code) code.instructions.items
