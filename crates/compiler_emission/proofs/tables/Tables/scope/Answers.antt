use Rattle.compiler_emission.proofs.Scoping.{names_are}
use Rattle.compiler_emission.proofs.tables.Tables.scope.Goals as goal

pub returns : goal.returns
returns c m names tables locals = names_are m names c.args.self.now c.args.locals.now tables locals
