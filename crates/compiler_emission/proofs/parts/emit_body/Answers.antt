use Rattle.std.proofs.Common.{arith}
use Rattle.compiler_emission.specs.Tables.{names_in}
use Rattle.compiler_emission.proofs.Counts.{many_statements}
use Rattle.compiler_emission.proofs.parts.emit_body.Goals as goal

pub returns-then-body-ge-MOST-clause-long : goal.returns-then-body-ge-MOST-clause-long
returns-then-body-ge-MOST-clause-long c h = many_statements (names_in c.args.names.now) c.args.code.now.items c.args.body.now (omega arith)
