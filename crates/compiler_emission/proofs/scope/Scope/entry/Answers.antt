use Rattle.std.proofs.Common.{sym, ◌∙◌, arith}
use Rattle.compiler_emission.proofs.scope.Scope.entry.Goals as goal

-- each place has 16 bits
pub overflow_cast-result : goal.overflow_cast-result
overflow_cast-result c = omega (arith, c.args.self.now.tables.now.short c.args.name.now c.in-Some.place (sym c.look.ensures ∙ c.in-Some.is))
