use Rattle.compiler_emission.proofs.Arms.{on_links}
use Rattle.compiler_emission.proofs.emit_statement.emit_action.Goals as goal

pub emit_link-requires-clause-links : goal.emit_link-requires-clause-links
emit_link-requires-clause-links c = on_links c.args.stmt.now c.requires.alone c.in_default.not-Assign c.in_default.not-Write c.in_default.not-Await c.in_default.not-Stop c.in_default.not-Raise
