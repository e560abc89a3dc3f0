use Rattle.std.proofs.Common.{◌≡◌, ◌++◌, ◌-◌, length, drop}
use Rattle.lynx_code.specs.Generation.{stores}
use Rattle.compiler_emission.specs.Tables.{names_in}
use Rattle.compiler_emission.proofs.emit_statement.emit_stores.Given as goal

-- the last names are done
abbrev pub invariant-loop-done : goal.invariant-loop-done
invariant-loop-done l = l.code.items ≡ l.fn.code.items ++ stores (names_in l.names) (drop (length l.list - l.done) l.list)
