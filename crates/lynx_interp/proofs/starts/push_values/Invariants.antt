use Rattle.std.proofs.Common.{◌≡◌, ◌++◌, length, reverse}
use Rattle.machine_values.specs.Told.{values_of}
use Rattle.lynx_interp.proofs.starts.push_values.Given as goal

-- the values that are left come behind
abbrev pub invariant-values : goal.invariant-values
invariant-values l = l.variables ++ values_of (reverse l.rest.items) ≡ l.fn.variables ++ values_of l.fn.values.items

abbrev pub decreases-values : goal.decreases-values
decreases-values l = length l.rest.items
