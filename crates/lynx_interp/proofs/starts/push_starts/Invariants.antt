use Rattle.std.proofs.Common.{◌≡◌, ◌++◌, map, take}
use Rattle.lynx_meaning.specs.Values as meaning
use Rattle.lynx_interp.proofs.starts.push_starts.Given as goal

-- the variables so far come behind
abbrev pub invariant-loop-kind : goal.invariant-loop-kind
invariant-loop-kind l = l.variables ≡ l.fn.variables ++ map meaning.start_value (take l.kind-index l.kinds)
