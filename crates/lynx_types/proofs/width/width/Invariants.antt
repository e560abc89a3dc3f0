use Rattle.std.proofs.Common.{◌≡◌, ◌+◌, min, take}
use Rattle.std.specs.List.{sum_by}
use Rattle.typing_rules.specs.Signatures.{widest}
use Rattle.lynx_types.proofs.width.width.Given as goal

-- the bytes before, and those of the types that were seen
abbrev pub invariant-loop-kind : goal.invariant-loop-kind
invariant-loop-kind l = l.sum ≡ min (l.fn.bytes + sum_by widest (take l.kind-index l.types)) 257
