use Rattle.std.proofs.Common.{◌≡◌, ◌+◌, length, min, take}
use Rattle.typing_rules.specs.Signatures.{more_types_text}
use Rattle.lynx_types.proofs.width.spelled.Given as goal

-- the bytes before, and those of the first type and of the types that were seen
abbrev pub invariant-loop-kind : goal.invariant-loop-kind
invariant-loop-kind l = l.sum ≡ min (l.initial.sum + length (more_types_text (take l.kind-index l.rest))) 257
