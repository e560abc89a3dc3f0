use Rattle.std.proofs.Common.{◌≡◌, ◌++◌, take}
use Rattle.typing_rules.specs.Signatures.{more_types_text}
use Rattle.typing_rules.proofs.spelling.push_more_types.Given as goal

-- the types that were seen are written
abbrev pub invariant-loop-kind : goal.invariant-loop-kind
invariant-loop-kind l = l.out.items ≡ l.fn.out.items ++ more_types_text (take l.kind-index l.types)
