use Rattle.std.proofs.Common.{◌≡◌, take}
use Rattle.typing_rules.specs.Signatures.{links_among}
use Rattle.lynx_types.proofs.width.links_among.Given as goal

-- the links of the types that were seen
abbrev pub invariant-loop-kind : goal.invariant-loop-kind
invariant-loop-kind l = l.links ≡ links_among (take l.kind-index l.types)
