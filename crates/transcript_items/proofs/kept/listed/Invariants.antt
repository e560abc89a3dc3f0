use Rattle.std.proofs.Common.{◌≡◌, [], drop}
use Rattle.transcript_items.specs.Texts.{add_items}
use Rattle.transcript_items.proofs.kept.listed.Given as goal

abbrev pub invariant-loop-item : goal.invariant-loop-item
invariant-loop-item g l = add_items (g.K.Kernels.kept l.kernels) (drop l.item-index l.items) l.text.items ≡ add_items (g.K.Kernels.kept l.kernels) l.items []
