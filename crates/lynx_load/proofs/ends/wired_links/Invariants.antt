use Rattle.std.proofs.Common.{◌≡◌, ◌<◌, ℕ, [], length, take}
use Rattle.std.specs.Prelude.{slice_index}
use Rattle.lynx_load.specs.Ends.{links_behind, made_for}
use Rattle.lynx_load.proofs.ends.wired_links.Given as goal

-- each kernel's count is that of the links which it makes for the wires so far
abbrev pub invariant-loop-wire : goal.invariant-loop-wire
invariant-loop-wire l = record {
  kernels : length l.made ≡ 8;
  links : l.links.items ≡ links_behind l.setting [] (take l.wire-index l.wires);
  made : (k : ℕ) → k < 8 → slice_index l.made k ≡ made_for l.setting k (take l.wire-index l.wires);
}
