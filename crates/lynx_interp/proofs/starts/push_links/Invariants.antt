use Rattle.std.proofs.Common.{◌≡◌, ◌++◌, map, take}
use Rattle.lynx_meaning.specs.Values.{Link}
use Rattle.lynx_interp.proofs.starts.push_links.Given as goal

-- the links so far come behind
abbrev pub invariant-loop-link : goal.invariant-loop-link
invariant-loop-link l = l.variables ≡ l.fn.variables ++ map (λ k. Link k.0) (take l.link-index l.links)
