use Rattle.std.proofs.Common.{◌≡◌, ◌++◌, take}
use Rattle.charlotte_text.specs.Spelling.{ends_text}
use Rattle.charlotte_text.proofs.name.push_each.Given as goal

abbrev pub invariant-loop-end : goal.invariant-loop-end
invariant-loop-end l = l.out.items ≡ l.fn.out.items ++ ends_text (take l.end-index l.ends)
