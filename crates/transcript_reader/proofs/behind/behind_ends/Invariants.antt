use Rattle.std.proofs.Common.{◌≡◌, ◌++◌, take}
use Rattle.charlotte_text.specs.Spelling.{ends_text}
use Rattle.transcript_reader.proofs.behind.behind_ends.Given as goal

abbrev pub invariant-loop-end : goal.invariant-loop-end
invariant-loop-end l = l.text ≡ ends_text (take l.end-index l.ends) ++ l.rest
