use Rattle.std.proofs.Common.{◌≡◌, List, ℕ, length, take}
use Rattle.charlotte_text.specs.Reading.{decoded}
use Rattle.charlotte_text.proofs.Ends.{with_front}
use Rattle.charlotte_text.proofs.text.decode.Given as goal

abbrev pub invariant-loop-rest : goal.invariant-loop-rest
invariant-loop-rest l = (front : List ℕ) × (l.kept.items ≡ take 257 front) × (with_front front (decoded l.rest) ≡ decoded l.word)

abbrev pub decreases-loop-rest : goal.decreases-loop-rest
decreases-loop-rest l = length l.rest
