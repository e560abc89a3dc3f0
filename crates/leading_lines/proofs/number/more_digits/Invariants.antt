use Rattle.std.proofs.Common.{◌≡◌, ◌<◌, ◌++◌, length}
use Rattle.charlotte_text.specs.Spelling.{number_text}
use Rattle.leading_lines.proofs.number.more_digits.Given as goal

abbrev pub invariant-loop-digit : goal.invariant-loop-digit
invariant-loop-digit l = record {
  some : 0 < l.number;
  same : number_text l.front ++ l.text ≡ number_text l.number ++ l.rest;
}

abbrev pub decreases-loop-digit : goal.decreases-loop-digit
decreases-loop-digit l = length l.rest
