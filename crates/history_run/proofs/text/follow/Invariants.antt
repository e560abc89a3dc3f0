use Rattle.std.proofs.Common.{◌≡◌, ◌+◌, length, option_copied}
use Rattle.charlotte_text.specs.Reading.{parts, rest_parts}
use Rattle.history_run.specs.Follow.{IsAt}
use Rattle.history_run.proofs.text.follow.Given as goal

abbrev pub invariant-loop-rest : goal.invariant-loop-rest
invariant-loop-rest l = record {
  so_far : IsAt l.bytes l.line (rest_parts 10 (option_copied l.rest)) l.history;
  count : l.line + length (rest_parts 10 (option_copied l.rest)) ≡ length (parts 10 l.bytes);
}

abbrev pub decreases-loop-rest : goal.decreases-loop-rest
decreases-loop-rest l = length (rest_parts 10 (option_copied l.rest))
