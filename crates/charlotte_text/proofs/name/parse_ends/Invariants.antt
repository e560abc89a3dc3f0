use Rattle.std.proofs.Common.{◌≡◌, ◌-◌, ◌≤◌, length, option_copied}
use Rattle.charlotte_text.specs.Reading.{rest_parts, ends_of}
use Rattle.charlotte_text.proofs.Ends.{with_front}
use Rattle.charlotte_text.proofs.name.parse_ends.Given as goal

abbrev pub invariant-loop-rest : goal.invariant-loop-rest
invariant-loop-rest l = record {
  so_far : with_front l.ends.items (ends_of (l.most - length l.ends.items) (rest_parts 32 (option_copied l.rest))) ≡ ends_of l.most (rest_parts 32 (option_copied l.fn.words));
  room : length l.ends.items ≤ l.most;
}

abbrev pub decreases-loop-rest : goal.decreases-loop-rest
decreases-loop-rest l = length (rest_parts 32 (option_copied l.rest))
