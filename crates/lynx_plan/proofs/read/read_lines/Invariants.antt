use Rattle.std.proofs.Common.{◌≡◌, ◌+◌, length, option_copied}
use Rattle.charlotte_text.specs.Reading.{parts, rest_parts}
use Rattle.lynx_plan.specs.Reading.{lines_read, script_reader}
use Rattle.lynx_plan.proofs.Sound.{Sound}
use Rattle.lynx_plan.proofs.read.read_lines.Given as goal

abbrev pub invariant-loop-rest : goal.invariant-loop-rest
invariant-loop-rest l = record {
  so_far : lines_read script_reader (l.line + 1) l.draft (rest_parts 10 (option_copied l.rest)) ≡ lines_read script_reader 1 script_reader.start (parts 10 l.bytes);
  count : l.line + length (rest_parts 10 (option_copied l.rest)) ≡ length (parts 10 l.bytes);
  sound : Sound l.draft;
}

abbrev pub decreases-loop-rest : goal.decreases-loop-rest
decreases-loop-rest l = length (rest_parts 10 (option_copied l.rest))
