use Rattle.std.proofs.Common.{◌≡◌, ◌+◌, length, option_copied}
use Rattle.charlotte_text.specs.Reading.{parts, rest_parts}
use Rattle.lynx_plan.specs.Reading.{lines_read}
use Rattle.plan_text.specs.Reading.{plan_reader}
use Rattle.lynx_plan.proofs.Sound.{Sound}
use Rattle.plan_text.proofs.read.read_lines.Given as goal

abbrev pub invariant-loop-rest : goal.invariant-loop-rest
invariant-loop-rest l = record {
  so_far : lines_read plan_reader (l.line + 1) l.draft (rest_parts 10 (option_copied l.rest)) ≡ lines_read plan_reader 1 plan_reader.start (parts 10 l.bytes);
  count : l.line + length (rest_parts 10 (option_copied l.rest)) ≡ length (parts 10 l.bytes);
  sound : Sound l.draft.header;
}

abbrev pub decreases-loop-rest : goal.decreases-loop-rest
decreases-loop-rest l = length (rest_parts 10 (option_copied l.rest))
