use Rattle.std.proofs.Common.{◌≡◌, drop, option_copied}
use Rattle.charlotte_text.specs.Reading.{rest_parts, words}
use Rattle.transcript_expected.proofs.word.word.Given as goal

abbrev pub invariant-loop : goal.invariant-loop
invariant-loop l = rest_parts 32 (option_copied l.rest) ≡ drop l.counter (words l.line)
