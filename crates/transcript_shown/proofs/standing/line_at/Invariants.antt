use Rattle.std.proofs.Common.{◌≡◌, drop, option_copied}
use Rattle.charlotte_text.specs.Reading.{parts, rest_parts}
use Rattle.transcript_shown.proofs.standing.line_at.Given as goal

abbrev pub invariant-loop : goal.invariant-loop
invariant-loop l = rest_parts 10 (option_copied l.rest) ≡ drop l.counter (parts 10 l.bytes)
