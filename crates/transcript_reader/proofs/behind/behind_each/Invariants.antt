use Rattle.std.proofs.Common.{◌≡◌, ◌++◌, take}
use Rattle.std.specs.List.{flat_map}
use Rattle.charlotte_text.specs.Spelling.{byte_text}
use Rattle.transcript_reader.proofs.behind.behind_each.Given as goal

abbrev pub invariant-loop-byte : goal.invariant-loop-byte
invariant-loop-byte l = l.text ≡ flat_map byte_text (take l.byte-index l.bytes) ++ l.rest
