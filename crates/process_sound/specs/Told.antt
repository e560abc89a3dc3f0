-- What a kernel may tell a process.
use Rattle.std.specs.Prelude.{Option, Some, ⊤}
use Rattle.charlotte_calls.specs.Ranges.{AreBytes}
use Rattle.charlotte_calls.specs.declared.calls.Answer.{Answer}
use Rattle.charlotte_calls.specs.declared.calls.Answer.TheVariants as answer

-- the bytes of a message that is reported are bytes
abbrev pub IsTold : Option Answer → Type 0
IsTold (Some (answer.Reported r)) = AreBytes r.bytes
IsTold _ = ⊤
