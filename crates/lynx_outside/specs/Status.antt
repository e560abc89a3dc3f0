-- The numbers of the statuses.
use Rattle.std.specs.Prelude.{ℕ}
use Rattle.lynx_outside.specs.declared.status.Status.{Status}
use Rattle.lynx_outside.specs.declared.status.Status.TheVariants.{Done, Usage, ReadFault, WriteFault}
use Rattle.lynx_outside.specs.declared.status.Status.TheVariants.{Refused, Spent, NoFile, NoMemory, TooBig}

-- the number with which a program ends
abbrev pub number_of : Status → ℕ
number_of Done = 0
number_of Usage = 1
number_of ReadFault = 2
number_of WriteFault = 3
number_of Refused = 4
number_of Spent = 5
number_of NoFile = 6
number_of NoMemory = 7
number_of TooBig = 8
