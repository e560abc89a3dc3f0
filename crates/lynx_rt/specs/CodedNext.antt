-- How the logic stores a step of a program.
use Rattle.std.specs.Coded.{Coded}
use Rattle.charlotte_calls.specs.declared.program.Next.{Next}
use Rattle.charlotte_calls.specs.contracts.program.Next as NextType

abbrev pub coded_next : Coded Next
coded_next = NextType.the_row.coded
