-- Faults as the program keeps them.
use Rattle.std.specs.Prelude.{Option, None, Some}
use Rattle.typing_rules.specs.Rules.{Fault}
use Rattle.typing_rules.specs.declared.walk.Found.{Found}

abbrev pub found_fault : Found → Fault
found_fault found = record { place = found.place; rule = found.rule }

abbrev pub first_found : Option Found → Option Fault
first_found None = None
first_found (Some found) = Some (found_fault found)
