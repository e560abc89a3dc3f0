-- How the logic stores the name of an end.
use Rattle.std.specs.Coded.{Coded}
use Rattle.charlotte_calls.specs.declared.names.EndId.{EndId}
use Rattle.charlotte_calls.specs.contracts.names.EndId as EndIdType

abbrev pub coded_end : Coded EndId
coded_end = EndIdType.the_row.coded
