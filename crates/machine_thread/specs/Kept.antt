-- A thread as it is kept.
use Rattle.std.specs.Prelude.{List, map, reverse}
use Rattle.lynx_meaning.specs.Code as meaning
use Rattle.machine_thread.specs.declared.thread.Opened.{Opened}

abbrev pub opened_of : Opened → meaning.Opened
opened_of o = record { handlers = o.handlers; height = o.height; depth = o.depth }

-- the innermost one first
abbrev pub open_tries : List Opened → List meaning.Opened
open_tries os = map opened_of (reverse os)
