-- Ends by their names alone.
use Rattle.std.specs.Prelude.{ℕ, List, Result}
use Rattle.charlotte_calls.specs.declared.names.EndId.{EndId}
use Rattle.charlotte_text.specs.declared.fault.Fault.{Fault}
use Rattle.history_text.specs.Forms.{end_of}
use Rattle.history_text.specs.Given.{Given}
use Rattle.history_text.specs.declared.stage.Scope.TheVariants as scope

-- the end of a name, as a step names it: one of a link that was told
abbrev pub told_end : Given → List ℕ → Result EndId Fault
told_end g name = end_of scope.Step g name
