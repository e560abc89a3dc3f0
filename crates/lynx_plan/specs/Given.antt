-- What the lines of a script said so far.
use Rattle.std.specs.Prelude.{ℕ, List, []}
use Rattle.charlotte_calls.specs.declared.names.Pid.{Pid}
use Rattle.lynx_plan.specs.declared.stage.Stage.{Stage}
use Rattle.lynx_plan.specs.declared.stage.Stage.TheVariants.{Start}
use Rattle.lynx_plan.specs.declared.script.ScriptLine.{ScriptLine}

-- the numbers of the header, the lines that are calls, and which lines may follow
pub record Given : Type 0 where
  pub version : ℕ
  pub kernels : ℕ
  pub homes : List ℕ
  pub wires : List (Pid × Pid)
  pub lines : List ScriptLine
  pub stage : Stage

-- before the first line: without a `version` line the version is 1
abbrev pub nothing : Given
nothing = record { version = 1; kernels = 0; homes = []; wires = []; lines = []; stage = Start }
