-- What the lines of a plan said so far.
use Rattle.std.specs.Prelude.{ℕ, List, []}
use Rattle.lynx_plan.specs.Given.{Given, nothing}
use Rattle.plan_text.specs.declared.plan.Hosting.{Hosting}

-- what a script's header would have said, the files, the numbers of the process lines, and the hosts
pub record PlanGiven : Type 0 where
  pub header : Given
  pub files : List (List ℕ)
  pub lines : List ℕ
  pub hosts : List Hosting

-- before the first line
abbrev pub nothing_planned : PlanGiven
nothing_planned = record { header = nothing; files = []; lines = []; hosts = [] }
