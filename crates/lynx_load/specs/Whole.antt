-- What is known of a plan that was read.
use Rattle.std.specs.Prelude.{◌≡◌, [], length}
use Rattle.charlotte_calls.specs.Setting.{IsValid}
use Rattle.plan_text.specs.declared.plan.Plan.{Plan}

-- where no process is a host, each runs a file, and has a line
abbrev pub RunsFiles : Plan → Type 0
RunsFiles plan = (length plan.files ≡ length plan.setting.homes) × (length plan.lines ≡ length plan.setting.homes)

pub record IsWhole (plan : Plan) : Type 0 where
  pub valid : IsValid plan.setting
  pub runs : plan.hosts ≡ [] → RunsFiles plan
