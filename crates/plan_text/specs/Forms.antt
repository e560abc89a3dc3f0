-- The forms of lines of a plan: those of a script's header, where a process line goes on with its role.
use Rattle.std.specs.Prelude.{ℕ, ◌^◌, ◌+◌, List, [], ◌∷◌, Bool, false, ◌&&◌, nat_le, if◌then◌else◌, codes, Result, Ok, Err}
use Rattle.std.specs.List.{list_all}
use Rattle.std.specs.Str.{bytes_eq}
use Rattle.charlotte_text.specs.declared.fault.Fault.{Fault}
use Rattle.charlotte_text.specs.declared.fault.Fault.TheVariants as fault
use Rattle.charlotte_text.specs.Reading.{◌>>=◌, part_at, ended, number_of, number_below}
use Rattle.lynx_plan.specs.declared.form.Lead.{Lead}
use Rattle.lynx_plan.specs.declared.form.Lead.TheVariants as lead
use Rattle.lynx_plan.specs.declared.form.Form.TheVariants.{Process}
use Rattle.lynx_plan.specs.Forms.{lead_of, placed_at, led}
use Rattle.plan_text.specs.declared.form.Role.{Role}
use Rattle.plan_text.specs.declared.form.Role.TheVariants.{Plain, Runs, Hosts}
use Rattle.plan_text.specs.declared.form.PlanForm.{PlanForm}

-- one byte or more from 33 to 126
abbrev pub is_name : List ℕ → Bool
is_name [] = false
is_name (b ∷ bs) = list_all (λ x. nat_le 33 x && nat_le x 126) (b ∷ bs)

-- `FILE`
unfoldable pub file_role : List (List ℕ) → Result Role Fault
file_role ws = do
  file ← part_at ws
  last ← ended file.1
  if is_name file.0 then Ok (Runs file.0) else Err fault.Form

-- `P after N`
unfoldable pub host_role : List (List ℕ) → Result Role Fault
host_role ws = do
  first ← part_at ws
  p ← number_of first.0
  second ← part_at first.1
  third ← if bytes_eq second.0 (codes "after") then part_at second.1 else Err fault.Form
  n ← number_below (2 ^ 32) third.0
  last ← ended third.1
  Ok (Hosts p n)

-- what stands behind `process I on K`
unfoldable pub role_of : List (List ℕ) → Result Role Fault
role_of ws = do
  verb ← part_at ws
  if bytes_eq verb.0 (codes "runs") then file_role verb.1 else if bytes_eq verb.0 (codes "hosts") then host_role verb.1 else Err fault.Form

-- `I on K` and a role
unfoldable pub with_role : List (List ℕ) → Result PlanForm Fault
with_role ws = do
  at ← placed_at ws
  role ← role_of at.1
  Ok (record { form = Process at.0.0 at.0.1; role = role })

-- a line of a script's header that is no process line
unfoldable pub without_role : Lead → List (List ℕ) → Result PlanForm Fault
without_role k ws = led 1 k [] ws >>= λ f. Ok (record { form = f; role = Plain })

-- the form of a line that a word begins, from the words behind it. There are no calls
abbrev pub plan_led : Lead → List (List ℕ) → Result PlanForm Fault
plan_led lead.Version ws = without_role lead.Version ws
plan_led lead.Kernels ws = without_role lead.Kernels ws
plan_led lead.Process ws = with_role ws
plan_led lead.Wire ws = without_role lead.Wire ws
plan_led k ws = Err fault.Form

-- the form of a line of a plan, by its words
unfoldable pub plan_form_of : List (List ℕ) → Result PlanForm Fault
plan_form_of ws = do
  first ← part_at ws
  plan_led (lead_of first.0) first.1
