-- Reading a plan from its first line on, with the first line that fails a rule, and the least rule there.
use Rattle.std.specs.Prelude.{ℕ, List, ◌++◌, map, Result, Ok, Err}
use Rattle.charlotte_calls.specs.declared.names.Pid.{Pid}
use Rattle.charlotte_calls.specs.declared.setting.Setting.{Setting}
use Rattle.charlotte_text.specs.declared.fault.Fault.{Fault}
use Rattle.charlotte_text.specs.Reading.{words}
use Rattle.lynx_plan.specs.declared.meaning.Meaning.{Meaning}
use Rattle.lynx_plan.specs.declared.rule.Rule.{Rule}
use Rattle.lynx_plan.specs.declared.rule.Rule.TheVariants.{LineDoesNotStandThere}
use Rattle.lynx_plan.specs.declared.fault.PlanFault.{PlanFault}
use Rattle.lynx_plan.specs.declared.fault.PlanFault.TheVariants.{BadPlan}
use Rattle.lynx_plan.specs.Rules.{rule_number}
use Rattle.lynx_plan.specs.Reading.{Reader, text_read, script_given}
use Rattle.plan_text.specs.declared.plan.Plan.{Plan}
use Rattle.plan_text.specs.declared.plan.Hosting.{Hosting}
use Rattle.plan_text.specs.declared.form.PlanForm.{PlanForm}
use Rattle.plan_text.specs.declared.rules.Place.{Place}
use Rattle.plan_text.specs.Given.{PlanGiven, nothing_planned}
use Rattle.plan_text.specs.Forms.{plan_form_of}
use Rattle.plan_text.specs.Rules.{plan_judged, with_line}

-- a line of no form fails the first rule
abbrev pub plan_judged_form : PlanGiven → Result PlanForm Fault → Result (Meaning × Place) Rule
plan_judged_form g (Ok f) = plan_judged g f
plan_judged_form g (Err e) = Err LineDoesNotStandThere

-- what a line says after what was read before it, or the least rule that it fails
unfoldable pub plan_meaning_at : PlanGiven → List ℕ → Result (Meaning × Place) Rule
plan_meaning_at g text = plan_judged_form g (plan_form_of (words text))

-- what is said with one more line, or that line and its rule
abbrev pub plan_noted : ℕ → PlanGiven → Result (Meaning × Place) Rule → Result PlanGiven PlanFault
plan_noted line g (Ok said) = Ok (with_line line g said)
plan_noted line g (Err rule) = Err (BadPlan line (rule_number rule))

-- the wire on which a process moves to its host
abbrev pub carrier : Hosting → Pid × Pid
carrier h = (h.moved, h.host)

abbrev pub with_carriers : Setting → List Hosting → Setting
with_carriers s hosts = record s { wires = s.wires ++ map carrier hosts }

abbrev pub plan_given : PlanGiven → Plan
plan_given g = record { setting = with_carriers (script_given g.header).setting g.hosts; files = g.files; lines = g.lines; hosts = g.hosts }

abbrev pub plan_reader : Reader PlanGiven Plan
plan_reader = record { start = nothing_planned; with_line = λ line g text. plan_noted line g (plan_meaning_at g text); stage = λ g. g.header.stage; whole = plan_given }

-- the plan that bytes spell, or the first line that fails and the least rule there
abbrev pub plan_of : List ℕ → Result Plan PlanFault
plan_of bytes = text_read plan_reader bytes
