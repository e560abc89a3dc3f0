-- Reading a text from its first line on, as a script, with the first line that fails a rule, and the least rule there.
use Rattle.std.specs.Prelude.{◌≡◌, ℕ, List, [], ◌∷◌, Bool, true, false, ◌+◌, ◌==◌, if◌then◌else◌, length, Result, Ok, Err}
use Rattle.charlotte_text.specs.declared.fault.Fault.{Fault}
use Rattle.charlotte_text.specs.Reading.{parts, words}
use Rattle.charlotte_text.specs.Spelling.{line_feed}
use Rattle.lynx_plan.specs.declared.stage.Stage.{Stage}
use Rattle.lynx_plan.specs.declared.stage.Stage.TheVariants as stage
use Rattle.lynx_plan.specs.declared.form.Form.{Form}
use Rattle.lynx_plan.specs.declared.meaning.Meaning.{Meaning}
use Rattle.lynx_plan.specs.declared.rule.Rule.{Rule}
use Rattle.lynx_plan.specs.declared.rule.Rule.TheVariants.{LineDoesNotStandThere}
use Rattle.lynx_plan.specs.declared.script.Script.{Script}
use Rattle.lynx_plan.specs.declared.fault.PlanFault.{PlanFault}
use Rattle.lynx_plan.specs.declared.fault.PlanFault.TheVariants.{BadPlan, NoMemory}
use Rattle.lynx_plan.specs.Given.{Given, nothing}
use Rattle.lynx_plan.specs.Forms.{form_of}
use Rattle.lynx_plan.specs.Rules.{judged, rule_number, with_meaning}

-- what a call gives is what is read, unless memory ran out
abbrev pub Fails : {Y : Type 0} → PlanFault → Result Y PlanFault → Type 0
Fails NoMemory read = Unit {0}
Fails (BadPlan line rule) read = read ≡ Err (BadPlan line rule)

abbrev pub Gives : {Y : Type 0} → Result Y PlanFault → Result Y PlanFault → Type 0
Gives (Ok x) read = read ≡ Ok x
Gives (Err e) read = Fails e read

-- an empty line, or one that begins with `#`
abbrev pub is_skipped : List ℕ → Bool
is_skipped [] = true
is_skipped (b ∷ bs) = b == 35

-- a line of no form fails the first rule
abbrev pub judged_form : Given → Result Form Fault → Result Meaning Rule
judged_form g (Ok f) = judged g f
judged_form g (Err e) = Err LineDoesNotStandThere

-- what a line says after what was read before it, or the least rule that it fails
unfoldable pub meaning_at : Given → List ℕ → Result Meaning Rule
meaning_at g text = judged_form g (form_of g.version (words text))

-- what is said with one more line, or that line and its rule
abbrev pub noted : ℕ → Given → Result Meaning Rule → Result Given PlanFault
noted line g (Ok e) = Ok (with_meaning line g e)
noted line g (Err rule) = Err (BadPlan line (rule_number rule))

-- how a text is read line by line: what is said before the first line, what a line that is not skipped adds, by its number, which lines
-- may then follow, and what the whole text says
pub record Reader (G X : Type 0) : Type 0 where
  pub start : G
  pub with_line : ℕ → G → List ℕ → Result G PlanFault
  pub stage : G → Stage
  pub whole : G → X

unfoldable pub line_read : {G X : Type 0} → Reader G X → ℕ → G → List ℕ → Result G PlanFault
line_read r line g text = if is_skipped text then Ok g else r.with_line line g text

abbrev pub then_lines : {G : Type 0} → (G → Result G PlanFault) → Result G PlanFault → Result G PlanFault
then_lines f (Ok g) = f g
then_lines f (Err e) = Err e

-- the lines in order, from the one with this number
unfoldable pub lines_read : {G X : Type 0} → Reader G X → ℕ → G → List (List ℕ) → Result G PlanFault
lines_read r line g [] = Ok g
lines_read r line g (text ∷ texts) = then_lines (λ h. lines_read r (line + 1) h texts) (line_read r line g text)

-- the `kernels` line stood
abbrev pub has_kernels : Stage → Bool
has_kernels stage.Start = false
has_kernels stage.Named = false
has_kernels s = true

-- at the end the `kernels` line must have stood; the place past the last byte is in this line
abbrev pub finished : {G X : Type 0} → Reader G X → ℕ → Result G PlanFault → Result X PlanFault
finished r line (Ok g) = if has_kernels (r.stage g) then Ok (r.whole g) else Err (BadPlan line (rule_number LineDoesNotStandThere))
finished r line (Err e) = Err e

-- what bytes spell, or the first line that fails and the least rule there
unfoldable pub text_read : {G X : Type 0} → Reader G X → List ℕ → Result X PlanFault
text_read r bytes = finished r (length (parts line_feed bytes)) (lines_read r 1 r.start (parts line_feed bytes))

abbrev pub script_given : Given → Script
script_given g = record { setting = record { version = g.version; kernels = g.kernels; homes = g.homes; wires = g.wires }; lines = g.lines }

abbrev pub script_reader : Reader Given Script
script_reader = record { start = nothing; with_line = λ line g text. noted line g (meaning_at g text); stage = λ g. g.stage; whole = script_given }

-- the script that bytes spell, or the first line that fails and the least rule there
abbrev pub script_of : List ℕ → Result Script PlanFault
script_of bytes = text_read script_reader bytes
