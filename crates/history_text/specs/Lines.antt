-- The lines of a text in their order: what they tell, up to the first that has no form in its place.
use Rattle.std.specs.Prelude.{◌≡◌, ℕ, ◌+◌, List, [], ◌∷◌, Bool, true, false, ◌==◌, if◌then◌else◌, Option, Some, None, Result, Ok, Err}
use Rattle.charlotte_calls.specs.declared.setting.Setting.{Setting}
use Rattle.charlotte_text.specs.declared.fault.Fault.{Fault}
use Rattle.charlotte_text.specs.Reading.{parts, words}
use Rattle.charlotte_text.specs.Spelling.{line_feed}
use Rattle.history_text.specs.Given.{Given, nothing, setting_given, with_meaning}
use Rattle.history_text.specs.Forms.{Said, meaning_of}
use Rattle.history_text.specs.declared.line.LineFault.{LineFault}
use Rattle.history_text.specs.declared.line.LineFault.TheVariants as fault
use Rattle.history_text.specs.declared.meaning.Act.{Act}
use Rattle.history_text.specs.declared.meaning.Meaning.{Meaning}
use Rattle.history_text.specs.declared.meaning.Meaning.TheVariants as meaning
use Rattle.history_text.specs.declared.stage.Stage.{Stage}
use Rattle.history_text.specs.declared.stage.Stage.TheVariants as stage

-- an empty line, or one that begins with `#`
abbrev pub is_skipped : List ℕ → Bool
is_skipped [] = true
is_skipped (b ∷ bs) = b == 35

-- whether a line tells a step
abbrev pub is_step : Meaning → Bool
is_step (meaning.Version v) = false
is_step (meaning.Process name p home) = false
is_step (meaning.Wire name link p q) = false
is_step (meaning.Make name link) = true
is_step meaning.Step = true

-- the step in its place, where one is told
abbrev pub act_if : Bool → Act → Option Act
act_if false act = None
act_if true act = Some act

-- a line that is read says this, with the step in its place
abbrev pub Tells : Result Meaning Fault → Act → Result Said Fault → Type 0
Tells (Ok m) act said = said ≡ Ok (m, act_if (is_step m) act)
Tells (Err e) act said = said ≡ Err e

-- what is said with a line, and the step that it tells, if any
abbrev pub taken : Given → Result Said Fault → Result (Given × Option Act) Fault
taken g (Ok said) = Ok (with_meaning g said.0, said.1)
taken g (Err e) = Err e

unfoldable pub line_read : Given → List ℕ → Result (Given × Option Act) Fault
line_read g text = if is_skipped text then Ok (g, None) else taken g (meaning_of g (words text))

-- why a line was not read: its form, or want of memory, which comes at any line
abbrev pub FailsSo : {X : Type 0} → LineFault → Result X Fault → Type 0
FailsSo fault.Form (Ok x) = ⊥
FailsSo fault.Form (Err e) = Unit {0}
FailsSo fault.NoMemory read = Unit {0}

-- a step, and the number of its line
pub record Numbered : Type 0 where
  pub line : ℕ
  pub act : Act

-- what lines tell: the setting, the steps, and the first line that has no form in its place, if there is one
pub record Told : Type 0 where
  pub setting : Setting
  pub acts : List Numbered
  pub wrong : Option ℕ

-- the line with this number and those behind it: the setting is that of the header, which ends where a step is told
abbrev pub before : ℕ → Given → Option Act → Told → Told
before n g None rest = rest
before n g (Some act) rest =
    record { setting = setting_given g; acts = record { line = n; act = act } ∷ rest.acts; wrong = rest.wrong }

-- a line that is read, and those behind it; none stands behind one that has no form
abbrev pub then_told : ℕ → Given → (Given → Told) → Result (Given × Option Act) Fault → Told
then_told n g rest (Ok read) = before n read.0 read.1 (rest read.0)
then_told n g rest (Err e) = record { setting = setting_given g; acts = []; wrong = Some n }

-- without the line that says what the text is there is no history
abbrev pub missing_at : ℕ → Stage → Option ℕ
missing_at n stage.Start = Some n
missing_at n stage.Processes = None
missing_at n stage.Wires = None
missing_at n stage.Steps = None

-- what the lines behind the line of this number tell
unfoldable pub lines_told : ℕ → Given → List (List ℕ) → Told
lines_told n g [] = record { setting = setting_given g; acts = []; wrong = missing_at n g.stage }
lines_told n g (text ∷ texts) = then_told (n + 1) g (λ h. lines_told (n + 1) h texts) (line_read g text)

-- what a text tells: its lines are counted from 1
unfoldable pub told_by : List ℕ → Told
told_by bytes = lines_told 0 nothing (parts line_feed bytes)
