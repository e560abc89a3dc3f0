-- Scripts as texts: the lines of a text, and the script that they spell.
use Rattle.std.specs.Prelude.{◌≡◌, ◌⊎◌, ◌<◌, ℕ, ◌+◌, List, [], ◌∷◌, ◌++◌, All, length, map, if◌then◌else◌, codes}
use Rattle.charlotte_calls.specs.declared.names.Pid.{Pid}
use Rattle.charlotte_calls.specs.declared.setting.Setting.{Setting}
use Rattle.charlotte_calls.specs.Setting.{IsValid}
use Rattle.charlotte_text.specs.Spelling.{number_text, process_text, call_text, IsCall, line_feed}
use Rattle.charlotte_text.specs.Reading.{parts}
use Rattle.lynx_plan.specs.declared.script.Script.{Script}
use Rattle.lynx_plan.specs.declared.script.ScriptLine.{ScriptLine}
use Rattle.lynx_plan.specs.declared.script.ScriptCall.{ScriptCall}
use Rattle.lynx_plan.specs.declared.script.ScriptCall.TheVariants.{Ask, Take, Settle}
use Rattle.lynx_plan.specs.Reading.{is_skipped}

-- the lines that are not skipped, each with its number, from the line of this number on
abbrev pub standing : ℕ → List (List ℕ) → List (ℕ × List ℕ)
standing n [] = []
standing n (text ∷ texts) = if is_skipped text then standing (n + 1) texts else (n, text) ∷ standing (n + 1) texts

abbrev pub version_text : ℕ → List ℕ
version_text version = codes "version " ++ number_text version

abbrev pub kernels_text : ℕ → List ℕ
kernels_text kernels = codes "kernels " ++ number_text kernels

-- process i on kernel k
abbrev pub home_text : ℕ → ℕ → List ℕ
home_text i k = codes "process " ++ number_text i ++ codes " on " ++ number_text k

-- the process lines of these kernels, from process i on
abbrev pub home_texts : ℕ → List ℕ → List (List ℕ)
home_texts i [] = []
home_texts i (k ∷ ks) = home_text i k ∷ home_texts (i + 1) ks

abbrev pub wire_text : Pid × Pid → List ℕ
wire_text w = codes "wire " ++ number_text w.0.0 ++ codes " " ++ number_text w.1.0

-- a line that is a call
abbrev pub what_text : ScriptCall → List ℕ
what_text (Ask p call) = process_text p ++ codes " " ++ call_text call
what_text (Take from to) = codes "take " ++ number_text from ++ codes " " ++ number_text to
what_text Settle = codes "settle"

-- the kernels, the processes and the wires, in order
abbrev pub header_texts : Setting → List (List ℕ)
header_texts s = kernels_text s.kernels ∷ (home_texts 0 s.homes ++ map wire_text s.wires)

-- a header may begin with its version; without that line the version is 1
abbrev pub IsHeader : List (List ℕ) → Setting → Type 0
IsHeader texts s = (texts ≡ version_text s.version ∷ header_texts s) ⊎ ((s.version ≡ 1) × (texts ≡ header_texts s))

-- what a line names is there, and its call is one of the version
abbrev pub FitsWhat : Setting → ScriptCall → Type 0
FitsWhat s (Ask p call) = (p.0 < length s.homes) × IsCall s.version call
FitsWhat s (Take from to) = (from < s.kernels) × (to < s.kernels)
FitsWhat s Settle = Unit {0}

-- the number of a line that is a call, and its text
abbrev pub numbered : ScriptLine → ℕ × List ℕ
numbered l = (l.line, what_text l.what)

-- each line stands behind the one before it
abbrev pub AreRisingLines : List ScriptLine → Type 0
AreRisingLines [] = Unit {0}
AreRisingLines (l ∷ []) = Unit {0}
AreRisingLines (l ∷ m ∷ ls) = (l.line < m.line) × AreRisingLines (m ∷ ls)

-- the text spells the script: its lines are the header, and then the calls in order
pub record IsScriptText (bytes : List ℕ) (s : Script) : Type 0 where
  -- the lines of the header, with their numbers
  pub header : List (ℕ × List ℕ)
  pub lines : standing 1 (parts line_feed bytes) ≡ header ++ map numbered s.lines
  pub spelled : IsHeader (map (λ l. l.1) header) s.setting
  pub valid : IsValid s.setting
  pub calls : All (λ l. FitsWhat s.setting l.what) s.lines
