-- Which lines may stand where, the rules as tests of one line after what was read before it, and what a line adds.
use Rattle.std.specs.Prelude.{ℕ, [], ◌∷◌, ◌++◌, Bool, true, false, not, ◌||◌, nat_le, nat_lt}
use Rattle.std.specs.Prelude.{◌==◌, if◌then◌else◌, length, Option, Some, None, Result, Ok, Err}
use Rattle.charlotte_calls.specs.declared.names.Pid.{Pid}
use Rattle.charlotte_text.specs.declared.number.Number.{Number}
use Rattle.charlotte_text.specs.declared.number.Number.TheVariants.{Is, Large}
use Rattle.lynx_plan.specs.declared.stage.Stage.{Stage}
use Rattle.lynx_plan.specs.declared.stage.Stage.TheVariants as stage
use Rattle.lynx_plan.specs.declared.form.Form.{Form}
use Rattle.lynx_plan.specs.declared.form.Form.TheVariants.{Version, Kernels, Process, Wire, Ask, LongAsk, Take, Settle}
use Rattle.lynx_plan.specs.declared.meaning.Meaning.{Meaning}
use Rattle.lynx_plan.specs.declared.meaning.Meaning.TheVariants as meaning
use Rattle.lynx_plan.specs.declared.rule.Rule.{Rule}
use Rattle.lynx_plan.specs.declared.rule.Rule.TheVariants.{LineDoesNotStandThere, KernelsAreTooManyOrNone}
use Rattle.lynx_plan.specs.declared.rule.Rule.TheVariants.{ProcessIsNotTheNext, KernelIsNotThere, ProcessIsNotThere}
use Rattle.lynx_plan.specs.declared.rule.Rule.TheVariants.{TextIsTooLong, WiresAreTooMany, VersionIsNotKnown, ProcessIsNotFree}
use Rattle.lynx_plan.specs.declared.script.ScriptCall.TheVariants as script
use Rattle.lynx_plan.specs.Given.{Given}

-- the lines that may stand: the version first, then the kernels, the processes, the wires and the calls
abbrev pub allows : Form → Stage → Bool
allows (Version n) stage.Start = true
allows (Version n) s = false
allows (Kernels n) stage.Start = true
allows (Kernels n) stage.Named = true
allows (Kernels n) s = false
allows (Process i k) stage.Processes = true
allows (Process i k) s = false
allows (Wire i j) stage.Processes = true
allows (Wire i j) stage.Wires = true
allows (Wire i j) s = false
allows f stage.Start = false
allows f stage.Named = false
allows f s = true

-- a number of any size is below this one
abbrev pub is_below : Number → ℕ → Bool
is_below (Is n) limit = nat_lt n limit
is_below Large limit = false

-- a number of any size is this one
abbrev pub is_number : Number → ℕ → Bool
is_number (Is n) m = n == m
is_number Large m = false

-- a number that a type holds
abbrev pub value : Number → ℕ
value (Is n) = n
value Large = 0

-- ---- the rules: what a line fails

-- the number of kernels is not 1 to 8
abbrev pub has_wrong_kernels : Given → Form → Bool
has_wrong_kernels g (Kernels n) = is_below n 1 || not (is_below n 9)
has_wrong_kernels g f = false

-- the process number is not the next, or is past 63
abbrev pub has_wrong_number : Given → Form → Bool
has_wrong_number g (Process i k) = not (is_number i (length g.homes)) || not (is_below i 64)
has_wrong_number g f = false

-- a kernel number is not below the number of kernels
abbrev pub has_no_kernel : Given → Form → Bool
has_no_kernel g (Process i k) = not (is_below k g.kernels)
has_no_kernel g (Take j k) = not (is_below j g.kernels) || not (is_below k g.kernels)
has_no_kernel g f = false

-- it names a process that is not declared
abbrev pub has_no_process : Given → Form → Bool
has_no_process g (Wire i j) = not (is_below i (length g.homes)) || not (is_below j (length g.homes))
has_no_process g (Ask p call) = not (is_below p (length g.homes))
has_no_process g (LongAsk p) = not (is_below p (length g.homes))
has_no_process g f = false

-- a text has more than 256 bytes
abbrev pub has_long_text : Given → Form → Bool
has_long_text g (LongAsk p) = true
has_long_text g f = false

-- it is a wire line, and the wires up to it are more than 4,096
abbrev pub has_many_wires : Given → Form → Bool
has_many_wires g (Wire i j) = nat_le 4096 (length g.wires)
has_many_wires g f = false

-- the version is neither 1 nor 2
abbrev pub has_wrong_version : Given → Form → Bool
has_wrong_version g (Version n) = not (is_number n 1 || is_number n 2)
has_wrong_version g f = false

-- the number by which a fault tells a rule
abbrev pub rule_number : Rule → ℕ
rule_number LineDoesNotStandThere = 1
rule_number KernelsAreTooManyOrNone = 2
rule_number ProcessIsNotTheNext = 3
rule_number KernelIsNotThere = 4
rule_number ProcessIsNotThere = 5
rule_number TextIsTooLong = 6
rule_number WiresAreTooMany = 7
rule_number VersionIsNotKnown = 10
rule_number ProcessIsNotFree = 11

-- the least of the rules from the second on that a line fails
abbrev pub broken : Given → Form → Option Rule
broken g f =
    if has_wrong_kernels g f then Some KernelsAreTooManyOrNone
    else if has_wrong_number g f then Some ProcessIsNotTheNext
    else if has_no_kernel g f then Some KernelIsNotThere
    else if has_no_process g f then Some ProcessIsNotThere
    else if has_long_text g f then Some TextIsTooLong
    else if has_many_wires g f then Some WiresAreTooMany
    else if has_wrong_version g f then Some VersionIsNotKnown
    else None

-- the least of the rules that a line of a form fails; the first is that its form may stand there
abbrev pub least_rule : Given → Form → Option Rule
least_rule g f = if allows f g.stage then broken g f else Some LineDoesNotStandThere

-- ---- what a line adds

-- a process that is declared
abbrev pub known_process : Given → Number → Option Pid
known_process g p = if is_below p (length g.homes) then Some (record { 0 = value p }) else None

-- what a form says
abbrev pub meaning_of : Form → Meaning
meaning_of (Version n) = meaning.Version (value n)
meaning_of (Kernels n) = meaning.Kernels (value n)
meaning_of (Process i k) = meaning.Process (value k)
meaning_of (Wire i j) = meaning.Wire (record { 0 = value i }) (record { 0 = value j })
meaning_of (Ask p call) = meaning.Line (script.Ask (record { 0 = value p }) call)
meaning_of (LongAsk p) = meaning.Line script.Settle
meaning_of (Take j k) = meaning.Line (script.Take (value j) (value k))
meaning_of Settle = meaning.Line script.Settle

-- what a line says, or the rule that it fails
abbrev pub unless : Option Rule → Meaning → Result Meaning Rule
unless None e = Ok e
unless (Some rule) e = Err rule

-- what a line says whose form may stand there, or the rule that it fails
unfoldable pub ruled : Given → Form → Result Meaning Rule
ruled g f = unless (broken g f) (meaning_of f)

unfoldable pub judged : Given → Form → Result Meaning Rule
judged g f = unless (least_rule g f) (meaning_of f)

-- what is said with one more line
unfoldable pub with_meaning : ℕ → Given → Meaning → Given
with_meaning line g (meaning.Version v) = record g { version = v; stage = stage.Named }
with_meaning line g (meaning.Kernels k) = record g { kernels = k; stage = stage.Processes }
with_meaning line g (meaning.Process k) = record g { homes = g.homes ++ k ∷ [] }
with_meaning line g (meaning.Wire p q) = record g { wires = g.wires ++ (p, q) ∷ []; stage = stage.Wires }
with_meaning line g (meaning.Line what) = record g { lines = g.lines ++ record { line = line; what = what } ∷ []; stage = stage.Calls }
