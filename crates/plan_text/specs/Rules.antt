-- The rules of plans: those of a script's header, and what is said of hosts and wires besides. What a line adds.
use Rattle.std.specs.Prelude.{ℕ, ◌+◌, List, [], ◌∷◌, ◌++◌, Bool, not, ◌||◌, ◌==◌, nat_le, if◌then◌else◌, length, Option, Some, None, Result, Ok, Err}
use Rattle.std.specs.List.{list_any}
use Rattle.charlotte_calls.specs.declared.names.Pid.{Pid}
use Rattle.charlotte_text.specs.declared.number.Number.{Number}
use Rattle.lynx_plan.specs.declared.meaning.Meaning.{Meaning}
use Rattle.lynx_plan.specs.declared.meaning.Meaning.TheVariants.{Wire}
use Rattle.lynx_plan.specs.declared.rule.Rule.{Rule}
use Rattle.lynx_plan.specs.declared.rule.Rule.TheVariants.{ProcessIsNotThere, WiresAreTooMany, ProcessIsNotFree}
use Rattle.lynx_plan.specs.Rules.{is_below, known_process, judged, with_meaning}
use Rattle.plan_text.specs.declared.plan.Hosting.{Hosting}
use Rattle.plan_text.specs.declared.form.Role.{Role}
use Rattle.plan_text.specs.declared.form.Role.TheVariants.{Plain, Runs, Hosts}
use Rattle.plan_text.specs.declared.form.PlanForm.{PlanForm}
use Rattle.plan_text.specs.declared.rules.Place.{Place}
use Rattle.plan_text.specs.declared.rules.Place.TheVariants as place
use Rattle.plan_text.specs.Given.{PlanGiven}

infixl 10 ◌>>=◌
-- what is said next, unless a rule fails
abbrev pub ◌>>=◌ : {A B : Type 0} → Result A Rule → (A → Result B Rule) → Result B Rule
(Ok x) >>= f = f x
(Err rule) >>= f = Err rule

-- ---- what a line of a plan fails, and a line of a script does not

-- a process is the host or the one that moves
abbrev pub is_of : Pid → Hosting → Bool
is_of p h = (h.host.0 == p.0) || (h.moved.0 == p.0)

abbrev pub is_host : List Hosting → Pid → Bool
is_host hosts p = list_any (λ h. h.host.0 == p.0) hosts

-- a process that may move is an earlier one, which runs a file and has no host yet
abbrev pub free_process : List Hosting → Option Pid → Result Pid Rule
free_process hosts None = Err ProcessIsNotFree
free_process hosts (Some p) = if list_any (is_of p) hosts then Err ProcessIsNotFree else Ok p

-- the process that moves to a host: it is declared by the host's line or before, and may move
unfoldable pub hosted : PlanGiven → Number → Result Pid Rule
hosted g p = if not (is_below p (length g.header.homes + 1)) then Err ProcessIsNotThere else free_process g.hosts (known_process g.header p)

-- of a wire: there are not too many, those of the hosts included, and it names no host
unfoldable pub wire_rule : PlanGiven → Pid → Pid → Option Rule
wire_rule g p q =
    if nat_le 4096 (length g.header.wires + length g.hosts) then Some WiresAreTooMany
    else if is_host g.hosts p || is_host g.hosts q then Some ProcessIsNotFree
    else None

abbrev pub plain_rule : PlanGiven → Meaning → Option Rule
plain_rule g (Wire p q) = wire_rule g p q
plain_rule g m = None

abbrev pub plain : Option Rule → Meaning → Result (Meaning × Place) Rule
plain None m = Ok (m, place.Plain)
plain (Some rule) m = Err rule

-- what a line says that fails no rule of scripts, or the least rule of plans that it fails
abbrev pub checked : PlanGiven → Meaning → Role → Result (Meaning × Place) Rule
checked g m Plain = plain (plain_rule g m) m
checked g m (Runs name) = Ok (m, place.Runs name)
checked g m (Hosts p n) = hosted g p >>= λ moved. Ok (m, place.Hosts moved n)

-- what a line says, or the least rule that it fails
unfoldable pub plan_judged : PlanGiven → PlanForm → Result (Meaning × Place) Rule
plan_judged g f = judged g.header f.form >>= λ m. checked g m f.role

-- ---- what a line adds

-- the process whose line it is has the next number
unfoldable pub with_place : ℕ → PlanGiven → Place → PlanGiven
with_place line g place.Plain = g
with_place line g (place.Runs name) = record g { files = g.files ++ name ∷ []; lines = g.lines ++ line ∷ [] }
with_place line g (place.Hosts p n) =
    record g { hosts = g.hosts ++ record { host = record { 0 = length g.header.homes }; moved = p; after = n } ∷ []; lines = g.lines ++ line ∷ [] }

unfoldable pub with_header : ℕ → PlanGiven → Meaning → PlanGiven
with_header line g m = record g { header = with_meaning line g.header m }

-- what is said with one more line
abbrev pub with_line : ℕ → PlanGiven → Meaning × Place → PlanGiven
with_line line g said = with_header line (with_place line g said.1) said.0
