-- Programs that are LYNX processes, and when the links between them are as claimed.
use Rattle.std.specs.Prelude.{◌≡◌, ℕ, List, length, slice_get, Option, Some}
use Rattle.charlotte_calls.specs.declared.program.Next.{Next}
use Rattle.charlotte_calls.specs.declared.setting.Setting.{Setting}
use Rattle.kernel_entries.specs.declared.entry.Placed.{Placed}
use Rattle.kernel_turns.specs.Nodes.{Meaning}
use Rattle.plan_run.specs.Record.{IsLawfulRecord}
use Rattle.lynx_load.specs.Runs.{step}
use Rattle.lynx_load.specs.States.{State, start_of}
use Rattle.lynx_rt.specs.Programs.{Program as Process}
use Rattle.carried_ends.specs.Acting.{Program}
use Rattle.carried_ends.specs.Acted.{programs_of}
use Rattle.carried_ends.specs.Claimed.{HasLinks}
use Rattle.plan_run.specs.Run.{AreReplayed}
use Rattle.lynx_load.specs.Ends.{ends_of_each}
use Rattle.lynx_load.specs.Loading.{Loading}
use Rattle.lynx_load.specs.Roles.{last_of, state_of, version_of}
use Rattle.lynx_load.specs.declared.role.Role.{Role}

-- ---- what programs mean that are LYNX processes

-- the step is that of a process
abbrev pub meaning_by : {P : Type 0} → (P → State) → (P → Option Next) → (P → ℕ) → Meaning P State
meaning_by state last version = record { step = step; state = state; last = last; version = version }

-- a process by itself
abbrev pub processes : Meaning Process State
processes = meaning_by (λ p. p.process) (λ p. p.last) (λ p. p.process.version)

-- a process of a plan
abbrev pub roles : Meaning Role State
roles = meaning_by state_of last_of version_of

-- ---- how they begin

-- the processes of a setting begin with these programs
pub record BeginAs {P : Type 0} (m : Meaning P State) (s : Setting) (programs : ℕ → Program) (given : List P) : Type 0 where
  pub count : length given ≡ length s.homes
  pub states : (i : ℕ) (was : P) → slice_get given i ≡ Some was → m.state was ≡ start_of s.version (programs i).code (programs i).ends

-- the programs of the processes of a plan: the code of each module, with the ends that the wires give its process
abbrev pub plan_programs : Loading → ℕ → Program
plan_programs x = programs_of x.codes (ends_of_each x.plan.setting)

-- ---- how they are linked

-- Nodes with these programs were run, and their journals in this order are one lawful run of the link service. Each process replays its program over it, and
-- of the deeds in that replay all claims on requests, replies and carried ends hold
pub record AreLinkedNodes {P : Type 0} (m : Meaning P State) (s : Setting) (programs : ℕ → Program) (given : List P) (merged : List Placed) : Type 0 where
  pub replayed : AreReplayed m s given merged
  pub lawful : IsLawfulRecord s merged
  pub links : HasLinks s programs merged replayed.steps lawful
