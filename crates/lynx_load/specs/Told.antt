-- What code has of failures and of codes: the line of the failure, and the codes that were loaded.
use Rattle.std.specs.Prelude.{◌≡◌, ◌≢◌, ⊤, List, ◌++◌, Result, Ok, Err, ℕ}
use Rattle.lynx_code.specs.declared.code.Code.{Code as ACode}
use Rattle.lynx_command.specs.Failures.{failure_text, status_of}
use Rattle.lynx_command.specs.declared.failure.Failure.TheVariants.{NoMemory}
use Rattle.lynx_load.specs.Loading.{LoadCodes, Unloaded}
use Rattle.lynx_load.specs.declared.fault.LoadFault.{LoadFault}
use Rattle.lynx_load.specs.declared.fault.LoadFault.TheVariants as fault
use Rattle.lynx_outside.specs.Files.{Source, WereRead}
use Rattle.lynx_outside.specs.Logged.{Read}

-- the line of a failure, with its status. Where memory is wanting, for the line too, that is told
abbrev pub IsToldAs : LoadFault → Unloaded → Type 0
IsToldAs (fault.Failed status text) x = (x.failure ≢ NoMemory) × (status ≡ status_of x.failure) × (text.items ≡ failure_text x.file x.failure)
IsToldAs fault.NoMemory x = ⊤

-- codes that were loaded stand behind those that were there
abbrev pub AreCodes : Result (Unit {0}) LoadFault → List ACode → List ACode → Result (List ACode) Unloaded → Type 0
AreCodes (Ok u) old new (Ok codes) = new ≡ old ++ codes
AreCodes (Err fault) old new (Err x) = IsToldAs fault x
AreCodes result old new found = ⊥

-- each of these modules was read, and its code put behind those that were there, up to the first that has none
abbrev pub LoadsOnto : Source → Source → List (List ℕ) → Result (Unit {0}) LoadFault → List ACode → List ACode → Type 0
LoadsOnto before after files result old new =
    (reads : List Read) × (found : Result (List ACode) Unloaded) × WereRead before after reads × LoadCodes files reads found × AreCodes result old new found
