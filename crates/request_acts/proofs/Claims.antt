-- What holds in each replay of all processes holds of the deeds of each run.
use Rattle.std.proofs.Common.{ℕ, ◌≤◌, ◌^◌, List, length, All}
use Rattle.charlotte_calls.specs.Setting.{IsValid}
use Rattle.charlotte_calls.specs.declared.setting.Setting.{Setting}
use Rattle.kernel_entries.specs.Ranges.{IsPlacedInRange}
use Rattle.kernel_entries.specs.declared.entry.Placed.{Placed}
use Rattle.language_links.specs.Record.{IsLawfulRecord}
use Rattle.language_links.specs.Acting.{Program}
use Rattle.request_acts.specs.Acted.{AreReplayed}
use Rattle.request_acts.specs.Claimed.{ActsAreLinked, AreWired, HasLinks}
use Rattle.request_acts.proofs.Acted.{acted}

pub run-links : ActsAreLinked → (s : Setting) (programs : ℕ → Program) (merged : List Placed) (steps : ℕ → ℕ) (lawful : IsLawfulRecord s merged) → IsValid s → All IsPlacedInRange merged → length merged ≤ 2 ^ 28 → AreWired s programs
    → AreReplayed s programs merged steps → HasLinks s programs merged steps lawful
run-links all s programs merged steps lawful valid in_range few wired replayed =
    let one = acted s programs merged steps replayed lawful.run lawful.recorded in
    record { acted = one; linked = all s programs merged steps lawful valid in_range few wired one }
