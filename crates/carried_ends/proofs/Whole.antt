-- The laws on each run.
use Rattle.std.proofs.Common.{ℕ, ◌≤◌, ◌^◌, List, All, length}
use Rattle.std.specs.List.{AllByRecursion}
use Rattle.charlotte_calls.specs.Setting.{IsValid}
use Rattle.charlotte_calls.specs.declared.setting.Setting.{Setting}
use Rattle.kernel_entries.specs.Ranges.{IsPlacedInRange}
use Rattle.kernel_entries.specs.declared.entry.Placed.{Placed}
use Rattle.lost_ends.specs.Record.{IsLawfulRecord}
use Rattle.lost_ends.specs.Acting.{Program}
use Rattle.lost_ends.specs.Claims.{AreCarried, AreWith}
use Rattle.lost_ends.specs.Acted.{AreActed, AreReplayed, deeds_of}
use Rattle.lost_ends.specs.Claimed.{ActsAreLinked, AreWired, HasLinks, states_of}
use Rattle.lost_ends.proofs.Claims.{run-links}
use Rattle.lost_ends.proofs.Services.{moving, services}
use Rattle.lost_ends.proofs.Starting.{start-deeds, start-follows}
use Rattle.lost_ends.proofs.Whole.{processes, run-in-order}
use Rattle.carried_ends.proofs.UnderWayCarried.{all-arrive, carried}

pub run-arrives : (s : Setting) (programs : ℕ → Program) (merged : List Placed) (steps : ℕ → ℕ) → IsValid s → All IsPlacedInRange merged → length merged ≤ 2 ^ 28 → AreWired s programs
    → (lawful : IsLawfulRecord s merged) → (acted : AreActed s programs merged steps) → AllByRecursion (AreWith (states_of s merged lawful)) (deeds_of s programs merged steps acted)
run-arrives s programs merged steps valid range few wired lawful acted =
    (all-arrive s (services s.version (length s.homes)) (processes s.version (length s.homes)) moving programs merged steps lawful valid range few (start-follows s programs valid wired) (start-deeds s programs valid wired) acted).arrived

pub run-carried : (s : Setting) (programs : ℕ → Program) (merged : List Placed) (steps : ℕ → ℕ) → IsValid s → All IsPlacedInRange merged → length merged ≤ 2 ^ 28 → AreWired s programs
    → (lawful : IsLawfulRecord s merged) → (acted : AreActed s programs merged steps) → AreCarried (states_of s merged lawful) (length merged) (deeds_of s programs merged steps acted)
run-carried s programs merged steps valid range few wired lawful acted =
    carried s (services s.version (length s.homes)) (processes s.version (length s.homes)) moving programs merged steps lawful valid range few (start-follows s programs valid wired) (start-deeds s programs valid wired) acted

pub acts-linked : ActsAreLinked
acts-linked s programs merged steps lawful valid range few wired acted = record {
  in_order = run-in-order s programs merged steps valid range few wired lawful acted;
  carried = run-carried s programs merged steps valid range few wired lawful acted;
}

pub run-has-links : (s : Setting) (programs : ℕ → Program) (merged : List Placed) (steps : ℕ → ℕ) (lawful : IsLawfulRecord s merged) → IsValid s → All IsPlacedInRange merged → length merged ≤ 2 ^ 28 → AreWired s programs
    → AreReplayed s programs merged steps → HasLinks s programs merged steps lawful
run-has-links = run-links acts-linked
