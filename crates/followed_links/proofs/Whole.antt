-- The laws on each run.
use Rattle.std.proofs.Common.{ℕ, ◌≤◌, ◌^◌, List, All, length}
use Rattle.charlotte_calls.specs.Setting.{IsValid}
use Rattle.charlotte_calls.specs.declared.names.EndId.{EndId}
use Rattle.charlotte_calls.specs.declared.setting.Setting.{Setting}
use Rattle.kernel_entries.specs.Ranges.{IsPlacedInRange}
use Rattle.kernel_entries.specs.declared.entry.Placed.{Placed}
use Rattle.run_process_steps.specs.Record.{IsLawfulRecord}
use Rattle.run_process_steps.specs.Acting.{Program}
use Rattle.run_process_steps.specs.Claims.{AreInOrder}
use Rattle.run_process_steps.specs.Acted.{AreActed, deeds_of}
use Rattle.run_process_steps.specs.Claimed.{AreWired}
use Rattle.run_process_steps.specs.Followed.{IsFollowed}
use Rattle.followed_links.proofs.Concluding.{acts-are-followed, acts-are-in-order}
use Rattle.followed_links.proofs.Following.{ProcessesKeep}
use Rattle.run_process_steps.proofs.ProcessSteps.{step_stands}
use Rattle.followed_links.proofs.Services.{moving, services}
use Rattle.followed_links.proofs.Starting.{start-follows}

pub processes : (version count : ℕ) → ProcessesKeep version count
processes version count = record {
  steps = λ s n os deeds i is few below may told. step_stands version count s n os deeds is few i below may told;
}

pub run-followed : (s : Setting) (programs : ℕ → Program) (merged : List Placed) (steps : ℕ → ℕ) → IsValid s → All IsPlacedInRange merged → length merged ≤ 2 ^ 28 → AreWired s programs → IsLawfulRecord s merged
    → (acted : AreActed s programs merged steps) → (x : EndId) → IsFollowed s.version x (deeds_of s programs merged steps acted)
run-followed s programs merged steps valid range few wired lawful acted x =
    acts-are-followed s programs merged steps lawful valid range few (services s.version (length s.homes)) (processes s.version (length s.homes)) moving (start-follows s programs valid wired) acted x

pub run-in-order : (s : Setting) (programs : ℕ → Program) (merged : List Placed) (steps : ℕ → ℕ) → IsValid s → All IsPlacedInRange merged → length merged ≤ 2 ^ 28 → AreWired s programs → IsLawfulRecord s merged
    → (acted : AreActed s programs merged steps) → AreInOrder (deeds_of s programs merged steps acted)
run-in-order s programs merged steps valid range few wired lawful acted =
    acts-are-in-order s programs merged steps lawful valid range few (services s.version (length s.homes)) (processes s.version (length s.homes)) moving (start-follows s programs valid wired) acted
