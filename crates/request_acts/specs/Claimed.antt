-- The claims on the deeds of a run whose processes are LYNX programs.
use Rattle.std.specs.Prelude.{◌≡◌, ℕ, ◌<◌, ◌≤◌, ◌^◌, List, length, take, All}
use Rattle.std.specs.List.{AllByRecursion, IsDistinct}
use Rattle.charlotte_calls.specs.EndEq.{end_eq}
use Rattle.charlotte_calls.specs.Setting.{IsValid}
use Rattle.charlotte_calls.specs.declared.setting.Setting.{Setting}
use Rattle.kernel_entries.specs.Ranges.{IsPlacedInRange}
use Rattle.kernel_entries.specs.declared.entry.Placed.{Placed}
use Rattle.service_step.specs.Run.{start_state, state_after}
use Rattle.service_step.specs.declared.state.Place.TheVariants.{Owned}
use Rattle.language_links.specs.Law.{joined}
use Rattle.language_links.specs.Record.{IsLawfulRecord}
use Rattle.process_sound.specs.States.{start_of}
use Rattle.process_sound.specs.Processes.{IsRunning}
use Rattle.language_links.specs.Acting.{Program}
use Rattle.language_links.specs.Claims.{AreCarried, AreInOrder, States}
use Rattle.request_acts.specs.Acted.{AreActed, deeds_of, process}

-- each process begins with ends that the setting wires to it, each once, and with code that is sound
pub record AreWired (s : Setting) (programs : ℕ → Program) : Type 0 where
  pub own : (i : ℕ) → i < length s.homes → AllByRecursion (λ x. ((start_state s).ends x).place ≡ Owned (process i)) (programs i).ends
  pub apart : (i : ℕ) → i < length s.homes → IsDistinct end_eq (programs i).ends
  pub few : (i : ℕ) → i < length s.homes → length (programs i).ends ≤ 8192
  pub sound : (i : ℕ) → i < length s.homes → IsRunning (start_of s.version (programs i).code (programs i).ends)

-- the service after so many entries of a run
abbrev pub states_of : (s : Setting) (merged : List Placed) → IsLawfulRecord s merged → States
states_of s merged lawful n = state_after (start_state s) (joined (take n lawful.lawfully.served.parts))

-- requests are accepted at most once and in order, replies go to their requests, and the ends that both carry are where they should be
pub record AreLinked (s : Setting) (programs : ℕ → Program) (merged : List Placed) (steps : ℕ → ℕ) (lawful : IsLawfulRecord s merged)
    (acted : AreActed s programs merged steps) : Type 0 where
  pub in_order : AreInOrder (deeds_of s programs merged steps acted)
  pub carried : AreCarried (states_of s merged lawful) (length merged) (deeds_of s programs merged steps acted)

-- It is so in each replay of all processes over the entries of a run
abbrev pub ActsAreLinked : Type 0
ActsAreLinked =
    (s : Setting) (programs : ℕ → Program) (merged : List Placed) (steps : ℕ → ℕ) (lawful : IsLawfulRecord s merged)
    → IsValid s → All IsPlacedInRange merged → length merged ≤ 2 ^ 28 → AreWired s programs
    → (acted : AreActed s programs merged steps) → AreLinked s programs merged steps lawful acted

-- a run has deeds, and they are so
pub record HasLinks (s : Setting) (programs : ℕ → Program) (merged : List Placed) (steps : ℕ → ℕ) (lawful : IsLawfulRecord s merged) : Type 0 where
  pub acted : AreActed s programs merged steps
  pub linked : AreLinked s programs merged steps lawful acted
