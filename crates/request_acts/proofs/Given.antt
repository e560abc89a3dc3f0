-- The programs of a run as its clauses have them: a list, in the order of processes.
use Rattle.std.proofs.Common.{◌≡◌, ℕ, List, length, Some, inl, inr, subst, arith}
use Rattle.std.specs.Prelude.{slice_get}
use Rattle.std.proofs.lemmas.Option.{slice_get_cases}
use Rattle.charlotte_calls.specs.declared.setting.Setting.{Setting}
use Rattle.kernel_entries.specs.Order.{of_kernel}
use Rattle.kernel_entries.specs.declared.entry.Placed.{Placed}
use Rattle.kernel_world.specs.Run.{IsRecord}
use Rattle.kernel_world.specs.World.{Event}
use Rattle.process_sound.specs.Runs.{step}
use Rattle.process_sound.specs.States.{State, start_of}
use Rattle.language_links.specs.Replay.{ReplaysProgram}
use Rattle.language_links.specs.Acting.{Program}
use Rattle.request_acts.specs.Acted.{AreActed, AreReplayed, home_of, process}
use Rattle.request_acts.proofs.Acted.{acted}

module _ {P : Type 0} (s : Setting) (given : List P) (state : P → State) (programs : ℕ → Program) (merged : List Placed) (steps : ℕ → ℕ)
    (count : length given ≡ length s.homes)
    (started : (i : ℕ) (was : P) → slice_get given i ≡ Some was → state was ≡ start_of s.version (programs i).code (programs i).ends)
    (replays : (i : ℕ) (was : P) → slice_get given i ≡ Some was → (last : State) × ReplaysProgram step (state was) (process i) (of_kernel (home_of s i) merged) last (steps i)) where
  abbrev Replays : ℕ → Type 0
  Replays i = (last : State) × ReplaysProgram step (start_of s.version (programs i).code (programs i).ends) (process i) (of_kernel (home_of s i) merged) last (steps i)

  pub all-replayed : AreReplayed s programs merged steps
  all-replayed = record {
    replays = λ i within.
        elim (slice_get_cases given i).1 [
          | inl there ↦
              (let one = replays i there.0 there.2 in
              let at : ReplaysProgram step (start_of s.version (programs i).code (programs i).ends) (process i) (of_kernel (home_of s i) merged) one.0 (steps i)
              = subst (λ (x : State). ReplaysProgram step x (process i) (of_kernel (home_of s i) merged) one.0 (steps i)) (started i there.0 there.2) one.1 in
              (one.0, at))
          | inr past ↦ absurd (omega (arith, past.0, within, count))
        ];
  }

  -- the run has deeds
  pub given-acted : (es : List Event) → IsRecord s es merged → AreActed s programs merged steps
  given-acted es recorded = acted s programs merged steps all-replayed es recorded
