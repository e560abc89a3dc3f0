-- Of each run whose processes are LYNX programs there are deeds, and no others.
use Rattle.std.proofs.Common.{◌≡◌, ◌⊎◌, ℕ, zero, suc, ◌+◌, ◌<◌, ◌≤◌, true, false, List, ◌++◌, length, map, inl, inr, refl, sym, ap, ◌∙◌, arith}
use Rattle.std.specs.Prelude.{leb}
use Rattle.std.specs.List.{range_with_len}
use Rattle.std.proofs.lemmas.Bool.Decides.{leb_tells}
use Rattle.charlotte_calls.specs.declared.setting.Setting.{Setting}
use Rattle.kernel_entries.specs.Order.{of_kernel}
use Rattle.kernel_entries.specs.declared.entry.Placed.{Placed}
use Rattle.kernel_world.specs.Run.{IsRecord}
use Rattle.kernel_world.specs.World.{Event}
use Rattle.process_sound.specs.Runs.{step}
use Rattle.process_sound.specs.States.{State, start_of}
use Rattle.language_links.specs.Replay.{Replayed, Replays, replay_start}
use Rattle.language_links.specs.Acting.{Acting, Done, Program, at_end, at_start, done_by}
use Rattle.request_acts.specs.Acted.{AreActed, AreReplayed, deeds_of, home_of, process}
use Rattle.request_acts.proofs.Alone.{alone}
use Rattle.request_acts.proofs.Making.{made}
use Rattle.request_acts.proofs.One.{AreOne, joined-same, one}
use Rattle.request_acts.proofs.Paused.{one-after}
use Rattle.request_acts.proofs.Recorded.{own-entries}

module _ (s : Setting) (programs : ℕ → Program) (merged : List Placed) (steps : ℕ → ℕ) where
  -- ---- there are deeds

  module _ (r : AreReplayed s programs merged steps) where
    abbrev Below : ℕ → Type 0
    Below i = ((leb (length s.homes) i ≡ true) × (length s.homes ≤ i)) ⊎ ((leb (length s.homes) i ≡ false) × (i < length s.homes))

    -- where each comes to
    ends-at : (i : ℕ) → Below i → Replayed State
    ends-at i (inl above) = replay_start (start_of s.version (programs i).code (programs i).ends)
    ends-at i (inr below) = (r.replays i below.1).1.at

    abbrev ends : ℕ → Replayed State
    ends i = ends-at i (leb_tells (length s.homes) i)

    replays-there : (i : ℕ) (b : Below i) → i < length s.homes → Replays step (process i) (at_start s.version programs i).replayed (of_kernel (home_of s i) merged) (ends-at i b)
    unfolding ends-at
    replays-there i (inl above) within = absurd (omega (arith, above.1, within))
    replays-there i (inr below) within = (r.replays i below.1).1.replay

    steps-there : (i : ℕ) (b : Below i) → i < length s.homes → (ends-at i b).steps ≡ steps i
    unfolding ends-at
    steps-there i (inl above) within = absurd (omega (arith, above.1, within))
    steps-there i (inr below) within = (r.replays i below.1).1.steps_are

    pub acted : (es : List Event) → IsRecord s es merged → AreActed s programs merged steps
    acted es recorded =
        let all = made (home_of s) (length s.homes) ends 0 merged (own-entries s es merged recorded) (at_start s.version programs) (λ i within. replays-there i (leb_tells (length s.homes) i) within) in
        record {
          before_calls = all.deeds;
          last = all.last;
          acts = all.acts;
          steps_are = λ i within. ap (λ (x : Replayed State). x.steps) (all.ended i within) ∙ steps-there i (leb_tells (length s.homes) i) within;
          idle = λ i above. all.others i above;
        }

  -- ---- each makes its own replay

  pub replays-each : (a : AreActed s programs merged steps) (i : ℕ) → Replays step (process i) (replay_start (start_of s.version (programs i).code (programs i).ends)) (of_kernel (home_of s i) merged) (a.last i).replayed
  replays-each a i = alone (home_of s) a.acts i

  pub is-replayed : AreActed s programs merged steps → AreReplayed s programs merged steps
  is-replayed a = record {
    replays = λ i within. ((a.last i).replayed.state, record { at = (a.last i).replayed; replay = replays-each a i; state_is = refl; steps_are = a.steps_are i within });
  }

  -- ---- there are no others

  module _ (a b : AreActed s programs merged steps) where
    both : AreOne (home_of s) a.before_calls b.before_calls a.last b.last
    both = one (home_of s) merged a.acts b.acts (λ i. joined-same (at_start s.version programs i) (at_start s.version programs i) refl)

    pub one-last : (i : ℕ) → i < length s.homes → a.last i ≡ b.last i
    one-last i within = let j = both.alike i in one-after j.left j.right refl (a.steps_are i within ∙ sym (b.steps_are i within))

    ends-same : (n from count : ℕ) → ((i : ℕ) → from ≤ i → i < from + count → a.last i ≡ b.last i)
        → at_end n a.last (map process (range_with_len from count)) ≡ at_end n b.last (map process (range_with_len from count))
    ends-same n from zero same = refl
    ends-same n from (suc count) same =
        ap (λ (x : Acting). done_by (process from) n x.since ++ at_end n a.last (map process (range_with_len (from + 1) count))) (same from (omega arith) (omega arith))
        ∙ ap (λ (l : List Done). done_by (process from) n (b.last from).since ++ l) (ends-same n (from + 1) count (λ i above below. same i (omega (arith, above)) (omega (arith, below))))

    pub one-deeds : deeds_of s programs merged steps a ≡ deeds_of s programs merged steps b
    one-deeds =
        ap (λ (l : List Done). l ++ at_end (length merged) a.last (map process (range_with_len 0 (length s.homes)))) both.deeds
        ∙ ap (λ (l : List Done). b.before_calls ++ l) (ends-same (length merged) 0 (length s.homes) (λ i above below. one-last i (omega (arith, below))))
