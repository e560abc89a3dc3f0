-- In one replay of all processes each makes a replay of its own.
use Rattle.std.proofs.Common.{◌≡◌, ℕ, nat_eq, Bool, true, false, List, ◌∷◌, None, refl, sym, ap, subst, ◌∙◌}
use Rattle.std.proofs.lemmas.Bool.{eq-eqb, eqb-true}
use Rattle.kernel_entries.specs.Order.{of_kernel}
use Rattle.kernel_entries.specs.declared.entry.Entry.{Entry}
use Rattle.kernel_entries.specs.declared.entry.Placed.{Placed}
use Rattle.process_sound.specs.Runs.{step}
use Rattle.process_sound.specs.States.{State}
use Rattle.language_links.specs.Replay.{Replayed, Replays}
use Rattle.language_links.specs.Replay as replay
use Rattle.language_links.specs.Told.{call_of}
use Rattle.language_links.specs.Acting.{Acting, Acts, Calls, Done, Fleet, Pauses, Rests, Takes, called, hears_entry, paused, with_acting}
use Rattle.request_acts.specs.Acted.{process}
use Rattle.request_acts.proofs.Fleets.{asked_by, entries-here, entries-not, heard-here, heard-not, heard_by, set-other, set-self}
use Rattle.request_acts.proofs.Callers.{none-else}

module _ (home : ℕ → ℕ) where
  -- an entry without a call of this process
  passes : (e : Placed) (es : List Placed) (f : Fleet) (i : ℕ) (y : Replayed State) → call_of (process i) e.entry.what ≡ None → Replays step (process i) (hears_entry home e f i).replayed (of_kernel (home i) es) y
      → Replays step (process i) (f i).replayed (of_kernel (home i) (e ∷ es)) y
  passes e es f i y none r = by (nat_eq (home i) e.kernel) refl
    where
      by : (b : Bool) → nat_eq (home i) e.kernel ≡ b → Replays step (process i) (f i).replayed (of_kernel (home i) (e ∷ es)) y
      by true here =
          subst (λ (l : List Entry). Replays step (process i) (f i).replayed l y) (sym (entries-here home e f i es here))
          (replay.Passes (f i).replayed e.entry (of_kernel (home i) es) y none (subst (λ (z : Acting). Replays step (process i) z.replayed (of_kernel (home i) es) y) (heard-here home e f i here) r))
      by false away =
          subst (λ (l : List Entry). Replays step (process i) (f i).replayed l y) (sym (entries-not home e f i es away))
          (subst (λ (z : Acting). Replays step (process i) z.replayed (of_kernel (home i) es) y) (heard-not home e f i away) r)

  pub alone : {n : ℕ} {f g : Fleet} {es : List Placed} {ds : List Done} → Acts home n f es ds g → (i : ℕ) → Replays step (process i) (f i).replayed (of_kernel (home i) es) (g i).replayed
  alone (Rests n f) i = replay.Rests (f i).replayed
  alone (Pauses n f p given es ds g pausing acts) i = by (alone acts) (nat_eq p.0 i) refl
    where
      by : ((j : ℕ) → Replays step (process j) (with_acting p (paused given (f p.0)) f j).replayed (of_kernel (home j) es) (g j).replayed) → (b : Bool) → nat_eq p.0 i ≡ b
          → Replays step (process i) (f i).replayed (of_kernel (home i) es) (g i).replayed
      by rest true same =
          subst (λ (j : ℕ). Replays step (process j) (f j).replayed (of_kernel (home j) es) (g j).replayed) (eqb-true p.0 i same)
          (replay.Pauses (f p.0).replayed given (of_kernel (home p.0) es) (g p.0).replayed pausing.is_given pausing.no_call
          (subst (λ (z : Acting). Replays step p z.replayed (of_kernel (home p.0) es) (g p.0).replayed) (set-self p (paused given (f p.0)) f) (rest p.0)))
      by rest false other = subst (λ (z : Acting). Replays step (process i) z.replayed (of_kernel (home i) es) (g i).replayed) (set-other p (paused given (f p.0)) f i other) (rest i)
  alone (Calls n f p given c e es ds g own call asking acts) i = by (alone acts) (nat_eq p.0 i) refl
    where
      here : nat_eq (home p.0) e.kernel ≡ true
      here = eq-eqb (home p.0) e.kernel (sym own)

      by : ((j : ℕ) → Replays step (process j) (hears_entry home e (asked_by p given f) j).replayed (of_kernel (home j) es) (g j).replayed) → (b : Bool) → nat_eq p.0 i ≡ b
          → Replays step (process i) (f i).replayed (of_kernel (home i) (e ∷ es)) (g i).replayed
      by rest true same =
          subst (λ (j : ℕ). Replays step (process j) (f j).replayed (of_kernel (home j) (e ∷ es)) (g j).replayed) (eqb-true p.0 i same)
          (subst (λ (l : List Entry). Replays step p (f p.0).replayed l (g p.0).replayed) (sym (entries-here home e f p.0 es here))
          (replay.Asks (f p.0).replayed given c e.entry (of_kernel (home p.0) es) (g p.0).replayed asking.is_given asking.asks call
          (subst (λ (z : Acting). Replays step p z.replayed (of_kernel (home p.0) es) (g p.0).replayed)
          (heard-here home e (asked_by p given f) p.0 here ∙ ap (heard_by p.0 e.entry) (set-self p (called given (f p.0)) f)) (rest p.0))))
      by rest false other =
          subst (λ (z : Acting). Replays step (process i) z.replayed (of_kernel (home i) (e ∷ es)) (g i).replayed) (set-other p (called given (f p.0)) f i other)
          (passes e es (asked_by p given f) i (g i).replayed (none-else p i c e.entry.what call other) (rest i))
  alone (Takes n f e es ds g none acts) i = passes e es f i (g i).replayed (none (process i)) (alone acts i)
