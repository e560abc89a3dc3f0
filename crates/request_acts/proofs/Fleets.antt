-- All processes, when one of them is changed, and when those of a kernel hear an entry.
use Rattle.std.proofs.Common.{◌≡◌, ℕ, nat_eq, true, false, List, ◌∷◌, Option, refl, sym}
use Rattle.std.proofs.lemmas.Bool.{eq-eqb, eqb-true}
use Rattle.charlotte_calls.specs.declared.calls.Answer.{Answer}
use Rattle.charlotte_calls.specs.declared.names.Pid.{Pid}
use Rattle.kernel_entries.specs.Order.{of_kernel}
use Rattle.kernel_entries.specs.declared.entry.Entry.{Entry}
use Rattle.kernel_entries.specs.declared.entry.Placed.{Placed}
use Rattle.language_links.specs.Replay.{with_entry}
use Rattle.language_links.proofs.Run.{apart-sym}
use Rattle.language_links.specs.Acting.{Acting, Fleet, called, hears_entry, with_acting}
use Rattle.request_acts.specs.Acted.{process}

-- one process hears an entry
abbrev pub heard_by : ℕ → Entry → Acting → Acting
heard_by i e x = record x { replayed = with_entry (process i) e x.replayed }

-- one process asks a call
abbrev pub asked_by : Pid → Option Answer → Fleet → Fleet
asked_by p given f = with_acting p (called given (f p.0)) f

pub set-same : (p : Pid) (x : Acting) (f : Fleet) (i : ℕ) → nat_eq p.0 i ≡ true → with_acting p x f i ≡ x
set-same p x f i same = rw same refl

pub set-self : (p : Pid) (x : Acting) (f : Fleet) → with_acting p x f p.0 ≡ x
set-self p x f = set-same p x f p.0 (eq-eqb p.0 p.0 refl)

pub set-other : (p : Pid) (x : Acting) (f : Fleet) (i : ℕ) → nat_eq p.0 i ≡ false → with_acting p x f i ≡ f i
set-other p x f i other = rw other refl

module _ (home : ℕ → ℕ) (e : Placed) (f : Fleet) (i : ℕ) where
  pub heard-here : nat_eq (home i) e.kernel ≡ true → hears_entry home e f i ≡ heard_by i e.entry (f i)
  heard-here here = rw here refl

  pub heard-not : nat_eq (home i) e.kernel ≡ false → hears_entry home e f i ≡ f i
  heard-not away = rw away refl

  -- the entries of its kernel
  pub entries-here : (es : List Placed) → nat_eq (home i) e.kernel ≡ true → of_kernel (home i) (e ∷ es) ≡ e.entry ∷ of_kernel (home i) es
  entries-here es here = let back : nat_eq e.kernel (home i) ≡ true = eq-eqb e.kernel (home i) (sym (eqb-true (home i) e.kernel here)) in rw back refl

  pub entries-not : (es : List Placed) → nat_eq (home i) e.kernel ≡ false → of_kernel (home i) (e ∷ es) ≡ of_kernel (home i) es
  entries-not es away = rw (apart-sym (home i) e.kernel away) refl
