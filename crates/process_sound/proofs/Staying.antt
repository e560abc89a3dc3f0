-- Threads that wait at ends go on to ask for the same.
use Rattle.std.proofs.Common.{arith, ◌≡◌, ℕ, zero, suc, ◌+◌, ◌≤◌, List, [], ◌∷◌, map, Option, Some, None, sym, subst, ◌∙◌}
use Rattle.std.specs.Prelude.{IfSome}
use Rattle.std.specs.List.{AllByRecursion}
use Rattle.lynx_meaning.specs.Needs.{Wanted}
use Rattle.machine_sound.specs.Sound.{one_if, times}
use Rattle.machine_turns.specs.Turns.{Turns, is_ready_after}
use Rattle.end_protocol.specs.declared.kept.Accept.{Accept}
use Rattle.end_protocol.specs.declared.kept.Kept.{Kept}
use Rattle.end_protocol.specs.declared.messages.Connect.{Connect}
use Rattle.end_protocol.specs.Falling.{outstanding_thread}
use Rattle.process_run.specs.States.{Holding, Keeps, Gone, Module, Place}
use Rattle.process_sound.specs.Machine.{asks}
use Rattle.process_sound.specs.Ends.{AreEnds, AreWaiting, IsAccepting, IsConnecting, IsHolding, waiting, waiting_in, waits}
use Rattle.process_sound.proofs.Times.{once_itself, times_three}

module _ (m : Module) (t u : Turns) where
  -- these threads ask for the same
  abbrev Same : List ℕ → Type 0
  Same ns = (n : ℕ) → 1 ≤ times n ns → asks n u ≡ asks n t

  first_same : (n : ℕ) (ns : List ℕ) → Same (n ∷ ns) → asks n u ≡ asks n t
  first_same n ns same = same n (let one = once_itself n in omega arith)

  rest_same : (n : ℕ) (ns : List ℕ) → Same (n ∷ ns) → Same ns
  rest_same n ns same = λ k some. same k (omega (arith, some))

  connecting : (c : Connect) → asks c.thread u ≡ asks c.thread t → IsConnecting m t c → IsConnecting m u c
  connecting c same is = (is.0, same ∙ is.1, is.2)

  outstanding_stay : (o : Option Connect) → Same (outstanding_thread o) → IfSome o (IsConnecting m t) → IfSome o (IsConnecting m u)
  outstanding_stay None same is = tt
  outstanding_stay (Some c) same is = connecting c (first_same c.thread [] same) is

  behind_stay : (cs : List Connect) → Same (map (λ c. c.thread) cs) → AllByRecursion (IsConnecting m t) cs → AllByRecursion (IsConnecting m u) cs
  behind_stay [] same all = tt
  behind_stay (c ∷ cs) same all =
      (connecting c (first_same c.thread (map (λ c. c.thread) cs) same) all.0, behind_stay cs (rest_same c.thread (map (λ c. c.thread) cs) same) all.1)

  accepts_stay : (as' : List Accept) → Same (map (λ a. a.thread) as') → AllByRecursion (IsAccepting m t) as' → AllByRecursion (IsAccepting m u) as'
  accepts_stay [] same all = tt
  accepts_stay (a ∷ as') same all =
      ((all.0.0, first_same a.thread (map (λ a. a.thread) as') same ∙ all.0.1, all.0.2), accepts_stay as' (rest_same a.thread (map (λ a. a.thread) as') same) all.1)

  waiting_stay : (k : Kept) → Same (waiting k) → AreWaiting m t k → AreWaiting m u k
  waiting_stay k same are =
      let one = outstanding_thread k.outstanding in
      let two = map (λ (c : Connect). c.thread) k.behind in
      let three = map (λ (a : Accept). a.thread) k.accepts in
      record {
        outstanding = outstanding_stay k.outstanding (λ n some. same n (let all = times_three n one two three in omega arith)) are.outstanding;
        behind = behind_stay k.behind (λ n some. same n (let all = times_three n one two three in omega arith)) are.behind;
        accepts = accepts_stay k.accepts (λ n some. same n (let all = times_three n one two three in omega arith)) are.accepts;
      }

  holding_stay : (version : ℕ) (h : Holding) → Same (waiting_in h) → IsHolding version m t h → IsHolding version m u h
  holding_stay version (Keeps k) same is = (is.0, waiting_stay k same is.1)
  holding_stay version (Gone own) same is = tt

  each_stay : (version : ℕ) (ps : List Place) → ((n : ℕ) → 1 ≤ waits n ps → asks n u ≡ asks n t) → AllByRecursion (λ p. IsHolding version m t p.holding) ps →
      AllByRecursion (λ p. IsHolding version m u p.holding) ps
  each_stay version [] same all = tt
  each_stay version (p ∷ ps) same all =
      (holding_stay version p.holding (λ n some. same n (omega arith)) all.0, each_stay version ps (λ n some. same n (omega arith)) all.1)

  once_so : (n waited owed : ℕ) → (1 ≤ waited + owed → asks n u ≡ asks n t) → waited + owed ≤ one_if (is_ready_after (asks n t)) → waited + owed ≤ one_if (is_ready_after (asks n u))
  once_so n zero zero same once = omega arith
  once_so n (suc waited) owed same once = subst (λ (o : Option Wanted). suc waited + owed ≤ one_if (is_ready_after o)) (sym (same (omega arith))) once
  once_so n zero (suc owed) same once = subst (λ (o : Option Wanted). zero + suc owed ≤ one_if (is_ready_after o)) (sym (same (omega arith))) once

  -- each thread that waits, or is still to have its outcome, asks for what it asked for
  pub ends_stay : (version : ℕ) (owed : List ℕ) (ps : List Place) → ((n : ℕ) → 1 ≤ waits n ps + times n owed → asks n u ≡ asks n t) → AreEnds version m t owed ps → AreEnds version m u owed ps
  ends_stay version owed ps same are = record {
    each = each_stay version ps (λ n some. same n (omega arith)) are.each;
    once = λ n. once_so n (waits n ps) (times n owed) (same n) (are.once n);
  }
