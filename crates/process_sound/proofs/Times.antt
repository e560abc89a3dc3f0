-- How often numbers stand in lists of threads.
use Rattle.std.proofs.Common.{arith, ◌≡◌, ℕ, ◌+◌, ◌≤◌, Bool, true, false, not, cond, nat_eq, eqb-true, eq-eqb, List, [], ◌∷◌, ◌++◌, map, refl, sym, ap, subst, ◌∙◌, ⊎_elim}
use Rattle.std.specs.Prelude.{◌==◌}
use Rattle.std.specs.List.{filter}
use Rattle.machine_sound.specs.Sound.{one_if, times}
use Rattle.machine_sound.proofs.Placing.{decided}
use Rattle.end_protocol.specs.declared.kept.Accept.{Accept}
use Rattle.process_sound.specs.Ends.{IsAmong}

pub times_append : (n : ℕ) (xs ys : List ℕ) → times n (xs ++ ys) ≡ times n xs + times n ys
times_append n [] ys = omega arith
times_append n (x ∷ xs) ys = let rest = times_append n xs ys in omega arith

pub once_itself : (n : ℕ) → one_if (nat_eq n n) ≡ 1
once_itself n = ap one_if (eq-eqb n n refl)

by_test : (n k : ℕ) (b : Bool) → nat_eq n k ≡ b → (n ≡ k → ⊥) → one_if b ≡ 0
by_test n k true e other = absurd (other (eqb-true n k e))
by_test n k false e other = refl

pub never_other : (n k : ℕ) → (n ≡ k → ⊥) → one_if (nat_eq n k) ≡ 0
never_other n k other = by_test n k (nat_eq n k) refl other

-- of three lists, one behind the other
pub times_three : (n : ℕ) (xs ys zs : List ℕ) → times n (xs ++ ys ++ zs) ≡ times n xs + times n ys + times n zs
times_three n xs ys zs = let last = times_append n (xs ++ ys) zs in let first = times_append n xs ys in omega arith

-- ---- threads that accept

abbrev pub threads_of : List Accept → List ℕ
threads_of as' = map (λ a. a.thread) as'

pub among_times : (n : ℕ) (signature : List ℕ) (as' : List Accept) → IsAmong n signature as' → 1 ≤ times n (threads_of as')
among_times n signature [] is = absurd is
among_times n signature (a ∷ as') is =
    ⊎_elim
    (λ (here : (a.thread ≡ n) × (a.signature ≡ signature)).
    let one : one_if (nat_eq n a.thread) ≡ 1 = ap (λ k. one_if (nat_eq n k)) here.0 ∙ once_itself n in omega arith)
    (λ (there : IsAmong n signature as'). let rest = among_times n signature as' there in omega arith)
    is

-- without those of one thread
abbrev without : ℕ → List Accept → List Accept
without n as' = filter (λ a. not (a.thread == n)) as'

fewer : (k n : ℕ) (as' : List Accept) → times k (threads_of (without n as')) ≤ times k (threads_of as')
fewer k n [] = omega arith
fewer k n (a ∷ as') = by_this (not (a.thread == n)) (fewer k n as')
  where
    by_this : (b : Bool) → times k (threads_of (without n as')) ≤ times k (threads_of as') → times k (threads_of (cond b (a ∷ without n as') (without n as'))) ≤ times k (threads_of (a ∷ as'))
    by_this true rest = omega (arith, rest)
    by_this false rest = omega (arith, rest)

left_out : (k n : ℕ) → not (k == n) ≡ true → n ≡ k → ⊥
left_out k n apart same = let yes : (k == n) ≡ true = eq-eqb k n (sym same) in let no : not true ≡ true = ap not (sym yes) ∙ apart in cc

none_of : (n : ℕ) (as' : List Accept) → times n (threads_of (without n as')) ≡ 0
none_of n [] = refl
none_of n (a ∷ as') = by_this (not (a.thread == n)) refl (none_of n as')
  where
    by_this : (b : Bool) → not (a.thread == n) ≡ b → times n (threads_of (without n as')) ≡ 0 → times n (threads_of (cond b (a ∷ without n as') (without n as'))) ≡ 0
    by_this true apart rest = let here = never_other n a.thread (left_out a.thread n apart) in omega arith
    by_this false apart rest = rest

-- one of them goes on, and all others accept as before
pub goes_from : (k n : ℕ) (as' : List Accept) → 1 ≤ times n (threads_of as') → times k (threads_of (without n as')) + times k (n ∷ []) ≤ times k (threads_of as')
goes_from k n as' some =
    ⊎_elim
    (λ (e : k ≡ n). subst (λ i. times i (threads_of (without n as')) + times i (n ∷ []) ≤ times i (threads_of as')) (sym e)
    (let none = none_of n as' in let one = once_itself n in omega arith))
    (λ (e : k ≡ n → ⊥). let here = never_other k n e in let others = fewer k n as' in omega arith)
    (decided k n)
