-- Threads at their numbers, and where they wait.
use Rattle.std.proofs.Common.{arith, ◌≡◌, ℕ, zero, suc, ◌+◌, ◌≤◌, ◌<◌, List, [], ◌∷◌, ◌++◌, length, nat_eq, Bool, true, false, if◌then◌else◌, Option, Some, None, slice_get, slice_set, refl, sym, ap, subst, ◌∙◌, ◌⊎◌, ⊎_elim, inl, inr, not-suc-le-zero, le_of_suc-le-suc}
use Rattle.std.proofs.lemmas.Bool.{eq-eqb, eqb-true, eqb-false}
use Rattle.std.proofs.lemmas.Option.{slice_get_within}
use Rattle.machine_turns.specs.Threads.{Standing}
use Rattle.lynx_meaning.specs.Needs.{Wanted}
use Rattle.machine_turns.specs.Turns.{Turns, is_ready_after, with_thread}
use Rattle.machine_sound.specs.Sound.{one_if, places, places_for, times, times_in}

-- ---- lists

module _ {X : Type 0} where
  pub get_set : (xs : List X) (n : ℕ) (x : X) → n < length xs → slice_get (slice_set xs n x) n ≡ Some x
  get_set [] n x there = absurd (not-suc-le-zero there)
  get_set (y ∷ xs) zero x there = refl
  get_set (y ∷ xs) (suc n) x there = get_set xs n x (le_of_suc-le-suc there)

  pub get_other : (xs : List X) (n k : ℕ) (x : X) → (k ≡ n → ⊥) → slice_get (slice_set xs n x) k ≡ slice_get xs k
  get_other [] n k x other = refl
  get_other (y ∷ xs) zero zero x other = absurd (other refl)
  get_other (y ∷ xs) zero (suc k) x other = refl
  get_other (y ∷ xs) (suc n) zero x other = refl
  get_other (y ∷ xs) (suc n) (suc k) x other = get_other xs n k x (λ e. other (ap suc e))

  pub set_set : (xs : List X) (n : ℕ) (x y : X) → slice_set (slice_set xs n x) n y ≡ slice_set xs n y
  set_set [] n x y = refl
  set_set (z ∷ xs) zero x y = refl
  set_set (z ∷ xs) (suc n) x y = ap (λ (ys : List X). z ∷ ys) (set_set xs n x y)

  pub set_same : (xs : List X) (n : ℕ) (x : X) → slice_get xs n ≡ Some x → slice_set xs n x ≡ xs
  set_same [] n x e = refl
  set_same (y ∷ xs) zero x e = let same : y ≡ x = cc in ap (λ (z : X). z ∷ xs) (sym same)
  set_same (y ∷ xs) (suc n) x e = ap (λ (ys : List X). y ∷ ys) (set_same xs n x e)

-- ---- how often

same : (n : ℕ) → one_if (nat_eq n n) ≡ 1
same n = ap one_if (eq-eqb n n refl)

by_test : (n k : ℕ) (b : Bool) → nat_eq n k ≡ b → (n ≡ k → ⊥) → one_if b ≡ 0
by_test n k true e other = absurd (other (eqb-true n k e))
by_test n k false e other = refl

other_one : (n k : ℕ) → (n ≡ k → ⊥) → one_if (nat_eq n k) ≡ 0
other_one n k other = by_test n k (nat_eq n k) refl other

times_append : (n : ℕ) (xs ys : List ℕ) → times n (xs ++ ys) ≡ times n xs + times n ys
times_append n [] ys = omega arith
times_append n (x ∷ xs) ys = let rest = times_append n xs ys in omega arith

-- each number is another one, or not
by_decision : (k n : ℕ) (b : Bool) → nat_eq k n ≡ b → (k ≡ n) ⊎ (k ≡ n → ⊥)
by_decision k n true e = inl (eqb-true k n e)
by_decision k n false e = inr (eqb-false k n e)

pub decided : (k n : ℕ) → (k ≡ n) ⊎ (k ≡ n → ⊥)
decided k n = by_decision k n (nat_eq k n) refl

-- ---- threads at their places

abbrev pub ArePlaced : Turns → Type 0
ArePlaced t = (k : ℕ) → places k t ≡ places_for (slice_get t.threads k)

abbrev Place : Turns → ℕ → Type 0
Place t k = places k t ≡ places_for (slice_get t.threads k)

-- one thread changes, and the others have as many places as before
one_changes : (t u : Turns) (n : ℕ) (o : Option Standing) → n < length t.threads → u.threads ≡ slice_set t.threads n o → ArePlaced t → places n u ≡ places_for (Some o) →
    ((k : ℕ) → (k ≡ n → ⊥) → places k u ≡ places k t) → ArePlaced u
one_changes t u n o there is placed here others k =
    ⊎_elim
    (λ (e : k ≡ n). subst (λ i. Place u i) (sym e) (subst (λ (q : Option (Option Standing)). places n u ≡ places_for q) (sym (ap (λ (ts : List (Option Standing)). slice_get ts n) is ∙ get_set t.threads n o there)) here))
    (λ (e : k ≡ n → ⊥).
    let at_k : slice_get u.threads k ≡ slice_get t.threads k = ap (λ (ts : List (Option Standing)). slice_get ts k) is ∙ get_other t.threads n k o e in
    subst (λ (q : Option (Option Standing)). places k u ≡ places_for q) (sym at_k) (others k e ∙ placed k))
    (decided k n)

unblocked : (b : Bool) → 0 < (if b then 0 else 1) → b ≡ false
unblocked true some = absurd (not-suc-le-zero some)
unblocked false some = refl

-- a thread that has a place stands, and is not blocked
stands_unblocked : (o : Option (Option Standing)) → 0 < places_for o → (s : Standing) × (o ≡ Some (Some s)) × (is_ready_after s.wanted ≡ false)
stands_unblocked None some = absurd (not-suc-le-zero some)
stands_unblocked (Some None) some = absurd (not-suc-le-zero some)
stands_unblocked (Some (Some s)) some = (s, refl, unblocked (is_ready_after s.wanted) some)

pub standing_there : (t : Turns) (n : ℕ) → ArePlaced t → 0 < places n t → (s : Standing) × (slice_get t.threads n ≡ Some (Some s)) × (is_ready_after s.wanted ≡ false)
standing_there t n placed some = let at_n = placed n in stands_unblocked (slice_get t.threads n) (omega arith)

pub running_there : (t : Turns) (n : ℕ) → ArePlaced t → t.running ≡ Some n → (s : Standing) × (slice_get t.threads n ≡ Some (Some s)) × (is_ready_after s.wanted ≡ false)
running_there t n placed runs =
    let one = ap (times_in n) runs ∙ same n in
    standing_there t n placed (omega arith)

by_blocked : (b : Bool) → (if b then 0 else 1) ≤ 1
by_blocked true = omega arith
by_blocked false = omega arith

at_most_one : (o : Option (Option Standing)) → places_for o ≤ 1
at_most_one None = omega arith
at_most_one (Some None) = omega arith
at_most_one (Some (Some s)) = by_blocked (is_ready_after s.wanted)

-- what a thread has that has the turn: no other place
only_the_turn : (t : Turns) (n : ℕ) → ArePlaced t → t.running ≡ Some n → times n t.ready + times n t.awaiting ≡ 0
only_the_turn t n placed runs =
    let one = ap (times_in n) runs ∙ same n in
    let here = placed n in
    let most = at_most_one (slice_get t.threads n) in
    omega arith

-- ---- the thread that has the turn goes on, blocks, awaits or ends

module _ (t u : Turns) (n : ℕ) (o : Option Standing) (there : n < length t.threads) (is : u.threads ≡ slice_set t.threads n o) (runs : t.running ≡ Some n) (placed : ArePlaced t) where
  -- it keeps its turn
  pub keeps_turn : u.running ≡ Some n → u.ready ≡ t.ready → u.awaiting ≡ t.awaiting → places_for (Some o) ≡ 1 → ArePlaced u
  keeps_turn running ready awaiting one =
      let as_before : (k : ℕ) → places k u ≡ places k t = λ k.
      ap (λ (r : Option ℕ). times_in k r + times k u.ready + times k u.awaiting) (running ∙ sym runs)
      ∙ ap (λ (xs : List ℕ). times_in k t.running + times k xs + times k u.awaiting) ready
      ∙ ap (λ (xs : List ℕ). times_in k t.running + times k t.ready + times k xs) awaiting in
      one_changes t u n o there is placed
      (let e = as_before n in let here = placed n in let most = at_most_one (slice_get t.threads n) in let turn = ap (times_in n) runs ∙ same n in omega arith)
      (λ k other. as_before k)

  -- it blocks or ends, and each await is tried again
  pub wakes_all : u.running ≡ None → u.ready ≡ t.ready ++ t.awaiting → u.awaiting ≡ [] → places_for (Some o) ≡ 0 → ArePlaced u
  wakes_all running ready awaiting no_place =
      let fewer : (k : ℕ) → places k u ≡ times k t.ready + times k t.awaiting = λ k.
      let a = ap (times_in k) running in
      let b = ap (times k) ready ∙ times_append k t.ready t.awaiting in
      let c = ap (times k) awaiting in
      omega arith in
      one_changes t u n o there is placed
      (let e = fewer n in let none = only_the_turn t n placed runs in omega arith)
      (λ k other. let e = fewer k in let turn = ap (times_in k) runs ∙ other_one k n other in omega arith)

  -- a first await wakes the others
  pub awaits_first : u.running ≡ None → u.ready ≡ t.ready ++ t.awaiting → u.awaiting ≡ n ∷ [] → places_for (Some o) ≡ 1 → ArePlaced u
  awaits_first running ready awaiting one =
      let now : (k : ℕ) → places k u ≡ times k t.ready + times k t.awaiting + one_if (nat_eq k n) = λ k.
      let a = ap (times_in k) running in
      let b = ap (times k) ready ∙ times_append k t.ready t.awaiting in
      let c = ap (times k) awaiting in
      omega arith in
      one_changes t u n o there is placed
      (let e = now n in let none = only_the_turn t n placed runs in let it = same n in omega arith)
      (λ k other. let e = now k in let zero_times = other_one k n other in let turn = ap (times_in k) runs ∙ other_one k n other in omega arith)

  -- one more does not
  pub awaits_again : u.running ≡ None → u.ready ≡ t.ready → u.awaiting ≡ t.awaiting ++ n ∷ [] → places_for (Some o) ≡ 1 → ArePlaced u
  awaits_again running ready awaiting one =
      let now : (k : ℕ) → places k u ≡ times k t.ready + times k t.awaiting + one_if (nat_eq k n) = λ k.
      let a = ap (times_in k) running in
      let b = ap (times k) ready in
      let c = ap (times k) awaiting ∙ times_append k t.awaiting (n ∷ []) in
      omega arith in
      one_changes t u n o there is placed
      (let e = now n in let none = only_the_turn t n placed runs in let it = same n in omega arith)
      (λ k other. let e = now k in let zero_times = other_one k n other in let turn = ap (times_in k) runs ∙ other_one k n other in omega arith)

-- ---- a thread has the turn that was ready

pub turn_taken : (t : Turns) (n : ℕ) (rest : List ℕ) → t.running ≡ None → t.ready ≡ n ∷ rest → ArePlaced t → ArePlaced (record t { running = Some n; ready = rest })
turn_taken t n rest none first placed k =
    let here = placed k in
    let a = ap (times_in k) none in
    let b = ap (times k) first in
    omega arith

-- ---- what the process does

-- a thread that was blocked is ready
pub is_ready : (t : Turns) (n : ℕ) (s now : Standing) → slice_get t.threads n ≡ Some (Some s) → is_ready_after s.wanted ≡ true → now.wanted ≡ None → ArePlaced t →
    ArePlaced (with_thread n (Some now) (record t { ready = t.ready ++ n ∷ [] }))
is_ready t n s now there blocked free placed =
    one_changes t (with_thread n (Some now) (record t { ready = t.ready ++ n ∷ [] })) n (Some now) (slice_get_within t.threads n (Some s) there) refl placed
    (let here = placed n in
    let none : places_for (slice_get t.threads n) ≡ 0 = ap places_for there ∙ ap (λ b. if b then 0 else 1) blocked in
    let one : places_for (Some (Some now)) ≡ 1 = ap (λ (w : Option Wanted). if is_ready_after w then 0 else 1) free in
    let more = times_append n t.ready (n ∷ []) in
    let it = same n in
    omega arith)
    (λ k other. let more = times_append k t.ready (n ∷ []) in let zero_times = other_one k n other in omega arith)

-- any other keeps its turn
pub is_given : (t : Turns) (n : ℕ) (s now : Standing) → slice_get t.threads n ≡ Some (Some s) → is_ready_after s.wanted ≡ false → now.wanted ≡ None → ArePlaced t → ArePlaced (with_thread n (Some now) t)
is_given t n s now there goes_on free placed =
    one_changes t (with_thread n (Some now) t) n (Some now) (slice_get_within t.threads n (Some s) there) refl placed
    (let here = placed n in
    let before : places_for (slice_get t.threads n) ≡ 1 = ap places_for there ∙ ap (λ b. if b then 0 else 1) goes_on in
    let one : places_for (Some (Some now)) ≡ 1 = ap (λ (w : Option Wanted). if is_ready_after w then 0 else 1) free in
    omega arith)
    (λ k other. refl)

-- a new thread is ready
pub is_new : (t : Turns) (n : ℕ) (now : Standing) → slice_get t.threads n ≡ Some None → now.wanted ≡ None → ArePlaced t →
    ArePlaced (with_thread n (Some now) (record t { ready = t.ready ++ n ∷ [] }))
is_new t n now there free placed =
    one_changes t (with_thread n (Some now) (record t { ready = t.ready ++ n ∷ [] })) n (Some now) (slice_get_within t.threads n None there) refl placed
    (let here = placed n in
    let none : places_for (slice_get t.threads n) ≡ 0 = ap places_for there in
    let one : places_for (Some (Some now)) ≡ 1 = ap (λ (w : Option Wanted). if is_ready_after w then 0 else 1) free in
    let more = times_append n t.ready (n ∷ []) in
    let it = same n in
    omega arith)
    (λ k other. let more = times_append k t.ready (n ∷ []) in let zero_times = other_one k n other in omega arith)
