-- One process of a list is set.
use Rattle.std.proofs.Common.{◌≡◌, ◌≢◌, ◌⊎◌, inl, inr, ℕ, zero, suc, ◌<◌, Bool, true, false, true≢false, nat_eq, nat_lt, ◌&&◌, ◌++◌, All, ◌↔◌, ◌≤◌, nat_le, Option, Some, None, IsSome, is_some, Result}
use Rattle.std.proofs.Common.{Ok, Err, OnErr, Bor, option_copied, option_to_list, List, [], ◌∷◌, arith, slice_get, length, slice_set, map, ap, sym, subst, ◌∙◌, refl, get_or, cond, if◌then◌else◌}
use Rattle.std.specs.List.{list_any}
use Rattle.std.specs.Slice.{IsItemAt}
use Rattle.charlotte_calls.specs.declared.calls.Report.{Report}
use Rattle.std.proofs.lemmas.Bool.Decides.{eqb_tells, leb_tells}
use Rattle.std.proofs.lemmas.Grind.{get_or-set_at}
use Rattle.std.proofs.lemmas.List.{get_or-set_other, map-set, set-get_or, get_or-map, length-map}
use Rattle.charlotte_calls.specs.declared.names.EndId.{EndId}
use Rattle.charlotte_calls.specs.declared.names.Pid.{Pid}
use Rattle.service_step.specs.Ends.{end_eq}
use Rattle.service_step.specs.Run.{new_process, new_processes}
use Rattle.service_step.specs.State.{Process, put_process, no_process}
use Rattle.service_processes.specs.Known.{known_of, held_by, active_of, held_ends, active_ends, without, IsKnown, Grows, Forgets, LosesLast}
use Rattle.service_processes.specs.Processes.{process_of, process_state, HasRoom, HasRoomFor}
use Rattle.service_processes.specs.declared.processes.ControlBlock.{ControlBlock}

-- what f sees of each process stays, where it sees the same of the one that is set
pub same_map : {X A : Type 0} (f : X → A) (xs : List X) (i : ℕ) (d y : X) → f y ≡ f (get_or xs i d) → map f (slice_set xs i y) ≡ map f xs
same_map f xs i d y same =
    map-set f xs i y ∙ ap (slice_set (map f xs) i) same ∙ sym (map-set f xs i (get_or xs i d)) ∙ ap (map f) (set-get_or xs i d)

-- what f sees at a number, where one is set
pub map-set-at : {X A : Type 0} (f : X → A) (xs : List X) (i : ℕ) (y : X) (q : ℕ) (z : A) → i < length xs
    → get_or (map f (slice_set xs i y)) q z ≡ cond (nat_eq i q) (f y) (get_or (map f xs) q z)
map-set-at f xs i y q z below = by (eqb_tells i q)
  where
    set_in : get_or (map f (slice_set xs i y)) q z ≡ get_or (slice_set (map f xs) i (f y)) q z
    set_in = ap (λ l. get_or l q z) (map-set f xs i y)

    within : i < length (map f xs)
    within = subst (λ n. i < n) (sym (length-map xs f)) below

    by : ((nat_eq i q ≡ true) × (i ≡ q)) ⊎ ((nat_eq i q ≡ false) × (i ≢ q)) → get_or (map f (slice_set xs i y)) q z ≡ cond (nat_eq i q) (f y) (get_or (map f xs) q z)
    by (inl t) = set_in ∙ get_or-set_at (map f xs) i q (f y) z (sym t.1) within ∙ sym (ap (λ b. cond b (f y) (get_or (map f xs) q z)) t.0)
    by (inr t) = set_in ∙ get_or-set_other (map f xs) i q (f y) z (λ e. t.1 (sym e)) ∙ sym (ap (λ b. cond b (f y) (get_or (map f xs) q z)) t.0)

module _ (xs : List ControlBlock) (i : ℕ) (d y : ControlBlock) (p : Pid)
    (lent : d ≡ get_or xs i d) (at : i ≡ p.0) (below : p.0 < length xs) where
  within : i < length xs
  within = subst (λ n. n < length xs) (sym at) below

  -- what f sees of the process that is set, before
  here : {A : Type 0} (f : ControlBlock → A) (z : A) → get_or (map f xs) p.0 z ≡ f d
  here f z = ap (λ n. get_or (map f xs) n z) (sym at) ∙ get_or-map f xs i d z within ∙ ap f (sym lent)

  set_at : {A : Type 0} (f : ControlBlock → A) (z : A) (q : ℕ) → get_or (map f (slice_set xs i y)) q z ≡ cond (nat_eq p.0 q) (f y) (get_or (map f xs) q z)
  set_at f z q = map-set-at f xs i y q z within ∙ ap (λ n. cond (nat_eq n q) (f y) (get_or (map f xs) q z)) at

  -- a process becomes what a function makes of it
  pub sets-by : (g : Process → Process) → process_state y ≡ g (process_state d) → process_of (slice_set xs i y) ≡ put_process p (g (process_of xs p.0)) (process_of xs)
  unfolding process_of
  sets-by g is = λ j q.
      (set_at process_state no_process q ∙ ap (λ x. cond (nat_eq p.0 q) x (get_or (map process_state xs) q no_process)) (is ∙ ap g (sym (here process_state no_process)))) j

  -- nothing of the state changes
  pub state-same : process_state y ≡ process_state d → process_of (slice_set xs i y) ≡ process_of xs
  unfolding process_of
  state-same is = λ j q. get_or ((same_map process_state xs i d y (is ∙ ap process_state lent)) j) q no_process

  -- room of the one that is set is room of the process
  pub room-set : HasRoom y → HasRoomFor (slice_set xs i y) p
  room-set room other = subst HasRoom (sym (get_or-set_at xs i p.0 y other (sym at) within)) room

  -- nothing of what is known changes
  pub known-same : held_ends y ≡ held_ends d → active_ends y ≡ active_ends d → known_of (slice_set xs i y) ≡ known_of xs
  unfolding known_of held_by active_of
  known-same held active = λ j. record {
    held = λ q e. list_any (end_eq e) (get_or ((same_map held_ends xs i d y (held ∙ ap held_ends lent)) j) q []);
    active = λ q e. list_any (end_eq e) (get_or ((same_map active_ends xs i d y (active ∙ ap active_ends lent)) j) q []);
  }

  -- what is known of a process after it is set
  held_at : (q : ℕ) (e : EndId) → (known_of (slice_set xs i y)).held q e ≡ cond (nat_eq p.0 q) (list_any (end_eq e) (held_ends y)) ((known_of xs).held q e)
  unfolding known_of held_by
  held_at q e = ap (list_any (end_eq e)) (set_at held_ends [] q) ∙ out (nat_eq p.0 q)
    where
      out : (b : Bool) → list_any (end_eq e) (cond b (held_ends y) (get_or (map held_ends xs) q [])) ≡ cond b (list_any (end_eq e) (held_ends y)) (list_any (end_eq e) (get_or (map held_ends xs) q []))
      out true = refl
      out false = refl

  active_at : (q : ℕ) (e : EndId) → (known_of (slice_set xs i y)).active q e ≡ cond (nat_eq p.0 q) (list_any (end_eq e) (active_ends y)) ((known_of xs).active q e)
  unfolding known_of active_of
  active_at q e = ap (list_any (end_eq e)) (set_at active_ends [] q) ∙ out (nat_eq p.0 q)
    where
      out : (b : Bool) → list_any (end_eq e) (cond b (active_ends y) (get_or (map active_ends xs) q [])) ≡ cond b (list_any (end_eq e) (active_ends y)) (list_any (end_eq e) (get_or (map active_ends xs) q []))
      out true = refl
      out false = refl

  held_was : (e : EndId) → (known_of xs).held p.0 e ≡ list_any (end_eq e) (held_ends d)
  unfolding known_of held_by
  held_was e = ap (list_any (end_eq e)) (here held_ends [])

  active_was : (e : EndId) → (known_of xs).active p.0 e ≡ list_any (end_eq e) (active_ends d)
  unfolding known_of active_of
  active_was e = ap (list_any (end_eq e)) (here active_ends [])

  number : nat_eq p.0 p.0 ≡ true
  number = by (eqb_tells p.0 p.0)
    where
      by : ((nat_eq p.0 p.0 ≡ true) × (p.0 ≡ p.0)) ⊎ ((nat_eq p.0 p.0 ≡ false) × (p.0 ≢ p.0)) → nat_eq p.0 p.0 ≡ true
      by (inl t) = t.0
      by (inr t) = absurd (t.1 refl)

  -- a test of a process's ends that stays true of those of the one that is set
  stays : (old new : ℕ → EndId → Bool) (was now : EndId → Bool) → ((e : EndId) → old p.0 e ≡ was e) → ((q : ℕ) (e : EndId) → new q e ≡ cond (nat_eq p.0 q) (now e) (old q e))
      → ((e : EndId) → was e ≡ true → now e ≡ true) → (q : ℕ) (e : EndId) → old q e ≡ true → new q e ≡ true
  stays old new was now then_was now_is grows q e is = now_is q e ∙ by (eqb_tells p.0 q)
    where
      by : ((nat_eq p.0 q ≡ true) × (p.0 ≡ q)) ⊎ ((nat_eq p.0 q ≡ false) × (p.0 ≢ q)) → cond (nat_eq p.0 q) (now e) (old q e) ≡ true
      by (inl t) = ap (λ b. cond b (now e) (old q e)) t.0 ∙ grows e (sym (then_was e) ∙ ap (λ n. old n e) t.1 ∙ is)
      by (inr t) = ap (λ b. cond b (now e) (old q e)) t.0 ∙ is

  -- ends are noted
  pub known-grows : ((e : EndId) → list_any (end_eq e) (held_ends d) ≡ true → list_any (end_eq e) (held_ends y) ≡ true)
      → ((e : EndId) → list_any (end_eq e) (active_ends d) ≡ true → list_any (end_eq e) (active_ends y) ≡ true)
      → Grows (known_of xs) (known_of (slice_set xs i y))
  known-grows held active =
      record {
        held = stays (known_of xs).held (known_of (slice_set xs i y)).held (λ e. list_any (end_eq e) (held_ends d)) (λ e. list_any (end_eq e) (held_ends y)) held_was held_at held;
        active = stays (known_of xs).active (known_of (slice_set xs i y)).active (λ e. list_any (end_eq e) (active_ends d)) (λ e. list_any (end_eq e) (active_ends y)) active_was active_at active;
      }

  -- an end of the process that is set is known
  pub held-noted : (e : EndId) → list_any (end_eq e) (held_ends y) ≡ true → (known_of (slice_set xs i y)).held p.0 e ≡ true
  held-noted e held = held_at p.0 e ∙ ap (λ b. cond b (list_any (end_eq e) (held_ends y)) ((known_of xs).held p.0 e)) number ∙ held

  pub active-noted : (e : EndId) → list_any (end_eq e) (active_ends y) ≡ true → (known_of (slice_set xs i y)).active p.0 e ≡ true
  active-noted e active = active_at p.0 e ∙ ap (λ b. cond b (list_any (end_eq e) (active_ends y)) ((known_of xs).active p.0 e)) number ∙ active

  pub known-noted : (e : EndId) → list_any (end_eq e) (held_ends y) ≡ true → list_any (end_eq e) (active_ends y) ≡ true → IsKnown (known_of (slice_set xs i y)) p e
  known-noted e held active = record { held = held-noted e held; active = active-noted e active }

  -- the ends with an activity stay, or the others
  pub holds-more : ((e : EndId) → list_any (end_eq e) (held_ends d) ≡ true → list_any (end_eq e) (held_ends y) ≡ true) → active_ends y ≡ active_ends d
      → Grows (known_of xs) (known_of (slice_set xs i y))
  holds-more held active = known-grows held (λ e is. ap (list_any (end_eq e)) active ∙ is)

  pub activates-more : held_ends y ≡ held_ends d → ((e : EndId) → list_any (end_eq e) (active_ends d) ≡ true → list_any (end_eq e) (active_ends y) ≡ true)
      → Grows (known_of xs) (known_of (slice_set xs i y))
  activates-more held active = known-grows (λ e is. ap (list_any (end_eq e)) held ∙ is) active

  -- a test of a process's ends without one of them
  lacks : (old new : ℕ → EndId → Bool) (was now : EndId → Bool) (e : EndId) → ((g : EndId) → old p.0 g ≡ was g) → ((q : ℕ) (g : EndId) → new q g ≡ cond (nat_eq p.0 q) (now g) (old q g))
      → ((g : EndId) → now g ≡ (if end_eq e g then false else was g)) → new ≡ without p e old
  lacks old new was now e then_was now_is removes = λ j q g. (now_is q g ∙ by q g (eqb_tells p.0 q)) j
    where
      by : (q : ℕ) (g : EndId) → ((nat_eq p.0 q ≡ true) × (p.0 ≡ q)) ⊎ ((nat_eq p.0 q ≡ false) × (p.0 ≢ q)) → cond (nat_eq p.0 q) (now g) (old q g) ≡ cond (nat_eq p.0 q && end_eq e g) false (old q g)
      by q g (inl t) = ap (λ b. cond b (now g) (old q g)) t.0 ∙ removes g ∙ ap (λ z. cond (end_eq e g) false z) (sym (then_was g) ∙ ap (λ n. old n g) t.1) ∙ sym (ap (λ b. cond (b && end_eq e g) false (old q g)) t.0)
      by q g (inr t) = ap (λ b. cond b (now g) (old q g)) t.0 ∙ sym (ap (λ b. cond (b && end_eq e g) false (old q g)) t.0)

  -- an end is forgotten
  pub known-forgets : (e : EndId) → ((g : EndId) → list_any (end_eq g) (held_ends y) ≡ (if end_eq e g then false else list_any (end_eq g) (held_ends d)))
      → ((g : EndId) → list_any (end_eq g) (active_ends y) ≡ (if end_eq e g then false else list_any (end_eq g) (active_ends d)))
      → Forgets p e (known_of xs) (known_of (slice_set xs i y))
  known-forgets e held active =
      record {
        held = lacks (known_of xs).held (known_of (slice_set xs i y)).held (λ g. list_any (end_eq g) (held_ends d)) (λ g. list_any (end_eq g) (held_ends y)) e held_was held_at held;
        active = lacks (known_of xs).active (known_of (slice_set xs i y)).active (λ g. list_any (end_eq g) (active_ends d)) (λ g. list_any (end_eq g) (active_ends y)) e active_was active_at active;
      }

  -- the last end with an activity is lost
  pub loses-last : held_ends y ≡ held_ends d → (gone : Option EndId) → active_ends d ≡ active_ends y ++ option_to_list gone → (0 < length (active_ends d) → IsSome gone)
      → LosesLast p xs (slice_set xs i y)
  unfolding known_of held_by active_of
  loses-last held gone active some =
      record {
        held = λ j q e. list_any (end_eq e) (get_or ((same_map held_ends xs i d y (held ∙ ap held_ends lent)) j) q []);
        others = λ q other. set_at active_ends [] q ∙ ap (λ b. cond b (active_ends y) (get_or (map active_ends xs) q [])) other;
        gone = gone;
        active = here active_ends [] ∙ active ∙ ap (λ l. l ++ option_to_list gone) (sym (set_at active_ends [] p.0 ∙ ap (λ b. cond b (active_ends y) (get_or (map active_ends xs) p.0 [])) number));
        some = λ any. some (subst (λ (l : List EndId). 0 < length l) (here active_ends []) any);
      }

-- room of the process is room of the one that is lent
pub room-lent : (xs : List ControlBlock) (i : ℕ) (d : ControlBlock) (p : Pid) → d ≡ get_or xs i d → i ≡ p.0 → HasRoomFor xs p → HasRoom d
room-lent xs i d p lent at room = subst HasRoom (ap (λ n. get_or xs n d) (sym at) ∙ sym lent) (room d)

-- Reading a process by its number.

-- what f sees of a process that is there, and where there is none
pub map-found : {X A : Type 0} (f : X → A) (xs : List X) (q : ℕ) (x : X) (z : A) → Some x ≡ slice_get xs q → get_or (map f xs) q z ≡ f x
map-found f [] q x z is = absurd cc
map-found f (y ∷ ys) zero x z is = let one : x ≡ y = cc in ap f (sym one)
map-found f (y ∷ ys) (suc q) x z is = map-found f ys q x z is

pub map-missing : {X A : Type 0} (f : X → A) (xs : List X) (q : ℕ) (z : A) → None ≡ slice_get xs q → get_or (map f xs) q z ≡ z
map-missing f [] q z is = refl
map-missing f (y ∷ ys) zero z is = absurd cc
map-missing f (y ∷ ys) (suc q) z is = map-missing f ys q z is

module _ (xs : List ControlBlock) (q : ℕ) where
  pub process_of-found : (x : ControlBlock) → Some x ≡ slice_get xs q → process_of xs q ≡ process_state x
  unfolding process_of
  process_of-found x is = map-found process_state xs q x no_process is

  pub process_of-missing : None ≡ slice_get xs q → process_of xs q ≡ no_process
  unfolding process_of
  process_of-missing is = map-missing process_state xs q no_process is

  pub held_by-found : (x : ControlBlock) → Some x ≡ slice_get xs q → held_by xs q ≡ held_ends x
  unfolding held_by
  held_by-found x is = map-found held_ends xs q x [] is

  pub held_by-missing : None ≡ slice_get xs q → held_by xs q ≡ []
  unfolding held_by
  held_by-missing is = map-missing held_ends xs q [] is

  pub active_of-found : (x : ControlBlock) → Some x ≡ slice_get xs q → active_of xs q ≡ active_ends x
  unfolding active_of
  active_of-found x is = map-found active_ends xs q x [] is

  pub active_of-missing : None ≡ slice_get xs q → active_of xs q ≡ []
  unfolding active_of
  active_of-missing is = map-missing active_ends xs q [] is

-- so many new processes
new-here : (xs : List ControlBlock) (q : ℕ) → q < length xs → All (λ x. process_state x ≡ new_process) xs → get_or (map process_state xs) q no_process ≡ new_process
new-here [] q below fresh = absurd (omega arith)
new-here (x ∷ xs) zero below fresh = fresh 0 x (omega arith)
new-here (x ∷ xs) (suc q) below fresh = new-here xs q (omega arith) (λ k d within. fresh (suc k) d (omega arith))

none-beyond : (xs : List ControlBlock) (q : ℕ) → length xs ≤ q → get_or (map process_state xs) q no_process ≡ no_process
none-beyond [] q beyond = refl
none-beyond (x ∷ xs) zero beyond = absurd (omega arith)
none-beyond (x ∷ xs) (suc q) beyond = none-beyond xs q (omega arith)

pub process_of-new : (xs : List ControlBlock) (count : ℕ) → length xs ≡ count → All (λ x. process_state x ≡ new_process) xs → process_of xs ≡ new_processes count
unfolding process_of new_processes
process_of-new xs count long fresh = λ i q. (by q (leb_tells (suc q) (length xs)) ∙ ap (λ n. cond (nat_lt q n) new_process no_process) long) i
  where
    by : (q : ℕ) → ((nat_le (suc q) (length xs) ≡ true) × (suc q ≤ length xs)) ⊎ ((nat_le (suc q) (length xs) ≡ false) × (length xs < suc q))
        → get_or (map process_state xs) q no_process ≡ cond (nat_lt q (length xs)) new_process no_process
    by q (inl t) = new-here xs q (let below : suc q ≤ length xs = t.1 in omega arith) fresh ∙ sym (ap (λ b. cond b new_process no_process) t.0)
    by q (inr t) = none-beyond xs q (let beyond : length xs < suc q = t.1 in omega arith) ∙ sym (ap (λ b. cond b new_process no_process) t.0)

-- what is so stands after an error too
pub on_err : {T E : Type 0} {P : Type 0} (r : Result T E) → P → OnErr r P
on_err (Ok x) holds = tt
on_err (Err e) holds = holds

-- the first of a list, lent
pub first-lent : (rs : List Report) (o : Option (Bor Report)) → IsItemAt rs 0 o → option_copied o ≡ slice_get rs 0
first-lent [] None item = refl
first-lent [] (Some x) item = absurd (true≢false item.0)
first-lent (r ∷ rs) None item = absurd (omega arith)
first-lent (r ∷ rs) (Some x) item = ap Some (item.3.1 r)

-- there is a first of a list where it is not empty
pub first-some : (rs : List Report) (o : Option (Bor Report)) → option_copied o ≡ slice_get rs 0 → (is_some o ≡ true) ↔ (rs ≡ [] → ⊥)
first-some [] None is = (λ some. absurd (true≢false (sym some)), λ none. absurd (none refl))
first-some [] (Some x) is = absurd cc
first-some (r ∷ rs) None is = absurd cc
first-some (r ∷ rs) (Some x) is = (λ some no. absurd cc, λ none. refl)

-- a process that has an end is there
pub there : (xs : List ControlBlock) (q : ℕ) (e : EndId) → (known_of xs).held q e ≡ true → q < length xs
unfolding known_of held_by
there [] zero e h = absurd (true≢false (sym h))
there [] (suc q) e h = absurd (true≢false (sym h))
there (x ∷ xs) zero e h = omega arith
there (x ∷ xs) (suc q) e h = let below : q < length xs = there xs q e h in omega arith

-- a process with an end on which it has an activity is there
pub there-active : (xs : List ControlBlock) (q : ℕ) → 0 < length (active_of xs q) → q < length xs
unfolding active_of
there-active [] zero h = absurd (omega arith)
there-active [] (suc q) h = absurd (omega arith)
there-active (x ∷ xs) zero h = omega arith
there-active (x ∷ xs) (suc q) h = let below : q < length xs = there-active xs q h in omega arith
