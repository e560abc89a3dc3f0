-- Settling: the first packet of the first list that is not empty, again and again.
use Rattle.std.proofs.Common.{◌≡◌, ◌≢◌, ◌⊎◌, ◌&&◌, inl, inr, ℕ, ◌+◌, ◌-◌, ◌^◌, ◌<◌, ◌≤◌, zero, suc, Bool, true, false, not, nat_eq, List, [], ◌∷◌, ◌++◌, length, map, Option, None, Some, cond, arith, ap, sym, subst, ◌∙◌, refl, append-nil, append_assoc, length-append}
use Rattle.std.specs.List.{find, flat_map, range_with_len}
use Rattle.std.specs.Option.{option_map}
use Rattle.std.proofs.lemmas.Bool.Decides.{eqb_tells}
use Rattle.charlotte_packets.specs.declared.picture.Picture.{Picture}
use Rattle.charlotte_calls.specs.declared.setting.Setting.{Setting}
use Rattle.kernel_world.proofs.Packets.{happens-packets}
use Rattle.kernel_world.specs.World.{World, Event, Takes, happens, after, outcome, rest, sends_at, to_kernel}
use Rattle.script_run.specs.Recorded.{sent_from, world_at, first_pair, AreReady, AreQuietBelow, Goes, IsTakenFirst}
use Rattle.script_run.specs.Performing.{pairs, next_take, then_events, settled}
use Rattle.script_run.specs.declared.recorded.Recorded.{Recorded}
use Rattle.script_run.proofs.Events.{Goes-then, ready-after}
use Rattle.transcript_record.proofs.Runs.{after-append}

-- ---- the first of a list that passes a test

-- the first item passes, or does not
at_pass : {X : Type 0} (t : X → Bool) (x : X) (xs : List X) → t x ≡ true → find t (x ∷ xs) ≡ Some x
at_pass t x xs is = ap (λ b. cond b (Some x) (find t xs)) is

at_fail : {X : Type 0} (t : X → Bool) (x : X) (xs : List X) → t x ≡ false → find t (x ∷ xs) ≡ find t xs
at_fail t x xs is = ap (λ b. cond b (Some x) (find t xs)) is

-- whether a test passes, with the equation
tells : (b : Bool) → (b ≡ true) ⊎ (b ≡ false)
tells true = inl refl
tells false = inr refl

find-none_first : {X : Type 0} (t : X → Bool) (xs ys : List X) → find t xs ≡ None → find t (xs ++ ys) ≡ find t ys
find-none_first t [] ys e = refl
find-none_first t (x ∷ xs) ys e = elim (tells (t x)) [
  | inl is ↦ let no : Some x ≡ None = sym (at_pass t x xs is) ∙ e in cc
  | inr is ↦ at_fail t x (xs ++ ys) is ∙ find-none_first t xs ys (sym (at_fail t x xs is) ∙ e)
]

find-some_first : {X : Type 0} (t : X → Bool) (xs ys : List X) (y : X) → find t xs ≡ Some y → find t (xs ++ ys) ≡ Some y
find-some_first t [] ys y e = let no : None ≡ Some y = e in cc
find-some_first t (x ∷ xs) ys y e = elim (tells (t x)) [
  | inl is ↦ at_pass t x (xs ++ ys) is ∙ sym (at_pass t x xs is) ∙ e
  | inr is ↦ at_fail t x (xs ++ ys) is ∙ find-some_first t xs ys y (sym (at_fail t x xs is) ∙ e)
]

find-passes : {X : Type 0} (t : X → Bool) (xs : List X) (y : X) → find t xs ≡ Some y → t y ≡ true
find-passes t [] y e = let no : None ≡ Some y = e in cc
find-passes t (x ∷ xs) y e = elim (tells (t x)) [
  | inl is ↦ let some : Some x ≡ Some y = sym (at_pass t x xs is) ∙ e in let same : x ≡ y = cc in ap t (sym same) ∙ is
  | inr is ↦ find-passes t xs y (sym (at_fail t x xs is) ∙ e)
]

find-map : {X Y : Type 0} (t : Y → Bool) (f : X → Y) (xs : List X) → find t (map f xs) ≡ option_map f (find (λ x. t (f x)) xs)
find-map t f [] = refl
find-map t f (x ∷ xs) = elim (t (f x)) as (λ b. cond b (Some (f x)) (find t (map f xs)) ≡ option_map f (cond b (Some x) (find (λ z. t (f z)) xs))) [ true ↦ refl | false ↦ find-map t f xs ]

pub find-in_range : (t : ℕ → Bool) (a n x : ℕ) → find t (range_with_len a n) ≡ Some x → x < a + n
find-in_range t a zero x e = let no : None ≡ Some x = e in cc
find-in_range t a (suc n) x e = elim (tells (t a)) [
  | inl is ↦ let some : Some a ≡ Some x = sym (at_pass t a (range_with_len (a + 1) n) is) ∙ e in let same : a ≡ x = cc in omega arith
  | inr is ↦ let below = find-in_range t (a + 1) n x (sym (at_fail t a (range_with_len (a + 1) n) is) ∙ e) in omega (arith, below)
]

pub find-from_zero : (t : ℕ → Bool) (n x : ℕ) → find t (range_with_len 0 n) ≡ Some x → x < n
find-from_zero t n x e = let below = find-in_range t 0 n x e in omega (arith, below)

-- ---- the first pair

-- a list between two kernels is not empty
abbrev pub is_under_way : World → ℕ × ℕ → Bool
is_under_way w pair = not (nat_eq (length (w.packets pair.0 pair.1)) 0)

-- the pairs that begin with a kernel
abbrev pub row : ℕ → ℕ → List (ℕ × ℕ)
row kernels from = map (λ to. (from, to)) (range_with_len 0 kernels)

-- those that begin with this kernel or a later one
abbrev pub pairs_from : ℕ → ℕ → List (ℕ × ℕ)
pairs_from kernels from = flat_map (row kernels) (range_with_len from (kernels - from))

pub pairs-all : (kernels : ℕ) → pairs kernels ≡ pairs_from kernels 0
pairs-all kernels = let e : kernels ≡ kernels - 0 = omega arith in ap (λ n. flat_map (row kernels) (range_with_len 0 n)) e

pairs_from-more : (kernels from : ℕ) → from < kernels → pairs_from kernels from ≡ row kernels from ++ pairs_from kernels (from + 1)
pairs_from-more kernels from below = let e : kernels - from ≡ suc (kernels - (from + 1)) = omega arith in ap (λ n. flat_map (row kernels) (range_with_len from n)) e

pub pairs_from-none : (kernels from : ℕ) → kernels ≤ from → pairs_from kernels from ≡ []
pairs_from-none kernels from le = let e : kernels - from ≡ 0 = omega arith in ap (λ n. flat_map (row kernels) (range_with_len from n)) e

row-find : (w : World) (kernels from : ℕ) → find (is_under_way w) (row kernels from) ≡ option_map (λ to. (from, to)) (find (λ to. not (nat_eq (length (w.packets from to)) 0)) (range_with_len 0 kernels))
row-find w kernels from = find-map (is_under_way w) (λ to. (from, to)) (range_with_len 0 kernels)

-- one of this kernel is the first
pub some_target : (s : Setting) (run : Recorded) (kernels from to : ℕ) → from < kernels → Some to ≡ find (λ q. not (nat_eq (length (sent_from run from q)) 0)) (range_with_len 0 kernels) → find (is_under_way (world_at s run)) (pairs_from kernels from) ≡ Some (from, to)
some_target s run kernels from to within some =
    ap (find (is_under_way (world_at s run))) (pairs_from-more kernels from within)
    ∙ find-some_first (is_under_way (world_at s run)) (row kernels from) (pairs_from kernels (from + 1)) (from, to) (row-find (world_at s run) kernels from ∙ ap (option_map (λ (q : ℕ). (from, q))) (sym some))

-- ---- kernels of which no packet is under way

-- one kernel more
pub quiet-more : (kernels n : ℕ) (run : Recorded) → None ≡ find (λ to. not (nat_eq (length (sent_from run n to)) 0)) (range_with_len 0 kernels) → AreQuietBelow kernels n run → AreQuietBelow kernels (n + 1) run
quiet-more kernels n run none before from within = by (eqb_tells from n)
  where
    by : ((nat_eq from n ≡ true) × (from ≡ n)) ⊎ ((nat_eq from n ≡ false) × (from ≢ n)) → find (λ to. not (nat_eq (length (sent_from run from to)) 0)) (range_with_len 0 kernels) ≡ None
    by (inl t) = subst (λ k. find (λ to. not (nat_eq (length (sent_from run k to)) 0)) (range_with_len 0 kernels) ≡ None) (sym t.1) (sym none)
    by (inr t) = before from (let other : from ≢ n = t.1 in omega (arith, within))

-- so the first pair does not begin with one of them
pub pairs-quiet : (s : Setting) (run : Recorded) (kernels n : ℕ) → n ≤ kernels → AreQuietBelow kernels n run → first_pair kernels (world_at s run) ≡ find (is_under_way (world_at s run)) (pairs_from kernels n)
pairs-quiet s run kernels zero within quiet = ap (find (is_under_way (world_at s run))) (pairs-all kernels)
pairs-quiet s run kernels (suc n) within quiet =
    let below : n < kernels = omega (arith, within) in
    let next : n + 1 ≡ suc n = omega arith in
    pairs-quiet s run kernels n (omega (arith, within)) (λ from less. quiet from (omega (arith, less)))
    ∙ ap (find (is_under_way (world_at s run))) (pairs_from-more kernels n below)
    ∙ find-none_first (is_under_way (world_at s run)) (row kernels n) (pairs_from kernels (n + 1))
    (find-map (is_under_way (world_at s run)) (λ to. (n, to)) (range_with_len 0 kernels) ∙ ap (option_map (λ (to : ℕ). (n, to))) (quiet n (omega arith)))
    ∙ ap (λ k. find (is_under_way (world_at s run)) (pairs_from kernels k)) next

-- numbers one of which is less are not equal
less-apart : (a b : ℕ) → a < b → nat_eq a b ≡ false
less-apart a b less = by (eqb_tells a b)
  where
    by : ((nat_eq a b ≡ true) × (a ≡ b)) ⊎ ((nat_eq a b ≡ false) × (a ≢ b)) → nat_eq a b ≡ false
    by (inl t) = let same : a ≡ b = t.1 in absurd (omega (arith, less, same))
    by (inr t) = t.0

-- a packet that is taken leaves the packets of every other node as they were, but those of its taker
taken-aside : (w : World) (from to k q : ℕ) → k < from → k < to → (happens w (Takes to from)).packets k q ≡ w.packets k q
taken-aside w from to k q less_from less_to =
    happens-packets w (Takes to from) k q
    ∙ ap (λ b. cond (b && nat_eq q to) (rest (w.packets k q)) (w.packets k q) ++ sends_at w (Takes to from) k q) (less-apart k from less_from)
    ∙ ap (λ b. w.packets k q ++ cond b (to_kernel q (outcome w (Takes to from)).packets) []) (less-apart k to less_to)
    ∙ append-nil (w.packets k q)

-- ---- settling

settled-zero : (k : ℕ) (w : World) → settled k 0 w ≡ []
unfolding settled
settled-zero k w = refl

settled-more : (k m n : ℕ) (w : World) → n ≡ suc m → settled k n w ≡ then_events (next_take k w) (λ e. settled k m (happens w e))
unfolding settled
settled-more k m n w e = ap (λ i. settled k i w) e

settled-none : (k n : ℕ) (w : World) → next_take k w ≡ None → settled k n w ≡ []
unfolding settled
settled-none k zero w e = refl
settled-none k (suc n) w e = ap (λ o. then_events o (λ x. settled k n (happens w x))) e

length-then_le : (n : ℕ) (o : Option Event) (others : Event → List Event) → ((e : Event) → length (others e) ≤ n) → length (then_events o others) ≤ suc n
length-then_le n None others few = omega arith
length-then_le n (Some e) others few = omega (arith, few e)

pub length-settled_le : (k n : ℕ) (w : World) → length (settled k n w) ≤ n
unfolding settled
length-settled_le k zero w = omega arith
length-settled_le k (suc n) w = length-then_le n (next_take k w) (λ e. settled k n (happens w e)) (λ e. length-settled_le k n (happens w e))

-- how far settling has come: es were taken of the most that may be, and i times it was looked
pub record IsSettling (s : Setting) (k most i : ℕ) (a b : Recorded) : Type 0 where
  pub events : List Event
  pub goes : Goes s a b events
  pub left : settled k most (world_at s a) ≡ events ++ settled k (most - i) (after (world_at s a) events)
  pub few : length events ≤ i

pub settling-start : (s : Setting) (k most : ℕ) (a : Recorded) → Goes s a a [] → IsSettling s k most 0 a a
settling-start s k most a goes = record { events = []; goes = goes; left = let e : most ≡ most - 0 = omega arith in ap (λ n. settled k n (world_at s a)) e; few = omega arith }

-- nothing is left
pub settling-none : (s : Setting) (k most i : ℕ) (a b : Recorded) → None ≡ first_pair k (world_at s b) → IsSettling s k most i a b → Goes s a b (settled k most (world_at s a))
settling-none s k most i a b none is =
    let next : next_take k (world_at s b) ≡ None = ap (option_map (λ (pair : ℕ × ℕ). Takes pair.1 pair.0)) (sym none) in
    let no_more : settled k (most - i) (after (world_at s a) is.events) ≡ [] = ap (settled k (most - i)) (sym is.goes.world) ∙ settled-none k (most - i) (world_at s b) next in
    subst (Goes s a b) (sym (is.left ∙ ap (λ es. is.events ++ es) no_more ∙ append-nil is.events)) is.goes

-- so many were taken
pub settling-end : (s : Setting) (k most i : ℕ) (a b : Recorded) → most ≤ i → IsSettling s k most i a b → Goes s a b (settled k most (world_at s a))
settling-end s k most i a b all is =
    let e : most - i ≡ 0 = omega arith in
    let no_more : settled k (most - i) (after (world_at s a) is.events) ≡ [] = ap (λ n. settled k n (after (world_at s a) is.events)) e ∙ settled-zero k (after (world_at s a) is.events) in
    subst (Goes s a b) (sym (is.left ∙ ap (λ es. is.events ++ es) no_more ∙ append-nil is.events)) is.goes

some-taken : (s : Setting) (k from to : ℕ) (took : Bool) (b c : Recorded) → Some (from, to) ≡ first_pair k (world_at s b) → IsTakenFirst s from to took b c → Goes s b c (Takes to from ∷ [])
some-taken s k from to true b c some t = t.1
some-taken s k from to false b c some t =
    let passes : is_under_way (world_at s b) (from, to) ≡ true = find-passes (is_under_way (world_at s b)) (pairs k) (from, to) (sym some) in
    let fails : is_under_way (world_at s b) (from, to) ≡ false = ap (λ (qs : List Picture). not (nat_eq (length qs) 0)) t.0 in
    let no : true ≡ false = sym passes ∙ fails in
    cc

-- one more was taken
pub settling-more : (s : Setting) (k most i from to : ℕ) (took : Bool) (a b c : Recorded) → i < most → Some (from, to) ≡ first_pair k (world_at s b) → IsTakenFirst s from to took b c → IsSettling s k most i a b → IsSettling s k most (i + 1) a c
settling-more s k most i from to took a b c below some t is =
    let e : Event = Takes to from in
    let w : World = after (world_at s a) is.events in
    let goes : Goes s b c (e ∷ []) = some-taken s k from to took b c some t in
    let next : next_take k w ≡ Some e = ap (next_take k) (sym is.goes.world) ∙ ap (option_map (λ (pair : ℕ × ℕ). Takes pair.1 pair.0)) (sym some) in
    let one : most - i ≡ suc (most - (i + 1)) = omega arith in
    let more : settled k (most - i) w ≡ e ∷ settled k (most - (i + 1)) (happens w e) =
    settled-more k (most - (i + 1)) (most - i) w one ∙ ap (λ o. then_events o (λ x. settled k (most - (i + 1)) (happens w x))) next in
    record {
      events = is.events ++ e ∷ [];
      goes = Goes-then s a b c is.events (e ∷ []) is.goes goes;
      left = is.left ∙ ap (λ es. is.events ++ es) more ∙ sym (append_assoc is.events (e ∷ []) (settled k (most - (i + 1)) (happens w e)))
          ∙ ap (λ v. (is.events ++ e ∷ []) ++ settled k (most - (i + 1)) v) (sym (after-append (world_at s a) is.events (e ∷ [])));
      few = omega (arith, length-append is.events (e ∷ []), is.few);
    }

-- the kernels before both that sent the packet and that took it are quiet as they were
pub quiet-taken : (s : Setting) (k from to n : ℕ) (took : Bool) (b c : Recorded) → Some (from, to) ≡ first_pair k (world_at s b) → IsTakenFirst s from to took b c → n ≤ from → n ≤ to → AreQuietBelow k from b → AreQuietBelow k n c
quiet-taken s k from to n took b c some t least_from least_to quiet q below =
    ap (λ (test : ℕ → Bool). find test (range_with_len 0 k)) (λ j r. not (nat_eq (length (same r j)) 0)) ∙ quiet q (omega (arith, below, least_from))
  where
    same : (r : ℕ) → sent_from c q r ≡ sent_from b q r
    same r =
        ap (λ (w : World). w.packets q r) (some-taken s k from to took b c some t).world
        ∙ taken-aside (world_at s b) from to q r (omega (arith, below, least_from)) (omega (arith, below, least_to))

-- how many events there are as settling goes on
pub settling-ready : (s : Setting) (k most i n : ℕ) (a b : Recorded) → i ≤ most → n + most < 2 ^ 32 → IsSettling s k most i a b → AreReady s n a → (m : ℕ) × (m < 2 ^ 32) × AreReady s m b
settling-ready s k most i n a b le early is ready =
    let few : length is.events ≤ i = is.few in
    (n + length is.events, omega arith, ready-after s n a b is.events (omega arith) is.goes ready)
