-- A link is made, by a step and at the start.
use Rattle.std.proofs.Common.{◌≡◌, ℕ, zero, suc, ◌+◌, ◌<◌, ◌≤◌, Bool, true, false, true≢false, nat_lt, ◌&&◌, not, All, List, [], ◌∷◌, length, take, slice_get, slice_index, slice_set, get_or, Option, Some, None, refl, sym, ap, subst, ◌∙◌, arith}
use Rattle.std.proofs.Math.Seq.{take-length}
use Rattle.std.proofs.lemmas.Bool.{ltb-true}
use Rattle.std.proofs.lemmas.List.{length-set, length-replicate, length-take-le}
use Rattle.std.proofs.lemmas.List.Elements.{All-set, All-replicate}
use Rattle.std.proofs.lemmas.List.Sums.{fold_more}
use Rattle.std.proofs.lemmas.Option.{get_or_from_slice_get}
use Rattle.std.specs.List.{fold}
use Rattle.charlotte_calls.specs.Causes.{link_limit}
use Rattle.charlotte_calls.specs.Names.{opposite}
use Rattle.charlotte_calls.specs.Setting.{IsValid}
use Rattle.charlotte_calls.specs.declared.names.EndId.{EndId}
use Rattle.charlotte_calls.specs.declared.names.LinkId.{LinkId}
use Rattle.charlotte_calls.specs.declared.names.Pid.{Pid}
use Rattle.charlotte_calls.specs.declared.names.Side.TheVariants.{A}
use Rattle.charlotte_calls.specs.declared.setting.Setting.{Setting}
use Rattle.link_service.specs.Service.{ServiceView, HasRoom, HasWired, adds_link, state_of, wired_links, wired_state, wires}
use Rattle.service_links.proofs.Changed.{end_eq-same}
use Rattle.service_step.specs.Ends.{end_eq, fresh, is_made, makes, put}
use Rattle.service_step.specs.Run.{Wired, nothing_wired, start_state, wires_one}
use Rattle.service_step.specs.State.{State, counts, counted, is_running, next_at, next_link}
use Rattle.service_step.specs.Steps.{after_make, is_new_pair, may_make, runs}
use Rattle.service_step.specs.declared.state.End.{End}
use Rattle.service_step.specs.declared.state.Place.TheVariants.{Owned}

-- the next link of a kernel has as count how many it has made
counted-is : (made : List ℕ) (k : ℕ) (o : Option ℕ) (link : LinkId) → slice_get made k ≡ o → counted k o ≡ Some link → slice_get made link.maker ≡ Some link.count
counted-is made k None link found is = absurd cc
counted-is made k (Some count) link found is =
    let one : record { maker = k; count = count } ≡ link = cc in subst (λ (l : LinkId). slice_get made l.maker ≡ Some l.count) one found

next-is : (made : List ℕ) (home : Option ℕ) (link : LinkId) → next_at home made ≡ Some link → slice_get made link.maker ≡ Some link.count
next-is made None link is = absurd cc
next-is made (Some k) link is = counted-is made k (slice_get made k) link refl is

first_two : (a b : Bool) → (a && b) ≡ true → (a ≡ true) × (b ≡ true)
first_two true b h = (refl, h)
first_two false b h = absurd (true≢false (sym h))

first_three : (a b c d e : Bool) → (a && b && c && d && e) ≡ true → (a ≡ true) × (b ≡ true) × (c ≡ true)
first_three true true true d e h = (refl, refl, refl)
first_three true true false d e h = absurd (true≢false (sym h))
first_three true false c d e h = absurd (true≢false (sym h))
first_three false b c d e h = absurd (true≢false (sym h))

-- what a pair of new ends is
pub record IsPairOf (link : LinkId) (a b : EndId) : Type 0 where
  pub room : link.count < link_limit
  pub first : a ≡ record { link = link; side = A }
  pub second : b ≡ opposite a

pair-of : (t : EndId → End) (link : LinkId) (a b : EndId) → is_new_pair t (Some link) a b ≡ true → IsPairOf link a b
pair-of t link a b h =
    let tests = first_three (nat_lt link.count link_limit) (end_eq a (record { link = link; side = A })) (end_eq b (opposite a)) (not (is_made (t a).place)) (not (is_made (t b).place)) h in
    record {
      room = ltb-true link.count link_limit tests.0;
      first = end_eq-same a (record { link = link; side = A }) tests.1;
      second = end_eq-same b (opposite a) tests.2;
    }

-- what a make asks
pub record MakeAsks (s : State) (p : Pid) (a b : EndId) : Type 0 where
  pub runs : is_running (s.process p.0).phase ≡ true
  pub next : slice_get s.made a.link.maker ≡ Some a.link.count
  pub pair : IsPairOf a.link a b

pub make-asks : (s : State) (p : Pid) (a b : EndId) → may_make s p a b ≡ true → MakeAsks s p a b
make-asks s p a b may =
    let both = first_two (runs s p) (is_new_pair s.ends (next_link s p) a b) may in by (next_link s p) refl both.0 both.1
  where
    by : (o : Option LinkId) → next_link s p ≡ o → runs s p ≡ true → is_new_pair s.ends o a b ≡ true → MakeAsks s p a b
    by None is run new = absurd (true≢false (sym new))
    by (Some link) is run new =
        let pair = pair-of s.ends link a b new in
        let same : link ≡ a.link = ap (λ (e : EndId). e.link) (sym pair.first) in
        record {
          runs = run;
          next = subst (λ (l : LinkId). slice_get s.made l.maker ≡ Some l.count) same (next-is s.made (slice_get s.homes p.0) link is);
          pair = subst (λ (l : LinkId). IsPairOf l a b) same pair;
        }

-- a make adds the link
pub after_make-by : (s t : State) (p : Pid) (a b : EndId) → may_make s p a b ≡ true → t ≡ adds_link a.link (p, p) s → t ≡ after_make p a b s
unfolding makes
after_make-by s t p a b may is =
    is
    ∙ (λ i. record s {
      made = slice_set s.made a.link.maker (sym count i + 1);
      ends = put (put s.ends (sym asks.pair.first i) (fresh (Owned p))) (other i) (fresh (Owned p));
    })
  where
    asks : MakeAsks s p a b
    asks = make-asks s p a b may

    count : slice_index s.made a.link.maker ≡ a.link.count
    count = get_or_from_slice_get s.made a.link.maker a.link.count 0 asks.next

    other : opposite (record { link = a.link; side = A }) ≡ b
    other = ap opposite (sym asks.pair.first) ∙ sym asks.pair.second

-- a wire adds the link
pub wires-by : (s : State) (wire : Pid × Pid) (link : LinkId) → link.maker ≡ slice_index s.homes wire.0.0 → link.count ≡ slice_index s.made (slice_index s.homes wire.0.0)
    → adds_link link wire s ≡ wires wire s
unfolding wires_one
wires-by s wire link maker count = λ i. adds_link (record { maker = maker i; count = count i }) wire s

-- as many kernels as before
long-made : (homes : List ℕ) (ws : List (Pid × Pid)) (w : Wired) → length (fold (wires_one homes) w ws).made ≡ length w.made
unfolding wires_one
long-made homes [] w = refl
long-made homes (x ∷ xs) w =
    long-made homes xs (wires_one homes w x) ∙ length-set w.made (slice_index homes x.0.0) (slice_index w.made (slice_index homes x.0.0) + 1)

-- a kernel has made no more links than there are wires
few-at : (made : List ℕ) (k n : ℕ) → All (λ c. c ≤ n) made → slice_index made k ≤ n
few-at [] k n few = omega arith
few-at (x ∷ xs) zero n few = few 0 x (omega arith)
few-at (x ∷ xs) (suc k) n few = few-at xs k n (λ i d below. few (suc i) d (omega arith))

few-counts : (made : List ℕ) (k n : ℕ) → All (λ c. c ≤ n) made → All (λ c. c ≤ n + 1) (counts k made)
few-counts made k n few =
    All-set (λ c. c ≤ n + 1) made k (slice_index made k + 1) (let at : slice_index made k ≤ n = few-at made k n few in omega arith)
    (λ i d below. let at : get_or made i d ≤ n = few i d below in omega arith)

few-made : (homes : List ℕ) (ws : List (Pid × Pid)) (w : Wired) (n : ℕ) → All (λ c. c ≤ n) w.made → All (λ c. c ≤ n + length ws) (fold (wires_one homes) w ws).made
unfolding wires_one
few-made homes [] w n few = λ i d below. let at : get_or w.made i d ≤ n = few i d below in omega arith
few-made homes (x ∷ xs) w n few =
    let more : All (λ c. c ≤ n + 1 + length xs) (fold (wires_one homes) (wires_one homes w x) xs).made
    = few-made homes xs (wires_one homes w x) (n + 1) (few-counts w.made (slice_index homes x.0.0) n few) in
    λ i d below. let at : get_or (fold (wires_one homes) (wires_one homes w x) xs).made i d ≤ n + 1 + length xs = more i d below in omega arith

-- the home of a process may make a link more, at each wire of the start
module _ (s : Setting) (valid : IsValid s) (i : ℕ) (below : i < length s.wires) (v : ServiceView) (wired : HasWired s i v) (p : Pid) (there : p.0 < length s.homes) where
  same-homes : v.homes ≡ s.homes
  unfolding state_of
  same-homes = ap (λ (t : State). t.homes) wired.state

  same-made : v.made ≡ (wired_links s i).made
  unfolding state_of
  same-made = ap (λ (t : State). t.made) wired.state

  kernels : length (wired_links s i).made ≡ s.kernels
  kernels = long-made s.homes (take i s.wires) (nothing_wired s.kernels) ∙ length-replicate s.kernels 0

  home : slice_index s.homes p.0 < s.kernels
  home = valid.homes p.0 0 there

  few : slice_index (wired_links s i).made (slice_index s.homes p.0) ≤ 0 + length (take i s.wires)
  few =
      few-at (wired_links s i).made (slice_index s.homes p.0) (0 + length (take i s.wires))
      (few-made s.homes (take i s.wires) (nothing_wired s.kernels) 0 (All-replicate (λ c. c ≤ 0) s.kernels 0 (omega arith)))

  below-limit : slice_index (wired_links s i).made (slice_index s.homes p.0) < link_limit
  below-limit =
      let short : length (take i s.wires) ≡ i = length-take-le i s.wires (omega arith) in
      let most : length s.wires ≤ 4096 = valid.limits.wires in
      let at : slice_index (wired_links s i).made (slice_index s.homes p.0) ≤ 0 + length (take i s.wires) = few in omega (arith, short)

  pub has-room : HasRoom v p
  has-room =
      record {
        there = subst (λ (l : List ℕ). p.0 < length l) (sym same-homes) there;
        home = subst (λ (l : List ℕ). slice_index l p.0 < length v.made) (sym same-homes)
            (subst (λ (l : List ℕ). slice_index s.homes p.0 < length l) (sym same-made) (subst (λ n. slice_index s.homes p.0 < n) (sym kernels) home));
        room = subst (λ (l : List ℕ). slice_index v.made (slice_index l p.0) < link_limit) (sym same-homes)
            (subst (λ (l : List ℕ). slice_index l (slice_index s.homes p.0) < link_limit) (sym same-made) below-limit);
      }

-- one wire more is made
pub wired-more : (s : Setting) (i : ℕ) (v w : ServiceView) (wire : Pid × Pid) → i < length s.wires → HasWired s i v → wire ≡ get_or s.wires i wire → state_of w ≡ wires wire (state_of v)
    → length w.processes ≡ length v.processes → HasWired s (i + 1) w
wired-more s i v w wire below wired at is count =
    record {
      state = is ∙ ap (wires wire) wired.state ∙ ap (λ (x : Pid × Pid). wires x (wired_state s (wired_links s i))) at
          ∙ ap (wired_state s) (sym (fold_more (wires_one s.homes) (nothing_wired s.kernels) s.wires i wire below));
      count = count ∙ wired.count;
    }

-- all wires are made
pub wired_all : (s : Setting) (v : ServiceView) → HasWired s (length s.wires) v → state_of v ≡ start_state s
wired_all s v wired = wired.state ∙ ap (λ (ws : List (Pid × Pid)). wired_state s (fold (wires_one s.homes) (nothing_wired s.kernels) ws)) (take-length s.wires)
