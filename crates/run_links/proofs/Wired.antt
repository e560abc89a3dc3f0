-- The ends that a process of a setting has are those that it owns at the start of the service.
use Rattle.std.proofs.Common.{◌≡◌, ℕ, zero, suc, ◌+◌, ◌*◌, ◌<◌, ◌≤◌, ◌==◌, Bool, true, false, if◌then◌else◌, List, [], ◌∷◌, ◌++◌, length, inl, inr, refl, sym, ap, subst, ◌∙◌, get_or-set_same, get_or-set_other, length-set, replicate, All, arith}
use Rattle.std.specs.Prelude.{slice_index, slice_set}
use Rattle.std.specs.List.{AllByRecursion, IsDistinct, flat_map, fold}
use Rattle.std.proofs.lemmas.Bool.{eq-eqb, eqb-true}
use Rattle.std.proofs.lemmas.Bool.Decides.{eqb_tells}
use Rattle.std.proofs.lemmas.List.{length-append, length-replicate}
use Rattle.std.proofs.lemmas.List.Elements.{All-get_or, All-head, All-tail}
use Rattle.charlotte_calls.specs.Names.{opposite}
use Rattle.charlotte_calls.specs.Setting.{IsValid}
use Rattle.charlotte_calls.specs.declared.names.EndId.{EndId}
use Rattle.charlotte_calls.specs.declared.names.LinkId.{LinkId}
use Rattle.charlotte_calls.specs.declared.names.Pid.{Pid}
use Rattle.charlotte_calls.specs.declared.setting.Setting.{Setting}
use Rattle.service_change.proofs.EndEq.{end_eq-same, end_eq-sym, opposite-apart, put-at, put-other}
use Rattle.service_step.specs.Ends.{end_eq, fresh, put}
use Rattle.service_step.specs.Run.{Wired, first_end, nothing_wired, start_state, wires_one}
use Rattle.service_step.specs.declared.state.End.{End}
use Rattle.service_step.specs.declared.state.Place.TheVariants.{Owned}
use Rattle.lynx_load.proofs.Wiring.{AreMade, keeps_made, made_more}
use Rattle.lynx_load.specs.Ends.{Wire, ends_of, links_behind, made_for, maker, own_of, wired_behind}
use Rattle.carried_ends.specs.Acted.{process}

-- the link of an end is made
abbrev IsMade : Wired → EndId → Type 0
IsMade v x = x.link.count < slice_index v.made x.link.maker

-- both ends of a link, of which this is end a, are with the processes of its wire
abbrev IsPlaced : (EndId → End) → EndId → Wire → Type 0
IsPlaced ends x w = ((ends x).place ≡ Owned w.0) × ((ends (opposite x)).place ≡ Owned w.1)

module _ (s : Setting) where
  -- ---- a wire

  module _ (v : Wired) (w : Wire) (short : maker s w < length v.made) where
    abbrev k : ℕ
    k = maker s w

    abbrev first : EndId
    first = first_end k (slice_index v.made k)

    abbrev more : List ℕ
    more = slice_set v.made k (slice_index v.made k + 1)

    grown : slice_index more k ≡ slice_index v.made k + 1
    grown = get_or-set_same v.made k (slice_index v.made k + 1) 0 short

    grows : (j : ℕ) → slice_index v.made j ≤ slice_index more j
    grows j = elim (eqb_tells j k) [
      | inl same ↦
          (let at : slice_index more j ≡ slice_index v.made j + 1 = subst (λ (i : ℕ). slice_index more i ≡ slice_index v.made i + 1) (sym same.1) grown in
          omega (arith, at))
      | inr other ↦ (let at : slice_index v.made j ≡ slice_index more j = sym (get_or-set_other v.made k j (slice_index v.made k + 1) 0 other.1) in omega (arith, at))
    ]

    -- its ends are not those of a link that is made
    apart : (x : EndId) → IsMade v x → (y : EndId) → y.link ≡ first.link → end_eq y x ≡ false
    apart x made y link = by (end_eq y x) refl
      where
        by : (b : Bool) → end_eq y x ≡ b → b ≡ false
        by true same =
            let at : x.link ≡ first.link = ap (λ (z : EndId). z.link) (sym (end_eq-same y x same)) ∙ link in
            let no : slice_index v.made k < slice_index v.made k = subst (λ (l : LinkId). l.count < slice_index v.made l.maker) at made in
            absurd (omega (arith, no))
        by false differ = refl

    stays : (x : EndId) → IsMade v x → (wires_one s.homes v w).ends x ≡ v.ends x
    unfolding wires_one
    stays x made =
        put-other (put v.ends first (fresh (Owned w.0))) (opposite first) (fresh (Owned w.1)) x (apart x made (opposite first) refl) ∙ put-other v.ends first (fresh (Owned w.0)) x (apart x made first refl)

    still : (x : EndId) → IsMade v x → IsMade (wires_one s.homes v w) x
    unfolding wires_one
    still x made = omega (arith, made, grows x.link.maker)

    new : IsMade (wires_one s.homes v w) first
    unfolding wires_one
    new = omega (arith, grown)

    new_first : ((wires_one s.homes v w).ends first).place ≡ Owned w.0
    unfolding wires_one
    new_first =
        ap (λ (e : End). e.place) (put-other (put v.ends first (fresh (Owned w.0))) (opposite first) (fresh (Owned w.1)) first (opposite-apart first) ∙ put-at v.ends first (fresh (Owned w.0)))

    new_second : ((wires_one s.homes v w).ends (opposite first)).place ≡ Owned w.1
    unfolding wires_one
    new_second = ap (λ (e : End). e.place) (put-at (put v.ends first (fresh (Owned w.0))) (opposite first) (fresh (Owned w.1)))

    long : length (wires_one s.homes v w).made ≡ length v.made
    unfolding wires_one
    long = length-set v.made k (slice_index v.made k + 1)

    made_so : (before : List Wire) → AreMade s v.made before → AreMade s (wires_one s.homes v w).made (before ++ w ∷ [])
    unfolding wires_one
    made_so before made = keeps_made s v.made before w k refl short made

  -- ---- all wires

  abbrev HaveMakers : List Wire → Type 0
  HaveMakers ws = AllByRecursion (λ w. maker s w < s.kernels) ws

  all_stay : (ws : List Wire) (v : Wired) (x : EndId) → HaveMakers ws → length v.made ≡ s.kernels → IsMade v x → (fold (wires_one s.homes) v ws).ends x ≡ v.ends x
  all_stay [] v x makers many made = refl
  all_stay (w ∷ ws) v x makers many made =
      let short : maker s w < length v.made = omega (arith, makers.0, many) in
      all_stay ws (wires_one s.homes v w) x makers.1 (long v w short ∙ many) (still v w short x made) ∙ stays v w short x made

  pub links_placed : (before ws : List Wire) (v : Wired) → s.kernels ≤ 8 → HaveMakers ws → length v.made ≡ s.kernels → AreMade s v.made before
      → AllByRecursion (λ l. IsPlaced (fold (wires_one s.homes) v ws).ends l.end l.wire) (links_behind s before ws)
  links_placed before [] v few makers many made = tt
  links_placed before (w ∷ ws) v few makers many made =
      let short : maker s w < length v.made = omega (arith, makers.0, many) in
      let next : Wired = wires_one s.homes v w in
      let at : first v w short ≡ (wired_behind s before w).end = ap (λ (n : ℕ). first_end (maker s w) n) (made (maker s w) (omega (arith, makers.0, few))) in
      let stay : (x : EndId) → IsMade next x → (fold (wires_one s.homes) next ws).ends x ≡ next.ends x = λ x is. all_stay ws next x makers.1 (long v w short ∙ many) is in (
        subst (λ (x : EndId). (((fold (wires_one s.homes) next ws).ends x).place ≡ Owned w.0) × (((fold (wires_one s.homes) next ws).ends (opposite x)).place ≡ Owned w.1)) at (
          ap (λ (e : End). e.place) (stay (first v w short) (new v w short)) ∙ new_first v w short,
          ap (λ (e : End). e.place) (stay (opposite (first v w short)) (new v w short)) ∙ new_second v w short,
        ),
        links_placed (before ++ w ∷ []) ws next few makers.1 (long v w short ∙ many) (made_so v w short before made),
      )

-- ---- the ends of a process

both_all : {X : Type 0} (P : X → Type 0) (xs ys : List X) → AllByRecursion P xs → AllByRecursion P ys → AllByRecursion P (xs ++ ys)
both_all P [] ys all others = others
both_all P (x ∷ xs) ys all others = (all.0, both_all P xs ys all.1 others)

one_owned : (ends : EndId → End) (x : EndId) (q : Pid) (p : ℕ) → (ends x).place ≡ Owned q → (b : Bool) → (q.0 == p) ≡ b
    → AllByRecursion (λ (y : EndId). (ends y).place ≡ Owned (process p)) (if b then x ∷ [] else [])
one_owned ends x q p owned true same = (owned ∙ ap (λ (i : ℕ). Owned (process i)) (eqb-true q.0 p same), tt)
one_owned ends x q p owned false other = tt

pub ends_owned : (ends : EndId → End) (p : ℕ) (s : Setting) (before ws : List Wire) → AllByRecursion (λ l. IsPlaced ends l.end l.wire) (links_behind s before ws)
    → AllByRecursion (λ (y : EndId). (ends y).place ≡ Owned (process p)) (flat_map (own_of p) (links_behind s before ws))
ends_owned ends p s before [] placed = tt
ends_owned ends p s before (w ∷ ws) placed =
    let x : EndId = (wired_behind s before w).end in
    both_all (λ (y : EndId). (ends y).place ≡ Owned (process p)) (own_of p (wired_behind s before w)) (flat_map (own_of p) (links_behind s (before ++ w ∷ []) ws))
    (both_all (λ (y : EndId). (ends y).place ≡ Owned (process p)) (if w.0.0 == p then x ∷ [] else []) (if w.1.0 == p then opposite x ∷ [] else [])
    (one_owned ends x w.0 p placed.0.0 (w.0.0 == p) refl) (one_owned ends (opposite x) w.1 p placed.0.1 (w.1.0 == p) refl))
    (ends_owned ends p s (before ++ w ∷ []) ws placed.1)

-- ---- there are two of each link at most

few_own : (b c : Bool) (x y : EndId) → length ((if b then x ∷ [] else []) ++ (if c then y ∷ [] else [])) ≤ 2
few_own true true x y = omega arith
few_own true false x y = omega arith
few_own false true x y = omega arith
few_own false false x y = omega arith

few_behind : (s : Setting) (p : ℕ) (before ws : List Wire) → length (flat_map (own_of p) (links_behind s before ws)) ≤ 2 * length ws
few_behind s p before [] = omega arith
few_behind s p before (w ∷ ws) =
    let x : EndId = (wired_behind s before w).end in
    let one = few_own (w.0.0 == p) (w.1.0 == p) x (opposite x) in
    let others = few_behind s p (before ++ w ∷ []) ws in
    omega (arith, one, others, length-append (own_of p (wired_behind s before w)) (flat_map (own_of p) (links_behind s (before ++ w ∷ []) ws)))

pub ends_few : (s : Setting) (p : ℕ) → length (ends_of s p) ≤ 2 * length s.wires
ends_few s p = few_behind s p [] s.wires

-- ---- no end comes twice

-- an end of another link is apart from both ends of a link
one_apart : (x y a : EndId) → y.link ≡ a.link → (a.link ≡ x.link → ⊥) → (b : Bool) → AllByRecursion (λ (z : EndId). end_eq x z ≡ false) (if b then y ∷ [] else [])
one_apart x y a link none false = tt
one_apart x y a link none true = (by (end_eq x y) refl, tt)
  where
    by : (b : Bool) → end_eq x y ≡ b → b ≡ false
    by true same = absurd (none (sym link ∙ ap (λ (z : EndId). z.link) (sym (end_eq-same x y same))))
    by false differ = refl

-- and so it is not among the ends of a process, of other links
no_end : (p : ℕ) (x : EndId) (s : Setting) (before ws : List Wire) → AllByRecursion (λ l. l.end.link ≡ x.link → ⊥) (links_behind s before ws)
    → AllByRecursion (λ (y : EndId). end_eq x y ≡ false) (flat_map (own_of p) (links_behind s before ws))
no_end p x s before [] none = tt
no_end p x s before (w ∷ ws) none =
    let a : EndId = (wired_behind s before w).end in
    both_all (λ (y : EndId). end_eq x y ≡ false) (own_of p (wired_behind s before w)) (flat_map (own_of p) (links_behind s (before ++ w ∷ []) ws))
    (both_all (λ (y : EndId). end_eq x y ≡ false) (if w.0.0 == p then a ∷ [] else []) (if w.1.0 == p then opposite a ∷ [] else [])
    (one_apart x a a refl none.0 (w.0.0 == p)) (one_apart x (opposite a) a refl none.0 (w.1.0 == p)))
    (no_end p x s (before ++ w ∷ []) ws none.1)

-- the ends of a link stand before others
its_ends : (a : EndId) (rest : List EndId) → AllByRecursion (λ (y : EndId). end_eq a y ≡ false) rest → AllByRecursion (λ (y : EndId). end_eq (opposite a) y ≡ false) rest → end_eq a (opposite a) ≡ false → IsDistinct end_eq rest
    → (b c : Bool) → IsDistinct end_eq (((if b then a ∷ [] else []) ++ (if c then opposite a ∷ [] else [])) ++ rest)
unfolding IsDistinct
its_ends a rest none none' apart distinct true true = ((apart, none), (none', distinct))
its_ends a rest none none' apart distinct true false = (none, distinct)
its_ends a rest none none' apart distinct false true = (none', distinct)
its_ends a rest none none' apart distinct false false = distinct

module _ (s : Setting) where
  -- a link that was made for these wires is none of those behind them
  none_later : (before ws : List Wire) (x : EndId) → x.link.count < made_for s x.link.maker before → AllByRecursion (λ l. l.end.link ≡ x.link → ⊥) (links_behind s before ws)
  none_later before [] x made = tt
  none_later before (w ∷ ws) x made =
      let more : made_for s x.link.maker (before ++ w ∷ []) ≡ made_for s x.link.maker before + (if maker s w == x.link.maker then 1 else 0) = made_more s x.link.maker before w in (
        λ same. (let no : x.link.count ≡ made_for s x.link.maker before = ap (λ (l : LinkId). l.count) (sym same) ∙ ap (λ m. made_for s m before) (ap (λ (l : LinkId). l.maker) same) in omega (arith, no, made)),
        none_later (before ++ w ∷ []) ws x (omega (arith, more, made)),
      )

  distinct : (p : ℕ) (before ws : List Wire) → IsDistinct end_eq (flat_map (own_of p) (links_behind s before ws))
  unfolding IsDistinct
  distinct p before [] = tt
  distinct p before (w ∷ ws) =
      let a : EndId = (wired_behind s before w).end in
      let rest : List EndId = flat_map (own_of p) (links_behind s (before ++ w ∷ []) ws) in
      let k : ℕ = maker s w in
      let more : made_for s k (before ++ w ∷ []) ≡ made_for s k before + 1 = made_more s k before w ∙ ap (λ (b : Bool). made_for s k before + (if b then 1 else 0)) (eq-eqb k k refl) in
      let none : AllByRecursion (λ l. l.end.link ≡ a.link → ⊥) (links_behind s (before ++ w ∷ []) ws) = none_later (before ++ w ∷ []) ws a (omega (arith, more)) in
      its_ends a rest (no_end p a s (before ++ w ∷ []) ws none) (no_end p (opposite a) s (before ++ w ∷ []) ws none)
      (end_eq-sym a (opposite a) ∙ opposite-apart a) (distinct p (before ++ w ∷ []) ws) (w.0.0 == p) (w.1.0 == p)

  -- ---- of a setting

  module _ (valid : IsValid s) where
    have_makers : (ws : List Wire) → All (λ wire. (wire.0.0 < length s.homes) × (wire.1.0 < length s.homes)) ws → AllByRecursion (λ w. maker s w < s.kernels) ws
    have_makers [] there = tt
    have_makers (w ∷ ws) there = (
      All-get_or (λ home. home < s.kernels) s.homes w.0.0 0 (All-head (λ wire. (wire.0.0 < length s.homes) × (wire.1.0 < length s.homes)) w ws there).0 valid.homes,
      have_makers ws (All-tail (λ wire. (wire.0.0 < length s.homes) × (wire.1.0 < length s.homes)) w ws there),
    )

    none_made : (n i : ℕ) → slice_index (replicate n 0) i ≡ 0
    none_made zero i = refl
    none_made (suc n) zero = refl
    none_made (suc n) (suc i) = none_made n i

    -- the ends of a process are its own at the start of the service, and no two are one
    pub own_at_start : (p : ℕ) → AllByRecursion (λ (y : EndId). ((start_state s).ends y).place ≡ Owned (process p)) (ends_of s p)
    own_at_start p =
        ends_owned (start_state s).ends p s [] s.wires
        (links_placed s [] s.wires (nothing_wired s.kernels) valid.limits.kernels (have_makers s.wires valid.wires) (length-replicate s.kernels 0) (λ k below. none_made s.kernels k))

    pub apart_at_start : (p : ℕ) → IsDistinct end_eq (ends_of s p)
    apart_at_start p = distinct p [] s.wires
