-- The machine for the types of a signature can come to an end from wherever it comes to.
use Rattle.std.proofs.Common.{◌≡◌, ℕ, zero, suc, ◌-◌, ◌+◌, ◌≤◌, Bool, true, false, cond, List, [], ◌∷◌, ◌++◌, length, Option, Some, None, Ok, refl, sym, ap, ◌∙◌, arith, inl, inr, pos}
use Rattle.std.specs.Prelude.{◌⊎◌, ◌&&◌, ◌||◌, ◌==◌, nat_le}
use Rattle.std.proofs.lemmas.Bool.{and_parts, eqb-true, cases_eq, leb-true}
use Rattle.lynx_tree.specs.declared.declaration.TypeName.{TypeName}
use Rattle.lynx_tree.specs.declared.declaration.TypeName.TheVariants as types
use Rattle.typing_rules.specs.Types.{has_length, is_link}
use Rattle.typing_rules.specs.Signatures.{type_text}
use Rattle.lynx_packets.specs.declared.spot.Part.{Part}
use Rattle.lynx_packets.specs.declared.spot.Part.TheVariants.{Arguments, Results}
use Rattle.lynx_packets.specs.declared.spot.Spot.{Spot}
use Rattle.lynx_packets.specs.declared.spot.Spot.TheVariants as spots
use Rattle.lynx_packets.specs.Spots.{closes, goes_on, ends, behind, closed, ended_on, next_spot, type_told, link_told, listed, types_at}
use Rattle.lynx_packets.proofs.Sizes.{chosen}
use Rattle.lynx_packets.proofs.Types.{types_done}
use Rattle.lynx_packets.proofs.Runs.{Read, Live, step_of, ends_early}
use Rattle.lynx_packets.proofs.Items.{in_part, start, IsMark, MayStand, quiet, item_runs, two_digits}

-- ---- what a step asks of its byte

abbrev at_spot : Spot → Option Spot
at_spot s = Some s

pub spot_is : (s next : Spot) → at_spot s ≡ Some next → s ≡ next
spot_is s next e = cc

-- a test that a step made
pub tested : (b : Bool) (s next : Spot) → cond b (at_spot s) None ≡ Some next → (b ≡ true) × (s ≡ next)
tested true s next e = (refl, spot_is s next e)
tested false s next e = absurd cc

-- behind a type stands a closing bracket or a comma
abbrev pub Marked : Part → ℕ → ℕ → Spot → Type 0
Marked part left b next = ((b ≡ 41) × (closes part left ≡ true) × (closed part ≡ next)) ⊎ ((b ≡ 44) × (goes_on part left ≡ true) × (spots.Comma part ≡ next))

pub marked : (part : Part) (left b : ℕ) (next : Spot) → ended_on part left b ≡ Some next → Marked part left b next
marked part left b next e =
    elim (chosen (b == 41 && closes part left) (at_spot (closed part)) (cond (b == 44 && goes_on part left) (Some (spots.Comma part)) None) (Some next) e) [
      | inl t ↦ let p = and_parts (b == 41) (closes part left) t.0 in inl (eqb-true b 41 p.0, p.1, spot_is (closed part) next t.1)
      | inr f ↦ let t = tested (b == 44 && goes_on part left) (spots.Comma part) next f.1 in let p = and_parts (b == 44) (goes_on part left) t.0 in inr (eqb-true b 44 p.0, p.1, t.1)
    ]

pub mark_of : (part : Part) (left b : ℕ) (next : Spot) → Marked part left b next → IsMark b
mark_of part left b next (inl p) = inl p.0
mark_of part left b next (inr p) = inr p.0

pub ended_steps : (links left : ℕ) (part : Part) (b : ℕ) (next : Spot) → next_spot links left (spots.Ended part) b ≡ Some next → ended_on part left b ≡ Some next
unfolding next_spot
ended_steps links left part b next e = e

-- a text that ends a part begins with one of them
pub record Opens (links left : ℕ) (part : Part) (text : List ℕ) (x : Read) : Type 0 where
  pub e : ℕ
  pub bs : List ℕ
  pub parts : text ≡ e ∷ bs
  pub mark : IsMark e

pub opens_with : (links left : ℕ) (part : Part) (text : List ℕ) (x : Read) → types_at links left (spots.Ended part) text ≡ Ok x → Opens links left part text x
opens_with links left part [] x runs = ends_early links left (spots.Ended part) x refl runs
opens_with links left part (e ∷ bs) x runs =
    let s = step_of links left (spots.Ended part) e bs x refl runs in
    record { e = e; bs = bs; parts = refl; mark = mark_of part left e s.next (marked part left e s.next (ended_steps links left part e s.next s.goes)) }

-- ---- a type with which a part can go on

abbrev starts : Part → ℕ → Bool
starts Arguments m = nat_le 7 m
starts Results m = (nat_le 4 m && nat_le m 6) || nat_le 8 m

record Pick (part : Part) (m : ℕ) : Type 0 where
  t : TypeName
  k : ℕ
  has : has_length t ≡ true
  plain : is_link t ≡ false
  size : m ≡ length (type_text t) + k
  live : ends part k ≡ true

row10 : length (type_text (types.Row (pos 10))) ≡ 5
row10 = ap (λ (ds : List ℕ). length (114 ∷ 111 ∷ 119 ∷ ds)) (two_digits 10 (omega arith) (omega arith))

pick_arguments : (m : ℕ) → starts Arguments m ≡ true → Pick Arguments m
pick_arguments m e =
    elim (cases_eq m 8) [
      | inl is ↦ record { t = types.Bool; k = 4; has = refl; plain = refl; size = is; live = refl }
      | inr other ↦ elim (cases_eq m 9) [
        | inl is ↦ record { t = types.Row (pos 10); k = 4; has = refl; plain = refl; size = omega (arith, is, row10); live = refl }
        | inr nine ↦ record { t = types.Int; k = m - 3; has = refl; plain = refl; size = omega (arith, leb-true 7 m e); live = grind (arith, e, other, nine) }
      ]
    ]

pick_results : (m : ℕ) → starts Results m ≡ true → Pick Results m
pick_results m e =
    elim (cases_eq m 6) [
      | inl is ↦ record { t = types.Row (pos 10); k = 1; has = refl; plain = refl; size = omega (arith, is, row10); live = refl }
      | inr six ↦ elim (cases_eq m 5) [
        | inl is ↦ record { t = types.Bool; k = 1; has = refl; plain = refl; size = is; live = refl }
        | inr five ↦ elim (cases_eq m 11) [
          | inl is ↦ record { t = types.Bool; k = 7; has = refl; plain = refl; size = is; live = refl }
          | inr other ↦ record { t = types.Int; k = m - 3; has = refl; plain = refl; size = grind (arith, e); live = grind (arith, e, six, five, other) }
        ]
      ]
    ]

pick : (part : Part) (m : ℕ) → starts part m ≡ true → Pick part m
pick Arguments m e = pick_arguments m e
pick Results m e = pick_results m e

plain_stands : (links : ℕ) (part : Part) (t : TypeName) → is_link t ≡ false → MayStand links part t
plain_stands links part types.Link e = absurd cc
plain_stands links part types.Int e = tt
plain_stands links part types.Bool e = tt
plain_stands links part types.Text e = tt
plain_stands links part (types.Row n) e = tt

-- ---- how a part comes to an end

abbrev pub EndsWell : ℕ → Type 0
EndsWell fuel = (part : Part) (links m : ℕ) → m ≤ fuel → ends part m ≡ true → Live links m (spots.Ended part)

start_live : (fuel : ℕ) → EndsWell fuel → (opened : Bool) (part : Part) (links m : ℕ) → m ≤ fuel → starts part m ≡ true → Live links m (start opened part)
start_live fuel well opened part links m le e =
    let p = pick part m e in
    let rest = well part (links - link_told (in_part part (Some p.t))) p.k (omega (arith, le, p.size)) p.live in
    let o = opens_with (links - link_told (in_part part (Some p.t))) p.k part rest.text (rest.ts, []) rest.runs in
    let runs = ap (λ (t : List ℕ). types_at (links - link_told (in_part part (Some p.t))) p.k (spots.Ended part) t) (sym o.parts) ∙ rest.runs in
    record { text = type_text p.t ++ o.e ∷ o.bs; ts = listed (in_part part (Some p.t)) ++ rest.ts; runs = item_runs opened part p.t p.has links m p.k o.e o.bs (rest.ts, []) (plain_stands links part p.t p.plain) p.size p.live o.mark runs }

-- ---- how each spot comes to an end

done_live : (links left : ℕ) → Live links left spots.Done
done_live links left = record { text = []; ts = []; runs = types_done links left spots.Done [] refl }

results_live : (fuel : ℕ) → EndsWell fuel → (links k : ℕ) → k ≤ fuel → (k ≡ 1) ⊎ (starts Results k ≡ true) → Live links k (spots.Opened Results)
unfolding next_spot type_told
results_live fuel well links k le (inl one) = rw one (record { text = 41 ∷ []; ts = []; runs = quiet links 0 (spots.Opened Results) 41 [] spots.Done ([], []) refl refl (types_done links 0 spots.Done [] refl) })
results_live fuel well links k le (inr may) = start_live fuel well true Results links k le may

room_for_results : (m : ℕ) → closes Arguments m ≡ true → (m - 3 ≡ 1) ⊎ (starts Results (m - 3) ≡ true)
room_for_results m e =
    elim (cases_eq m 4) [
      | inl four ↦ inl (omega (arith, four))
      | inr other ↦ inr (grind (arith, e, other))
    ]

colon_live : (fuel : ℕ) → EndsWell fuel → (links m : ℕ) → m ≤ suc fuel → closes Arguments m ≡ true → Live links (m - 1) spots.Colon
unfolding next_spot type_told
colon_live fuel well links m le e =
    let some : 4 ≤ m = grind (arith, e) in
    let o = results_live fuel well links (m - 3) (omega (arith, le, some)) (room_for_results m e) in
    let size : suc (suc (m - 3)) ≡ m - 1 = omega (arith, some) in
    rw (← size) (record { text = 58 ∷ 40 ∷ o.text; ts = o.ts; runs = quiet links (suc (m - 3)) spots.Colon 58 (40 ∷ o.text) spots.Open (o.ts, []) refl refl (quiet links (m - 3) spots.Open 40 o.text (spots.Opened Results) (o.ts, []) refl refl o.runs) })

pub closed_live : (fuel : ℕ) → EndsWell fuel → (part : Part) (links m : ℕ) → m ≤ suc fuel → closes part m ≡ true → Live links (m - 1) (closed part)
closed_live fuel well Arguments links m le e = colon_live fuel well links m le e
closed_live fuel well Results links m le e = done_live links (m - 1)

comma_room : (part : Part) (m : ℕ) → goes_on part m ≡ true → starts part (m - 1) ≡ true
comma_room Arguments m e = grind (arith, e)
comma_room Results m e = grind (arith, e)

pub comma_live : (fuel : ℕ) → EndsWell fuel → (part : Part) (links m : ℕ) → m ≤ suc fuel → goes_on part m ≡ true → Live links (m - 1) (spots.Comma part)
comma_live fuel well part links m le e = start_live fuel well false part links (m - 1) (omega (arith, le)) (comma_room part m e)

pub some_left : (part : Part) (m : ℕ) → ends part m ≡ true → m ≡ suc (m - 1)
some_left Arguments m e = grind (arith, e)
some_left Results m e = grind (arith, e)

goes_else : (a b : Bool) → a ≡ false → (a || b) ≡ true → b ≡ true
goes_else true b e f = absurd cc
goes_else false b e f = f

ended_by : (fuel : ℕ) → EndsWell fuel → (part : Part) (links m : ℕ) (c : Bool) → closes part m ≡ c → m ≤ suc fuel → ends part m ≡ true → Live links m (spots.Ended part)
unfolding next_spot type_told
ended_by fuel well part links m true is le e =
    let next = closed_live fuel well part links m le is in
    let size = some_left part m e in
    let goes : next_spot links (suc (m - 1)) (spots.Ended part) 41 ≡ Some (closed part) = rw (← size, is) refl in
    record { text = 41 ∷ next.text; ts = next.ts; runs = ap (λ (l : ℕ). types_at links l (spots.Ended part) (41 ∷ next.text)) size ∙ quiet links (m - 1) (spots.Ended part) 41 next.text (closed part) (next.ts, []) goes refl next.runs }
ended_by fuel well part links m false is le e =
    let on = goes_else (closes part m) (goes_on part m) is e in
    let next = comma_live fuel well part links m le on in
    let size = some_left part m e in
    let goes : next_spot links (suc (m - 1)) (spots.Ended part) 44 ≡ Some (spots.Comma part) = rw (← size, on) refl in
    record { text = 44 ∷ next.text; ts = next.ts; runs = ap (λ (l : ℕ). types_at links l (spots.Ended part) (44 ∷ next.text)) size ∙ quiet links (m - 1) (spots.Ended part) 44 next.text (spots.Comma part) (next.ts, []) goes refl next.runs }

none_ends : (part : Part) (m : ℕ) → m ≤ 0 → ends part m ≡ true → ⊥
none_ends part m le e = omega (arith, le, some_left part m e)

pub ends_well : (fuel : ℕ) → EndsWell fuel
ends_well zero part links m le e = absurd (none_ends part m le e)
ends_well (suc fuel) part links m le e = ended_by fuel (ends_well fuel) part links m (closes part m) refl le e

pub ended_live : (part : Part) (links m : ℕ) → ends part m ≡ true → Live links m (spots.Ended part)
ended_live part links m e = ends_well m part links m (omega arith) e

-- behind so many bytes the part can end or go on
pub behind_parts : (part : Part) (left width : ℕ) → behind part left width ≡ true → (left ≡ width + (left - width)) × (ends part (left - width) ≡ true)
behind_parts part left width e = let p = and_parts (nat_le width left) (ends part (left - width)) e in (omega (arith, leb-true width left p.0), p.1)

-- where the arguments begin
first_room : (m : ℕ) → ((m == 4) || nat_le 7 m) ≡ true → (m ≡ 4) ⊎ (starts Arguments m ≡ true)
first_room m e =
    elim (cases_eq m 4) [
      | inl is ↦ inl is
      | inr other ↦ inr (grind (arith, e, other))
    ]

four_live : (links : ℕ) → Live links 4 (spots.Opened Arguments)
unfolding next_spot type_told
four_live links =
    let next = closed_live 4 (ends_well 4) Arguments links 4 (omega arith) refl in
    record { text = 41 ∷ next.text; ts = next.ts; runs = quiet links 3 (spots.Opened Arguments) 41 next.text (closed Arguments) (next.ts, []) refl refl next.runs }

opened_at : (links m : ℕ) → (m ≡ 4) ⊎ (starts Arguments m ≡ true) → Live links m (spots.Opened Arguments)
opened_at links m (inl is) = rw is (four_live links)
opened_at links m (inr may) = start_live m (ends_well m) true Arguments links m (omega arith) may

pub opened_live : (links m : ℕ) → ((m == 4) || nat_le 7 m) ≡ true → Live links m (spots.Opened Arguments)
opened_live links m e = opened_at links m (first_room m e)
