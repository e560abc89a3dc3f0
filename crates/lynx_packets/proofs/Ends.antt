-- What the machine reads to its end behind a name's bracket is the rest of a signature, and has the size.
use Rattle.std.proofs.Common.{◌≡◌, ℕ, zero, suc, ◌-◌, ◌+◌, ◌≤◌, true, List, [], ◌∷◌, ◌++◌, length, Some, None, refl, sym, ap, ◌∙◌, arith, inl, inr, append_assoc}
use Rattle.std.specs.Prelude.{◌⊎◌, ◌&&◌, ◌==◌}
use Rattle.std.proofs.lemmas.Bool.{and_parts, eqb-true}
use Rattle.std.proofs.lemmas.List.{length-append}
use Rattle.lynx_tree.specs.declared.declaration.TypeName.{TypeName}
use Rattle.typing_rules.specs.Signatures.{type_text, more_types_text, types_text}
use Rattle.lynx_packets.specs.declared.spot.Part.{Part}
use Rattle.lynx_packets.specs.declared.spot.Part.TheVariants.{Arguments, Results}
use Rattle.lynx_packets.specs.declared.spot.Spot.{Spot}
use Rattle.lynx_packets.specs.declared.spot.Spot.TheVariants as spots
use Rattle.lynx_packets.specs.Spots.{closes, goes_on, word_begun, started, closed, next_spot, type_told, link_told, listed, types_at}
use Rattle.lynx_packets.proofs.Sizes.{chosen, ok_is}
use Rattle.lynx_packets.proofs.Types.{types_done}
use Rattle.lynx_packets.proofs.Runs.{Read, Rest, step_of, ends_early}
use Rattle.lynx_packets.proofs.Items.{in_part}
use Rattle.lynx_packets.proofs.Lives.{Marked, marked, spot_is, ended_steps}
use Rattle.lynx_packets.proofs.Steady.{colon_single, open_single}
use Rattle.lynx_packets.proofs.Tails.{behind_close, close_text, told_of, Few, join_told, nothing_told}
use Rattle.lynx_packets.proofs.Backwards.{Item, after, silent, single_back, begun_item}
use Rattle.lynx_packets.proofs.Arguments.{Lengths}

-- the text is that of types and of what closes the part
pub record Tail (links left : ℕ) (part : Part) (join : List TypeName → List ℕ) (text : List ℕ) (ts : List TypeName) : Type 0 where
  pub us : List TypeName
  pub rs : List TypeName
  pub fits : Lengths us
  pub rs_fit : Lengths rs
  pub few : Few links part us
  pub parts : text ≡ join us ++ close_text part rs
  pub size : left ≡ length text
  pub told : ts ≡ told_of part us

-- what closes a part
record Closing (left : ℕ) (part : Part) (text : List ℕ) (ts : List TypeName) : Type 0 where
  rs : List TypeName
  fits : Lengths rs
  parts : text ≡ behind_close part rs
  size : left ≡ suc (length text)
  told : ts ≡ []

abbrev ClosedBy : Part → Type 0
ClosedBy part = (links left : ℕ) (text : List ℕ) (ts : List TypeName) → closes part left ≡ true → Rest links (left - 1) (closed part) ts text → Closing left part text ts

some_goes : (part : Part) (left : ℕ) → goes_on part left ≡ true → left ≡ suc (left - 1)
some_goes Arguments left e = grind (arith, e)
some_goes Results left e = grind (arith, e)

-- a closing bracket and what stands behind it
closed_tail : (links left : ℕ) (part : Part) (join : List TypeName → List ℕ) (bs : List ℕ) (ts : List TypeName) → join [] ≡ [] → Closing left part bs ts → Tail links left part join (41 ∷ bs) ts
closed_tail links left part join bs ts none c = record { us = []; rs = c.rs; fits = tt; rs_fit = c.fits; few = tt; parts = ap (λ (x : List ℕ). 41 ∷ x) c.parts ∙ ap (λ (x : List ℕ). x ++ close_text part c.rs) (sym none); size = c.size; told = c.told ∙ nothing_told part }

-- a type, and the types behind it
item_tail : (links left : ℕ) (part : Part) (text : List ℕ) (ts : List TypeName) (i : Item links left part text ts) → Tail (links - link_told (in_part part (Some i.t))) i.m part more_types_text i.bs i.rest.us → Tail links left part types_text text ts
item_tail links left part text ts i t = record {
  us = i.t ∷ t.us;
  rs = t.rs;
  fits = (i.has, t.fits);
  rs_fit = t.rs_fit;
  few = (i.may, t.few);
  parts = i.parts ∙ ap (λ (x : List ℕ). type_text i.t ++ x) t.parts ∙ sym (append_assoc (type_text i.t) (more_types_text t.us) (close_text part t.rs));
  size = i.size ∙ ap (λ (n : ℕ). length (type_text i.t) + n) t.size ∙ sym (length-append (type_text i.t) i.bs) ∙ ap (λ (x : List ℕ). length x) (sym i.parts);
  told = i.rest.value ∙ ap (λ (x : List TypeName). listed (in_part part (Some i.t)) ++ x) t.told ∙ join_told part i.t t.us;
}

-- a comma, a type, and the types behind it
comma_tail : (links left : ℕ) (part : Part) (bs : List ℕ) (ts : List TypeName) → left ≡ suc (left - 1) → (t : Tail links (left - 1) part types_text bs ts) → (u : TypeName) (us : List TypeName) → t.us ≡ u ∷ us → Tail links left part more_types_text (44 ∷ bs) ts
comma_tail links left part bs ts some t u us is = record {
  us = t.us;
  rs = t.rs;
  fits = t.fits;
  rs_fit = t.rs_fit;
  few = t.few;
  parts = ap (λ (x : List ℕ). 44 ∷ x) t.parts ∙ ap (λ (x : List ℕ). x ++ close_text part t.rs) (ap (λ (x : List TypeName). 44 ∷ types_text x) is ∙ ap more_types_text (sym is));
  size = some ∙ ap suc t.size;
  told = t.told;
}

comma_steps : (links left : ℕ) (part : Part) (b : ℕ) (next : Spot) → next_spot links left (spots.Comma part) b ≡ Some next → started part (word_begun part links left b) ≡ Some next
unfolding next_spot
comma_steps links left part b next e = e

comma_item : (links left : ℕ) (part : Part) (text : List ℕ) (ts : List TypeName) → Rest links left (spots.Comma part) ts text → Item links left part text ts
unfolding type_told
comma_item links left part [] ts runs = ends_early links left (spots.Comma part) (ts, []) refl runs
comma_item links left part (b ∷ bs) ts runs =
    let s = step_of links left (spots.Comma part) b bs (ts, []) refl runs in
    let on = silent links (left - 1) s.next bs ts (after links left (left - 1) (spots.Comma part) b bs ts None s.next s refl refl refl) in
    begun_item part links left b bs s.next ts (word_begun part links left b) refl (comma_steps links left part b s.next s.goes) on

shorter : (text front bs : List ℕ) (fuel : ℕ) → text ≡ front ++ bs → length text ≤ fuel → length bs ≤ fuel
shorter text front bs fuel parts le = omega (arith, le, ap (λ (x : List ℕ). length x) parts, length-append front bs)

-- behind a type
EndsBack : Part → ℕ → Type 0
EndsBack part fuel = (links left : ℕ) (text : List ℕ) (ts : List TypeName) → length text ≤ fuel → Rest links left (spots.Ended part) ts text → Tail links left part more_types_text text ts

marked_tail : (part : Part) → ClosedBy part → (fuel : ℕ) → EndsBack part fuel → (links left b : ℕ) (bs : List ℕ) (next : Spot) (ts : List TypeName) → length bs ≤ fuel → Rest links (left - 1) next ts bs → Marked part left b next → Tail links left part more_types_text (b ∷ bs) ts
unfolding EndsBack item_tail
marked_tail part close fuel back links left b bs next ts le runs (inl p) =
    let on = ap (λ (s : Spot). types_at links (left - 1) s bs) p.2 ∙ runs in
    rw p.0 (closed_tail links left part more_types_text bs ts refl (close links left bs ts p.1 on))
marked_tail part close fuel back links left b bs next ts le runs (inr p) =
    let on = ap (λ (s : Spot). types_at links (left - 1) s bs) p.2 ∙ runs in
    let i = comma_item links (left - 1) part bs ts on in
    let t = back (links - link_told (in_part part (Some i.t))) i.m i.bs i.rest.us (shorter bs (type_text i.t) i.bs fuel i.parts le) i.rest.runs in
    rw p.0 (comma_tail links left part bs ts (some_goes part left p.1) (item_tail links (left - 1) part bs ts i t) i.t t.us refl)

ends_back : (part : Part) → ClosedBy part → (fuel : ℕ) → EndsBack part fuel
unfolding EndsBack type_told
ends_back part close fuel links left [] ts le runs = ends_early links left (spots.Ended part) (ts, []) refl runs
ends_back part close zero links left (b ∷ bs) ts le runs = absurd (omega (arith, le))
ends_back part close (suc fuel) links left (b ∷ bs) ts le runs =
    let s = step_of links left (spots.Ended part) b bs (ts, []) refl runs in
    let on = silent links (left - 1) s.next bs ts (after links left (left - 1) (spots.Ended part) b bs ts None s.next s refl refl refl) in
    marked_tail part close fuel (ends_back part close fuel) links left b bs s.next ts (omega (arith, le)) on (marked part left b s.next (ended_steps links left part b s.next s.goes))

-- behind an opening bracket
opened_cases : (part : Part) (links left b : ℕ) (next : Spot) → next_spot links left (spots.Opened part) b ≡ Some next → ((b ≡ 41) × (closes part left ≡ true) × (closed part ≡ next)) ⊎ (started part (word_begun part links left b) ≡ Some next)
unfolding next_spot
opened_cases part links left b next e =
    elim (chosen (b == 41 && closes part left) (Some (closed part)) (started part (word_begun part links left b)) (Some next) e) [
      | inl t ↦ let p = and_parts (b == 41) (closes part left) t.0 in inl (eqb-true b 41 p.0, p.1, spot_is (closed part) next t.1)
      | inr f ↦ inr f.1
    ]

opened_step : (part : Part) → ClosedBy part → (links left b : ℕ) (bs : List ℕ) (next : Spot) (ts : List TypeName) → Rest links (left - 1) next ts bs → ((b ≡ 41) × (closes part left ≡ true) × (closed part ≡ next)) ⊎ (started part (word_begun part links left b) ≡ Some next) → Tail links left part types_text (b ∷ bs) ts
unfolding EndsBack
opened_step part close links left b bs next ts runs (inl p) =
    rw p.0 (closed_tail links left part types_text bs ts refl (close links left bs ts p.1 (ap (λ (s : Spot). types_at links (left - 1) s bs) p.2 ∙ runs)))
opened_step part close links left b bs next ts runs (inr goes) =
    let i = begun_item part links left b bs next ts (word_begun part links left b) refl goes runs in
    let t = ends_back part close (length i.bs) (links - link_told (in_part part (Some i.t))) i.m i.bs i.rest.us (omega arith) i.rest.runs in
    item_tail links left part (b ∷ bs) ts i t

opened_back : (part : Part) → ClosedBy part → (links left : ℕ) (text : List ℕ) (ts : List TypeName) → Rest links left (spots.Opened part) ts text → Tail links left part types_text text ts
unfolding type_told
opened_back part close links left [] ts runs = ends_early links left (spots.Opened part) (ts, []) refl runs
opened_back part close links left (b ∷ bs) ts runs =
    let s = step_of links left (spots.Opened part) b bs (ts, []) refl runs in
    let on = silent links (left - 1) s.next bs ts (after links left (left - 1) (spots.Opened part) b bs ts None s.next s refl refl refl) in
    opened_step part close links left b bs s.next ts on (opened_cases part links left b s.next s.goes)

-- ---- what closes

results_closed : ClosedBy Results
results_closed links left text ts e runs =
    let same : ([], text) ≡ (ts, []) = ok_is ([], text) (ts, []) (sym (types_done links (left - 1) spots.Done text refl) ∙ runs) in
    let none : text ≡ [] = ap (λ (x : Read). x.1) same in
    let one : left ≡ 1 = eqb-true left 1 e in
    record { rs = []; fits = tt; parts = none; size = one ∙ ap (λ (x : List ℕ). suc (length x)) (sym none); told = sym (ap (λ (x : Read). x.0) same) }

arguments_closed : ClosedBy Arguments
unfolding type_told
arguments_closed links left text ts e runs =
    let some : 4 ≤ left = grind (arith, e) in
    let two : left - 1 ≡ suc (left - 2) = omega (arith, some) in
    let three : left - 2 ≡ suc (left - 3) = omega (arith, some) in
    let a = single_back links (left - 2) spots.Colon 58 spots.Open None text ts (colon_single links (suc (left - 2))) refl (λ b. refl) (ap (λ (l : ℕ). types_at links l spots.Colon text) (sym two) ∙ runs) in
    let a_on = silent links (left - 2) spots.Open a.bs ts a.rest in
    let b = single_back links (left - 3) spots.Open 40 (spots.Opened Results) None a.bs ts (open_single links (suc (left - 3))) refl (λ b. refl) (ap (λ (l : ℕ). types_at links l spots.Open a.bs) (sym three) ∙ a_on) in
    let t = opened_back Results results_closed links (left - 3) b.bs ts (silent links (left - 3) (spots.Opened Results) b.bs ts b.rest) in
    let parts : text ≡ 58 ∷ 40 ∷ b.bs = a.parts ∙ ap (λ (x : List ℕ). 58 ∷ x) b.parts in
    let size : left ≡ suc (length text) = omega (arith, some, t.size, ap (λ (x : List ℕ). length x) parts) in
    record { rs = t.us; fits = t.fits; parts = parts ∙ ap (λ (x : List ℕ). 58 ∷ 40 ∷ x) t.parts; size = size; told = t.told }

pub signature_back : (links left : ℕ) (text : List ℕ) (ts : List TypeName) → Rest links left (spots.Opened Arguments) ts text → Tail links left Arguments types_text text ts
signature_back links left text ts runs = opened_back Arguments arguments_closed links left text ts runs
