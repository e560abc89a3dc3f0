-- What the machine reads to its end behind a name's bracket stands there in a signature of the size.
use Rattle.std.proofs.Common.{◌≡◌, ℕ, suc, ◌-◌, ◌+◌, ◌≤◌, true, false, cond, List, [], ◌∷◌, ◌++◌, length, Option, Some, None, Ok, refl, sym, ap, subst, ◌∙◌, arith, inl, inr, pos}
use Rattle.std.specs.Prelude.{◌⊎◌, ◌&&◌, ◌||◌, nat_le, slice_index}
use Rattle.std.specs.Fmt.{decimal}
use Rattle.std.proofs.lemmas.Bool.{and_parts, leb-true}
use Rattle.lynx_tree.specs.declared.declaration.TypeName.{TypeName}
use Rattle.lynx_tree.specs.declared.declaration.TypeName.TheVariants as types
use Rattle.typing_rules.specs.Types.{has_length}
use Rattle.typing_rules.specs.Signatures.{type_text}
use Rattle.lynx_packets.specs.declared.spot.Part.{Part}
use Rattle.lynx_packets.specs.declared.spot.Part.TheVariants.{Arguments, Results}
use Rattle.lynx_packets.specs.declared.spot.Word.{Word}
use Rattle.lynx_packets.specs.declared.spot.Word.TheVariants as words
use Rattle.lynx_packets.specs.declared.spot.Spot.{Spot}
use Rattle.lynx_packets.specs.declared.spot.Spot.TheVariants as spots
use Rattle.lynx_packets.specs.Spots.{behind, letters_of, word_begun, worded, spelled, started, ended_on, next_spot, type_told, type_of_word, link_told, listed, is_done, types_at}
use Rattle.lynx_packets.proofs.Sizes.{chosen}
use Rattle.lynx_packets.proofs.Runs.{Read, Step, Rest, later, step_of, step_to, ends_early}
use Rattle.lynx_packets.proofs.Items.{in_part, MayStand, last, inner, tail_of, ahead, row_of, one_digit, two_digits, digit_told_is, one_told_is, one_quiet, mark_tells}
use Rattle.lynx_packets.proofs.Lives.{marked, tested, spot_is, behind_parts, mark_of}
use Rattle.lynx_packets.proofs.Steady.{Single, letter_single, Digit, digit_of, or_cases, letter_of, Room, begun_of}

-- ---- one step back

-- what is read behind a step
pub record Behind (links m : ℕ) (to : Spot) (o : Option TypeName) (bs : List ℕ) (ts : List TypeName) : Type 0 where
  pub us : List TypeName
  pub runs : Rest (links - link_told o) m to us bs
  pub value : ts ≡ listed o ++ us

pub after : (links left m : ℕ) (spot : Spot) (d : ℕ) (bs : List ℕ) (ts : List TypeName) (o : Option TypeName) (to : Spot) (s : Step links left spot d bs (ts, [])) → m ≡ left - 1 → type_told spot d ≡ o → to ≡ s.next → Behind links m to o bs ts
after links left m spot d bs ts o to s size told is =
    let over : [] ≡ s.y.1 = ap (λ (x : Read). x.1) s.value in
    record {
      us = s.y.0;
      runs = ap (λ (p : Option TypeName). types_at (links - link_told p) m to bs) (sym told) ∙ ap (λ (l : ℕ). types_at (links - link_told (type_told spot d)) l to bs) size ∙ ap (λ (n : Spot). later links left spot d bs n) is ∙ s.runs ∙ ap (λ (r : List ℕ). Ok (s.y.0, r)) (sym over);
      value = ap (λ (x : Read). x.0) s.value ∙ ap (λ (p : Option TypeName). listed p ++ s.y.0) told;
    }

-- behind a step that tells nothing
pub silent : (links m : ℕ) (to : Spot) (bs : List ℕ) (ts : List TypeName) → Behind links m to None bs ts → Rest links m to ts bs
silent links m to bs ts b =
    let none_lost : links ≡ links - 0 = omega arith in
    ap (λ (l : ℕ). types_at l m to bs) none_lost ∙ b.runs ∙ ap (λ (us : List TypeName). Ok (us, [])) (sym b.value)

pub record Goes (links m : ℕ) (to : Spot) (o : Option TypeName) (c : ℕ) (text : List ℕ) (ts : List TypeName) : Type 0 where
  pub bs : List ℕ
  pub parts : text ≡ c ∷ bs
  pub rest : Behind links m to o bs ts

pub single_back : (links m : ℕ) (spot : Spot) (c : ℕ) (to : Spot) (o : Option TypeName) (text : List ℕ) (ts : List TypeName) → Single links (suc m) spot c to → is_done spot ≡ false → ((b : ℕ) → type_told spot b ≡ o) → Rest links (suc m) spot ts text → Goes links m to o c text ts
single_back links m spot c to o [] ts only going told runs = ends_early links (suc m) spot (ts, []) going runs
single_back links m spot c to o (d ∷ bs) ts only going told runs =
    let s = step_of links (suc m) spot d bs (ts, []) going runs in
    let p = only d s.next s.goes in
    record { bs = bs; parts = ap (λ (b : ℕ). b ∷ bs) p.0; rest = after links (suc m) m spot d bs ts o to s (omega arith) (told d) p.1 }

-- ---- words

letter_back : (part : Part) (word : Word) (at : ℕ) (o : Option TypeName) (links m : ℕ) (text : List ℕ) (ts : List TypeName) → ((b : ℕ) → type_told (spots.Within part word at) b ≡ o) → Rest links (suc m) (spots.Within part word at) ts text → Goes links m (spelled part word at) o (slice_index (letters_of word) at) text ts
letter_back part word at o links m text ts told runs = single_back links m (spots.Within part word at) (slice_index (letters_of word) at) (spelled part word at) o text ts (letter_single part word at links (suc m)) refl told runs

record Worded (part : Part) (word : Word) (links m : ℕ) (text : List ℕ) (ts : List TypeName) : Type 0 where
  bs : List ℕ
  parts : text ≡ tail_of word bs
  rest : Behind links m (worded part word) (in_part part (type_of_word word)) bs ts

word_back : (part : Part) (word : Word) (links m : ℕ) (text : List ℕ) (ts : List TypeName) → Rest links (ahead word m) (spots.Within part word 1) ts text → Worded part word links m text ts
word_back part words.Int links m text ts runs =
    let a = letter_back part words.Int 1 None links (suc m) text ts (λ b. inner part words.Int 1 b refl) runs in
    let b = letter_back part words.Int 2 (in_part part (Some types.Int)) links m a.bs ts (λ b. last part words.Int 2 b refl) (silent links (suc m) (spots.Within part words.Int 2) a.bs ts a.rest) in
    record { bs = b.bs; parts = a.parts ∙ ap (λ (t : List ℕ). 110 ∷ t) b.parts; rest = b.rest }
word_back part words.Bool links m text ts runs =
    let a = letter_back part words.Bool 1 None links (suc (suc m)) text ts (λ b. inner part words.Bool 1 b refl) runs in
    let b = letter_back part words.Bool 2 None links (suc m) a.bs ts (λ b. inner part words.Bool 2 b refl) (silent links (suc (suc m)) (spots.Within part words.Bool 2) a.bs ts a.rest) in
    let c = letter_back part words.Bool 3 (in_part part (Some types.Bool)) links m b.bs ts (λ b. last part words.Bool 3 b refl) (silent links (suc m) (spots.Within part words.Bool 3) b.bs ts b.rest) in
    record { bs = c.bs; parts = a.parts ∙ ap (λ (t : List ℕ). 111 ∷ t) (b.parts ∙ ap (λ (t : List ℕ). 111 ∷ t) c.parts); rest = c.rest }
word_back part words.Text links m text ts runs =
    let a = letter_back part words.Text 1 None links (suc (suc m)) text ts (λ b. inner part words.Text 1 b refl) runs in
    let b = letter_back part words.Text 2 None links (suc m) a.bs ts (λ b. inner part words.Text 2 b refl) (silent links (suc (suc m)) (spots.Within part words.Text 2) a.bs ts a.rest) in
    let c = letter_back part words.Text 3 (in_part part (Some types.Text)) links m b.bs ts (λ b. last part words.Text 3 b refl) (silent links (suc m) (spots.Within part words.Text 3) b.bs ts b.rest) in
    record { bs = c.bs; parts = a.parts ∙ ap (λ (t : List ℕ). 101 ∷ t) (b.parts ∙ ap (λ (t : List ℕ). 120 ∷ t) c.parts); rest = c.rest }
word_back part words.Link links m text ts runs =
    let a = letter_back part words.Link 1 None links (suc (suc m)) text ts (λ b. inner part words.Link 1 b refl) runs in
    let b = letter_back part words.Link 2 None links (suc m) a.bs ts (λ b. inner part words.Link 2 b refl) (silent links (suc (suc m)) (spots.Within part words.Link 2) a.bs ts a.rest) in
    let c = letter_back part words.Link 3 (in_part part (Some types.Link)) links m b.bs ts (λ b. last part words.Link 3 b refl) (silent links (suc m) (spots.Within part words.Link 3) b.bs ts b.rest) in
    record { bs = c.bs; parts = a.parts ∙ ap (λ (t : List ℕ). 105 ∷ t) (b.parts ∙ ap (λ (t : List ℕ). 110 ∷ t) c.parts); rest = c.rest }
word_back part words.Row links m text ts runs =
    let a = letter_back part words.Row 1 None links (suc m) text ts (λ b. inner part words.Row 1 b refl) runs in
    let b = letter_back part words.Row 2 (in_part part None) links m a.bs ts (λ b. last part words.Row 2 b refl) (silent links (suc m) (spots.Within part words.Row 2) a.bs ts a.rest) in
    record { bs = b.bs; parts = a.parts ∙ ap (λ (t : List ℕ). 111 ∷ t) b.parts; rest = b.rest }

-- ---- a type

pub record Item (links left : ℕ) (part : Part) (text : List ℕ) (ts : List TypeName) : Type 0 where
  pub t : TypeName
  pub m : ℕ
  pub bs : List ℕ
  pub has : has_length t ≡ true
  pub may : MayStand links part t
  pub size : left ≡ length (type_text t) + m
  pub parts : text ≡ type_text t ++ bs
  pub rest : Behind links m (spots.Ended part) (in_part part (Some t)) bs ts

row_item : (links left m n : ℕ) (part : Part) (text ds bs : List ℕ) (ts : List TypeName) → 1 ≤ n → n ≤ 16 → decimal n ≡ ds → left ≡ 3 + length ds + m → text ≡ ds ++ bs → Behind links m (spots.Ended part) (in_part part (row_of n)) bs ts → Item links left part (114 ∷ 111 ∷ 119 ∷ text) ts
row_item links left m n part text ds bs ts some few digits size parts rest =
    let length_is : length (type_text (types.Row (pos n))) ≡ 3 + length ds = ap (λ (x : List ℕ). length (114 ∷ 111 ∷ 119 ∷ x)) digits ∙ omega arith in
    record {
      t = types.Row (pos n);
      m = m;
      bs = bs;
      has = grind (arith, some, few);
      may = tt;
      size = omega (arith, size, length_is);
      parts = ap (λ (x : List ℕ). 114 ∷ 111 ∷ 119 ∷ x) (parts ∙ ap (λ (x : List ℕ). x ++ bs) (sym digits));
      rest = rest;
    }

-- behind `row1`: a digit that ends the type, or a mark
abbrev Second : ℕ → Part → ℕ → Spot → Type 0
Second m part b next = ((48 ≤ b) × (b ≤ 54) × (behind part m 1 ≡ true) × (spots.Ended part ≡ next)) ⊎ (ended_on part m b ≡ Some next)

one_chosen : (links m : ℕ) (part : Part) (b : ℕ) (next : Spot) → next_spot links m (spots.One part) b ≡ Some next → Second m part b next
unfolding next_spot
one_chosen links m part b next e =
    elim (chosen (nat_le 48 b && nat_le b 54) (cond (behind part m 1) (Some (spots.Ended part)) None) (ended_on part m b) (Some next) e) [
      | inl t ↦ let p = and_parts (nat_le 48 b) (nat_le b 54) t.0 in let u = tested (behind part m 1) (spots.Ended part) next t.1 in inl (leb-true 48 b p.0, leb-true b 54 p.1, u.0, u.1)
      | inr f ↦ inr f.1
    ]

ended_goes : (links m : ℕ) (part : Part) (b : ℕ) (next : Spot) → ended_on part m b ≡ Some next → next_spot links m (spots.Ended part) b ≡ Some next
unfolding next_spot
ended_goes links m part b next e = e

-- `row1` and a mark
one_alone : (links m : ℕ) (part : Part) (d : ℕ) (bs : List ℕ) (ts : List TypeName) (s : Step links m (spots.One part) d bs (ts, [])) → ended_on part m d ≡ Some s.next → Behind links m (spots.Ended part) (in_part part (row_of 1)) (d ∷ bs) ts
unfolding type_told
one_alone links m part d bs ts s goes =
    let told = mark_tells part d (mark_of part m d s.next (marked part m d s.next goes)) in
    let b = after links m (m - 1) (spots.One part) d bs ts (in_part part (row_of 1)) s.next s refl told refl in
    let fewer = links - link_told (in_part part (row_of 1)) in
    let none_lost : fewer - 0 ≡ fewer = omega arith in
    record {
      us = b.us;
      runs = step_to fewer m (spots.Ended part) d bs s.next (b.us, []) (ended_goes fewer m part d s.next goes) (ap (λ (l : ℕ). types_at l (m - 1) s.next bs) none_lost ∙ b.runs);
      value = b.value;
    }

one_step : (links left m : ℕ) (part : Part) (d : ℕ) (bs : List ℕ) (ts : List TypeName) → left ≡ 4 + m → (s : Step links m (spots.One part) d bs (ts, [])) → Second m part d s.next → Item links left part (114 ∷ 111 ∷ 119 ∷ 49 ∷ d ∷ bs) ts
one_step links left m part d bs ts size s (inl p) =
    let n = d - 38 in
    let is : d ≡ 38 + n = omega (arith, p.0) in
    let some : 10 ≤ n = omega (arith, p.0) in
    let few : n ≤ 16 = omega (arith, p.1) in
    let told = ap (type_told (spots.One part)) is ∙ one_told_is part n some few in
    let b = after links m (m - 1) (spots.One part) d bs ts (in_part part (row_of n)) (spots.Ended part) s refl told p.3 in
    row_item links left (m - 1) n part (49 ∷ d ∷ bs) (49 ∷ (38 + n) ∷ []) bs ts (omega (arith, some)) few (two_digits n some few) (omega (arith, size, (behind_parts part m 1 p.2).0)) (ap (λ (c : ℕ). 49 ∷ c ∷ bs) is) b
one_step links left m part d bs ts size s (inr goes) =
    row_item links left m 1 part (49 ∷ d ∷ bs) (49 ∷ []) (d ∷ bs) ts (omega arith) (omega arith) (one_digit 1 (omega arith)) (omega (arith, size)) refl (one_alone links m part d bs ts s goes)

-- behind `row1`
one_back : (links left m : ℕ) (part : Part) (text : List ℕ) (ts : List TypeName) → left ≡ 4 + m → Rest links m (spots.One part) ts text → Item links left part (114 ∷ 111 ∷ 119 ∷ 49 ∷ text) ts
one_back links left m part [] ts size runs = ends_early links m (spots.One part) (ts, []) refl runs
one_back links left m part (d ∷ bs) ts size runs =
    let s = step_of links m (spots.One part) d bs (ts, []) refl runs in
    one_step links left m part d bs ts size s (one_chosen links m part d s.next s.goes)

digit_step : (links left k : ℕ) (part : Part) (d : ℕ) (bs : List ℕ) (ts : List TypeName) → 1 ≤ k → left ≡ 3 + k → (s : Step links k (spots.Digits part) d bs (ts, [])) → Digit links k part d s.next → Item links left part (114 ∷ 111 ∷ 119 ∷ d ∷ bs) ts
digit_step links left k part d bs ts some size s (inl p) =
    let told = ap (type_told (spots.Digits part)) p.0 ∙ one_quiet part in
    let b = after links k (k - 1) (spots.Digits part) d bs ts None (spots.One part) s refl told p.1 in
    rw p.0 (one_back links left (k - 1) part bs ts (omega (arith, size, some)) (silent links (k - 1) (spots.One part) bs ts b))
digit_step links left k part d bs ts some size s (inr p) =
    let n = d - 48 in
    let is : d ≡ 48 + n = omega (arith, p.0) in
    let least : 2 ≤ n = omega (arith, p.0) in
    let most : n ≤ 9 = omega (arith, p.1) in
    let told = ap (type_told (spots.Digits part)) is ∙ digit_told_is part n least most in
    let b = after links k (k - 1) (spots.Digits part) d bs ts (in_part part (row_of n)) (spots.Ended part) s refl told p.3 in
    row_item links left (k - 1) n part (d ∷ bs) ((48 + n) ∷ []) bs ts (omega (arith, least)) (omega (arith, most)) (one_digit n most) (omega (arith, size, (behind_parts part k 1 p.2).0)) (ap (λ (c : ℕ). c ∷ bs) is) b

-- behind `row`
digits_back : (links left k : ℕ) (part : Part) (text : List ℕ) (ts : List TypeName) → 1 ≤ k → left ≡ 3 + k → Rest links k (spots.Digits part) ts text → Item links left part (114 ∷ 111 ∷ 119 ∷ text) ts
digits_back links left k part [] ts some size runs = ends_early links k (spots.Digits part) (ts, []) refl runs
digits_back links left k part (d ∷ bs) ts some size runs =
    let s = step_of links k (spots.Digits part) d bs (ts, []) refl runs in
    digit_step links left k part d bs ts some size s (digit_of links k part d s.next s.goes)

-- ---- the first letter of a type

plain_item : (part : Part) (word : Word) (t : TypeName) (links left m : ℕ) (bs : List ℕ) (ts : List TypeName) → type_of_word word ≡ Some t → worded part word ≡ spots.Ended part → ((r : List ℕ) → letter_of word ∷ tail_of word r ≡ type_text t ++ r)
    → has_length t ≡ true → MayStand links part t → left ≡ length (type_text t) + m → left - 1 ≡ ahead word m → Rest links (left - 1) (spots.Within part word 1) ts bs → Item links left part (letter_of word ∷ bs) ts
plain_item part word t links left m bs ts is to text has may size room runs =
    let w = word_back part word links m bs ts (ap (λ (l : ℕ). types_at links l (spots.Within part word 1) bs) (sym room) ∙ runs) in
    let told : Behind links m (worded part word) (in_part part (Some t)) w.bs ts = subst (λ (o : Option TypeName). Behind links m (worded part word) (in_part part o) w.bs ts) is w.rest in
    record { t = t; m = m; bs = w.bs; has = has; may = may; size = size; parts = ap (λ (x : List ℕ). letter_of word ∷ x) w.parts ∙ text w.bs; rest = subst (λ (s : Spot). Behind links m s (in_part part (Some t)) w.bs ts) to told }

some_behind : (part : Part) (left : ℕ) → (behind part left 4 || behind part left 5) ≡ true → 4 ≤ left
some_behind part left e =
    elim (or_cases (behind part left 4) (behind part left 5) e) [
      | inl short ↦ omega (arith, (behind_parts part left 4 short).0)
      | inr long ↦ omega (arith, (behind_parts part left 5 long).0)
    ]

nothing_in : (part : Part) → in_part part None ≡ None
nothing_in Arguments = refl
nothing_in Results = refl

word_item : (part : Part) (word : Word) (links left : ℕ) (bs : List ℕ) (ts : List TypeName) → Room part links left word → Rest links (left - 1) (spots.Within part word 1) ts bs → Item links left part (letter_of word ∷ bs) ts
word_item part words.Int links left bs ts room runs =
    let size = (behind_parts part left 3 room).0 in
    plain_item part words.Int types.Int links left (left - 3) bs ts refl refl (λ r. refl) refl tt size (omega (arith, size)) runs
word_item part words.Bool links left bs ts room runs =
    let size = (behind_parts part left 4 room).0 in
    plain_item part words.Bool types.Bool links left (left - 4) bs ts refl refl (λ r. refl) refl tt size (omega (arith, size)) runs
word_item part words.Text links left bs ts room runs =
    let size = (behind_parts part left 4 room).0 in
    plain_item part words.Text types.Text links left (left - 4) bs ts refl refl (λ r. refl) refl tt size (omega (arith, size)) runs
word_item part words.Link links left bs ts room runs =
    let size = (behind_parts part left 4 room.1).0 in
    plain_item part words.Link types.Link links left (left - 4) bs ts refl refl (λ r. refl) refl room.0 size (omega (arith, size)) runs
word_item part words.Row links left bs ts room runs =
    let some = some_behind part left room in
    let k = left - 3 in
    let size : left - 1 ≡ suc (suc k) = omega (arith, some) in
    let w = word_back part words.Row links k bs ts (ap (λ (l : ℕ). types_at links l (spots.Within part words.Row 1) bs) (sym size) ∙ runs) in
    let told : Behind links k (spots.Digits part) None w.bs ts = subst (λ (o : Option TypeName). Behind links k (spots.Digits part) o w.bs ts) (nothing_in part) w.rest in
    subst (λ (x : List ℕ). Item links left part (114 ∷ x) ts) (sym w.parts) (digits_back links left k part w.bs ts (omega (arith, some)) (omega (arith, some)) (silent links k (spots.Digits part) w.bs ts told))

pub begun_item : (part : Part) (links left b : ℕ) (bs : List ℕ) (next : Spot) (ts : List TypeName) (o : Option Word) → word_begun part links left b ≡ o → started part o ≡ Some next → Rest links (left - 1) next ts bs → Item links left part (b ∷ bs) ts
begun_item part links left b bs next ts None begun e runs = absurd cc
begun_item part links left b bs next ts (Some word) begun e runs =
    let p = begun_of part links left b word begun in
    rw p.0 (word_item part word links left bs ts p.1 (ap (λ (s : Spot). types_at links (left - 1) s bs) (spot_is (spots.Within part word 1) next e) ∙ runs))
