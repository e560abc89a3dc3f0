-- Each step of the machine for the types of a signature leads to where it can come to an end.
use Rattle.std.proofs.Common.{◌≡◌, ℕ, suc, ◌-◌, ◌≤◌, Bool, true, false, cond, List, [], ◌∷◌, ◌++◌, length, Option, Some, None, Ok, refl, sym, ap, subst, ◌∙◌, arith, inl, inr}
use Rattle.std.specs.Prelude.{◌⊎◌, ◌&&◌, ◌||◌, ◌==◌, nat_le, nat_lt, slice_index}
use Rattle.std.proofs.lemmas.Bool.{and_parts, eqb-true, leb-true}
use Rattle.lynx_tree.specs.declared.declaration.TypeName.{TypeName}
use Rattle.lynx_packets.specs.declared.spot.Part.{Part}
use Rattle.lynx_packets.specs.declared.spot.Part.TheVariants.{Results}
use Rattle.lynx_packets.specs.declared.spot.Word.{Word}
use Rattle.lynx_packets.specs.declared.spot.Word.TheVariants as words
use Rattle.lynx_packets.specs.declared.spot.Spot.{Spot}
use Rattle.lynx_packets.specs.declared.spot.Spot.TheVariants as spots
use Rattle.lynx_packets.specs.Spots.{closes, ends, behind, may_link, letters_of, word_begun, worded, spelled, started, closed, ended_on, next_spot, type_told, type_of_word, link_told, listed, is_done, types_at}
use Rattle.lynx_packets.proofs.Sizes.{chosen}
use Rattle.lynx_packets.proofs.Runs.{Read, Step, Rest, Live, Keeps, later, with_types, step_of, ends_early}
use Rattle.lynx_packets.proofs.Items.{in_part, row_of, tail_of, ahead, word_runs, digit_runs, second_runs, one_runs, row_quiet, one_quiet}
use Rattle.lynx_packets.proofs.Lives.{Marked, marked, tested, spot_is, opens_with, ended_live, closed_live, comma_live, ends_well, behind_parts}

-- where a step leads can come to an end
abbrev After : ℕ → ℕ → Spot → ℕ → Spot → Type 0
After links left spot b next = Live (links - link_told (type_told spot b)) (left - 1) next

-- a step that tells nothing
silent : (links left : ℕ) (spot : Spot) (b : ℕ) (next : Spot) → type_told spot b ≡ None → Live links (left - 1) next → After links left spot b next
silent links left spot b next none live =
    let none_lost : links - 0 ≡ links = omega arith in
    let same : links - link_told (type_told spot b) ≡ links = ap (λ (o : Option TypeName). links - link_told o) none ∙ none_lost in
    subst (λ (l : ℕ). Live l (left - 1) next) (sym same) live

-- the same step as in a text that ends well
same_step : (links left : ℕ) (spot : Spot) (c b : ℕ) (bs : List ℕ) (ts : List TypeName) (next : Spot) (s : Step links left spot c bs (ts, [])) → b ≡ c → next ≡ s.next → After links left spot b next
same_step links left spot c b bs ts next s same to =
    let over : [] ≡ s.y.1 = ap (λ (x : Read). x.1) s.value in
    record {
      text = bs;
      ts = s.y.0;
      runs = ap (λ (d : ℕ). later links left spot d bs next) same ∙ ap (λ (n : Spot). later links left spot c bs n) to ∙ s.runs ∙ ap (λ (r : List ℕ). Ok (s.y.0, r)) (sym over);
    }

-- one byte alone can stand here
abbrev pub Single : ℕ → ℕ → Spot → ℕ → Spot → Type 0
Single links left spot c to = (b : ℕ) (next : Spot) → next_spot links left spot b ≡ Some next → (b ≡ c) × (to ≡ next)

single_text : (links left : ℕ) (spot : Spot) (c : ℕ) (to : Spot) → Single links left spot c to → is_done spot ≡ false → (text : List ℕ) (ts : List TypeName) → Rest links left spot ts text → (b : ℕ) (next : Spot) → next_spot links left spot b ≡ Some next → After links left spot b next
single_text links left spot c to only going [] ts runs b next goes = ends_early links left spot (ts, []) going runs
single_text links left spot c to only going (d ∷ bs) ts runs b next goes =
    let s = step_of links left spot d bs (ts, []) going runs in
    let here = only b next goes in
    let there = only d s.next s.goes in
    same_step links left spot d b bs ts next s (here.0 ∙ sym there.0) (sym here.1 ∙ there.1)

single_keeps : (links left : ℕ) (spot : Spot) (c : ℕ) (to : Spot) → Single links left spot c to → is_done spot ≡ false → Live links left spot → (b : ℕ) (next : Spot) → next_spot links left spot b ≡ Some next → After links left spot b next
single_keeps links left spot c to only going live b next goes = single_text links left spot c to only going live.text live.ts live.runs b next goes

pub letter_single : (part : Part) (word : Word) (at links left : ℕ) → Single links left (spots.Within part word at) (slice_index (letters_of word) at) (spelled part word at)
unfolding next_spot
letter_single part word at links left b next e =
    let t = tested (nat_lt at (length (letters_of word)) && b == slice_index (letters_of word) at) (spelled part word at) next e in
    (eqb-true b (slice_index (letters_of word) at) (and_parts (nat_lt at (length (letters_of word))) (b == slice_index (letters_of word) at) t.0).1, t.1)

pub colon_single : (links left : ℕ) → Single links left spots.Colon 58 spots.Open
unfolding next_spot
colon_single links left b next e = let t = tested (b == 58) spots.Open next e in (eqb-true b 58 t.0, t.1)

pub open_single : (links left : ℕ) → Single links left spots.Open 40 (spots.Opened Results)
unfolding next_spot
open_single links left b next e = let t = tested (b == 40) (spots.Opened Results) next e in (eqb-true b 40 t.0, t.1)

-- ---- marks

ended_keeps : (part : Part) (links left b : ℕ) (next : Spot) → Marked part left b next → Live links (left - 1) next
ended_keeps part links left b next (inl p) = subst (λ (n : Spot). Live links (left - 1) n) p.2 (closed_live left (ends_well left) part links left (omega arith) p.1)
ended_keeps part links left b next (inr p) = subst (λ (n : Spot). Live links (left - 1) n) p.2 (comma_live left (ends_well left) part links left (omega arith) p.1)

one_live : (part : Part) (links m : ℕ) → ends part m ≡ true → Live links m (spots.One part)
one_live part links m e =
    let r = ended_live part links m e in
    let o = opens_with links m part r.text (r.ts, []) r.runs in
    record { text = o.e ∷ o.bs; ts = listed (in_part part (row_of 1)) ++ r.ts; runs = one_runs part links m o.e o.bs (r.ts, []) o.mark (ap (λ (t : List ℕ). types_at links m (spots.Ended part) t) (sym o.parts) ∙ r.runs) }

-- ---- words that begin

within_live : (part : Part) (word : Word) (links m : ℕ) → worded part word ≡ spots.Ended part → ends part m ≡ true → Live links (ahead word m) (spots.Within part word 1)
within_live part word links m is e =
    let r = ended_live part (links - link_told (in_part part (type_of_word word))) m e in
    record { text = tail_of word r.text; ts = listed (in_part part (type_of_word word)) ++ r.ts; runs = word_runs part word links m r.text (r.ts, []) (ap (λ (s : Spot). types_at (links - link_told (in_part part (type_of_word word))) m s r.text) is ∙ r.runs) }

short_live : (part : Part) (links m : ℕ) → ends part m ≡ true → Live links (suc (suc (suc m))) (spots.Within part words.Row 1)
short_live part links m e =
    let r = ended_live part (links - link_told (in_part part (row_of 2))) m e in
    record { text = 111 ∷ 119 ∷ 50 ∷ r.text; ts = listed (in_part part (row_of 2)) ++ r.ts; runs = row_quiet part links (suc m) (50 ∷ r.text) (with_types (listed (in_part part (row_of 2))) (r.ts, [])) (digit_runs part 2 links m r.text (r.ts, []) (omega arith) (omega arith) e r.runs) }

long_live : (part : Part) (links m : ℕ) → ends part m ≡ true → Live links (suc (suc (suc (suc m)))) (spots.Within part words.Row 1)
long_live part links m e =
    let r = ended_live part (links - link_told (in_part part (row_of 10))) m e in
    record { text = 111 ∷ 119 ∷ 49 ∷ 48 ∷ r.text; ts = listed (in_part part (row_of 10)) ++ r.ts; runs = row_quiet part links (suc (suc m)) (49 ∷ 48 ∷ r.text) (with_types (listed (in_part part (row_of 10))) (r.ts, [])) (second_runs part 10 links m r.text (r.ts, []) (omega arith) (omega arith) e r.runs) }

abbrev pub a_word : Word → Option Word
a_word word = Some word

pub word_is : (v word : Word) → a_word v ≡ Some word → v ≡ word
word_is v word e = cc

pub no_word : (b : Bool) (v word : Word) → cond b (a_word v) None ≡ Some word → (b ≡ true) × (v ≡ word)
no_word true v word e = (refl, word_is v word e)
no_word false v word e = absurd cc

pub or_cases : (a b : Bool) → (a || b) ≡ true → (a ≡ true) ⊎ (b ≡ true)
or_cases true b e = inl refl
or_cases false b e = inr e

-- what is left behind the first letter
abbrev WordLives : Part → ℕ → ℕ → Word → Type 0
WordLives part links left word = Live links (left - 1) (spots.Within part word 1)

at_size : (part : Part) (links left k : ℕ) (word : Word) → k ≡ left - 1 → Live links k (spots.Within part word 1) → WordLives part links left word
at_size part links left k word size live = subst (λ (l : ℕ). Live links l (spots.Within part word 1)) size live

abbrev pub letter_of : Word → ℕ
letter_of words.Int = 105
letter_of words.Bool = 98
letter_of words.Text = 116
letter_of words.Link = 108
letter_of words.Row = 114

abbrev pub Room : Part → ℕ → ℕ → Word → Type 0
Room part links left words.Int = behind part left 3 ≡ true
Room part links left words.Bool = behind part left 4 ≡ true
Room part links left words.Text = behind part left 4 ≡ true
Room part links left words.Link = (may_link part links ≡ true) × (behind part left 4 ≡ true)
Room part links left words.Row = (behind part left 4 || behind part left 5) ≡ true

abbrev pub Begun : Part → ℕ → ℕ → ℕ → Word → Type 0
Begun part links left b word = (b ≡ letter_of word) × Room part links left word

found_word : (part : Part) (links left b : ℕ) (v word : Word) → a_word v ≡ Some word → Begun part links left b v → Begun part links left b word
found_word part links left b v word is begun = subst (λ (w : Word). Begun part links left b w) (word_is v word is) begun

pub begun_of : (part : Part) (links left b : ℕ) (word : Word) → word_begun part links left b ≡ Some word → Begun part links left b word
unfolding word_begun
begun_of part links left b word e =
    elim (chosen (b == 105 && behind part left 3) (a_word words.Int) _ (Some word) e) [
      | inl t ↦ let p = and_parts (b == 105) (behind part left 3) t.0 in found_word part links left b words.Int word t.1 (eqb-true b 105 p.0, p.1)
      | inr e2 ↦ elim (chosen (b == 98 && behind part left 4) (a_word words.Bool) _ (Some word) e2.1) [
        | inl t ↦ let p = and_parts (b == 98) (behind part left 4) t.0 in found_word part links left b words.Bool word t.1 (eqb-true b 98 p.0, p.1)
        | inr e3 ↦ elim (chosen (b == 116 && behind part left 4) (a_word words.Text) _ (Some word) e3.1) [
          | inl t ↦ let p = and_parts (b == 116) (behind part left 4) t.0 in found_word part links left b words.Text word t.1 (eqb-true b 116 p.0, p.1)
          | inr e4 ↦ elim (chosen (b == 108 && may_link part links && behind part left 4) (a_word words.Link) _ (Some word) e4.1) [
            | inl t ↦ let p = and_parts (b == 108 && may_link part links) (behind part left 4) t.0 in let q = and_parts (b == 108) (may_link part links) p.0 in found_word part links left b words.Link word t.1 (eqb-true b 108 q.0, (q.1, p.1))
            | inr e5 ↦
                let t = no_word (b == 114 && (behind part left 4 || behind part left 5)) words.Row word e5.1 in
                let p = and_parts (b == 114) (behind part left 4 || behind part left 5) t.0 in
                found_word part links left b words.Row word (ap a_word t.1) (eqb-true b 114 p.0, p.1)
          ]
        ]
      ]
    ]

row_lives : (part : Part) (links left : ℕ) → (behind part left 4 || behind part left 5) ≡ true → WordLives part links left words.Row
row_lives part links left e =
    elim (or_cases (behind part left 4) (behind part left 5) e) [
      | inl short ↦ let p = behind_parts part left 4 short in at_size part links left (suc (suc (suc (left - 4)))) words.Row (omega (arith, p.0)) (short_live part links (left - 4) p.1)
      | inr long ↦ let p = behind_parts part left 5 long in at_size part links left (suc (suc (suc (suc (left - 5))))) words.Row (omega (arith, p.0)) (long_live part links (left - 5) p.1)
    ]

four_live : (part : Part) (links left : ℕ) (word : Word) → ahead word (left - 4) ≡ suc (suc (suc (left - 4))) → worded part word ≡ spots.Ended part → behind part left 4 ≡ true → WordLives part links left word
four_live part links left word size to e = let p = behind_parts part left 4 e in at_size part links left (ahead word (left - 4)) word (omega (arith, size, p.0)) (within_live part word links (left - 4) to p.1)

word_lives : (part : Part) (links left : ℕ) (word : Word) → Room part links left word → WordLives part links left word
word_lives part links left words.Int room = let p = behind_parts part left 3 room in at_size part links left (suc (suc (left - 3))) words.Int (omega (arith, p.0)) (within_live part words.Int links (left - 3) refl p.1)
word_lives part links left words.Bool room = four_live part links left words.Bool refl refl room
word_lives part links left words.Text room = four_live part links left words.Text refl refl room
word_lives part links left words.Link room = four_live part links left words.Link refl refl room.1
word_lives part links left words.Row room = row_lives part links left room

started_live : (part : Part) (links left b : ℕ) (next : Spot) (o : Option Word) → word_begun part links left b ≡ o → started part o ≡ Some next → Live links (left - 1) next
started_live part links left b next None begun e = absurd cc
started_live part links left b next (Some word) begun e = subst (λ (n : Spot). Live links (left - 1) n) (spot_is (spots.Within part word 1) next e) (word_lives part links left word (begun_of part links left b word begun).1)

-- ---- each spot

opened_keeps : (links left : ℕ) (part : Part) (b : ℕ) (next : Spot) → next_spot links left (spots.Opened part) b ≡ Some next → Live links (left - 1) next
unfolding next_spot
opened_keeps links left part b next e =
    elim (chosen (b == 41 && closes part left) (Some (closed part)) (started part (word_begun part links left b)) (Some next) e) [
      | inl t ↦ let p = and_parts (b == 41) (closes part left) t.0 in ended_keeps part links left b next (inl (eqb-true b 41 p.0, p.1, spot_is (closed part) next t.1))
      | inr f ↦ started_live part links left b next (word_begun part links left b) refl f.1
    ]

comma_keeps : (links left : ℕ) (part : Part) (b : ℕ) (next : Spot) → next_spot links left (spots.Comma part) b ≡ Some next → Live links (left - 1) next
unfolding next_spot
comma_keeps links left part b next e = started_live part links left b next (word_begun part links left b) refl e

-- behind `row`: `1`, or a digit that ends the type
abbrev pub Digit : ℕ → ℕ → Part → ℕ → Spot → Type 0
Digit links left part b next = ((b ≡ 49) × (spots.One part ≡ next)) ⊎ ((50 ≤ b) × (b ≤ 57) × (behind part left 1 ≡ true) × (spots.Ended part ≡ next))

pub digit_of : (links left : ℕ) (part : Part) (b : ℕ) (next : Spot) → next_spot links left (spots.Digits part) b ≡ Some next → Digit links left part b next
unfolding next_spot
digit_of links left part b next e =
    elim (chosen (b == 49) (Some (spots.One part)) (cond (nat_le 50 b && nat_le b 57 && behind part left 1) (Some (spots.Ended part)) None) (Some next) e) [
      | inl t ↦ inl (eqb-true b 49 t.0, spot_is (spots.One part) next t.1)
      | inr f ↦ let t = tested (nat_le 50 b && nat_le b 57 && behind part left 1) (spots.Ended part) next f.1 in
          let p = and_parts (nat_le 50 b && nat_le b 57) (behind part left 1) t.0 in
          let q = and_parts (nat_le 50 b) (nat_le b 57) p.0 in
          inr (leb-true 50 b q.0, leb-true b 57 q.1, p.1, t.1)
    ]

one_after : (links left : ℕ) (part : Part) (text : List ℕ) (ts : List TypeName) → Rest links left (spots.Digits part) ts text → (b : ℕ) (next : Spot) → b ≡ 49 → spots.One part ≡ next → After links left (spots.Digits part) b next
one_after links left part [] ts runs b next is to = ends_early links left (spots.Digits part) (ts, []) refl runs
one_after links left part (d ∷ bs) ts runs b next is to =
    let s = step_of links left (spots.Digits part) d bs (ts, []) refl runs in
    elim (digit_of links left part d s.next s.goes) [
      | inl p ↦ same_step links left (spots.Digits part) d b bs ts next s (is ∙ sym p.0) (sym to ∙ p.1)
      | inr p ↦ silent links left (spots.Digits part) b next (ap (type_told (spots.Digits part)) is ∙ one_quiet part) (subst (λ (n : Spot). Live links (left - 1) n) to (one_live part links (left - 1) (behind_parts part left 1 p.2).1))
    ]

digits_keeps : (links left : ℕ) (part : Part) → Live links left (spots.Digits part) → (b : ℕ) (next : Spot) → Digit links left part b next → After links left (spots.Digits part) b next
digits_keeps links left part live b next (inl p) = one_after links left part live.text live.ts live.runs b next p.0 p.1
digits_keeps links left part live b next (inr p) = subst (λ (n : Spot). After links left (spots.Digits part) b n) p.3 (ended_live part (links - link_told (type_told (spots.Digits part) b)) (left - 1) (behind_parts part left 1 p.2).1)

one_keeps : (links left : ℕ) (part : Part) (b : ℕ) (next : Spot) → next_spot links left (spots.One part) b ≡ Some next → After links left (spots.One part) b next
unfolding next_spot
one_keeps links left part b next e =
    let fewer = links - link_told (type_told (spots.One part) b) in
    elim (chosen (nat_le 48 b && nat_le b 54) (cond (behind part left 1) (Some (spots.Ended part)) None) (ended_on part left b) (Some next) e) [
      | inl t ↦ let u = tested (behind part left 1) (spots.Ended part) next t.1 in subst (λ (n : Spot). Live fewer (left - 1) n) u.1 (ended_live part fewer (left - 1) (behind_parts part left 1 u.0).1)
      | inr f ↦ ended_keeps part fewer left b next (marked part left b next f.1)
    ]

ended_steps : (links left : ℕ) (part : Part) (b : ℕ) (next : Spot) → next_spot links left (spots.Ended part) b ≡ Some next → Live links (left - 1) next
unfolding next_spot
ended_steps links left part b next e = ended_keeps part links left b next (marked part left b next e)

done_stays : {P : Type 0} (links left b : ℕ) (next : Spot) → next_spot links left spots.Done b ≡ Some next → P
unfolding next_spot
done_stays links left b next e = absurd cc

pub keeps : Keeps
unfolding type_told
keeps links left (spots.Opened part) b next live e = silent links left (spots.Opened part) b next refl (opened_keeps links left part b next e)
keeps links left (spots.Comma part) b next live e = silent links left (spots.Comma part) b next refl (comma_keeps links left part b next e)
keeps links left (spots.Within part word at) b next live e = single_keeps links left (spots.Within part word at) (slice_index (letters_of word) at) (spelled part word at) (letter_single part word at links left) refl live b next e
keeps links left (spots.Digits part) b next live e = digits_keeps links left part live b next (digit_of links left part b next e)
keeps links left (spots.One part) b next live e = one_keeps links left part b next e
keeps links left (spots.Ended part) b next live e = silent links left (spots.Ended part) b next refl (ended_steps links left part b next e)
keeps links left spots.Colon b next live e = single_keeps links left spots.Colon 58 spots.Open (colon_single links left) refl live b next e
keeps links left spots.Open b next live e = single_keeps links left spots.Open 40 (spots.Opened Results) (open_single links left) refl live b next e
keeps links left spots.Done b next live e = done_stays links left b next e
