-- The reader of a signature's name is exact.
use Rattle.std.proofs.Common.{◌≡◌, ◌≢◌, ℕ, zero, suc, ◌-◌, ◌+◌, ◌≤◌, ◌<◌, Bool, true, false, cond, List, [], ◌∷◌, ◌++◌, length, Result, Ok, Err, refl, sym, ap, subst, ◌∙◌, arith, inl, inr, append_assoc}
use Rattle.std.specs.Prelude.{IsErr, ◌&&◌, ◌||◌, ◌==◌, not, nat_le, if◌then◌else◌}
use Rattle.std.specs.List.{list_all}
use Rattle.std.specs.Int.{is_in_range}
use Rattle.std.specs.Char.{is_ascii_alphabetic, is_ascii_alphanumeric}
use Rattle.std.proofs.lemmas.Bool.{and_parts, eqb-true, leb-true, cases_lt}
use Rattle.std.proofs.lemmas.List.{length-append, append-nil}
use Rattle.std.proofs.lemmas.List.Folds.{list_all-append}
use Rattle.lynx_lexer.specs.Bytes.{class_of, is_blank}
use Rattle.lynx_lexer.specs.Pieces.{IsWord, goes_on_name, is_name_byte}
use Rattle.lynx_lexer.specs.Words.{word_of}
use Rattle.lynx_lexer.specs.declared.class.Class.TheVariants.{Blank, Letter, Digit, Underscore, Quote, Other}
use Rattle.lynx_lexer.specs.declared.keyword.Keyword.{Keyword}
use Rattle.lynx_lexer.specs.declared.keyword.Keyword.TheVariants as keywords
use Rattle.lynx_packets.specs.Spelling.{IsName}
use Rattle.lynx_packets.specs.Spots.{is_keyword, room_left, begins_name, opens, is_name_at, names, name_at}
use Rattle.lynx_packets.proofs.Sizes.{chosen, ok_is, number_is, not_both, or_left, or_right}
use Rattle.lynx_packets.proofs.Keywords.{keyword_is, keyword_of}
use Rattle.lynx_packets.proofs.Exact.{IsBytes, Found, Wrong, Broken, Reads}
use Rattle.lynx_packets.proofs.Parts.{IsBytes-rest}

true_false : true ≡ false → ⊥
true_false e = absurd cc

-- ---- bytes of names

letter_class : (b : ℕ) → is_ascii_alphabetic b ≡ true → class_of b ≡ Letter
unfolding class_of
letter_class b e =
    let none : is_blank b ≡ false = grind (arith, e) in
    rw (none, e) refl

only_letter : (blank alpha digit bar quote : Bool) → (if blank then Blank else (if alpha then Letter else (if digit then Digit else (if bar then Underscore else (if quote then Quote else Other))))) ≡ Letter → alpha ≡ true
only_letter true alpha digit bar quote e = absurd cc
only_letter false true digit bar quote e = refl
only_letter false false true bar quote e = absurd cc
only_letter false false false true quote e = absurd cc
only_letter false false false false true e = absurd cc
only_letter false false false false false e = absurd cc

class_letter : (b : ℕ) → class_of b ≡ Letter → is_ascii_alphabetic b ≡ true
unfolding class_of
class_letter b e = only_letter (is_blank b) (is_ascii_alphabetic b) _ (b == 95) (b == 39) e

named : (blank digit upper lower bar quote : Bool) → blank ≡ false → (((digit || upper) || lower) || bar) ≡ true → goes_on_name (if blank then Blank else (if upper || lower then Letter else (if digit then Digit else (if bar then Underscore else (if quote then Quote else Other))))) ≡ true
named true digit upper lower bar quote none e = absurd cc
named false digit true lower bar quote none e = refl
named false digit false true bar quote none e = refl
named false true false false bar quote none e = refl
named false false false false true quote none e = refl
named false false false false false quote none e = absurd cc

unnamed : (blank digit upper lower bar quote : Bool) → goes_on_name (if blank then Blank else (if upper || lower then Letter else (if digit then Digit else (if bar then Underscore else (if quote then Quote else Other))))) ≡ true → (((digit || upper) || lower) || bar) ≡ true
unnamed true digit upper lower bar quote e = absurd cc
unnamed false true upper lower bar quote e = refl
unnamed false false true lower bar quote e = refl
unnamed false false false true bar quote e = refl
unnamed false false false false true quote e = refl
unnamed false false false false false true e = absurd cc
unnamed false false false false false false e = absurd cc

name_class : (b : ℕ) → (is_ascii_alphanumeric b || b == 95) ≡ true → is_name_byte b ≡ true
unfolding class_of
name_class b e =
    let none : is_blank b ≡ false = grind (arith, e) in
    named (is_blank b) (is_in_range 48 57 b) (is_in_range 65 90 b) (is_in_range 97 122 b) (b == 95) (b == 39) none e

class_name : (b : ℕ) → is_name_byte b ≡ true → (is_ascii_alphanumeric b || b == 95) ≡ true
unfolding class_of
class_name b e = unnamed (is_blank b) (is_in_range 48 57 b) (is_in_range 65 90 b) (is_in_range 97 122 b) (b == 95) (b == 39) e

-- the bytes of a name, if there are any
abbrev pub IsFront : List ℕ → Type 0
IsFront [] = Unit {0}
IsFront (b ∷ bs) = (class_of b ≡ Letter) × (list_all is_name_byte bs ≡ true)

both_true : (a b : Bool) → a ≡ true → b ≡ true → (a && b) ≡ true
both_true true b e f = f
both_true false b e f = absurd cc

extend : (name : List ℕ) (b : ℕ) → IsFront name → is_name_at (length name) b ≡ true → IsFront (name ++ b ∷ [])
extend [] b front e = (letter_class b e, refl)
extend (c ∷ cs) b front e = (front.0, list_all-append is_name_byte cs (b ∷ []) ∙ both_true (list_all is_name_byte cs) (list_all is_name_byte (b ∷ [])) front.1 (both_true (is_name_byte b) true (name_class b e) refl))

cut : (name : List ℕ) (b : ℕ) (t : List ℕ) → IsFront (name ++ b ∷ t) → is_name_at (length name) b ≡ true
cut [] b t front = class_letter b front.0
cut (c ∷ cs) b t front =
    let p = and_parts (list_all is_name_byte cs) (list_all is_name_byte (b ∷ t)) (sym (list_all-append is_name_byte cs (b ∷ t)) ∙ front.1) in
    class_name b (and_parts (is_name_byte b) (list_all is_name_byte t) p.1).0

front_of : (full : List ℕ) → IsWord full → IsFront full
front_of full (b, bs, letter, all, is) = subst (λ (w : List ℕ). IsFront w) (sym is) (letter, all)

word_from : (name : List ℕ) → 0 < length name → IsFront name → IsWord name
word_from [] some front = absurd (omega (arith, some))
word_from (b ∷ bs) some front = (b, bs, front.0, front.1, refl)

-- ---- keywords

no_bar : (k : Keyword) → list_all (λ b. not (b == 95)) (word_of k) ≡ true
no_bar keywords.Module = refl
no_bar _ = refl

keyword_size : (k : Keyword) → (2 ≤ length (word_of k)) × (length (word_of k) ≤ 29)
keyword_size keywords.Module = (omega arith, omega arith)
keyword_size _ = (omega arith, omega arith)

barred : (name t : List ℕ) (k : Keyword) → name ++ 95 ∷ t ≡ word_of k → ⊥
barred name t k e =
    let all : list_all (λ b. not (b == 95)) (name ++ 95 ∷ t) ≡ true = ap (list_all (λ b. not (b == 95))) e ∙ no_bar k in
    let p = and_parts (list_all (λ b. not (b == 95)) name) false (sym (list_all-append (λ b. not (b == 95)) name (95 ∷ t)) ∙ all) in
    true_false (sym p.1)

free_of : (name : List ℕ) → is_keyword name ≡ false → (k : Keyword) → name ≢ word_of k
free_of name none k is = absurd (true_false (sym (keyword_is k name is) ∙ none))

is_free : (name : List ℕ) (b : Bool) → is_keyword name ≡ b → ((k : Keyword) → name ≢ word_of k) → b ≡ false
is_free name true e none = absurd (none (keyword_of name e).0 (keyword_of name e).1)
is_free name false e none = refl

-- ---- what stands behind the front of a name

-- so many bytes before the end a bracket may stand behind a name
abbrev pub fits_left : ℕ → Bool
fits_left left = left == 5 || nat_le 8 left

pub record NameRest (name : List ℕ) (left : ℕ) (full text : List ℕ) : Type 0 where
  pub t : List ℕ
  pub whole : full ≡ name ++ t
  pub parts : text ≡ t ++ 40 ∷ []
  pub is : IsName full
  pub room : fits_left (left - length t) ≡ true

rest_up : (name : List ℕ) (left b : ℕ) (full text : List ℕ) → NameRest (name ++ b ∷ []) (left - 1) full text → NameRest name left full (b ∷ text)
rest_up name left b full text r =
    let one_less : left - suc (length r.t) ≡ left - 1 - length r.t = omega arith in
    record { t = b ∷ r.t; whole = r.whole ∙ append_assoc name (b ∷ []) r.t; parts = ap (λ (x : List ℕ). b ∷ x) r.parts; is = r.is; room = ap fits_left one_less ∙ r.room }

-- ---- what is read

not_true : (b : Bool) → not b ≡ true → b ≡ false
not_true true e = absurd cc
not_true false e = refl

not_false : (b : Bool) → b ≡ false → not b ≡ true
not_false true e = absurd cc
not_false false e = refl

some_length : (n : ℕ) → (n == 0) ≡ false → 0 < n
some_length n e = grind (arith, e)

length_some : (n : ℕ) → 0 < n → (n == 0) ≡ false
length_some n some = grind (arith, some)

begins_parts : (name : List ℕ) (left : ℕ) → begins_name name left ≡ true → (length name ≤ 32) × ((fits_left left || (nat_le 6 left && nat_le (length name + (left - 5)) 32)) ≡ true) × ((nat_le 6 left || not (is_keyword name)) ≡ true)
begins_parts name left e =
    let p = and_parts (room_left (length name) left) (nat_le 6 left || not (is_keyword name)) e in
    let q = and_parts (nat_le (length name) 32) (fits_left left || (nat_le 6 left && nat_le (length name + (left - 5)) 32)) p.0 in
    (leb-true (length name) 32 q.0, q.1, p.1)

names_parts : (name : List ℕ) (left b : ℕ) → names name left b ≡ true → (is_name_at (length name) b ≡ true) × (begins_name (name ++ b ∷ []) (left - 1) ≡ true)
names_parts name left b e = and_parts (is_name_at (length name) b) (begins_name (name ++ b ∷ []) (left - 1)) e

record NameFound (name : List ℕ) (left : ℕ) (bytes full rest : List ℕ) : Type 0 where
  text : List ℕ
  parts : bytes ≡ text ++ rest
  read : NameRest name left full text

opened_found : (name : List ℕ) (left b : ℕ) (bs : List ℕ) → IsFront name → length name ≤ 32 → opens name left b ≡ true → NameFound name left (b ∷ bs) name bs
opened_found name left b bs front short e =
    let p = and_parts (b == 40 && not (length name == 0) && not (is_keyword name)) (fits_left left) e in
    let q = and_parts (b == 40 && not (length name == 0)) (not (is_keyword name)) p.0 in
    let r = and_parts (b == 40) (not (length name == 0)) q.0 in
    let some = some_length (length name) (not_true (length name == 0) r.1) in
    let none_less : left - 0 ≡ left = omega arith in
    record {
      text = 40 ∷ [];
      parts = ap (λ (c : ℕ). c ∷ bs) (eqb-true b 40 r.0);
      read = record { t = []; whole = sym (append-nil name); parts = refl; is = record { word = word_from name some front; free = free_of name (not_true (is_keyword name) q.1); short = short }; room = ap fits_left none_less ∙ p.1 };
    }

later_found : (name : List ℕ) (left b : ℕ) (bs full rest : List ℕ) → NameFound (name ++ b ∷ []) (left - 1) bs full rest → NameFound name left (b ∷ bs) full rest
later_found name left b bs full rest f = record { text = b ∷ f.text; parts = ap (λ (x : List ℕ). b ∷ x) f.parts; read = rest_up name left b full f.text f.read }

abbrev done : List ℕ × List ℕ → Result (List ℕ × List ℕ) ℕ
done x = Ok x

abbrev failed : ℕ → Result (List ℕ × List ℕ) ℕ
failed n = Err n

not_read : {P : Type 0} (n : ℕ) (x : List ℕ × List ℕ) → failed n ≡ done x → P
not_read n x e = absurd cc

name_found : (bytes name : List ℕ) (left : ℕ) (x : List ℕ × List ℕ) → IsFront name → length name ≤ 32 → name_at name left bytes ≡ Ok x → NameFound name left bytes x.0 x.1
unfolding name_at
name_found [] name left x front short e = not_read 0 x e
name_found (b ∷ bs) name left x front short e =
    elim (chosen (opens name left b) (done (name, bs)) (cond (names name left b) (name_at (name ++ b ∷ []) (left - 1) bs) (failed (suc (length bs)))) (done x) e) [
      | inl o ↦ subst (λ (y : List ℕ × List ℕ). NameFound name left (b ∷ bs) y.0 y.1) (ok_is (name, bs) x o.1) (opened_found name left b bs front short o.0)
      | inr m ↦ elim (chosen (names name left b) (name_at (name ++ b ∷ []) (left - 1) bs) (failed (suc (length bs))) (done x) m.1) [
        | inl g ↦
            let p = names_parts name left b g.0 in
            later_found name left b bs x.0 x.1 (name_found bs (name ++ b ∷ []) (left - 1) x (extend name b front p.0) (begins_parts (name ++ b ∷ []) (left - 1) p.1).0 g.1)
        | inr f ↦ not_read (suc (length bs)) x f.1
      ]
    ]

-- ---- what is read again

not_bracket : (n b : ℕ) → is_name_at n b ≡ true → (b == 40) ≡ false
not_bracket zero b e = grind (arith, e)
not_bracket (suc n) b e = grind (arith, e)

opens_not : (name : List ℕ) (left b : ℕ) → (b == 40) ≡ false → opens name left b ≡ false
opens_not name left b e = rw e refl

pub word_some : (name : List ℕ) → IsWord name → 0 < length name
word_some name (b, bs, letter, all, is) = omega (arith, ap (λ (x : List ℕ). length x) is)

opens_so : (name : List ℕ) (left : ℕ) → IsName name → fits_left left ≡ true → opens name left 40 ≡ true
opens_so name left is room =
    let some : 0 < length name = word_some name is.word in
    let filled = not_false (length name == 0) (length_some (length name) some) in
    let free = not_false (is_keyword name) (is_free name (is_keyword name) refl is.free) in
    both_true (40 == 40 && not (length name == 0) && not (is_keyword name)) (fits_left left) (both_true (40 == 40 && not (length name == 0)) (not (is_keyword name)) filled free) room

room_so : (size left k : ℕ) → size + k ≤ 32 → fits_left (left - k) ≡ true → room_left size left ≡ true
room_so size left k few room = grind (arith, few, room)

long_so : (left k : ℕ) → fits_left (left - suc k) ≡ true → nat_le 6 left ≡ true
long_so left k room = grind (arith, room)

goes_so : (name t : List ℕ) (left : ℕ) → IsName (name ++ t) → fits_left (left - length t) ≡ true → (nat_le 6 left || not (is_keyword name)) ≡ true
goes_so name [] left is room = or_right (nat_le 6 left) (not (is_keyword name)) (not_false (is_keyword name) (is_free name (is_keyword name) refl (subst (λ (w : List ℕ). IsName w) (append-nil name) is).free))
goes_so name (b ∷ t) left is room = or_left (nat_le 6 left) (not (is_keyword name)) (long_so left (length t) room)

begins_so : (name t : List ℕ) (left : ℕ) → IsName (name ++ t) → fits_left (left - length t) ≡ true → begins_name name left ≡ true
begins_so name t left is room =
    both_true (room_left (length name) left) (nat_le 6 left || not (is_keyword name)) (room_so (length name) left (length t) (omega (arith, is.short, length-append name t)) room) (goes_so name t left is room)

name_again : (t name : List ℕ) (left : ℕ) (rest : List ℕ) → IsName (name ++ t) → fits_left (left - length t) ≡ true → name_at name left (t ++ 40 ∷ rest) ≡ Ok (name ++ t, rest)
unfolding name_at
name_again [] name left rest is room =
    let none_less : left ≡ left - 0 = omega arith in
    let whole = append-nil name in
    rw (opens_so name left (subst (λ (w : List ℕ). IsName w) whole is) (ap fits_left none_less ∙ room)) (ap (λ (w : List ℕ). done (w, rest)) (sym whole))
name_again (b ∷ t) name left rest is room =
    let whole : (name ++ b ∷ []) ++ t ≡ name ++ b ∷ t = append_assoc name (b ∷ []) t in
    let next = subst (λ (w : List ℕ). IsName w) (sym whole) is in
    let at = cut name b t (front_of (name ++ b ∷ t) is.word) in
    let less : left - 1 - length t ≡ left - suc (length t) = omega arith in
    let on = ap fits_left less ∙ room in
    let goes = both_true (is_name_at (length name) b) (begins_name (name ++ b ∷ []) (left - 1)) at (begins_so (name ++ b ∷ []) t (left - 1) next on) in
    rw (opens_not name left b (not_bracket (length name) b at), goes) (name_again t (name ++ b ∷ []) (left - 1) rest next on ∙ ap (λ (w : List ℕ). done (w, rest)) whole)

-- ---- how a name can be completed

abbrev Ready : List ℕ → ℕ → Type 0
Ready name left = (full : List ℕ) × (text : List ℕ) × NameRest name left full text

abbrev bars : ℕ → List ℕ
bars zero = []
bars (suc n) = 95 ∷ bars n

length-bars : (n : ℕ) → length (bars n) ≡ n
length-bars zero = refl
length-bars (suc n) = ap suc (length-bars n)

all_bars : (n : ℕ) → list_all is_name_byte (bars n) ≡ true
all_bars zero = refl
all_bars (suc n) = both_true (is_name_byte 95) (list_all is_name_byte (bars n)) (name_class 95 refl) (all_bars n)

word_bars : (name : List ℕ) (n : ℕ) → 0 < length name → IsFront name → IsWord (name ++ bars n)
word_bars [] n some front = absurd (omega (arith, some))
word_bars (b ∷ bs) n some front = (b, bs ++ bars n, front.0, list_all-append is_name_byte bs (bars n) ∙ both_true (list_all is_name_byte bs) (list_all is_name_byte (bars n)) front.1 (all_bars n), refl)

with_bars : (name : List ℕ) (left n : ℕ) → IsFront name → 0 < length name → length name + suc n ≤ 32 → fits_left (left - suc n) ≡ true → Ready name left
with_bars name left n front some few room =
    let size = length-bars (suc n) in
    let same : left - length (bars (suc n)) ≡ left - suc n = ap (λ (k : ℕ). left - k) size in
    (name ++ bars (suc n), bars (suc n) ++ 40 ∷ [], record { t = bars (suc n); whole = refl; parts = refl; is = record { word = word_bars name (suc n) some front; free = λ k. barred name (bars n) k; short = omega (arith, few, length-append name (bars (suc n)), size) }; room = ap fits_left same ∙ room })

five_left : (left : ℕ) → 6 ≤ left → fits_left (left - suc (left - 6)) ≡ true
five_left left some = let five : left - suc (left - 6) ≡ 5 = omega (arith, some) in ap fits_left five

one_less : (left : ℕ) → 9 ≤ left → fits_left (left - 1) ≡ true
one_less left some = grind (arith, some)

-- a name that is no keyword
complete_free : (name : List ℕ) (left : ℕ) (f : Bool) → fits_left left ≡ f → is_keyword name ≡ false → IsFront name → 0 < length name → begins_name name left ≡ true → Ready name left
complete_free name left true fits free front some e =
    let none_less : left - 0 ≡ left = omega arith in
    (name, 40 ∷ [], record { t = []; whole = sym (append-nil name); parts = refl; is = record { word = word_from name some front; free = free_of name free; short = (begins_parts name left e).0 }; room = ap fits_left none_less ∙ fits })
complete_free name left false fits free front some e =
    let p = begins_parts name left e in
    let more : (nat_le 6 left && nat_le (length name + (left - 5)) 32) ≡ true = ap (λ (b : Bool). b || (nat_le 6 left && nat_le (length name + (left - 5)) 32)) (sym fits) ∙ p.1 in
    let q = and_parts (nat_le 6 left) (nat_le (length name + (left - 5)) 32) more in
    let six = leb-true 6 left q.0 in
    with_bars name left (left - 6) front some (omega (arith, six, leb-true (length name + (left - 5)) 32 q.1)) (five_left left six)

-- a keyword goes on
complete_keyword : (name : List ℕ) (left : ℕ) → is_keyword name ≡ true → IsFront name → 0 < length name → begins_name name left ≡ true → Ready name left
complete_keyword name left is front some e =
    let k = keyword_of name is in
    let short : length name ≤ 29 = omega (arith, (keyword_size k.0).1, ap (λ (w : List ℕ). length w) k.1) in
    let long : (nat_le 6 left || false) ≡ true = ap (λ (b : Bool). nat_le 6 left || not b) (sym is) ∙ (begins_parts name left e).2 in
    let six : 6 ≤ left = grind (arith, long) in
    elim (cases_lt left 9) [
      | inl few ↦ with_bars name left (left - 6) front some (omega (arith, six, few, short)) (five_left left six)
      | inr many ↦ with_bars name left 0 front some (omega (arith, short)) (one_less left many)
    ]

complete : (name : List ℕ) (left : ℕ) (k : Bool) → is_keyword name ≡ k → IsFront name → 0 < length name → begins_name name left ≡ true → Ready name left
complete name left true is front some e = complete_keyword name left is front some e
complete name left false is front some e = complete_free name left (fits_left left) refl is front some e

-- a name of one letter, with `_` behind it
first_free : (n : ℕ) (k : Keyword) → 97 ∷ bars n ≡ word_of k → ⊥
first_free zero k e = omega (arith, (keyword_size k).0, ap (λ (w : List ℕ). length w) e)
first_free (suc n) k e = barred (97 ∷ []) (bars n) k e

first_with : (left n : ℕ) → n ≤ 2 → fits_left (left - suc n) ≡ true → Ready [] left
first_with left n few room =
    let size = length-bars n in
    let same : left - suc (length (bars n)) ≡ left - suc n = ap (λ (k : ℕ). left - suc k) size in
    (97 ∷ bars n, 97 ∷ bars n ++ 40 ∷ [], record { t = 97 ∷ bars n; whole = refl; parts = refl; is = record { word = word_bars (97 ∷ []) n (omega arith) (letter_class 97 refl, refl); free = first_free n; short = omega (arith, few, size) }; room = ap fits_left same ∙ room })

first_ready : (left : ℕ) → 6 ≤ left → Ready [] left
first_ready left some =
    elim (cases_lt left 9) [
      | inl few ↦ first_with left (left - 6) (omega (arith, few)) (five_left left some)
      | inr many ↦ first_with left 0 (omega arith) (one_less left many)
    ]

-- ---- where a name is wrong

name_rejects : (name : List ℕ) (left b : ℕ) (bs : List ℕ) → opens name left b ≡ false → names name left b ≡ false → name_at name left (b ∷ bs) ≡ Err (suc (length bs))
unfolding name_at
name_rejects name left b bs closed other = rw (closed, other) refl

name_goes_on : (name : List ℕ) (left b : ℕ) (bs : List ℕ) → opens name left b ≡ false → names name left b ≡ true → name_at name left (b ∷ bs) ≡ name_at (name ++ b ∷ []) (left - 1) bs
unfolding name_at
name_goes_on name left b bs closed goes = rw (closed, goes) refl

name_opens : (name : List ℕ) (left b : ℕ) (bs : List ℕ) → opens name left b ≡ true → name_at name left (b ∷ bs) ≡ done (name, bs)
unfolding name_at
name_opens name left b bs opening = rw opening refl

name_ends_early : (name : List ℕ) (left : ℕ) → name_at name left [] ≡ Err 0
unfolding name_at
name_ends_early name left = refl

abbrev WrongName : List ℕ → ℕ → List ℕ → ℕ → Type 0
WrongName name left bytes n = Wrong (name_at name left) (NameRest name left) bytes n

wrong_here : (name : List ℕ) (left b : ℕ) (bs : List ℕ) (n : ℕ) → Ready name left → opens name left b ≡ false → names name left b ≡ false → name_at name left (b ∷ bs) ≡ Err n → WrongName name left (b ∷ bs) n
wrong_here name left b bs n ready closed other e =
    record { front = []; tail = b ∷ bs; parts = refl; size = number_is (suc (length bs)) n (name_at name left (b ∷ bs)) (name_rejects name left b bs closed other) e; value = ready.0; more = ready.1; goes_on = ready.2; broken = λ more. subst (λ r. IsErr r) (sym (name_rejects name left b more closed other)) refl }

step_broken : (name : List ℕ) (left b : ℕ) (front tail : List ℕ) → opens name left b ≡ false → names name left b ≡ true → Broken (name_at (name ++ b ∷ []) (left - 1)) front tail → Broken (name_at name left) (b ∷ front) tail
step_broken name left b front [] closed goes broken = tt
step_broken name left b front (c ∷ cs) closed goes broken = λ more. subst (λ r. IsErr r) (sym (name_goes_on name left b (front ++ c ∷ more) closed goes)) (broken more)

wrong_later : (name : List ℕ) (left b : ℕ) (bs : List ℕ) (n : ℕ) → opens name left b ≡ false → names name left b ≡ true → WrongName (name ++ b ∷ []) (left - 1) bs n → WrongName name left (b ∷ bs) n
wrong_later name left b bs n closed goes w =
    record { front = b ∷ w.front; tail = w.tail; parts = ap (λ (x : List ℕ). b ∷ x) w.parts; size = w.size; value = w.value; more = w.more; goes_on = rest_up name left b w.value (w.front ++ w.more) w.goes_on; broken = step_broken name left b w.front w.tail closed goes w.broken }

longer : (name : List ℕ) (b : ℕ) → 0 < length (name ++ b ∷ [])
longer name b = omega (arith, length-append name (b ∷ []))

-- what is told behind one more byte
abbrev Deeper : List ℕ → ℕ → ℕ → List ℕ → ℕ → Type 0
Deeper name left b bs n = IsFront (name ++ b ∷ []) → Ready (name ++ b ∷ []) (left - 1) → name_at (name ++ b ∷ []) (left - 1) bs ≡ Err n → WrongName (name ++ b ∷ []) (left - 1) bs n

wrong_step : (name : List ℕ) (left b : ℕ) (bs : List ℕ) (n : ℕ) (opened goes : Bool) → opens name left b ≡ opened → names name left b ≡ goes → IsFront name → Ready name left → name_at name left (b ∷ bs) ≡ Err n → Deeper name left b bs n → WrongName name left (b ∷ bs) n
wrong_step name left b bs n true goes opening going front ready e deeper = not_both (name, bs) n (name_at name left (b ∷ bs)) (name_opens name left b bs opening) e
wrong_step name left b bs n false false opening going front ready e deeper = wrong_here name left b bs n ready opening going e
wrong_step name left b bs n false true opening going front ready e deeper =
    let p = names_parts name left b going in
    let longer_front = extend name b front p.0 in
    wrong_later name left b bs n opening going
    (deeper longer_front (complete (name ++ b ∷ []) (left - 1) (is_keyword (name ++ b ∷ [])) refl longer_front (longer name b) p.1) (sym (name_goes_on name left b bs opening going) ∙ e))

name_wrong : (bytes name : List ℕ) (left n : ℕ) → IsFront name → Ready name left → name_at name left bytes ≡ Err n → WrongName name left bytes n
name_wrong [] name left n front ready e = record { front = []; tail = []; parts = refl; size = number_is 0 n (name_at name left []) (name_ends_early name left) e; value = ready.0; more = ready.1; goes_on = ready.2; broken = tt }
name_wrong (b ∷ bs) name left n front ready e =
    wrong_step name left b bs n (opens name left b) (names name left b) refl refl front ready e (λ longer_front again wrong. name_wrong bs (name ++ b ∷ []) (left - 1) n longer_front again wrong)

-- ---- the reader

pub fits_behind : (text rest : List ℕ) → IsBytes (text ++ rest) → IsBytes rest
fits_behind [] rest fits = fits
fits_behind (b ∷ text) rest fits = fits_behind text rest (IsBytes-rest b (text ++ rest) fits)

found_name : (size : ℕ) (bytes x rest : List ℕ) → IsBytes bytes → name_at [] size bytes ≡ Ok (x, rest) → Found (NameRest [] size) bytes x rest
found_name size bytes x rest fits e =
    let f = name_found bytes [] size (x, rest) tt (omega arith) e in
    record { text = f.text; is = f.read; parts = f.parts; rest_fits = fits_behind f.text rest (subst (λ (b : List ℕ). IsBytes b) f.parts fits) }

again_name : (size : ℕ) (x text rest : List ℕ) → NameRest [] size x text → name_at [] size (text ++ rest) ≡ Ok (x, rest)
again_name size x text rest r =
    let parts : text ++ rest ≡ r.t ++ 40 ∷ rest = ap (λ (y : List ℕ). y ++ rest) r.parts ∙ append_assoc r.t (40 ∷ []) rest in
    ap (name_at [] size) parts ∙ name_again r.t [] size rest (subst (λ (w : List ℕ). IsName w) r.whole r.is) r.room ∙ ap (λ (w : List ℕ). done (w, rest)) (sym r.whole)

pub name_reads : (size : ℕ) → 6 ≤ size → Reads (name_at [] size) (NameRest [] size)
name_reads size some = record {
  found = found_name size;
  again = again_name size;
  wrong = λ bytes n fits e. name_wrong bytes [] size n tt (first_ready size some) e;
}

pub some_name : (size : ℕ) → 6 ≤ size → (name : List ℕ) × (text : List ℕ) × NameRest [] size name text
some_name size some = first_ready size some
