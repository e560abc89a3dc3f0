-- The machine reads a type that stands where one may begin.
use Rattle.std.proofs.Common.{◌≡◌, ℕ, suc, ◌-◌, ◌+◌, ◌≤◌, Bool, true, false, List, [], ◌∷◌, ◌++◌, length, Option, Some, None, Ok, refl, sym, ap, subst, ◌∙◌, arith, inl, inr, pos, negsuc, ◌/◌, ◌%◌}
use Rattle.std.specs.Prelude.{◌⊎◌, ◌||◌, ◌==◌, nat_le}
use Rattle.std.specs.Fmt.{decimal}
use Rattle.std.proofs.lemmas.Bool.{and_parts, cases_lt, leb-true}
use Rattle.std.proofs.lemmas.Fmt.{decimal_digit, decimal_step}
use Rattle.lynx_tree.specs.declared.declaration.TypeName.{TypeName}
use Rattle.lynx_tree.specs.declared.declaration.TypeName.TheVariants as types
use Rattle.typing_rules.specs.Types.{has_length}
use Rattle.typing_rules.specs.Signatures.{type_text}
use Rattle.lynx_packets.specs.declared.spot.Part.{Part}
use Rattle.lynx_packets.specs.declared.spot.Part.TheVariants.{Arguments, Results}
use Rattle.lynx_packets.specs.declared.spot.Word.{Word}
use Rattle.lynx_packets.specs.declared.spot.Word.TheVariants as words
use Rattle.lynx_packets.specs.declared.spot.Spot.{Spot}
use Rattle.lynx_packets.specs.declared.spot.Spot.TheVariants as spots
use Rattle.lynx_packets.specs.Spots.{ends, behind, may_link, next_spot, word_begun, worded, type_told, type_of_word, is_last, link_told, listed, types_at}
use Rattle.lynx_packets.proofs.Sizes.{or_left, or_right}
use Rattle.lynx_packets.proofs.Runs.{Read, later, with_types, step_of, step_to}

-- what the machine tells of a type in this part
abbrev pub in_part : Part → Option TypeName → Option TypeName
in_part Arguments o = o
in_part Results o = None

-- where a type may begin: behind an opening bracket, or behind a comma
abbrev pub start : Bool → Part → Spot
start true part = spots.Opened part
start false part = spots.Comma part

abbrev pub IsMark : ℕ → Type 0
IsMark e = (e ≡ 41) ⊎ (e ≡ 44)

pub move : (links m : ℕ) (spot : Spot) (b : ℕ) (bs : List ℕ) (next : Spot) (o : Option TypeName) (y : Read) → next_spot links (suc m) spot b ≡ Some next → type_told spot b ≡ o → types_at (links - link_told o) m next bs ≡ Ok y → types_at links (suc m) spot (b ∷ bs) ≡ Ok (with_types (listed o) y)
move links m spot b bs next o y goes told runs =
    let left : suc m - 1 ≡ m = omega arith in
    let on : later links (suc m) spot b bs next ≡ Ok y = rw (told, left) runs in
    step_to links (suc m) spot b bs next y goes on ∙ ap (λ (p : Option TypeName). Ok (with_types (listed p) y)) told

pub quiet : (links m : ℕ) (spot : Spot) (b : ℕ) (bs : List ℕ) (next : Spot) (y : Read) → next_spot links (suc m) spot b ≡ Some next → type_told spot b ≡ None → types_at links m next bs ≡ Ok y → types_at links (suc m) spot (b ∷ bs) ≡ Ok y
quiet links m spot b bs next y goes told runs =
    let same : links - 0 ≡ links = omega arith in
    move links m spot b bs next None y goes told (ap (λ (l : ℕ). types_at l m next bs) same ∙ runs)

-- ---- words

pub last : (part : Part) (word : Word) (at b : ℕ) → is_last word at ≡ true → type_told (spots.Within part word at) b ≡ in_part part (type_of_word word)
unfolding type_told
last Arguments word at b e = rw e refl
last Results word at b e = refl

pub inner : (part : Part) (word : Word) (at b : ℕ) → is_last word at ≡ false → type_told (spots.Within part word at) b ≡ None
unfolding type_told
inner Arguments word at b e = rw e refl
inner Results word at b e = refl

-- the letters behind the first, and how many bytes are left before them
abbrev pub tail_of : Word → List ℕ → List ℕ
tail_of words.Int bs = 110 ∷ 116 ∷ bs
tail_of words.Bool bs = 111 ∷ 111 ∷ 108 ∷ bs
tail_of words.Text bs = 101 ∷ 120 ∷ 116 ∷ bs
tail_of words.Link bs = 105 ∷ 110 ∷ 107 ∷ bs
tail_of words.Row bs = 111 ∷ 119 ∷ bs

abbrev pub ahead : Word → ℕ → ℕ
ahead words.Int m = suc (suc m)
ahead words.Row m = suc (suc m)
ahead _ m = suc (suc (suc m))

abbrev pub WordRuns : Part → Word → Type 0
WordRuns part word = (links m : ℕ) (bs : List ℕ) (y : Read) → types_at (links - link_told (in_part part (type_of_word word))) m (worded part word) bs ≡ Ok y
    → types_at links (ahead word m) (spots.Within part word 1) (tail_of word bs) ≡ Ok (with_types (listed (in_part part (type_of_word word))) y)

pub word_runs : (part : Part) (word : Word) → WordRuns part word
unfolding next_spot
word_runs part words.Int links m bs y runs =
    quiet links (suc m) (spots.Within part words.Int 1) 110 (116 ∷ bs) (spots.Within part words.Int 2) (with_types (listed (in_part part (Some types.Int))) y) refl (inner part words.Int 1 110 refl)
    (move links m (spots.Within part words.Int 2) 116 bs (spots.Ended part) (in_part part (Some types.Int)) y refl (last part words.Int 2 116 refl) runs)
word_runs part words.Bool links m bs y runs =
    quiet links (suc (suc m)) (spots.Within part words.Bool 1) 111 (111 ∷ 108 ∷ bs) (spots.Within part words.Bool 2) (with_types (listed (in_part part (Some types.Bool))) y) refl (inner part words.Bool 1 111 refl)
    (quiet links (suc m) (spots.Within part words.Bool 2) 111 (108 ∷ bs) (spots.Within part words.Bool 3) (with_types (listed (in_part part (Some types.Bool))) y) refl (inner part words.Bool 2 111 refl)
    (move links m (spots.Within part words.Bool 3) 108 bs (spots.Ended part) (in_part part (Some types.Bool)) y refl (last part words.Bool 3 108 refl) runs))
word_runs part words.Text links m bs y runs =
    quiet links (suc (suc m)) (spots.Within part words.Text 1) 101 (120 ∷ 116 ∷ bs) (spots.Within part words.Text 2) (with_types (listed (in_part part (Some types.Text))) y) refl (inner part words.Text 1 101 refl)
    (quiet links (suc m) (spots.Within part words.Text 2) 120 (116 ∷ bs) (spots.Within part words.Text 3) (with_types (listed (in_part part (Some types.Text))) y) refl (inner part words.Text 2 120 refl)
    (move links m (spots.Within part words.Text 3) 116 bs (spots.Ended part) (in_part part (Some types.Text)) y refl (last part words.Text 3 116 refl) runs))
word_runs part words.Link links m bs y runs =
    quiet links (suc (suc m)) (spots.Within part words.Link 1) 105 (110 ∷ 107 ∷ bs) (spots.Within part words.Link 2) (with_types (listed (in_part part (Some types.Link))) y) refl (inner part words.Link 1 105 refl)
    (quiet links (suc m) (spots.Within part words.Link 2) 110 (107 ∷ bs) (spots.Within part words.Link 3) (with_types (listed (in_part part (Some types.Link))) y) refl (inner part words.Link 2 110 refl)
    (move links m (spots.Within part words.Link 3) 107 bs (spots.Ended part) (in_part part (Some types.Link)) y refl (last part words.Link 3 107 refl) runs))
word_runs part words.Row links m bs y runs =
    quiet links (suc m) (spots.Within part words.Row 1) 111 (119 ∷ bs) (spots.Within part words.Row 2) (with_types (listed (in_part part None)) y) refl (inner part words.Row 1 111 refl)
    (move links m (spots.Within part words.Row 2) 119 bs (spots.Digits part) (in_part part None) y refl (last part words.Row 2 119 refl) runs)

-- the first letter
begins : (opened : Bool) (part : Part) (links m b : ℕ) (word : Word) (bs : List ℕ) (y : Read) → (b == 41) ≡ false → word_begun part links (suc m) b ≡ Some word
    → types_at links m (spots.Within part word 1) bs ≡ Ok y → types_at links (suc m) (start opened part) (b ∷ bs) ≡ Ok y
unfolding next_spot type_told
begins true part links m b word bs y other begun runs = quiet links m (spots.Opened part) b bs (spots.Within part word 1) y (rw (other, begun) refl) refl runs
begins false part links m b word bs y other begun runs = quiet links m (spots.Comma part) b bs (spots.Within part word 1) y (rw begun refl) refl runs

pub behind_is : (part : Part) (left width m : ℕ) → left ≡ width + m → ends part m ≡ true → behind part left width ≡ true
behind_is part left width m size live =
    let fits : nat_le width left ≡ true = grind (arith, size) in
    let rest : left - width ≡ m = omega (arith, size) in
    rw (fits, rest) live

int_begun : (part : Part) (links left : ℕ) → behind part left 3 ≡ true → word_begun part links left 105 ≡ Some words.Int
unfolding word_begun
int_begun part links left e = rw e refl

bool_begun : (part : Part) (links left : ℕ) → behind part left 4 ≡ true → word_begun part links left 98 ≡ Some words.Bool
unfolding word_begun
bool_begun part links left e = rw e refl

text_begun : (part : Part) (links left : ℕ) → behind part left 4 ≡ true → word_begun part links left 116 ≡ Some words.Text
unfolding word_begun
text_begun part links left e = rw e refl

link_begun : (part : Part) (links left : ℕ) → may_link part links ≡ true → behind part left 4 ≡ true → word_begun part links left 108 ≡ Some words.Link
unfolding word_begun
link_begun part links left may e = rw (may, e) refl

row_begun : (part : Part) (links left : ℕ) → (behind part left 4 || behind part left 5) ≡ true → word_begun part links left 114 ≡ Some words.Row
unfolding word_begun
row_begun part links left e = rw e refl

-- ---- rows

-- the digits of a row's length
pub one_digit : (n : ℕ) → n ≤ 9 → decimal n ≡ (48 + n) ∷ []
one_digit n few = decimal_digit n (omega (arith, few))

pub two_digits : (n : ℕ) → 10 ≤ n → n ≤ 16 → decimal n ≡ 49 ∷ (38 + n) ∷ []
two_digits n some few =
    let q : n / 10 ≡ 1 = omega (arith, some, few) in
    let r : 48 + n % 10 ≡ 38 + n = omega (arith, some, few) in
    decimal_step n some (omega (arith, few)) ∙ ap (λ (k : ℕ). decimal k ++ (48 + n % 10) ∷ []) q ∙ ap (λ (ds : List ℕ). ds ++ (48 + n % 10) ∷ []) (one_digit 1 (omega arith)) ∙ ap (λ (k : ℕ). 49 ∷ k ∷ []) r

abbrev pub row_of : ℕ → Option TypeName
row_of n = Some (types.Row (pos n))

pub digit_told_is : (part : Part) (n : ℕ) → 2 ≤ n → n ≤ 9 → type_told (spots.Digits part) (48 + n) ≡ in_part part (row_of n)
unfolding type_told
digit_told_is Arguments n some few =
    let low : nat_le 50 (48 + n) ≡ true = grind (arith, some) in
    let high : nat_le (48 + n) 57 ≡ true = grind (arith, few) in
    let is : (48 + n) - 48 ≡ n = omega arith in
    rw (low, high, is) refl
digit_told_is Results n some few = refl

pub digit_runs : (part : Part) (n links m : ℕ) (bs : List ℕ) (y : Read) → 2 ≤ n → n ≤ 9 → ends part m ≡ true → types_at (links - link_told (in_part part (row_of n))) m (spots.Ended part) bs ≡ Ok y
    → types_at links (suc m) (spots.Digits part) ((48 + n) ∷ bs) ≡ Ok (with_types (listed (in_part part (row_of n))) y)
unfolding next_spot
digit_runs part n links m bs y some few live runs =
    let other : (48 + n == 49) ≡ false = grind (arith, some) in
    let low : nat_le 50 (48 + n) ≡ true = grind (arith, some) in
    let high : nat_le (48 + n) 57 ≡ true = grind (arith, few) in
    let may : behind part (suc m) 1 ≡ true = behind_is part (suc m) 1 m (omega arith) live in
    move links m (spots.Digits part) (48 + n) bs (spots.Ended part) (in_part part (row_of n)) y (rw (other, low, high, may) refl) (digit_told_is part n some few) runs

pub one_quiet : (part : Part) → type_told (spots.Digits part) 49 ≡ None
unfolding type_told
one_quiet Arguments = refl
one_quiet Results = refl

pub one_told_is : (part : Part) (n : ℕ) → 10 ≤ n → n ≤ 16 → type_told (spots.One part) (38 + n) ≡ in_part part (row_of n)
unfolding type_told
one_told_is Arguments n some few =
    let low : nat_le 48 (38 + n) ≡ true = grind (arith, some) in
    let high : nat_le (38 + n) 54 ≡ true = grind (arith, few) in
    let is : (38 + n) - 38 ≡ n = omega arith in
    rw (low, high, is) refl
one_told_is Results n some few = refl

pub second_runs : (part : Part) (n links m : ℕ) (bs : List ℕ) (y : Read) → 10 ≤ n → n ≤ 16 → ends part m ≡ true → types_at (links - link_told (in_part part (row_of n))) m (spots.Ended part) bs ≡ Ok y
    → types_at links (suc (suc m)) (spots.Digits part) (49 ∷ (38 + n) ∷ bs) ≡ Ok (with_types (listed (in_part part (row_of n))) y)
unfolding next_spot
second_runs part n links m bs y some few live runs =
    let low : nat_le 48 (38 + n) ≡ true = grind (arith, some) in
    let high : nat_le (38 + n) 54 ≡ true = grind (arith, few) in
    let may : behind part (suc m) 1 ≡ true = behind_is part (suc m) 1 m (omega arith) live in
    quiet links (suc m) (spots.Digits part) 49 ((38 + n) ∷ bs) (spots.One part) (with_types (listed (in_part part (row_of n))) y) refl (one_quiet part)
    (move links m (spots.One part) (38 + n) bs (spots.Ended part) (in_part part (row_of n)) y (rw (low, high, may) refl) (one_told_is part n some few) runs)

mark_ends : (part : Part) (links m e : ℕ) → IsMark e → next_spot links m (spots.One part) e ≡ next_spot links m (spots.Ended part) e
unfolding next_spot
mark_ends part links m e (inl is) = rw is refl
mark_ends part links m e (inr is) = rw is refl

pub mark_tells : (part : Part) (e : ℕ) → IsMark e → type_told (spots.One part) e ≡ in_part part (row_of 1)
unfolding type_told
mark_tells Arguments e (inl is) = rw is refl
mark_tells Arguments e (inr is) = rw is refl
mark_tells Results e is = refl

pub no_link : (part : Part) (n : ℕ) → link_told (in_part part (row_of n)) ≡ 0
no_link Arguments n = refl
no_link Results n = refl

-- `row1` ends where a mark stands
pub one_runs : (part : Part) (links m e : ℕ) (bs : List ℕ) (y : Read) → IsMark e → types_at links m (spots.Ended part) (e ∷ bs) ≡ Ok y
    → types_at links m (spots.One part) (e ∷ bs) ≡ Ok (with_types (listed (in_part part (row_of 1))) y)
unfolding type_told
one_runs part links m e bs y mark runs =
    let s = step_of links m (spots.Ended part) e bs y refl runs in
    let told = mark_tells part e mark in
    let none : link_told (type_told (spots.One part) e) ≡ 0 = ap link_told told ∙ no_link part 1 in
    let on : later links m (spots.One part) e bs s.next ≡ Ok s.y = ap (λ (k : ℕ). types_at (links - k) (m - 1) s.next bs) none ∙ s.runs in
    step_to links m (spots.One part) e bs s.next s.y (mark_ends part links m e mark ∙ s.goes) on ∙ ap (λ (o : Option TypeName). Ok (with_types (listed o) s.y)) told ∙ ap (λ (z : Read). Ok (with_types (listed (in_part part (row_of 1))) z)) (sym s.value)

-- ---- any type

pub row_quiet : (part : Part) (links k : ℕ) (ds : List ℕ) (y : Read) → types_at links k (spots.Digits part) ds ≡ Ok y → types_at links (suc (suc k)) (spots.Within part words.Row 1) (111 ∷ 119 ∷ ds) ≡ Ok y
row_quiet Arguments links k ds y runs = let same : links - 0 ≡ links = omega arith in word_runs Arguments words.Row links k ds y (ap (λ (l : ℕ). types_at l k (spots.Digits Arguments) ds) same ∙ runs)
row_quiet Results links k ds y runs = let same : links - 0 ≡ links = omega arith in word_runs Results words.Row links k ds y (ap (λ (l : ℕ). types_at l k (spots.Digits Results) ds) same ∙ runs)

one_goes : (part : Part) (links left : ℕ) → next_spot links left (spots.Digits part) 49 ≡ Some (spots.One part)
unfolding next_spot
one_goes part links left = refl

-- behind `row`
row_starts : (opened : Bool) (part : Part) (links k : ℕ) (ds : List ℕ) (y : Read) → (behind part (suc (suc (suc k))) 4 || behind part (suc (suc (suc k))) 5) ≡ true → types_at links k (spots.Digits part) ds ≡ Ok y
    → types_at links (suc (suc (suc k))) (start opened part) (114 ∷ 111 ∷ 119 ∷ ds) ≡ Ok y
row_starts opened part links k ds y may runs =
    begins opened part links (suc (suc k)) 114 words.Row (111 ∷ 119 ∷ ds) y refl (row_begun part links (suc (suc (suc k))) may) (row_quiet part links k ds y runs)

-- a link stands among the arguments only where one may
abbrev pub MayStand : ℕ → Part → TypeName → Type 0
MayStand links part types.Link = may_link part links ≡ true
MayStand links part _ = Unit {0}

abbrev pub TypeRuns : Bool → Part → TypeName → Type 0
TypeRuns opened part t = (links left m e : ℕ) (bs : List ℕ) (y : Read) → MayStand links part t → left ≡ length (type_text t) + m → ends part m ≡ true → IsMark e
    → types_at (links - link_told (in_part part (Some t))) m (spots.Ended part) (e ∷ bs) ≡ Ok y → types_at links left (start opened part) (type_text t ++ e ∷ bs) ≡ Ok (with_types (listed (in_part part (Some t))) y)

row_one : (opened : Bool) (part : Part) → TypeRuns opened part (types.Row (pos 1))
row_one opened part links left m e bs y may size live mark runs =
    let is : left ≡ suc (suc (suc (suc m))) = omega (arith, size, ap (λ (ds : List ℕ). length ds) (one_digit 1 (omega arith))) in
    let none : links - link_told (in_part part (Some (types.Row (pos 1)))) ≡ links = omega (arith, no_link part 1) in
    let on = ap (λ (l : ℕ). types_at l m (spots.Ended part) (e ∷ bs)) (sym none) ∙ runs in
    let z = with_types (listed (in_part part (Some (types.Row (pos 1))))) y in
    rw (is, one_digit 1 (omega arith))
    (row_starts opened part links (suc m) (49 ∷ e ∷ bs) z (or_left _ _ (behind_is part (suc (suc (suc (suc m)))) 4 m (omega arith) live))
    (quiet links m (spots.Digits part) 49 (e ∷ bs) (spots.One part) z (one_goes part links (suc m)) (one_quiet part) (one_runs part links m e bs y mark on)))

row_short : (opened : Bool) (part : Part) (n : ℕ) → 2 ≤ n → n ≤ 9 → TypeRuns opened part (types.Row (pos n))
row_short opened part n some few links left m e bs y may size live mark runs =
    let is : left ≡ suc (suc (suc (suc m))) = omega (arith, size, ap (λ (ds : List ℕ). length ds) (one_digit n few)) in
    rw (is, one_digit n few)
    (row_starts opened part links (suc m) ((48 + n) ∷ e ∷ bs) (with_types (listed (in_part part (Some (types.Row (pos n))))) y) (or_left _ _ (behind_is part (suc (suc (suc (suc m)))) 4 m (omega arith) live))
    (digit_runs part n links m (e ∷ bs) y some few live runs))

row_long : (opened : Bool) (part : Part) (n : ℕ) → 10 ≤ n → n ≤ 16 → TypeRuns opened part (types.Row (pos n))
row_long opened part n some few links left m e bs y may size live mark runs =
    let is : left ≡ suc (suc (suc (suc (suc m)))) = omega (arith, size, ap (λ (ds : List ℕ). length ds) (two_digits n some few)) in
    rw (is, two_digits n some few)
    (row_starts opened part links (suc (suc m)) (49 ∷ (38 + n) ∷ e ∷ bs) (with_types (listed (in_part part (Some (types.Row (pos n))))) y) (or_right _ _ (behind_is part (suc (suc (suc (suc (suc m))))) 5 m (omega arith) live))
    (second_runs part n links m (e ∷ bs) y some few live runs))

row_runs : (opened : Bool) (part : Part) (n : ℕ) → 1 ≤ n → n ≤ 16 → TypeRuns opened part (types.Row (pos n))
row_runs opened part n some few =
    elim (cases_lt n 2) [
      | inl one ↦ subst (λ (k : ℕ). TypeRuns opened part (types.Row (pos k))) (omega (arith, one, some)) (row_one opened part)
      | inr two ↦ elim (cases_lt n 10) [
        | inl short ↦ row_short opened part n two (omega (arith, short))
        | inr long ↦ row_long opened part n long few
      ]
    ]

-- the machine reads a type, if the part can end or go on behind it
pub item_runs : (opened : Bool) (part : Part) (t : TypeName) → has_length t ≡ true → TypeRuns opened part t
item_runs opened part types.Int has links left m e bs y may size live mark runs =
    let is : left ≡ suc (suc (suc m)) = omega (arith, size) in
    rw is (begins opened part links (suc (suc m)) 105 words.Int (110 ∷ 116 ∷ e ∷ bs) (with_types (listed (in_part part (Some types.Int))) y) refl (int_begun part links (suc (suc (suc m))) (behind_is part (suc (suc (suc m))) 3 m (omega arith) live)) (word_runs part words.Int links m (e ∷ bs) y runs))
item_runs opened part types.Bool has links left m e bs y may size live mark runs =
    let is : left ≡ suc (suc (suc (suc m))) = omega (arith, size) in
    rw is (begins opened part links (suc (suc (suc m))) 98 words.Bool (111 ∷ 111 ∷ 108 ∷ e ∷ bs) (with_types (listed (in_part part (Some types.Bool))) y) refl (bool_begun part links (suc (suc (suc (suc m)))) (behind_is part (suc (suc (suc (suc m)))) 4 m (omega arith) live)) (word_runs part words.Bool links m (e ∷ bs) y runs))
item_runs opened part types.Text has links left m e bs y may size live mark runs =
    let is : left ≡ suc (suc (suc (suc m))) = omega (arith, size) in
    rw is (begins opened part links (suc (suc (suc m))) 116 words.Text (101 ∷ 120 ∷ 116 ∷ e ∷ bs) (with_types (listed (in_part part (Some types.Text))) y) refl (text_begun part links (suc (suc (suc (suc m)))) (behind_is part (suc (suc (suc (suc m)))) 4 m (omega arith) live)) (word_runs part words.Text links m (e ∷ bs) y runs))
item_runs opened part types.Link has links left m e bs y may size live mark runs =
    let is : left ≡ suc (suc (suc (suc m))) = omega (arith, size) in
    rw is (begins opened part links (suc (suc (suc m))) 108 words.Link (105 ∷ 110 ∷ 107 ∷ e ∷ bs) (with_types (listed (in_part part (Some types.Link))) y) refl (link_begun part links (suc (suc (suc (suc m)))) may (behind_is part (suc (suc (suc (suc m)))) 4 m (omega arith) live)) (word_runs part words.Link links m (e ∷ bs) y runs))
item_runs opened part (types.Row (pos n)) has links left m e bs y may size live mark runs =
    let p = and_parts (nat_le 1 n) (nat_le n 16) has in
    row_runs opened part n (leb-true 1 n p.0) (leb-true n 16 p.1) links left m e bs y may size live mark runs
item_runs opened part (types.Row (negsuc n)) has links left m e bs y may size live mark runs = absurd cc
