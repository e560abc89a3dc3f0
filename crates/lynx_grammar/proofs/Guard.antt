-- What reading the tokens of a tree gives: the tree, unless one of them opens too much.
use Rattle.std.proofs.Common.{◌≡◌, ℕ, ◌<◌, ◌≤◌, nat_le, Bool, true, false, cond, List, [], ◌∷◌, ◌++◌, length, Ok, Err, refl, sym, ap, ◌∙◌, arith}
use Rattle.std.proofs.lemmas.Bool.Decides.{nat_tests}
use denote.Enum.Bare.{true_same}
use Rattle.lynx_lexer.specs.contracts.keyword.Keyword.{the_type as keyword_type}
use Rattle.lynx_lexer.specs.contracts.sign.Sign.{the_type as sign_type}
use Rattle.lynx_lexer.specs.declared.keyword.Keyword.{Keyword}
use Rattle.lynx_lexer.specs.declared.sign.Sign.{Sign}
use Rattle.lynx_lexer.specs.declared.token.Kind.{Kind}
use Rattle.lynx_lexer.specs.declared.token.Kind.TheVariants as kinds
use Rattle.lynx_descent.specs.declared.refusal.Refusal.TheVariants as refusals
use Rattle.lynx_tree.specs.Grammar.{Mark, word, mark}
use Rattle.lynx_tree.specs.Grammar as grammar
use Rattle.lynx_descent.specs.Reading.{Parser, Parsed, then_parse, ◌>>=◌, same_keyword, same_sign, keyword, sign, name}
use Rattle.lynx_descent.proofs.Told.{Within, kinds_in, kinds_append}

-- the outcome, unless one of these tokens opens too much
abbrev pub guard : {A : Type 0} → ℕ → List Mark → List Kind → Parsed A → Parsed A
guard n [] rest o = o
guard n (t ∷ ms) rest o = cond (nat_le t.depth n) (guard n ms rest o) (Err (refusals.TooDeep (length (t.kind ∷ (kinds_in ms ++ rest)))))

pub fits_true : (d n : ℕ) → d ≤ n → nat_le d n ≡ true
fits_true d n h = grind (arith, nat_tests)

fits_false : (d n : ℕ) → n < d → nat_le d n ≡ false
fits_false d n h = grind (arith, nat_tests)

true_fits : (d n : ℕ) → nat_le d n ≡ true → d ≤ n
true_fits d n h = grind (arith, nat_tests)

pub guard_append : {A : Type 0} (n : ℕ) (xs ys : List Mark) (rest : List Kind) (o : Parsed A) → guard n (xs ++ ys) rest o ≡ guard n xs (kinds_in ys ++ rest) (guard n ys rest o)
guard_append n [] ys rest o = refl
guard_append n (x ∷ xs) ys rest o =
    let same : kinds_in (xs ++ ys) ++ rest ≡ kinds_in xs ++ (kinds_in ys ++ rest) = sym (kinds_append xs ys rest) in
    λ i. cond (nat_le x.depth n) (guard_append n xs ys rest o i) (Err (refusals.TooDeep (length (x.kind ∷ same i))))

cond_then : {A B : Type 0} (b : Bool) (o : Parsed A) (k : ℕ) (f : A → Parser B) → then_parse (cond b o (Err (refusals.TooDeep k))) f ≡ cond b (then_parse o f) (Err (refusals.TooDeep k))
cond_then true o k f = refl
cond_then false o k f = refl

pub guard_then : {A B : Type 0} (n : ℕ) (ms : List Mark) (rest : List Kind) (o : Parsed A) (f : A → Parser B) → then_parse (guard n ms rest o) f ≡ guard n ms rest (then_parse o f)
guard_then n [] rest o f = refl
guard_then {B = B} n (t ∷ ms) rest o f =
    let k : ℕ = length (t.kind ∷ (kinds_in ms ++ rest)) in
    cond_then (nat_le t.depth n) (guard n ms rest o) k f ∙ ap (λ (x : Parsed B). cond (nat_le t.depth n) x (Err (refusals.TooDeep k))) (guard_then n ms rest o f)

cond_cong : {A : Type 0} (b : Bool) (x y z : A) → (b ≡ true → x ≡ y) → cond b x z ≡ cond b y z
cond_cong true x y z h = h refl
cond_cong false x y z h = refl

pub guard_cong : {A : Type 0} (n : ℕ) (ms : List Mark) (rest : List Kind) (o p : Parsed A) → (Within n ms → o ≡ p) → guard n ms rest o ≡ guard n ms rest p
guard_cong n [] rest o p h = h tt
guard_cong n (t ∷ ms) rest o p h =
    cond_cong (nat_le t.depth n) (guard n ms rest o) (guard n ms rest p) (Err (refusals.TooDeep (length (t.kind ∷ (kinds_in ms ++ rest)))))
    (λ fits. guard_cong n ms rest o p (λ within. h (true_fits t.depth n fits, within)))

-- the tokens of a value, with what can't go on with it behind them, are read as the value
abbrev pub Finds : {A : Type 0} → ℕ → (A → Type 0) → (A → List Mark) → (List Kind → Type 0) → Parser A → Type 0
Finds {A = A} n V w halts p = (a : A) → V a → (rest : List Kind) → halts rest → p (kinds_in (w a) ++ rest) ≡ guard n (w a) rest (Ok (a, rest))

pub find_next : {A B : Type 0} (n : ℕ) (V : A → Type 0) (w : A → List Mark) (halts : List Kind → Type 0) (p : Parser A) (f : A → Parser B) → Finds n V w halts p → (a : A) → V a → (ms : List Mark) (rest : List Kind) (o : Parsed B) → halts (kinds_in ms ++ rest)
    → (Within n (w a) → f a (kinds_in ms ++ rest) ≡ guard n ms rest o) → (p >>= f) (kinds_in (w a ++ ms) ++ rest) ≡ guard n (w a ++ ms) rest o
find_next {A = A} {B = B} n V w halts p f h a v ms rest o quiet on =
    let mid : List Kind = kinds_in ms ++ rest in
    let split : kinds_in (w a ++ ms) ++ rest ≡ kinds_in (w a) ++ mid = sym (kinds_append (w a) ms rest) in
    ap (λ (ks : List Kind). then_parse (p ks) f) split
    ∙ ap (λ (x : Parsed A). then_parse x f) (h a v mid quiet)
    ∙ guard_then n (w a) mid (Ok (a, mid)) f
    ∙ guard_cong n (w a) mid (f a mid) (guard n ms rest o) on
    ∙ sym (guard_append n (w a) ms rest o)

-- one token more
pub find_token : {A : Type 0} (n : ℕ) (t : Mark) (ms : List Mark) (rest : List Kind) (o x : Parsed A) → t.depth ≤ n → x ≡ guard n ms rest o → x ≡ guard n (t ∷ ms) rest o
find_token n t ms rest o x fits h =
    h ∙ sym (ap (λ (b : Bool). cond b (guard n ms rest o) (Err (refusals.TooDeep (length (t.kind ∷ (kinds_in ms ++ rest)))))) (fits_true t.depth n fits))

-- a token that opens too much
pub find_deep : {A : Type 0} (n : ℕ) (t : Mark) (ms : List Mark) (rest : List Kind) (o : Parsed A) → n < t.depth → Err (refusals.TooDeep (length (t.kind ∷ (kinds_in ms ++ rest)))) ≡ guard n (t ∷ ms) rest o
find_deep n t ms rest o deep =
    sym (ap (λ (b : Bool). cond b (guard n ms rest o) (Err (refusals.TooDeep (length (t.kind ∷ (kinds_in ms ++ rest)))))) (fits_false t.depth n deep))

pub same_keyword_refl : (w : Keyword) → same_keyword w w ≡ true
unfolding same_keyword
same_keyword_refl w = true_same keyword_type w w refl

pub same_sign_refl : (s : Sign) → same_sign s s ≡ true
unfolding same_sign
same_sign_refl s = true_same sign_type s s refl

pub find_keyword : {A : Type 0} (n d : ℕ) (w : Keyword) (f : Unit {0} → Parser A) (ms : List Mark) (rest : List Kind) (o : Parsed A) → d ≤ n → f tt (kinds_in ms ++ rest) ≡ guard n ms rest o
    → (keyword w >>= f) (kinds_in (word d w ∷ ms) ++ rest) ≡ guard n (word d w ∷ ms) rest o
unfolding keyword
find_keyword n d w f ms rest o fits h =
    let mid : List Kind = kinds_in ms ++ rest in
    find_token n (word d w) ms rest o _ fits (ap (λ (b : Bool). then_parse (cond b (Ok (tt, mid)) (Err (refusals.At (length (kinds.Keyword w ∷ mid))))) f) (same_keyword_refl w) ∙ h)

pub find_sign : {A : Type 0} (n d : ℕ) (s : Sign) (f : Unit {0} → Parser A) (ms : List Mark) (rest : List Kind) (o : Parsed A) → d ≤ n → f tt (kinds_in ms ++ rest) ≡ guard n ms rest o
    → (sign s >>= f) (kinds_in (mark d s ∷ ms) ++ rest) ≡ guard n (mark d s ∷ ms) rest o
unfolding sign
find_sign n d s f ms rest o fits h =
    let mid : List Kind = kinds_in ms ++ rest in
    find_token n (mark d s) ms rest o _ fits (ap (λ (b : Bool). then_parse (cond b (Ok (tt, mid)) (Err (refusals.At (length (kinds.Sign s ∷ mid))))) f) (same_sign_refl s) ∙ h)

pub find_name : {A : Type 0} (n d : ℕ) (m : List ℕ) (f : List ℕ → Parser A) (ms : List Mark) (rest : List Kind) (o : Parsed A) → d ≤ n → f m (kinds_in ms ++ rest) ≡ guard n ms rest o
    → (name >>= f) (kinds_in (grammar.name d m ∷ ms) ++ rest) ≡ guard n (grammar.name d m ∷ ms) rest o
unfolding name
find_name n d m f ms rest o fits h = find_token n (grammar.name d m) ms rest o _ fits h
