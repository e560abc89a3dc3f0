-- Reading up to a token asks nothing of the tokens behind it.
use Rattle.std.proofs.Common.{◌≡◌, ℕ, zero, suc, ◌+◌, ◌≤◌, Bool, true, false, cond, List, [], ◌∷◌, ◌++◌, length, drop, Ok, Err, refl, sym, ap, subst, ◌∙◌, arith, length-append}
use Rattle.std.specs.Prelude.{⊤}
use Rattle.std.proofs.lemmas.Bool.{false≢true}
use Rattle.lynx_lexer.specs.declared.token.Kind.{Kind}
use Rattle.lynx_descent.specs.declared.refusal.Refusal.TheVariants as refusals
use Rattle.lynx_descent.specs.declared.ahead.Ahead.{Ahead}
use Rattle.lynx_descent.specs.Reading.{Parser, Parsed, then_parse, ◌>>=◌, pure, refuse, too_deep, advance, peek, ahead, many, many_from}

-- at most so many tokens are left where reading ends
abbrev pub Leaves : {A : Type 0} → ℕ → Parsed A → Type 0
Leaves n (Ok p) = length p.1 ≤ n
Leaves n (Err (refusals.At k)) = k ≤ n
Leaves n (Err (refusals.TooDeep k)) = k ≤ n
Leaves n (Err refusals.NoMemory) = ⊤

-- the outcome with these tokens behind those that are left
abbrev pub in_front_of : {A : Type 0} → List Kind → Parsed A → Parsed A
in_front_of ts (Ok p) = Ok (p.0, p.1 ++ ts)
in_front_of ts (Err (refusals.At k)) = Err (refusals.At (k + length ts))
in_front_of ts (Err (refusals.TooDeep k)) = Err (refusals.TooDeep (k + length ts))
in_front_of ts (Err refusals.NoMemory) = Err refusals.NoMemory

-- what lies behind the token `c` differs: reading ends in front of it, and the same way, or behind it
pub data Agree {A : Type 0} (c : Kind) (y z : List Kind) (o q : Parsed A) : Type 0 where
  near : (s : Parsed A) → o ≡ in_front_of (c ∷ y) s → q ≡ in_front_of (c ∷ z) s → Agree c y z o q
  past : Leaves (length y) o → Leaves (length z) q → Agree c y z o q

pub record Local {A : Type 0} (p : Parser A) : Type 0 where
  pub leaves : (ts : List Kind) → Leaves (length ts) (p ts)
  pub agrees : (c : Kind) (x y z : List Kind) → Agree c y z (p (x ++ c ∷ y)) (p (x ++ c ∷ z))

-- ---- joining

leaves_more : {A : Type 0} (n m : ℕ) (o : Parsed A) → n ≤ m → Leaves n o → Leaves m o
leaves_more n m (Ok p) le h = omega (arith, le, h)
leaves_more n m (Err (refusals.At k)) le h = omega (arith, le, h)
leaves_more n m (Err (refusals.TooDeep k)) le h = omega (arith, le, h)
leaves_more n m (Err refusals.NoMemory) le h = tt

bind_leaves : {A B : Type 0} (n : ℕ) (o : Parsed A) (f : A → Parser B) → Leaves n o → ((a : A) (ts : List Kind) → Leaves (length ts) (f a ts)) → Leaves n (then_parse o f)
bind_leaves n (Ok p) f h g = leaves_more (length p.1) n (f p.0 p.1) h (g p.0 p.1)
bind_leaves n (Err (refusals.At k)) f h g = h
bind_leaves n (Err (refusals.TooDeep k)) f h g = h
bind_leaves n (Err refusals.NoMemory) f h g = h

near_then : {A B : Type 0} (c : Kind) (y z : List Kind) (s : Parsed A) (f g : A → Parser B)
    → ((a : A) (x : List Kind) → in_front_of (c ∷ y) s ≡ Ok (a, x ++ c ∷ y) → in_front_of (c ∷ z) s ≡ Ok (a, x ++ c ∷ z) → Agree c y z (f a (x ++ c ∷ y)) (g a (x ++ c ∷ z)))
    → Agree c y z (then_parse (in_front_of (c ∷ y) s) f) (then_parse (in_front_of (c ∷ z) s) g)
near_then c y z (Ok p) f g on = on p.0 p.1 refl refl
near_then c y z (Err (refusals.At k)) f g on = near (Err (refusals.At k)) refl refl
near_then c y z (Err (refusals.TooDeep k)) f g on = near (Err (refusals.TooDeep k)) refl refl
near_then c y z (Err refusals.NoMemory) f g on = near (Err refusals.NoMemory) refl refl

bind_agrees : {A B : Type 0} (c : Kind) (y z : List Kind) (o q : Parsed A) (f g : A → Parser B) → Agree c y z o q
    → ((a : A) (x : List Kind) → o ≡ Ok (a, x ++ c ∷ y) → q ≡ Ok (a, x ++ c ∷ z) → Agree c y z (f a (x ++ c ∷ y)) (g a (x ++ c ∷ z)))
    → ((a : A) (ts : List Kind) → Leaves (length ts) (f a ts)) → ((a : A) (ts : List Kind) → Leaves (length ts) (g a ts)) → Agree c y z (then_parse o f) (then_parse q g)
bind_agrees {A = A} c y z o q f g (near s e d) on lf lg =
    subst (λ (w : Parsed A). Agree c y z (then_parse w f) (then_parse q g)) (sym e)
    (subst (λ (w : Parsed A). Agree c y z (then_parse (in_front_of (c ∷ y) s) f) (then_parse w g)) (sym d) (near_then c y z s f g (λ a x u v. on a x (e ∙ u) (d ∙ v))))
bind_agrees c y z o q f g (past u v) on lf lg = past (bind_leaves (length y) o f u lf) (bind_leaves (length z) q g v lg)

pub bind : {A B : Type 0} {p : Parser A} {f : A → Parser B} → Local p → ((a : A) → Local (f a)) → Local (p >>= f)
bind {p = p} {f = f} h g = record {
  leaves = λ ts. bind_leaves (length ts) (p ts) f (h.leaves ts) (λ a us. (g a).leaves us);
  agrees = λ c x y z. bind_agrees c y z (p (x ++ c ∷ y)) (p (x ++ c ∷ z)) f f (h.agrees c x y z) (λ a w e d. (g a).agrees c w y z) (λ a us. (g a).leaves us) (λ a us. (g a).leaves us);
}

pub done : {A : Type 0} (a : A) → Local (pure a)
done a = record { leaves = λ ts. omega arith; agrees = λ c x y z. near (Ok (a, x)) refl refl }

pub local_if : {A : Type 0} {p q : Parser A} (b : Bool) → Local p → Local q → Local (cond b p q)
local_if true h g = h
local_if false h g = g

-- ---- the next token

-- the answer depends on the next token alone
pub record Looks {B : Type 0} (g : List Kind → B) : Type 0 where
  pub same : (c : Kind) (x y z : List Kind) → g (x ++ c ∷ y) ≡ g (x ++ c ∷ z)

ahead_same : (c : Kind) (x y z : List Kind) → ahead (x ++ c ∷ y) ≡ ahead (x ++ c ∷ z)
ahead_same c [] y z = refl
ahead_same c (k ∷ x) y z = refl

pub looks_ahead : {B : Type 0} (f : Ahead → B) → Looks (λ ts. f (ahead ts))
looks_ahead f = record { same = λ c x y z. ap f (ahead_same c x y z) }

pub local_asks : {B : Type 0} (g : List Kind → B) → Looks g → Local (λ ts. Ok (g ts, ts))
local_asks g h = record {
  leaves = λ ts. omega arith;
  agrees = λ c x y z. near (Ok (g (x ++ c ∷ y), x)) refl (ap (λ b. Ok (b, x ++ c ∷ z)) (sym (h.same c x y z)));
}

pub local_peek : Local peek
local_peek = local_asks ahead (looks_ahead (λ a. a))

pub local_refuse : {A : Type 0} → Local {A = A} refuse
local_refuse = record {
  leaves = λ ts. omega arith;
  agrees = λ c x y z. near (Err (refusals.At (length x))) (ap (λ n. Err (refusals.At n)) (length-append x (c ∷ y))) (ap (λ n. Err (refusals.At n)) (length-append x (c ∷ z)));
}

pub local_too_deep : {A : Type 0} → Local {A = A} too_deep
local_too_deep = record {
  leaves = λ ts. omega arith;
  agrees = λ c x y z. near (Err (refusals.TooDeep (length x))) (ap (λ n. Err (refusals.TooDeep n)) (length-append x (c ∷ y))) (ap (λ n. Err (refusals.TooDeep n)) (length-append x (c ∷ z)));
}

-- one token is taken, whatever it is
pub local_taken : {A : Type 0} (a : A) → Local (λ ts. Ok (a, drop 1 ts))
local_taken {A = A} a = record { leaves = less; agrees = both }
  where
    less : (ts : List Kind) → length (drop 1 ts) ≤ length ts
    less [] = omega arith
    less (k ∷ ts) = omega arith

    both : (c : Kind) (x y z : List Kind) → Agree {A = A} c y z (Ok (a, drop 1 (x ++ c ∷ y))) (Ok (a, drop 1 (x ++ c ∷ z)))
    both c [] y z = past (omega arith) (omega arith)
    both c (k ∷ x) y z = near (Ok (a, x)) refl refl

pub local_advance : Local advance
local_advance = local_taken tt

cond_leaves : {A : Type 0} (n : ℕ) (b : Bool) (o q : Parsed A) → Leaves n o → Leaves n q → Leaves n (cond b o q)
cond_leaves n true o q h g = h
cond_leaves n false o q h g = g

cond_agrees : {A : Type 0} (c : Kind) (y z : List Kind) (b d : Bool) (o q u v : Parsed A) → b ≡ d → Agree c y z o q → Agree c y z u v → Agree c y z (cond b o u) (cond d q v)
cond_agrees c y z true true o q u v e h g = h
cond_agrees c y z false false o q u v e h g = g
cond_agrees c y z true false o q u v e h g = absurd (false≢true (sym e))
cond_agrees c y z false true o q u v e h g = absurd (false≢true e)

pub local_choice : {A : Type 0} {p q : Parser A} (g : List Kind → Bool) → Looks g → Local p → Local q → Local (λ ts. cond (g ts) (p ts) (q ts))
local_choice {p = p} {q = q} g looks h k = record {
  leaves = λ ts. cond_leaves (length ts) (g ts) (p ts) (q ts) (h.leaves ts) (k.leaves ts);
  agrees = λ c x y z. cond_agrees c y z (g (x ++ c ∷ y)) (g (x ++ c ∷ z)) (p (x ++ c ∷ y)) (p (x ++ c ∷ z)) (q (x ++ c ∷ y)) (q (x ++ c ∷ z)) (looks.same c x y z) (h.agrees c x y z) (k.agrees c x y z);
}

-- ---- many

-- where an item has been read, at most so many tokens are left
abbrev pub Short : {A : Type 0} → ℕ → Parsed A → Type 0
Short n (Ok p) = length p.1 ≤ n
Short n (Err e) = ⊤

-- a value takes a token
pub record Eats {A : Type 0} (p : Parser A) : Type 0 where
  pub short : (k : Kind) (ts : List Kind) → Short (length ts) (p (k ∷ ts))

leaves_short : {A : Type 0} (n : ℕ) (o : Parsed A) → Leaves n o → Short n o
leaves_short n (Ok p) h = h
leaves_short n (Err e) h = tt

short_then : {A B : Type 0} (n : ℕ) (o : Parsed A) (f : A → Parser B) → Short n o → ((a : A) (ts : List Kind) → Leaves (length ts) (f a ts)) → Short n (then_parse o f)
short_then n (Ok p) f h g = leaves_short n (f p.0 p.1) (leaves_more (length p.1) n (f p.0 p.1) h (g p.0 p.1))
short_then n (Err e) f h g = tt

pub eats_then : {A B : Type 0} {p : Parser A} {f : A → Parser B} → Eats p → ((a : A) → Local (f a)) → Eats (p >>= f)
eats_then {p = p} {f = f} h g = record { short = λ k ts. short_then (length ts) (p (k ∷ ts)) f (h.short k ts) (λ a us. (g a).leaves us) }

pub eats_advance : Eats advance
eats_advance = record { short = λ k ts. omega arith }

shorter : {A : Type 0} (m n : ℕ) (o : Parsed A) → m ≤ n → Short m o → Short n o
shorter m n (Ok p) le h = omega (arith, le, h)
shorter m n (Err e) le h = tt

eats_at : {A : Type 0} (p : Parser A) → Eats p → (n : ℕ) (x : List Kind) (c : Kind) (y : List Kind) → length (x ++ c ∷ y) ≤ suc n → Short n (p (x ++ c ∷ y))
eats_at p h n [] c y le = shorter (length y) n (p (c ∷ y)) (omega (arith, le)) (h.short c y)
eats_at p h n (k ∷ x) c y le = shorter (length (x ++ c ∷ y)) n (p (k ∷ (x ++ c ∷ y))) (omega (arith, le)) (h.short k (x ++ c ∷ y))

many_leaves : {A : Type 0} (goes : List Kind → Bool) (item : Parser A) → Local item → (n : ℕ) (found : List A) (ts : List Kind) → Leaves (length ts) (many_from goes item n found ts)
unfolding many_from
many_leaves goes item h zero found ts = omega arith
many_leaves goes item h (suc n) found ts =
    cond_leaves (length ts) (goes ts) (then_parse (item ts) (λ x. many_from goes item n (found ++ x ∷ []))) (Ok (found, ts))
    (bind_leaves (length ts) (item ts) (λ x. many_from goes item n (found ++ x ∷ [])) (h.leaves ts) (λ x us. many_leaves goes item h n (found ++ x ∷ []) us)) (omega arith)

some_left : (c : Kind) (x y : List Kind) → 1 ≤ length (x ++ c ∷ y)
some_left c x y = omega (arith, length-append x (c ∷ y))

many_agrees : {A : Type 0} (goes : List Kind → Bool) (item : Parser A) → Looks goes → Local item → Eats item → (n m : ℕ) (found : List A) (c : Kind) (x y z : List Kind) → length (x ++ c ∷ y) ≤ n → length (x ++ c ∷ z) ≤ m
    → Agree c y z (many_from goes item n found (x ++ c ∷ y)) (many_from goes item m found (x ++ c ∷ z))
unfolding many_from
many_agrees goes item looks h eats zero m found c x y z le lm = absurd (omega (arith, le, some_left c x y))
many_agrees goes item looks h eats (suc n) zero found c x y z le lm = absurd (omega (arith, lm, some_left c x z))
many_agrees goes item looks h eats (suc n) (suc m) found c x y z le lm =
    cond_agrees c y z (goes (x ++ c ∷ y)) (goes (x ++ c ∷ z)) (then_parse (item (x ++ c ∷ y)) (λ v. many_from goes item n (found ++ v ∷ []))) (then_parse (item (x ++ c ∷ z)) (λ v. many_from goes item m (found ++ v ∷ []))) (Ok (found, x ++ c ∷ y)) (Ok (found, x ++ c ∷ z)) (looks.same c x y z)
    (bind_agrees c y z (item (x ++ c ∷ y)) (item (x ++ c ∷ z)) (λ v. many_from goes item n (found ++ v ∷ [])) (λ v. many_from goes item m (found ++ v ∷ [])) (h.agrees c x y z)
    (λ v w e d. many_agrees goes item looks h eats n m (found ++ v ∷ []) c w y z (subst (Short n) e (eats_at item eats n x c y le)) (subst (Short m) d (eats_at item eats m x c z lm)))
    (λ v us. many_leaves goes item h n (found ++ v ∷ []) us) (λ v us. many_leaves goes item h m (found ++ v ∷ []) us))
    (near (Ok (found, x)) refl refl)

pub local_many : {A : Type 0} {goes : List Kind → Bool} {item : Parser A} (found : List A) → Looks goes → Local item → Eats item → Local (many goes item found)
unfolding many
local_many {goes = goes} {item = item} found looks h eats = record {
  leaves = λ ts. many_leaves goes item h (length ts) found ts;
  agrees = λ c x y z. many_agrees goes item looks h eats (length (x ++ c ∷ y)) (length (x ++ c ∷ z)) found c x y z (omega arith) (omega arith);
}
