-- Reading single tokens asks nothing of the tokens behind them.
use Rattle.std.proofs.Common.{ℕ, zero, suc, List, [], ◌∷◌, ◌++◌, length, Ok, Err, refl, ap, arith, length-append}
use Rattle.lynx_lexer.specs.declared.keyword.Keyword.{Keyword}
use Rattle.lynx_lexer.specs.declared.sign.Sign.{Sign}
use Rattle.lynx_lexer.specs.declared.sign.Sign.TheVariants as signs
use Rattle.lynx_lexer.specs.declared.token.Kind.{Kind}
use Rattle.lynx_lexer.specs.declared.token.Kind.TheVariants as kinds
use Rattle.lynx_descent.specs.declared.refusal.Refusal.TheVariants as refusals
use Rattle.lynx_descent.specs.Reading.{Parsed, is_keyword, is_sign, sees_keyword, sees_sign, keyword, sign, name_in, name, number_in, number, text_in, text, opened, bracket}
use Rattle.lynx_grammar.proofs.Locality.{Leaves, Agree, near, past, Local, Looks, Short, Eats, looks_ahead, local_refuse, local_too_deep, local_taken, local_choice}

pub looks_keyword : (w : Keyword) → Looks (sees_keyword w)
looks_keyword w = looks_ahead (is_keyword w)

pub looks_sign : (s : Sign) → Looks (sees_sign s)
looks_sign s = looks_ahead (is_sign s)

pub local_keyword : (w : Keyword) → Local (keyword w)
unfolding keyword
local_keyword w = local_choice (sees_keyword w) (looks_keyword w) (local_taken tt) local_refuse

pub local_sign : (s : Sign) → Local (sign s)
unfolding sign
local_sign s = local_choice (sees_sign s) (looks_sign s) (local_taken tt) local_refuse

-- ---- names, numbers and texts: a token is taken for what it holds, or refused

-- at one token, whatever stands behind it
record Takes {A : Type 0} (k : Kind) (f : List Kind → Parsed A) : Type 0 where
  pub leaves : (ts : List Kind) → Leaves (suc (length ts)) (f ts)
  pub first : (y z : List Kind) → Agree k y z (f y) (f z)
  pub later : (c : Kind) (x y z : List Kind) → Agree c y z (f (x ++ c ∷ y)) (f (x ++ c ∷ z))

takes : {A : Type 0} (k : Kind) (a : A) → Takes k (λ ts. Ok (a, ts))
takes k a = record { leaves = λ ts. omega arith; first = λ y z. past (omega arith) (omega arith); later = λ c x y z. near (Ok (a, x)) refl refl }

refuses : {A : Type 0} (k : Kind) → Takes {A = A} k (λ ts. Err (refusals.At (length (k ∷ ts))))
refuses k = record {
  leaves = λ ts. omega arith;
  first = λ y z. near (Err (refusals.At 0)) (ap (λ n. Err (refusals.At n)) (length-append [] (k ∷ y))) (ap (λ n. Err (refusals.At n)) (length-append [] (k ∷ z)));
  later = λ c x y z. near (Err (refusals.At (length (k ∷ x)))) (ap (λ n. Err (refusals.At n)) (length-append (k ∷ x) (c ∷ y))) (ap (λ n. Err (refusals.At n)) (length-append (k ∷ x) (c ∷ z)));
}

takes_name : (k : Kind) → Takes k (name_in k)
takes_name (kinds.Name m) = takes (kinds.Name m) m
takes_name (kinds.Keyword m) = refuses (kinds.Keyword m)
takes_name (kinds.Sign m) = refuses (kinds.Sign m)
takes_name (kinds.Number m) = refuses (kinds.Number m)
takes_name (kinds.Text m) = refuses (kinds.Text m)

takes_number : (k : Kind) → Takes k (number_in k)
takes_number (kinds.Number m) = takes (kinds.Number m) m
takes_number (kinds.Keyword m) = refuses (kinds.Keyword m)
takes_number (kinds.Sign m) = refuses (kinds.Sign m)
takes_number (kinds.Name m) = refuses (kinds.Name m)
takes_number (kinds.Text m) = refuses (kinds.Text m)

takes_text : (k : Kind) → Takes k (text_in k)
takes_text (kinds.Text m) = takes (kinds.Text m) m
takes_text (kinds.Keyword m) = refuses (kinds.Keyword m)
takes_text (kinds.Sign m) = refuses (kinds.Sign m)
takes_text (kinds.Number m) = refuses (kinds.Number m)
takes_text (kinds.Name m) = refuses (kinds.Name m)

pub local_name : Local name
unfolding name
local_name = record { leaves = less; agrees = both }
  where
    less : (ts : List Kind) → Leaves (length ts) (name ts)
    less [] = omega arith
    less (k ∷ ts) = (takes_name k).leaves ts

    both : (c : Kind) (x y z : List Kind) → Agree c y z (name (x ++ c ∷ y)) (name (x ++ c ∷ z))
    both c [] y z = (takes_name c).first y z
    both c (k ∷ x) y z = (takes_name k).later c x y z

pub eats_name : Eats name
unfolding name
eats_name = record { short = at }
  where
    at : (k : Kind) (ts : List Kind) → Short (length ts) (name_in k ts)
    at (kinds.Name m) ts = omega arith
    at _ ts = tt

pub local_number : Local number
unfolding number
local_number = record { leaves = less; agrees = both }
  where
    less : (ts : List Kind) → Leaves (length ts) (number ts)
    less [] = omega arith
    less (k ∷ ts) = (takes_number k).leaves ts

    both : (c : Kind) (x y z : List Kind) → Agree c y z (number (x ++ c ∷ y)) (number (x ++ c ∷ z))
    both c [] y z = (takes_number c).first y z
    both c (k ∷ x) y z = (takes_number k).later c x y z

pub local_text : Local text
unfolding text
local_text = record { leaves = less; agrees = both }
  where
    less : (ts : List Kind) → Leaves (length ts) (text ts)
    less [] = omega arith
    less (k ∷ ts) = (takes_text k).leaves ts

    both : (c : Kind) (x y z : List Kind) → Agree c y z (text (x ++ c ∷ y)) (text (x ++ c ∷ z))
    both c [] y z = (takes_text c).first y z
    both c (k ∷ x) y z = (takes_text k).later c x y z

-- ---- brackets

local_opened : (room : ℕ) → Local (opened room)
unfolding opened
local_opened zero = local_too_deep
local_opened (suc room) = local_taken room

pub local_bracket : (room : ℕ) → Local (bracket room)
unfolding bracket
local_bracket room = local_choice (sees_sign signs.Open) (looks_sign signs.Open) (local_opened room) local_refuse
