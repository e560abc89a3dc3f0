-- How the parser reads, step by step: a word of the grammar as a function of the tokens that are left. Private clauses alone cite it.
use Rattle.std.specs.Prelude.{◌≡◌, ◌≢◌, ℕ, ℤ, zero, suc, Bool, false, if◌then◌else◌, List, [], ◌∷◌, ◌++◌, length, drop, Result, Ok, Err}
use denote.Enum.Bare.{sameb}
use Rattle.lynx_lexer.specs.contracts.keyword.Keyword.{the_type as keyword_type}
use Rattle.lynx_lexer.specs.contracts.sign.Sign.{the_type as sign_type}
use Rattle.lynx_lexer.specs.declared.keyword.Keyword.{Keyword}
use Rattle.lynx_lexer.specs.declared.sign.Sign.{Sign}
use Rattle.lynx_lexer.specs.declared.sign.Sign.TheVariants as signs
use Rattle.lynx_lexer.specs.declared.token.Kind.{Kind}
use Rattle.lynx_lexer.specs.declared.token.Kind.TheVariants as kinds
use Rattle.lynx_descent.specs.declared.refusal.Refusal.{Refusal}
use Rattle.lynx_descent.specs.declared.refusal.Refusal.TheVariants as refusals
use Rattle.lynx_descent.specs.declared.ahead.Ahead.{Ahead}
use Rattle.lynx_descent.specs.declared.ahead.Ahead.TheVariants as next

-- what is read and the tokens behind it, or why reading stops
abbrev pub Parsed : Type 0 → Type 0
Parsed A = Result (A × List Kind) Refusal

abbrev pub Parser : Type 0 → Type 0
Parser A = List Kind → Parsed A

abbrev pub then_parse : {A B : Type 0} → Parsed A → (A → Parser B) → Parsed B
then_parse (Ok p) f = f p.0 p.1
then_parse (Err e) f = Err e

infixl 10 ◌>>=◌
abbrev pub ◌>>=◌ : {A B : Type 0} → Parser A → (A → Parser B) → Parser B
p >>= f = λ ts. then_parse (p ts) f

infixl 10 ◌>>◌
abbrev pub ◌>>◌ : {A B : Type 0} → Parser A → Parser B → Parser B
p >> q = p >>= (λ _. q)

abbrev pub pure : {A : Type 0} → A → Parser A
pure a = λ ts. Ok (a, ts)

infixr 11 ◌<$>◌
abbrev pub ◌<$>◌ : {A B : Type 0} → (A → B) → Parser A → Parser B
f <$> p = p >>= (λ x. pure (f x))

-- what a function that reads ensures: the parser's outcome, unless memory runs out
abbrev pub Reads : {A X : Type 0} → (X → A) → Parsed A → Result X Refusal → List Kind → Type 0
Reads f outcome (Ok x) new = outcome ≡ Ok (f x, new)
Reads f outcome (Err e) new = e ≢ refusals.NoMemory → outcome ≡ Err e

-- ---- the next token

unfoldable pub same_keyword : Keyword → Keyword → Bool
same_keyword = sameb keyword_type

unfoldable pub same_sign : Sign → Sign → Bool
same_sign = sameb sign_type

abbrev pub kind_ahead : Kind → Ahead
kind_ahead (kinds.Keyword k) = next.Keyword k
kind_ahead (kinds.Sign s) = next.Sign s
kind_ahead (kinds.Name n) = next.Name
kind_ahead (kinds.Number n) = next.Number
kind_ahead (kinds.Text inside) = next.Text

abbrev pub ahead : List Kind → Ahead
ahead [] = next.End
ahead (k ∷ ts) = kind_ahead k

abbrev pub is_keyword : Keyword → Ahead → Bool
is_keyword w (next.Keyword k) = same_keyword k w
is_keyword w (next.Sign s) = false
is_keyword w next.Name = false
is_keyword w next.Number = false
is_keyword w next.Text = false
is_keyword w next.End = false

abbrev pub is_sign : Sign → Ahead → Bool
is_sign s (next.Sign t) = same_sign t s
is_sign s (next.Keyword k) = false
is_sign s next.Name = false
is_sign s next.Number = false
is_sign s next.Text = false
is_sign s next.End = false

abbrev pub sees_keyword : Keyword → List Kind → Bool
sees_keyword w ts = is_keyword w (ahead ts)

abbrev pub sees_sign : Sign → List Kind → Bool
sees_sign s ts = is_sign s (ahead ts)

abbrev pub peek : Parser Ahead
peek = λ ts. Ok (ahead ts, ts)

-- ---- one token

abbrev pub refuse : {A : Type 0} → Parser A
refuse = λ ts. Err (refusals.At (length ts))

abbrev pub too_deep : {A : Type 0} → Parser A
too_deep = λ ts. Err (refusals.TooDeep (length ts))

abbrev pub advance : Parser (Unit {0})
advance = λ ts. Ok (tt, drop 1 ts)

unfoldable pub keyword : Keyword → Parser (Unit {0})
keyword w = λ ts. if sees_keyword w ts then Ok (tt, drop 1 ts) else Err (refusals.At (length ts))

unfoldable pub sign : Sign → Parser (Unit {0})
sign s = λ ts. if sees_sign s ts then Ok (tt, drop 1 ts) else Err (refusals.At (length ts))

abbrev pub name_in : Kind → List Kind → Parsed (List ℕ)
name_in (kinds.Name n) ts = Ok (n, ts)
name_in k ts = Err (refusals.At (length (k ∷ ts)))

unfoldable pub name : Parser (List ℕ)
name [] = Err (refusals.At 0)
name (k ∷ ts) = name_in k ts

abbrev pub number_in : Kind → List Kind → Parsed ℤ
number_in (kinds.Number n) ts = Ok (n, ts)
number_in k ts = Err (refusals.At (length (k ∷ ts)))

unfoldable pub number : Parser ℤ
number [] = Err (refusals.At 0)
number (k ∷ ts) = number_in k ts

abbrev pub text_in : Kind → List Kind → Parsed (List ℕ)
text_in (kinds.Text inside) ts = Ok (inside, ts)
text_in k ts = Err (refusals.At (length (k ∷ ts)))

unfoldable pub text : Parser (List ℕ)
text [] = Err (refusals.At 0)
text (k ∷ ts) = text_in k ts

-- ---- room for brackets and statements

-- a token that opens one, where so many more may be open; the room inside
unfoldable pub opened : ℕ → Parser ℕ
opened zero = too_deep
opened (suc room) = λ ts. Ok (room, drop 1 ts)

unfoldable pub bracket : ℕ → Parser ℕ
bracket room = λ ts. if sees_sign signs.Open ts then opened room ts else Err (refusals.At (length ts))

-- ---- lists. The number bounds the turns. Each turn takes a token, so that the count of tokens is enough.

unfoldable pub many_from : {A : Type 0} → (List Kind → Bool) → Parser A → ℕ → List A → Parser (List A)
many_from goes item zero found = pure found
many_from goes item (suc n) found = λ ts. if goes ts then (item >>= (λ x. many_from goes item n (found ++ x ∷ []))) ts else Ok (found, ts)

-- items, as long as the next token begins one
unfoldable pub many : {A : Type 0} → (List Kind → Bool) → Parser A → List A → Parser (List A)
many goes item found = λ ts. many_from goes item (length ts) found ts

-- a question about the next token
abbrev pub asks : (List Kind → Bool) → Parser Bool
asks p = λ ts. Ok (p ts, ts)
