-- No two keywords and no two signs are spelled alike, and how they begin.
use Rattle.std.proofs.Common.{◌≡◌, ℕ, true, cond, List, [], ◌∷◌, Option, Some, None, refl, sym, ap, ◌∙◌}
use Rattle.std.specs.Prelude.{codes}
use Rattle.std.specs.Str.{bytes_eq}
use Rattle.std.specs.List.{list_all}
use Rattle.lynx_lexer.specs.Bytes.{class_of}
use Rattle.lynx_lexer.specs.Words.{word_of, sign_of}
use Rattle.lynx_lexer.specs.Slots.{slot_of, keyword_at}
use Rattle.lynx_lexer.specs.Pieces.{is_name_byte}
use Rattle.lynx_lexer.specs.declared.class.Class.{Class}
use Rattle.lynx_lexer.specs.declared.class.Class.TheVariants.{Letter, Underscore, Other}
use Rattle.lynx_lexer.specs.declared.keyword.Keyword.{Keyword}
use Rattle.lynx_lexer.specs.declared.keyword.Keyword.TheVariants as keywords
use Rattle.lynx_lexer.specs.declared.sign.Sign.{Sign}
use Rattle.lynx_lexer.specs.declared.sign.Sign.TheVariants as signs

-- the class of the first byte
abbrev pub first_class : List ℕ → Class
first_class [] = Underscore
first_class (b ∷ bs) = class_of b

-- what stands behind the first byte
abbrev pub tail : List ℕ → List ℕ
tail [] = []
tail (b ∷ bs) = bs

-- the keyword that is spelled so is found at its slot
pub found_at : (k : Keyword) → keyword_at (slot_of (word_of k)) ≡ Some k
unfolding keyword_at
found_at keywords.Module = refl
found_at _ = refl

some_is : {A : Type 0} (x y : A) → Some x ≡ Some y → x ≡ y
some_is x y e = cc

pub same_word : (k l : Keyword) → word_of k ≡ word_of l → k ≡ l
same_word k l e = some_is k l (sym (found_at k) ∙ ap (λ (text : List ℕ). keyword_at (slot_of text)) e ∙ found_at l)

pub first_class-word_of : (keyword : Keyword) → first_class (word_of keyword) ≡ Letter
unfolding class_of
first_class-word_of keywords.Module = refl
first_class-word_of _ = refl

pub tail-word_of : (keyword : Keyword) → list_all is_name_byte (tail (word_of keyword)) ≡ true
unfolding class_of
tail-word_of keywords.Module = refl
tail-word_of _ = refl

-- the sign that is spelled so
abbrev sign_from : List ℕ → Option Sign
sign_from text =
    cond (bytes_eq text (codes ";")) (Some signs.Semicolon) (
    cond (bytes_eq text (codes ".")) (Some signs.Dot) (
    cond (bytes_eq text (codes "(")) (Some signs.Open) (
    cond (bytes_eq text (codes ")")) (Some signs.Close) (
    cond (bytes_eq text (codes ":")) (Some signs.Colon) (
    cond (bytes_eq text (codes ",")) (Some signs.Comma) (
    cond (bytes_eq text (codes "[")) (Some signs.OpenRow) (
    cond (bytes_eq text (codes "]")) (Some signs.CloseRow) (
    cond (bytes_eq text (codes ":=")) (Some signs.Becomes) (
    cond (bytes_eq text (codes "=")) (Some signs.Equal) (
    cond (bytes_eq text (codes "<>")) (Some signs.NotEqual) (
    cond (bytes_eq text (codes "<")) (Some signs.Less) (
    cond (bytes_eq text (codes "<=")) (Some signs.AtMost) (
    cond (bytes_eq text (codes ">")) (Some signs.Greater) (
    cond (bytes_eq text (codes ">=")) (Some signs.AtLeast) (
    cond (bytes_eq text (codes "+")) (Some signs.Plus) (
    cond (bytes_eq text (codes "-")) (Some signs.Minus) (
    cond (bytes_eq text (codes "*")) (Some signs.Times) (
    cond (bytes_eq text (codes "/")) (Some signs.Over) (
    None)))))))))))))))))))

sign_from-sign_of : (sign : Sign) → sign_from (sign_of sign) ≡ Some sign
sign_from-sign_of signs.Semicolon = refl
sign_from-sign_of _ = refl

pub same_sign : (s t : Sign) → sign_of s ≡ sign_of t → s ≡ t
same_sign s t e = some_is s t (sym (sign_from-sign_of s) ∙ ap sign_from e ∙ sign_from-sign_of t)

pub first_class-sign_of : (sign : Sign) → first_class (sign_of sign) ≡ Other
unfolding class_of
first_class-sign_of signs.Semicolon = refl
first_class-sign_of _ = refl
