-- What follows the first byte of a piece.
use Rattle.std.proofs.Common.{◌≡◌, ℕ, Bool, true, false, List, [], ◌∷◌, ◌++◌, Option, Some, None, ◌&&◌, eqb, get_or, refl, sym, ap, ◌∙◌, inl, inr}
use Rattle.std.specs.List.{list_all}
use Rattle.lynx_lexer.specs.Bytes.{class_of}
use Rattle.lynx_lexer.specs.Words.{sign_of}
use Rattle.lynx_lexer.specs.Pieces.{IsPiece, IsToken, is_name_byte, is_digit, is_text_byte, is_comment_byte}
use Rattle.lynx_lexer.specs.declared.class.Class.{Class}
use Rattle.lynx_lexer.specs.declared.class.Class.TheVariants.{Blank, Letter, Digit, Underscore, Quote, Other}
use Rattle.lynx_lexer.specs.declared.sign.Sign.{Sign}
use Rattle.lynx_lexer.specs.declared.sign.Sign.TheVariants as signs
use Rattle.lynx_lexer.specs.declared.token.Kind.{Kind}
use Rattle.lynx_lexer.specs.declared.token.Kind.TheVariants as kinds
use Rattle.lynx_lexer.proofs.WordLemmas.{first_class, tail, first_class-word_of, tail-word_of, first_class-sign_of, same_word, same_sign}
use Rattle.std.proofs.lemmas.List.{append_cancel_right}
use Rattle.std.proofs.lemmas.Bool.{false≢true}

pub data Shape (b : ℕ) (bs : List ℕ) : Type 0 where
  blank : class_of b ≡ Blank → bs ≡ [] → Shape b bs
  comment : (line : List ℕ) → class_of b ≡ Other → b ≡ 45 → bs ≡ 45 ∷ line → list_all is_comment_byte line ≡ true → Shape b bs
  word : class_of b ≡ Letter → list_all is_name_byte bs ≡ true → Shape b bs
  number : class_of b ≡ Digit → list_all is_digit bs ≡ true → Shape b bs
  quoted : (inside : List ℕ) → class_of b ≡ Quote → list_all is_text_byte inside ≡ true → bs ≡ inside ++ 39 ∷ [] → Shape b bs
  sign : (s : Sign) → class_of b ≡ Other → b ∷ bs ≡ sign_of s → Shape b bs

pub class_of_dash : class_of 45 ≡ Other
unfolding class_of
class_of_dash = refl

pub class_of_quote : class_of 39 ≡ Quote
unfolding class_of
class_of_quote = refl

shape_of_token : (kind : Kind) (b : ℕ) (bs : List ℕ) → IsToken kind (b ∷ bs) → Shape b bs
shape_of_token (kinds.Keyword keyword) b bs h =
    word (ap first_class h ∙ first_class-word_of keyword) (ap (λ (text : List ℕ). list_all is_name_byte (tail text)) h ∙ tail-word_of keyword)
shape_of_token (kinds.Sign s) b bs h = sign s (ap first_class h ∙ first_class-sign_of s) h
shape_of_token (kinds.Name name) b bs h =
    word (ap first_class h.1.4 ∙ h.1.2) (ap (λ (text : List ℕ). list_all is_name_byte (tail text)) h.1.4 ∙ h.1.3)
shape_of_token (kinds.Number n) b bs h =
    number (ap first_class h.0.4 ∙ h.0.2) (ap (λ (text : List ℕ). list_all is_digit (tail text)) h.0.4 ∙ h.0.3)
shape_of_token (kinds.Text inside) b bs h = quoted inside (ap first_class h.1 ∙ class_of_quote) h.0 (ap tail h.1)

pub shape : (piece : Option Kind) (b : ℕ) (bs : List ℕ) → IsPiece piece (b ∷ bs) → Shape b bs
shape None b bs h =
    elim h [
      | inl one ↦ blank (ap first_class one.2 ∙ one.1) (ap tail one.2)
      | inr many ↦ comment many.0 (ap first_class many.2 ∙ class_of_dash) (cc) (ap tail many.2) many.1
    ]
shape (Some kind) b bs h = shape_of_token kind b bs h

-- the class of the first byte of a token
class_of_kind : Kind → Class
class_of_kind (kinds.Keyword keyword) = Letter
class_of_kind (kinds.Sign s) = Other
class_of_kind (kinds.Name name) = Letter
class_of_kind (kinds.Number n) = Digit
class_of_kind (kinds.Text inside) = Quote

first_class_of_token : (kind : Kind) (text : List ℕ) → IsToken kind text → first_class text ≡ class_of_kind kind
unfolding class_of_kind
first_class_of_token (kinds.Keyword keyword) text h = ap first_class h ∙ first_class-word_of keyword
first_class_of_token (kinds.Sign s) text h = ap first_class h ∙ first_class-sign_of s
first_class_of_token (kinds.Name name) text h = ap first_class h.1.4 ∙ h.1.2
first_class_of_token (kinds.Number n) text h = ap first_class h.0.4 ∙ h.0.2
first_class_of_token (kinds.Text inside) text h = ap first_class h.1 ∙ class_of_quote

some_class : (kind : Kind) → Underscore ≡ class_of_kind kind → ⊥
unfolding class_of_kind
some_class (kinds.Keyword keyword) e = cc
some_class (kinds.Sign s) e = cc
some_class (kinds.Name name) e = cc
some_class (kinds.Number n) e = cc
some_class (kinds.Text inside) e = cc

-- no piece is empty
pub some_byte : (piece : Option Kind) → IsPiece piece [] → ⊥
some_byte None h = elim h [ inl one ↦ (let e = one.2 in cc) | inr many ↦ (let e = many.2 in cc) ]
some_byte (Some kind) h = some_class kind (first_class_of_token kind [] h)

-- ---- what the bytes are fixes the kind

same_text : (a b : List ℕ) → 39 ∷ a ++ 39 ∷ [] ≡ 39 ∷ b ++ 39 ∷ [] → a ≡ b
same_text a b e = append_cancel_right a b (39 ∷ []) (ap tail e)

one_kind : (k l : Kind) (text : List ℕ) → IsToken k text → IsToken l text → class_of_kind k ≡ class_of_kind l → k ≡ l
unfolding class_of_kind
one_kind (kinds.Keyword k) (kinds.Keyword l) text h g e = ap kinds.Keyword (same_word k l (sym h ∙ g))
one_kind (kinds.Keyword k) (kinds.Name l) text h g e = absurd (g.2 k h)
one_kind (kinds.Keyword k) (kinds.Sign l) text h g e = absurd cc
one_kind (kinds.Keyword k) (kinds.Number l) text h g e = absurd cc
one_kind (kinds.Keyword k) (kinds.Text l) text h g e = absurd cc
one_kind (kinds.Sign k) (kinds.Keyword l) text h g e = absurd cc
one_kind (kinds.Sign k) (kinds.Name l) text h g e = absurd cc
one_kind (kinds.Sign k) (kinds.Sign l) text h g e = ap kinds.Sign (same_sign k l (sym h ∙ g))
one_kind (kinds.Sign k) (kinds.Number l) text h g e = absurd cc
one_kind (kinds.Sign k) (kinds.Text l) text h g e = absurd cc
one_kind (kinds.Name k) (kinds.Keyword l) text h g e = absurd (h.2 l g)
one_kind (kinds.Name k) (kinds.Name l) text h g e = ap kinds.Name (h.0 ∙ sym g.0)
one_kind (kinds.Name k) (kinds.Sign l) text h g e = absurd cc
one_kind (kinds.Name k) (kinds.Number l) text h g e = absurd cc
one_kind (kinds.Name k) (kinds.Text l) text h g e = absurd cc
one_kind (kinds.Number k) (kinds.Keyword l) text h g e = absurd cc
one_kind (kinds.Number k) (kinds.Name l) text h g e = absurd cc
one_kind (kinds.Number k) (kinds.Sign l) text h g e = absurd cc
one_kind (kinds.Number k) (kinds.Number l) text h g e = ap kinds.Number (h.1 ∙ sym g.1)
one_kind (kinds.Number k) (kinds.Text l) text h g e = absurd cc
one_kind (kinds.Text k) (kinds.Keyword l) text h g e = absurd cc
one_kind (kinds.Text k) (kinds.Name l) text h g e = absurd cc
one_kind (kinds.Text k) (kinds.Sign l) text h g e = absurd cc
one_kind (kinds.Text k) (kinds.Number l) text h g e = absurd cc
one_kind (kinds.Text k) (kinds.Text l) text h g e = ap kinds.Text (same_text k l (sym h.1 ∙ g.1))

begins_comment : List ℕ → Bool
begins_comment bytes = eqb (get_or bytes 0 0) 45 && eqb (get_or bytes 1 0) 45

-- no sign begins as a comment does
no_comment : (s : Sign) → begins_comment (sign_of s) ≡ false
unfolding begins_comment
no_comment signs.Minus = refl
no_comment _ = refl

second_of_sign : (s : Sign) (line : List ℕ) → sign_of s ≡ 45 ∷ 45 ∷ line → ⊥
unfolding begins_comment
second_of_sign s line e = false≢true (sym (no_comment s) ∙ ap begins_comment e)

-- no separator spells a token
apart : (kind : Kind) (text : List ℕ) → IsToken kind text → IsPiece None text → ⊥
unfolding class_of_kind
apart kind text h g =
    elim g [
      | inl one ↦ not_blank kind (sym (ap first_class one.2 ∙ one.1) ∙ first_class_of_token kind text h)
      | inr many ↦ not_comment kind text many.0 h many.2 (sym (ap first_class many.2 ∙ class_of_dash) ∙ first_class_of_token kind text h)
    ]
  where
    not_blank : (kind : Kind) → Blank ≡ class_of_kind kind → ⊥
    not_blank (kinds.Keyword keyword) e = cc
    not_blank (kinds.Sign s) e = cc
    not_blank (kinds.Name name) e = cc
    not_blank (kinds.Number n) e = cc
    not_blank (kinds.Text inside) e = cc

    not_comment : (kind : Kind) (text line : List ℕ) → IsToken kind text → text ≡ 45 ∷ 45 ∷ line → Other ≡ class_of_kind kind → ⊥
    not_comment (kinds.Keyword keyword) text line h m e = cc
    not_comment (kinds.Sign s) text line h m e = second_of_sign s line (sym h ∙ m)
    not_comment (kinds.Name name) text line h m e = cc
    not_comment (kinds.Number n) text line h m e = cc
    not_comment (kinds.Text inside) text line h m e = cc

-- bytes are one piece at most
pub one_piece : (p q : Option Kind) (text : List ℕ) → IsPiece p text → IsPiece q text → p ≡ q
one_piece None None text h g = refl
one_piece None (Some l) text h g = absurd (apart l text g h)
one_piece (Some k) None text h g = absurd (apart k text h g)
one_piece (Some k) (Some l) text h g = ap Some (one_kind k l text h g (sym (first_class_of_token k text h) ∙ first_class_of_token l text g))
