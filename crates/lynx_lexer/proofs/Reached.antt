-- What has been read so far, piece by piece.
use Rattle.std.proofs.Common.{◌≡◌, ℕ, ◌+◌, ◌≤◌, List, [], ◌∷◌, ◌++◌, length, take, drop, Option, Some, None, refl, sym, ap, ◌∙◌, subst, arith, append_assoc, length-append}
use Rattle.std.specs.Prelude.{IfSome, ◌<◌, Bool, true, ◌==◌, if◌then◌else◌, slice_index}
use Rattle.std.specs.Char.{is_ascii_alphabetic, is_ascii_digit}
use Rattle.std.proofs.lemmas.List.{append-nil, take-append-drop, drop-drop, drop_all, length-drop, length-take-le}
use Rattle.lynx_lexer.specs.Bytes.{class_of, is_blank}
use Rattle.lynx_lexer.specs.declared.class.Class.TheVariants.{Blank, Letter, Digit, Underscore, Quote, Other}
use Rattle.lynx_lexer.proofs.Stands.{blank_stands}
use Rattle.lynx_lexer.specs.Pieces.{IsPiece, IsLongest, limit_passed}
use Rattle.lynx_lexer.specs.Source.{Piece, text_of, AreLongest, token_at, tokens_of, Spell, AreWithinLimits, HasFault, IsFirstFault}
use Rattle.lynx_lexer.specs.Fronts.{StandsAt}
use Rattle.lynx_lexer.specs.declared.fault.FaultKind.{FaultKind}
use Rattle.lynx_lexer.specs.declared.token.Kind.{Kind}
use Rattle.lynx_lexer.specs.declared.token.Token.{Token}

-- up to a place the source is cut into its longest pieces, and the tokens are those among them
pub record Reached (source : List ℕ) (at : ℕ) (tokens : List Token) : Type 0 where
  pub pieces : List Piece
  pub whole : source ≡ text_of pieces ++ drop at source
  pub longest : AreLongest pieces (drop at source)
  pub place : at ≡ length (text_of pieces)
  pub are : tokens ≡ tokens_of 0 pieces
  pub within : AreWithinLimits tokens
  pub inside : at ≤ length source

pub reached_start : (source : List ℕ) → Reached source 0 []
reached_start source = record { pieces = []; whole = refl; longest = tt; place = refl; are = refl; within = tt; inside = omega arith }

text_of-push : (ps : List Piece) (p : Piece) → text_of (ps ++ p ∷ []) ≡ text_of ps ++ p.text
text_of-push [] p = append-nil p.text
text_of-push (q ∷ ps) p = ap (λ (t : List ℕ). q.text ++ t) (text_of-push ps p) ∙ sym (append_assoc q.text (text_of ps) p.text)

longest_push : (ps : List Piece) (p : Piece) (rest : List ℕ) → AreLongest ps (p.text ++ rest) → IsPiece p.kind p.text → IsLongest p.text rest → AreLongest (ps ++ p ∷ []) rest
longest_push [] p rest are piece longest = (piece, longest, tt)
longest_push (q ∷ ps) p rest are piece longest =
    let regrouped : text_of ps ++ (p.text ++ rest) ≡ text_of (ps ++ p ∷ []) ++ rest = sym (append_assoc (text_of ps) p.text rest) ∙ ap (λ (t : List ℕ). t ++ rest) (sym (text_of-push ps p)) in
    (are.0, subst (λ (t : List ℕ). IsLongest q.text t) regrouped are.1, longest_push ps p rest are.2 piece longest)

tokens_of-push : (at : ℕ) (ps : List Piece) (p : Piece) → tokens_of at (ps ++ p ∷ []) ≡ tokens_of at ps ++ token_at (at + length (text_of ps)) (at + length (text_of ps) + length p.text) p.kind
tokens_of-push at [] p = append-nil _ ∙ (λ i. token_at (zero_more i) (zero_more i + length p.text) p.kind)
  where
    zero_more : at ≡ at + 0
    zero_more = omega arith
tokens_of-push at (q ∷ ps) p =
    let next : ℕ = at + length q.text in
    let same : next + length (text_of ps) ≡ at + length (q.text ++ text_of ps) = omega (arith, length-append q.text (text_of ps)) in
    ap (λ (ts : List Token). token_at at next q.kind ++ ts) (tokens_of-push next ps p)
    ∙ sym (append_assoc (token_at at next q.kind) (tokens_of next ps) (token_at (next + length (text_of ps)) (next + length (text_of ps) + length p.text) p.kind))
    ∙ ap (λ (n : ℕ). (token_at at next q.kind ++ tokens_of next ps) ++ token_at n (n + length p.text) p.kind) same

within_push : (ts : List Token) (from to : ℕ) (kind : Option Kind) → AreWithinLimits ts → IfSome kind (λ k. limit_passed k ≡ None) → AreWithinLimits (ts ++ token_at from to kind)
within_push [] from to None w h = tt
within_push [] from to (Some k) w h = (h, tt)
within_push (t ∷ ts) from to kind w h = (w.0, within_push ts from to kind w.1 h)

pub reached_more : (source : List ℕ) (at : ℕ) (tokens : List Token) (kind : Option Kind) (n : ℕ) → Reached source at tokens → StandsAt kind n (drop at source) → Reached source (at + n) (tokens ++ token_at at (at + n) kind)
reached_more source at tokens kind n r s =
    let front : List ℕ = take n (drop at source) in
    let p : Piece = record { text = front; kind = kind } in
    let rest-is : drop n (drop at source) ≡ drop (at + n) source = drop-drop n at source in
    let split : drop at source ≡ front ++ drop (at + n) source = sym (take-append-drop n (drop at source)) ∙ ap (λ (t : List ℕ). front ++ t) rest-is in
    let size : length front ≡ n = length-take-le n (drop at source) s.fits in
    let longest : IsLongest front (drop (at + n) source) = subst (λ (t : List ℕ). IsLongest front t) rest-is s.longest in
    record {
      pieces = r.pieces ++ p ∷ [];
      whole = r.whole ∙ ap (λ (t : List ℕ). text_of r.pieces ++ t) split ∙ sym (append_assoc (text_of r.pieces) front (drop (at + n) source)) ∙ ap (λ (t : List ℕ). t ++ drop (at + n) source) (sym (text_of-push r.pieces p));
      longest = longest_push r.pieces p (drop (at + n) source) (subst (λ (t : List ℕ). AreLongest r.pieces t) split r.longest) s.piece longest;
      place = omega (arith, r.place, size, ap length (text_of-push r.pieces p), length-append (text_of r.pieces) front);
      are = (λ i. r.are i ++ token_at (place_is i) (place_is i + size_is i) kind) ∙ sym (tokens_of-push 0 r.pieces p);
      within = within_push tokens at (at + n) kind r.within s.within;
      inside = omega (arith, s.fits, r.inside, length-drop at source);
    }
  where
    place_is : at ≡ 0 + length (text_of r.pieces)
    place_is = omega (arith, r.place)

    size_is : n ≡ length (take n (drop at source))
    size_is = sym (length-take-le n (drop at source) s.fits)

blank_class : (b : ℕ) → is_blank b ≡ true → class_of b ≡ Blank
unfolding class_of
blank_class b h = ap (λ (t : Bool). if t then Blank else (if is_ascii_alphabetic b then Letter else (if is_ascii_digit b then Digit else (if b == 95 then Underscore else (if b == 39 then Quote else Other))))) h

-- a blank comes next
pub reached_blank : (source : List ℕ) (at : ℕ) (tokens : List Token) (rest : List ℕ) → Reached source at tokens → rest ≡ drop at source → 0 < length rest → is_blank (slice_index rest 0) ≡ true → Reached source (at + 1) tokens
reached_blank source at tokens rest r are some blank =
    let stands : StandsAt None 1 (drop at source) = subst (λ (t : List ℕ). StandsAt None 1 t) are (blank_stands rest (record { some = some; first = blank_class (slice_index rest 0) blank })) in
    subst (λ (ts : List Token). Reached source (at + 1) ts) (append-nil tokens) (reached_more source at tokens None 1 r stands)

pub reached_end : (source : List ℕ) (at : ℕ) (tokens : List Token) → Reached source at tokens → length source ≤ at → Spell tokens source × AreWithinLimits tokens
reached_end source at tokens r le =
    let none : drop at source ≡ [] = drop_all at source le in
    ((r.pieces, (r.whole ∙ ap (λ (t : List ℕ). text_of r.pieces ++ t) none, subst (λ (t : List ℕ). AreLongest r.pieces t) none r.longest), r.are), r.within)

pub reached_fault : (source : List ℕ) (at : ℕ) (tokens : List Token) (kind : FaultKind) → Reached source at tokens → HasFault kind (drop at source) → IsFirstFault at kind source
reached_fault source at tokens kind r h =
    (r.pieces, drop at source, (r.whole, r.longest), subst AreWithinLimits r.are r.within, r.place, h)
