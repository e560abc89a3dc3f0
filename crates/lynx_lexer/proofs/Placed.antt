-- A token is told by its place and shape, and the tokens of a source stand where they say.
use Rattle.std.proofs.Common.{◌≡◌, ℕ, ◌+◌, ◌-◌, ◌<◌, ◌≤◌, true, ◌&&◌, List, [], ◌∷◌, ◌++◌, length, take, drop, map, get_or, Option, Some, None, refl, sym, ap, ◌∙◌, subst, arith, append_assoc, length-append}
use Rattle.std.specs.Prelude.{slice_get, option_map}
use Rattle.std.specs.List.{All, list_all}
use Rattle.std.proofs.Math.Seq.{take-append_seam, drop-append_seam}
use Rattle.std.proofs.lemmas.List.{map-append, drop-map, take-map, get_or-map, length-map}
use Rattle.std.proofs.lemmas.List.Elements.{All-nil, All-cons, All-head, All-drop, All-take, All-get_or}
use Rattle.lynx_lexer.specs.Pieces.{IsPiece, IsToken, IsDigits, is_digit}
use Rattle.lynx_lexer.specs.Source.{Piece, text_of, AreLongest, token_at, tokens_of, Spell, AreWithinLimits}
use Rattle.lynx_lexer.specs.Fronts.{StandsAt, StandsAs}
use Rattle.lynx_lexer.specs.Lexemes.{shape_of, kind_spelled, bytes_between, token_of, StandsIn, lexeme_of, lexeme_at}
use Rattle.lynx_lexer.specs.declared.lexeme.Lexeme.{Lexeme}
use Rattle.lynx_lexer.specs.declared.lexeme.Shape.{Shape}
use Rattle.lynx_lexer.specs.declared.lexeme.Shape.TheVariants as shapes
use Rattle.lynx_lexer.specs.declared.token.Kind.{Kind}
use Rattle.lynx_lexer.specs.declared.token.Kind.TheVariants as kinds
use Rattle.lynx_lexer.specs.declared.token.Token.{Token}
use Rattle.lynx_lexer.proofs.Reached.{Reached, reached_more, reached_end}
use Rattle.lynx_lexer.proofs.Stands.{digit_of_class}

-- ---- a kind by its shape and spelling

text_inside : (inside : List ℕ) → take (length (39 ∷ inside ++ 39 ∷ []) - 2) (drop 1 (39 ∷ inside ++ 39 ∷ [])) ≡ inside
text_inside inside =
    let size : length (39 ∷ inside ++ 39 ∷ []) - 2 ≡ length inside = omega (arith, length-append inside (39 ∷ [])) in
    ap (λ (n : ℕ). take n (inside ++ 39 ∷ [])) size ∙ take-append_seam inside (39 ∷ [])

pub kind_told : (kind : Kind) (text : List ℕ) → IsToken kind text → kind_spelled (shape_of kind) text ≡ kind
kind_told (kinds.Keyword keyword) text h = refl
kind_told (kinds.Sign sign) text h = refl
kind_told (kinds.Name name) text h = ap kinds.Name (sym h.0)
kind_told (kinds.Number number) text h = ap kinds.Number (sym h.1)
kind_told (kinds.Text inside) text h = ap (λ (t : List ℕ). kinds.Text (take (length t - 2) (drop 1 t))) h.1 ∙ ap kinds.Text (text_inside inside)

pub shape_told : (shape : Shape) (text : List ℕ) → shape_of (kind_spelled shape text) ≡ shape
shape_told (shapes.Keyword keyword) text = refl
shape_told (shapes.Sign sign) text = refl
shape_told shapes.Name text = refl
shape_told shapes.Number text = refl
shape_told shapes.Text text = refl

-- ---- one token more

token_told : (source : List ℕ) (from to : ℕ) (kind : Kind) → IsToken kind (bytes_between source from to) → token_of source (record { shape = shape_of kind; from = from; to = to }) ≡ record { kind = kind; from = from; to = to }
token_told source from to kind h = ap (λ (k : Kind). record { kind = k; from = from; to = to }) (kind_told kind (bytes_between source from to) h)

piece_told : (source : List ℕ) (from n : ℕ) (shape : Option Shape) → map (token_of source) (lexeme_at from (from + n) shape) ≡ token_at from (from + n) (option_map (λ (s : Shape). kind_spelled s (take n (drop from source))) shape)
piece_told source from n None = refl
piece_told source from n (Some shape) =
    let size : from + n - from ≡ n = omega arith in
    ap (λ (m : ℕ). record { kind = kind_spelled shape (take m (drop from source)); from = from; to = from + n } ∷ []) size

pub placed_more : (source : List ℕ) (at : ℕ) (old new : List Lexeme) (shape : Option Shape) (n : ℕ) → Reached source at (map (token_of source) old) → StandsAs shape n (drop at source)
    → new ≡ old ++ lexeme_at at (at + n) shape → Reached source (at + n) (map (token_of source) new)
placed_more source at old new shape n r s is =
    let kind : Option Kind = option_map (λ (s : Shape). kind_spelled s (take n (drop at source))) shape in
    let more : map (token_of source) new ≡ map (token_of source) old ++ token_at at (at + n) kind =
    ap (map (token_of source)) is ∙ map-append (token_of source) old (lexeme_at at (at + n) shape) ∙ ap (λ (ts : List Token). map (token_of source) old ++ ts) (piece_told source at n shape) in
    subst (λ (ts : List Token). Reached source (at + n) ts) (sym more) (reached_more source at (map (token_of source) old) kind n r s)

-- a token that stands at the front does so by its shape
pub stands_as : (kind : Kind) (n : ℕ) (bytes : List ℕ) → StandsAt (Some kind) n bytes → StandsAs (Some (shape_of kind)) n bytes
stands_as kind n bytes s = subst (λ (k : Kind). StandsAt (Some k) n bytes) (sym (kind_told kind (take n bytes) s.piece)) s

-- ---- the tokens of a source stand in it

between_is : (source before text rest : List ℕ) → source ≡ before ++ (text ++ rest) → bytes_between source (length before) (length before + length text) ≡ text
between_is source before text rest is =
    let size : length before + length text - length before ≡ length text = omega arith in
    ap (λ (n : ℕ). take n (drop (length before) source)) size
    ∙ ap (λ (s : List ℕ). take (length text) (drop (length before) s)) is
    ∙ ap (take (length text)) (drop-append_seam before (text ++ rest))
    ∙ take-append_seam text rest

piece_stands : (source text : List ℕ) (from : ℕ) (kind : Option Kind) (others : List Token) → IsPiece kind text → bytes_between source from (from + length text) ≡ text → from + length text ≤ length source
    → AreWithinLimits (token_at from (from + length text) kind ++ others) → (AreWithinLimits others → All (StandsIn source) others) → All (StandsIn source) (token_at from (from + length text) kind ++ others)
piece_stands source text from None others piece is inside w rest = rest w
piece_stands source text from (Some kind) others piece is inside w rest =
    All-cons (StandsIn source) (record { kind = kind; from = from; to = from + length text }) others
    (record { order = omega arith; inside = inside; spelling = subst (λ (t : List ℕ). IsToken kind t) (sym is) piece; within = w.0 }) (rest w.1)

pieces_stand : (source before : List ℕ) (ps : List Piece) (rest : List ℕ) → source ≡ before ++ (text_of ps ++ rest) → AreLongest ps rest → AreWithinLimits (tokens_of (length before) ps) → All (StandsIn source) (tokens_of (length before) ps)
pieces_stand source before [] rest is are w = All-nil (StandsIn source)
pieces_stand source before (p ∷ ps) rest is are w =
    let next : List ℕ = before ++ p.text in
    let size : length next ≡ length before + length p.text = length-append before p.text in
    let first : source ≡ before ++ (p.text ++ (text_of ps ++ rest)) = is ∙ ap (λ (t : List ℕ). before ++ t) (append_assoc p.text (text_of ps) rest) in
    let behind : source ≡ next ++ (text_of ps ++ rest) = first ∙ sym (append_assoc before p.text (text_of ps ++ rest)) in
    let fits : length before + length p.text ≤ length source = omega (arith, ap length behind, length-append next (text_of ps ++ rest), size) in
    piece_stands source p.text (length before) p.kind (tokens_of (length before + length p.text) ps) are.0 (between_is source before p.text (text_of ps ++ rest) first) fits w
    (λ others. subst (λ (n : ℕ). All (StandsIn source) (tokens_of n ps)) size
    (pieces_stand source next ps rest behind are.2 (subst (λ (n : ℕ). AreWithinLimits (tokens_of n ps)) (sym size) others)))

pub spelled_stand : (source : List ℕ) (tokens : List Token) → Spell tokens source → AreWithinLimits tokens → All (StandsIn source) tokens
spelled_stand source tokens s w =
    subst (λ (ts : List Token). All (StandsIn source) ts) (sym s.2) (pieces_stand source [] s.0 [] s.1.0 s.1.1 (subst AreWithinLimits s.2 w))

-- ---- lists of tokens by their places

pub tokens_told : (source : List ℕ) (tokens : List Token) → All (StandsIn source) tokens → map (token_of source) (map lexeme_of tokens) ≡ tokens
tokens_told source [] h = refl
tokens_told source (t ∷ ts) h =
    let first : token_of source (lexeme_of t) ≡ t = token_told source t.from t.to t.kind (All-head (StandsIn source) t ts h).spelling in
    let others : map (token_of source) (map lexeme_of ts) ≡ ts = tokens_told source ts (All-drop (StandsIn source) 1 (t ∷ ts) h) in
    λ i. first i ∷ others i

pub stands_first : (source : List ℕ) (l : Lexeme) (ls : List Lexeme) → slice_get ls 0 ≡ Some l → All (StandsIn source) (map (token_of source) ls) → StandsIn source (token_of source l)
stands_first source l [] is h = absurd cc
stands_first source l (m ∷ ms) is h =
    let same : m ≡ l = cc in
    subst (λ (x : Lexeme). StandsIn source (token_of source x)) same (All-head (StandsIn source) (token_of source m) (map (token_of source) ms) h)

pub stand_behind : (source : List ℕ) (ls : List Lexeme) → All (StandsIn source) (map (token_of source) ls) → All (StandsIn source) (map (token_of source) (drop 1 ls))
stand_behind source ls h = subst (λ (ts : List Token). All (StandsIn source) ts) (drop-map (token_of source) 1 ls) (All-drop (StandsIn source) 1 (map (token_of source) ls) h)

abbrev kinds_left : List ℕ → List Lexeme → List Kind
kinds_left source ls = map (λ (t : Token). t.kind) (map (token_of source) ls)

pub left_behind : (source : List ℕ) (ls : List Lexeme) → kinds_left source (drop 1 ls) ≡ drop 1 (kinds_left source ls)
left_behind source ls = ap (map (λ (t : Token). t.kind)) (sym (drop-map (token_of source) 1 ls)) ∙ sym (drop-map (λ (t : Token). t.kind) 1 (map (token_of source) ls))

pub first_shape : (source : List ℕ) (ls : List Lexeme) → option_map (λ (l : Lexeme). l.shape) (slice_get ls 0) ≡ option_map shape_of (slice_get (kinds_left source ls) 0)
first_shape source [] = refl
first_shape source (l ∷ ls) = ap Some (sym (shape_told l.shape (bytes_between source l.from l.to)))

pub first_kind : (source : List ℕ) (l : Lexeme) (ls : List Lexeme) → slice_get ls 0 ≡ Some l → Some (kind_spelled l.shape (bytes_between source l.from l.to)) ≡ slice_get (kinds_left source ls) 0
first_kind source l [] is = absurd cc
first_kind source l (m ∷ ms) is =
    let same : l ≡ m = cc in
    ap (λ (x : Lexeme). Some (kind_spelled x.shape (bytes_between source x.from x.to))) same

pub first_none : (source : List ℕ) (ls : List Lexeme) → slice_get ls 0 ≡ None → slice_get (kinds_left source ls) 0 ≡ None
first_none source [] is = refl
first_none source (m ∷ ms) is = absurd cc

pub stands_at : (source : List ℕ) (ls : List Lexeme) (i : ℕ) (d : Lexeme) → i < length ls → All (StandsIn source) (map (token_of source) ls) → StandsIn source (token_of source (get_or ls i d))
stands_at source ls i d below h =
    subst (StandsIn source) (get_or-map (token_of source) ls i d (token_of source d) below)
    (All-get_or (StandsIn source) (map (token_of source) ls) i (token_of source d) (omega (arith, below, length-map ls (token_of source))) h)

pub stand_within : (source : List ℕ) (ls : List Lexeme) (n : ℕ) → All (StandsIn source) (map (token_of source) ls) → All (StandsIn source) (map (token_of source) (take n (drop 1 ls)))
stand_within source ls n h =
    subst (λ (ts : List Token). All (StandsIn source) ts) (take-map (token_of source) n (drop 1 ls)) (All-take (StandsIn source) n (map (token_of source) (drop 1 ls)) (stand_behind source ls h))

pub end_stands : (source : List ℕ) (at : ℕ) (ls : List Lexeme) → Reached source at (map (token_of source) ls) → length source ≤ at → All (StandsIn source) (map (token_of source) ls)
end_stands source at ls r le =
    let whole = reached_end source at (map (token_of source) ls) r le in
    spelled_stand source (map (token_of source) ls) whole.0 whole.1

pub told_stand : (source : List ℕ) (tokens : List Token) (ls : List Lexeme) → Spell tokens source → AreWithinLimits tokens → ls ≡ map lexeme_of tokens → All (StandsIn source) (map (token_of source) ls)
told_stand source tokens ls s w is =
    let stand = spelled_stand source tokens s w in
    subst (λ (ts : List Token). All (StandsIn source) ts) (sym (ap (map (token_of source)) is ∙ tokens_told source tokens stand)) stand

pub told_same : (source : List ℕ) (tokens : List Token) (ls : List Lexeme) → Spell tokens source → AreWithinLimits tokens → ls ≡ map lexeme_of tokens → map (token_of source) ls ≡ tokens
told_same source tokens ls s w is = ap (map (token_of source)) is ∙ tokens_told source tokens (spelled_stand source tokens s w)

digits_all : (text : List ℕ) → IsDigits text → list_all is_digit text ≡ true
digits_all text h =
    let one : is_digit h.0 ≡ true = digit_of_class h.0 h.2 in
    ap (list_all is_digit) h.4 ∙ (λ i. one i && h.3 i)

pub number_digits : (text : List ℕ) (shape : Shape) → shape ≡ shapes.Number → IsToken (kind_spelled shape text) text → list_all is_digit text ≡ true
number_digits text shape is h = digits_all text (subst (λ (s : Shape). IsToken (kind_spelled s text) text) is h).0
