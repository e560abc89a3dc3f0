-- A source is cut into its longest pieces in one way.
use Rattle.std.proofs.Common.{◌≡◌, ℕ, ◌≤◌, List, [], ◌∷◌, ◌++◌, length, refl, sym, ap, ◌∙◌, subst, arith, append_assoc}
use Rattle.std.specs.Prelude.{⊤}
use Rattle.std.specs.List.{AllByRecursion}
use Rattle.lynx_lexer.specs.Pieces.{IsPiece, IsLongest}
use Rattle.lynx_lexer.specs.Source.{Piece, text_of, AreLongest, tokens_of, Spell}
use Rattle.lynx_lexer.specs.declared.token.Token.{Token}
use Rattle.lynx_lexer.proofs.Runs.{same_fronts}
use Rattle.lynx_lexer.proofs.Shapes.{one_piece, some_byte}

-- no longest piece that meets W stands at the front
abbrev pub Bars : (Piece → Type 0) → List ℕ → Type 0
Bars W bytes = (p : Piece) (rest : List ℕ) → bytes ≡ p.text ++ rest → IsPiece p.kind p.text → IsLongest p.text rest → W p → ⊥

-- of two longest pieces at one place both are the same
pub same_piece : (p q : Piece) (x y : List ℕ) → p.text ++ x ≡ q.text ++ y → IsPiece p.kind p.text → IsLongest p.text x → IsPiece q.kind q.text → IsLongest q.text y → (p ≡ q) × (x ≡ y)
same_piece p q x y e hp lp hq lq =
    let a : length q.text ≤ length p.text = lp q.kind q.text y e hq in
    let b : length p.text ≤ length q.text = lq p.kind p.text x (sym e) hp in
    let fronts = same_fronts p.text q.text x y e (omega arith) in
    let same_text : p.text ≡ q.text = fronts.0 in
    let same_kind : p.kind ≡ q.kind = one_piece p.kind q.kind q.text (subst (λ (t : List ℕ). IsPiece p.kind t) same_text hp) hq in
    let same : p ≡ q = λ i. record { text = same_text i; kind = same_kind i } in
    (same, fronts.1)

pub one_cut : (W : Piece → Type 0) (ps qs : List Piece) (r s : List ℕ) → text_of ps ++ r ≡ text_of qs ++ s → AreLongest ps r → AreLongest qs s → AllByRecursion W ps → AllByRecursion W qs → Bars W r → Bars W s → (ps ≡ qs) × (r ≡ s)
one_cut W [] [] r s e lp lq wp wq br bs = (refl, e)
one_cut W [] (q ∷ qs) r s e lp lq wp wq br bs = absurd (br q (text_of qs ++ s) (e ∙ append_assoc q.text (text_of qs) s) lq.0 lq.1 wq.0)
one_cut W (p ∷ ps) [] r s e lp lq wp wq br bs = absurd (bs p (text_of ps ++ r) (sym e ∙ append_assoc p.text (text_of ps) r) lp.0 lp.1 wp.0)
one_cut W (p ∷ ps) (q ∷ qs) r s e lp lq wp wq br bs =
    let joined : p.text ++ (text_of ps ++ r) ≡ q.text ++ (text_of qs ++ s) = sym (append_assoc p.text (text_of ps) r) ∙ e ∙ append_assoc q.text (text_of qs) s in
    let first = same_piece p q (text_of ps ++ r) (text_of qs ++ s) joined lp.0 lp.1 lq.0 lq.1 in
    let others = one_cut W ps qs r s first.1 lp.2 lq.2 wp.1 wq.1 br bs in
    let heads : p ≡ q = first.0 in
    let tails : ps ≡ qs = others.0 in
    (λ i. heads i ∷ tails i, others.1)

any : Piece → Type 0
any p = ⊤

each_any : (ps : List Piece) → AllByRecursion any ps
unfolding any
each_any [] = tt
each_any (p ∷ ps) = (tt, each_any ps)

-- no piece stands at the end
pub end_bars : (W : Piece → Type 0) → Bars W []
end_bars W p rest e h longest w = empty p.text e h
  where
    empty : (text : List ℕ) → [] ≡ text ++ rest → IsPiece p.kind text → ⊥
    empty [] e h = some_byte p.kind h
    empty (b ∷ bs) e h = cc

pub one_spelling : (source : List ℕ) (a b : List Token) → Spell a source → Spell b source → a ≡ b
one_spelling source a b x y =
    let e : text_of x.0 ++ [] ≡ text_of y.0 ++ [] = sym x.1.0 ∙ y.1.0 in
    let same = one_cut any x.0 y.0 [] [] e x.1.1 y.1.1 (each_any x.0) (each_any y.0) (end_bars any) (end_bars any) in
    x.2 ∙ ap (tokens_of 0) same.0 ∙ sym y.2
