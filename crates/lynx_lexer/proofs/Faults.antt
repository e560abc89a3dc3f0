-- A source has its tokens or its first fault, and one of them only.
use Rattle.std.proofs.Common.{◌≡◌, ℕ, ◌+◌, ◌≤◌, ◌⊎◌, List, [], ◌∷◌, ◌++◌, length, Option, Some, None, Result, Ok, Err, refl, sym, ap, ◌∙◌, subst, arith, append_assoc, inl, inr}
use Rattle.std.specs.Prelude.{IfSome, IfOk, IfErr}
use Rattle.std.specs.Global.{Vec}
use Rattle.std.specs.List.{AllByRecursion}
use Rattle.lynx_lexer.specs.Pieces.{IsPiece, IsLongest, is_text_byte, limit_passed}
use Rattle.lynx_lexer.specs.Source.{Piece, text_of, token_at, tokens_of, Spell, AreWithinLimits, BeginsNothing, CutsText, IsOpenText, PassesLimit, HasFault, IsFirstFault, number_of}
use Rattle.lynx_lexer.specs.Answers.{GivesTokens, GivesFault, IsFaultOf}
use Rattle.lynx_lexer.specs.declared.fault.FaultKind.{FaultKind}
use Rattle.lynx_lexer.specs.declared.fault.FaultKind.TheVariants.{BadByte, OpenText, NumberTooWide, TextTooLong, NameTooLong}
use Rattle.lynx_lexer.specs.declared.fault.LexFault.{LexFault}
use Rattle.lynx_lexer.specs.declared.fault.LexFault.TheVariants as faults
use Rattle.lynx_lexer.specs.declared.token.Kind.{Kind}
use Rattle.lynx_lexer.specs.declared.token.Kind.TheVariants as kinds
use Rattle.lynx_lexer.specs.declared.token.Token.{Token}
use Rattle.lynx_lexer.proofs.Runs.{Stops, run_longest, same_fronts}
use Rattle.lynx_lexer.proofs.Shapes.{shape, some_byte, class_of_quote}
use Rattle.lynx_lexer.proofs.Longest.{at_quote}
use Rattle.lynx_lexer.proofs.Cuts.{Bars, same_piece, one_cut, one_spelling, end_bars}

-- ---- what stands at a fault

nothing_no_piece : (bytes : List ℕ) (p : Option Kind) (text rest : List ℕ) → BeginsNothing bytes → bytes ≡ text ++ rest → IsPiece p text → ⊥
nothing_no_piece bytes p [] rest h e piece = some_byte p piece
nothing_no_piece bytes p (c ∷ cs) rest h e piece =
    let joined : h.0 ∷ h.1 ≡ c ∷ (cs ++ rest) = sym h.2 ∙ e in
    let heads : c ≡ h.0 = cc in
    h.3 p cs (subst (λ (b : ℕ). IsPiece p (b ∷ cs)) heads piece)

stops_at_cut : (rest : List ℕ) → CutsText rest → Stops is_text_byte rest
stops_at_cut [] h = tt
stops_at_cut (b ∷ bs) h = h.0

open_no_piece : (bytes : List ℕ) (p : Option Kind) (text rest : List ℕ) → IsOpenText bytes → bytes ≡ text ++ rest → IsPiece p text → ⊥
open_no_piece bytes p [] rest h e piece = some_byte p piece
open_no_piece bytes p (c ∷ cs) rest h e piece =
    let inside : List ℕ = h.0 in
    let behind : List ℕ = h.1 in
    let joined : 39 ∷ inside ++ behind ≡ c ∷ (cs ++ rest) = sym h.4 ∙ e in
    let heads : c ≡ 39 = cc in
    let tails : inside ++ behind ≡ cs ++ rest = cc in
    let found = at_quote 39 cs class_of_quote (shape p 39 cs (subst (λ (b : ℕ). IsPiece p (b ∷ cs)) heads piece)) in
    let other : List ℕ = found.0 in
    let closed : inside ++ behind ≡ other ++ (39 ∷ rest) = tails ∙ ap (λ (t : List ℕ). t ++ rest) found.2 ∙ append_assoc other (39 ∷ []) rest in
    let short : length other ≤ length inside = run_longest is_text_byte inside behind other (39 ∷ rest) closed (stops_at_cut behind h.3) found.1 in
    let long : length inside ≤ length other = run_longest is_text_byte other (39 ∷ rest) inside behind (sym closed) refl h.2 in
    let same = same_fronts inside other behind (39 ∷ rest) closed (omega arith) in
    let cut : CutsText (39 ∷ rest) = subst CutsText same.1 h.3 in
    cut.1 refl

-- the piece is no token that passes a limit
abbrev pub IsWithin : Piece → Type 0
IsWithin p = IfSome p.kind (λ k. limit_passed k ≡ None)

limit_no_piece : (fault : FaultKind) (bytes : List ℕ) (p : Piece) (rest : List ℕ) → PassesLimit fault bytes → bytes ≡ p.text ++ rest → IsPiece p.kind p.text → IsLongest p.text rest → IsWithin p → ⊥
limit_no_piece fault bytes p rest h e piece longest within =
    let q : Piece = record { text = h.1; kind = Some h.0 } in
    let same = same_piece q p h.2 rest (sym h.3 ∙ e) h.4 h.5 piece longest in
    let none : limit_passed h.0 ≡ None = subst IsWithin (sym same.0) within in
    let some : limit_passed h.0 ≡ Some fault = h.6 in
    cc

-- what a fault is at the front
abbrev Fault : FaultKind → List ℕ → Type 0
Fault fault bytes = ((fault ≡ BadByte) × BeginsNothing bytes) ⊎ ((fault ≡ OpenText) × IsOpenText bytes) ⊎ PassesLimit fault bytes

told : (fault : FaultKind) (bytes : List ℕ) → HasFault fault bytes → Fault fault bytes
told BadByte bytes h = inl (refl, h)
told OpenText bytes h = inr (inl (refl, h))
told NumberTooWide bytes h = inr (inr h)
told TextTooLong bytes h = inr (inr h)
told NameTooLong bytes h = inr (inr h)

bars_of : (fault : FaultKind) (bytes : List ℕ) → Fault fault bytes → Bars IsWithin bytes
bars_of fault bytes (inl h) p rest e piece longest within = nothing_no_piece bytes p.kind p.text rest h.1 e piece
bars_of fault bytes (inr (inl h)) p rest e piece longest within = open_no_piece bytes p.kind p.text rest h.1 e piece
bars_of fault bytes (inr (inr h)) p rest e piece longest within = limit_no_piece fault bytes p rest h e piece longest within

fault_bars : (fault : FaultKind) (bytes : List ℕ) → HasFault fault bytes → Bars IsWithin bytes
fault_bars fault bytes h = bars_of fault bytes (told fault bytes h)

some_of : (fault : FaultKind) (bytes : List ℕ) → Fault fault bytes → bytes ≡ [] → ⊥
some_of fault bytes (inl h) e = absurd (let joined : h.1.0 ∷ h.1.1 ≡ [] = sym h.1.2 ∙ e in cc)
some_of fault bytes (inr (inl h)) e = absurd (let joined : 39 ∷ h.1.0 ++ h.1.1 ≡ [] = sym h.1.4 ∙ e in cc)
some_of fault bytes (inr (inr h)) e = empty h.1 (sym h.3 ∙ e) h.4
  where
    empty : (text : List ℕ) → text ++ h.2 ≡ [] → IsPiece (Some h.0) text → ⊥
    empty [] e piece = some_byte (Some h.0) piece
    empty (b ∷ bs) e piece = cc

-- a fault stands at a byte
fault_some : (fault : FaultKind) (bytes : List ℕ) → HasFault fault bytes → bytes ≡ [] → ⊥
fault_some fault bytes h = some_of fault bytes (told fault bytes h)

-- ---- one fault

empty_text : IsPiece (Some (kinds.Text [])) (39 ∷ 39 ∷ [])
empty_text = (refl, refl)

nothing_not_open : (bytes : List ℕ) → BeginsNothing bytes → IsOpenText bytes → ⊥
nothing_not_open bytes h g =
    let joined : h.0 ∷ h.1 ≡ 39 ∷ (g.0 ++ g.1) = sym h.2 ∙ g.4 in
    let heads : 39 ≡ h.0 = cc in
    h.3 (Some (kinds.Text [])) (39 ∷ []) (subst (λ (b : ℕ). IsPiece (Some (kinds.Text [])) (b ∷ 39 ∷ [])) heads empty_text)

same_limit : (m n : FaultKind) (bytes : List ℕ) → PassesLimit m bytes → PassesLimit n bytes → m ≡ n
same_limit m n bytes h g =
    let p : Piece = record { text = h.1; kind = Some h.0 } in
    let q : Piece = record { text = g.1; kind = Some g.0 } in
    let same = same_piece p q h.2 g.2 (sym h.3 ∙ g.3) h.4 h.5 g.4 g.5 in
    let kinds_are : p.kind ≡ q.kind = ap (λ (x : Piece). x.kind) same.0 in
    let kind_is : h.0 ≡ g.0 = cc in
    let faults_are : Some m ≡ Some n = sym h.6 ∙ ap limit_passed kind_is ∙ g.6 in
    cc

one_of : (m n : FaultKind) (bytes : List ℕ) → Fault m bytes → Fault n bytes → m ≡ n
one_of m n bytes (inl h) (inl g) = h.0 ∙ sym g.0
one_of m n bytes (inl h) (inr (inl g)) = absurd (nothing_not_open bytes h.1 g.1)
one_of m n bytes (inl h) (inr (inr g)) = absurd (nothing_no_piece bytes (Some g.0) g.1 g.2 h.1 g.3 g.4)
one_of m n bytes (inr (inl h)) (inl g) = absurd (nothing_not_open bytes g.1 h.1)
one_of m n bytes (inr (inl h)) (inr (inl g)) = h.0 ∙ sym g.0
one_of m n bytes (inr (inl h)) (inr (inr g)) = absurd (open_no_piece bytes (Some g.0) g.1 g.2 h.1 g.3 g.4)
one_of m n bytes (inr (inr h)) (inl g) = absurd (nothing_no_piece bytes (Some h.0) h.1 h.2 g.1 h.3 h.4)
one_of m n bytes (inr (inr h)) (inr (inl g)) = absurd (open_no_piece bytes (Some h.0) h.1 h.2 g.1 h.3 h.4)
one_of m n bytes (inr (inr h)) (inr (inr g)) = same_limit m n bytes h g

one_fault : (m n : FaultKind) (bytes : List ℕ) → HasFault m bytes → HasFault n bytes → m ≡ n
one_fault m n bytes h g = one_of m n bytes (told m bytes h) (told n bytes g)

-- ---- one answer

each_within : (at : ℕ) (ps : List Piece) → AreWithinLimits (tokens_of at ps) → AllByRecursion IsWithin ps
each_within at [] w = tt
each_within at (p ∷ ps) w = both p.kind (tokens_of (at + length p.text) ps) w (λ rest. each_within (at + length p.text) ps rest)
  where
    both : (kind : Option Kind) (others : List Token) → AreWithinLimits (token_at at (at + length p.text) kind ++ others) → (AreWithinLimits others → AllByRecursion IsWithin ps) → IfSome kind (λ k. limit_passed k ≡ None) × AllByRecursion IsWithin ps
    both None others w go = (tt, go w)
    both (Some k) others w go = (w.0, go w.1)

pub not_both : (source : List ℕ) (tokens : List Token) (place : ℕ) (kind : FaultKind) → Spell tokens source → AreWithinLimits tokens → IsFirstFault place kind source → ⊥
not_both source tokens place kind s w f =
    let same = one_cut IsWithin s.0 f.0 [] f.1 (sym s.1.0 ∙ f.2.0) s.1.1 f.2.1 (each_within 0 s.0 (subst AreWithinLimits s.2 w)) (each_within 0 f.0 f.3) (end_bars IsWithin) (fault_bars kind f.1 f.5) in
    fault_some kind f.1 f.5 (sym same.1)

pub gives_tokens : (source : List ℕ) (tokens : List Token) (r : Result (Vec Token) LexFault) → IfOk r (λ v. Spell v.items source × AreWithinLimits v.items) → IfErr r (IsFaultOf source)
    → Spell tokens source → AreWithinLimits tokens → GivesTokens tokens r
gives_tokens source tokens (Ok v) found fault s w = one_spelling source v.items tokens found.0 s
gives_tokens source tokens (Err (faults.At place number)) found fault s w = not_both source tokens place fault.0 s w fault.1
gives_tokens source tokens (Err faults.NoMemory) found fault s w = tt

same_fault : (source : List ℕ) (place at : ℕ) (kind other : FaultKind) → IsFirstFault place kind source → IsFirstFault at other source → (at ≡ place) × (other ≡ kind)
same_fault source place at kind other f g =
    let same = one_cut IsWithin g.0 f.0 g.1 f.1 (sym g.2.0 ∙ f.2.0) g.2.1 f.2.1 (each_within 0 g.0 g.3) (each_within 0 f.0 f.3) (fault_bars other g.1 g.5) (fault_bars kind f.1 f.5) in
    (g.4 ∙ ap (λ (ps : List Piece). length (text_of ps)) same.0 ∙ sym f.4, one_fault other kind f.1 (subst (HasFault other) same.1 g.5) f.5)

pub gives_fault : (source : List ℕ) (place : ℕ) (kind : FaultKind) (r : Result (Vec Token) LexFault) → IfOk r (λ v. Spell v.items source × AreWithinLimits v.items) → IfErr r (IsFaultOf source)
    → IsFirstFault place kind source → GivesFault place kind r
gives_fault source place kind (Ok v) found fault f = not_both source v.items place kind found.0 found.1 f
gives_fault source place kind (Err (faults.At at number)) found fault f =
    let same = same_fault source place at kind fault.0 f fault.1 in
    (same.0, fault.2 ∙ ap number_of same.1)
gives_fault source place kind (Err faults.NoMemory) found fault f = tt
