-- One line more of the first ones, and what it makes of what is kept.
use Rattle.std.proofs.Common.{◌≡◌, ℕ, zero, suc, ◌+◌, ◌≤◌, Bool, true, false, IfOk, MatchBool, MatchOption, List, [], ◌∷◌, ◌++◌, Option, Some, None, Result, Ok, Err, ap, refl, subst, sym, ◌∙◌, arith, add-one}
use Rattle.charlotte_calls.specs.declared.setting.Setting.{Setting}
use Rattle.transcript_items.specs.Kept.{Kept, Follows, FollowAll, Refuses}
use Rattle.transcript_items.specs.Next.{FollowsNext}
use Rattle.transcript_reader.specs.Lines.{Unread, next_line}
use Rattle.transcript_reader.specs.declared.line.Line.{Line}
use Rattle.transcript_reading.specs.declared.line.LineKind.{LineKind}
use Rattle.transcript_replay.specs.Header.{tell_all, tells}
use Rattle.transcript_why.specs.Before.{Halts, first_lines, shown_next, with_next}

-- ---- the lines

-- these lines, and one more behind which this is left
abbrev more : List LineKind × Unread → Line → Unread → List LineKind × Unread
more r l v = (r.0 ++ l.what ∷ [], v)

abbrev before : LineKind → List LineKind × Unread → List LineKind × Unread
before k r = (k ∷ r.0, r.1)

-- a line that comes next can stand
stands : (r : Result (Option (Line × Unread)) ℕ) (x : Line × Unread) → r ≡ Ok (Some x) → shown_next r ≡ None → ⊥
stands r x is none = let e : Some x.0.what ≡ None = sym (ap shown_next is) ∙ none in cc

one-more : (n : ℕ) (u v : Unread) (l : Line) → next_line (first_lines n u).1 ≡ Ok (Some (l, v)) → first_lines (suc n) u ≡ more (first_lines n u) l v
unfolding first_lines
one-more zero u v l e = ap (with_next (first_lines zero) u) e
one-more (suc n) u v l e = go (next_line u) (λ w. one-more n w v l) refl e
  where
    go : (r : Result (Option (Line × Unread)) ℕ) → ((w : Unread) → next_line (first_lines n w).1 ≡ Ok (Some (l, v)) → first_lines (suc n) w ≡ more (first_lines n w) l v) → next_line u ≡ r → next_line (with_next (first_lines n) u r).1 ≡ Ok (Some (l, v)) → with_next (first_lines (suc n)) u r ≡ more (with_next (first_lines n) u r) l v
    go (Ok (Some x)) others is e = ap (before x.0.what) (others x.1 e)
    go (Ok None) others is e = absurd (stands (next_line u) (l, v) e (ap shown_next is))
    go (Err number) others is e = absurd (stands (next_line u) (l, v) e (ap shown_next is))

pub none-yet : (u : Unread) → first_lines 0 u ≡ ([], u)
unfolding first_lines
none-yet u = refl

pub first-more : (n : ℕ) (u v : Unread) (l : Line) → next_line (first_lines n u).1 ≡ Ok (Some (l, v)) → first_lines (n + 1) u ≡ more (first_lines n u) l v
first-more n u v l e = ap (λ (m : ℕ). first_lines m u) (add-one n) ∙ one-more n u v l e

none-more : (m : ℕ) (u : Unread) → shown_next (next_line u) ≡ None → first_lines m u ≡ ([], u)
unfolding first_lines
none-more zero u e = refl
none-more (suc m) u e = go (next_line u) e
  where
    go : (r : Result (Option (Line × Unread)) ℕ) → shown_next r ≡ None → with_next (first_lines m) u r ≡ ([], u)
    go (Ok (Some x)) e = absurd cc
    go (Ok None) e = refl
    go (Err number) e = refl

-- behind a line that cannot stand none is read
pub first-all : (n m : ℕ) (u : Unread) → n ≤ m → shown_next (next_line (first_lines n u).1) ≡ None → first_lines m u ≡ first_lines n u
unfolding first_lines
first-all zero m u le e = none-more m u e
first-all (suc n) zero u le e = absurd (omega arith)
first-all (suc n) (suc m) u le e = go (next_line u) (λ w. first-all n m w (omega arith)) e
  where
    go : (r : Result (Option (Line × Unread)) ℕ) → ((w : Unread) → shown_next (next_line (first_lines n w).1) ≡ None → first_lines m w ≡ first_lines n w) → shown_next (next_line (with_next (first_lines n) u r).1) ≡ None → with_next (first_lines m) u r ≡ with_next (first_lines n) u r
    go (Ok (Some x)) others e = ap (before x.0.what) (others x.1 e)
    go (Ok None) others e = refl
    go (Err number) others e = refl

-- ---- what they tell

tell-more : (ks : List LineKind) (k : LineKind) (s : Setting) → tell_all (ks ++ k ∷ []) s ≡ tells k (tell_all ks s)
tell-more [] k s = refl
tell-more (x ∷ xs) k s = tell-more xs k (tells x s)

pub tells-more : (n : ℕ) (u v : Unread) (l : Line) (s : Setting) → next_line (first_lines n u).1 ≡ Ok (Some (l, v)) → tell_all (first_lines (n + 1) u).0 s ≡ tells l.what (tell_all (first_lines n u).0 s)
tells-more n u v l s e = ap (λ (r : List LineKind × Unread). tell_all r.0 s) (first-more n u v l e) ∙ tell-more (first_lines n u).0 l.what s

-- ---- what is kept behind them

follow-more : (ks : List LineKind) (a b c : Kept) (k : LineKind) → FollowAll a ks b → Follows b k c → FollowAll a (ks ++ k ∷ []) c
follow-more [] a b c k e f = (c, subst (λ (x : Kept). Follows x k c) e f, refl)
follow-more (x ∷ xs) a b c k all f = (all.0, all.1, follow-more xs all.0 b c k all.2 f)

pub follows-more : (n : ℕ) (u v : Unread) (l : Line) (a b c : Kept) → next_line (first_lines n u).1 ≡ Ok (Some (l, v)) → FollowAll a (first_lines n u).0 b → Follows b l.what c → FollowAll a (first_lines (n + 1) u).0 c
follows-more n u v l a b c e all f =
    subst (λ (r : List LineKind × Unread). FollowAll a r.0 c) (sym (first-more n u v l e)) (follow-more (first_lines n u).0 a b c l.what all f)

-- the next line was followed, or the lines halt there
went-next : (went : Bool) (old new : Kept) (u v : Unread) → FollowsNext old u went new v → MatchBool went (FollowsNext old u true new v) (Halts old (shown_next (next_line u)))
went-next true old new u v is = is
went-next false old new u v is = subst (λ (r : Result (Option (Line × Unread)) ℕ). Halts old (shown_next r)) (sym is.read) is.follows

-- a line was read, and followed or not
pub line-went : {E : Type 0} (r : Result Bool E) (l : Line) (old new : Kept) (u v : Unread) → next_line u ≡ Ok (Some (l, v)) → IfOk r (λ went. MatchBool went (Follows old l.what new) (Refuses old l.what))
    → IfOk r (λ went. MatchBool went (FollowsNext old u true new v) (Halts old (shown_next (next_line u))))
line-went (Ok went) l old new u v read follows = went-next went old new u v (record { line = l; read = read; follows = follows })
line-went (Err e) l old new u v read follows = tt

pub some-went : (o : Option Bool) (went : Bool) (Same : Type 0) (old new : Kept) (u v : Unread) → o ≡ Some went → MatchOption o Same (λ w. FollowsNext old u w new v)
    → MatchBool went (FollowsNext old u true new v) (Halts old (shown_next (next_line u)))
some-went o went Same old new u v is told = went-next went old new u v (subst (λ (x : Option Bool). MatchOption x Same (λ w. FollowsNext old u w new v)) is told)

-- what was kept and left before is as it was
pub none-went : {E : Type 0} (r : Result Bool E) (o : Option Bool) (Then : Bool → Type 0) (old mid new : Kept) (u m v : Unread) → o ≡ None → MatchOption o ((mid ≡ old) × (m ≡ u)) Then
    → IfOk r (λ went. MatchBool went (FollowsNext mid m true new v) (Halts mid (shown_next (next_line m)))) → IfOk r (λ went. MatchBool went (FollowsNext old u true new v) (Halts old (shown_next (next_line u))))
none-went r o Then old mid new u m v is told follows =
    let same = subst (λ (x : Option Bool). MatchOption x ((mid ≡ old) × (m ≡ u)) Then) is told in
    subst (λ (k : Kept). IfOk r (λ went. MatchBool went (FollowsNext k u true new v) (Halts k (shown_next (next_line u))))) same.0
    (subst (λ (w : Unread). IfOk r (λ went. MatchBool went (FollowsNext mid w true new v) (Halts mid (shown_next (next_line w))))) same.1 follows)
