-- A text is accepted or rejected, and in one way.
use Rattle.std.proofs.Common.{◌≡◌, ℕ, List, [], ◌∷◌, ◌++◌, map, Result, Ok, Err, refl, sym, ap, subst, ◌∙◌, append_assoc}
use Rattle.std.proofs.lemmas.List.{map-append}
use Rattle.std.specs.List.{flat_map}
use Rattle.transcript_lines.specs.declared.last.Last.{Last}
use Rattle.transcript_lines.specs.declared.last.Last.TheVariants.{Quiet}
use Rattle.kernel_journal.specs.Faults.{IsFirstDifference, IsReplayOf, kinds_in}
use Rattle.kernel_journal.proofs.Replays.{differing-none}
use Rattle.transcript_audit.specs.Audit.{IsAudited, IsDifferent, IsRejected, Bad, Different}
use Rattle.transcript_reader.specs.Lines.{lines_read}
use Rattle.transcript_reader.specs.Text.{AreLines, IsBadLine}
use Rattle.transcript_reader.specs.declared.line.Line.{Line}
use Rattle.transcript_reader.proofs.Texts.{bad_only, lines_only}
use Rattle.transcript_reading.specs.Kinds.{entry_kinds, process_kinds, wire_kinds}
use Rattle.transcript_reading.specs.declared.line.LineKind.{LineKind}
use Rattle.transcript_reading.specs.declared.line.LineKind.TheVariants as kind
use Rattle.transcript_replay.specs.Replay.{IsReplay}

both-ok : (r : Result (List Line) ℕ) (x y : List Line) → r ≡ Ok x → r ≡ Ok y → x ≡ y
both-ok r x y a b = cc

both-bad : (r : Result (List Line) ℕ) (m n : ℕ) → r ≡ Err m → r ≡ Err n → m ≡ n
both-bad r m n a b = cc

ok-bad : (r : Result (List Line) ℕ) (x : List Line) (n : ℕ) → r ≡ Ok x → r ≡ Err n → ⊥
ok-bad r x n a b = cc

same-lines : (bytes : List ℕ) (x y : List Line) → AreLines bytes x → AreLines bytes y → x ≡ y
same-lines bytes x y a b = both-ok (lines_read bytes) x y (lines_only bytes x a) (lines_only bytes y b)

lines-bad : (bytes : List ℕ) (x : List Line) (n : ℕ) → AreLines bytes x → IsBadLine bytes n → ⊥
lines-bad bytes x n are bad = ok-bad (lines_read bytes) x n (lines_only bytes x are) (bad_only bytes n bad)

pub not-both : (bytes : List ℕ) (a : Last) (n : ℕ) → IsAudited bytes a → IsRejected bytes n → ⊥
not-both bytes a n is (Bad bad) = lines-bad bytes is.lines n is.are bad
not-both bytes a n is (Different d) =
    differing-none d.lines n a d.first (subst (λ (x : List Line). IsReplayOf x a) (same-lines bytes is.lines d.lines is.are d.are) is.run.replayed)

-- ---- one last line

abbrev last-of : Last → List LineKind → Last
last-of d [] = d
last-of d (kind.End last ∷ []) = last
last-of d (k ∷ ks) = last-of d ks

last-behind : (d : Last) (ks : List LineKind) (last : Last) → last-of d (ks ++ kind.End last ∷ []) ≡ last
last-behind d [] last = refl
last-behind d (k ∷ ks) last = last-past d k (ks ++ kind.End last ∷ []) (not-none ks (kind.End last)) ∙ last-behind d ks last
  where
    -- a line is left behind the first
    not-none : (xs : List LineKind) (x : LineKind) → xs ++ x ∷ [] ≡ [] → ⊥
    not-none [] x e = absurd cc
    not-none (y ∷ ys) x e = absurd cc

    last-past : (d : Last) (k : LineKind) (ms : List LineKind) → (ms ≡ [] → ⊥) → last-of d (k ∷ ms) ≡ last-of d ms
    last-past d k [] none = absurd (none refl)
    last-past d (kind.First n) (m ∷ ms) none = refl
    last-past d (kind.Kernels n) (m ∷ ms) none = refl
    last-past d (kind.Process p n) (m ∷ ms) none = refl
    last-past d (kind.Wire p q) (m ∷ ms) none = refl
    last-past d (kind.CallEntry stamp kernel p c) (m ∷ ms) none = refl
    last-past d (kind.PacketEntry stamp kernel from picture) (m ∷ ms) none = refl
    last-past d (kind.Service s) (m ∷ ms) none = refl
    last-past d (kind.Note n) (m ∷ ms) none = refl
    last-past d (kind.End l) (m ∷ ms) none = refl

replay-last : (ks : List LineKind) (last : Last) → IsReplay ks last → last-of Quiet ks ≡ last
replay-last ks last r =
    ap (last-of Quiet) r.shown
    ∙ last-behind Quiet (kind.First r.setting.version ∷ kind.Kernels r.setting.kernels ∷ process_kinds 0 r.setting.homes ++ wire_kinds r.setting.wires ++ flat_map entry_kinds r.merged ++ map (λ n. kind.Note n) r.notes) last

pub one-accepted : (bytes : List ℕ) (a b : Last) → IsAudited bytes a → IsAudited bytes b → a ≡ b
one-accepted bytes a b x y =
    let there : IsReplayOf y.lines a = subst (λ (ls : List Line). IsReplayOf ls a) (same-lines bytes x.lines y.lines x.are y.are) x.run.replayed in
    sym (replay-last (kinds_in y.lines) a there) ∙ replay-last (kinds_in y.lines) b y.run.replayed

-- ---- one line that is rejected

-- of two places in a list, one comes first, or they are the same
data Places (xs : List Line) (x : Line) (ys : List Line) (y : Line) : Type 0 where
  Before : (zs : List Line) → ys ≡ xs ++ x ∷ zs → Places xs x ys y
  Same : x ≡ y → Places xs x ys y
  Behind : (zs : List Line) → xs ≡ ys ++ y ∷ zs → Places xs x ys y

abbrev pair-of : Line → List Line → Line × List Line
pair-of x xs = (x, xs)

first-same : (x y : Line) (xs ys : List Line) → x ∷ xs ≡ y ∷ ys → (x ≡ y) × (xs ≡ ys)
first-same x y xs ys e = (cc, cc)

behind-first : (z : Line) (xs ys : List Line) (x y : Line) → Places xs x ys y → Places (z ∷ xs) x (z ∷ ys) y
behind-first z xs ys x y (Before zs e) = Before zs (ap (λ (l : List Line). z ∷ l) e)
behind-first z xs ys x y (Same e) = Same e
behind-first z xs ys x y (Behind zs e) = Behind zs (ap (λ (l : List Line). z ∷ l) e)

places : (xs ys us vs : List Line) (x y : Line) → xs ++ x ∷ us ≡ ys ++ y ∷ vs → Places xs x ys y
places [] [] us vs x y e = Same (first-same x y us vs e).0
places [] (z ∷ ys) us vs x y e = let s = first-same x z us (ys ++ y ∷ vs) e in Before ys (ap (λ (l : Line). l ∷ ys) (sym s.0))
places (z ∷ xs) [] us vs x y e = let s = first-same z y (xs ++ x ∷ us) vs e in Behind xs (ap (λ (l : Line). l ∷ xs) s.0)
places (z ∷ xs) (w ∷ ys) us vs x y e =
    let s = first-same z w (xs ++ x ∷ us) (ys ++ y ∷ vs) e in
    subst (λ (l : Line). Places (z ∷ xs) x (l ∷ ys) y) s.0 (behind-first z xs ys x y (places xs ys us vs x y s.1))

-- what differs behind a line can't have that line differ before it
not-earlier : (m n : ℕ) (lines others : List Line) (a : IsFirstDifference lines m) (b : IsFirstDifference others n) (zs : List Line) → b.before ≡ a.before ++ a.line ∷ zs → ⊥
not-earlier m n lines others a b zs e =
    a.differs.differs (kinds_in zs ++ b.differs.more) b.differs.last
    (subst (λ (ks : List LineKind). IsReplay ks b.differs.last)
    (ap (λ (ls : List Line). kinds_in ls ++ b.differs.more) e ∙ ap (λ (ks : List LineKind). ks ++ b.differs.more) (map-append (λ (l : Line). l.what) a.before (a.line ∷ zs))
    ∙ append_assoc (kinds_in a.before) (a.line.what ∷ kinds_in zs) b.differs.more)
    b.differs.begins)

one-difference : (m n : ℕ) (lines : List Line) (a : IsFirstDifference lines m) (b : IsFirstDifference lines n) → m ≡ n
one-difference m n lines a b = by (places a.before b.before a.behind b.behind a.line b.line (sym a.there ∙ b.there))
  where
    by : Places a.before a.line b.before b.line → m ≡ n
    by (Before zs e) = absurd (not-earlier m n lines lines a b zs e)
    by (Same e) = a.numbered ∙ ap (λ (l : Line). l.number) e ∙ sym b.numbered
    by (Behind zs e) = absurd (not-earlier n m lines lines b a zs e)

pub one-rejected : (bytes : List ℕ) (m n : ℕ) → IsRejected bytes m → IsRejected bytes n → m ≡ n
one-rejected bytes m n (Bad a) (Bad b) = both-bad (lines_read bytes) m n (bad_only bytes m a) (bad_only bytes n b)
one-rejected bytes m n (Bad a) (Different b) = absurd (lines-bad bytes b.lines m b.are a)
one-rejected bytes m n (Different a) (Bad b) = absurd (lines-bad bytes a.lines n a.are b)
one-rejected bytes m n (Different a) (Different b) =
    one-difference m n b.lines (subst (λ (ls : List Line). IsFirstDifference ls m) (same-lines bytes a.lines b.lines a.are b.are) a.first) b.first
