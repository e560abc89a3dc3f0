-- The clauses of the reader, and the lines that are left.
use Rattle.std.proofs.Common.{◌≡◌, ℕ, ◌+◌, ◌<◌, ◌≤◌, true, false, cond, eqb, Bool, List, [], ◌∷◌, ◌++◌, length, Option, Some, None, Result, Ok, Err, refl, sym, ap, subst, ◌∙◌, arith}
use Rattle.std.specs.Prelude.{IfOk, IfErr}
use Rattle.std.specs.Global.{Vec}
use Rattle.std.proofs.lemmas.List.Sums.{count_by-le-length}
use Rattle.std.proofs.lemmas.List.Splits.{length-slice_split}
use Rattle.charlotte_text.specs.declared.fault.Fault.{Fault}
use Rattle.charlotte_text.specs.Reading.{parts}
use Rattle.charlotte_text.proofs.Parts.{first_part}
use Rattle.transcript_reading.specs.Order.{Place, Start, Version, Processes, Wires, Entry, Noted, Over, next}
use Rattle.transcript_reading.specs.declared.line.LineKind.{LineKind}
use Rattle.transcript_reader.specs.declared.fault.LineFault.{LineFault}
use Rattle.transcript_reader.specs.declared.fault.LineFault.TheVariants.{BadLine, NoMemory}
use Rattle.transcript_reader.specs.declared.line.Line.{Line}
use Rattle.transcript_reader.specs.Lines.{Unread, version_after, stand, is_ended, stood, first_text, next_line, with_all, with_first, then_lines, lines_from, lines_left, lines_read, GivesNext, GivesLines}
use Rattle.transcript_reader.specs.Text.{AreLines, IsBadLine, IsFaultOf}
use Rattle.transcript_reader.proofs.Texts.{no_lines, Stands, stands_read, all_ok, all_err, lines_found, bad_found, lines_only, bad_only}

-- ---- the clauses

pub found_of : (bytes : List ℕ) (r : Result (Vec Line) LineFault) → GivesLines (lines_read bytes) r → IfOk r (λ lines. AreLines bytes lines.items)
found_of bytes (Ok v) g = lines_found bytes v.items g
found_of bytes (Err e) g = tt

pub only_of : (bytes : List ℕ) (r : Result (Vec Line) LineFault) (ls : List Line) → GivesLines (lines_read bytes) r → AreLines bytes ls → GivesLines (Ok ls) r
only_of bytes r ls g are = subst (λ (x : Result (List Line) ℕ). GivesLines x r) (lines_only bytes ls are) g

pub fault_of : (bytes : List ℕ) (r : Result (Vec Line) LineFault) → GivesLines (lines_read bytes) r → IfErr r (IsFaultOf bytes)
fault_of bytes (Ok v) g = tt
fault_of bytes (Err (BadLine n)) g = bad_found bytes n g
fault_of bytes (Err NoMemory) g = tt

pub only_fault_of : (bytes : List ℕ) (r : Result (Vec Line) LineFault) (n : ℕ) → GivesLines (lines_read bytes) r → IsBadLine bytes n → GivesLines (Err n) r
only_fault_of bytes r n g is = subst (λ (x : Result (List Line) ℕ). GivesLines x r) (bad_only bytes n is) g

-- ---- one line of those that are left

pub few_lines : (bytes : List ℕ) → length (parts 10 bytes) ≤ length bytes + 1
few_lines bytes = omega (arith, length-slice_split (λ b. eqb b 10) bytes, count_by-le-length (λ b. eqb b 10) bytes)

pub some_text : (bytes : List ℕ) → 0 < length (parts 10 bytes)
some_text bytes = let first = first_part (λ b. eqb b 10) bytes in rw first.2 (omega arith)

-- a text with a line feed
first_line : (number version : ℕ) (place : Place) (text rest : List ℕ) → first_text number version place (text ∷ parts 10 rest) ≡ stood number (parts 10 rest) version (stand version place text)
first_line number version place text rest = let first = first_part (λ b. eqb b 10) rest in more (parts 10 rest) first.0 first.1 first.2
  where
    more : (ps : List (List ℕ)) (t : List ℕ) (ts : List (List ℕ)) → ps ≡ t ∷ ts → first_text number version place (text ∷ ps) ≡ stood number ps version (stand version place text)
    more ps t ts e = rw e refl

-- a line that may stand
pub next_stood : (u : Unread) (lines version : ℕ) (place : Place) (bytes text rest : List ℕ) (k : LineKind) (p : Place) (v : ℕ)
    → u ≡ record { lines = lines; version = version; place = place; texts = parts 10 bytes } → parts 10 bytes ≡ text ∷ parts 10 rest → stand version place text ≡ Ok (k, p) → v ≡ version_after version k
    → next_line u ≡ Ok (Some (record { number = lines + 1; what = k }, record { lines = lines + 1; version = v; place = p; texts = parts 10 rest }))
unfolding next_line
next_stood u lines version place bytes text rest k p v seen split stands told =
    ap next_line seen ∙ ap (first_text (lines + 1) version place) split ∙ first_line (lines + 1) version place text rest ∙ ap (stood (lines + 1) (parts 10 rest) version) stands
    ∙ ap (λ (x : ℕ). Ok (Some (record { number = lines + 1; what = k }, record { lines = lines + 1; version = x; place = p; texts = parts 10 rest }))) (sym told)

-- a line that cannot stand
pub next_fails : (u : Unread) (lines version : ℕ) (place : Place) (bytes text rest : List ℕ) (d : Fault)
    → u ≡ record { lines = lines; version = version; place = place; texts = parts 10 bytes } → parts 10 bytes ≡ text ∷ parts 10 rest → stand version place text ≡ Err d → next_line u ≡ Err (lines + 1)
unfolding next_line
next_fails u lines version place bytes text rest d seen split fails =
    ap next_line seen ∙ ap (first_text (lines + 1) version place) split ∙ first_line (lines + 1) version place text rest ∙ ap (stood (lines + 1) (parts 10 rest) version) fails

abbrev given : Line → Unread → Result (Option (Line × Unread)) ℕ
given l u = Ok (Some (l, u))

abbrev both : Line → Unread → Line × Unread
both l u = (l, u)

-- what is left behind a line
record IsFirst (number version : ℕ) (place : Place) (ts : List (List ℕ)) (l : Line) (u : Unread) : Type 0 where
  lines : lines_from number version place ts ≡ with_first l (lines_left u)
  fewer : length u.texts < length ts

pair_is : (l m : Line) (u w : Unread) → given l u ≡ given m w → (l ≡ m) × (u ≡ w)
pair_is l m u w e =
    let same : both l u ≡ both m w = cc in
    (ap (λ (x : Line × Unread). x.0) same, ap (λ (x : Line × Unread). x.1) same)

first_more : (number version : ℕ) (place : Place) (text t : List ℕ) (ts : List (List ℕ)) (l : Line) (u : Unread) (r : Result (LineKind × Place) Fault) → stand version place text ≡ r
    → stood number (t ∷ ts) version r ≡ given l u → IsFirst number version place (text ∷ t ∷ ts) l u
unfolding lines_from
first_more number version place text t ts l u (Ok x) is e =
    let m : Line = record { number = number; what = x.0 } in
    let w : Unread = record { lines = number; version = version_after version x.0; place = x.1; texts = t ∷ ts } in
    let same = pair_is m l w u e in
    subst (λ (y : Unread). IsFirst number version place (text ∷ t ∷ ts) l y) same.1
    (subst (λ (y : Line). IsFirst number version place (text ∷ t ∷ ts) y w) same.0
    (record { lines = ap (then_lines number (λ k p. lines_from (number + 1) (version_after version k) p (t ∷ ts))) is; fewer = omega arith }))
first_more number version place text t ts l u (Err d) is e = absurd cc

first_of_texts : (number version : ℕ) (place : Place) (ts : List (List ℕ)) (l : Line) (u : Unread) → first_text number version place ts ≡ given l u → IsFirst number version place ts l u
first_of_texts number version place [] l u e = absurd cc
first_of_texts number version place (text ∷ []) l u e =
    elim (is_ended place text) as (λ b. cond b (Ok None) (Err number) ≡ given l u → IsFirst number version place (text ∷ []) l u) [ true ↦ λ h. absurd cc | false ↦ λ h. absurd cc ] e
first_of_texts number version place (text ∷ t ∷ ts) l u e = first_more number version place text t ts l u (stand version place text) refl e

pub next_some : (old new : Unread) (l : Line) → next_line old ≡ Ok (Some (l, new)) → (lines_left old ≡ with_first l (lines_left new)) × (length new.texts < length old.texts)
unfolding next_line
next_some old new l e = let is = first_of_texts (old.lines + 1) old.version old.place old.texts l new e in (is.lines, is.fewer)

abbrev no_more : Result (Option (Line × Unread)) ℕ
no_more = Ok None

none_of_texts : (number version : ℕ) (place : Place) (ts : List (List ℕ)) → first_text number version place ts ≡ no_more → lines_from number version place ts ≡ Ok []
unfolding lines_from
none_of_texts number version place [] e = absurd cc
none_of_texts number version place (text ∷ []) e =
    elim (is_ended place text) as (λ b. cond b (Ok None) (Err number) ≡ no_more → cond b no_lines (Err number) ≡ Ok []) [ true ↦ λ h. refl | false ↦ λ h. absurd cc ] e
none_of_texts number version place (text ∷ t ∷ ts) e = absurd (not_none (stand version place text) e)
  where
    not_none : (r : Result (LineKind × Place) Fault) → stood number (t ∷ ts) version r ≡ no_more → ⊥
    not_none (Ok x) h = cc
    not_none (Err d) h = cc

pub next_none : (old : Unread) → next_line old ≡ Ok None → lines_left old ≡ Ok []
unfolding next_line
next_none old e = none_of_texts (old.lines + 1) old.version old.place old.texts e

abbrev bad : ℕ → Result (Option (Line × Unread)) ℕ
bad n = Err n

bad_of_texts : (number version : ℕ) (place : Place) (ts : List (List ℕ)) (n : ℕ) → first_text number version place ts ≡ bad n → lines_from number version place ts ≡ Err n
unfolding lines_from
bad_of_texts number version place [] n e = cc
bad_of_texts number version place (text ∷ []) n e =
    elim (is_ended place text) as (λ b. cond b (Ok None) (Err number) ≡ bad n → cond b no_lines (Err number) ≡ Err n) [ true ↦ λ h. absurd cc | false ↦ λ h. cc ] e
bad_of_texts number version place (text ∷ t ∷ ts) n e = by_stand (stand version place text) e
  where
    by_stand : (r : Result (LineKind × Place) Fault) → stood number (t ∷ ts) version r ≡ bad n → then_lines number (λ k p. lines_from (number + 1) (version_after version k) p (t ∷ ts)) r ≡ Err n
    by_stand (Ok x) h = absurd cc
    by_stand (Err d) h = cc

pub next_bad : (old : Unread) (n : ℕ) → next_line old ≡ Err n → lines_left old ≡ Err n
unfolding next_line
next_bad old n e = bad_of_texts (old.lines + 1) old.version old.place old.texts n e

-- ---- lines that were read, and those that are left

push_all : (ls : List Line) (l : Line) (r : Result (List Line) ℕ) → with_all ls (with_first l r) ≡ with_all (ls ++ l ∷ []) r
push_all [] l r = refl
push_all (m ∷ ls) l r = ap (with_first m) (push_all ls l r)

pub line_goes_on : (ls : List Line) (l : Line) (old new : Unread) (total : Result (List Line) ℕ) → next_line old ≡ Ok (Some (l, new)) → with_all ls (lines_left old) ≡ total → with_all (ls ++ l ∷ []) (lines_left new) ≡ total
line_goes_on ls l old new total e so_far = sym (push_all ls l (lines_left new)) ∙ ap (with_all ls) (sym (next_some old new l e).0) ∙ so_far

pub lines_end : (ls : List Line) (old : Unread) (total : Result (List Line) ℕ) → next_line old ≡ Ok None → with_all ls (lines_left old) ≡ total → total ≡ Ok ls
lines_end ls old total e so_far = sym so_far ∙ ap (with_all ls) (next_none old e) ∙ all_ok ls

pub lines_fail : (ls : List Line) (old : Unread) (n : ℕ) (total : Result (List Line) ℕ) → next_line old ≡ Err n → with_all ls (lines_left old) ≡ total → total ≡ Err n
lines_fail ls old n total e so_far = sym so_far ∙ ap (with_all ls) (next_bad old n e) ∙ all_err ls n

-- a reader's fault is what is answered
pub gives_fault : (ls : List Line) (old new : Unread) (e : LineFault) (total : Result (List Line) ℕ) → GivesNext old (Err e) new → with_all ls (lines_left old) ≡ total → GivesLines total (Err e)
gives_fault ls old new (BadLine n) total g so_far = lines_fail ls old n total g.0 so_far
gives_fault ls old new NoMemory total g so_far = absurd g

-- no line is left
pub gives_all : (ls : List Line) (old new : Unread) (o : Option Line) (total : Result (List Line) ℕ) → ((l : Line) → o ≡ Some l → ⊥) → GivesNext old (Ok o) new → with_all ls (lines_left old) ≡ total → total ≡ Ok ls
gives_all ls old new None total none g so_far = lines_end ls old total g.0 so_far
gives_all ls old new (Some l) total none g so_far = absurd (none l refl)

-- ---- the place behind a line, and behind all

stood_follows : (number version : ℕ) (place : Place) (text : List ℕ) (ts : List (List ℕ)) (l : Line) (u : Unread) (r : Result (LineKind × Place) Fault) → stand version place text ≡ r → stood number ts version r ≡ given l u → next place l.what ≡ Ok u.place
stood_follows number version place text ts l u (Ok x) is e =
    let m : Line = record { number = number; what = x.0 } in
    let w : Unread = record { lines = number; version = version_after version x.0; place = x.1; texts = ts } in
    let same = pair_is m l w u e in
    let stands : Stands version place text x.0 x.1 = stands_read version place text x is in
    ap (λ (y : Line). next place y.what) (sym same.0) ∙ stands.follows ∙ ap (λ (y : Unread). Ok y.place) same.1
stood_follows number version place text ts l u (Err d) is e = absurd cc

first_follows : (number version : ℕ) (place : Place) (ts : List (List ℕ)) (l : Line) (u : Unread) → first_text number version place ts ≡ given l u → next place l.what ≡ Ok u.place
first_follows number version place [] l u e = absurd cc
first_follows number version place (text ∷ []) l u e =
    elim (is_ended place text) as (λ b. cond b (Ok None) (Err number) ≡ given l u → next place l.what ≡ Ok u.place) [ true ↦ λ h. absurd cc | false ↦ λ h. absurd cc ] e
first_follows number version place (text ∷ t ∷ ts) l u e = stood_follows number version place text (t ∷ ts) l u (stand version place text) refl e

-- a line that is read may stand where it stands
pub next_follows : (old new : Unread) (l : Line) → next_line old ≡ Ok (Some (l, new)) → next old.place l.what ≡ Ok new.place
unfolding next_line
next_follows old new l e = first_follows (old.lines + 1) old.version old.place old.texts l new e

not_over : (number : ℕ) (b : Bool) → false ≡ b → cond b no_more (Err number) ≡ no_more → ⊥
not_over number true is e = cc
not_over number false is e = cc

ended_over : (number : ℕ) (place : Place) (text : List ℕ) (b : Bool) → is_ended place text ≡ b → cond b no_more (Err number) ≡ no_more → place ≡ Over
ended_over number Over text b is e = refl
ended_over number Start text b is e = absurd (not_over number b is e)
ended_over number Version text b is e = absurd (not_over number b is e)
ended_over number (Processes m n) text b is e = absurd (not_over number b is e)
ended_over number (Wires m n) text b is e = absurd (not_over number b is e)
ended_over number Entry text b is e = absurd (not_over number b is e)
ended_over number (Noted m) text b is e = absurd (not_over number b is e)

all_over : (number version : ℕ) (place : Place) (ts : List (List ℕ)) → first_text number version place ts ≡ no_more → place ≡ Over
all_over number version place [] e = absurd cc
all_over number version place (text ∷ []) e = ended_over number place text (is_ended place text) refl e
all_over number version place (text ∷ t ∷ ts) e = absurd (not_none (stand version place text) e)
  where
    not_none : (r : Result (LineKind × Place) Fault) → stood number (t ∷ ts) version r ≡ no_more → ⊥
    not_none (Ok x) h = cc
    not_none (Err d) h = cc

-- all lines were read behind the last one alone
pub next_over : (old : Unread) → next_line old ≡ Ok None → old.place ≡ Over
unfolding next_line
next_over old e = all_over (old.lines + 1) old.version old.place old.texts e
