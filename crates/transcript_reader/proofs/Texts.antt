-- The lines that are read of a text are the lines that it is, and the line that is named is the first that cannot stand.
use Rattle.std.proofs.Common.{◌≡◌, ◌⊎◌, inl, inr, ℕ, ◌+◌, true, false, cond, eqb, List, [], ◌∷◌, ◌++◌, length, Result, Ok, Err, refl, sym, ap, subst, ◌∙◌, append_assoc, arith}
use Rattle.std.specs.List.{onto_first, slice_split, join_with_byte}
use Rattle.std.proofs.lemmas.Bool.{eqb-true}
use Rattle.std.proofs.lemmas.List.Splits.{slice_split_at, join_with_byte-slice_split}
use Rattle.charlotte_text.specs.declared.fault.Fault.{Fault}
use Rattle.charlotte_text.specs.Reading.{◌>>=◌, parts, words}
use Rattle.charlotte_text.proofs.Parts.{first_part}
use Rattle.charlotte_text.proofs.Steps.{bind_ok, ok_is, not_ok}
use Rattle.transcript_reading.specs.Forms.{kind_of}
use Rattle.transcript_reading.specs.Order.{Place, Start, Version, Processes, Wires, Entry, Noted, Over, next, follows}
use Rattle.transcript_reading.specs.declared.line.LineKind.{LineKind}
use Rattle.transcript_reader.specs.Lines.{version_after, stand, is_ended, with_all, with_first, then_lines, lines_from, lines_read}
use Rattle.transcript_reading.specs.Spelling.{kind_text, IsKind}
use Rattle.transcript_reader.specs.Text.{kind_line, AreKinds, version_behind, kinds_text, numbered, AreLines, IsBadLine}
use Rattle.transcript_reader.specs.declared.line.Line.{Line}
use Rattle.transcript_forms.proofs.Spelled.{text_takes, text_again, text_free}

-- ---- a text and its first line

-- a text goes on behind a line
pub record GoesOn (bytes text : List ℕ) (ts : List (List ℕ)) : Type 0 where
  pub rest : List ℕ
  pub whole : bytes ≡ text ++ 10 ∷ rest
  pub left : parts 10 rest ≡ ts

abbrev split : List ℕ → List (List ℕ)
split bytes = slice_split (λ b. eqb b 10) bytes

-- the first byte of a line
on_first : (b : ℕ) (ps qs : List (List ℕ)) (h t : List ℕ) (ts : List (List ℕ)) → ps ≡ h ∷ qs → onto_first b ps ≡ t ∷ ts → (b ∷ h ≡ t) × (qs ≡ ts)
on_first b [] qs h t ts e f = absurd cc
on_first b (p ∷ ps) qs h t ts e f = (cc, cc)

goes_on : (bytes text t : List ℕ) (ts : List (List ℕ)) → split bytes ≡ text ∷ t ∷ ts → GoesOn bytes text (t ∷ ts)
goes_on [] text t ts e = absurd cc
goes_on (b ∷ bs) text t ts e =
    elim (eqb b 10) as (λ c. eqb b 10 ≡ c → cond c ([] ∷ split bs) (onto_first b (split bs)) ≡ text ∷ t ∷ ts → GoesOn (b ∷ bs) text (t ∷ ts)) [
      | true ↦ λ is h. ends b bs text t ts (eqb-true b 10 is) h
      | false ↦ λ is h.
          let first = first_part (λ x. eqb x 10) bs in
          let on = on_first b (split bs) first.1 first.0 text (t ∷ ts) first.2 h in
          let more = goes_on bs first.0 t ts (first.2 ∙ ap (λ (x : List (List ℕ)). first.0 ∷ x) on.1) in
          record { rest = more.rest; whole = ap (λ (x : List ℕ). b ∷ x) more.whole ∙ ap (λ (x : List ℕ). x ++ 10 ∷ more.rest) on.0; left = more.left }
    ] refl e
  where
    ends : (c : ℕ) (cs told u : List ℕ) (us : List (List ℕ)) → c ≡ 10 → [] ∷ split cs ≡ told ∷ u ∷ us → GoesOn (c ∷ cs) told (u ∷ us)
    ends c cs told u us is h = let a : [] ≡ told = cc in record { rest = cs; whole = ap (λ (x : ℕ). x ∷ cs) is ∙ ap (λ (x : List ℕ). x ++ 10 ∷ cs) a; left = cc }

-- a text without a line feed
stays : (bytes text : List ℕ) → split bytes ≡ text ∷ [] → bytes ≡ text
stays bytes text e = sym (join_with_byte-slice_split 10 bytes) ∙ ap (join_with_byte 10) e

-- ---- one line

-- a line that may stand
pub record Stands (version : ℕ) (place : Place) (text : List ℕ) (k : LineKind) (p : Place) : Type 0 where
  pub spelled : text ≡ kind_text k
  pub is : IsKind version k
  pub follows : next place k ≡ Ok p

pub stands_read : (version : ℕ) (place : Place) (text : List ℕ) (x : LineKind × Place) → stand version place text ≡ Ok x → Stands version place text x.0 x.1
unfolding stand
stands_read version place text x e =
    let k = bind_ok (kind_of version (words text)) (λ k. next place k >>= λ p. Ok (k, p)) x e in
    let p = bind_ok (next place k.0) (λ p. Ok (k.0, p)) x k.2 in
    let t = text_takes version text k.0 k.1 in
    subst (λ (y : LineKind × Place). Stands version place text y.0 y.1) (ok_is (k.0, p.0) x p.2) (record { spelled = t.0; is = t.1; follows = p.1 })

pub stands_again : (version : ℕ) (place : Place) (k : LineKind) (p : Place) → IsKind version k → next place k ≡ Ok p → stand version place (kind_text k) ≡ Ok (k, p)
unfolding stand
stands_again version place k p is e = rw (text_again version k is, e) refl

-- nothing is left behind the last line
no_length : (text : List ℕ) → length text ≡ 0 → text ≡ []
no_length [] e = refl
no_length (b ∷ bs) e = absurd (omega arith)

ended_is : (place : Place) (text : List ℕ) → is_ended place text ≡ true → (place ≡ Over) × (text ≡ [])
ended_is Over text e = (refl, no_length text (eqb-true (length text) 0 e))
ended_is Start text e = absurd cc
ended_is Version text e = absurd cc
ended_is (Processes kernels processes) text e = absurd cc
ended_is (Wires processes wires) text e = absurd cc
ended_is Entry text e = absurd cc
ended_is (Noted n) text e = absurd cc

-- ---- what is read is a text of lines

record AreFrom (number version : ℕ) (place : Place) (bytes : List ℕ) (ls : List Line) : Type 0 where
  kinds : List LineKind
  counted : ls ≡ numbered number kinds
  spelled : bytes ≡ kinds_text kinds ++ []
  each : AreKinds version kinds
  in_order : follows kinds place ≡ Ok Over

line_whole : (text rest ks : List ℕ) → text ++ 10 ∷ (rest ++ ks) ≡ ((text ++ 10 ∷ []) ++ rest) ++ ks
line_whole text rest ks = simp append_assoc

with_first_ok : (l : Line) (r : Result (List Line) ℕ) (ls : List Line) → with_first l r ≡ Ok ls → (ms : List Line) × (r ≡ Ok ms) × (l ∷ ms ≡ ls)
with_first_ok l (Ok ms) ls e = (ms, refl, cc)
with_first_ok l (Err n) ls e = absurd cc

with_first_err : (l : Line) (r : Result (List Line) ℕ) (n : ℕ) → with_first l r ≡ Err n → r ≡ Err n
with_first_err l (Ok ms) n e = absurd cc
with_first_err l (Err m) n e = cc

first_from : (number version : ℕ) (place : Place) (bytes text rest : List ℕ) (ls ms : List Line) (k : LineKind) (p : Place)
    → Stands version place text k p → bytes ≡ text ++ 10 ∷ rest → record { number = number; what = k } ∷ ms ≡ ls → AreFrom (number + 1) (version_after version k) p rest ms
    → AreFrom number version place bytes ls
unfolding follows
first_from number version place bytes text rest ls ms k p s whole first more = record {
  kinds = k ∷ more.kinds;
  counted = sym first ∙ ap (λ (x : List Line). record { number = number; what = k } ∷ x) more.counted;
  spelled = whole ∙ ap (λ (x : List ℕ). text ++ 10 ∷ x) more.spelled ∙ line_whole text (kinds_text more.kinds) [] ∙ ap (λ (x : List ℕ). ((x ++ 10 ∷ []) ++ kinds_text more.kinds) ++ []) s.spelled;
  each = (s.is, more.each);
  in_order = rw s.follows more.in_order;
}

then_ok : (number : ℕ) (f : LineKind → Place → Result (List Line) ℕ) (r : Result (LineKind × Place) Fault) (ls : List Line) → then_lines number f r ≡ Ok ls
    → (x : LineKind × Place) × (r ≡ Ok x) × (with_first (record { number = number; what = x.0 }) (f x.0 x.1) ≡ Ok ls)
then_ok number f (Ok x) ls e = (x, refl, e)
then_ok number f (Err d) ls e = absurd cc

lines_are : (number version : ℕ) (place : Place) (ts : List (List ℕ)) (bytes : List ℕ) (ls : List Line) → split bytes ≡ ts → lines_from number version place ts ≡ Ok ls → AreFrom number version place bytes ls
unfolding lines_from follows
lines_are number version place [] bytes ls s e = absurd cc
lines_are number version place (text ∷ []) bytes ls s e =
    elim (is_ended place text) as (λ b. is_ended place text ≡ b → cond b (Ok []) (Err number) ≡ Ok ls → AreFrom number version place bytes ls) [
      | true ↦ λ is h.
          let end = ended_is place text is in
          record { kinds = []; counted = cc; spelled = stays bytes text s ∙ end.1; each = tt; in_order = ap Ok end.0 }
      | false ↦ λ is h. absurd cc
    ] refl e
lines_are number version place (text ∷ t ∷ ts) bytes ls s e =
    let more = goes_on bytes text t ts s in
    let a = then_ok number (λ k p. lines_from (number + 1) (version_after version k) p (t ∷ ts)) (stand version place text) ls e in
    let b = with_first_ok (record { number = number; what = a.0.0 }) (lines_from (number + 1) (version_after version a.0.0) a.0.1 (t ∷ ts)) ls a.2 in
    first_from number version place bytes text more.rest ls b.0 a.0.0 a.0.1 (stands_read version place text a.0 a.1) more.whole b.2
    (lines_are (number + 1) (version_after version a.0.0) a.0.1 (t ∷ ts) more.rest b.0 more.left b.1)

pub lines_found : (bytes : List ℕ) (ls : List Line) → lines_read bytes ≡ Ok ls → AreLines bytes ls
lines_found bytes ls e =
    let are = lines_are 1 0 Start (split bytes) bytes ls refl e in
    record { kinds = are.kinds; counted = are.counted; whole = record { spelled = are.spelled; kinds = are.each; in_order = are.in_order } }

-- ---- the line that is named is bad

record IsBadFrom (number version : ℕ) (place : Place) (bytes : List ℕ) (n : ℕ) : Type 0 where
  before : List LineKind
  behind : Place
  rest : List ℕ
  spelled : bytes ≡ kinds_text before ++ rest
  each : AreKinds version before
  in_order : follows before place ≡ Ok behind
  counted : n ≡ length before + number
  unended : behind ≡ Over → rest ≡ [] → ⊥
  none : (k : LineKind) (p : Place) (more : List ℕ) → IsKind (version_behind version before) k → next behind k ≡ Ok p → rest ≡ kind_line k ++ more → ⊥

-- a line that is spelled is the first of a text that begins with it
begins_so : (version : ℕ) (k : LineKind) (bytes more text : List ℕ) (ts : List (List ℕ)) → IsKind version k → bytes ≡ kind_line k ++ more → split bytes ≡ text ∷ ts → (text ≡ kind_text k) × (ts ≡ split more)
begins_so version k bytes more text ts is e s =
    let first : split bytes ≡ kind_text k ∷ split more = ap split (e ∙ append_assoc (kind_text k) (10 ∷ []) more) ∙ slice_split_at (λ b. eqb b 10) (kind_text k) 10 more (text_free version k is) refl in
    (cc, cc)

-- nothing that has a line feed is empty
not_empty : (text rest : List ℕ) → text ++ 10 ∷ rest ≡ [] → ⊥
not_empty [] rest e = cc
not_empty (b ∷ bs) rest e = cc

not_ended : (place : Place) (text : List ℕ) → is_ended place text ≡ false → place ≡ Over → text ≡ [] → ⊥
not_ended place text e p t = let h : is_ended Over [] ≡ false = rw (p, t) at e in cc

some_text : (more : List ℕ) → [] ≡ split more → ⊥
some_text more e = let first = first_part (λ b. eqb b 10) more in cc

then_err : (number : ℕ) (f : LineKind → Place → Result (List Line) ℕ) (r : Result (LineKind × Place) Fault) (n : ℕ) → then_lines number f r ≡ Err n
    → ((d : Fault) × (r ≡ Err d) × (n ≡ number)) ⊎ ((x : LineKind × Place) × (r ≡ Ok x) × (f x.0 x.1 ≡ Err n))
then_err number f (Ok x) n e = inr (x, refl, with_first_err (record { number = number; what = x.0 }) (f x.0 x.1) n e)
then_err number f (Err d) n e = inl (d, refl, cc)

-- the text that is left cannot be a line
last_bad : (number version : ℕ) (place : Place) (bytes text : List ℕ) → split bytes ≡ text ∷ [] → is_ended place text ≡ false → IsBadFrom number version place bytes number
unfolding follows
last_bad number version place bytes text s denied = record {
  before = [];
  behind = place;
  rest = bytes;
  spelled = refl;
  each = tt;
  in_order = refl;
  counted = omega arith;
  unended = λ p e. not_ended place text denied p (sym (stays bytes text s) ∙ e);
  none = λ k p more is n e. some_text more (begins_so version k bytes more text [] is e s).1;
}

-- the line cannot stand
line_bad : (number version : ℕ) (place : Place) (bytes text t : List ℕ) (ts : List (List ℕ)) (d : Fault) → split bytes ≡ text ∷ t ∷ ts → stand version place text ≡ Err d → IsBadFrom number version place bytes number
unfolding follows
line_bad number version place bytes text t ts d s denied =
    let more = goes_on bytes text t ts s in
    record {
      before = [];
      behind = place;
      rest = bytes;
      spelled = refl;
      each = tt;
      in_order = refl;
      counted = omega arith;
      unended = λ p e. not_empty text more.rest (sym more.whole ∙ e);
      none = λ k p others is n e. not_ok (k, p) d (sym denied ∙ ap (stand version place) (begins_so version k bytes others text (t ∷ ts) is e s).0 ∙ stands_again version place k p is n);
    }

first_bad : (number version : ℕ) (place : Place) (bytes text rest : List ℕ) (n : ℕ) (k : LineKind) (p : Place)
    → Stands version place text k p → bytes ≡ text ++ 10 ∷ rest → IsBadFrom (number + 1) (version_after version k) p rest n → IsBadFrom number version place bytes n
unfolding follows
first_bad number version place bytes text rest n k p s whole more = record {
  before = k ∷ more.before;
  behind = more.behind;
  rest = more.rest;
  spelled = whole ∙ ap (λ (x : List ℕ). text ++ 10 ∷ x) more.spelled ∙ line_whole text (kinds_text more.before) more.rest ∙ ap (λ (x : List ℕ). ((x ++ 10 ∷ []) ++ kinds_text more.before) ++ more.rest) s.spelled;
  each = (s.is, more.each);
  in_order = rw s.follows more.in_order;
  counted = omega (arith, more.counted);
  unended = more.unended;
  none = more.none;
}

-- no line, and a number
abbrev pub no_lines : Result (List Line) ℕ
no_lines = Ok []

bad_line : (number version : ℕ) (place : Place) (ts : List (List ℕ)) (bytes : List ℕ) (n : ℕ) → split bytes ≡ ts → lines_from number version place ts ≡ Err n → IsBadFrom number version place bytes n
unfolding lines_from
bad_line number version place [] bytes n s e = absurd (some_text bytes (sym s))
bad_line number version place (text ∷ []) bytes n s e =
    elim (is_ended place text) as (λ b. is_ended place text ≡ b → cond b no_lines (Err number) ≡ Err n → IsBadFrom number version place bytes n) [
      | true ↦ λ is h. absurd cc
      | false ↦ λ is h. let same : number ≡ n = cc in subst (IsBadFrom number version place bytes) same (last_bad number version place bytes text s is)
    ] refl e
bad_line number version place (text ∷ t ∷ ts) bytes n s e =
    elim (then_err number (λ k p. lines_from (number + 1) (version_after version k) p (t ∷ ts)) (stand version place text) n e) [
      | inl h ↦ subst (IsBadFrom number version place bytes) (sym h.2) (line_bad number version place bytes text t ts h.0 s h.1)
      | inr h ↦
          let more = goes_on bytes text t ts s in
          first_bad number version place bytes text more.rest n h.0.0 h.0.1 (stands_read version place text h.0 h.1) more.whole
          (bad_line (number + 1) (version_after version h.0.0) h.0.1 (t ∷ ts) more.rest n more.left h.2)
    ]

pub bad_found : (bytes : List ℕ) (n : ℕ) → lines_read bytes ≡ Err n → IsBadLine bytes n
bad_found bytes n e =
    let bad = bad_line 1 0 Start (split bytes) bytes n refl e in
    record {
      before = bad.before;
      place = bad.behind;
      rest = bad.rest;
      begins = record { spelled = bad.spelled; kinds = bad.each; in_order = bad.in_order };
      counted = bad.counted;
      unended = bad.unended;
      none = bad.none;
    }

-- ---- a text of lines is read

pub all_ok : (ls : List Line) → with_all ls (Ok []) ≡ Ok ls
all_ok [] = refl
all_ok (l ∷ ls) = ap (with_first l) (all_ok ls)

pub all_err : (ls : List Line) (n : ℕ) → with_all ls (Err n) ≡ Err n
all_err [] n = refl
all_err (l ∷ ls) n = ap (with_first l) (all_err ls n)

lines_more : (number version : ℕ) (place : Place) (text : List ℕ) (ps : List (List ℕ)) (t : List ℕ) (ts : List (List ℕ)) → ps ≡ t ∷ ts
    → lines_from number version place (text ∷ ps) ≡ then_lines number (λ k p. lines_from (number + 1) (version_after version k) p ps) (stand version place text)
unfolding lines_from
lines_more number version place text ps t ts e = rw e refl

line_split : (version : ℕ) (k : LineKind) (more rest : List ℕ) → IsKind version k → split ((kind_line k ++ more) ++ rest) ≡ kind_text k ∷ split (more ++ rest)
line_split version k more rest is =
    ap split (sym (line_whole (kind_text k) more rest)) ∙ slice_split_at (λ b. eqb b 10) (kind_text k) 10 (more ++ rest) (text_free version k is) refl

walk : (ks : List LineKind) (number version : ℕ) (place q : Place) (rest : List ℕ) → AreKinds version ks → follows ks place ≡ Ok q
    → lines_from number version place (split (kinds_text ks ++ rest)) ≡ with_all (numbered number ks) (lines_from (length ks + number) (version_behind version ks) q (split rest))
unfolding follows
walk [] number version place q rest are e =
    let none : number ≡ 0 + number = omega arith in
    ap (λ (x : Place). lines_from number version x (split rest)) (ok_is place q e) ∙ ap (λ (m : ℕ). lines_from m version q (split rest)) none
walk (k ∷ ks) number version place q rest are e =
    let p = bind_ok (next place k) (follows ks) q e in
    let first = first_part (λ b. eqb b 10) (kinds_text ks ++ rest) in
    let others = walk ks (number + 1) (version_after version k) p.0 q rest are.1 p.2 in
    let count : length ks + (number + 1) ≡ length (k ∷ ks) + number = omega arith in
    ap (lines_from number version place) (line_split version k (kinds_text ks) rest are.0)
    ∙ lines_more number version place (kind_text k) (split (kinds_text ks ++ rest)) first.0 first.1 first.2
    ∙ ap (then_lines number (λ k p. lines_from (number + 1) (version_after version k) p (split (kinds_text ks ++ rest)))) (stands_again version place k p.0 are.0 p.1)
    ∙ ap (with_first (record { number = number; what = k })) (others ∙ ap (λ (m : ℕ). with_all (numbered (number + 1) ks) (lines_from m (version_behind (version_after version k) ks) q (split rest))) count)

done_over : (number version : ℕ) → lines_from number version Over (split []) ≡ Ok []
unfolding lines_from
done_over number version = refl

pub lines_only : (bytes : List ℕ) (ls : List Line) → AreLines bytes ls → lines_read bytes ≡ Ok ls
lines_only bytes ls are =
    ap (λ (x : List ℕ). lines_from 1 0 Start (split x)) are.whole.spelled ∙ walk are.kinds 1 0 Start Over [] are.whole.kinds are.whole.in_order
    ∙ ap (with_all (numbered 1 are.kinds)) (done_over (length are.kinds + 1) (version_behind 0 are.kinds)) ∙ all_ok (numbered 1 are.kinds) ∙ ap Ok (sym are.counted)

cannot : (number version : ℕ) (place : Place) (rest : List ℕ) (ts : List (List ℕ)) → split rest ≡ ts → (place ≡ Over → rest ≡ [] → ⊥)
    → ((k : LineKind) (p : Place) (more : List ℕ) → IsKind version k → next place k ≡ Ok p → rest ≡ kind_line k ++ more → ⊥) → lines_from number version place ts ≡ Err number
unfolding lines_from
cannot number version place rest [] s denied none = refl
cannot number version place rest (text ∷ []) s denied none =
    elim (is_ended place text) as (λ b. is_ended place text ≡ b → cond b no_lines (Err number) ≡ Err number) [
      | true ↦ λ is. let end = ended_is place text is in absurd (denied end.0 (stays rest text s ∙ end.1))
      | false ↦ λ is. refl
    ] refl
cannot number version place rest (text ∷ t ∷ ts) s denied none = by_stand (stand version place text) refl
  where
    more : GoesOn rest text (t ∷ ts)
    more = goes_on rest text t ts s

    by_stand : (r : Result (LineKind × Place) Fault) → stand version place text ≡ r
        → then_lines number (λ k p. lines_from (number + 1) (version_after version k) p (t ∷ ts)) r ≡ Err number
    by_stand (Err d) is = refl
    by_stand (Ok x) is =
        let st = stands_read version place text x is in
        absurd (none x.0 x.1 more.rest st.is st.follows (more.whole ∙ ap (λ (y : List ℕ). y ++ 10 ∷ more.rest) st.spelled ∙ sym (append_assoc (kind_text x.0) (10 ∷ []) more.rest)))

pub bad_only : (bytes : List ℕ) (n : ℕ) → IsBadLine bytes n → lines_read bytes ≡ Err n
bad_only bytes n bad =
    ap (λ (x : List ℕ). lines_from 1 0 Start (split x)) bad.begins.spelled ∙ walk bad.before 1 0 Start bad.place bad.rest bad.begins.kinds bad.begins.in_order
    ∙ ap (with_all (numbered 1 bad.before)) (cannot (length bad.before + 1) (version_behind 0 bad.before) bad.place bad.rest (split bad.rest) refl bad.unended bad.none)
    ∙ all_err (numbered 1 bad.before) (length bad.before + 1) ∙ ap Err (sym bad.counted)
