-- The next line, where it is the one that is expected.
use Rattle.std.proofs.Common.{◌≡◌, eqb, Bool, true, false, MatchBool, ℕ, ◌+◌, ◌<◌, List, ◌∷◌, ◌++◌, length, Some, Ok, refl, sym, ap, subst, ◌∙◌, arith}
use Rattle.std.proofs.lemmas.Bool.{lt-ltb}
use Rattle.std.proofs.lemmas.List.Splits.{slice_split_at}
use Rattle.charlotte_text.specs.Reading.{parts}
use Rattle.transcript_reading.specs.Spelling.{IsKind, kind_text}
use Rattle.transcript_forms.proofs.Spelled.{text_free}
use Rattle.transcript_lines.specs.Transcript.{note_text}
use Rattle.transcript_lines.specs.TranscriptText.{IsNoteInRange}
use Rattle.transcript_lines.specs.declared.last.ScriptNote.{ScriptNote}
use Rattle.transcript_reading.specs.Order.{Entry, Noted, Place, next}
use Rattle.transcript_reading.specs.declared.line.LineKind.{LineKind}
use Rattle.transcript_reading.specs.declared.line.LineKind.TheVariants as kind
use Rattle.transcript_reader.specs.Lines.{Unread, next_line, stand, version_after}
use Rattle.transcript_reader.specs.Next.{IsAhead, Reads, ReadsNote, Skips}
use Rattle.transcript_reader.proofs.Clauses.{next_stood}
use Rattle.transcript_reader.proofs.Texts.{stands_again}

-- what is left behind a line of entries
abbrev pub passed : Unread → List ℕ → Unread
passed u rest = record { lines = u.lines + 1; version = u.version; place = u.place; texts = parts 10 rest }

-- such a line tells no version
same_version : (version : ℕ) (k : LineKind) → next Entry k ≡ Ok Entry → version ≡ version_after version k
unfolding next
same_version version (kind.First told) e = absurd cc
same_version version (kind.Kernels kernels) e = refl
same_version version (kind.Process p kernel) e = refl
same_version version (kind.Wire first second) e = refl
same_version version (kind.CallEntry stamp kernel p c) e = refl
same_version version (kind.PacketEntry stamp kernel from picture) e = refl
same_version version (kind.Service s) e = refl
same_version version (kind.Note note) e = refl
same_version version (kind.End last) e = refl

-- the line is the first of those that are left
first_is : (u : Unread) (k : LineKind) (left rest : List ℕ) → IsAhead u k left → left ≡ 10 ∷ rest → u.texts ≡ kind_text k ∷ parts 10 rest
first_is u k left rest is e =
    is.texts ∙ ap (λ (l : List ℕ). parts 10 (kind_text k ++ l)) e ∙ slice_split_at (λ b. eqb b 10) (kind_text k) 10 rest (text_free u.version k is.kind) refl

-- there are no more lines than can be counted
pub fewer : (u : Unread) (k : LineKind) (bytes left rest : List ℕ) → u.texts ≡ parts 10 bytes → left ≡ 10 ∷ rest → IsAhead u k left → u.lines + length (parts 10 bytes) < 4294967296 → u.lines + 1 + length (parts 10 rest) < 4294967296
fewer u k bytes left rest texts e is few = omega (arith, few, ap length (sym texts ∙ first_is u k left rest is e))

-- a line that a text begins with is ahead
pub ahead : (u : Unread) (lines version : ℕ) (place : Place) (bytes left : List ℕ) (k : LineKind) → record { lines = lines; version = version; place = place; texts = parts 10 bytes } ≡ u
    → bytes ≡ kind_text k ++ left → IsKind version k → next Entry k ≡ Ok Entry → IsAhead u k left
ahead u lines version place bytes left k seen spelled fits stands = subst (λ (w : Unread). IsAhead w k left) seen (record { texts = ap (parts 10) spelled; kind = fits; stands = stands })

-- a line that was passed is the next one
pub read_line : (old new : Unread) (k : LineKind) (number : ℕ) → Reads old k new → number ≡ new.lines → next_line old ≡ Ok (Some (record { number = number; what = k }, new))
read_line old new k number is e = is.line ∙ ap (λ (n : ℕ). Ok (Some (record { number = n; what = k }, new))) (sym (e ∙ is.counted))

-- it was passed, or nothing was
pub skipped : (b : Bool) (old new : Unread) (k : LineKind) (left : List ℕ) → IsAhead old k left → MatchBool b ((l : LineKind) → IsAhead old l left → Reads old l new) (new ≡ old) → MatchBool b (Skips old new) (new ≡ old)
skipped true old new k left is reads = (record { number = old.lines + 1; what = k }, (reads k is).line)
skipped false old new k left is same = same

-- ---- notes

-- a note is the first of the texts that are left
pub note_first : (bytes left rest : List ℕ) (n : ScriptNote) → bytes ≡ note_text n ++ left → left ≡ 10 ∷ rest → IsNoteInRange n → parts 10 bytes ≡ note_text n ∷ parts 10 rest
note_first bytes left rest n e f fits = ap (parts 10) (e ∙ ap (λ (l : List ℕ). note_text n ++ l) f) ∙ slice_split_at (λ b. eqb b 10) (note_text n) 10 rest (text_free 0 (kind.Note n) fits) refl

note_stands : (before : ℕ) (n : ScriptNote) → before < n.line → next (Noted before) (kind.Note n) ≡ Ok (Noted n.line)
unfolding next
note_stands before n later = rw (lt-ltb _ _ later) refl

-- there are no more lines than can be counted
pub note_fewer : (lines : ℕ) (bytes left rest : List ℕ) (n : ScriptNote) → bytes ≡ note_text n ++ left → left ≡ 10 ∷ rest → IsNoteInRange n → lines + length (parts 10 bytes) < 4294967296 → lines + 1 + length (parts 10 rest) < 4294967296
note_fewer lines bytes left rest n e f fits few = omega (arith, few, ap length (note_first bytes left rest n e f fits))

-- a note of a later line is the next line
pub note_next : (old new : Unread) (before : ℕ) (bytes left rest : List ℕ) (n : ScriptNote) → old.place ≡ Noted before → old.texts ≡ parts 10 bytes
    → bytes ≡ note_text n ++ left → left ≡ 10 ∷ rest → IsNoteInRange n → before < n.line
    → new ≡ record { lines = old.lines + 1; version = old.version; place = Noted n.line; texts = parts 10 rest } → ReadsNote old n new
note_next old new before bytes left rest n place texts e f fits later is = record {
  line = next_stood old old.lines old.version (Noted before) bytes (note_text n) rest (kind.Note n) (Noted n.line) old.version
      (λ i. record { lines = old.lines; version = old.version; place = place i; texts = texts i })
      (note_first bytes left rest n e f fits) (stands_again old.version (Noted before) (kind.Note n) (Noted n.line) fits (note_stands before n later)) refl
      ∙ ap (λ (u : Unread). Ok (Some (record { number = u.lines; what = kind.Note n }, u))) (sym is);
  before = before;
  was = place;
  is = ap (λ (u : Unread). u.place) is;
}

-- its line, with its number
pub note_line : (old new : Unread) (n : ScriptNote) (number : ℕ) → ReadsNote old n new → number ≡ new.lines → next_line old ≡ Ok (Some (record { number = number; what = kind.Note n }, new))
note_line old new n number is counted = is.line ∙ ap (λ (m : ℕ). Ok (Some (record { number = m; what = kind.Note n }, new))) (sym counted)

-- ---- lines of entries

-- a line that is ahead is read
pub reads : (u : Unread) (k : LineKind) (bytes left rest : List ℕ) → u.place ≡ Entry → u.texts ≡ parts 10 bytes → left ≡ 10 ∷ rest → IsAhead u k left → Reads u k (passed u rest)
reads u k bytes left rest among texts e is = record {
  line = next_stood u u.lines u.version u.place bytes (kind_text k) rest k u.place u.version (λ i. record { lines = u.lines; version = u.version; place = u.place; texts = texts i })
      (sym texts ∙ first_is u k left rest is e) (subst (λ p. stand u.version p (kind_text k) ≡ Ok (k, p)) (sym among) (stands_again u.version Entry k Entry is.kind is.stands)) (same_version u.version k is.stands);
  counted = refl;
  before = among;
  behind = among;
}
