-- A text of lines is split into them, and they are read.
use Rattle.std.proofs.Common.{◌≡◌, ℕ, eqb, List, [], ◌∷◌, ◌++◌, Result, Ok, refl, ap, ◌∙◌, append_assoc}
use Rattle.std.specs.List.{concat}
use Rattle.std.proofs.lemmas.List.Splits.{slice_split_at}
use Rattle.charlotte_text.specs.declared.fault.Fault.{Fault}
use Rattle.charlotte_text.specs.Reading.{◌>>=◌, parts}
use Rattle.charlotte_text.proofs.Parts.{first_part}
use Rattle.transcript_lines.specs.Transcript.{line}
use Rattle.transcript_reading.specs.Reading.{ended_lines, lines_of, kinds_of}
use Rattle.transcript_reading.specs.declared.line.LineKind.{LineKind}
use Rattle.transcript_reading.proofs.Lines.{IsLineOf, AreLinesOf}
use Rattle.transcript_reading.proofs.Words.{IsFree}

-- one line more
ended_more : (l : List ℕ) (ps : List (List ℕ)) (h : List ℕ) (t : List (List ℕ)) → ps ≡ h ∷ t → ended_lines (l ∷ ps) ≡ (ended_lines ps >>= λ ms. Ok (l ∷ ms))
unfolding ended_lines
ended_more l ps h t e = rw e refl

lines_more : (l text : List ℕ) → ended_lines (l ∷ parts 10 text) ≡ (ended_lines (parts 10 text) >>= λ ms. Ok (l ∷ ms))
lines_more l text = let first = first_part (λ b. eqb b 10) text in ended_more l (parts 10 text) first.0 first.1 first.2

-- what lines are split into and read as
pub record AreReadAs (v : ℕ) (text : List ℕ) (ks : List LineKind) : Type 0 where
  pub lines : List (List ℕ)
  pub split : lines_of text ≡ Ok lines
  pub reads : kinds_of v lines ≡ Ok ks

more_shape : (l rest : List ℕ) → (l ++ 10 ∷ []) ++ rest ≡ l ++ 10 ∷ rest
more_shape l rest = append_assoc l (10 ∷ []) rest

pub split_more : (text rest : List ℕ) (lines : List (List ℕ)) → IsFree 10 text → lines_of rest ≡ Ok lines → lines_of (line text ++ rest) ≡ Ok (text ∷ lines)
unfolding lines_of
split_more text rest lines free split =
    ap (λ (t : List ℕ). ended_lines (parts 10 t)) (more_shape text rest) ∙ ap ended_lines (slice_split_at (λ b. eqb b 10) text 10 rest free refl)
    ∙ lines_more text rest ∙ ap (λ (r : Result (List (List ℕ)) Fault). r >>= λ ms. Ok (text ∷ ms)) split

read_more : (v : ℕ) (l rest : List ℕ) (k : LineKind) (ks : List LineKind) → IsLineOf v l k → AreReadAs v rest ks → AreReadAs v (l ++ rest) (k ∷ ks)
unfolding kinds_of
read_more v l rest k ks is more =
    record {
      lines = is.text ∷ more.lines;
      split = ap (λ (t : List ℕ). lines_of (t ++ rest)) is.whole ∙ split_more is.text rest more.lines is.free more.split;
      reads = rw (is.reads, more.reads) refl;
    }

pub read_lines : (v : ℕ) (ls : List (List ℕ)) (ks : List LineKind) → AreLinesOf v ls ks → AreReadAs v (concat ls) ks
unfolding lines_of ended_lines kinds_of
read_lines v [] [] all = record { lines = []; split = refl; reads = refl }
read_lines v [] (k ∷ ks) all = absurd all
read_lines v (l ∷ ls) [] all = absurd all
read_lines v (l ∷ ls) (k ∷ ks) all = read_more v l (concat ls) k ks all.0 (read_lines v ls ks all.1)
