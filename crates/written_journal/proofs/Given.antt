-- Lines of one journal that are given one after the other.
use Rattle.std.proofs.Common.{◌≡◌, inl, inr, ℕ, zero, suc, ◌+◌, ◌-◌, ◌<◌, ◌≤◌, List, [], ◌∷◌, ◌++◌, length, take, drop, get_or, append_assoc, ap, sym, ◌∙◌, refl, arith, length-append, codes}
use Rattle.charlotte_text.specs.Spelling.{number_text}
use Rattle.std.proofs.lemmas.Bool.Decides.{leb_tells}
use Rattle.std.proofs.lemmas.List.{drop_more, length-map, take-append-drop, take_more}
use Rattle.std.proofs.Math.Seq.{drop-append_seam, get_or-append_seam, take-append_seam}
use Rattle.journal_text.specs.Journal.{placed_at}
use Rattle.transcript_lines.specs.Transcript.{entry_text, happened_text, line, step_text}
use Rattle.kernel_entries.specs.declared.entry.Entry.{Entry}
use Rattle.written_journal.specs.Given.{IsPlace, rest_behind}
use Rattle.written_journal.specs.Lines.{kept_lines, lines_of}
use Rattle.packed_lines.specs.Lines.{happened_line, step_lines}
use Rattle.packed_lines.specs.Packed.{kept, kept_text}
use Rattle.written_journal.specs.declared.reader.Place.{Place}
use Rattle.written_journal.proofs.Texts.{IsAt, at-drop, lines_of-append, lines_of-cons, lines_of-nil, lines_of-push}
use Rattle.packed_lines.proofs.Texts.{kept_text-append}

-- before all lines
pub start-place : (es : List Entry) → IsPlace es (record { events = 0; left = 0; lines = 0; bytes = 0 })
start-place es = record { upto = sym (ap length lines_of-nil); long = refl }

-- the bytes up to the next line
long-behind : (all : List (List ℕ)) (n bytes : ℕ) → n < length all → bytes ≡ length (kept_text (take n all)) → bytes + length (kept (get_or all n [])) ≡ length (kept_text (take (n + 1) all))
long-behind all n bytes below is =
    let here : List ℕ = kept (get_or all n []) in
    let more : kept_text (take (n + 1) all) ≡ kept_text (take n all) ++ (here ++ []) = ap kept_text (take_more all n [] below) ∙ kept_text-append (take n all) (get_or all n [] ∷ []) in
    omega (arith, is, ap length more, length-append (kept_text (take n all)) (here ++ []), length-append here [])

-- ---- a line of the event that is begun

-- one line less is left
one-less : (all : List (List ℕ)) (n left : ℕ) → 0 < left → n < length all → take left (drop n all) ≡ get_or all n [] ∷ take (left - 1) (drop (n + 1) all)
one-less all n zero some below = absurd (omega arith)
one-less all n (suc left) some below =
    let less : suc left - 1 ≡ left = omega arith in
    ap (take (suc left)) (drop_more all n [] below) ∙ ap (λ k. get_or all n [] ∷ take k (drop (n + 1) all)) (sym less)

-- the lines before a place are no more than all
upto-le : (es : List Entry) (n : ℕ) → length (lines_of (take n es)) ≤ length (lines_of es)
upto-le es n =
    let parts : lines_of es ≡ lines_of (take n es) ++ lines_of (drop n es) = ap lines_of (sym (take-append-drop n es)) ∙ lines_of-append (take n es) (drop n es) in
    omega (arith, ap length parts, length-append (lines_of (take n es)) (lines_of (drop n es)))

pub line-below : (es : List Entry) (p : Place) → IsPlace es p → 0 < p.left → p.lines < length (lines_of es)
line-below es p is some = omega (arith, is.upto, upto-le es p.events)

-- the place behind a line
pub record IsStepped (es : List Entry) (p q : Place) (text : List ℕ) : Type 0 where
  pub given : (rest_behind es p).lines ≡ text ∷ (rest_behind es q).lines
  pub place : IsPlace es q

pub stepped : (es : List Entry) (p : Place) (text : List ℕ) (long : ℕ) → IsPlace es p → 0 < p.left → text ≡ get_or (lines_of es) p.lines [] → long ≡ length (kept (get_or (lines_of es) p.lines []))
    → IsStepped es p (record { events = p.events; left = p.left - 1; lines = p.lines + 1; bytes = p.bytes + long }) text
stepped es p text long is some here many =
    record {
      given = one-less (lines_of es) p.lines p.left some (line-below es p is some) ∙ ap (λ (t : List ℕ). t ∷ take (p.left - 1) (drop (p.lines + 1) (lines_of es))) (sym here);
      place = record {
        upto = omega (arith, is.upto, some);
        long = ap (λ n. p.bytes + n) many ∙ long-behind (lines_of es) p.lines p.bytes (line-below es p is some) is.long;
      };
    }

-- where no line is left of an event, none is counted
pub none-left : (es : List Entry) (p : Place) → IsPlace es p → (rest_behind es p).lines ≡ [] → p.left ≡ 0
none-left es p is none =
    elim (leb_tells p.left 0) [
      | inl w ↦ omega (arith, w.1)
      | inr w ↦ let some = (stepped es p (get_or (lines_of es) p.lines []) (length (kept (get_or (lines_of es) p.lines []))) is w.1 refl refl).given in absurd (cc)
    ]

-- ---- the first line of the next event

-- its text: the stamp and the kernel, and then as it is kept
pub first-text : (kernel : ℕ) (e : Entry) → line (entry_text (placed_at kernel e)) ≡ (number_text e.stamp ++ codes " k" ++ number_text kernel) ++ happened_line e.what
first-text kernel e = append_assoc (number_text e.stamp ++ codes " k" ++ number_text kernel) (happened_text e.what) (10 ∷ [])

-- the place behind the first line of an event
pub record IsBegun (es : List Entry) (p q : Place) (e : Entry) (rest : List Entry) : Type 0 where
  pub left : rest_behind es q ≡ record { lines = step_lines e.steps; entries = rest }
  pub place : IsPlace es q

-- the next line is the first of the next event
pub record IsFirst (es : List Entry) (p : Place) (e : Entry) : Type 0 where
  pub below : p.lines < length (lines_of es)
  pub here : get_or (lines_of es) p.lines [] ≡ happened_line e.what

module _ (es : List Entry) (p : Place) (e : Entry) (rest : List Entry) (is : IsPlace es p) (none : p.left ≡ 0) (left : drop p.events es ≡ e ∷ rest) where
  at : IsAt es p.events e rest
  at = at-drop es p.events e rest left

  abbrev before : List (List ℕ)
  before = lines_of (take p.events es)

  parts : lines_of es ≡ before ++ (kept_lines e ++ lines_of rest)
  parts = ap lines_of at.whole ∙ lines_of-append (take p.events es) (e ∷ rest) ∙ ap (λ ls. before ++ ls) (lines_of-cons e rest)

  given : p.lines ≡ length before
  given = omega (arith, is.upto, none)

  pub first : IsFirst es p e
  first =
      record {
        below = omega (arith, given, ap length parts, length-append before (kept_lines e ++ lines_of rest));
        here = ap (λ ls. get_or ls p.lines []) parts ∙ ap (λ n. get_or (before ++ (kept_lines e ++ lines_of rest)) n []) given
            ∙ get_or-append_seam before (happened_line e.what) (step_lines e.steps ++ lines_of rest) [];
      }

  -- the lines behind the first
  steps : take (length e.steps) (drop (p.lines + 1) (lines_of es)) ≡ step_lines e.steps
  steps =
      let upto : List (List ℕ) = before ++ happened_line e.what ∷ [] in
      let split : lines_of es ≡ upto ++ (step_lines e.steps ++ lines_of rest) = parts ∙ sym (append_assoc before (happened_line e.what ∷ []) (step_lines e.steps ++ lines_of rest)) in
      let place : p.lines + 1 ≡ length upto = omega (arith, given, length-append before (happened_line e.what ∷ [])) in
      ap (λ n. take n (drop (p.lines + 1) (lines_of es))) (sym (length-map e.steps (λ s. line (step_text s)))) ∙ ap (λ n. take (length (step_lines e.steps)) (drop n (lines_of es))) place
      ∙ ap (λ ls. take (length (step_lines e.steps)) (drop (length upto) ls)) split
      ∙ ap (take (length (step_lines e.steps))) (drop-append_seam upto (step_lines e.steps ++ lines_of rest)) ∙ take-append_seam (step_lines e.steps) (lines_of rest)

  pub begun : (count long : ℕ) → count ≡ length e.steps → long ≡ length (kept (get_or (lines_of es) p.lines [])) → IsBegun es p (record { events = p.events + 1; left = count; lines = p.lines + 1; bytes = p.bytes + long }) e rest
  begun count long many here =
      let below : p.lines < length (lines_of es) = first.below in
      let upto : lines_of (take (p.events + 1) es) ≡ before ++ kept_lines e = ap lines_of at.upto ∙ lines_of-push (take p.events es) e in
      record {
        left = ap (λ (ls : List (List ℕ)). record { lines = ls; entries = drop (p.events + 1) es }) (ap (λ n. take n (drop (p.lines + 1) (lines_of es))) many ∙ steps)
            ∙ ap (λ (xs : List Entry). record { lines = step_lines e.steps; entries = xs }) at.behind;
        place = record {
          upto = omega (arith, given, many, ap length upto, length-append before (kept_lines e), length-map e.steps (λ s. line (step_text s)));
          long = ap (λ n. p.bytes + n) here ∙ long-behind (lines_of es) p.lines p.bytes below is.long;
        };
      }
