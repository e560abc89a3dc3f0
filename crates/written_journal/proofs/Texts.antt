-- Entries in a text, and where they stand in it.
use Rattle.std.proofs.Common.{◌≡◌, inl, inr, ℕ, ◌+◌, ◌-◌, ◌*◌, ◌<◌, ◌≤◌, Bool, cond, List, [], ◌∷◌, ◌++◌, length, map, take, drop, get_or, append_assoc, append-nil, ap, sym, ◌∙◌, refl, arith, length-append}
use Rattle.std.specs.List.{concat, slice_range}
use Rattle.std.proofs.lemmas.Bool.Decides.{leb_tells}
use Rattle.std.proofs.lemmas.List.{drop_all, drop_more, length-take-le, map-append, take_more, take-append-drop}
use Rattle.std.proofs.lemmas.List.Concat.{flat_map-append, flat_map-cons}
use Rattle.std.proofs.lemmas.List.Folds.{concat-append}
use Rattle.std.proofs.Math.Seq.{drop-append_seam, take-append_seam}
use Rattle.charlotte_calls.specs.declared.calls.ServiceStep.{ServiceStep}
use Rattle.transcript_lines.specs.Transcript.{line, step_text}
use Rattle.kernel_entries.specs.declared.entry.Entry.{Entry}
use Rattle.written_journal.specs.Lines.{kept_lines, lines_of, text_of}
use Rattle.packed_lines.specs.Lines.{step_lines}
use Rattle.packed_lines.proofs.Texts.{kept_text-append}
use Rattle.packed_lines.specs.Packed.{kept, kept_text, line_note, packs}

pub lines_of-nil : lines_of [] ≡ []
unfolding lines_of
lines_of-nil = refl

pub text_of-nil : text_of [] ≡ []
unfolding text_of lines_of
text_of-nil = refl

pub lines_of-cons : (e : Entry) (es : List Entry) → lines_of (e ∷ es) ≡ kept_lines e ++ lines_of es
unfolding lines_of
lines_of-cons e es = flat_map-cons kept_lines e es

pub lines_of-append : (xs ys : List Entry) → lines_of (xs ++ ys) ≡ lines_of xs ++ lines_of ys
unfolding lines_of
lines_of-append xs ys = flat_map-append kept_lines xs ys

pub text_of-is : (es : List Entry) → text_of es ≡ kept_text (lines_of es)
unfolding text_of
text_of-is es = refl

pub text_of-append : (xs ys : List Entry) → text_of (xs ++ ys) ≡ text_of xs ++ text_of ys
unfolding text_of
text_of-append xs ys = ap kept_text (lines_of-append xs ys) ∙ kept_text-append (lines_of xs) (lines_of ys)

pub text_of-cons : (e : Entry) (es : List Entry) → text_of (e ∷ es) ≡ kept_text (kept_lines e) ++ text_of es
unfolding text_of
text_of-cons e es = ap kept_text (lines_of-cons e es) ∙ kept_text-append (kept_lines e) (lines_of es)

-- one entry more
pub lines_of-push : (es : List Entry) (e : Entry) → lines_of (es ++ e ∷ []) ≡ lines_of es ++ kept_lines e
lines_of-push es e =
    lines_of-append es (e ∷ []) ∙ ap (λ ls. lines_of es ++ ls) (lines_of-cons e [] ∙ ap (λ ls. kept_lines e ++ ls) lines_of-nil ∙ append-nil (kept_lines e))

pub text_of-push : (es : List Entry) (e : Entry) → text_of (es ++ e ∷ []) ≡ text_of es ++ kept_text (kept_lines e)
text_of-push es e =
    text_of-append es (e ∷ []) ∙ ap (λ t. text_of es ++ t) (text_of-cons e [] ∙ ap (λ t. kept_text (kept_lines e) ++ t) text_of-nil ∙ append-nil (kept_text (kept_lines e)))

-- entries around the one of a number
pub record IsAt (es : List Entry) (n : ℕ) (e : Entry) (rest : List Entry) : Type 0 where
  pub within : n < length es
  pub here : (d : Entry) → get_or es n d ≡ e
  pub upto : take (n + 1) es ≡ take n es ++ e ∷ []
  pub behind : drop (n + 1) es ≡ rest
  pub whole : es ≡ take n es ++ e ∷ rest

pub at-drop : (es : List Entry) (n : ℕ) (e : Entry) (rest : List Entry) → drop n es ≡ e ∷ rest → IsAt es n e rest
at-drop es n e rest left =
    elim (leb_tells (length es) n) [
      | inl w ↦ let none : drop n es ≡ [] = drop_all n es w.1 in absurd (cc)
      | inr w ↦
          let here : (d : Entry) → get_or es n d ≡ e = λ d. cc (drop_more es n d w.1) in
          record {
            within = w.1;
            here = here;
            upto = take_more es n e w.1 ∙ ap (λ (x : Entry). take n es ++ x ∷ []) (here e);
            behind = cc (drop_more es n e w.1);
            whole = sym (take-append-drop n es) ∙ ap (λ l. take n es ++ l) left;
          }
    ]

-- a part of a list, by what stands before it
pub slice-at : {X : Type 0} (all xs ys zs : List X) (a b : ℕ) → all ≡ xs ++ (ys ++ zs) → a ≡ length xs → b ≡ a + length ys → slice_range all a b ≡ ys
slice-at {X} all xs ys zs a b is at to =
    let long : b - a ≡ length ys = omega arith in
    ap (λ n. take n (drop a all)) long ∙ ap (λ l. take (length ys) (drop a l)) is ∙ ap (λ n. take (length ys) (drop n (xs ++ (ys ++ zs)))) at ∙ ap (take (length ys)) (drop-append_seam xs (ys ++ zs)) ∙ take-append_seam ys zs
