-- Lines as they are kept, one after the other.
use Rattle.std.proofs.Common.{◌≡◌, ℕ, ◌+◌, ◌-◌, ◌*◌, ◌<◌, ◌≤◌, Bool, cond, List, [], ◌∷◌, ◌++◌, length, map, take, drop, get_or, append_assoc, append-nil, ap, sym, ◌∙◌, arith, length-append}
use Rattle.std.specs.List.{concat}
use Rattle.std.proofs.lemmas.List.{length-take-le, map-append, take_more}
use Rattle.std.proofs.lemmas.List.Folds.{concat-append}
use Rattle.std.proofs.Math.Seq.{drop-append_seam, take-append_seam}
use Rattle.charlotte_calls.specs.declared.calls.ServiceStep.{ServiceStep}
use Rattle.packed_lines.specs.Lines.{step_lines}
use Rattle.packed_lines.specs.Packed.{kept, kept_text, line_note, packs}
use Rattle.transcript_lines.specs.Transcript.{line, step_text}

pub kept_text-append : (xs ys : List (List ℕ)) → kept_text (xs ++ ys) ≡ kept_text xs ++ kept_text ys
kept_text-append xs ys = ap concat (map-append kept xs ys) ∙ concat-append (map kept xs) (map kept ys)

-- one step more
steps-more : (steps : List ServiceStep) (i : ℕ) (step : ServiceStep) → i < length steps → step ≡ get_or steps i step → step_lines (take (i + 1) steps) ≡ step_lines (take i steps) ++ line (step_text step) ∷ []
steps-more steps i step below is =
    ap step_lines (take_more steps i step below ∙ ap (λ (x : ServiceStep). take i steps ++ x ∷ []) (sym is)) ∙ map-append (λ s. line (step_text s)) (take i steps) (step ∷ [])

pub text-more : (old now new : List ℕ) (steps : List ServiceStep) (i : ℕ) (step : ServiceStep) → i < length steps → step ≡ get_or steps i step → now ≡ old ++ kept_text (step_lines (take i steps)) → new ≡ now ++ kept (line (step_text step)) → new ≡ old ++ kept_text (step_lines (take (i + 1) steps))
text-more old now new steps i step below is so_far more =
    let before : List (List ℕ) = step_lines (take i steps) in
    let joined : kept_text (step_lines (take (i + 1) steps)) ≡ kept_text before ++ kept (line (step_text step)) =
    ap kept_text (steps-more steps i step below is) ∙ kept_text-append before (line (step_text step) ∷ []) ∙ ap (λ t. kept_text before ++ t) (append-nil (kept (line (step_text step)))) in
    more ∙ ap (λ t. t ++ kept (line (step_text step))) so_far ∙ append_assoc old (kept_text before) (kept (line (step_text step))) ∙ ap (λ t. old ++ t) (sym joined)

pub notes-more : (old now new : List ℕ) (steps : List ServiceStep) (i : ℕ) (step : ServiceStep) → i < length steps → step ≡ get_or steps i step → now ≡ old ++ map line_note (step_lines (take i steps))
    → new ≡ now ++ line_note (line (step_text step)) ∷ [] → new ≡ old ++ map line_note (step_lines (take (i + 1) steps))
notes-more old now new steps i step below is so_far more =
    let before : List (List ℕ) = step_lines (take i steps) in
    let joined : map line_note (step_lines (take (i + 1) steps)) ≡ map line_note before ++ line_note (line (step_text step)) ∷ [] =
    ap (map line_note) (steps-more steps i step below is) ∙ map-append line_note before (line (step_text step) ∷ []) in
    more ∙ ap (λ ns. ns ++ line_note (line (step_text step)) ∷ []) so_far ∙ append_assoc old (map line_note before) (line_note (line (step_text step)) ∷ []) ∙ ap (λ ns. old ++ ns) (sym joined)

-- what stands behind a place, and what stands before it
pub record IsCut (all xs ys : List ℕ) (at : ℕ) : Type 0 where
  pub before : take at all ≡ xs
  pub behind : drop at all ≡ ys

pub cut-at : (all xs ys : List ℕ) (at : ℕ) → all ≡ xs ++ ys → at ≡ length xs → IsCut all xs ys at
cut-at all xs ys at is place =
    record {
      before = ap (take at) is ∙ ap (λ n. take n (xs ++ ys)) place ∙ take-append_seam xs ys;
      behind = ap (drop at) is ∙ ap (λ n. drop n (xs ++ ys)) place ∙ drop-append_seam xs ys;
    }

-- what stands behind a place is put there, and how long that is
pub long-at : (all text put : List ℕ) (from n : ℕ) → from ≤ length all → text ≡ take from all ++ put → n ≡ length text → n - from ≡ length put
long-at all text put from n within is long = omega (arith, within, long, ap length is, length-append (take from all) put, length-take-le from all within)

pub noted-line : (old now new text : List ℕ) (n : ℕ) (is_packed : Bool) → now ≡ old → n ≡ length (kept text) → is_packed ≡ packs text → new ≡ now ++ (2 * n + cond is_packed 1 0) ∷ [] → new ≡ old ++ line_note text ∷ []
noted-line old now new text n is_packed same long is more =
    more ∙ ap (λ ns. ns ++ (2 * n + cond is_packed 1 0) ∷ []) same ∙ ap (λ k. old ++ (2 * k + cond is_packed 1 0) ∷ []) long ∙ ap (λ p. old ++ (2 * length (kept text) + cond p 1 0) ∷ []) is
