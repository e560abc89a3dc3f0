-- What is pushed last stands on top.
use Rattle.std.proofs.Common.{arith, ◌≡◌, ℕ, ℤ, suc, ◌-◌, ◌<◌, ◌≤◌, List, [], ◌∷◌, ◌++◌, reverse, length, take, drop, ap, sym, refl, subst, ◌∙◌}
use Rattle.std.proofs.lemmas.List.{length-append, length-reverse, reverse-append}
use Rattle.std.proofs.Math.Seq.{drop-append_seam, take-append_seam}
use Rattle.lynx_meaning.specs.Values.{Value, Text, Row}
use Rattle.machine_stack.specs.declared.operands.Operand.{Operand}
use Rattle.machine_stack.specs.declared.operands.Operand.TheVariants as operand
use Rattle.machine_stack.specs.Stacks.{stacked, AreTogether}

pub last_first : {X : Type 0} (xs : List X) (x : X) → reverse (xs ++ x ∷ []) ≡ x ∷ reverse xs
last_first xs x = reverse-append xs (x ∷ [])

-- an operand on top
pub on_top : (before now : List Operand) (o : Operand) (bytes : List ℕ) (rows : List (List ℤ)) → now ≡ before ++ o ∷ [] → stacked (reverse now) bytes rows ≡ stacked (o ∷ reverse before) bytes rows
on_top before now o bytes rows e = ap (λ os. stacked (reverse os) bytes rows) e ∙ ap (λ os. stacked os bytes rows) (last_first before o)

pub together_on_top : (before now : List Operand) (o : Operand) (bytes : List ℕ) (rows : List (List ℤ)) → now ≡ before ++ o ∷ [] → AreTogether (reverse now) bytes rows ≡ AreTogether (o ∷ reverse before) bytes rows
together_on_top before now o bytes rows e = ap (λ os. AreTogether (reverse os) bytes rows) e ∙ ap (λ os. AreTogether os bytes rows) (last_first before o)

-- a text, with its bytes
behind : (bytes text : List ℕ) → length (bytes ++ text) - length text ≡ length bytes
behind bytes text = omega (arith, length-append bytes text)

pub text_on_top : (before now : List Operand) (bytes longer text : List ℕ) (rows : List (List ℤ)) → now ≡ before ++ operand.Text (length text) ∷ [] → longer ≡ bytes ++ text →
    stacked (reverse now) longer rows ≡ Text text ∷ stacked (reverse before) bytes rows
text_on_top before now bytes longer text rows e f =
    on_top before now (operand.Text (length text)) longer rows e
    ∙ ap (λ bs. stacked (operand.Text (length text) ∷ reverse before) bs rows) f
    ∙ ap (λ k. Text (drop k (bytes ++ text)) ∷ stacked (reverse before) (take k (bytes ++ text)) rows) (behind bytes text)
    ∙ ap (λ bs. Text bs ∷ stacked (reverse before) (take (length bytes) (bytes ++ text)) rows) (drop-append_seam bytes text)
    ∙ ap (λ bs. Text text ∷ stacked (reverse before) bs rows) (take-append_seam bytes text)

pub text_together : (before now : List Operand) (bytes longer text : List ℕ) (rows : List (List ℤ)) → now ≡ before ++ operand.Text (length text) ∷ [] → longer ≡ bytes ++ text →
    length text ≤ 64 → AreTogether (reverse before) bytes rows → AreTogether (reverse now) longer rows
text_together before now bytes longer text rows e f fits together =
    let kept : take (length (bytes ++ text) - length text) (bytes ++ text) ≡ bytes = ap (λ k. take k (bytes ++ text)) (behind bytes text) ∙ take-append_seam bytes text in
    let all : AreTogether (operand.Text (length text) ∷ reverse before) (bytes ++ text) rows =
    (omega (arith, length-append bytes text), fits, subst (λ bs. AreTogether (reverse before) bs rows) (sym kept) together) in
    subst (λ (T : Type 0). T) (sym (together_on_top before now (operand.Text (length text)) longer rows e)) (subst (λ bs. AreTogether (operand.Text (length text) ∷ reverse before) bs rows) (sym f) all)

-- a row
pub row_on_top : (before now : List Operand) (bytes : List ℕ) (rows more : List (List ℤ)) (row : List ℤ) → now ≡ before ++ operand.Row ∷ [] → more ≡ rows ++ row ∷ [] →
    stacked (reverse now) bytes (reverse more) ≡ Row row ∷ stacked (reverse before) bytes (reverse rows)
row_on_top before now bytes rows more row e f = on_top before now operand.Row bytes (reverse more) e ∙ ap (λ rs. stacked (operand.Row ∷ reverse before) bytes rs) (ap reverse f ∙ last_first rows row)

pub row_together : (before now : List Operand) (bytes : List ℕ) (rows more : List (List ℤ)) (row : List ℤ) → now ≡ before ++ operand.Row ∷ [] → more ≡ rows ++ row ∷ [] →
    AreTogether (reverse now) bytes (reverse more) ≡ AreTogether (reverse before) bytes (reverse rows)
row_together before now bytes rows more row e f = together_on_top before now operand.Row bytes (reverse more) e ∙ ap (λ rs. AreTogether (operand.Row ∷ reverse before) bytes rs) (ap reverse f ∙ last_first rows row)

-- ---- the lowest operands

pub cut_one : (height : ℕ) (before : List Value) → height < length before → drop (length before - height) before ≡ drop (length (drop 1 before) - height) (drop 1 before)
cut_one height [] higher = absurd (omega arith)
cut_one height (v ∷ vs) higher =
    let e : length (v ∷ vs) - height ≡ suc (length vs - height) = omega arith in
    ap (λ k. drop k (v ∷ vs)) e

pub cut_shorter : (height : ℕ) (before : List Value) → height < length before → length (drop 1 before) < length before
cut_shorter height [] higher = absurd (omega arith)
cut_shorter height (v ∷ vs) higher = omega arith

pub cut_done : (height : ℕ) (now : List Value) → length now ≤ height → drop (length now - height) now ≡ now
cut_done height now fits =
    let e : length now - height ≡ 0 = omega arith in
    ap (λ k. drop k now) e

-- ---- how many there are

depth : (ops : List Operand) (bytes : List ℕ) (rows : List (List ℤ)) → AreTogether ops bytes rows → length (stacked ops bytes rows) ≡ length ops
depth [] bytes rows together = refl
depth (operand.Int n ∷ ops) bytes rows together = omega (arith, depth ops bytes rows together)
depth (operand.Bool b ∷ ops) bytes rows together = omega (arith, depth ops bytes rows together)
depth (operand.Link l ∷ ops) bytes rows together = omega (arith, depth ops bytes rows together)
depth (operand.Text n ∷ ops) bytes rows together = omega (arith, depth ops (take (length bytes - n) bytes) rows together.2)
depth (operand.Row ∷ ops) bytes [] together = absurd together
depth (operand.Row ∷ ops) bytes (row ∷ rows) together = omega (arith, depth ops bytes rows together)

pub deep : (ops : List Operand) (bytes : List ℕ) (rows : List (List ℤ)) → AreTogether (reverse ops) bytes (reverse rows) → length (stacked (reverse ops) bytes (reverse rows)) ≡ length ops
deep ops bytes rows together = depth (reverse ops) bytes (reverse rows) together ∙ length-reverse ops
