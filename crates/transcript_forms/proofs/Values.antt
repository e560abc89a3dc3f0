-- Reading the values of ends one after the other, as a loop does.
use Rattle.std.proofs.Common.{◌≡◌, ℕ, suc, ◌+◌, ◌-◌, ◌<◌, ◌≤◌, ◌↔◌, Option, Some, None, List, [], ◌∷◌, ◌++◌, length, Result, Ok, Err, refl, sym, ap, ◌∙◌, arith}
use Rattle.std.specs.Prelude.{IsNone, IfSome, ok_or}
use Rattle.std.proofs.lemmas.List.{length-append}
use Rattle.charlotte_packets.specs.declared.picture.MovingPicture.{MovingPicture}
use Rattle.charlotte_text.specs.declared.fault.Fault.{Fault}
use Rattle.charlotte_text.specs.declared.fault.Fault.TheVariants.{Form}
use Rattle.charlotte_text.proofs.Ends.{with_front, regroup, front_done}
use Rattle.transcript_reading.specs.Forms.{plus_value_of, values_of}

pub value_goes_on : (front : List MovingPicture) (most : ℕ) (ps : List (List ℕ)) (w : List ℕ) (ws : List (List ℕ)) (v : MovingPicture) (total : Result (List MovingPicture) Fault)
    → length front < most → ps ≡ w ∷ ws → plus_value_of w ≡ Ok v → with_front front (values_of (most - length front) ps) ≡ total → with_front (front ++ v ∷ []) (values_of (most - length (front ++ v ∷ [])) ws) ≡ total
unfolding values_of
value_goes_on front most ps w ws v total lt p h so_far =
    let k : most - length front ≡ suc (most - length (front ++ v ∷ [])) = omega (arith, length-append front (v ∷ [])) in
    let one : with_front front (values_of (most - length front) ps) ≡ with_front (front ++ v ∷ []) (values_of (most - length (front ++ v ∷ [])) ws) = rw (p, k, h) (regroup front v (values_of (most - length (front ++ v ∷ [])) ws)) in
    sym one ∙ so_far

pub value_fails : (front : List MovingPicture) (most : ℕ) (ps : List (List ℕ)) (w : List ℕ) (ws : List (List ℕ)) (f : Fault) (total : Result (List MovingPicture) Fault)
    → length front < most → ps ≡ w ∷ ws → plus_value_of w ≡ Err f → with_front front (values_of (most - length front) ps) ≡ total → Err f ≡ total
unfolding values_of
value_fails front most ps w ws f total lt p h so_far =
    let k : most - length front ≡ suc (most - (length front + 1)) = omega arith in
    let one : with_front front (values_of (most - length front) ps) ≡ Err f = rw (p, k, h) refl in
    sym one ∙ so_far

pub too_many : (front : List MovingPicture) (most : ℕ) (ps : List (List ℕ)) (w : List ℕ) (ws : List (List ℕ)) (total : Result (List MovingPicture) Fault)
    → most ≤ length front → ps ≡ w ∷ ws → with_front front (values_of (most - length front) ps) ≡ total → Err Form ≡ total
unfolding values_of
too_many front most ps w ws total le p so_far =
    let k : most - length front ≡ 0 = omega arith in
    let one : with_front front (values_of (most - length front) ps) ≡ Err Form = rw (p, k) refl in
    sym one ∙ so_far

pub values_done : (front : List MovingPicture) (most : ℕ) (ps : List (List ℕ)) (total : Result (List MovingPicture) Fault) → ps ≡ [] → with_front front (values_of most ps) ≡ total → total ≡ Ok front
unfolding values_of
values_done front most ps total none so_far =
    let one : with_front front (values_of most ps) ≡ Ok front = rw none (front_done front) in
    sym so_far ∙ one

pub kept_values : (front : List MovingPicture) (r : Option (List MovingPicture)) → length front ≤ 8 → (IsNone r ↔ (8 < length front)) → IfSome r (λ s. s ≡ front) → ok_or r Form ≡ Ok front
kept_values front None le long same = absurd (omega (arith, long.0 refl))
kept_values front (Some s) le long same = ap Ok same
