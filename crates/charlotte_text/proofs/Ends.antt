-- Reading ends one after the other, as a loop does.
use Rattle.std.proofs.Common.{◌≡◌, ℕ, suc, ◌+◌, ◌-◌, ◌<◌, ◌≤◌, ◌↔◌, Option, Some, None, List, [], ◌∷◌, ◌++◌, length, Result, Ok, Err, refl, sym, ap, ◌∙◌, append_assoc, arith}
use Rattle.std.specs.Prelude.{IsNone, IfSome, ok_or}
use Rattle.std.proofs.lemmas.List.{append-nil, length-append}
use Rattle.charlotte_calls.specs.declared.names.EndId.{EndId}
use Rattle.charlotte_text.specs.declared.fault.Fault.{Fault}
use Rattle.charlotte_text.specs.declared.fault.Fault.TheVariants.{Form}
use Rattle.charlotte_text.specs.Reading.{◌>>=◌, plus_end_of, ends_of}

-- what was read before, and what is still read
abbrev pub with_front : {X : Type 0} → List X → Result (List X) Fault → Result (List X) Fault
with_front front read = read >>= λ xs. Ok (front ++ xs)

pub regroup : {X : Type 0} (front : List X) (x : X) (read : Result (List X) Fault) → with_front front (read >>= λ xs. Ok (x ∷ xs)) ≡ with_front (front ++ x ∷ []) read
regroup front x (Ok xs) = ap Ok (sym (append_assoc front (x ∷ []) xs))
regroup front x (Err f) = refl

pub front_done : {X : Type 0} (front : List X) → with_front front (Ok []) ≡ Ok front
front_done front = ap Ok (append-nil front)

pub end_goes_on : (front : List EndId) (most : ℕ) (ps : List (List ℕ)) (w : List ℕ) (ws : List (List ℕ)) (e : EndId) (total : Result (List EndId) Fault)
    → length front < most → ps ≡ w ∷ ws → plus_end_of w ≡ Ok e → with_front front (ends_of (most - length front) ps) ≡ total → with_front (front ++ e ∷ []) (ends_of (most - length (front ++ e ∷ [])) ws) ≡ total
unfolding ends_of
end_goes_on front most ps w ws e total lt p h so_far =
    let k : most - length front ≡ suc (most - length (front ++ e ∷ [])) = omega (arith, length-append front (e ∷ [])) in
    let one : with_front front (ends_of (most - length front) ps) ≡ with_front (front ++ e ∷ []) (ends_of (most - length (front ++ e ∷ [])) ws) = rw (p, k, h) (regroup front e (ends_of (most - length (front ++ e ∷ [])) ws)) in
    sym one ∙ so_far

pub end_fails : (front : List EndId) (most : ℕ) (ps : List (List ℕ)) (w : List ℕ) (ws : List (List ℕ)) (f : Fault) (total : Result (List EndId) Fault)
    → length front < most → ps ≡ w ∷ ws → plus_end_of w ≡ Err f → with_front front (ends_of (most - length front) ps) ≡ total → Err f ≡ total
unfolding ends_of
end_fails front most ps w ws f total lt p h so_far =
    let k : most - length front ≡ suc (most - (length front + 1)) = omega arith in
    let one : with_front front (ends_of (most - length front) ps) ≡ Err f = rw (p, k, h) refl in
    sym one ∙ so_far

pub too_many : (front : List EndId) (most : ℕ) (ps : List (List ℕ)) (w : List ℕ) (ws : List (List ℕ)) (total : Result (List EndId) Fault)
    → most ≤ length front → ps ≡ w ∷ ws → with_front front (ends_of (most - length front) ps) ≡ total → Err Form ≡ total
unfolding ends_of
too_many front most ps w ws total le p so_far =
    let k : most - length front ≡ 0 = omega arith in
    let one : with_front front (ends_of (most - length front) ps) ≡ Err Form = rw (p, k) refl in
    sym one ∙ so_far

pub ends_done : (front : List EndId) (most : ℕ) (total : Result (List EndId) Fault) → with_front front (ends_of most []) ≡ total → total ≡ Ok front
unfolding ends_of
ends_done front most total so_far = sym so_far ∙ front_done front

pub none_left : {X : Type 0} (o : Option X) → ((x : X) → o ≡ Some x → ⊥) → o ≡ None
none_left None h = refl
none_left (Some x) h = absurd (h x refl)

pub kept_ends : (front : List EndId) (r : Option (List EndId)) → length front ≤ 8 → (IsNone r ↔ (8 < length front)) → IfSome r (λ s. s ≡ front) → ok_or r Form ≡ Ok front
kept_ends front None le long same = absurd (omega (arith, long.0 refl))
kept_ends front (Some s) le long same = ap Ok same
