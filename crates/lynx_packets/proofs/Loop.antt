-- Reading one after the other, as a loop does.
use Rattle.std.proofs.Common.{◌≡◌, ℕ, List, [], ◌∷◌, ◌++◌, Result, Ok, Err, refl, sym, ap, ◌∙◌, append_assoc}
use Rattle.std.proofs.lemmas.List.{append-nil}
use Rattle.lynx_packets.specs.declared.fault.Unread.{Unread}
use Rattle.lynx_packets.specs.declared.fault.Unread.TheVariants as unread
use Rattle.lynx_packets.specs.Reading.{◌>>=◌, Fails}

-- what was read before, and what is still read
abbrev pub with_front : {X R : Type 0} → List X → Result (List X × R) ℕ → Result (List X × R) ℕ
with_front front read = read >>= λ x. Ok (front ++ x.0, x.1)

-- one is read, and then the others
abbrev pub with_next : {X R : Type 0} → X → Result (List X × R) ℕ → Result (List X × R) ℕ
with_next x read = read >>= λ o. Ok (x ∷ o.0, o.1)

regroup : {X R : Type 0} (front : List X) (x : X) (read : Result (List X × R) ℕ) → with_front front (with_next x read) ≡ with_front (front ++ x ∷ []) read
regroup {X = X} front x (Ok o) = ap (λ (xs : List X). Ok (xs, o.1)) (simp append_assoc)
regroup front x (Err f) = refl

pub goes_on : {X R : Type 0} (front : List X) (x : X) (now later total : Result (List X × R) ℕ) → now ≡ with_next x later → with_front front now ≡ total → with_front (front ++ x ∷ []) later ≡ total
goes_on front x now later total is so_far = sym (regroup front x later) ∙ ap (with_front front) (sym is) ∙ so_far

pub ends : {X R : Type 0} (e : Unread) (front : List X) (now total : Result (List X × R) ℕ) → Fails e now → with_front front now ≡ total → Fails e total
ends unread.Memory front now total fails so_far = tt
ends (unread.Wrong left) front now total fails so_far = sym so_far ∙ ap (with_front front) fails

pub is_done : {X R : Type 0} (front : List X) (rest : R) (now total : Result (List X × R) ℕ) → now ≡ Ok ([], rest) → with_front front now ≡ total → total ≡ Ok (front, rest)
is_done {X = X} front rest now total is so_far = sym so_far ∙ ap (with_front front) is ∙ ap (λ (xs : List X). Ok (xs, rest)) (append-nil front)
