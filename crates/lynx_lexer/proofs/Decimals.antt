-- The number that digits stand for, digit by digit.
use Rattle.std.proofs.Common.{◌≡◌, ℕ, ◌+◌, ◌-◌, ◌*◌, ◌<◌, ◌≤◌, List, [], ◌∷◌, length, take, drop, get_or, sym, ap, ◌∙◌, arith}
use Rattle.std.specs.List.{fold}
use Rattle.std.proofs.lemmas.List.{take-append-drop, take_more}
use Rattle.std.proofs.lemmas.Grind.{fold-append}
use Rattle.lynx_lexer.specs.Pieces.{decimal}

fold_least : (n : ℕ) (xs : List ℕ) → n ≤ fold (λ n b. 10 * n + (b - 48)) n xs
fold_least n [] = omega arith
fold_least n (x ∷ xs) = omega (arith, fold_least (10 * n + (x - 48)) xs)

pub decimal_step : (xs : List ℕ) (i : ℕ) → i < length xs → decimal (take (i + 1) xs) ≡ 10 * decimal (take i xs) + (get_or xs i 0 - 48)
decimal_step xs i lt =
    ap decimal (take_more xs i 0 lt) ∙ fold-append (λ n b. 10 * n + (b - 48)) 0 (take i xs) (get_or xs i 0 ∷ [])

pub decimal_front : (xs : List ℕ) (i : ℕ) → decimal (take i xs) ≤ decimal xs
decimal_front xs i =
    let whole : decimal xs ≡ fold (λ n b. 10 * n + (b - 48)) (decimal (take i xs)) (drop i xs) =
    ap decimal (sym (take-append-drop i xs)) ∙ fold-append (λ n b. 10 * n + (b - 48)) 0 (take i xs) (drop i xs) in
    omega (arith, whole, fold_least (decimal (take i xs)) (drop i xs))
