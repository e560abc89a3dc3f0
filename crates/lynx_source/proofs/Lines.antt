-- One byte more, and its line and column.
use Rattle.std.proofs.Common.{◌≡◌, ℕ, ◌+◌, ◌<◌, ◌≤◌, Bool, true, false, not, cond, reverse, List, [], ◌∷◌, length, take, get_or, ap, ◌∙◌, arith}
use Rattle.std.specs.List.{prefix_len, suffix_len, count_by}
use Rattle.std.proofs.lemmas.List.{reverse-append, length-reverse, take_more, length-take}
use Rattle.std.proofs.lemmas.List.Sums.{count_by_more_no, count_by_more_yes, count_by-le-length, prefix_len-le-length}
use Rattle.lynx_source.specs.declared.place.Place.{Place}
use Rattle.lynx_source.specs.Places.{is_line_feed, behind_line_feed, place_behind}

suffix_more : (p : ℕ → Bool) (xs : List ℕ) (i : ℕ) → i < length xs → suffix_len p (take (i + 1) xs) ≡ cond (p (get_or xs i 0)) (1 + suffix_len p (take i xs)) 0
suffix_more p xs i below = ap (suffix_len p) (take_more xs i 0 below) ∙ ap (prefix_len p) (reverse-append (take i xs) (get_or xs i 0 ∷ []))

behind_more : (xs : List ℕ) (i : ℕ) (b : Bool) → i < length xs → is_line_feed (get_or xs i 0) ≡ b → behind_line_feed (take (i + 1) xs) ≡ cond (not b) (1 + behind_line_feed (take i xs)) 0
behind_more xs i b below is = suffix_more (λ x. not (is_line_feed x)) xs i below ∙ ap (λ c. cond (not c) (1 + behind_line_feed (take i xs)) 0) is

-- a line feed begins the next line
pub next_line : (xs : List ℕ) (i : ℕ) (p : Place) → i < length xs → is_line_feed (get_or xs i 0) ≡ true → p ≡ place_behind (take i xs)
    → record { line = p.line + 1; column = 1 } ≡ place_behind (take (i + 1) xs)
next_line xs i p below is h =
    let line : p.line + 1 ≡ 1 + count_by is_line_feed (take (i + 1) xs) = omega (arith, ap (λ (q : Place). q.line) h, count_by_more_yes is_line_feed xs i 0 below is) in
    let column : 1 ≡ 1 + behind_line_feed (take (i + 1) xs) = omega (arith, behind_more xs i true below is) in
    λ k. record { line = line k; column = column k }

-- any other byte is the next column
pub next_column : (xs : List ℕ) (i : ℕ) (p : Place) → i < length xs → is_line_feed (get_or xs i 0) ≡ false → p ≡ place_behind (take i xs)
    → record { line = p.line; column = p.column + 1 } ≡ place_behind (take (i + 1) xs)
next_column xs i p below is h =
    let line : p.line ≡ 1 + count_by is_line_feed (take (i + 1) xs) = omega (arith, ap (λ (q : Place). q.line) h, count_by_more_no is_line_feed xs i 0 below is) in
    let column : p.column + 1 ≡ 1 + behind_line_feed (take (i + 1) xs) = omega (arith, ap (λ (q : Place). q.column) h, behind_more xs i false below is) in
    λ k. record { line = line k; column = column k }

-- a place counts no more than the bytes before it
pub line_small : (xs : List ℕ) (i : ℕ) (p : Place) → p ≡ place_behind (take i xs) → p.line ≤ 1 + length xs
line_small xs i p h = omega (arith, ap (λ (q : Place). q.line) h, count_by-le-length is_line_feed (take i xs), length-take i xs)

pub column_small : (xs : List ℕ) (i : ℕ) (p : Place) → p ≡ place_behind (take i xs) → p.column ≤ 1 + i
column_small xs i p h = omega (arith, ap (λ (q : Place). q.column) h, prefix_len-le-length (λ x. not (is_line_feed x)) (reverse (take i xs)), length-reverse (take i xs), length-take i xs)
