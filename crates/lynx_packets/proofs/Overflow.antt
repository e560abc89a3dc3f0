-- What is written past the room makes the whole too long.
use Rattle.std.proofs.Common.{◌≡◌, ℕ, ◌+◌, ◌<◌, List, ◌++◌, length, get_or, take, arith, Result, Ok, Err, OnErr}
use Rattle.std.specs.List.{flat_map}
use Rattle.std.proofs.lemmas.List.{length-append}
use Rattle.std.proofs.lemmas.List.Folds.{length-flat_map-take}

-- the text of one item of a list does not fit behind those before it
pub overflows : {X : Type 0} (f : X → List ℕ) (old now : List ℕ) (xs : List X) (i : ℕ) (d : X) → i < length xs → now ≡ old ++ flat_map f (take i xs) → 256 < length (now ++ f (get_or xs i d)) → 256 < length (old ++ flat_map f xs)
overflows f old now xs i d lt is long =
    let size : length now ≡ length old + length (flat_map f (take i xs)) = rw is (length-append old (flat_map f (take i xs))) in
    omega (arith, size, long, length-append now (f (get_or xs i d)), length-append old (flat_map f xs), length-flat_map-take f xs i d lt)

-- what holds holds also of an error
pub at_err : {A E : Type 0} {P : Type 0} (r : Result A E) → P → OnErr r P
at_err (Ok x) holds = tt
at_err (Err e) holds = holds
