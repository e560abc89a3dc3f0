-- A loop that reads items, beside the recursion on a count of turns.
use Rattle.std.proofs.Common.{◌≡◌, ℕ, zero, suc, ◌+◌, ◌-◌, ◌<◌, ◌≤◌, Bool, true, false, List, [], ◌∷◌, ◌++◌, length, map, Ok, Err, refl, sym, ap, ◌∙◌, arith}
use Rattle.std.proofs.lemmas.List.{map-append}
use Rattle.lynx_lexer.specs.declared.token.Kind.{Kind}
use Rattle.lynx_descent.specs.declared.refusal.Refusal.{Refusal}
use Rattle.lynx_descent.specs.Reading.{Parser, Parsed, many, many_from}

pub turn_first : {A : Type 0} (goes : List Kind → Bool) (item : Parser A) (found : List A) (ts : List Kind) → many goes item found ts ≡ many_from goes item (length ts - 0) found ts
unfolding many
turn_first goes item found ts = let e : length ts ≡ length ts - 0 = omega arith in ap (λ n. many_from goes item n found ts) e

-- at a turn that is left
at_turn : {A : Type 0} (goes : List Kind → Bool) (item : Parser A) (n i : ℕ) (found : List A) (ts : List Kind) → i < n → many_from goes item (n - i) found ts ≡ many_from goes item (suc (n - (i + 1))) found ts
at_turn goes item n i found ts below = let e : n - i ≡ suc (n - (i + 1)) = omega arith in ap (λ m. many_from goes item m found ts) e

pub turn_on : {A : Type 0} (goes : List Kind → Bool) (item : Parser A) (n i : ℕ) (found : List A) (ts mid : List Kind) (x : A) → i < n → goes ts ≡ true → item ts ≡ Ok (x, mid)
    → many_from goes item (n - i) found ts ≡ many_from goes item (n - (i + 1)) (found ++ x ∷ []) mid
unfolding many_from
turn_on {A = A} goes item n i found ts mid x below on is = at_turn goes item n i found ts below ∙ rw (on, is)

pub turn_fails : {A : Type 0} (goes : List Kind → Bool) (item : Parser A) (n i : ℕ) (found : List A) (ts : List Kind) (e : Refusal) → i < n → goes ts ≡ true → item ts ≡ Err e
    → many_from goes item (n - i) found ts ≡ Err e
unfolding many_from
turn_fails goes item n i found ts e below on is = at_turn goes item n i found ts below ∙ rw (on, is)

pub turn_stops : {A : Type 0} (goes : List Kind → Bool) (item : Parser A) (n : ℕ) (found : List A) (ts : List Kind) → goes ts ≡ false → many_from goes item n found ts ≡ Ok (found, ts)
unfolding many_from
turn_stops goes item zero found ts off = refl
turn_stops goes item (suc n) found ts off = rw off

pub no_turn : {A : Type 0} (goes : List Kind → Bool) (item : Parser A) (n i : ℕ) (found : List A) (ts : List Kind) → n ≤ i → many_from goes item (n - i) found ts ≡ Ok (found, ts)
unfolding many_from
no_turn goes item n i found ts done = let none : n - i ≡ 0 = omega arith in ap (λ m. many_from goes item m found ts) none

-- an item is read, and kept behind the others
pub turn_more : {A X : Type 0} (f : X → A) (goes : List Kind → Bool) (item : Parser A) (n i : ℕ) (items items' : List X) (x : X) (ts mid : List Kind) (start : Parsed (List A)) → i < n
    → start ≡ many_from goes item (n - i) (map f items) ts → goes ts ≡ true → item ts ≡ Ok (f x, mid) → items' ≡ items ++ x ∷ [] → start ≡ many_from goes item (n - (i + 1)) (map f items') mid
turn_more {A = A} {X = X} f goes item n i items items' x ts mid start below before on is more =
    let grown : map f items' ≡ map f items ++ f x ∷ [] = ap (map f) more ∙ map-append f items (x ∷ []) in
    before ∙ turn_on goes item n i (map f items) ts mid (f x) below on is ∙ ap (λ (found : List A). many_from goes item (n - (i + 1)) found mid) (sym grown)

pub turn_breaks : {A : Type 0} (goes : List Kind → Bool) (item : Parser A) (n i : ℕ) (found : List A) (ts : List Kind) (e : Refusal) (start : Parsed (List A)) → i < n
    → start ≡ many_from goes item (n - i) found ts → goes ts ≡ true → item ts ≡ Err e → start ≡ Err e
turn_breaks goes item n i found ts e start below before on is = before ∙ turn_fails goes item n i found ts e below on is

pub turn_same : {A : Type 0} (goes : List Kind → Bool) (item : Parser A) (n i : ℕ) (items items' : List A) (x : A) (ts mid : List Kind) (start : Parsed (List A)) → i < n
    → start ≡ many_from goes item (n - i) items ts → goes ts ≡ true → item ts ≡ Ok (x, mid) → items' ≡ items ++ x ∷ [] → start ≡ many_from goes item (n - (i + 1)) items' mid
turn_same {A = A} goes item n i items items' x ts mid start below before on is more =
    before ∙ turn_on goes item n i items ts mid x below on is ∙ ap (λ (found : List A). many_from goes item (n - (i + 1)) found mid) (sym more)

-- room for one more, where there is some
pub some_room : {X : Type 0} (f : ℕ → X) (n : ℕ) → 0 < n → f n ≡ f (suc (n - 1))
some_room f n some = let e : n ≡ suc (n - 1) = omega arith in ap f e

pub ruleset turns = (turn_first, turn_on, turn_fails, turn_stops, no_turn)
