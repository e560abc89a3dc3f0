-- How many requests are open, after those of one thread were changed.
use Rattle.std.proofs.Common.{arith, ◌≡◌, ℕ, ◌+◌, ◌-◌, ◌*◌, ◌<◌, ◌≤◌, List, [], ◌∷◌, length, sum_by, Option, slice_get, slice_set, get_or, is_some, true, false, replicate, refl, sym, ap, subst, ◌∙◌}
use Rattle.std.proofs.lemmas.List.Sums.{sum_by-set}
use Rattle.std.proofs.lemmas.Option.{slice_get-get_or}
use Rattle.std.proofs.lemmas.List.Folds.{sum_by-replicate}
use Rattle.end_protocol.specs.Lists.{head, tail}
use Rattle.process_run.specs.States.{Open}
use Rattle.process_ends.specs.Opened.{IsOpened, answered}
use Rattle.process_run.specs.Actions.{listed}

pub count_changed : (threads : List (List Open)) (i : ℕ) (os : List Open) → i < length threads
    → sum_by length (slice_set threads i os) + length (listed (slice_get threads i)) ≡ sum_by length threads + length os
count_changed threads i os within =
    let sums : sum_by length (slice_set threads i os) + length (get_or threads i []) ≡ sum_by length threads + length os = sum_by-set (λ (xs : List Open). length xs) threads i os [] within in
    let here : length (listed (slice_get threads i)) ≡ length (get_or threads i []) = ap (λ (o : Option (List Open)). length (listed o)) (slice_get-get_or threads i [] within) in
    ap (λ (n : ℕ). sum_by length (slice_set threads i os) + n) here ∙ sums

-- the thread is one of those that are seen
pub within : (threads seen : List (List Open)) (i : ℕ) → threads ≡ seen → i < length seen → i < length threads
within threads seen i same is = subst (λ (xs : List (List Open)). i < length xs) (sym same) is

pub opened_none : (threads : List (List Open)) (n : ℕ) → threads ≡ replicate n [] → n ≡ 32 → IsOpened threads 0
opened_none threads n is all =
    let none : sum_by length (replicate n []) ≡ n * 0 = sum_by-replicate (λ (xs : List Open). length xs) n [] in
    record { counted = sym (ap (sum_by (λ (xs : List Open). length xs)) is ∙ none ∙ omega arith) }

pub opened_push : (threads after : List (List Open)) (i count : ℕ) (o : Open) → IsOpened threads count → i < length threads
    → after ≡ slice_set threads i (o ∷ listed (slice_get threads i)) → IsOpened after (count + 1)
opened_push threads after i count o opened within is =
    let sums = count_changed threads i (o ∷ listed (slice_get threads i)) within in
    subst (λ (xs : List (List Open)). IsOpened xs (count + 1)) (sym is) (record { counted = let was = opened.counted in omega (arith, sums, was) })

pub opened_anew : (threads after : List (List Open)) (i count was : ℕ) (o : Open) (stack none : List Open) → IsOpened threads count → i < length threads
    → after ≡ slice_set threads i stack → stack ≡ o ∷ none → none ≡ [] → was ≡ length (listed (slice_get threads i)) → IsOpened after (count + 1 - was)
opened_anew threads after i count was o stack none opened within is one empty had =
    let sums = count_changed threads i (o ∷ []) within in
    subst (λ (xs : List (List Open)). IsOpened xs (count + 1 - was)) (sym (is ∙ ap (slice_set threads i) (one ∙ ap (λ (os : List Open). o ∷ os) empty))) (record { counted = let before = opened.counted in omega (arith, sums, before, had) })

-- those of one thread are among all
pub at_most_one_more : (threads : List (List Open)) (i count was : ℕ) (o : Open) → IsOpened threads count → i < length threads → was ≡ length (listed (slice_get threads i))
    → was ≤ count + 1
at_most_one_more threads i count was o opened within had =
    let sums = count_changed threads i (o ∷ []) within in
    let before = opened.counted in omega (arith, sums, before, had)

taken : (os : List Open) → is_some (head os) ≡ true → length (tail os) + 1 ≡ length os
taken [] e = let no : false ≡ true = e in absurd cc
taken (o ∷ os) e = omega arith

pub opened_pop : (threads after : List (List Open)) (i count : ℕ) → IsOpened threads count → i < length threads
    → after ≡ slice_set threads i (tail (listed (slice_get threads i))) → is_some (head (listed (slice_get threads i))) ≡ true → IsOpened after (count - 1)
opened_pop threads after i count opened within is some =
    let sums = count_changed threads i (tail (listed (slice_get threads i))) within in
    let one = taken (listed (slice_get threads i)) some in
    subst (λ (xs : List (List Open)). IsOpened xs (count - 1)) (sym is) (record { counted = let before = opened.counted in omega (arith, sums, before, one) })

-- there is one where a request is open
pub some_open : (threads : List (List Open)) (i count : ℕ) → IsOpened threads count → i < length threads → is_some (head (listed (slice_get threads i))) ≡ true → 1 ≤ count
some_open threads i count opened within some =
    let sums = count_changed threads i (tail (listed (slice_get threads i))) within in
    let one = taken (listed (slice_get threads i)) some in
    let before = opened.counted in omega (arith, sums, before, one)

untaken : (os : List Open) → is_some (head os) ≡ false → length (tail os) ≡ length os
untaken [] e = refl
untaken (o ∷ os) e = let no : true ≡ false = e in absurd cc

pub opened_empty : (threads after : List (List Open)) (i count : ℕ) → IsOpened threads count → i < length threads
    → after ≡ slice_set threads i (tail (listed (slice_get threads i))) → is_some (head (listed (slice_get threads i))) ≡ false → IsOpened after count
opened_empty threads after i count opened within is none =
    let sums = count_changed threads i (tail (listed (slice_get threads i))) within in
    let same = untaken (listed (slice_get threads i)) none in
    subst (λ (xs : List (List Open)). IsOpened xs count) (sym is) (record { counted = let before = opened.counted in omega (arith, sums, before, same) })

answered_length : (os : List Open) → length (answered os) ≡ length os
answered_length [] = refl
answered_length (o ∷ os) = refl

pub opened_answered : (threads after : List (List Open)) (i count : ℕ) → IsOpened threads count → i < length threads
    → after ≡ slice_set threads i (answered (listed (slice_get threads i))) → IsOpened after count
opened_answered threads after i count opened within is =
    let sums = count_changed threads i (answered (listed (slice_get threads i))) within in
    let same = answered_length (listed (slice_get threads i)) in
    subst (λ (xs : List (List Open)). IsOpened xs count) (sym is) (record { counted = let before = opened.counted in omega (arith, sums, before, same) })
