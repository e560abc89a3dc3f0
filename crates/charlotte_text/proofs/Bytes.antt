-- Reading bytes one after the other, as a loop does.
use Rattle.std.proofs.Common.{◌≡◌, ℕ, zero, suc, ◌<◌, ◌≤◌, ◌↔◌, Bool, true, false, cond, eqb, leb, inl, inr, Option, Some, None, List, [], ◌∷◌, ◌++◌, length, take, Result, Ok, Err, refl, sym, ap, ◌∙◌, arith}
use Rattle.std.specs.Prelude.{IsNone, IfSome, ok_or, ◌&&◌}
use Rattle.std.specs.List.{flat_map, list_all}
use Rattle.std.proofs.lemmas.Bool.{leb-true, leb-false, eqb-true, eqb-false, cases_lt, and_parts}
use Rattle.std.proofs.lemmas.List.{length-append, length-take, take_all, take-append-le, nil_from_length}
use Rattle.charlotte_text.specs.declared.fault.Fault.{Fault}
use Rattle.charlotte_text.specs.declared.fault.Fault.TheVariants.{Form, Long}
use Rattle.charlotte_text.specs.Spelling.{is_plain, byte_text}
use Rattle.charlotte_text.specs.Reading.{◌>>=◌, escaped, byte_at, with_first, decoded, limited}
use Rattle.charlotte_text.proofs.Ends.{with_front, regroup, front_done}

abbrev pub read : ℕ → List ℕ → Result (ℕ × List ℕ) Fault
read b rest = Ok (b, rest)

abbrev pub go_on : Result (ℕ × List ℕ) Fault → Result (List ℕ) Fault
go_on r = r >>= λ x. with_first x.0 (decoded x.1)

-- a byte that is read, and the rest
pub byte_first : (text : List ℕ) → 0 < length text → decoded text ≡ go_on (byte_at text)
unfolding decoded
byte_first [] lt = absurd (omega arith)
byte_first (b ∷ []) lt = elim (is_plain b) as (λ p. cond p (Ok (b ∷ [])) (Err Form) ≡ go_on (cond p (read b []) (Err Form))) [ true ↦ refl | false ↦ refl ]
byte_first (b ∷ h ∷ []) lt = elim (is_plain b) as (λ p. cond p (with_first b (decoded (h ∷ []))) (Err Form) ≡ go_on (cond p (read b (h ∷ [])) (Err Form))) [ true ↦ refl | false ↦ refl ]
byte_first (b ∷ h ∷ l ∷ rest) lt =
    elim (is_plain b) as (λ p. cond p (with_first b (decoded (h ∷ l ∷ rest))) (cond (eqb b 37) (escaped h l >>= λ v. with_first v (decoded rest)) (Err Form)) ≡ go_on (cond p (read b (h ∷ l ∷ rest)) (cond (eqb b 37) (escaped h l >>= λ v. read v rest) (Err Form)))) [
      | true ↦ refl
      | false ↦ elim (eqb b 37) as (λ q. cond q (escaped h l >>= λ v. with_first v (decoded rest)) (Err Form) ≡ go_on (cond q (escaped h l >>= λ v. read v rest) (Err Form))) [
        | true ↦ elim (escaped h l) as (λ r. (r >>= λ v. with_first v (decoded rest)) ≡ go_on (r >>= λ v. read v rest)) [ Ok v ↦ refl | Err f ↦ refl ]
        | false ↦ refl
      ]
    ]

pub byte_goes_on : (front text after : List ℕ) (b : ℕ) (total : Result (List ℕ) Fault) → 0 < length text → byte_at text ≡ Ok (b, after) → with_front front (decoded text) ≡ total → with_front (front ++ b ∷ []) (decoded after) ≡ total
byte_goes_on front text after b total lt h so_far =
    let one : decoded text ≡ with_first b (decoded after) = byte_first text lt ∙ rw h refl in
    sym (ap (with_front front) one ∙ regroup front b (decoded after)) ∙ so_far

pub byte_fails : (front text : List ℕ) (f : Fault) (total : Result (List ℕ) Fault) → 0 < length text → byte_at text ≡ Err f → with_front front (decoded text) ≡ total → total ≡ Err f
byte_fails front text f total lt h so_far =
    let one : decoded text ≡ Err f = byte_first text lt ∙ rw h refl in
    sym so_far ∙ ap (with_front front) one

short_front : (front : List ℕ) (kept : List ℕ) → kept ≡ take 257 front → length kept < 257 → kept ≡ front
short_front front kept e lt = e ∙ take_all 257 front (omega (arith, ap length e, length-take 257 front))

pub kept_more : (front kept pushed : List ℕ) (b : ℕ) → kept ≡ take 257 front → length kept < 257 → pushed ≡ kept ++ b ∷ [] → pushed ≡ take 257 (front ++ b ∷ [])
kept_more front kept pushed b e lt p =
    let same : kept ≡ front = short_front front kept e lt in
    p ∙ ap (λ (x : List ℕ). x ++ b ∷ []) same ∙ sym (take_all 257 (front ++ b ∷ []) (omega (arith, ap length same, length-append front (b ∷ []))))

pub kept_full : (front kept : List ℕ) (b : ℕ) → kept ≡ take 257 front → length kept ≡ 257 → kept ≡ take 257 (front ++ b ∷ [])
kept_full front kept b e full =
    let long : 257 ≤ length front = omega (arith, ap length e, length-take 257 front) in
    e ∙ sym (rw (take-append-le 257 front (b ∷ []) long) refl)

is_limited : (front kept : List ℕ) (t : Bool) → leb (length front) 256 ≡ t → kept ≡ take 257 front → (length kept ≤ 256 → Ok kept ≡ cond t (Ok front) (Err Long)) × (256 < length kept → Err Long ≡ cond t (Ok front) (Err Long))
is_limited front kept true h e = (λ le. ap Ok (short_front front kept e (omega arith)), λ lt. absurd (omega (arith, leb-true _ _ h, ap length e, length-take 257 front)))
is_limited front kept false h e = (λ le. absurd (omega (arith, leb-false _ _ h, ap length e, length-take 257 front)), λ lt. refl)

pub not_long : (n : ℕ) → (256 < n → ⊥) → n ≤ 256
not_long n h = elim (cases_lt 256 n) [ inl lt ↦ absurd (h lt) | inr le ↦ le ]

pub finish : (front kept : List ℕ) (r : Option (List ℕ)) → kept ≡ take 257 front → (IsNone r ↔ (256 < length kept)) → IfSome r (λ s. s ≡ kept) → ok_or r Long ≡ limited front
finish front kept None e long same = (is_limited front kept (leb (length front) 256) refl e).1 (long.0 refl)
finish front kept (Some s) e long same = ap Ok same ∙ (is_limited front kept (leb (length front) 256) refl e).0 (not_long (length kept) (λ lt. let none : IsNone (Some s) = long.1 lt in cc))

pub nonzero : (n : ℕ) → (n ≡ 0 → ⊥) → 0 < n
nonzero zero h = absurd (h refl)
nonzero (suc n) h = omega arith

pub is_left : (n : ℕ) (empty : Bool) → empty ≡ eqb n 0 → empty ≡ false → 0 < n
is_left n empty e f = nonzero n (eqb-false n 0 (sym e ∙ f))

pub has_room : (n : ℕ) (full : Bool) → full ≡ eqb n 257 → full ≡ false → n ≤ 257 → n < 257
has_room n full e f le = elim (cases_lt n 257) [ inl lt ↦ lt | inr ge ↦ absurd (eqb-false n 257 (sym e ∙ f) (omega arith)) ]

pub no_room : (n : ℕ) (full : Bool) → full ≡ eqb n 257 → full ≡ true → n ≡ 257
no_room n full e f = eqb-true n 257 (sym e ∙ f)

pub all_read : (front rest word : List ℕ) (empty : Bool) → empty ≡ eqb (length rest) 0 → empty ≡ true → with_front front (decoded rest) ≡ decoded word → decoded word ≡ Ok front
unfolding decoded
all_read front rest word empty e t so_far =
    let none : rest ≡ [] = nil_from_length rest (eqb-true _ _ (sym e ∙ t)) in
    sym so_far ∙ rw none (front_done front)

-- ---- bytes that all stand for themselves

pub plain_text : (bs : List ℕ) → list_all is_plain bs ≡ true → flat_map byte_text bs ≡ bs
plain_text [] h = refl
plain_text (b ∷ bs) h =
    let p = and_parts (is_plain b) (list_all is_plain bs) h in
    rw p.0 (ap (λ xs. b ∷ xs) (plain_text bs p.1))

pub decoded_plain : (word : List ℕ) → list_all is_plain word ≡ true → decoded word ≡ Ok word
unfolding decoded
decoded_plain [] h = refl
decoded_plain (b ∷ []) h = rw (and_parts (is_plain b) true h).0 refl
decoded_plain (b ∷ i ∷ []) h =
    let p = and_parts (is_plain b) (list_all is_plain (i ∷ [])) h in
    rw p.0 (ap (with_first b) (decoded_plain (i ∷ []) p.1))
decoded_plain (b ∷ i ∷ l ∷ rest) h =
    let p = and_parts (is_plain b) (list_all is_plain (i ∷ l ∷ rest)) h in
    rw p.0 (ap (with_first b) (decoded_plain (i ∷ l ∷ rest) p.1))

within : (word : List ℕ) (t : Bool) → leb (length word) 256 ≡ t → (length word ≤ 256 → Ok word ≡ cond t (Ok word) (Err Long)) × (256 < length word → Err Long ≡ cond t (Ok word) (Err Long))
within word true h = (λ le. refl, λ lt. absurd (omega (arith, leb-true _ _ h)))
within word false h = (λ le. absurd (omega (arith, leb-false _ _ h)), λ lt. refl)

-- at most 256 bytes are kept whole
pub kept_whole : (word : List ℕ) (r : Option (List ℕ)) → (IsNone r ↔ (256 < length word)) → IfSome r (λ s. s ≡ word) → ok_or r Long ≡ limited word
kept_whole word None long same = (within word (leb (length word) 256) refl).1 (long.0 refl)
kept_whole word (Some s) long same = ap Ok same ∙ (within word (leb (length word) 256) refl).0 (not_long (length word) (λ lt. let none : IsNone (Some s) = long.1 lt in cc))
