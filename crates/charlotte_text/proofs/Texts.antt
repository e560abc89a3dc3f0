-- Strings of bytes: what is read is spelled so, and what is spelled so is read.
use Rattle.std.proofs.Common.{◌≡◌, ℕ, zero, suc, ◌+◌, ◌*◌, ◌/◌, ◌%◌, ◌<◌, ◌≤◌, true, false, cond, not, ◌&&◌, eqb, ltb, leb, Option, Some, None, ◌↔◌, List, [], ◌∷◌, ◌++◌, length, Result, Ok, Err, refl, sym, ap, subst, ◌∙◌, inl, inr, arith}
use Rattle.std.specs.Prelude.{IsNone, IfSome}
use Rattle.std.specs.List.{All, flat_map, list_all}
use Rattle.std.specs.Str.{bytes_eq}
use Rattle.std.proofs.lemmas.Bool.{eqb-true, eqb-false, ne_eqb, ltb-true, lt-ltb, leb-true, leb-false, le-leb, and_parts, not-true}
use Rattle.std.proofs.lemmas.Bool.Decides.{nat_tests}
use Rattle.std.proofs.lemmas.List.Elements.{All-append, All-cons, All-nil, All-same}
use Rattle.std.proofs.lemmas.List.Concat.{flat_map-cons}
use Rattle.std.proofs.lemmas.Slice.Eq.{bytes_eq-Decides}
use Rattle.charlotte_text.specs.declared.fault.Fault.{Fault}
use Rattle.charlotte_text.specs.declared.fault.Fault.TheVariants.{Form, Long}
use Rattle.charlotte_text.specs.Spelling.{is_plain, hex_digit, byte_text, bytes_text, AreBytes}
use Rattle.charlotte_text.specs.Reading.{◌>>=◌, hex_value, escaped, byte_at, with_first, decoded, limited, spelled, bytes_of}
use Rattle.charlotte_text.proofs.Steps.{bind_ok, ok_is, not_ok, chosen, held}
use Rattle.charlotte_text.proofs.Bytes.{byte_first, decoded_plain, not_long, nonzero}

-- ---- digits

digit_of_value : (b : ℕ) → hex_value b < 16 → hex_digit (hex_value b) ≡ b
digit_of_value b lt = grind (arith, nat_tests)

value_of_digit : (d : ℕ) → d < 16 → hex_value (hex_digit d) ≡ d
value_of_digit d lt = grind (arith, nat_tests)

two_digits : (h l : ℕ) → h < 16 → l < 16 → ((16 * h + l) / 16 ≡ h) × ((16 * h + l) % 16 ≡ l)
two_digits h l hs ls = (omega arith, omega arith)

-- ---- one byte

plain_text : (b : ℕ) → is_plain b ≡ true → byte_text b ≡ b ∷ []
plain_text b p = rw p refl

escaped_text : (b : ℕ) → is_plain b ≡ false → byte_text b ≡ 37 ∷ hex_digit (b / 16) ∷ hex_digit (b % 16) ∷ []
escaped_text b p = rw p refl

escaped_takes : (h l v : ℕ) → escaped h l ≡ Ok v → (byte_text v ≡ 37 ∷ h ∷ l ∷ []) × (v < 256)
escaped_takes h l v e =
    let n : ℕ = 16 * hex_value h + hex_value l in
    let k = held (ltb (hex_value h) 16 && ltb (hex_value l) 16 && not (is_plain n)) (Ok n) Form v e in
    let outer = and_parts (ltb (hex_value h) 16 && ltb (hex_value l) 16) (not (is_plain n)) k.0 in
    let inner = and_parts (ltb (hex_value h) 16) (ltb (hex_value l) 16) outer.0 in
    let hs = ltb-true _ _ inner.0 in
    let ls = ltb-true _ _ inner.1 in
    let parts = two_digits (hex_value h) (hex_value l) hs ls in
    let text : byte_text n ≡ 37 ∷ h ∷ l ∷ [] = escaped_text n (not-true _ outer.1) ∙ rw (parts.0, parts.1, digit_of_value h hs, digit_of_value l ls) refl in
    subst (λ (x : ℕ). (byte_text x ≡ 37 ∷ h ∷ l ∷ []) × (x < 256)) (ok_is n v k.1) (text, omega arith)

escaped_again : (b : ℕ) → b < 256 → is_plain b ≡ false → escaped (hex_digit (b / 16)) (hex_digit (b % 16)) ≡ Ok b
escaped_again b lt p =
    let hs : b / 16 < 16 = omega arith in
    let ls : b % 16 < 16 = omega arith in
    let whole : 16 * (b / 16) + b % 16 ≡ b = omega arith in
    rw (value_of_digit (b / 16) hs, value_of_digit (b % 16) ls, whole, p, lt-ltb _ _ hs, lt-ltb _ _ ls) refl

plain_small : (b : ℕ) → is_plain b ≡ true → b < 256
plain_small b p = grind (arith, nat_tests)

-- ---- all bytes

first_takes : (b : ℕ) (text : List ℕ) (read : Result (List ℕ) Fault) (bs : List ℕ) (rest : List ℕ) → byte_text b ≡ text → b < 256 → with_first b read ≡ Ok bs → ((xs : List ℕ) → read ≡ Ok xs → (rest ≡ flat_map byte_text xs) × AreBytes xs) → (text ++ rest ≡ flat_map byte_text bs) × AreBytes bs
first_takes b text read bs rest t lt e h =
    let a = bind_ok read (λ xs. Ok (b ∷ xs)) bs e in
    let k = h a.0 a.1 in
    let both : text ++ rest ≡ flat_map byte_text (b ∷ a.0) = rw (← t, k.0) (sym (flat_map-cons byte_text b a.0)) in
    subst (λ (x : List ℕ). (text ++ rest ≡ flat_map byte_text x) × AreBytes x) (ok_is (b ∷ a.0) bs a.2) (both, (lt, k.1))

pub decoded_takes : (text bs : List ℕ) → decoded text ≡ Ok bs → (text ≡ flat_map byte_text bs) × AreBytes bs
unfolding decoded
decoded_takes [] bs e = subst (λ (x : List ℕ). ([] ≡ flat_map byte_text x) × AreBytes x) (ok_is [] bs e) (refl, tt)
decoded_takes (b ∷ []) bs e =
    let k = held (is_plain b) (Ok (b ∷ [])) Form bs e in
    first_takes b (b ∷ []) (decoded []) bs [] (plain_text b k.0) (plain_small b k.0) k.1 (decoded_takes [])
decoded_takes (b ∷ h ∷ []) bs e =
    let k = held (is_plain b) (with_first b (decoded (h ∷ []))) Form bs e in
    first_takes b (b ∷ []) (decoded (h ∷ [])) bs (h ∷ []) (plain_text b k.0) (plain_small b k.0) k.1 (decoded_takes (h ∷ []))
decoded_takes (b ∷ h ∷ l ∷ rest) bs e =
    elim (chosen (is_plain b) (with_first b (decoded (h ∷ l ∷ rest))) (cond (eqb b 37) (escaped h l >>= λ v. with_first v (decoded rest)) (Err Form)) (Ok bs) e) [
      | inl k ↦ first_takes b (b ∷ []) (decoded (h ∷ l ∷ rest)) bs (h ∷ l ∷ rest) (plain_text b k.0) (plain_small b k.0) k.1 (decoded_takes (h ∷ l ∷ rest))
      | inr k ↦
          let p = held (eqb b 37) (escaped h l >>= λ v. with_first v (decoded rest)) Form bs k.1 in
          let v = bind_ok (escaped h l) (λ v. with_first v (decoded rest)) bs p.1 in
          let t = escaped_takes h l v.0 v.1 in
          let text : byte_text v.0 ≡ b ∷ h ∷ l ∷ [] = t.0 ∙ ap (λ (x : ℕ). x ∷ h ∷ l ∷ []) (sym (eqb-true _ _ p.0)) in
          first_takes v.0 (b ∷ h ∷ l ∷ []) (decoded rest) bs rest text t.1 v.2 (decoded_takes rest)
    ]

plain_at : (b : ℕ) (rest : List ℕ) → is_plain b ≡ true → byte_at (b ∷ rest) ≡ Ok (b, rest)
plain_at b [] p = rw p refl
plain_at b (h ∷ []) p = rw p refl
plain_at b (h ∷ l ∷ rest) p = rw p refl

byte_again : (b : ℕ) (rest : List ℕ) → b < 256 → byte_at (byte_text b ++ rest) ≡ Ok (b, rest)
byte_again b rest lt =
    elim (is_plain b) as (λ t. is_plain b ≡ t → byte_at (byte_text b ++ rest) ≡ Ok (b, rest)) [
      | true ↦ λ p. rw (plain_text b p) (plain_at b rest p)
      | false ↦ λ p. rw (escaped_text b p, escaped_again b lt p) refl
    ] refl

byte_long : (b : ℕ) (rest : List ℕ) → 0 < length (byte_text b ++ rest)
byte_long b rest = elim (is_plain b) as (λ t. 0 < length (cond t (b ∷ []) (37 ∷ hex_digit (b / 16) ∷ hex_digit (b % 16) ∷ []) ++ rest)) [ true ↦ omega arith | false ↦ omega arith ]

pub decoded_again : (bs : List ℕ) → AreBytes bs → decoded (flat_map byte_text bs) ≡ Ok bs
unfolding decoded
decoded_again [] fits = refl
decoded_again (b ∷ bs) fits =
    let text : List ℕ = byte_text b ++ flat_map byte_text bs in
    let shape : flat_map byte_text (b ∷ bs) ≡ text = flat_map-cons byte_text b bs in
    ap decoded shape ∙ byte_first text (byte_long b (flat_map byte_text bs)) ∙ rw (byte_again b (flat_map byte_text bs) fits.0) (ap (with_first b) (decoded_again bs fits.1))

-- ---- a string of bytes

empty_text : (w : List ℕ) → w ≡ [] → length w ≡ 0
empty_text w e = ap length e

spelled_shape : (bs : List ℕ) → 0 < length (flat_map byte_text bs) → bytes_text bs ≡ flat_map byte_text bs
spelled_shape [] lt = absurd (omega arith)
spelled_shape (b ∷ bs) lt = refl

limited_ok : (xs bs : List ℕ) → limited xs ≡ Ok bs → (xs ≡ bs) × (length bs ≤ 256)
limited_ok xs bs e =
    elim (chosen (leb (length xs) 256) (Ok xs) (Err Long) (Ok bs) e) [
      | inl k ↦ let same = ok_is xs bs k.1 in (same, rw (← same) (leb-true _ _ k.0))
      | inr k ↦ absurd (not_ok bs Long k.1)
    ]

-- what a text of any length spells
pub record Spells (w bs : List ℕ) : Type 0 where
  pub text : w ≡ bytes_text bs
  pub bytes : AreBytes bs

spells : (w bs : List ℕ) → eqb (length w) 0 ≡ false → decoded w ≡ Ok bs → Spells w bs
spells w bs e d =
    let t = decoded_takes w bs d in
    let long : 0 < length w = nonzero (length w) (eqb-false _ _ e) in
    record { text = t.0 ∙ sym (spelled_shape bs (omega (arith, ap length t.0))); bytes = t.1 }

pub bytes_takes : (w bs : List ℕ) → bytes_of w ≡ Ok bs → Spells w bs × (length bs ≤ 256)
unfolding bytes_of
bytes_takes w bs e =
    elim (chosen (bytes_eq w (45 ∷ [])) (Ok []) (cond (eqb (length w) 0) (Err Form) (spelled w)) (Ok bs) e) [
      | inl k ↦ subst (λ (x : List ℕ). Spells w x × (length x ≤ 256)) (ok_is [] bs k.1) (record { text = (bytes_eq-Decides w (45 ∷ [])).0 k.0; bytes = tt }, omega arith)
      | inr k ↦ elim (chosen (eqb (length w) 0) (Err Form) (spelled w) (Ok bs) k.1) [
        | inl m ↦ absurd (not_ok bs Form m.1)
        | inr m ↦
            let d = bind_ok (decoded w) limited bs m.1 in
            let l = limited_ok d.0 bs d.2 in
            (spells w bs m.0 (d.1 ∙ ap Ok l.0), l.1)
      ]
    ]

limited_long : (xs : List ℕ) → limited xs ≡ Err Long → 256 < length xs
limited_long xs e =
    elim (chosen (leb (length xs) 256) (Ok xs) (Err Long) (Err Long) e) [
      | inl k ↦ absurd (not_ok xs Long (sym k.1))
      | inr k ↦ leb-false _ _ k.0
    ]

abbrev failed : Fault → Result (List ℕ) Fault
failed f = Err f

form_not_long : failed Form ≡ failed Long → ⊥
form_not_long e = cc

first_form : (b : ℕ) (read : Result (List ℕ) Fault) → with_first b read ≡ Err Long → (read ≡ Err Long → ⊥) → ⊥
first_form b (Ok xs) e h = not_ok (b ∷ xs) Long (sym e)
first_form b (Err f) e h = h e

escaped_one : (h l : ℕ) (f : Fault) → escaped h l ≡ Err f → f ≡ Form
escaped_one h l f e =
    let n : ℕ = 16 * hex_value h + hex_value l in
    elim (chosen (ltb (hex_value h) 16 && ltb (hex_value l) 16 && not (is_plain n)) (Ok n) (Err Form) (Err f) e) [
      | inl k ↦ absurd (not_ok n f (sym k.1))
      | inr k ↦ let same = k.1 in cc
    ]

escaped_read : (h l : ℕ) (rest : List ℕ) (r : Result ℕ Fault) → escaped h l ≡ r → (r >>= λ v. with_first v (decoded rest)) ≡ Err Long → (decoded rest ≡ Err Long → ⊥) → ⊥
escaped_read h l rest (Ok v) x e h' = first_form v (decoded rest) e h'
escaped_read h l rest (Err f) x e h' = let one = escaped_one h l f x in form_not_long (ap Err (sym one) ∙ e)

escaped_form : (h l : ℕ) (rest : List ℕ) → (escaped h l >>= λ v. with_first v (decoded rest)) ≡ Err Long → (decoded rest ≡ Err Long → ⊥) → ⊥
escaped_form h l rest e h' = escaped_read h l rest (escaped h l) refl e h'

-- decoding fails for its form alone
decoded_form : (text : List ℕ) → decoded text ≡ Err Long → ⊥
unfolding decoded
decoded_form [] e = not_ok [] Long (sym e)
decoded_form (b ∷ []) e = elim (chosen (is_plain b) (Ok (b ∷ [])) (Err Form) (Err Long) e) [ inl k ↦ not_ok (b ∷ []) Long (sym k.1) | inr k ↦ form_not_long k.1 ]
decoded_form (b ∷ h ∷ []) e = elim (chosen (is_plain b) (with_first b (decoded (h ∷ []))) (Err Form) (Err Long) e) [ inl k ↦ first_form b (decoded (h ∷ [])) k.1 (decoded_form (h ∷ [])) | inr k ↦ form_not_long k.1 ]
decoded_form (b ∷ h ∷ l ∷ rest) e =
    elim (chosen (is_plain b) (with_first b (decoded (h ∷ l ∷ rest))) (cond (eqb b 37) (escaped h l >>= λ v. with_first v (decoded rest)) (Err Form)) (Err Long) e) [
      | inl k ↦ first_form b (decoded (h ∷ l ∷ rest)) k.1 (decoded_form (h ∷ l ∷ rest))
      | inr k ↦ elim (chosen (eqb b 37) (escaped h l >>= λ v. with_first v (decoded rest)) (Err Form) (Err Long) k.1) [
        | inl m ↦ escaped_form h l rest m.1 (decoded_form rest)
        | inr m ↦ form_not_long m.1
      ]
    ]

spelled_long : (w : List ℕ) (r : Result (List ℕ) Fault) → decoded w ≡ r → eqb (length w) 0 ≡ false → (r >>= limited) ≡ Err Long → (bs : List ℕ) × Spells w bs × (256 < length bs)
spelled_long w (Ok xs) d m e = (xs, spells w xs m d, limited_long xs e)
spelled_long w (Err f) d m e = absurd (decoded_form w (d ∙ e))

pub bytes_long : (w : List ℕ) → bytes_of w ≡ Err Long → (bs : List ℕ) × Spells w bs × (256 < length bs)
unfolding bytes_of
bytes_long w e =
    elim (chosen (bytes_eq w (45 ∷ [])) (Ok []) (cond (eqb (length w) 0) (Err Form) (spelled w)) (Err Long) e) [
      | inl k ↦ absurd (not_ok [] Long (sym k.1))
      | inr k ↦ elim (chosen (eqb (length w) 0) (Err Form) (spelled w) (Err Long) k.1) [
        | inl m ↦ absurd (form_not_long m.1)
        | inr m ↦ spelled_long w (decoded w) refl m.0 m.1
      ]
    ]

not_dash : (bs : List ℕ) → AreBytes bs → 0 < length bs → flat_map byte_text bs ≡ 45 ∷ [] → ⊥
unfolding decoded
not_dash [] fits lt e = absurd (omega arith)
not_dash (b ∷ bs) fits lt e = not_ok (b ∷ bs) Form (ap decoded (sym e) ∙ decoded_again (b ∷ bs) fits)

dash_free : (w : List ℕ) → (w ≡ 45 ∷ [] → ⊥) → bytes_eq w (45 ∷ []) ≡ false
dash_free w h = elim (bytes_eq w (45 ∷ [])) as (λ t. bytes_eq w (45 ∷ []) ≡ t → t ≡ false) [ true ↦ λ e. absurd (h ((bytes_eq-Decides w (45 ∷ [])).0 e)) | false ↦ λ e. refl ] refl

pub bytes_again : (bs : List ℕ) → AreBytes bs → bytes_of (bytes_text bs) ≡ limited bs
unfolding bytes_of
bytes_again [] fits = refl
bytes_again (b ∷ bs) fits =
    let w : List ℕ = flat_map byte_text (b ∷ bs) in
    let long : 0 < length w = rw flat_map-cons (byte_long b (flat_map byte_text bs)) in
    rw (dash_free w (not_dash (b ∷ bs) fits (omega arith)), ne_eqb (length w) 0 (λ e. absurd (omega arith)), decoded_again (b ∷ bs) fits) refl

plain_dash : (w : List ℕ) → list_all is_plain w ≡ true → w ≡ 45 ∷ [] → ⊥
plain_dash w plain e = let k : list_all is_plain (45 ∷ []) ≡ true = rw e at plain in cc

-- plain bytes are read as they stand
plain_read : (w : List ℕ) → 0 < length w → list_all is_plain w ≡ true → length w ≤ 256 → bytes_of w ≡ Ok w
unfolding bytes_of
plain_read w lt plain le =
    rw (dash_free w (plain_dash w plain), ne_eqb (length w) 0 (λ e. absurd (omega arith)), decoded_plain w plain, le-leb (length w) 256 le) refl

pub plain_kept : (w : List ℕ) (r : Option (List ℕ)) → 0 < length w → list_all is_plain w ≡ true → (IsNone r ↔ (256 < length w)) → IfSome r (λ s. s ≡ w) → IfSome r (λ bs. bytes_of w ≡ Ok bs)
plain_kept w None lt plain long same = tt
plain_kept w (Some s) lt plain long same = plain_read w lt plain (not_long (length w) (λ lt. let none : IsNone (Some s) = long.1 lt in cc)) ∙ ap Ok (sym same)

-- ---- no blank stands in a text

-- no blank stands in it
abbrev pub IsWord : List ℕ → Type 0
IsWord w = All (λ b. eqb b 32 ≡ false) w

blank_not_plain : (b : ℕ) → is_plain b ≡ true → b ≡ 32 → ⊥
blank_not_plain b p e = let q : is_plain 32 ≡ true = ap is_plain (sym e) ∙ p in cc

digit_apart : (d : ℕ) → eqb (hex_digit d) 32 ≡ false
digit_apart d = elim (leb d 9) as (λ t. eqb (cond t (48 + d) (55 + d)) 32 ≡ false) [ true ↦ ne_eqb (48 + d) 32 (λ e. absurd (omega arith)) | false ↦ ne_eqb (55 + d) 32 (λ e. absurd (omega arith)) ]

byte_free : (b : ℕ) → IsWord (byte_text b)
byte_free b =
    let P : ℕ → Type 0 = λ x. eqb x 32 ≡ false in
    elim (is_plain b) as (λ t. is_plain b ≡ t → IsWord (cond t (b ∷ []) (37 ∷ hex_digit (b / 16) ∷ hex_digit (b % 16) ∷ []))) [
      | true ↦ λ p. All-cons P b [] (ne_eqb b 32 (blank_not_plain b p)) (All-nil P)
      | false ↦ λ p. All-cons P 37 (hex_digit (b / 16) ∷ hex_digit (b % 16) ∷ []) refl (All-cons P (hex_digit (b / 16)) (hex_digit (b % 16) ∷ []) (digit_apart (b / 16)) (All-cons P (hex_digit (b % 16)) [] (digit_apart (b % 16)) (All-nil P)))
    ] refl

all_free : (bs : List ℕ) → IsWord (flat_map byte_text bs)
all_free [] = All-nil (λ x. eqb x 32 ≡ false)
all_free (b ∷ bs) = All-same (λ x. eqb x 32 ≡ false) (flat_map byte_text (b ∷ bs)) (byte_text b ++ flat_map byte_text bs) (flat_map-cons byte_text b bs) (All-append (λ x. eqb x 32 ≡ false) (byte_text b) (flat_map byte_text bs) (byte_free b) (all_free bs))

pub bytes_free : (bs : List ℕ) → IsWord (bytes_text bs)
bytes_free [] = All-cons (λ x. eqb x 32 ≡ false) 45 [] refl (All-nil (λ x. eqb x 32 ≡ false))
bytes_free (b ∷ bs) = all_free (b ∷ bs)

pub short_text : (bs : List ℕ) → length bs ≤ 256 → limited bs ≡ Ok bs
short_text bs le = rw (le-leb (length bs) 256 le) refl

-- the bytes of a text of any length
abbrev unlimited : List ℕ → Result (List ℕ) Fault
unlimited w = cond (bytes_eq w (45 ∷ [])) (Ok []) (decoded w)

unlimited_again : (bs : List ℕ) → AreBytes bs → unlimited (bytes_text bs) ≡ Ok bs
unlimited_again [] fits = refl
unlimited_again (b ∷ bs) fits =
    let w : List ℕ = flat_map byte_text (b ∷ bs) in
    rw (dash_free w (not_dash (b ∷ bs) fits (omega arith)), decoded_again (b ∷ bs) fits) refl

pub same_text : (a b : List ℕ) → AreBytes a → AreBytes b → bytes_text a ≡ bytes_text b → a ≡ b
same_text a b fa fb e = ok_is a b (sym (unlimited_again a fa) ∙ ap unlimited e ∙ unlimited_again b fb)
