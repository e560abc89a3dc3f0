-- The readers of bytes and numbers are exact.
use Rattle.std.proofs.Common.{◌≡◌, ℕ, zero, suc, ◌+◌, ◌-◌, ◌^◌, ◌<◌, ◌≤◌, Bool, true, false, cond, ltb, List, [], ◌∷◌, ◌++◌, length, take, drop, Ok, Err, refl, sym, ap, subst, ◌∙◌, arith, inl, inr}
use Rattle.std.specs.Prelude.{IsErr, ◌&&◌, nat_le}
use Rattle.std.specs.Int.{w32, from_be_bytes, to_be_bytes}
use Rattle.std.proofs.lemmas.Bool.{cases_lt, ltb-false, le-ltb}
use Rattle.std.proofs.lemmas.List.{take_at, drop_at, take-append-drop, length-append, length-take, get_or-drop, get_or-take, get_or_past, append-nil}
use Rattle.std.proofs.lemmas.Nat.{be_bytes_4, from_be_bytes-to_be_bytes_4}
use Rattle.lynx_packets.specs.Spelling.{number_text}
use Rattle.lynx_packets.specs.Reading.{byte_at, bytes_at, number_at}
use Rattle.lynx_packets.proofs.Sizes.{passed, guarded}
use Rattle.lynx_packets.proofs.Exact.{IsBytes, Found, Wrong, Reads, map_reads}

pub IsBytes-drop : (n : ℕ) (bytes : List ℕ) → IsBytes bytes → IsBytes (drop n bytes)
IsBytes-drop n bytes h i = rw get_or-drop (h (n + i))

pub IsBytes-take : (n : ℕ) (bytes : List ℕ) → IsBytes bytes → IsBytes (take n bytes)
IsBytes-take n bytes h i =
    elim (cases_lt i n) [
      | inl lt ↦ rw (get_or-take n bytes i 0 lt) (h i)
      | inr le ↦ rw (get_or_past (take n bytes) i 0 (omega (arith, length-take n bytes))) (omega arith)
    ]

pub IsBytes-rest : (b : ℕ) (bytes : List ℕ) → IsBytes (b ∷ bytes) → IsBytes bytes
IsBytes-rest b bytes h i = h (suc i)

-- ---- a byte from low to high

pub record IsByteText (low high b : ℕ) (text : List ℕ) : Type 0 where
  pub is : text ≡ b ∷ []
  pub from : low ≤ b
  pub to : b ≤ high

test_in : (low high b : ℕ) → low ≤ b → b ≤ high → (nat_le low b && nat_le b high) ≡ true
test_in low high b from to = grind (arith, from, to)

in_test : (low high b : ℕ) → (nat_le low b && nat_le b high) ≡ true → (low ≤ b) × (b ≤ high)
in_test low high b e = grind (arith, e)

failed : {A : Type 0} (b : Bool) (x : A) (d n : ℕ) → cond b (Ok x) (Err d) ≡ Err n → (b ≡ false) × (d ≡ n)
failed true x d n e = absurd cc
failed false x d n e = (refl, cc)

byte_found : (low high : ℕ) (bytes : List ℕ) (x : ℕ) (rest : List ℕ) → IsBytes bytes → byte_at low high bytes ≡ Ok (x, rest) → Found (IsByteText low high) bytes x rest
byte_found low high [] x rest fits e = absurd cc
byte_found low high (b ∷ bs) x rest fits e =
    let p = passed (nat_le low b && nat_le b high) (suc (length bs)) (b, bs) (x, rest) e in
    let within = in_test low high b p.0 in
    subst (λ (y : ℕ × List ℕ). Found (IsByteText low high) (b ∷ bs) y.0 y.1) p.1 (record { text = b ∷ []; is = record { is = refl; from = within.0; to = within.1 }; parts = refl; rest_fits = IsBytes-rest b bs fits })

byte_again : (low high x : ℕ) (text rest : List ℕ) → IsByteText low high x text → byte_at low high (text ++ rest) ≡ Ok (x, rest)
byte_again low high x text rest is = ap (λ (t : List ℕ). byte_at low high (t ++ rest)) is.is ∙ rw (test_in low high x is.from is.to) refl

refused : (low high b : ℕ) (more : List ℕ) → (nat_le low b && nat_le b high) ≡ false → IsErr (byte_at low high (b ∷ more))
refused low high b more e = rw e refl

byte_wrong : (low high : ℕ) → low ≤ high → (bytes : List ℕ) (left : ℕ) → IsBytes bytes → byte_at low high bytes ≡ Err left → Wrong (byte_at low high) (IsByteText low high) bytes left
byte_wrong low high le [] left fits e = record { front = []; tail = []; parts = refl; size = cc; value = low; more = low ∷ []; goes_on = record { is = refl; from = omega arith; to = le }; broken = tt }
byte_wrong low high le (b ∷ bs) left fits e =
    let p = failed (nat_le low b && nat_le b high) (b, bs) (suc (length bs)) left e in
    record { front = []; tail = b ∷ bs; parts = refl; size = p.1; value = low; more = low ∷ []; goes_on = record { is = refl; from = omega arith; to = le }; broken = λ more. refused low high b more p.0 }

pub byte_reads : (low high : ℕ) → low ≤ high → Reads (byte_at low high) (IsByteText low high)
byte_reads low high le = record { found = byte_found low high; again = byte_again low high; wrong = byte_wrong low high le }

-- ---- so many bytes

pub record AreFrontText (n : ℕ) (bytes text : List ℕ) : Type 0 where
  pub is : text ≡ bytes
  pub size : length bytes ≡ n
  pub fits : IsBytes bytes

pub zeros : ℕ → List ℕ
zeros zero = []
zeros (suc n) = 0 ∷ zeros n

pub length-zeros : (n : ℕ) → length (zeros n) ≡ n
unfolding zeros
length-zeros zero = refl
length-zeros (suc n) = ap suc (length-zeros n)

pub zeros_fit : (n : ℕ) → IsBytes (zeros n)
unfolding zeros
zeros_fit zero i = omega arith
zeros_fit (suc n) zero = omega arith
zeros_fit (suc n) (suc i) = zeros_fit n i

both_fit : (xs ys : List ℕ) → IsBytes xs → IsBytes ys → IsBytes (xs ++ ys)
both_fit [] ys f g i = g i
both_fit (x ∷ xs) ys f g zero = f 0
both_fit (x ∷ xs) ys f g (suc i) = both_fit xs ys (IsBytes-rest x xs f) g i

front_found : (n : ℕ) (bytes x rest : List ℕ) → IsBytes bytes → bytes_at n bytes ≡ Ok (x, rest) → Found (AreFrontText n) bytes x rest
front_found n bytes x rest fits e =
    let g = guarded (ltb (length bytes) n) 0 (take n bytes, drop n bytes) (x, rest) e in
    let long : n ≤ length bytes = ltb-false _ _ g.0 in
    subst (λ (y : List ℕ × List ℕ). Found (AreFrontText n) bytes y.0 y.1) g.1 (record { text = take n bytes; is = record { is = refl; size = omega (arith, long, length-take n bytes); fits = IsBytes-take n bytes fits }; parts = sym (take-append-drop n bytes); rest_fits = IsBytes-drop n bytes fits })

front_again : (n : ℕ) (x text rest : List ℕ) → AreFrontText n x text → bytes_at n (text ++ rest) ≡ Ok (x, rest)
front_again n x text rest is =
    let long : ltb (length (x ++ rest)) n ≡ false = le-ltb _ _ (omega (arith, is.size, length-append x rest)) in
    ap (λ (t : List ℕ). bytes_at n (t ++ rest)) is.is ∙ rw (long, take_at x rest n is.size, drop_at x rest n is.size) refl

short : {A : Type 0} (b : Bool) (x : A) (d n : ℕ) → cond b (Err d) (Ok x) ≡ Err n → (b ≡ true) × (d ≡ n)
short true x d n e = (refl, cc)
short false x d n e = absurd cc

front_wrong : (n : ℕ) (bytes : List ℕ) (left : ℕ) → IsBytes bytes → bytes_at n bytes ≡ Err left → Wrong (bytes_at n) (AreFrontText n) bytes left
front_wrong n bytes left fits e =
    let p = short (ltb (length bytes) n) (take n bytes, drop n bytes) 0 left e in
    let few : length bytes < n = grind (arith, p.0) in
    let rest = zeros (n - length bytes) in
    record {
      front = bytes;
      tail = [];
      parts = sym (append-nil bytes);
      size = p.1;
      value = bytes ++ rest;
      more = rest;
      goes_on = record { is = refl; size = omega (arith, few, length-append bytes rest, length-zeros (n - length bytes)); fits = both_fit bytes rest fits (zeros_fit (n - length bytes)) };
      broken = tt;
    }

pub front_reads : (n : ℕ) → Reads (bytes_at n) (AreFrontText n)
front_reads n = record { found = front_found n; again = front_again n; wrong = front_wrong n }

-- ---- the number of a packet

pub record IsNumberText (n : ℕ) (text : List ℕ) : Type 0 where
  pub is : text ≡ number_text n
  pub below : n < 2 ^ 32

number_to : (field text : List ℕ) → AreFrontText 4 field text → IsNumberText (from_be_bytes w32 field) text
unfolding number_text
number_to field text f = record { is = f.is ∙ sym (be_bytes_4 field (from_be_bytes w32 field) f.size f.fits refl); below = omega (arith, f.fits 0, f.fits 1, f.fits 2, f.fits 3) }

bytes_of_number : (n : ℕ) → IsBytes (to_be_bytes w32 n)
bytes_of_number n zero = omega arith
bytes_of_number n (suc zero) = omega arith
bytes_of_number n (suc (suc zero)) = omega arith
bytes_of_number n (suc (suc (suc zero))) = omega arith
bytes_of_number n (suc (suc (suc (suc i)))) = omega arith

number_back : (n : ℕ) (text : List ℕ) → IsNumberText n text → (field : List ℕ) × AreFrontText 4 field text × (from_be_bytes w32 field ≡ n)
unfolding number_text
number_back n text is = (to_be_bytes w32 n, record { is = is.is; size = refl; fits = bytes_of_number n }, from_be_bytes-to_be_bytes_4 n is.below)

pub number_reads : Reads number_at IsNumberText
unfolding number_at
number_reads = map_reads (λ field. from_be_bytes w32 field) (bytes_at 4) (AreFrontText 4) IsNumberText (front_reads 4) number_to number_back
