-- The readers of numbers, texts and rows in values are exact.
use Rattle.std.proofs.Common.{◌≡◌, ℕ, zero, suc, ◌^◌, ◌<◌, List, [], ◌∷◌, length, refl, sym, ap, ◌∙◌, arith, ℤ}
use Rattle.std.specs.Int.{w64, cast_signed, cast_unsigned, from_be_bytes, to_be_bytes}
use Rattle.std.specs.List.{flat_map, AllByRecursion}
use Rattle.std.proofs.Math.Facts.{sfits_to_z, Fits-of_z}
use Rattle.std.proofs.lemmas.Int.{of_z-to_z, to_z-of_z}
use Rattle.std.proofs.lemmas.Nat.{be_bytes_8, from_be_bytes-to_be_bytes_8}
use Rattle.charlotte_calls.specs.Ranges.{AreBytes}
use Rattle.lynx_packets.specs.Spelling.{int_text, IsI64}
use Rattle.lynx_packets.specs.Reading.{byte_at, bytes_at, int_at, text_at}
use Rattle.lynx_packets.proofs.Exact.{IsBytes, Reads, Then, Lives, both, map_reads}
use Rattle.lynx_packets.proofs.Parts.{IsBytes-rest, IsByteText, byte_reads, AreFrontText, front_reads, zeros, length-zeros, zeros_fit}

pub record IsIntText (n : ℤ) (text : List ℕ) : Type 0 where
  pub is : text ≡ int_text n
  pub fits : IsI64 n

wide : (bytes : List ℕ) → IsBytes bytes → from_be_bytes w64 bytes < 2 ^ 64
wide bytes fits = omega (arith, fits 0, fits 1, fits 2, fits 3, fits 4, fits 5, fits 6, fits 7)

int_to : (field text : List ℕ) → AreFrontText 8 field text → IsIntText (cast_signed w64 (from_be_bytes w64 field)) text
unfolding int_text
int_to field text f =
    let n = from_be_bytes w64 field in
    let same : cast_unsigned w64 (cast_signed w64 n) ≡ n = of_z-to_z w64 n (wide field f.fits) in
    let bytes : to_be_bytes w64 n ≡ field = be_bytes_8 field n f.size f.fits refl in
    record { is = f.is ∙ sym (ap (to_be_bytes w64) same ∙ bytes); fits = sfits_to_z (record { fits = wide field f.fits }) }

bytes_of_int : (n : ℕ) → IsBytes (to_be_bytes w64 n)
bytes_of_int n zero = omega arith
bytes_of_int n (suc zero) = omega arith
bytes_of_int n (suc (suc zero)) = omega arith
bytes_of_int n (suc (suc (suc zero))) = omega arith
bytes_of_int n (suc (suc (suc (suc zero)))) = omega arith
bytes_of_int n (suc (suc (suc (suc (suc zero))))) = omega arith
bytes_of_int n (suc (suc (suc (suc (suc (suc zero)))))) = omega arith
bytes_of_int n (suc (suc (suc (suc (suc (suc (suc zero))))))) = omega arith
bytes_of_int n (suc (suc (suc (suc (suc (suc (suc (suc i)))))))) = omega arith

int_back : (n : ℤ) (text : List ℕ) → IsIntText n text → (field : List ℕ) × AreFrontText 8 field text × (cast_signed w64 (from_be_bytes w64 field) ≡ n)
unfolding int_text
int_back n text is =
    let bits = cast_unsigned w64 n in
    let same : from_be_bytes w64 (to_be_bytes w64 bits) ≡ bits = from_be_bytes-to_be_bytes_8 bits (Fits-of_z is.fits).fits in
    (to_be_bytes w64 bits, record { is = is.is; size = refl; fits = bytes_of_int bits }, ap (cast_signed w64) same ∙ to_z-of_z w64 n is.fits)

pub int_reads : Reads int_at IsIntText
unfolding int_at
int_reads = map_reads (λ field. cast_signed w64 (from_be_bytes w64 field)) (bytes_at 8) (AreFrontText 8) IsIntText (front_reads 8) int_to int_back

-- ---- so many numbers

abbrev pub Numbers : ℕ → List ℤ → List ℕ → Type 0
Numbers n ns text = (text ≡ flat_map int_text ns) × (length ns ≡ n) × AllByRecursion IsI64 ns

-- ---- a text

pub all_bytes : (bytes : List ℕ) → IsBytes bytes → AreBytes bytes
all_bytes [] fits = tt
all_bytes (b ∷ bs) fits = (fits 0, all_bytes bs (IsBytes-rest b bs fits))

pub each_byte : (bytes : List ℕ) → AreBytes bytes → IsBytes bytes
each_byte [] all i = omega arith
each_byte (b ∷ bs) all zero = all.0
each_byte (b ∷ bs) all (suc i) = each_byte bs all.1 i

abbrev pub TextParts : List ℕ → List ℕ → Type 0
TextParts = Then (IsByteText 0 64) (λ n. AreFrontText n)

text_lives : Lives (IsByteText 0 64) (λ n. AreFrontText n)
text_lives n a is = (zeros n, zeros n, record { is = refl; size = length-zeros n; fits = zeros_fit n })

pub text_reads : Reads text_at TextParts
unfolding text_at
text_reads = both (byte_at 0 64) (λ n bytes. bytes_at n bytes) (IsByteText 0 64) (λ n. AreFrontText n) (byte_reads 0 64 (omega arith)) (λ n. front_reads n) text_lives
