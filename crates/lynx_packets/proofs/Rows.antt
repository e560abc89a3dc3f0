-- The readers of the numbers of a row, and of a row, are exact.
use Rattle.std.proofs.Common.{◌≡◌, ℕ, zero, suc, ◌≤◌, List, [], ◌∷◌, ◌++◌, refl, sym, ap, subst, ◌∙◌, arith, ℤ, pos}
use Rattle.std.specs.List.{flat_map}
use Rattle.std.proofs.lemmas.List.Concat.{flat_map-cons}
use Rattle.std.proofs.Math.Facts.{sfits_lit}
use Rattle.lynx_packets.specs.Spelling.{int_text}
use Rattle.lynx_packets.specs.Reading.{byte_at, int_at, numbers_at, row_at}
use Rattle.lynx_packets.proofs.Exact.{Reads, Then, Lives, Implies, IsMade, and_then, both, mapped, made, made_reads, map_reads, seen_as}
use Rattle.lynx_packets.proofs.Parts.{IsByteText, byte_reads}
use Rattle.lynx_packets.proofs.Ints.{IsIntText, int_reads, Numbers}

none_to : Implies (IsMade {Y = List ℤ} []) (Numbers 0)
none_to ns text (is, none) = rw (is, none) (refl, refl, tt)

none_back : Implies (Numbers 0) (IsMade {Y = List ℤ} [])
none_back [] text is = (refl, is.0)
none_back (n ∷ ns) text is = absurd (omega (arith, is.1))

-- the numbers behind a first one
abbrev Behind : ℕ → ℤ → List ℤ → List ℕ → Type 0
Behind n first all text = (ns : List ℤ) × Numbers n ns text × (first ∷ ns ≡ all)

behind_reads : (n : ℕ) (first : ℤ) → Reads (numbers_at n) (Numbers n) → Reads (mapped (λ ns. first ∷ ns) (numbers_at n)) (Behind n first)
behind_reads n first reads = map_reads (λ ns. first ∷ ns) (numbers_at n) (Numbers n) (Behind n first) reads (λ ns t is. (ns, is, refl)) (λ all t is. is)

cons_to : (n : ℕ) → Implies (Then IsIntText (Behind n)) (Numbers (suc n))
cons_to n all text (first, a, b, one, (ns, others, is), parts) =
    let whole : text ≡ flat_map int_text (first ∷ ns) = parts ∙ ap (λ (t : List ℕ). t ++ b) one.is ∙ ap (λ (t : List ℕ). int_text first ++ t) others.0 ∙ sym (flat_map-cons int_text first ns) in
    subst (λ (x : List ℤ). Numbers (suc n) x text) is (whole, ap suc others.1, (one.fits, others.2))

cons_back : (n : ℕ) → Implies (Numbers (suc n)) (Then IsIntText (Behind n))
cons_back n [] text is = absurd (omega (arith, is.1))
cons_back n (first ∷ ns) text is =
    (first, int_text first, flat_map int_text ns, record { is = refl; fits = is.2.0 }, (ns, (refl, omega (arith, is.1), is.2.1), refl), is.0 ∙ flat_map-cons int_text first ns)

pub some_numbers : (n : ℕ) → (ns : List ℤ) × (t : List ℕ) × Numbers n ns t
some_numbers zero = ([], [], (refl, refl, tt))
some_numbers (suc n) = let s = some_numbers n in (pos 0 ∷ s.0, int_text (pos 0) ++ s.1, (ap (λ (t : List ℕ). int_text (pos 0) ++ t) s.2.0 ∙ sym (flat_map-cons int_text (pos 0) s.0), ap suc s.2.1, (sfits_lit tt, s.2.2)))

numbers_live : (n : ℕ) → Lives IsIntText (Behind n)
numbers_live n first a is = let s = some_numbers n in (first ∷ s.0, s.1, (s.0, s.2, refl))

pub numbers_read : (n : ℕ) → Reads (numbers_at n) (Numbers n)
unfolding numbers_at
numbers_read zero = seen_as (λ b. made [] b) (IsMade []) (Numbers 0) (made_reads []) none_to none_back
numbers_read (suc n) =
    seen_as (and_then int_at (λ first bytes. mapped (λ ns. first ∷ ns) (numbers_at n) bytes)) (Then IsIntText (Behind n)) (Numbers (suc n))
    (both int_at (λ first bytes. mapped (λ ns. first ∷ ns) (numbers_at n) bytes) IsIntText (Behind n) int_reads (λ first. behind_reads n first (numbers_read n)) (numbers_live n))
    (cons_to n) (cons_back n)

-- ---- rows

abbrev pub RowParts : ℕ → ℕ → List ℤ → List ℕ → Type 0
RowParts low high = Then (IsByteText low high) (λ n. Numbers n)

row_lives : (low high : ℕ) → Lives (IsByteText low high) (λ n. Numbers n)
row_lives low high n a is = some_numbers n

pub row_reads : (low high : ℕ) → low ≤ high → Reads (row_at low high) (RowParts low high)
unfolding row_at
row_reads low high le = both (byte_at low high) (λ n bytes. numbers_at n bytes) (IsByteText low high) (λ n. Numbers n) (byte_reads low high le) numbers_read (row_lives low high)
