-- The readers of packets that are numbers alone, and of enc, are exact; what is exact tells the longest front that begins a spelling.
use Rattle.std.proofs.Common.{◌≡◌, ℕ, List, [], ◌∷◌, ◌++◌, Result, Ok, Err, refl, sym, ap, ◌∙◌, arith}
use Rattle.lynx_packets.specs.declared.packet.RtPacket.{RtPacket}
use Rattle.lynx_packets.specs.declared.packet.RtPacket.TheVariants as packets
use Rattle.lynx_packets.specs.Spelling.{number_text}
use Rattle.lynx_packets.specs.Reading.{byte_at, number_at}
use Rattle.lynx_packets.specs.Packets.{ended, numbered, numbered_of, enc_of}
use Rattle.lynx_packets.proofs.Exact.{IsBytes, Then, WrongAll, ReadsAll, then_all, both_all}
use Rattle.lynx_packets.proofs.Parts.{IsByteText, byte_reads, IsNumberText, number_reads}

-- a packet behind which nothing follows
abbrev pub IsEnded : RtPacket → RtPacket → List ℕ → Type 0
IsEnded p q text = (q ≡ p) × (text ≡ [])

done : RtPacket → Result RtPacket ℕ
done p = Ok p

ended_found : (p : RtPacket) (bytes : List ℕ) (q : RtPacket) → IsBytes bytes → ended p bytes ≡ Ok q → IsEnded p q bytes
ended_found p [] q fits e = (cc, refl)
ended_found p (b ∷ bs) q fits e = absurd cc

ended_wrong : (p : RtPacket) (bytes : List ℕ) (left : ℕ) → IsBytes bytes → ended p bytes ≡ Err left → WrongAll (ended p) (IsEnded p) bytes left
ended_wrong p [] left fits e = absurd cc
ended_wrong p (b ∷ bs) left fits e = record { front = []; tail = b ∷ bs; parts = refl; size = cc; value = p; more = []; goes_on = (refl, refl); broken = λ more. refl }

pub ended_reads : (p : RtPacket) → ReadsAll (ended p) (IsEnded p)
ended_reads p = record { found = ended_found p; again = λ q text is. ap (ended p) is.1 ∙ ap (λ r. Ok r) (sym is.0); wrong = ended_wrong p }

abbrev pub NumberAlone : ℕ → RtPacket → List ℕ → Type 0
NumberAlone kind = Then IsNumberText (λ n. IsEnded (numbered kind n))

pub numbered_reads : (kind : ℕ) → ReadsAll (numbered_of kind) (NumberAlone kind)
unfolding numbered_of
numbered_reads kind = both_all number_at (λ n bytes. ended (numbered kind n) bytes) IsNumberText (λ n. IsEnded (numbered kind n)) number_reads (λ n. ended_reads (numbered kind n)) (λ n a is. (numbered kind n, [], (refl, refl)))

abbrev pub Indexed : ℕ → ℕ → RtPacket → List ℕ → Type 0
Indexed kind n = Then (IsByteText 2 8) (λ index. IsEnded (packets.Enc kind n index))

abbrev pub Numbered : ℕ → RtPacket → List ℕ → Type 0
Numbered kind = Then IsNumberText (Indexed kind)

indexed_reads : (kind n : ℕ) → ReadsAll (then_all (byte_at 2 8) (λ index bytes. ended (packets.Enc kind n index) bytes)) (Indexed kind n)
indexed_reads kind n = both_all (byte_at 2 8) (λ index bytes. ended (packets.Enc kind n index) bytes) (IsByteText 2 8) (λ index. IsEnded (packets.Enc kind n index)) (byte_reads 2 8 (omega arith)) (λ index. ended_reads (packets.Enc kind n index)) (λ index a is. (packets.Enc kind n index, [], (refl, refl)))

some_index : (kind n : ℕ) → (p : RtPacket) × (b : List ℕ) × Indexed kind n p b
some_index kind n = (packets.Enc kind n 2, 2 ∷ [], (2, 2 ∷ [], [], record { is = refl; from = omega arith; to = omega arith }, (refl, refl), refl))

zero_text : IsNumberText 0 (number_text 0)
zero_text = record { is = refl; below = omega arith }

some_number : (kind : ℕ) → (p : RtPacket) × (b : List ℕ) × Numbered kind p b
some_number kind = let s = some_index kind 0 in (s.0, number_text 0 ++ s.1, (0, number_text 0, s.1, zero_text, s.2, refl))

pub enc_reads : ReadsAll enc_of (Then (IsByteText 1 2) Numbered)
unfolding enc_of
enc_reads =
    both_all (byte_at 1 2) (λ kind bytes. then_all number_at (λ n rest. then_all (byte_at 2 8) (λ index last. ended (packets.Enc kind n index) last) rest) bytes) (IsByteText 1 2) Numbered (byte_reads 1 2 (omega arith))
    (λ kind. both_all number_at (λ n rest. then_all (byte_at 2 8) (λ index last. ended (packets.Enc kind n index) last) rest) IsNumberText (Indexed kind) number_reads (indexed_reads kind) (λ n a is. some_index kind n))
    (λ kind a is. some_number kind)
