-- The reader of a reply is exact.
use Rattle.std.proofs.Common.{◌≡◌, ℕ, zero, suc, List, [], ◌∷◌, ◌++◌, length, Result, Ok, Err, refl, ap, ◌∙◌, arith}
use Rattle.lynx_packets.specs.declared.value.RtValue.{RtValue}
use Rattle.lynx_packets.specs.declared.packet.RtPacket.{RtPacket}
use Rattle.lynx_packets.specs.declared.packet.RtPacket.TheVariants as packets
use Rattle.lynx_packets.specs.Reading.{◌>>=◌, byte_at, number_at, values_at}
use Rattle.lynx_packets.specs.Packets.{results_of, reply_of}
use Rattle.lynx_packets.proofs.Sizes.{bind_ok}
use Rattle.lynx_packets.proofs.Exact.{Broken, Then, ReadsAll, then_all, both_all, err_bind}
use Rattle.lynx_packets.proofs.Parts.{IsByteText, byte_reads, IsNumberText, number_reads}
use Rattle.lynx_packets.proofs.Replies.{Rest, AreResults, BrokenResults, results_found, results_again, results_wrong, no_results}
use Rattle.lynx_packets.proofs.Whole.{IsEnded, ended_reads}

abbrev pub ResultsText : ℕ → ℕ → RtPacket → List ℕ → Type 0
ResultsText n zero p text = (vs : List RtValue) × AreResults 8 vs text × (packets.Reply n 0 vs ≡ p)
ResultsText n (suc status) p text = IsEnded (packets.Reply n 1 []) p text

abbrev replied : ℕ → Rest → Result RtPacket ℕ
replied n vs = Ok (packets.Reply n 0 vs.0)

abbrev told : RtPacket → Result RtPacket ℕ
told p = Ok p

packet_is : (p q : RtPacket) → told p ≡ told q → p ≡ q
packet_is p q e = cc

failed : (n : ℕ) (r : Result Rest ℕ) (left : ℕ) → (r >>= replied n) ≡ Err left → r ≡ Err left
failed n (Ok x) left e = absurd cc
failed n (Err m) left e = cc

done_broken : (n : ℕ) (front tail : List ℕ) → BrokenResults 8 front tail → Broken (results_of n 0) front tail
done_broken n front [] broken = tt
done_broken n front (b ∷ bs) broken = λ more. err_bind (values_at (length (front ++ b ∷ more)) 8 (front ++ b ∷ more)) (replied n) (broken more (length (front ++ b ∷ more)))

done_reads : (n : ℕ) → ReadsAll (results_of n 0) (ResultsText n 0)
done_reads n = record {
  found = λ bytes p fits e. let a = bind_ok (values_at (length bytes) 8 bytes) (replied n) p e in (a.0.0, results_found (length bytes) 8 bytes a.0 fits a.1, packet_is (packets.Reply n 0 a.0.0) p a.2);
  again = λ p text is. ap (λ r. r >>= replied n) (results_again is.0 8 (length text) text is.1 (omega arith)) ∙ ap (λ q. Ok q) is.2;
  wrong = λ bytes left fits e.
      let w = results_wrong (length bytes) 8 bytes left fits (omega arith) (failed n (values_at (length bytes) 8 bytes) left e) in
      record { front = w.front; tail = w.tail; parts = w.parts; size = w.size; value = packets.Reply n 0 w.value; more = w.more; goes_on = (w.value, w.goes_on, refl); broken = done_broken n w.front w.tail w.broken };
}

results_read : (n status : ℕ) → ReadsAll (results_of n status) (ResultsText n status)
results_read n zero = done_reads n
results_read n (suc status) = ended_reads (packets.Reply n 1 [])

some_results : (n status : ℕ) → (p : RtPacket) × (b : List ℕ) × ResultsText n status p b
some_results n zero = (packets.Reply n 0 [], [], ([], no_results 8, refl))
some_results n (suc status) = (packets.Reply n 1 [], [], (refl, refl))

abbrev pub StatusText : ℕ → RtPacket → List ℕ → Type 0
StatusText n = Then (IsByteText 0 1) (ResultsText n)

some_status : (n : ℕ) → (p : RtPacket) × (b : List ℕ) × StatusText n p b
some_status n = let s = some_results n 0 in (s.0, 0 ∷ s.1, (0, 0 ∷ [], s.1, record { is = refl; from = omega arith; to = omega arith }, s.2, refl))

pub reply_reads : ReadsAll reply_of (Then IsNumberText StatusText)
unfolding reply_of
reply_reads =
    both_all number_at (λ n rest. then_all (byte_at 0 1) (λ status last. results_of n status last) rest) IsNumberText StatusText number_reads
    (λ n. both_all (byte_at 0 1) (λ status last. results_of n status last) (IsByteText 0 1) (ResultsText n) (byte_reads 0 1 (omega arith)) (results_read n) (λ status a is. some_results n status))
    (λ n a is. some_status n)
