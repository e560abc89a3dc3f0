-- What is decoded, by what was read.
use Rattle.std.proofs.Common.{◌≡◌, ℕ, ◌-◌, ◌≤◌, ◌<◌, List, [], ◌∷◌, ◌++◌, length, take, drop, Result, Ok, Err, refl, sym, ap, subst, ◌∙◌, arith, inl, inr, append_assoc}
use Rattle.std.specs.Prelude.{IsErr, IfOk}
use Rattle.std.proofs.lemmas.Bool.{cases_lt}
use Rattle.std.proofs.lemmas.List.{take_at, take-append-drop, length-append, length-take}
use Rattle.lynx_packets.specs.declared.packet.RtPacket.{RtPacket}
use Rattle.lynx_packets.specs.declared.fault.DecodeFault.{DecodeFault}
use Rattle.lynx_packets.specs.declared.fault.DecodeFault.TheVariants as faults
use Rattle.lynx_packets.specs.Spelling.{Spells, Begins, IsWrongAt, IsUnlessMemory}
use Rattle.lynx_packets.specs.Packets.{packet_of, Tells}
use Rattle.lynx_packets.proofs.Sizes.{not_both, not_err}
use Rattle.lynx_packets.proofs.Exact.{IsBytes, Broken, WrongAll}
use Rattle.lynx_packets.proofs.Spelled.{WholeText, packet_reads, whole_to, whole_back}

abbrev Answer : Type 0
Answer = Result RtPacket ℕ

abbrev ok : RtPacket → Answer
ok p = Ok p

same_packet : (p q : RtPacket) (r : Answer) → r ≡ ok p → r ≡ ok q → p ≡ q
same_packet p q (Ok x) e f = cc
same_packet p q (Err n) e f = absurd cc

pub reads_spelling : (version : ℕ) (p : RtPacket) (bytes : List ℕ) → Spells version p bytes → packet_of version bytes ≡ Ok p
reads_spelling version p bytes s = (packet_reads version).again p bytes (whole_back version p bytes s)

pub found_law : (version : ℕ) (bytes : List ℕ) (result : Result RtPacket DecodeFault) → IsBytes bytes → Tells (length bytes) result (packet_of version bytes) → IfOk result (λ p. Spells version p bytes)
found_law version bytes (Ok p) fits told = whole_to version p bytes ((packet_reads version).found bytes p fits told)
found_law version bytes (Err e) fits told = tt

pub only_law : (version : ℕ) (bytes : List ℕ) (result : Result RtPacket DecodeFault) → Tells (length bytes) result (packet_of version bytes) → (p : RtPacket) → Spells version p bytes → IsUnlessMemory result p
only_law version bytes (Ok q) told p s = same_packet q p (packet_of version bytes) told (reads_spelling version p bytes s)
only_law version bytes (Err (faults.BadPacket at)) told p s = not_both p told.0 (packet_of version bytes) (reads_spelling version p bytes s) told.1
only_law version bytes (Err faults.NoMemory) told p s = tt

-- ---- the place

-- a longer front goes on as the bytes do
record Extends (front tail longer rest : List ℕ) : Type 0 where
  c : ℕ
  more : List ℕ
  parts : longer ≡ front ++ c ∷ more
  behind : tail ≡ c ∷ (more ++ rest)

head_of : List ℕ → ℕ
head_of [] = 0
head_of (b ∷ bs) = b

extends : (front tail longer rest : List ℕ) → front ++ tail ≡ longer ++ rest → length front < length longer → Extends front tail longer rest
unfolding head_of
extends front tail [] rest same lt = absurd (omega (arith, lt))
extends [] tail (c ∷ cs) rest same lt = record { c = c; more = cs; parts = refl; behind = same }
extends (f ∷ fs) tail (c ∷ cs) rest same lt =
    let e = extends fs tail cs rest (ap (drop 1) same) (omega (arith, lt)) in
    let head : f ≡ c = ap head_of same in
    record { c = e.c; more = e.more; parts = ap (λ (b : ℕ). b ∷ cs) (sym head) ∙ ap (λ (t : List ℕ). f ∷ t) e.parts; behind = e.behind }

-- nothing is read behind the front
broken_at : (version : ℕ) (front tail : List ℕ) (c : ℕ) (more rest behind : List ℕ) → tail ≡ c ∷ rest → Broken (packet_of version) front tail → IsErr (packet_of version ((front ++ c ∷ more) ++ behind))
unfolding head_of
broken_at version front [] c more rest behind is broken = absurd cc
broken_at version front (b ∷ bs) c more rest behind is broken =
    let same : b ≡ c = ap head_of is in
    let text : front ++ b ∷ (more ++ behind) ≡ (front ++ c ∷ more) ++ behind = ap (λ (d : ℕ). front ++ d ∷ (more ++ behind)) same ∙ sym (append_assoc front (c ∷ more) behind) in
    subst (λ (t : List ℕ). IsErr (packet_of version t)) text (broken (more ++ behind))

longest_at : (version : ℕ) (bytes : List ℕ) (left : ℕ) → WrongAll (packet_of version) (WholeText version) bytes left → (n : ℕ) → n ≤ length bytes → Begins version (take n bytes) → n ≤ length bytes - left
longest_at version bytes left w n le (p, more, spells) =
    let size : length bytes - left ≡ length w.front = omega (arith, w.size, ap (λ (x : List ℕ). length x) w.parts, length-append w.front w.tail) in
    elim (cases_lt (length w.front) n) [
      | inl lt ↦
          let same : w.front ++ w.tail ≡ take n bytes ++ drop n bytes = sym w.parts ∙ sym (take-append-drop n bytes) in
          let e = extends w.front w.tail (take n bytes) (drop n bytes) same (omega (arith, lt, le, length-take n bytes)) in
          let broken = broken_at version w.front w.tail e.c e.more (e.more ++ drop n bytes) more e.behind w.broken in
          let read : packet_of version ((w.front ++ e.c ∷ e.more) ++ more) ≡ Ok p = ap (λ (t : List ℕ). packet_of version (t ++ more)) (sym e.parts) ∙ reads_spelling version p (take n bytes ++ more) spells in
          not_err p (packet_of version ((w.front ++ e.c ∷ e.more) ++ more)) read broken
      | inr ge ↦ omega (arith, ge, size)
    ]

wrong_at : (version : ℕ) (bytes : List ℕ) (left : ℕ) → IsBytes bytes → packet_of version bytes ≡ Err left → IsWrongAt version bytes (length bytes - left)
wrong_at version bytes left fits read =
    let w = (packet_reads version).wrong bytes left fits read in
    let size : length w.front ≡ length bytes - left = omega (arith, w.size, ap (λ (x : List ℕ). length x) w.parts, length-append w.front w.tail) in
    let front : take (length bytes - left) bytes ≡ w.front = ap (λ (n : ℕ). take n bytes) (sym size) ∙ ap (λ (x : List ℕ). take (length w.front) x) w.parts ∙ take_at w.front w.tail (length w.front) refl in
    let whole = whole_to version w.value (w.front ++ w.more) w.goes_on in
    record {
      none = λ p s. not_both p left (packet_of version bytes) (reads_spelling version p bytes s) read;
      within = omega arith;
      begins = (w.value, w.more, subst (λ (t : List ℕ). Spells version w.value (t ++ w.more)) (sym front) whole);
      longest = longest_at version bytes left w;
    }

pub wrong_law : (version : ℕ) (bytes : List ℕ) (result : Result RtPacket DecodeFault) → IsBytes bytes → Tells (length bytes) result (packet_of version bytes) → (at : ℕ) → result ≡ Err (faults.BadPacket at) → IsWrongAt version bytes at
wrong_law version bytes (Ok p) fits told at e = absurd cc
wrong_law version bytes (Err faults.NoMemory) fits told at e = absurd cc
wrong_law version bytes (Err (faults.BadPacket found)) fits told at e =
    let same : length bytes - told.0 ≡ at = sym told.2 ∙ cc in
    subst (λ (n : ℕ). IsWrongAt version bytes n) same (wrong_at version bytes told.0 fits told.1)
