-- Packets and the values that they carry: each is spelled by words and read again.
use Rattle.std.proofs.Common.{◌≡◌, ℕ, zero, suc, ◌<◌, ◌≤◌, Bool, true, false, codes, eqb, List, [], ◌∷◌, ◌++◌, length, map, Ok, refl, sym, ap, ◌∙◌, append_assoc, arith, inr}
use Rattle.std.specs.List.{AllByRecursion}
use Rattle.std.proofs.lemmas.List.Elements.{All-append, All-cons, All-nil}
use Rattle.charlotte_calls.specs.Ranges.{IsEnd, IsU8, IsU32, IsU64}
use Rattle.charlotte_packets.specs.Ranges.{IsValueInRange, IsPacketInRange}
use Rattle.charlotte_calls.specs.declared.names.EndId.{EndId}
use Rattle.charlotte_calls.specs.declared.names.Side.{Side}
use Rattle.charlotte_calls.specs.declared.names.Side.TheVariants.{A, B}
use Rattle.charlotte_packets.specs.declared.picture.MovingPicture.{MovingPicture}
use Rattle.charlotte_packets.specs.declared.picture.PictureWhat.{PictureWhat}
use Rattle.charlotte_packets.specs.declared.picture.PictureWhat.TheVariants as packet
use Rattle.charlotte_text.specs.Spelling.{number_text, side_text, end_text, bytes_text, most_ends}
use Rattle.charlotte_text.specs.Reading.{parts}
use Rattle.charlotte_text.proofs.Names.{end_again}
use Rattle.charlotte_text.proofs.Numbers.{no_digit, below_again}
use Rattle.transcript_lines.specs.Transcript.{bit, fields_text, numbers_text, value_text, values_text, packet_text}
use Rattle.transcript_lines.specs.TranscriptText.{HasFewPacket}
use Rattle.transcript_reading.specs.Forms.{bit_of, value_of, plus_value_of, values_of, wanted_of, parcel_of, back_of, gone_of, moved_of, end_number_of, named_packet_of, packet_of}
use Rattle.transcript_reading.proofs.Names.{number_word, numbers_words, wide8, wide32, u8_again, u32_again, end_word, bytes_word, text_again}
use Rattle.transcript_reading.proofs.Words.{IsMark, IsWord, AreWords, IsFree, IsSpelled, word_codes, split_joined, joined_map, same_text, one_word, word_before, words_behind}

-- ---- the value of an end

abbrev pub fields : MovingPicture → List ℕ
fields v = v.hops ∷ v.hint.0 ∷ v.hint.1 ∷ v.sent ∷ v.asked ∷ v.served ∷ v.want ∷ bit v.dead ∷ v.trail ∷ []

bit_small : (b : Bool) → bit b < 2
bit_small true = omega arith
bit_small false = omega arith

bit_is : (b : Bool) → eqb (bit b) 1 ≡ b
bit_is true = refl
bit_is false = refl

bit_wide : (b : Bool) → IsU64 (bit b)
bit_wide true = omega arith
bit_wide false = omega arith

bit_again : (b : Bool) → bit_of (number_text (bit b)) ≡ Ok b
unfolding bit_of
bit_again b = rw (below_again 2 (bit b) (bit_small b) (bit_wide b)) (ap Ok (bit_is b))

fields_wide : (v : MovingPicture) → IsValueInRange v → AllByRecursion IsU64 (fields v)
fields_wide v is = (
  wide32 v.hops is.hops,
  (wide8 v.hint.0 is.hint_kernel, (wide32 v.hint.1 is.hint_hops, (wide32 v.sent is.sent, (wide32 v.asked is.asked, (wide32 v.served is.served, (wide32 v.want is.want, (bit_wide v.dead, (wide8 v.trail is.trail, tt)))))))),
)

-- no colon stands in an end or a number
side_free : (s : Side) → IsFree 58 (side_text s)
side_free A = All-cons (λ b. eqb b 58 ≡ false) 97 [] refl (All-nil (λ b. eqb b 58 ≡ false))
side_free B = All-cons (λ b. eqb b 58 ≡ false) 98 [] refl (All-nil (λ b. eqb b 58 ≡ false))

number_free : (n : ℕ) → IsU64 n → IsFree 58 (number_text n)
number_free n lt = no_digit 58 n lt (inr (omega arith))

end_free : (e : EndId) → IsEnd e → IsFree 58 (end_text e)
end_free e is =
    let P : ℕ → Type 0 = λ b. eqb b 58 ≡ false in
    let m : List ℕ = number_text e.link.maker in
    let c : List ℕ = number_text e.link.count in
    All-append P (m ++ 46 ∷ [] ++ c) (side_text e.side)
    (All-append P (m ++ 46 ∷ []) c (All-append P m (46 ∷ []) (number_free e.link.maker (wide8 e.link.maker is.maker)) (All-cons P 46 [] refl (All-nil P))) (number_free e.link.count (wide32 e.link.count is.count)))
    (side_free e.side)

numbers_free : (ns : List ℕ) → AllByRecursion IsU64 ns → AllByRecursion (IsFree 58) (map number_text ns)
numbers_free [] lt = tt
numbers_free (n ∷ ns) lt = (number_free n lt.0, numbers_free ns lt.1)

value_parts : (v : MovingPicture) → IsValueInRange v → parts 58 (value_text v) ≡ end_text v.end ∷ map number_text (fields v)
value_parts v is =
    ap (parts 58) (sym (joined_map 58 number_text (end_text v.end) (fields v)))
    ∙ split_joined 58 (end_text v.end) (map number_text (fields v)) (end_free v.end is.end) (numbers_free (fields v) (fields_wide v is))

value_again : (v : MovingPicture) → IsValueInRange v → value_of (value_text v) ≡ Ok v
unfolding value_of
value_again v is =
    rw (
      value_parts v is,
      end_again v.end is.end,
      u32_again v.hops is.hops,
      u8_again v.hint.0 is.hint_kernel,
      u32_again v.hint.1 is.hint_hops,
      u32_again v.sent is.sent,
      u32_again v.asked is.asked,
      u32_again v.served is.served,
      u32_again v.want is.want,
      bit_again v.dead,
      u8_again v.trail is.trail,
    ) refl

abbrev pub plus_value_text : MovingPicture → List ℕ
plus_value_text v = 43 ∷ value_text v

plus_again : (v : MovingPicture) → IsValueInRange v → plus_value_of (plus_value_text v) ≡ Ok v
unfolding plus_value_of
plus_again v is = value_again v is

values_again : (most : ℕ) (vs : List MovingPicture) → AllByRecursion IsValueInRange vs → length vs ≤ most → values_of most (map plus_value_text vs) ≡ Ok vs
unfolding values_of
values_again most [] is le = refl
values_again zero (v ∷ vs) is le = absurd (omega arith)
values_again (suc most) (v ∷ vs) is le = rw (plus_again v is.0, values_again most vs is.1 (omega arith)) refl

fields_word : (ns : List ℕ) → AllByRecursion IsU64 ns → IsWord (fields_text ns)
fields_word [] lt = All-nil IsMark
fields_word (n ∷ ns) lt = All-append IsMark (58 ∷ number_text n) (fields_text ns) (All-cons IsMark 58 (number_text n) (omega arith) (number_word n lt.0)) (fields_word ns lt.1)

value_word : (v : MovingPicture) → IsValueInRange v → IsWord (plus_value_text v)
value_word v is =
    All-cons IsMark 43 (value_text v) (omega arith) (All-append IsMark (end_text v.end) (fields_text (fields v)) (end_word v.end is.end) (fields_word (fields v) (fields_wide v is)))

values_words : (vs : List MovingPicture) → AllByRecursion IsValueInRange vs → AreWords (map plus_value_text vs)
values_words [] is = tt
values_words (v ∷ vs) is = (value_word v is.0, values_words vs is.1)

-- ---- the words of a packet

abbrev pub packet_name : PictureWhat → List ℕ
packet_name (packet.Want to w at hops) = codes "want"
packet_name (packet.Unwant to w at hops) = codes "unwant"
packet_name (packet.Unwanted to w at hops) = codes "unwanted"
packet_name (packet.Parcel to n w at hops bytes moving) = codes "parcel"
packet_name (packet.Taken to n at hops) = codes "taken"
packet_name (packet.Back to n moving) = codes "back"
packet_name (packet.Gone to at) = codes "gone"
packet_name (packet.Moved to at hops) = codes "moved"
packet_name (packet.Known to hops) = codes "known"
packet_name (packet.Forget to hops) = codes "forget"
packet_name (packet.GoneSeen to) = codes "goneseen"

abbrev pub end_numbers : EndId → List ℕ → List (List ℕ)
end_numbers to ns = end_text to ∷ map number_text ns

abbrev pub packet_rest : PictureWhat → List (List ℕ)
packet_rest (packet.Want to w at hops) = end_numbers to (w ∷ at ∷ hops ∷ [])
packet_rest (packet.Unwant to w at hops) = end_numbers to (w ∷ at ∷ hops ∷ [])
packet_rest (packet.Unwanted to w at hops) = end_numbers to (w ∷ at ∷ hops ∷ [])
packet_rest (packet.Parcel to n w at hops bytes moving) =
    end_text to ∷ number_text n ∷ number_text w ∷ number_text at ∷ number_text hops ∷ bytes_text bytes ∷ map plus_value_text moving
packet_rest (packet.Taken to n at hops) = end_numbers to (n ∷ at ∷ hops ∷ [])
packet_rest (packet.Back to n moving) = end_text to ∷ number_text n ∷ map plus_value_text moving
packet_rest (packet.Gone to at) = end_numbers to (at ∷ [])
packet_rest (packet.Moved to at hops) = end_numbers to (at ∷ hops ∷ [])
packet_rest (packet.Known to hops) = end_numbers to (hops ∷ [])
packet_rest (packet.Forget to hops) = end_numbers to (hops ∷ [])
packet_rest (packet.GoneSeen to) = end_text to ∷ []

-- ---- the line has them

-- a name, an end and numbers
pub numbered_spelled : (name : List ℕ) (e : EndId) (ns : List ℕ) → IsWord name → IsEnd e → AllByRecursion IsU64 ns → IsSpelled (name ++ 32 ∷ (end_text e ++ numbers_text ns)) (name ∷ end_numbers e ns)
numbered_spelled name e ns is end lt =
    word_before name (end_text e ++ numbers_text ns) (end_text e) (map number_text ns) is (words_behind number_text (end_text e) ns (end_word e end) (numbers_words ns lt))

pub three_shape : (a b c : List ℕ) → a ++ 32 ∷ (b ++ c) ≡ (a ++ (32 ∷ (b ++ []))) ++ c
three_shape a b c = simp append_assoc

parcel_shape : (e a b c d t v : List ℕ) → e ++ 32 ∷ (a ++ 32 ∷ (b ++ 32 ∷ (c ++ 32 ∷ (d ++ 32 ∷ (t ++ v))))) ≡ ((((e ++ (32 ∷ (a ++ (32 ∷ (b ++ (32 ∷ (c ++ (32 ∷ (d ++ []))))))))) ++ 32 ∷ []) ++ t) ++ v)
parcel_shape e a b c d t v = simp append_assoc

pub packet_spelled : (what : PictureWhat) → IsPacketInRange what → IsSpelled (packet_text what) (packet_name what ∷ packet_rest what)
packet_spelled (packet.Want to w at hops) is = numbered_spelled (codes "want") to (w ∷ at ∷ hops ∷ []) (word_codes (codes "want") refl) is.0 (wide32 w is.1, (wide8 at is.2, (wide32 hops is.3, tt)))
packet_spelled (packet.Unwant to w at hops) is = numbered_spelled (codes "unwant") to (w ∷ at ∷ hops ∷ []) (word_codes (codes "unwant") refl) is.0 (wide32 w is.1, (wide8 at is.2, (wide32 hops is.3, tt)))
packet_spelled (packet.Unwanted to w at hops) is = numbered_spelled (codes "unwanted") to (w ∷ at ∷ hops ∷ []) (word_codes (codes "unwanted") refl) is.0 (wide32 w is.1, (wide8 at is.2, (wide32 hops is.3, tt)))
packet_spelled (packet.Parcel to n w at hops bytes moving) is =
    same_text _ _ _ (ap (λ (t : List ℕ). codes "parcel " ++ t) (parcel_shape (end_text to) (number_text n) (number_text w) (number_text at) (number_text hops) (bytes_text bytes) (values_text moving)))
    (word_before (codes "parcel") _ _ _ (word_codes (codes "parcel") refl) (word_before (end_text to) _ _ _ (end_word to is.0)
    (word_before (number_text n) _ _ _ (number_word n (wide32 n is.1)) (word_before (number_text w) _ _ _ (number_word w (wide32 w is.2))
    (word_before (number_text at) _ _ _ (number_word at (wide8 at is.3)) (word_before (number_text hops) _ _ _ (number_word hops (wide32 hops is.4))
    (words_behind plus_value_text (bytes_text bytes) moving (bytes_word bytes) (values_words moving is.6.each))))))))
packet_spelled (packet.Taken to n at hops) is = numbered_spelled (codes "taken") to (n ∷ at ∷ hops ∷ []) (word_codes (codes "taken") refl) is.0 (wide32 n is.1, (wide8 at is.2, (wide32 hops is.3, tt)))
packet_spelled (packet.Back to n moving) is =
    same_text _ _ _ (ap (λ (t : List ℕ). codes "back " ++ t) (three_shape (end_text to) (number_text n) (values_text moving)))
    (word_before (codes "back") _ _ _ (word_codes (codes "back") refl) (word_before (end_text to) _ _ _ (end_word to is.0)
    (words_behind plus_value_text (number_text n) moving (number_word n (wide32 n is.1)) (values_words moving is.2.each))))
packet_spelled (packet.Gone to at) is = numbered_spelled (codes "gone") to (at ∷ []) (word_codes (codes "gone") refl) is.0 (wide8 at is.1, tt)
packet_spelled (packet.Moved to at hops) is = numbered_spelled (codes "moved") to (at ∷ hops ∷ []) (word_codes (codes "moved") refl) is.0 (wide8 at is.1, (wide32 hops is.2, tt))
packet_spelled (packet.Known to hops) is = numbered_spelled (codes "known") to (hops ∷ []) (word_codes (codes "known") refl) is.0 (wide32 hops is.1, tt)
packet_spelled (packet.Forget to hops) is = numbered_spelled (codes "forget") to (hops ∷ []) (word_codes (codes "forget") refl) is.0 (wide32 hops is.1, tt)
packet_spelled (packet.GoneSeen to) is = word_before (codes "goneseen") (end_text to) (end_text to) [] (word_codes (codes "goneseen") refl) (one_word (end_text to) (end_word to is))

-- ---- and is read again

wanted_again : (to : EndId) (w at hops : ℕ) → IsEnd to → IsU32 w → IsU8 at → IsU32 hops → wanted_of (end_numbers to (w ∷ at ∷ hops ∷ [])) ≡ Ok (to, w, at, hops)
unfolding wanted_of
wanted_again to w at hops end ws ats hs = rw (end_again to end, u32_again w ws, u8_again at ats, u32_again hops hs) refl

pub end_number_again : (on : EndId) (n : ℕ) → IsEnd on → IsU32 n → end_number_of (end_numbers on (n ∷ [])) ≡ Ok (on, n)
unfolding end_number_of
end_number_again on n end lt = rw (end_again on end, u32_again n lt) refl

pub packet_again : (v : ℕ) (what : PictureWhat) → IsPacketInRange what → HasFewPacket v what → packet_of v (packet_name what ∷ packet_rest what) ≡ Ok what
unfolding packet_of named_packet_of parcel_of back_of gone_of moved_of
packet_again v (packet.Want to w at hops) is few = rw (wanted_again to w at hops is.0 is.1 is.2 is.3) refl
packet_again v (packet.Unwant to w at hops) is few = rw (wanted_again to w at hops is.0 is.1 is.2 is.3) refl
packet_again v (packet.Unwanted to w at hops) is few = rw (wanted_again to w at hops is.0 is.1 is.2 is.3) refl
packet_again v (packet.Parcel to n w at hops bytes moving) is few =
    rw (end_again to is.0, u32_again n is.1, u32_again w is.2, u8_again at is.3, u32_again hops is.4, text_again bytes is.5, values_again (most_ends v) moving is.6.each few) refl
packet_again v (packet.Taken to n at hops) is few = rw (wanted_again to n at hops is.0 is.1 is.2 is.3) refl
packet_again v (packet.Back to n moving) is few = rw (end_again to is.0, u32_again n is.1, values_again (most_ends v) moving is.2.each few) refl
packet_again v (packet.Gone to at) is few = rw (end_again to is.0, u8_again at is.1) refl
packet_again v (packet.Moved to at hops) is few = rw (end_again to is.0, u8_again at is.1, u32_again hops is.2) refl
packet_again v (packet.Known to hops) is few = rw (end_number_again to hops is.0 is.1) refl
packet_again v (packet.Forget to hops) is few = rw (end_number_again to hops is.0 is.1) refl
packet_again v (packet.GoneSeen to) is few = rw (end_again to is) refl
