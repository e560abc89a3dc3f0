-- Names, numbers, bytes and calls: each is spelled by words and read again.
use Rattle.std.proofs.Common.{◌≡◌, ℕ, ◌^◌, ◌<◌, true, false, cond, codes, ◌+◌, ◌/◌, ◌%◌, leb, List, [], ◌∷◌, ◌++◌, map, Ok, refl, ◌∙◌, arith}
use Rattle.std.specs.Char.{is_ascii_digit}
use Rattle.std.specs.List.{AllByRecursion, list_all, flat_map}
use Rattle.std.proofs.lemmas.Bool.{and_parts}
use Rattle.std.proofs.lemmas.Bool.Decides.{nat_tests}
use Rattle.std.proofs.lemmas.Fmt.{digits_decimal}
use Rattle.std.proofs.lemmas.List.Elements.{All-append, All-cons, All-nil}
use Rattle.charlotte_calls.specs.Ranges.{IsEnd, IsPid, IsU8, IsU32, IsU64, AreBytesInRange, IsCallInRange}
use Rattle.charlotte_calls.specs.declared.calls.Call.{Call}
use Rattle.charlotte_calls.specs.declared.calls.Call.TheVariants as call
use Rattle.charlotte_calls.specs.declared.names.EndId.{EndId}
use Rattle.charlotte_calls.specs.declared.names.Pid.{Pid}
use Rattle.charlotte_calls.specs.declared.names.Side.{Side}
use Rattle.charlotte_calls.specs.declared.names.Side.TheVariants.{A, B}
use Rattle.charlotte_calls.specs.declared.names.Way.{Way}
use Rattle.charlotte_calls.specs.declared.names.Way.TheVariants.{Inward, Outward}
use Rattle.charlotte_text.specs.Spelling.{number_text, side_text, end_text, plus_text, process_text, is_plain, hex_digit, byte_text, bytes_text, way_text, call_text, IsCall}
use Rattle.charlotte_text.specs.Reading.{number_below, bytes_of}
use Rattle.charlotte_text.proofs.Numbers.{own, below_again}
use Rattle.charlotte_text.proofs.Texts.{bytes_again, short_text}
use Rattle.charlotte_text.proofs.Calls.{call_words, joined}
use Rattle.transcript_lines.specs.TranscriptText.{HasFewCall}
use Rattle.transcript_reading.specs.Forms.{numbered_of, pid_of, kernel_of}
use Rattle.transcript_reading.proofs.Words.{IsMark, IsWord, AreWords, IsSpelled, word_codes}

-- ---- numbers

digit_mark : (b : ℕ) → is_ascii_digit b ≡ true → IsMark b
digit_mark b e = grind (arith, nat_tests)

digits_word : (ds : List ℕ) → list_all is_ascii_digit ds ≡ true → IsWord ds
digits_word [] e = All-nil IsMark
digits_word (b ∷ bs) e =
    let k = and_parts (is_ascii_digit b) (list_all is_ascii_digit bs) e in
    All-cons IsMark b bs (digit_mark b k.0) (digits_word bs k.1)

pub number_word : (n : ℕ) → IsU64 n → IsWord (number_text n)
number_word n lt = digits_word (number_text n) (digits_decimal own n lt)

pub numbers_words : (ns : List ℕ) → AllByRecursion IsU64 ns → AreWords (map number_text ns)
numbers_words [] lt = tt
numbers_words (n ∷ ns) lt = (number_word n lt.0, numbers_words ns lt.1)

pub wide8 : (n : ℕ) → IsU8 n → IsU64 n
wide8 n lt = omega arith

pub wide32 : (n : ℕ) → IsU32 n → IsU64 n
wide32 n lt = omega arith

pub u8_again : (n : ℕ) → IsU8 n → number_below (2 ^ 8) (number_text n) ≡ Ok n
u8_again n lt = below_again (2 ^ 8) n lt (wide8 n lt)

pub u32_again : (n : ℕ) → IsU32 n → number_below (2 ^ 32) (number_text n) ≡ Ok n
u32_again n lt = below_again (2 ^ 32) n lt (wide32 n lt)

pub u64_again : (n : ℕ) → IsU64 n → number_below (2 ^ 64) (number_text n) ≡ Ok n
u64_again n lt = below_again (2 ^ 64) n lt lt

-- a letter before a number
pub letter_word : (b n : ℕ) → IsMark b → IsU64 n → IsWord (b ∷ number_text n)
letter_word b n mark lt = All-cons IsMark b (number_text n) mark (number_word n lt)

pub pid_wide : (p : Pid) → IsPid p → IsU64 p.0
pid_wide p lt = omega arith

pub numbered_again : (p : Pid) → IsPid p → numbered_of (number_text p.0) ≡ Ok p
numbered_again p lt = rw (below_again (2 ^ 16) p.0 lt (pid_wide p lt)) refl

pub pid_again : (p : Pid) → IsPid p → pid_of (process_text p) ≡ Ok p
unfolding pid_of
pid_again p lt = numbered_again p lt

pub kernel_again : (k : ℕ) → IsU8 k → kernel_of (107 ∷ number_text k) ≡ Ok k
unfolding kernel_of
kernel_again k lt = u8_again k lt

-- ---- ends

side_word : (s : Side) → IsWord (side_text s)
side_word A = word_codes (97 ∷ []) refl
side_word B = word_codes (98 ∷ []) refl

pub end_word : (e : EndId) → IsEnd e → IsWord (end_text e)
end_word e is =
    let m : ℕ = e.link.maker in
    let c : ℕ = e.link.count in
    All-append IsMark (number_text m ++ 46 ∷ [] ++ number_text c) (side_text e.side)
    (All-append IsMark (number_text m ++ 46 ∷ []) (number_text c) (All-append IsMark (number_text m) (46 ∷ []) (number_word m (wide8 m is.maker)) (word_codes (46 ∷ []) refl)) (number_word c (wide32 c is.count)))
    (side_word e.side)

pub ends_words : (es : List EndId) → AllByRecursion IsEnd es → AreWords (map plus_text es)
ends_words [] is = tt
ends_words (e ∷ es) is = (All-cons IsMark 43 (end_text e) (omega arith) (end_word e is.0), ends_words es is.1)

-- ---- bytes

plain_mark : (b : ℕ) → is_plain b ≡ true → IsMark b
plain_mark b e = grind (arith, nat_tests)

digit_above : (d : ℕ) → IsMark (hex_digit d)
digit_above d = elim (leb d 9) as (λ t. 32 < cond t (48 + d) (55 + d)) [ true ↦ omega arith | false ↦ omega arith ]

byte_word : (b : ℕ) → IsWord (byte_text b)
byte_word b =
    elim (is_plain b) as (λ t. is_plain b ≡ t → IsWord (cond t (b ∷ []) (37 ∷ hex_digit (b / 16) ∷ hex_digit (b % 16) ∷ []))) [
      | true ↦ λ p. All-cons IsMark b [] (plain_mark b p) (All-nil IsMark)
      | false ↦ λ p. All-cons IsMark 37 (hex_digit (b / 16) ∷ hex_digit (b % 16) ∷ []) (omega arith)
          (All-cons IsMark (hex_digit (b / 16)) (hex_digit (b % 16) ∷ []) (digit_above (b / 16)) (All-cons IsMark (hex_digit (b % 16)) [] (digit_above (b % 16)) (All-nil IsMark)))
    ] refl

spelled_word : (bs : List ℕ) → IsWord (flat_map byte_text bs)
spelled_word [] = All-nil IsMark
spelled_word (b ∷ bs) = All-append IsMark (byte_text b) (flat_map byte_text bs) (byte_word b) (spelled_word bs)

pub bytes_word : (bs : List ℕ) → IsWord (bytes_text bs)
bytes_word [] = word_codes (45 ∷ []) refl
bytes_word (b ∷ bs) = spelled_word (b ∷ bs)

pub text_again : (bs : List ℕ) → AreBytesInRange bs → bytes_of (bytes_text bs) ≡ Ok bs
text_again bs is = bytes_again bs is.each ∙ short_text bs is.few

-- ---- ways and calls

pub way_word : (way : Way) → IsWord (way_text way)
way_word Inward = word_codes (codes "in") refl
way_word Outward = word_codes (codes "out") refl

-- a call of so many ends is one that a line can spell
pub spelled_call : (v : ℕ) (c : Call) → IsCallInRange c → HasFewCall v c → IsCall v c
spelled_call v call.Make is few = tt
spelled_call v (call.Destroy on) is few = is
spelled_call v (call.Send on bytes enclose) is few = (is.0, is.1.each, is.1.few, is.2.each, few)
spelled_call v (call.Receive on) is few = is
spelled_call v (call.Cancel on way) is few = is
spelled_call v call.Wait is few = tt
spelled_call v (call.Print bytes) is few = (is.each, is.few)
spelled_call v call.Exit is few = tt

call_each : (c : Call) → IsCallInRange c → AreWords (call_words c)
call_each call.Make is = (word_codes (codes "make") refl, tt)
call_each (call.Destroy on) is = (word_codes (codes "destroy") refl, (end_word on is, tt))
call_each (call.Send on bytes enclose) is = (word_codes (codes "send") refl, (end_word on is.0, (bytes_word bytes, ends_words enclose is.2.each)))
call_each (call.Receive on) is = (word_codes (codes "receive") refl, (end_word on is, tt))
call_each (call.Cancel on way) is = (word_codes (codes "cancel") refl, (end_word on is, (way_word way, tt)))
call_each call.Wait is = (word_codes (codes "wait") refl, tt)
call_each (call.Print bytes) is = (word_codes (codes "print") refl, (bytes_word bytes, tt))
call_each call.Exit is = (word_codes (codes "exit") refl, tt)

pub call_spelled : (c : Call) → IsCallInRange c → IsSpelled (call_text c) (call_words c)
call_spelled c is = record { joined = joined c; each = call_each c is }
