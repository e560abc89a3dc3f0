-- What stands behind a value in a text that begins with it.
use Rattle.std.proofs.Common.{◌≡◌, ◌↔◌, ℕ, ◌+◌, ◌-◌, ◌*◌, ◌/◌, ◌%◌, ◌^◌, ◌<◌, ◌≤◌, List, [], ◌∷◌, ◌++◌, append_assoc, length, true, Option, Some, None, IsNone, IfSome, MatchOption, Ok, append-nil, codes, sym, ap, subst, ◌∙◌, arith}
use Rattle.std.specs.List.{list_all}
use Rattle.std.proofs.lemmas.Fmt.{decimal_digit, decimal_step}
use Rattle.charlotte_calls.specs.declared.calls.Call.{Call}
use Rattle.charlotte_calls.specs.declared.calls.Call.TheVariants as call
use Rattle.charlotte_calls.specs.declared.names.EndId.{EndId}
use Rattle.charlotte_packets.specs.declared.picture.MovingPicture.{MovingPicture}
use Rattle.charlotte_packets.specs.declared.picture.PictureWhat.{PictureWhat}
use Rattle.charlotte_packets.specs.declared.picture.PictureWhat.TheVariants as packet
use Rattle.charlotte_text.specs.Reading.{bytes_of, call_of, rest_parts}
use Rattle.charlotte_text.specs.Spelling.{AreBytes, IsCall, IsEnd, bytes_text, call_text, end_text, is_plain, number_text, process_text}
use Rattle.charlotte_text.proofs.Clauses.{call_fits, call_found}
use Rattle.charlotte_text.proofs.Texts.{Spells, bytes_takes, plain_kept}
use Rattle.transcript_reading.specs.Spelling.{kind_text}
use Rattle.transcript_lines.specs.Transcript.{numbers_text, packet_text, values_text}
use Rattle.transcript_reading.specs.declared.line.LineKind.TheVariants as line
use Rattle.leading_lines.specs.Ahead.{head_text}
use Rattle.leading_lines.specs.declared.guess.Ahead.TheVariants as heads
use Rattle.leading_lines.specs.declared.guess.CallAhead.{CallAhead}
use Rattle.leading_lines.specs.declared.guess.PacketAhead.{PacketAhead}

-- a digit is a number
pub digit_first : (d v : ℕ) (rest : List ℕ) → 48 ≤ d → d ≤ 57 → v ≡ d - 48 → d ∷ rest ≡ number_text v ++ rest
digit_first d v rest low high is =
    let same : 48 + v ≡ d = omega (arith, low, is) in
    sym (ap (λ (x : List ℕ). x ++ rest) (decimal_digit v (omega (arith, low, high, is)) ∙ ap (λ (x : ℕ). x ∷ []) same))

-- a number and one digit more
pub digit_more : (n d v : ℕ) (rest : List ℕ) → 0 < n → v ≡ d - 48 → 48 ≤ d → d ≤ 57 → 10 * n + v < 2 ^ 64 → number_text n ++ d ∷ rest ≡ number_text (10 * n + v) ++ rest
digit_more n d v rest some is low high small =
    let m : ℕ = 10 * n + v in
    let front : m / 10 ≡ n = omega (arith, low, high, is) in
    let end : 48 + m % 10 ≡ d = omega (arith, low, high, is) in
    sym (ap (λ (x : List ℕ). x ++ rest) (decimal_step m (omega (arith, some)) small ∙ (λ i. number_text (front i) ++ (end i ∷ []))) ∙ append_assoc (number_text n) (d ∷ []) rest)

pub matched : {A : Type 0} (N : Type 0) (P : A → Type 0) (r : Option A) → MatchOption r N P → IfSome r P
matched N P None is = tt
matched N P (Some x) is = is

-- ---- calls

abbrev pub there : List ℕ → Option (List ℕ)
there text = Some text

same_words : (a b : List ℕ) → there a ≡ there b → a ≡ b
same_words a b e = cc

-- the words of a call, and what stands behind them
pub call_then : (v : ℕ) (text words rest : List ℕ) (c : Call) → text ≡ words ++ rest → call_of v (rest_parts 32 (there words)) ≡ Ok c → text ≡ call_text c ++ rest
call_then v text words rest c e is = e ∙ ap (λ (w : List ℕ). w ++ rest) (same_words words (call_text c) (call_found v (there words) (Ok c) (sym is)))

pub call_fits_there : (v : ℕ) (words : List ℕ) (c : Call) → call_of v (rest_parts 32 (there words)) ≡ Ok c → IsCall v c
call_fits_there v words c is = call_fits v (there words) (Ok c) (sym is)

-- plain bytes, and what stands behind them
pub plain_spelled : (word bytes : List ℕ) (r : Option (List ℕ)) → 0 < length word → list_all is_plain word ≡ true → (IsNone r ↔ (256 < length word)) → IfSome r (λ s. s ≡ word) → r ≡ there bytes → Spells word bytes × (length bytes ≤ 256)
plain_spelled word bytes r some plain long same is = bytes_takes word bytes (subst (λ (o : Option (List ℕ)). IfSome o (λ bs. bytes_of word ≡ Ok bs)) is (plain_kept word r some plain long same))

-- a send of plain bytes without ends, and what stands behind it
pub tail_shape : (e b n rest : List ℕ) → e ++ (32 ∷ (b ++ (n ++ rest))) ≡ (((e ++ 32 ∷ []) ++ b) ++ n) ++ rest
tail_shape e b n rest = simp append_assoc

pub send_then : (on : EndId) (text behind_word behind_end behind_blank word rest bytes : List ℕ) (enclose : List EndId) → text ≡ codes "send " ++ behind_word → behind_word ≡ end_text on ++ behind_end
    → behind_end ≡ 32 ∷ behind_blank → behind_blank ≡ word ++ rest → word ≡ bytes_text bytes → enclose ≡ []
    → text ≡ call_text (call.Send on bytes enclose) ++ rest
send_then on text behind_word behind_end behind_blank word rest bytes enclose e f g h spelled none =
    e
    ∙ ap (λ (x : List ℕ). codes "send " ++ x) (f ∙ ap (λ (x : List ℕ). end_text on ++ x) (g ∙ ap (λ (x : List ℕ). 32 ∷ x) (h ∙ ap (λ (x : List ℕ). x ++ rest) spelled)) ∙ tail_shape (end_text on) (bytes_text bytes) [] rest)
    ∙ ap (λ (es : List EndId). call_text (call.Send on bytes es) ++ rest) (sym none)

pub send_fits : (v : ℕ) (on : EndId) (bytes : List ℕ) (enclose : List EndId) → IsEnd on → AreBytes bytes → length bytes ≤ 256 → enclose ≡ [] → IsCall v (call.Send on bytes enclose)
send_fits v on bytes enclose end are few none = subst (λ (es : List EndId). IsCall v (call.Send on bytes es)) (sym none) (end, are, few, tt, omega arith)

-- ---- packets

-- four numbers, read by one, one and two
four_numbers : (a b t : List ℕ) → (32 ∷ (a ++ [])) ++ ((32 ∷ (b ++ [])) ++ t) ≡ 32 ∷ (a ++ (32 ∷ (b ++ t)))
four_numbers a b t = simp append-nil

parcel_shape : (x n w p s y m rest : List ℕ) → (x ++ n) ++ (w ++ (p ++ (s ++ (y ++ (m ++ rest))))) ≡ ((((x ++ (n ++ (w ++ p))) ++ s) ++ y) ++ m) ++ rest
parcel_shape x n w p s y m rest = simp append_assoc

-- a parcel, and what stands behind it
pub parcel_then : (to : EndId) (n w at hops : ℕ) (bytes : List ℕ) (moving : List MovingPicture) (text behind_n behind_w behind_hops behind_blank behind_bytes rest : List ℕ)
    → text ≡ codes "parcel " ++ end_text to ++ numbers_text (n ∷ []) ++ behind_n → behind_n ≡ numbers_text (w ∷ []) ++ behind_w → behind_w ≡ numbers_text (at ∷ hops ∷ []) ++ behind_hops
    → behind_hops ≡ 32 ∷ behind_blank → behind_blank ≡ bytes_text bytes ++ behind_bytes → behind_bytes ≡ values_text moving ++ rest → text ≡ packet_text (packet.Parcel to n w at hops bytes moving) ++ rest
parcel_then to n w at hops bytes moving text behind_n behind_w behind_hops behind_blank behind_bytes rest e f g h b v =
    let front : List ℕ = codes "parcel " ++ end_text to in
    e
    ∙ ap (λ (x : List ℕ). front ++ numbers_text (n ∷ []) ++ x)
    (f ∙ ap (λ (x : List ℕ). numbers_text (w ∷ []) ++ x) (g ∙ ap (λ (x : List ℕ). numbers_text (at ∷ hops ∷ []) ++ x) (h ∙ ap (λ (x : List ℕ). 32 ∷ x) (b ∙ ap (λ (x : List ℕ). bytes_text bytes ++ x) v))))
    ∙ parcel_shape front (numbers_text (n ∷ [])) (numbers_text (w ∷ [])) (numbers_text (at ∷ hops ∷ [])) (codes " ") (bytes_text bytes) (values_text moving) rest
    ∙ ap (λ (x : List ℕ). ((((front ++ x) ++ codes " ") ++ bytes_text bytes) ++ values_text moving) ++ rest) (four_numbers (number_text n) (number_text w) (numbers_text (at ∷ hops ∷ [])))

-- ---- entries

same_entry : (a b c d p left : List ℕ) → (a ++ b ++ c ++ d) ++ (p ++ left) ≡ (a ++ (b ++ c ++ d ++ p)) ++ left
same_entry a b c d p left = simp append_assoc

abbrev pub stamp_text : ℕ → ℕ → List ℕ
stamp_text stamp kernel = number_text stamp ++ codes " k" ++ number_text kernel

-- an entry, whose head and call or packet are these
pub entry_then : (a b c d p text rest : List ℕ) → text ≡ p ++ rest → (a ++ b ++ c ++ d) ++ text ≡ (a ++ (b ++ c ++ d ++ p)) ++ rest
entry_then a b c d p text rest e = ap (λ (t : List ℕ). (a ++ b ++ c ++ d) ++ t) e ∙ same_entry a b c d p rest

pub asked_then : (a : CallAhead) (c : Call) (text rest : List ℕ) → text ≡ call_text c ++ rest → head_text (heads.Call a) ++ text ≡ kind_text (line.CallEntry a.stamp a.kernel a.p c) ++ rest
asked_then a c text rest e = entry_then (stamp_text a.stamp a.kernel) (codes " ") (process_text a.p) (codes " ") (call_text c) text rest e

pub took_then : (a : PacketAhead) (p : PictureWhat) (text rest : List ℕ) → text ≡ packet_text p ++ rest → head_text (heads.Packet a) ++ text ≡ kind_text (line.PacketEntry a.stamp a.kernel a.from (record { stamp = 0; what = p })) ++ rest
took_then a p text rest e = entry_then (stamp_text a.stamp a.kernel) (codes " from ") (number_text a.from) (codes " ") (packet_text p) text rest e
