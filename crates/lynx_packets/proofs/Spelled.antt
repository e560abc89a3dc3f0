-- The reader of a whole packet is exact, and its texts are the spellings of packets.
use Rattle.std.proofs.Common.{◌≡◌, ℕ, zero, suc, ◌≤◌, ◌<◌, ◌^◌, Bool, true, false, cond, List, [], ◌∷◌, ◌++◌, length, Result, Ok, Err, refl, sym, ap, subst, ◌∙◌, arith}
use Rattle.std.specs.Prelude.{◌==◌}
use Rattle.std.proofs.lemmas.Bool.{eqb-true}
use Rattle.std.proofs.lemmas.List.{append-nil}
use Rattle.std.proofs.lemmas.List.Sums.{sum_by-cons}
use Rattle.lynx_packets.specs.declared.value.RtValue.{RtValue}
use Rattle.lynx_packets.specs.declared.value.RtValue.TheVariants as values
use Rattle.lynx_packets.specs.declared.packet.RtPacket.{RtPacket}
use Rattle.lynx_packets.specs.declared.packet.RtPacket.TheVariants as packets
use Rattle.lynx_packets.specs.Spelling.{number_text, values_text, spelling, is_link, links_of, AreValues, IsReplyOf, IsPacket, Has, Spells}
use Rattle.lynx_packets.specs.Reading.{byte_at, link_count}
use Rattle.lynx_packets.specs.Packets.{request_of, reply_of, enc_of, numbered, numbered_of, of_kind, last_kind, packet_of}
use Rattle.lynx_packets.proofs.Exact.{Then, Either, ReadsAll, both_all}
use Rattle.lynx_packets.proofs.Parts.{IsByteText, byte_reads, IsNumberText}
use Rattle.lynx_packets.proofs.Replies.{link_sum}
use Rattle.lynx_packets.proofs.Answered.{ResultsText, StatusText, reply_reads}
use Rattle.lynx_packets.proofs.Whole.{NumberAlone, Numbered, numbered_reads, enc_reads}
use Rattle.lynx_packets.proofs.Requests.{RequestText, request_reads, request_to, request_back}

-- ---- the reader

abbrev pub ReplyText : RtPacket → List ℕ → Type 0
ReplyText = Then IsNumberText StatusText

abbrev pub EncText : RtPacket → List ℕ → Type 0
EncText = Then (IsByteText 1 2) Numbered

abbrev pub KindText : ℕ → RtPacket → List ℕ → Type 0
KindText kind = Either (kind == 1) RequestText (Either (kind == 2) ReplyText (Either (kind == 7) EncText (NumberAlone kind)))

either_all : (b : Bool) (one two : List ℕ → Result RtPacket ℕ) (Text Other : RtPacket → List ℕ → Type 0) → ReadsAll one Text → ReadsAll two Other → ReadsAll (λ bytes. cond b (one bytes) (two bytes)) (Either b Text Other)
either_all true one two Text Other r s = r
either_all false one two Text Other r s = s

kind_reads : (kind : ℕ) → ReadsAll (of_kind kind) (KindText kind)
kind_reads kind =
    let last = numbered_of kind in
    let seven : List ℕ → Result RtPacket ℕ = λ bytes. cond (kind == 7) (enc_of bytes) (last bytes) in
    let two : List ℕ → Result RtPacket ℕ = λ bytes. cond (kind == 2) (reply_of bytes) (seven bytes) in
    either_all (kind == 1) request_of two RequestText (Either (kind == 2) ReplyText (Either (kind == 7) EncText (NumberAlone kind))) request_reads
    (either_all (kind == 2) reply_of seven ReplyText (Either (kind == 7) EncText (NumberAlone kind)) reply_reads
    (either_all (kind == 7) enc_of last EncText (NumberAlone kind) enc_reads (numbered_reads kind)))

lives : {Text : RtPacket → List ℕ → Type 0} {read : List ℕ → Result RtPacket ℕ} → ReadsAll read Text → (r : Result RtPacket ℕ) → read [] ≡ r → (p : RtPacket) × (t : List ℕ) × Text p t
lives reads (Ok p) e = (p, [], reads.found [] p (λ i. omega arith) e)
lives reads (Err n) e = let w = reads.wrong [] n (λ i. omega arith) e in (w.value, w.front ++ w.more, w.goes_on)

some_kind : (kind : ℕ) → (p : RtPacket) × (t : List ℕ) × KindText kind p t
some_kind kind = lives (kind_reads kind) (of_kind kind []) refl

abbrev pub WholeText : ℕ → RtPacket → List ℕ → Type 0
WholeText version = Then (IsByteText 1 (last_kind version)) KindText

last_some : (version : ℕ) (b : Bool) → (version == 1) ≡ b → (5 ≤ cond b 7 5) × (cond b 7 5 ≤ 7)
last_some version true e = (omega arith, omega arith)
last_some version false e = (omega arith, omega arith)

last_within : (version : ℕ) → (5 ≤ last_kind version) × (last_kind version ≤ 7)
last_within version = last_some version (version == 1) refl

pub packet_reads : (version : ℕ) → ReadsAll (packet_of version) (WholeText version)
unfolding packet_of
packet_reads version =
    both_all (byte_at 1 (last_kind version)) (λ kind rest. of_kind kind rest) (IsByteText 1 (last_kind version)) KindText (byte_reads 1 (last_kind version) (omega (arith, (last_within version).0)))
    kind_reads (λ kind a is. some_kind kind)

-- ---- each kind spells

link_counted : (v : RtValue) → link_count v ≡ cond (is_link v) 1 0
link_counted values.Link = refl
link_counted (values.Int n) = refl
link_counted (values.Bool b) = refl
link_counted (values.Text t) = refl
link_counted (values.Row ns) = refl

links_summed : (vs : List RtValue) → link_sum vs ≡ links_of vs
links_summed [] = refl
links_summed (v ∷ vs) = omega (arith, link_counted v, links_summed vs, sum_by-cons (λ w. cond (is_link w) 1 0) v vs)

abbrev Spelled : ℕ → RtPacket → List ℕ → Type 0
Spelled kind p text = IsPacket p × (kind ∷ text ≡ spelling p)

reply_is : (n status : ℕ) (p : RtPacket) (text : List ℕ) → status ≤ 1 → IsNumberText n (number_text n) → ResultsText n status p text → Spelled 2 p (number_text n ++ status ∷ text)
unfolding spelling
reply_is n zero p text few number (vs, results, is) =
    let obeys : AreValues vs = record { each = results.obey; few = omega (arith, results.few, links_summed vs) } in
    subst (λ (q : RtPacket). Spelled 2 q (number_text n ++ 0 ∷ text)) is ((number.below, obeys, tt), ap (λ (t : List ℕ). 2 ∷ (number_text n ++ 0 ∷ t)) results.is)
reply_is n (suc zero) p text few number (is, none) =
    subst (λ (q : RtPacket). Spelled 2 q (number_text n ++ 1 ∷ text)) (sym is) ((number.below, record { each = tt; few = omega arith }, refl), ap (λ (t : List ℕ). 2 ∷ (number_text n ++ 1 ∷ t)) none)
reply_is n (suc (suc m)) p text few number results = absurd (omega (arith, few))

reply_to : (p : RtPacket) (text : List ℕ) → ReplyText p text → Spelled 2 p text
reply_to p text (n, a, b, number, (status, c, d, byte, results, parts2), parts) =
    let whole : text ≡ number_text n ++ status ∷ d = parts ∙ ap (λ (t : List ℕ). t ++ b) number.is ∙ ap (λ (t : List ℕ). number_text n ++ t) (parts2 ∙ ap (λ (t : List ℕ). t ++ d) byte.is) in
    subst (λ (t : List ℕ). Spelled 2 p t) (sym whole) (reply_is n status p d byte.to (record { is = refl; below = number.below }) results)

enc_to : (p : RtPacket) (text : List ℕ) → EncText p text → Spelled 7 p text
unfolding spelling
enc_to p text (kind, a, b, byte, (n, c, d, number, (index, e, f, last, (is, none), parts3), parts2), parts) =
    let tail : d ≡ index ∷ [] = parts3 ∙ ap (λ (t : List ℕ). e ++ t) none ∙ append-nil e ∙ last.is in
    let whole : text ≡ kind ∷ (number_text n ++ index ∷ []) =
    parts ∙ ap (λ (t : List ℕ). t ++ b) byte.is ∙ ap (λ (t : List ℕ). kind ∷ t) (parts2 ∙ ap (λ (t : List ℕ). t ++ d) number.is ∙ ap (λ (t : List ℕ). number_text n ++ t) tail) in
    subst (λ (q : RtPacket). Spelled 7 q text) (sym is) ((byte.from, byte.to, number.below, last.from, last.to), ap (λ (t : List ℕ). 7 ∷ t) whole)

version_one : (version : ℕ) (b : Bool) → (version == 1) ≡ b → 6 ≤ cond b 7 5 → version ≡ 1
version_one version true e le = eqb-true version 1 e
version_one version false e le = absurd (omega (arith, le))

-- the version has the kind
has_late : (version kind : ℕ) → 6 ≤ kind → kind ≤ last_kind version → version ≡ 1
has_late version kind late to = version_one version (version == 1) refl (omega (arith, late, to))

alone_is : (kind : ℕ) (p : RtPacket) (text : List ℕ) → NumberAlone kind p text → (n : ℕ) × IsNumberText n text × (p ≡ numbered kind n)
alone_is kind p text (n, a, b, number, (is, none), parts) = (n, record { is = parts ∙ ap (λ (t : List ℕ). a ++ t) none ∙ append-nil a ∙ number.is; below = number.below }, is)

request_has : (version : ℕ) (p : RtPacket) (text : List ℕ) → RequestText p text → Has version p
request_has version p text (n, a, b, number, (x, c, d, s, (vs, e, f, args, (is, none), parts3), parts2), parts) = subst (λ (q : RtPacket). Has version q) (sym is) tt

results_have : (version n status : ℕ) (p : RtPacket) (text : List ℕ) → ResultsText n status p text → Has version p
results_have version n zero p text (vs, results, is) = subst (λ (q : RtPacket). Has version q) is tt
results_have version n (suc status) p text (is, none) = subst (λ (q : RtPacket). Has version q) (sym is) tt

reply_has : (version : ℕ) (p : RtPacket) (text : List ℕ) → ReplyText p text → Has version p
reply_has version p text (n, a, b, number, (status, c, d, byte, results, parts2), parts) = results_have version n status p d results

enc_has : (version : ℕ) (p : RtPacket) (text : List ℕ) → version ≡ 1 → EncText p text → Has version p
enc_has version p text one (kind, a, b, byte, (n, c, d, number, (index, e, f, last, (is, none), parts3), parts2), parts) = subst (λ (q : RtPacket). Has version q) (sym is) one

of_text : (version kind : ℕ) (p : RtPacket) (text : List ℕ) → Has version p → Spelled kind p text → Spells version p (kind ∷ text)
of_text version kind p text has s = record { has = has; obeys = s.0; spelled = s.1 }

alone_spells : (version kind n : ℕ) (p q : RtPacket) (text : List ℕ) → p ≡ q → Has version q → IsPacket q → spelling q ≡ kind ∷ number_text n → IsNumberText n text → Spells version p (kind ∷ text)
alone_spells version kind n p q text same has obeys spelled number =
    subst (λ (r : RtPacket). Spells version r (kind ∷ text)) (sym same) (record { has = has; obeys = obeys; spelled = ap (λ (t : List ℕ). kind ∷ t) number.is ∙ sym spelled })

kind_spells : (version kind : ℕ) (p : RtPacket) (text : List ℕ) → 1 ≤ kind → kind ≤ last_kind version → KindText kind p text → Spells version p (kind ∷ text)
unfolding spelling
kind_spells version zero p text from to body = absurd (omega (arith, from))
kind_spells version (suc zero) p text from to body = of_text version 1 p text (request_has version p text body) (request_to p text body)
kind_spells version (suc (suc zero)) p text from to body = of_text version 2 p text (reply_has version p text body) (reply_to p text body)
kind_spells version (suc (suc (suc zero))) p text from to body = let a = alone_is 3 p text body in alone_spells version 3 a.0 p (packets.Retry a.0) text a.2 tt a.1.below refl a.1
kind_spells version (suc (suc (suc (suc zero)))) p text from to body = let a = alone_is 4 p text body in alone_spells version 4 a.0 p (packets.Forbid a.0) text a.2 tt a.1.below refl a.1
kind_spells version (suc (suc (suc (suc (suc zero))))) p text from to body = let a = alone_is 5 p text body in alone_spells version 5 a.0 p (packets.Allow a.0) text a.2 tt a.1.below refl a.1
kind_spells version (suc (suc (suc (suc (suc (suc zero)))))) p text from to body =
    let a = alone_is 6 p text body in alone_spells version 6 a.0 p (packets.GoAhead a.0) text a.2 (has_late version 6 (omega arith) to) a.1.below refl a.1
kind_spells version (suc (suc (suc (suc (suc (suc (suc zero))))))) p text from to body = of_text version 7 p text (enc_has version p text (has_late version 7 (omega arith) to) body) (enc_to p text body)
kind_spells version (suc (suc (suc (suc (suc (suc (suc (suc n)))))))) p text from to body = absurd (omega (arith, to, (last_within version).1))

pub whole_to : (version : ℕ) (p : RtPacket) (bytes : List ℕ) → WholeText version p bytes → Spells version p bytes
whole_to version p bytes (kind, a, b, byte, body, parts) =
    let is : bytes ≡ kind ∷ b = parts ∙ ap (λ (t : List ℕ). t ++ b) byte.is in
    subst (λ (t : List ℕ). Spells version p t) (sym is) (kind_spells version kind p b byte.from byte.to body)

-- ---- each spelling is read

abbrev the_kind : (version kind : ℕ) → 1 ≤ kind → kind ≤ last_kind version → IsByteText 1 (last_kind version) kind (kind ∷ [])
the_kind version kind from to = record { is = refl; from = from; to = to }

early : (version kind : ℕ) → kind ≤ 5 → kind ≤ last_kind version
early version kind le = omega (arith, le, (last_within version).0)

late : (version kind : ℕ) → version ≡ 1 → kind ≤ 7 → kind ≤ last_kind version
late version kind one le = let seven : last_kind version ≡ 7 = ap last_kind one in omega (arith, le, seven)

results_text : (n status : ℕ) (vs : List RtValue) → AreValues vs → IsReplyOf status vs → ResultsText n status (packets.Reply n status vs) (values_text vs)
results_text n zero vs obey reply = (vs, record { obey = obey.each; few = omega (arith, obey.few, links_summed vs); is = refl }, refl)
results_text n (suc zero) vs obey reply = (ap (λ (us : List RtValue). packets.Reply n 1 us) reply, ap values_text reply)
results_text n (suc (suc m)) vs obey reply = absurd reply

status_few : (status : ℕ) (vs : List RtValue) → IsReplyOf status vs → status ≤ 1
status_few zero vs reply = omega arith
status_few (suc zero) vs reply = omega arith
status_few (suc (suc m)) vs reply = absurd reply

alone_from : (kind n : ℕ) → n < 2 ^ 32 → NumberAlone kind (numbered kind n) (number_text n)
alone_from kind n below = (n, number_text n, [], record { is = refl; below = below }, (refl, refl), sym (append-nil (number_text n)))

pub whole_from : (version : ℕ) (p : RtPacket) (bytes : List ℕ) → Has version p → IsPacket p → bytes ≡ spelling p → WholeText version p bytes
unfolding spelling
whole_from version (packets.Request n signature vs) bytes has obeys is =
    let text = (number_text n ++ (length signature ∷ signature)) ++ values_text vs in
    (1, 1 ∷ [], text, the_kind version 1 (omega arith) (early version 1 (omega arith)), request_back n signature vs text (obeys, refl), is)
whole_from version (packets.Reply n status vs) bytes has obeys is = (
  2,
  2 ∷ [],
  number_text n ++ status ∷ values_text vs,
  the_kind version 2 (omega arith) (early version 2 (omega arith)),
  (n, number_text n, status ∷ values_text vs, record { is = refl; below = obeys.0 }, (status, status ∷ [], values_text vs, record { is = refl; from = omega arith; to = status_few status vs obeys.2 }, results_text n status vs obeys.1 obeys.2, refl), refl),
  is,
)
whole_from version (packets.Retry n) bytes has obeys is = (3, 3 ∷ [], number_text n, the_kind version 3 (omega arith) (early version 3 (omega arith)), alone_from 3 n obeys, is)
whole_from version (packets.Forbid n) bytes has obeys is = (4, 4 ∷ [], number_text n, the_kind version 4 (omega arith) (early version 4 (omega arith)), alone_from 4 n obeys, is)
whole_from version (packets.Allow n) bytes has obeys is = (5, 5 ∷ [], number_text n, the_kind version 5 (omega arith) (early version 5 (omega arith)), alone_from 5 n obeys, is)
whole_from version (packets.GoAhead n) bytes has obeys is = (6, 6 ∷ [], number_text n, the_kind version 6 (omega arith) (late version 6 has (omega arith)), alone_from 6 n obeys, is)
whole_from version (packets.Enc kind n index) bytes has obeys is = (
  7,
  7 ∷ [],
  kind ∷ (number_text n ++ index ∷ []),
  the_kind version 7 (omega arith) (late version 7 has (omega arith)),
  (kind, kind ∷ [], number_text n ++ index ∷ [], record { is = refl; from = obeys.0; to = obeys.1 }, (n, number_text n, index ∷ [], record { is = refl; below = obeys.2 }, (index, index ∷ [], [], record { is = refl; from = obeys.3; to = obeys.4 }, (refl, refl), refl), refl), refl),
  is,
)

pub whole_back : (version : ℕ) (p : RtPacket) (bytes : List ℕ) → Spells version p bytes → WholeText version p bytes
whole_back version p bytes s = whole_from version p bytes s.has s.obeys s.spelled
