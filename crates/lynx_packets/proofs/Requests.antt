-- The reader of a request is exact.
use Rattle.std.proofs.Common.{◌≡◌, ℕ, ◌+◌, ◌≤◌, Bool, cond, List, [], ◌∷◌, ◌++◌, length, drop, Result, refl, sym, ap, subst, ◌∙◌, arith, append_assoc}
use Rattle.std.proofs.lemmas.List.{append-nil}
use Rattle.std.proofs.lemmas.List.Sums.{sum_by-cons}
use Rattle.lynx_tree.specs.declared.declaration.TypeName.{TypeName}
use Rattle.lynx_tree.specs.declared.declaration.TypeName.TheVariants as types
use Rattle.typing_rules.specs.Signatures.{links_among}
use Rattle.lynx_packets.specs.declared.value.RtValue.{RtValue}
use Rattle.lynx_packets.specs.declared.value.RtValue.TheVariants as values
use Rattle.lynx_packets.specs.declared.packet.RtPacket.{RtPacket}
use Rattle.lynx_packets.specs.declared.packet.RtPacket.TheVariants as packets
use Rattle.lynx_packets.specs.Spelling.{number_text, values_text, spelling, is_link, links_of, HasType, HaveTypes, IsPacket}
use Rattle.typing_rules.specs.Types as rules
use Rattle.lynx_packets.specs.Reading.{number_at, arguments_at}
use Rattle.lynx_packets.specs.Spots.{Signed, signature_at}
use Rattle.lynx_packets.specs.Packets.{ended, request_of}
use Rattle.lynx_packets.proofs.Exact.{Then, ReadsAll, then_all, both_all, both_all_next}
use Rattle.lynx_packets.proofs.Parts.{IsNumberText, number_reads}
use Rattle.lynx_packets.proofs.Arguments.{Lengths, AreArguments, arguments_read, some_arguments}
use Rattle.lynx_packets.proofs.Signing.{IsSigned, signature_reads, some_signature}
use Rattle.lynx_packets.proofs.Whole.{IsEnded, ended_reads}

abbrev pub ValuesText : ℕ → Signed → RtPacket → List ℕ → Type 0
ValuesText n x = Then (AreArguments x.1) (λ vs. IsEnded (packets.Request n x.0 vs))

abbrev pub SignedText : ℕ → RtPacket → List ℕ → Type 0
SignedText n = Then IsSigned (ValuesText n)

abbrev pub RequestText : RtPacket → List ℕ → Type 0
RequestText = Then IsNumberText SignedText

lengths_of : (x : Signed) (text : List ℕ) → IsSigned x text → Lengths x.1
lengths_of x text s = subst (λ (ts : List TypeName). Lengths ts) (sym s.arguments) s.is.arguments

abbrev values_next : ℕ → Signed → List ℕ → Result RtPacket ℕ
values_next n x = then_all (arguments_at x.1) (λ vs rest. ended (packets.Request n x.0 vs) rest)

values_read : (n : ℕ) (x : Signed) → Lengths x.1 → ReadsAll (values_next n x) (ValuesText n x)
values_read n x fits =
    both_all (arguments_at x.1) (λ vs rest. ended (packets.Request n x.0 vs) rest) (AreArguments x.1) (λ vs. IsEnded (packets.Request n x.0 vs)) (arguments_read x.1 fits)
    (λ vs. ended_reads (packets.Request n x.0 vs))
    (λ vs a is. (packets.Request n x.0 vs, [], (refl, refl)))

some_values : (n : ℕ) (x : Signed) → Lengths x.1 → (p : RtPacket) × (b : List ℕ) × ValuesText n x p b
some_values n x fits =
    let s = some_arguments x.1 fits in
    (packets.Request n x.0 s.0, s.1, (s.0, s.1, [], s.2, (refl, refl), sym (append-nil s.1)))

signed_read : (n : ℕ) → ReadsAll (then_all signature_at (λ x rest. values_next n x rest)) (SignedText n)
signed_read n =
    both_all_next signature_at (λ x rest. values_next n x rest) IsSigned (ValuesText n) signature_reads
    (λ x a is. values_read n x (lengths_of x a is))
    (λ x a is. some_values n x (lengths_of x a is))

some_signed : (n : ℕ) → (p : RtPacket) × (b : List ℕ) × SignedText n p b
some_signed n =
    let s = some_signature in
    let v = some_values n s.0 (lengths_of s.0 s.1 s.2) in
    (v.0, s.1 ++ v.1, (s.0, s.1, v.1, s.2, v.2, refl))

pub request_reads : ReadsAll request_of RequestText
unfolding request_of
request_reads =
    both_all number_at (λ n rest. then_all signature_at (λ x last. values_next n x last) rest) IsNumberText SignedText number_reads signed_read
    (λ n a is. some_signed n)

-- ---- links among values, and among their types

same_link : (v : RtValue) (t : TypeName) → HasType v t → is_link v ≡ rules.is_link t
same_link (values.Int n) types.Int h = refl
same_link (values.Bool b) types.Bool h = refl
same_link (values.Text bytes) types.Text h = refl
same_link (values.Row numbers) (types.Row n) h = refl
same_link values.Link types.Link h = refl
same_link _ _ h = absurd h

pub same_links : (vs : List RtValue) (ts : List TypeName) → HaveTypes vs ts → links_of vs ≡ links_among ts
same_links [] [] h = refl
same_links [] (t ∷ ts) h = absurd h
same_links (v ∷ vs) [] h = absurd h
same_links (v ∷ vs) (t ∷ ts) h =
    sum_by-cons (λ w. cond (is_link w) 1 0) v vs
    ∙ ap (λ (b : Bool). cond b 1 0 + links_of vs) (same_link v t h.0)
    ∙ ap (λ (n : ℕ). cond (rules.is_link t) 1 0 + n) (same_links vs ts h.1)
    ∙ sym (sum_by-cons (λ u. cond (rules.is_link u) 1 0) t ts)

-- ---- the text of a request behind the byte of its kind

abbrev Request : RtPacket → List ℕ → Type 0
Request p text = IsPacket p × (1 ∷ text ≡ spelling p)

request_is : (n : ℕ) (x : Signed) (vs : List RtValue) (a c e : List ℕ) → IsNumberText n a → IsSigned x c → AreArguments x.1 vs e → Request (packets.Request n x.0 vs) (a ++ (c ++ e))
unfolding spelling
request_is n x vs a c e number s args =
    let typed = subst (λ (ts : List TypeName). HaveTypes vs ts) s.arguments args.typed in
    let few : links_of vs ≤ 8 = omega (arith, same_links vs s.op.arguments typed, s.few) in
    let size = length x.0 ∷ x.0 in
    let text : a ++ (c ++ e) ≡ (number_text n ++ size) ++ values_text vs =
    ap (λ (t : List ℕ). t ++ (c ++ e)) number.is ∙ ap (λ (t : List ℕ). number_text n ++ (t ++ e)) s.parts ∙ ap (λ (t : List ℕ). number_text n ++ (size ++ t)) args.is ∙ sym (append_assoc (number_text n) size (values_text vs)) in
    ((number.below, record { each = args.obey; few = few }, s.op, record { operation = s.is; spelled = s.signature; typed = typed }), ap (λ (t : List ℕ). 1 ∷ t) text)

pub request_to : (p : RtPacket) (text : List ℕ) → RequestText p text → Request p text
request_to p text (n, a, b, number, (x, c, d, s, (vs, e, f, args, (is, none), parts3), parts2), parts) =
    let whole : text ≡ a ++ (c ++ e) = parts ∙ ap (λ (t : List ℕ). a ++ t) parts2 ∙ ap (λ (t : List ℕ). a ++ (c ++ t)) (parts3 ∙ ap (λ (t : List ℕ). e ++ t) none ∙ append-nil e) in
    subst (λ (q : RtPacket). Request q text) (sym is) (subst (λ (t : List ℕ). Request (packets.Request n x.0 vs) t) (sym whole) (request_is n x vs a c e number s args))

pub request_back : (n : ℕ) (signature : List ℕ) (vs : List RtValue) (text : List ℕ) → Request (packets.Request n signature vs) text → RequestText (packets.Request n signature vs) text
unfolding spelling
request_back n signature vs text ((below, values_are, op, of), spelled) =
    let size = length signature ∷ signature in
    let few : links_among op.arguments ≤ 8 = omega (arith, same_links vs op.arguments of.typed, values_are.few) in
    let signed : IsSigned (signature, op.arguments) size = record { op = op; is = of.operation; few = few; signature = of.spelled; arguments = refl; parts = refl } in
    let args : AreArguments op.arguments vs (values_text vs) = record { typed = of.typed; obey = values_are.each; is = refl } in
    let text_is : text ≡ number_text n ++ (size ++ values_text vs) = ap (λ (t : List ℕ). drop 1 t) spelled ∙ append_assoc (number_text n) size (values_text vs) in
    (n, number_text n, size ++ values_text vs, record { is = refl; below = below }, ((signature, op.arguments), size, values_text vs, signed, (vs, values_text vs, [], args, (refl, refl), sym (append-nil (values_text vs))), refl), text_is)
