-- What a text begins with, part by part, where no value of it is kept.
use Rattle.std.proofs.Common.{◌≡◌, ℕ, zero, suc, ◌+◌, ◌<◌, ◌≤◌, List, [], ◌∷◌, ◌++◌, append_assoc, append-nil, length, codes, Bool, true, false, cond, Ok, refl, sym, ap, subst, ◌∙◌, arith, eqb}
use Rattle.std.specs.List.{list_all}
use Rattle.charlotte_calls.specs.Ranges.{AreBytesInRange, AreEndsInRange, IsEnd, IsPid, IsU8, IsU32, IsU64}
use Rattle.charlotte_calls.specs.declared.calls.Call.{Call}
use Rattle.charlotte_calls.specs.declared.calls.Call.TheVariants as call
use Rattle.charlotte_calls.specs.declared.calls.Report.{Report}
use Rattle.charlotte_calls.specs.declared.names.EndId.{EndId}
use Rattle.charlotte_calls.specs.declared.names.Pid.{Pid}
use Rattle.charlotte_calls.specs.declared.names.Outcome.TheVariants.{Done}
use Rattle.charlotte_calls.specs.declared.names.Side.TheVariants.{A}
use Rattle.charlotte_calls.specs.declared.names.Way.TheVariants.{Inward, Outward}
use Rattle.charlotte_packets.specs.Ranges.{AreValuesInRange, IsValueInRange}
use Rattle.charlotte_packets.specs.declared.picture.MovingPicture.{MovingPicture}
use Rattle.charlotte_packets.specs.declared.picture.PictureWhat.TheVariants as packet
use Rattle.charlotte_text.specs.Spelling.{bytes_text, call_text, end_text, ends_text, is_plain, most_ends, number_text, process_text, way_text}
use Rattle.transcript_lines.specs.Transcript.{bit, fields_text, numbers_text, packet_text, result_text, step_text, value_text, values_text}
use Rattle.transcript_reading.specs.Spelling.{bare_step, kind_text}
use Rattle.transcript_reading.specs.Order.{next}
use Rattle.transcript_reading.specs.declared.line.LineKind.TheVariants as line
use Rattle.transcript_reading.specs.declared.line.ServiceLine.TheVariants as service
use Rattle.leading_lines.specs.Ahead.{head_text}
use Rattle.leading_lines.specs.Past.{HasBytes, HasCall, HasEnds, HasLine, HasPacket, HasResult, HasStep, HasValues}
use Rattle.leading_lines.specs.declared.guess.Ahead.TheVariants as heads
use Rattle.leading_lines.specs.declared.guess.CallAhead.{CallAhead}
use Rattle.leading_lines.specs.declared.guess.PacketAhead.{PacketAhead}
use Rattle.leading_lines.proofs.Leading.{asked_then, parcel_then, plain_spelled, tail_shape, there, took_then}

-- ---- ends and values

-- no more than eight
few_ends : (v n : ℕ) → n ≤ most_ends v → n ≤ 8
few_ends v n = elim (eqb v 1) as (λ b. n ≤ cond b 1 8 → n ≤ 8) [ true ↦ λ le. omega arith | false ↦ λ le. le ]

pub no_ends : (most : ℕ) (text : List ℕ) → HasEnds most text text
no_ends most text = record { value = []; spelled = refl; fits = (tt, omega arith) }

pub one_end : (most fewer : ℕ) (text behind rest : List ℕ) (e : EndId) → text ≡ end_text e ++ behind → IsEnd e → fewer < most → HasEnds fewer behind rest → HasEnds most (32 ∷ 43 ∷ text) rest
one_end most fewer text behind rest e spelled is lt h = record {
  value = e ∷ h.value;
  spelled = ap (λ (x : List ℕ). 32 ∷ 43 ∷ x) (spelled ∙ ap (λ (x : List ℕ). end_text e ++ x) h.spelled ∙ sym (append_assoc (end_text e) (ends_text h.value) rest));
  fits = ((is, h.fits.0), omega (arith, lt, h.fits.1));
}

pub no_values : (most : ℕ) (text : List ℕ) → HasValues most text text
no_values most text = record { value = []; spelled = refl; fits = (tt, omega arith) }

pub one_value : (most fewer : ℕ) (text behind rest : List ℕ) (v : MovingPicture) → text ≡ value_text v ++ behind → IsValueInRange v → fewer < most → HasValues fewer behind rest → HasValues most (32 ∷ 43 ∷ text) rest
one_value most fewer text behind rest v spelled is lt h = record {
  value = v ∷ h.value;
  spelled = ap (λ (x : List ℕ). 32 ∷ 43 ∷ x) (spelled ∙ ap (λ (x : List ℕ). value_text v ++ x) h.spelled ∙ sym (append_assoc (value_text v) (values_text h.value) rest));
  fits = ((is, h.fits.0), omega (arith, lt, h.fits.1));
}

-- 1 for yes and 0 for no
bit_same : (n : ℕ) → n ≤ 1 → bit (eqb n 1) ≡ n
bit_same zero le = refl
bit_same (suc zero) le = refl
bit_same (suc (suc n)) le = absurd (omega arith)

two_fields : (a b rest : List ℕ) → (58 ∷ (a ++ [])) ++ ((58 ∷ (b ++ [])) ++ rest) ≡ (58 ∷ (a ++ (58 ∷ (b ++ [])))) ++ rest
two_fields a b rest = simp (append_assoc, append-nil)

pub marks_then : (said trail : ℕ) (text behind rest : List ℕ) → said ≤ 1 → text ≡ fields_text (said ∷ []) ++ behind → behind ≡ fields_text (trail ∷ []) ++ rest → text ≡ fields_text (bit (eqb said 1) ∷ trail ∷ []) ++ rest
marks_then said trail text behind rest le e f =
    e ∙ ap (λ (x : List ℕ). fields_text (said ∷ []) ++ x) f ∙ two_fields (number_text said) (number_text trail) rest ∙ ap (λ (n : ℕ). fields_text (n ∷ trail ∷ []) ++ rest) (sym (bit_same said le))

-- the fields of a value
fields_shape : (e a b c d f g h i j rest : List ℕ) → e ++ ((58 ∷ (a ++ (58 ∷ (b ++ (58 ∷ (c ++ [])))))) ++ ((58 ∷ (d ++ (58 ∷ (f ++ (58 ∷ (g ++ (58 ∷ (h ++ [])))))))) ++ ((58 ∷ (i ++ (58 ∷ (j ++ [])))) ++ rest)))
    ≡ (e ++ (58 ∷ (a ++ (58 ∷ (b ++ (58 ∷ (c ++ (58 ∷ (d ++ (58 ∷ (f ++ (58 ∷ (g ++ (58 ∷ (h ++ (58 ∷ (i ++ (58 ∷ (j ++ []))))))))))))))))))) ++ rest
fields_shape e a b c d f g h i j rest = simp (append_assoc, append-nil)

pub value_then : (v : MovingPicture) (text behind_end behind_heard behind_counts rest : List ℕ) → text ≡ end_text v.end ++ behind_end → behind_end ≡ fields_text (v.hops ∷ v.hint.0 ∷ v.hint.1 ∷ []) ++ behind_heard
    → behind_heard ≡ fields_text (v.sent ∷ v.asked ∷ v.served ∷ v.want ∷ []) ++ behind_counts → behind_counts ≡ fields_text (bit v.dead ∷ v.trail ∷ []) ++ rest → text ≡ value_text v ++ rest
value_then v text behind_end behind_heard behind_counts rest e f g h =
    e
    ∙ ap (λ (x : List ℕ). end_text v.end ++ x)
    (f ∙ ap (λ (x : List ℕ). fields_text (v.hops ∷ v.hint.0 ∷ v.hint.1 ∷ []) ++ x) (g ∙ ap (λ (x : List ℕ). fields_text (v.sent ∷ v.asked ∷ v.served ∷ v.want ∷ []) ++ x) h))
    ∙ fields_shape (end_text v.end) (number_text v.hops) (number_text v.hint.0) (number_text v.hint.1) (number_text v.sent) (number_text v.asked) (number_text v.served) (number_text v.want) (number_text (bit v.dead)) (number_text v.trail) rest

-- ---- bytes

pub no_bytes : (text rest : List ℕ) → text ≡ 45 ∷ rest → HasBytes text rest
no_bytes text rest e = record { value = []; spelled = e; fits = record { each = tt; few = omega arith } }

pub plain_bytes : (text word rest : List ℕ) → text ≡ word ++ rest → 0 < length word → length word ≤ 256 → list_all is_plain word ≡ true → HasBytes text rest
plain_bytes text word rest e some few plain =
    let s = plain_spelled word word (there word) some plain ((λ none. absurd cc), (λ lt. absurd (omega (arith, few, lt)))) refl refl in
    record { value = word; spelled = e ∙ ap (λ (w : List ℕ). w ++ rest) s.0.text; fits = record { each = s.0.bytes; few = few } }

-- ---- steps

abbrev no_bytes_in : AreBytesInRange []
no_bytes_in = record { each = tt; few = omega arith }

ends_in : (version : ℕ) {text rest : List ℕ} (h : HasEnds (most_ends version) text rest) → AreEndsInRange h.value
ends_in version h = record { each = h.fits.0; few = few_ends version _ h.fits.1 }

pub send_step : (version : ℕ) (on : EndId) (n : ℕ) (text behind rest : List ℕ) → text ≡ codes ". send " ++ end_text on ++ numbers_text (n ∷ []) ++ behind → IsEnd on → IsU32 n → HasEnds (most_ends version) behind rest → HasStep version text rest
send_step version on n text behind rest e is fits h = record {
  value = service.Send on n h.value;
  spelled = e ∙ ap (λ (x : List ℕ). codes ". send " ++ end_text on ++ numbers_text (n ∷ []) ++ x) h.spelled ∙ sym (append_assoc (codes ". send " ++ end_text on ++ numbers_text (n ∷ [])) (ends_text h.value) rest);
  fits = ((is, fits, no_bytes_in, ends_in version h), h.fits.1);
}

nowhere : EndId
nowhere = record { link = record { maker = 0; count = 0 }; side = A }

pub sent_result : (version : ℕ) (text rest : List ℕ) → text ≡ codes " out done" ++ rest → HasResult version text rest
sent_result version text rest e = record {
  value = record { on = nowhere; way = Outward; outcome = Done; bytes = []; enclosed = [] };
  spelled = e;
  fits = (no_bytes_in, record { each = tt; few = omega arith }, (refl, refl));
}

pub received_result : (version : ℕ) (text word behind rest : List ℕ) → text ≡ codes " in done " ++ word → HasBytes word behind → HasEnds (most_ends version) behind rest → HasResult version text rest
received_result version text word behind rest e b h = record {
  value = record { on = nowhere; way = Inward; outcome = Done; bytes = b.value; enclosed = h.value };
  spelled = e ∙ ap (λ (x : List ℕ). codes " in done " ++ x) (b.spelled ∙ ap (λ (x : List ℕ). bytes_text b.value ++ x) h.spelled ∙ sym (append_assoc (bytes_text b.value) (ends_text h.value) rest));
  fits = (b.fits, ends_in version h, h.fits.1);
}

report_shape : (a p b e c w s rest : List ℕ) → (a ++ p) ++ ((b ++ e) ++ (((c ++ w) ++ s) ++ rest)) ≡ (a ++ p ++ b ++ e ++ c ++ w ++ s) ++ rest
report_shape a p b e c w s rest = simp append_assoc

pub report_step : (version : ℕ) (p : Pid) (on : EndId) (text behind_p behind_on rest : List ℕ) → text ≡ codes ". report " ++ process_text p ++ behind_p → behind_p ≡ codes " " ++ end_text on ++ behind_on → IsPid p → IsEnd on → HasResult version behind_on rest → HasStep version text rest
report_step version p on text behind_p behind_on rest e f is_p is_on h =
    let r : Report = h.value in
    record {
      value = service.Report p (record r { on = on });
      spelled = e ∙ ap (λ (x : List ℕ). codes ". report " ++ process_text p ++ x) (f ∙ ap (λ (x : List ℕ). codes " " ++ end_text on ++ x) h.spelled)
          ∙ report_shape (codes ". report ") (process_text p) (codes " ") (end_text on) (codes " ") (way_text r.way) (result_text r.way r.outcome r.bytes r.enclosed) rest;
      fits = ((is_p, record { on = is_on; bytes = h.fits.0; enclosed = h.fits.1 }), h.fits.2);
    }

-- ---- calls and packets

pub send_call : (version : ℕ) (on : EndId) (text behind_word behind_end behind_blank behind_bytes rest : List ℕ) → text ≡ codes "send " ++ behind_word → behind_word ≡ end_text on ++ behind_end → behind_end ≡ 32 ∷ behind_blank
    → IsEnd on → HasBytes behind_blank behind_bytes → HasEnds (most_ends version) behind_bytes rest → HasCall version text rest
send_call version on text behind_word behind_end behind_blank behind_bytes rest e f g is b h = record {
  value = call.Send on b.value h.value;
  spelled = e
      ∙ ap (λ (x : List ℕ). codes "send " ++ x)
      (f ∙ ap (λ (x : List ℕ). end_text on ++ x) (g ∙ ap (λ (x : List ℕ). 32 ∷ x) (b.spelled ∙ ap (λ (x : List ℕ). bytes_text b.value ++ x) h.spelled)) ∙ tail_shape (end_text on) (bytes_text b.value) (ends_text h.value) rest);
  fits = (is, b.fits.each, b.fits.few, h.fits.0, h.fits.1);
}

values_in : (version : ℕ) {text rest : List ℕ} (h : HasValues (most_ends version) text rest) → AreValuesInRange h.value
values_in version h = record { each = h.fits.0; few = few_ends version _ h.fits.1 }

pub back_packet : (version : ℕ) (to : EndId) (n : ℕ) (text behind rest : List ℕ) → text ≡ codes "back " ++ end_text to ++ numbers_text (n ∷ []) ++ behind → IsEnd to → IsU32 n → HasValues (most_ends version) behind rest → HasPacket version text rest
back_packet version to n text behind rest e is fits h = record {
  value = packet.Back to n h.value;
  spelled = e ∙ ap (λ (x : List ℕ). codes "back " ++ end_text to ++ numbers_text (n ∷ []) ++ x) h.spelled ∙ sym (append_assoc (codes "back " ++ end_text to ++ numbers_text (n ∷ [])) (values_text h.value) rest);
  fits = ((is, fits, values_in version h), h.fits.1);
}

pub parcel_packet : (version : ℕ) (to : EndId) (n w at hops : ℕ) (text behind_n behind_w behind_hops behind_blank behind_bytes rest : List ℕ)
    → text ≡ codes "parcel " ++ end_text to ++ numbers_text (n ∷ []) ++ behind_n → behind_n ≡ numbers_text (w ∷ []) ++ behind_w → behind_w ≡ numbers_text (at ∷ hops ∷ []) ++ behind_hops → behind_hops ≡ 32 ∷ behind_blank
    → IsEnd to × IsU32 n → IsU32 w → IsU8 at × IsU32 hops → HasBytes behind_blank behind_bytes → HasValues (most_ends version) behind_bytes rest → HasPacket version text rest
parcel_packet version to n w at hops text behind_n behind_w behind_hops behind_blank behind_bytes rest e f g i is is_w is_at b h = record {
  value = packet.Parcel to n w at hops b.value h.value;
  spelled = parcel_then to n w at hops b.value h.value text behind_n behind_w behind_hops behind_blank behind_bytes rest e f g i b.spelled h.spelled;
  fits = ((is.0, is.1, is_w, is_at.0, is_at.1, b.fits, values_in version h), h.fits.1);
}

-- ---- lines

pub service_line : (version : ℕ) (text rest : List ℕ) → HasStep version text rest → HasLine version text rest
unfolding next
service_line version text rest h = record { value = line.Service h.value; spelled = h.spelled; fits = (h.fits, refl) }

pub asked_line : (version : ℕ) (a : CallAhead) (text rest : List ℕ) → IsU64 a.stamp → IsU8 a.kernel → IsPid a.p → HasCall version text rest → HasLine version (head_text (heads.Call a) ++ text) rest
unfolding next
asked_line version a text rest stamp kernel p h = record {
  value = line.CallEntry a.stamp a.kernel a.p h.value;
  spelled = asked_then a h.value text rest h.spelled;
  fits = ((stamp, kernel, p, h.fits), refl);
}

pub took_line : (version : ℕ) (a : PacketAhead) (text rest : List ℕ) → IsU64 a.stamp → IsU8 a.kernel → IsU8 a.from → HasPacket version text rest → HasLine version (head_text (heads.Packet a) ++ text) rest
unfolding next
took_line version a text rest stamp kernel from h = record {
  value = line.PacketEntry a.stamp a.kernel a.from (record { stamp = 0; what = h.value });
  spelled = took_then a h.value text rest h.spelled;
  fits = ((stamp, kernel, from, refl, h.fits.0, h.fits.1), refl);
}
