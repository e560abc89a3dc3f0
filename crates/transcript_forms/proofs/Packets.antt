-- Packets that were read: each is spelled so.
use Rattle.std.proofs.Common.{◌≡◌, ℕ, zero, suc, ◌≤◌, Bool, true, false, cond, codes, eqb, List, [], ◌∷◌, length, map, Result, Ok, refl, sym, ap, subst, ◌∙◌, arith}
use Rattle.std.specs.List.{AllByRecursion, join_with_byte}
use Rattle.std.proofs.lemmas.Bool.{eqb-true}
use Rattle.std.proofs.lemmas.List.Splits.{join_with_byte-slice_split}
use Rattle.charlotte_calls.specs.Ranges.{IsEnd, IsU8, IsU32}
use Rattle.charlotte_packets.specs.Ranges.{IsValueInRange, AreValuesInRange, IsPacketInRange}
use Rattle.charlotte_calls.specs.declared.names.EndId.{EndId}
use Rattle.charlotte_packets.specs.declared.picture.MovingPicture.{MovingPicture}
use Rattle.charlotte_packets.specs.declared.picture.PictureWhat.{PictureWhat}
use Rattle.charlotte_packets.specs.declared.picture.PictureWhat.TheVariants as packet
use Rattle.charlotte_text.specs.declared.fault.Fault.{Fault}
use Rattle.charlotte_text.specs.declared.fault.Fault.TheVariants.{Form}
use Rattle.charlotte_text.specs.Spelling.{number_text, end_text, most_ends}
use Rattle.charlotte_text.specs.Reading.{◌>>=◌, parts, end_of, bytes_of}
use Rattle.charlotte_text.proofs.Names.{end_takes}
use Rattle.charlotte_text.proofs.Steps.{bind_ok, ok_is, not_ok, held}
use Rattle.transcript_lines.specs.Transcript.{bit, value_text}
use Rattle.transcript_lines.specs.TranscriptText.{HasFewPacket}
use Rattle.transcript_reading.specs.Forms.{first_of, only_of, u8_of, u32_of, bit_of, value_of, plus_value_of, values_of, wanted_of, parcel_of, back_of, gone_of, moved_of, end_number_of, named_packet_of, packet_of}
use Rattle.transcript_reading.proofs.Packets.{plus_value_text, packet_name, packet_rest, end_numbers, fields}
use Rattle.transcript_reading.proofs.Words.{joined_map}
use Rattle.transcript_forms.proofs.Taking.{first_ok, only_ok, first_then, only_then, named_ok, cons_is, u8_takes, u32_takes, bit_takes, text_takes}

-- ---- the values of ends

abbrev value : EndId → ℕ → ℕ → ℕ → ℕ → ℕ → ℕ → ℕ → Bool → ℕ → MovingPicture
value end hops hint_kernel hint_hops sent asked served want dead trail =
    record { end = end; hops = hops; hint = (hint_kernel, hint_hops); sent = sent; asked = asked; served = served; want = want; dead = dead; trail = trail }

abbrev IsValue : List ℕ → MovingPicture → Type 0
IsValue w v = (w ≡ value_text v) × IsValueInRange v

-- 1 and 0 as a field
abbrev bit_text : Bool → List ℕ
bit_text b = number_text (bit b)

abbrev IsBit : Bool → Type 0
IsBit b = Unit {0}

bit_read : (w : List ℕ) (b : Bool) → bit_of w ≡ Ok b → (w ≡ bit_text b) × IsBit b
bit_read w b e = (bit_takes w b e, tt)

-- fields of a word are the word of their value
spelled_value : (w : List ℕ) (v : MovingPicture) → parts 58 w ≡ end_text v.end ∷ map number_text (fields v) → w ≡ value_text v
spelled_value w v shape = sym (join_with_byte-slice_split 58 w) ∙ ap (join_with_byte 58) shape ∙ joined_map 58 number_text (end_text v.end) (fields v)

value_takes : (w : List ℕ) (v : MovingPicture) → value_of w ≡ Ok v → IsValue w v
unfolding value_of
value_takes w v e =
    first_then end_of end_text IsEnd end_takes (parts 58 w)
    (λ end. first_of u32_of end.1 >>= λ hops. first_of u8_of hops.1 >>= λ hint_kernel. first_of u32_of hint_kernel.1 >>= λ hint_hops. first_of u32_of hint_hops.1 >>= λ sent. first_of u32_of sent.1
    >>= λ asked. first_of u32_of asked.1 >>= λ served. first_of u32_of served.1 >>= λ want. first_of bit_of want.1 >>= λ dead. only_of u8_of dead.1
    >>= λ trail. Ok (value end.0 hops.0 hint_kernel.0 hint_hops.0 sent.0 asked.0 served.0 want.0 dead.0 trail))
    v (IsValue w v) e (λ end l0 s0 r0 e0.
    first_then u32_of number_text IsU32 u32_takes l0
    (λ hops. first_of u8_of hops.1 >>= λ hint_kernel. first_of u32_of hint_kernel.1 >>= λ hint_hops. first_of u32_of hint_hops.1 >>= λ sent. first_of u32_of sent.1 >>= λ asked. first_of u32_of asked.1
    >>= λ served. first_of u32_of served.1 >>= λ want. first_of bit_of want.1 >>= λ dead. only_of u8_of dead.1 >>= λ trail. Ok (value end hops.0 hint_kernel.0 hint_hops.0 sent.0 asked.0 served.0 want.0 dead.0 trail))
    v (IsValue w v) e0 (λ hops l1 s1 r1 e1.
    first_then u8_of number_text IsU8 u8_takes l1
    (λ hint_kernel. first_of u32_of hint_kernel.1 >>= λ hint_hops. first_of u32_of hint_hops.1 >>= λ sent. first_of u32_of sent.1 >>= λ asked. first_of u32_of asked.1 >>= λ served. first_of u32_of served.1
    >>= λ want. first_of bit_of want.1 >>= λ dead. only_of u8_of dead.1 >>= λ trail. Ok (value end hops hint_kernel.0 hint_hops.0 sent.0 asked.0 served.0 want.0 dead.0 trail))
    v (IsValue w v) e1 (λ hint_kernel l2 s2 r2 e2.
    first_then u32_of number_text IsU32 u32_takes l2
    (λ hint_hops. first_of u32_of hint_hops.1 >>= λ sent. first_of u32_of sent.1 >>= λ asked. first_of u32_of asked.1 >>= λ served. first_of u32_of served.1 >>= λ want. first_of bit_of want.1
    >>= λ dead. only_of u8_of dead.1 >>= λ trail. Ok (value end hops hint_kernel hint_hops.0 sent.0 asked.0 served.0 want.0 dead.0 trail))
    v (IsValue w v) e2 (λ hint_hops l3 s3 r3 e3.
    first_then u32_of number_text IsU32 u32_takes l3
    (λ sent. first_of u32_of sent.1 >>= λ asked. first_of u32_of asked.1 >>= λ served. first_of u32_of served.1 >>= λ want. first_of bit_of want.1 >>= λ dead. only_of u8_of dead.1
    >>= λ trail. Ok (value end hops hint_kernel hint_hops sent.0 asked.0 served.0 want.0 dead.0 trail))
    v (IsValue w v) e3 (λ sent l4 s4 r4 e4.
    first_then u32_of number_text IsU32 u32_takes l4
    (λ asked. first_of u32_of asked.1 >>= λ served. first_of u32_of served.1 >>= λ want. first_of bit_of want.1 >>= λ dead. only_of u8_of dead.1
    >>= λ trail. Ok (value end hops hint_kernel hint_hops sent asked.0 served.0 want.0 dead.0 trail))
    v (IsValue w v) e4 (λ asked l5 s5 r5 e5.
    first_then u32_of number_text IsU32 u32_takes l5 (λ served. first_of u32_of served.1 >>= λ want. first_of bit_of want.1 >>= λ dead. only_of u8_of dead.1 >>= λ trail. Ok (value end hops hint_kernel hint_hops sent asked served.0 want.0 dead.0 trail)) v (IsValue w v) e5 (λ served l6 s6 r6 e6.
    first_then u32_of number_text IsU32 u32_takes l6 (λ want. first_of bit_of want.1 >>= λ dead. only_of u8_of dead.1 >>= λ trail. Ok (value end hops hint_kernel hint_hops sent asked served want.0 dead.0 trail)) v (IsValue w v) e6 (λ want l7 s7 r7 e7.
    first_then bit_of bit_text IsBit bit_read l7 (λ dead. only_of u8_of dead.1 >>= λ trail. Ok (value end hops hint_kernel hint_hops sent asked served want dead.0 trail)) v (IsValue w v) e7 (λ dead l8 s8 r8 e8.
    only_then u8_of number_text IsU8 u8_takes l8 (λ trail. Ok (value end hops hint_kernel hint_hops sent asked served want dead trail)) v (IsValue w v) e8 (λ trail s9 r9 e9.
    let made : MovingPicture = value end hops hint_kernel hint_hops sent asked served want dead trail in
    let shape : parts 58 w ≡ end_text end ∷ map number_text (fields made) = rw (s0, s1, s2, s3, s4, s5, s6, s7, s8, s9) refl in
    let range : IsValueInRange made = record { end = r0; hops = r1; hint_kernel = r2; hint_hops = r3; sent = r4; asked = r5; served = r6; want = r7; trail = r9 } in
    subst (IsValue w) (ok_is made v e9) (spelled_value w made shape, range)))))))))))

plus_value_takes : (w : List ℕ) (v : MovingPicture) → plus_value_of w ≡ Ok v → (w ≡ plus_value_text v) × IsValueInRange v
unfolding plus_value_of
plus_value_takes [] v e = absurd (not_ok v Form e)
plus_value_takes (b ∷ bs) v e =
    let k = held (eqb b 43) (value_of bs) Form v e in
    let t = value_takes bs v k.1 in
    (ap (λ (x : ℕ). x ∷ bs) (eqb-true _ _ k.0) ∙ ap (λ (xs : List ℕ). 43 ∷ xs) t.0, t.1)

abbrev AreValues : ℕ → List (List ℕ) → List MovingPicture → Type 0
AreValues most ws vs = (ws ≡ map plus_value_text vs) × (AllByRecursion IsValueInRange vs × (length vs ≤ most))

values_take : (most : ℕ) (ws : List (List ℕ)) (vs : List MovingPicture) → values_of most ws ≡ Ok vs → AreValues most ws vs
unfolding values_of
values_take most [] vs e = subst (AreValues most []) (ok_is [] vs e) (refl, (tt, omega arith))
values_take zero (w ∷ ws) vs e = absurd (not_ok vs Form e)
values_take (suc most) (w ∷ ws) vs e =
    let a = bind_ok (plus_value_of w) (λ x. values_of most ws >>= λ xs. Ok (x ∷ xs)) vs e in
    let b = bind_ok (values_of most ws) (λ xs. Ok (a.0 ∷ xs)) vs a.2 in
    let first = plus_value_takes w a.0 a.1 in
    let rest = values_take most ws b.0 b.1 in
    subst (AreValues (suc most) (w ∷ ws)) (ok_is (a.0 ∷ b.0) vs b.2) (cons_is first.0 rest.0, ((first.1, rest.1.0), omega (arith, rest.1.1)))

pub few : (v n : ℕ) → n ≤ most_ends v → n ≤ 8
few v n = elim (eqb v 1) as (λ t. n ≤ cond t 1 8 → n ≤ 8) [ true ↦ λ le. omega arith | false ↦ λ le. le ]

values_range : (v : ℕ) (vs : List MovingPicture) → AllByRecursion IsValueInRange vs → length vs ≤ most_ends v → AreValuesInRange vs
values_range v vs each le = record { each = each; few = few v (length vs) le }

-- ---- packets

abbrev IsWanted : List (List ℕ) → EndId × ℕ × ℕ × ℕ → Type 0
IsWanted ws x = (ws ≡ end_numbers x.0 (x.1 ∷ x.2 ∷ x.3 ∷ [])) × (IsEnd x.0 × IsU32 x.1 × IsU8 x.2 × IsU32 x.3)

abbrev pub IsEndNumber : List (List ℕ) → EndId × ℕ → Type 0
IsEndNumber ws x = (ws ≡ end_numbers x.0 (x.1 ∷ [])) × (IsEnd x.0 × IsU32 x.1)

abbrev IsRead : ℕ → List ℕ → List (List ℕ) → PictureWhat → Type 0
IsRead v name ws x = (name ∷ ws ≡ packet_name x ∷ packet_rest x) × IsPacketInRange x × HasFewPacket v x

wanted_takes : (ws : List (List ℕ)) (x : EndId × ℕ × ℕ × ℕ) → wanted_of ws ≡ Ok x → IsWanted ws x
unfolding wanted_of
wanted_takes ws x e =
    let to = first_ok end_of ws (λ to. first_of u32_of to.1 >>= λ w. first_of u8_of w.1 >>= λ at. only_of u32_of at.1 >>= λ hops. Ok (to.0, w.0, at.0, hops)) x e in
    let w = first_ok u32_of to.left (λ w. first_of u8_of w.1 >>= λ at. only_of u32_of at.1 >>= λ hops. Ok (to.value, w.0, at.0, hops)) x to.goes in
    let at = first_ok u8_of w.left (λ at. only_of u32_of at.1 >>= λ hops. Ok (to.value, w.value, at.0, hops)) x w.goes in
    let hops = only_ok u32_of at.left (λ hops. Ok (to.value, w.value, at.value, hops)) x at.goes in
    let to_is = end_takes to.word to.value to.says in
    let w_is = u32_takes w.word w.value w.says in
    let at_is = u8_takes at.word at.value at.says in
    let hops_is = u32_takes hops.word hops.value hops.says in
    let made : EndId × ℕ × ℕ × ℕ = (to.value, w.value, at.value, hops.value) in
    let shape : ws ≡ end_numbers made.0 (made.1 ∷ made.2 ∷ made.3 ∷ []) = to.shape ∙ cons_is to_is.0 (w.shape ∙ cons_is w_is.0 (at.shape ∙ cons_is at_is.0 (hops.shape ∙ cons_is hops_is.0 refl))) in
    subst (IsWanted ws) (ok_is made x hops.goes) (shape, (to_is.1, w_is.1, at_is.1, hops_is.1))

pub end_number_takes : (ws : List (List ℕ)) (x : EndId × ℕ) → end_number_of ws ≡ Ok x → IsEndNumber ws x
unfolding end_number_of
end_number_takes ws x e =
    let on = first_ok end_of ws (λ on. only_of u32_of on.1 >>= λ n. Ok (on.0, n)) x e in
    let n = only_ok u32_of on.left (λ n. Ok (on.value, n)) x on.goes in
    let on_is = end_takes on.word on.value on.says in
    let n_is = u32_takes n.word n.value n.says in
    let made : EndId × ℕ = (on.value, n.value) in
    let shape : ws ≡ end_numbers made.0 (made.1 ∷ []) = on.shape ∙ cons_is on_is.0 (n.shape ∙ cons_is n_is.0 refl) in
    subst (IsEndNumber ws) (ok_is made x n.goes) (shape, (on_is.1, n_is.1))

parcel_takes : (v : ℕ) (ws : List (List ℕ)) (x : PictureWhat) → parcel_of v ws ≡ Ok x → IsRead v (codes "parcel") ws x
unfolding parcel_of
parcel_takes v ws x e =
    let to = first_ok end_of ws
    (λ to. first_of u32_of to.1 >>= λ n. first_of u32_of n.1 >>= λ w. first_of u8_of w.1 >>= λ at. first_of u32_of at.1 >>= λ hops. first_of bytes_of hops.1 >>= λ bytes. values_of (most_ends v) bytes.1
    >>= λ moving. Ok (packet.Parcel to.0 n.0 w.0 at.0 hops.0 bytes.0 moving))
    x e in
    let n = first_ok u32_of to.left (λ n. first_of u32_of n.1 >>= λ w. first_of u8_of w.1 >>= λ at. first_of u32_of at.1 >>= λ hops. first_of bytes_of hops.1 >>= λ bytes. values_of (most_ends v) bytes.1 >>= λ moving. Ok (packet.Parcel to.value n.0 w.0 at.0 hops.0 bytes.0 moving)) x to.goes in
    let w = first_ok u32_of n.left (λ w. first_of u8_of w.1 >>= λ at. first_of u32_of at.1 >>= λ hops. first_of bytes_of hops.1 >>= λ bytes. values_of (most_ends v) bytes.1 >>= λ moving. Ok (packet.Parcel to.value n.value w.0 at.0 hops.0 bytes.0 moving)) x n.goes in
    let at = first_ok u8_of w.left (λ at. first_of u32_of at.1 >>= λ hops. first_of bytes_of hops.1 >>= λ bytes. values_of (most_ends v) bytes.1 >>= λ moving. Ok (packet.Parcel to.value n.value w.value at.0 hops.0 bytes.0 moving)) x w.goes in
    let hops = first_ok u32_of at.left (λ hops. first_of bytes_of hops.1 >>= λ bytes. values_of (most_ends v) bytes.1 >>= λ moving. Ok (packet.Parcel to.value n.value w.value at.value hops.0 bytes.0 moving)) x at.goes in
    let bytes = first_ok bytes_of hops.left (λ bytes. values_of (most_ends v) bytes.1 >>= λ moving. Ok (packet.Parcel to.value n.value w.value at.value hops.value bytes.0 moving)) x hops.goes in
    let moving = bind_ok (values_of (most_ends v) bytes.left) (λ moving. Ok (packet.Parcel to.value n.value w.value at.value hops.value bytes.value moving)) x bytes.goes in
    let to_is = end_takes to.word to.value to.says in
    let n_is = u32_takes n.word n.value n.says in
    let w_is = u32_takes w.word w.value w.says in
    let at_is = u8_takes at.word at.value at.says in
    let hops_is = u32_takes hops.word hops.value hops.says in
    let bytes_is = text_takes bytes.word bytes.value bytes.says in
    let moving_is = values_take (most_ends v) bytes.left moving.0 moving.1 in
    let made : PictureWhat = (packet.Parcel to.value n.value w.value at.value hops.value bytes.value moving.0) in
    let shape : ws ≡ packet_rest made = to.shape ∙ cons_is to_is.0 (n.shape ∙ cons_is n_is.0 (w.shape ∙ cons_is w_is.0 (at.shape ∙ cons_is at_is.0 (hops.shape ∙ cons_is hops_is.0 (bytes.shape ∙ cons_is bytes_is.0 (moving_is.0)))))) in
    subst (IsRead v (codes "parcel") ws) (ok_is made x moving.2) (cons_is refl shape, (to_is.1, n_is.1, w_is.1, at_is.1, hops_is.1, bytes_is.1, values_range v moving.0 moving_is.1.0 moving_is.1.1), moving_is.1.1)

back_takes : (v : ℕ) (ws : List (List ℕ)) (x : PictureWhat) → back_of v ws ≡ Ok x → IsRead v (codes "back") ws x
unfolding back_of
back_takes v ws x e =
    let to = first_ok end_of ws (λ to. first_of u32_of to.1 >>= λ n. values_of (most_ends v) n.1 >>= λ moving. Ok (packet.Back to.0 n.0 moving)) x e in
    let n = first_ok u32_of to.left (λ n. values_of (most_ends v) n.1 >>= λ moving. Ok (packet.Back to.value n.0 moving)) x to.goes in
    let moving = bind_ok (values_of (most_ends v) n.left) (λ moving. Ok (packet.Back to.value n.value moving)) x n.goes in
    let to_is = end_takes to.word to.value to.says in
    let n_is = u32_takes n.word n.value n.says in
    let moving_is = values_take (most_ends v) n.left moving.0 moving.1 in
    let made : PictureWhat = (packet.Back to.value n.value moving.0) in
    let shape : ws ≡ packet_rest made = to.shape ∙ cons_is to_is.0 (n.shape ∙ cons_is n_is.0 (moving_is.0)) in
    subst (IsRead v (codes "back") ws) (ok_is made x moving.2) (cons_is refl shape, (to_is.1, n_is.1, values_range v moving.0 moving_is.1.0 moving_is.1.1), moving_is.1.1)

gone_takes : (v : ℕ) (ws : List (List ℕ)) (x : PictureWhat) → gone_of ws ≡ Ok x → IsRead v (codes "gone") ws x
unfolding gone_of
gone_takes v ws x e =
    let to = first_ok end_of ws (λ to. only_of u8_of to.1 >>= λ at. Ok (packet.Gone to.0 at)) x e in
    let at = only_ok u8_of to.left (λ at. Ok (packet.Gone to.value at)) x to.goes in
    let to_is = end_takes to.word to.value to.says in
    let at_is = u8_takes at.word at.value at.says in
    let made : PictureWhat = (packet.Gone to.value at.value) in
    let shape : ws ≡ packet_rest made = to.shape ∙ cons_is to_is.0 (at.shape ∙ cons_is at_is.0 refl) in
    subst (IsRead v (codes "gone") ws) (ok_is made x at.goes) (cons_is refl shape, (to_is.1, at_is.1), tt)

moved_takes : (v : ℕ) (ws : List (List ℕ)) (x : PictureWhat) → moved_of ws ≡ Ok x → IsRead v (codes "moved") ws x
unfolding moved_of
moved_takes v ws x e =
    let to = first_ok end_of ws (λ to. first_of u8_of to.1 >>= λ at. only_of u32_of at.1 >>= λ hops. Ok (packet.Moved to.0 at.0 hops)) x e in
    let at = first_ok u8_of to.left (λ at. only_of u32_of at.1 >>= λ hops. Ok (packet.Moved to.value at.0 hops)) x to.goes in
    let hops = only_ok u32_of at.left (λ hops. Ok (packet.Moved to.value at.value hops)) x at.goes in
    let to_is = end_takes to.word to.value to.says in
    let at_is = u8_takes at.word at.value at.says in
    let hops_is = u32_takes hops.word hops.value hops.says in
    let made : PictureWhat = (packet.Moved to.value at.value hops.value) in
    let shape : ws ≡ packet_rest made = to.shape ∙ cons_is to_is.0 (at.shape ∙ cons_is at_is.0 (hops.shape ∙ cons_is hops_is.0 refl)) in
    subst (IsRead v (codes "moved") ws) (ok_is made x hops.goes) (cons_is refl shape, (to_is.1, at_is.1, hops_is.1), tt)

wanted_made : (v : ℕ) (name : List ℕ) (ws : List (List ℕ)) (make : EndId → ℕ → ℕ → ℕ → PictureWhat) (x : PictureWhat)
    → ((to : EndId) (w at hops : ℕ) → ws ≡ end_numbers to (w ∷ at ∷ hops ∷ []) → IsEnd to × IsU32 w × IsU8 at × IsU32 hops → IsRead v name ws (make to w at hops))
    → (wanted_of ws >>= λ y. Ok (make y.0 y.1 y.2 y.3)) ≡ Ok x → IsRead v name ws x
wanted_made v name ws make x all e =
    let a = bind_ok (wanted_of ws) (λ y. Ok (make y.0 y.1 y.2 y.3)) x e in
    let t = wanted_takes ws a.0 a.1 in
    subst (IsRead v name ws) (ok_is (make a.0.0 a.0.1 a.0.2 a.0.3) x a.2) (all a.0.0 a.0.1 a.0.2 a.0.3 t.0 t.1)

end_number_made : (v : ℕ) (name : List ℕ) (ws : List (List ℕ)) (make : EndId → ℕ → PictureWhat) (x : PictureWhat)
    → ((to : EndId) (n : ℕ) → ws ≡ end_numbers to (n ∷ []) → IsEnd to × IsU32 n → IsRead v name ws (make to n))
    → (end_number_of ws >>= λ y. Ok (make y.0 y.1)) ≡ Ok x → IsRead v name ws x
end_number_made v name ws make x all e =
    let a = bind_ok (end_number_of ws) (λ y. Ok (make y.0 y.1)) x e in
    let t = end_number_takes ws a.0 a.1 in
    subst (IsRead v name ws) (ok_is (make a.0.0 a.0.1) x a.2) (all a.0.0 a.0.1 t.0 t.1)

gone_seen_takes : (v : ℕ) (ws : List (List ℕ)) (x : PictureWhat) → (only_of end_of ws >>= λ to. Ok (packet.GoneSeen to)) ≡ Ok x → IsRead v (codes "goneseen") ws x
gone_seen_takes v ws x e =
    let to = only_ok end_of ws (λ to. Ok (packet.GoneSeen to)) x e in
    let to_is = end_takes to.word to.value to.says in
    subst (IsRead v (codes "goneseen") ws) (ok_is (packet.GoneSeen to.value) x to.goes) (cons_is refl (to.shape ∙ cons_is to_is.0 refl), to_is.1, tt)

-- the name of a packet, and what stands behind it
abbrev packets : ℕ → List (List ℕ) → List (List ℕ × Result PictureWhat Fault)
packets v ws =
    (codes "want", wanted_of ws >>= λ x. Ok (packet.Want x.0 x.1 x.2 x.3)) ∷ (codes "unwant", wanted_of ws >>= λ x. Ok (packet.Unwant x.0 x.1 x.2 x.3))
    ∷ (codes "unwanted", wanted_of ws >>= λ x. Ok (packet.Unwanted x.0 x.1 x.2 x.3)) ∷ (codes "parcel", parcel_of v ws)
    ∷ (codes "taken", wanted_of ws >>= λ x. Ok (packet.Taken x.0 x.1 x.2 x.3)) ∷ (codes "back", back_of v ws) ∷ (codes "gone", gone_of ws) ∷ (codes "moved", moved_of ws)
    ∷ (codes "known", end_number_of ws >>= λ x. Ok (packet.Known x.0 x.1)) ∷ (codes "forget", end_number_of ws >>= λ x. Ok (packet.Forget x.0 x.1))
    ∷ (codes "goneseen", only_of end_of ws >>= λ to. Ok (packet.GoneSeen to)) ∷ []

-- a word that is the name
under : (v : ℕ) (w name : List ℕ) (ws : List (List ℕ)) (x : PictureWhat) → w ≡ name → IsRead v name ws x → IsRead v w ws x
under v w name ws x e is = (cons_is e refl ∙ is.0, is.1, is.2)

named_packet_takes : (v : ℕ) (w : List ℕ) (ws : List (List ℕ)) (x : PictureWhat) → named_packet_of v w ws ≡ Ok x → IsRead v w ws x
unfolding named_packet_of
named_packet_takes v w ws x e =
    named_ok (packets v ws) w x (IsRead v w ws x) e (
      λ n h. under v w (codes "want") ws x n (wanted_made v (codes "want") ws (λ a b c d. packet.Want a b c d) x (λ a b c d s r. (cons_is refl s, r, tt)) h),
      (
        λ n h. under v w (codes "unwant") ws x n (wanted_made v (codes "unwant") ws (λ a b c d. packet.Unwant a b c d) x (λ a b c d s r. (cons_is refl s, r, tt)) h),
        (
          λ n h. under v w (codes "unwanted") ws x n (wanted_made v (codes "unwanted") ws (λ a b c d. packet.Unwanted a b c d) x (λ a b c d s r. (cons_is refl s, r, tt)) h),
          (
            λ n h. under v w (codes "parcel") ws x n (parcel_takes v ws x h),
            (
              λ n h. under v w (codes "taken") ws x n (wanted_made v (codes "taken") ws (λ a b c d. packet.Taken a b c d) x (λ a b c d s r. (cons_is refl s, r, tt)) h),
              (
                λ n h. under v w (codes "back") ws x n (back_takes v ws x h),
                (
                  λ n h. under v w (codes "gone") ws x n (gone_takes v ws x h),
                  (
                    λ n h. under v w (codes "moved") ws x n (moved_takes v ws x h),
                    (
                      λ n h. under v w (codes "known") ws x n (end_number_made v (codes "known") ws (λ a b. packet.Known a b) x (λ a b s r. (cons_is refl s, r, tt)) h),
                      (
                        λ n h. under v w (codes "forget") ws x n (end_number_made v (codes "forget") ws (λ a b. packet.Forget a b) x (λ a b s r. (cons_is refl s, r, tt)) h),
                        (λ n h. under v w (codes "goneseen") ws x n (gone_seen_takes v ws x h), tt),
                      ),
                    ),
                  ),
                ),
              ),
            ),
          ),
        ),
      ),
    )

pub packet_takes : (v : ℕ) (ws : List (List ℕ)) (x : PictureWhat) → packet_of v ws ≡ Ok x → (ws ≡ packet_name x ∷ packet_rest x) × IsPacketInRange x × HasFewPacket v x
unfolding packet_of
packet_takes v [] x e = absurd (not_ok x Form e)
packet_takes v (w ∷ ws) x e = named_packet_takes v w ws x e
