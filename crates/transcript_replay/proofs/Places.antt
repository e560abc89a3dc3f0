-- The place behind a line.
use Rattle.std.proofs.Common.{◌≡◌, ◌⊎◌, inl, inr, ℕ, ◌+◌, ◌<◌, ◌≤◌, Bool, true, false, ◌&&◌, ◌||◌, ◌==◌, nat_eq, nat_lt, nat_le, cond, List, [], ◌∷◌, ◌++◌, length, map, All, Result, Ok, Err, arith, ap, sym, subst, ◌∙◌, refl, append_assoc, append-nil, length-append}
use Rattle.std.proofs.lemmas.Bool.{ltb-true, leb-true}
use Rattle.std.proofs.lemmas.Bool.Decides.{eqb_tells}
use Rattle.std.proofs.lemmas.List.{map-append}
use Rattle.std.proofs.lemmas.List.Elements.{All-push, All-nil, All-weaker}
use Rattle.charlotte_calls.specs.Setting.{IsValid, IsWithinLimits}
use Rattle.charlotte_calls.specs.declared.names.Pid.{Pid}
use Rattle.charlotte_calls.specs.declared.setting.Setting.{Setting}
use Rattle.charlotte_text.specs.declared.fault.Fault.{Fault}
use Rattle.charlotte_text.specs.declared.fault.Fault.TheVariants.{Form}
use Rattle.transcript_lines.specs.declared.last.Last.{Last}
use Rattle.transcript_lines.specs.declared.last.Last.TheVariants.{Quiet, Unsettled, Spent}
use Rattle.transcript_lines.specs.declared.last.ScriptNote.{ScriptNote}
use Rattle.transcript_reading.specs.Kinds.{process_kinds, wire_kinds}
use Rattle.transcript_reading.specs.Order.{Place, Start, Version, Processes, Wires, Entry, Noted, Over, housed, next, wired}
use Rattle.transcript_reading.specs.declared.line.LineKind.{LineKind}
use Rattle.transcript_reading.specs.declared.line.LineKind.TheVariants as line
use Rattle.transcript_replay.specs.Header.{IsHeader, IsToldAt, header_kinds, is_body, tells}

abbrev Standing : Place → Result Place Fault
Standing place = Ok place

failed : {A : Type 0} (f : Fault) (place : Place) → Err f ≡ Standing place → A
failed f place e = absurd cc

-- a test that is passed
passed : (b : Bool) (p q : Place) → cond b (Standing p) (Err Form) ≡ Standing q → (b ≡ true) × (p ≡ q)
passed true p q e = (refl, cc)
passed false p q e = failed Form q e

both : (a b : Bool) → (a && b) ≡ true → (a ≡ true) × (b ≡ true)
both true b e = (refl, e)
both false b e = absurd cc

same_number : (a b : ℕ) → (a == b) ≡ true → a ≡ b
same_number a b e = elim (eqb_tells a b) [ inl x ↦ x.1 | inr x ↦ let no : true ≡ false = sym e ∙ x.0 in absurd cc ]

-- ---- behind lines of the body

-- where a line stands that may stand behind the header
abbrev pub IsBehind : LineKind → Place → Type 0
IsBehind (line.CallEntry i k p c) place = place ≡ Entry
IsBehind (line.PacketEntry i k from q) place = place ≡ Entry
IsBehind (line.Service s) place = place ≡ Entry
IsBehind (line.Note note) place = place ≡ Noted note.line
IsBehind (line.End l) place = place ≡ Over
IsBehind _ place = Unit {0}

ok_same : (p q : Place) → Standing p ≡ Standing q → q ≡ p
ok_same p q e = cc

pub behind-is : (place behind : Place) (k : LineKind) → next place k ≡ Standing behind → IsBehind k behind
unfolding next
behind-is place behind (line.First v) e = tt
behind-is place behind (line.Kernels n) e = tt
behind-is place behind (line.Process q n) e = tt
behind-is place behind (line.Wire a b) e = tt
behind-is Start behind (line.CallEntry i k q c) e = failed Form behind e
behind-is Version behind (line.CallEntry i k q c) e = failed Form behind e
behind-is (Processes m n) behind (line.CallEntry i k q c) e = ok_same Entry behind e
behind-is (Wires m n) behind (line.CallEntry i k q c) e = ok_same Entry behind e
behind-is Entry behind (line.CallEntry i k q c) e = ok_same Entry behind e
behind-is (Noted m) behind (line.CallEntry i k q c) e = failed Form behind e
behind-is Over behind (line.CallEntry i k q c) e = failed Form behind e
behind-is Start behind (line.PacketEntry i k from q) e = failed Form behind e
behind-is Version behind (line.PacketEntry i k from q) e = failed Form behind e
behind-is (Processes m n) behind (line.PacketEntry i k from q) e = ok_same Entry behind e
behind-is (Wires m n) behind (line.PacketEntry i k from q) e = ok_same Entry behind e
behind-is Entry behind (line.PacketEntry i k from q) e = ok_same Entry behind e
behind-is (Noted m) behind (line.PacketEntry i k from q) e = failed Form behind e
behind-is Over behind (line.PacketEntry i k from q) e = failed Form behind e
behind-is Start behind (line.Service x) e = failed Form behind e
behind-is Version behind (line.Service x) e = failed Form behind e
behind-is (Processes m n) behind (line.Service x) e = failed Form behind e
behind-is (Wires m n) behind (line.Service x) e = failed Form behind e
behind-is Entry behind (line.Service x) e = ok_same Entry behind e
behind-is (Noted m) behind (line.Service x) e = failed Form behind e
behind-is Over behind (line.Service x) e = failed Form behind e
behind-is Start behind (line.Note n) e = failed Form behind e
behind-is Version behind (line.Note n) e = failed Form behind e
behind-is (Processes m n) behind (line.Note note) e = ok_same (Noted note.line) behind e
behind-is (Wires m n) behind (line.Note note) e = ok_same (Noted note.line) behind e
behind-is Entry behind (line.Note n) e = ok_same (Noted n.line) behind e
behind-is (Noted m) behind (line.Note n) e = sym (passed (nat_lt m n.line) (Noted n.line) behind e).1
behind-is Over behind (line.Note n) e = failed Form behind e
behind-is Start behind (line.End l) e = failed Form behind e
behind-is Version behind (line.End l) e = failed Form behind e
behind-is (Processes m n) behind (line.End l) e = ok_same Over behind e
behind-is (Wires m n) behind (line.End l) e = ok_same Over behind e
behind-is Entry behind (line.End l) e = ok_same Over behind e
behind-is (Noted m) behind (line.End Quiet) e = ok_same Over behind e
behind-is (Noted m) behind (line.End Unsettled) e = ok_same Over behind e
behind-is (Noted m) behind (line.End (Spent k)) e = failed Form behind e
behind-is Over behind (line.End l) e = failed Form behind e

-- behind a note stand notes and the end
abbrev pub IsNoteOrEnd : LineKind → Type 0
IsNoteOrEnd (line.Note n) = Unit {0}
IsNoteOrEnd (line.End l) = Unit {0}
IsNoteOrEnd _ = ⊥

pub behind-note : (m : ℕ) (behind : Place) (k : LineKind) → next (Noted m) k ≡ Standing behind → IsNoteOrEnd k
unfolding next
behind-note m behind (line.First v) e = failed Form behind e
behind-note m behind (line.Kernels n) e = failed Form behind e
behind-note m behind (line.Process q n) e = failed Form behind e
behind-note m behind (line.Wire a b) e = failed Form behind e
behind-note m behind (line.CallEntry i k q c) e = failed Form behind e
behind-note m behind (line.PacketEntry i k from q) e = failed Form behind e
behind-note m behind (line.Service x) e = failed Form behind e
behind-note m behind (line.Note n) e = tt
behind-note m behind (line.End l) e = tt

pub behind-over : {A : Type 0} (behind : Place) (k : LineKind) → next Over k ≡ Standing behind → A
unfolding next
behind-over behind (line.First v) e = failed Form behind e
behind-over behind (line.Kernels n) e = failed Form behind e
behind-over behind (line.Process q n) e = failed Form behind e
behind-over behind (line.Wire a b) e = failed Form behind e
behind-over behind (line.CallEntry i k q c) e = failed Form behind e
behind-over behind (line.PacketEntry i k from q) e = failed Form behind e
behind-over behind (line.Service x) e = failed Form behind e
behind-over behind (line.Note n) e = failed Form behind e
behind-over behind (line.End l) e = failed Form behind e

-- behind a part of a header that lacks the kernels stands no line of the body
pub behind-start : {A : Type 0} (behind : Place) (k : LineKind) → is_body k ≡ true → next Start k ≡ Standing behind → A
unfolding next
behind-start behind (line.First v) is e = absurd cc
behind-start behind (line.Kernels n) is e = absurd cc
behind-start behind (line.Process q n) is e = absurd cc
behind-start behind (line.Wire a b) is e = absurd cc
behind-start behind (line.CallEntry i k q c) is e = failed Form behind e
behind-start behind (line.PacketEntry i k from q) is e = failed Form behind e
behind-start behind (line.Service x) is e = failed Form behind e
behind-start behind (line.Note n) is e = failed Form behind e
behind-start behind (line.End l) is e = failed Form behind e

pub behind-version : {A : Type 0} (behind : Place) (k : LineKind) → is_body k ≡ true → next Version k ≡ Standing behind → A
unfolding next
behind-version behind (line.First v) is e = absurd cc
behind-version behind (line.Kernels n) is e = absurd cc
behind-version behind (line.Process q n) is e = absurd cc
behind-version behind (line.Wire a b) is e = absurd cc
behind-version behind (line.CallEntry i k q c) is e = failed Form behind e
behind-version behind (line.PacketEntry i k from q) is e = failed Form behind e
behind-version behind (line.Service x) is e = failed Form behind e
behind-version behind (line.Note n) is e = failed Form behind e
behind-version behind (line.End l) is e = failed Form behind e

-- among entries stands no line of a header
pub behind-entry : {A : Type 0} (behind : Place) (k : LineKind) → is_body k ≡ false → next Entry k ≡ Standing behind → A
unfolding next
behind-entry behind (line.First v) is e = failed Form behind e
behind-entry behind (line.Kernels n) is e = failed Form behind e
behind-entry behind (line.Process q n) is e = failed Form behind e
behind-entry behind (line.Wire a b) is e = failed Form behind e
behind-entry behind (line.CallEntry i k q c) is e = absurd cc
behind-entry behind (line.PacketEntry i k from q) is e = absurd cc
behind-entry behind (line.Service x) is e = absurd cc
behind-entry behind (line.Note n) is e = absurd cc
behind-entry behind (line.End l) is e = absurd cc

-- ---- the lines of a header

one_or_two : (v : ℕ) → ((v == 1) || (v == 2)) ≡ true → (v ≡ 1) ⊎ (v ≡ 2)
one_or_two v e = elim (eqb_tells v 1) [
  | inl x ↦ inl x.1
  | inr x ↦ inr (same_number v 2 (ap (λ b. b || (v == 2)) (sym x.0) ∙ e))
]

told_version : (v : ℕ) (behind : Place) (s : Setting) (taken : List LineKind) → next Start (line.First v) ≡ Standing behind → IsToldAt Start s taken → IsToldAt behind (tells (line.First v) s) (taken ++ line.First v ∷ [])
unfolding next
told_version v behind s taken e is =
    let t = passed ((v == 1) || (v == 2)) Version behind e in
    subst (λ b. IsToldAt b (tells (line.First v) s) (taken ++ line.First v ∷ [])) t.1 (ap (λ l. l ++ line.First v ∷ []) is.0, one_or_two v t.0, is.1, is.2)

no_wires : (s : Setting) → s.wires ≡ [] → header_kinds s ≡ line.First s.version ∷ line.Kernels s.kernels ∷ process_kinds 0 s.homes
no_wires s none = ap (λ l. line.First s.version ∷ line.Kernels s.kernels ∷ process_kinds 0 s.homes ++ wire_kinds l) none ∙ ap (λ l. line.First s.version ∷ line.Kernels s.kernels ∷ l) (append-nil (process_kinds 0 s.homes))

told_kernels : (n : ℕ) (behind : Place) (s : Setting) (taken : List LineKind) → next Version (line.Kernels n) ≡ Standing behind → IsToldAt Version s taken → IsToldAt behind (tells (line.Kernels n) s) (taken ++ line.Kernels n ∷ [])
unfolding next
told_kernels n behind s taken e is =
    let t = passed (nat_le 1 n && nat_le n 8) (Processes n 0) behind e in
    let within = both (nat_le 1 n) (nat_le n 8) t.0 in
    let new : Setting = record s { kernels = n } in
    let none : length s.homes ≡ 0 = ap (λ l. length l) is.2 in
    let no_wire : length s.wires ≡ 0 = ap (λ l. length l) is.3 in
    subst (λ b. IsToldAt b new (taken ++ line.Kernels n ∷ [])) t.1 (
      record {
        valid = record {
          limits = record { version = is.1; some_kernel = leb-true 1 n within.0; kernels = leb-true n 8 within.1; processes = omega (arith, none); wires = omega (arith, no_wire) };
          homes = subst (λ l. All (λ home. home < n) l) (sym is.2) (All-nil (λ home. home < n));
          wires = subst (λ l. All (λ wire. (wire.0.0 < length s.homes) × (wire.1.0 < length s.homes)) l) (sym is.3) (All-nil (λ wire. (wire.0.0 < length s.homes) × (wire.1.0 < length s.homes)));
        };
        shown = ap (λ l. l ++ line.Kernels n ∷ []) is.0 ∙ ap (λ l. line.First s.version ∷ line.Kernels n ∷ process_kinds 0 l) (sym is.2) ∙ sym (no_wires new is.3);
      },
      refl,
      none,
      is.3,
    )

process_kinds-more : (i : ℕ) (hs : List ℕ) (h : ℕ) → process_kinds i (hs ++ h ∷ []) ≡ process_kinds i hs ++ line.Process (record { 0 = i + length hs }) h ∷ []
process_kinds-more i [] h = ap (λ n. line.Process (record { 0 = n }) h ∷ []) (omega arith)
process_kinds-more i (x ∷ hs) h = ap (λ l. line.Process (record { 0 = i }) x ∷ l) (process_kinds-more (i + 1) hs h ∙ ap (λ n. process_kinds (i + 1) hs ++ line.Process (record { 0 = n }) h ∷ []) (omega arith))

abbrev AreWiresBelow : ℕ → List (Pid × Pid) → Type 0
AreWiresBelow n ws = All (λ wire. (wire.0.0 < n) × (wire.1.0 < n)) ws

wires_below : (m n : ℕ) (ws : List (Pid × Pid)) → m ≤ n → AreWiresBelow m ws → AreWiresBelow n ws
wires_below m n ws le all = All-weaker (λ wire. (wire.0.0 < m) × (wire.1.0 < m)) (λ wire. (wire.0.0 < n) × (wire.1.0 < n)) (λ w h. wider w h) ws all
  where
    wider : (w : Pid × Pid) → (w.0.0 < m) × (w.1.0 < m) → (w.0.0 < n) × (w.1.0 < n)
    wider w h = (omega (arith, h.0), omega (arith, h.1))

told_process : (m n : ℕ) (p : Pid) (k : ℕ) (behind : Place) (s : Setting) (taken : List LineKind) → next (Processes m n) (line.Process p k) ≡ Standing behind → IsToldAt (Processes m n) s taken → IsToldAt behind (tells (line.Process p k) s) (taken ++ line.Process p k ∷ [])
unfolding next
told_process m n p k behind s taken e is =
    let t = passed ((p.0 == n) && nat_lt n 64 && nat_lt k m) (Processes m (n + 1)) behind e in
    subst (λ b. IsToldAt b new (taken ++ line.Process p k ∷ [])) t.1 (
      record {
        valid = record {
          limits = record { version = limits.version; some_kernel = limits.some_kernel; kernels = limits.kernels; processes = omega (arith, more, few t.0, is.2); wires = limits.wires };
          homes = All-push (λ home. home < s.kernels) s.homes k is.0.valid.homes (subst (λ i. k < i) (sym is.1) (below t.0));
          wires = wires_below (length s.homes) (length new.homes) s.wires (omega (arith, more)) is.0.valid.wires;
        };
        shown = ap (λ l. l ++ line.Process p k ∷ []) (is.0.shown ∙ no_wires s is.3)
            ∙ ap (λ i. line.First s.version ∷ line.Kernels s.kernels ∷ (process_kinds 0 s.homes ++ line.Process (record { 0 = i }) k ∷ [])) (number t.0)
            ∙ ap (λ l. line.First s.version ∷ line.Kernels s.kernels ∷ l) (sym (process_kinds-more 0 s.homes k)) ∙ sym (no_wires new is.3);
      },
      is.1,
      more ∙ ap (λ i. i + 1) is.2,
      is.3,
    )
  where
    new : Setting
    new = record s { homes = s.homes ++ k ∷ [] }

    limits : IsWithinLimits s
    limits = is.0.valid.limits

    more : length (s.homes ++ k ∷ []) ≡ length s.homes + 1
    more = length-append s.homes (k ∷ [])

    few : ((p.0 == n) && nat_lt n 64 && nat_lt k m) ≡ true → n < 64
    few h = ltb-true n 64 (both (p.0 == n) (nat_lt n 64) (both ((p.0 == n) && nat_lt n 64) (nat_lt k m) h).0).1

    below : ((p.0 == n) && nat_lt n 64 && nat_lt k m) ≡ true → k < m
    below h = ltb-true k m (both ((p.0 == n) && nat_lt n 64) (nat_lt k m) h).1

    number : ((p.0 == n) && nat_lt n 64 && nat_lt k m) ≡ true → p.0 ≡ 0 + length s.homes
    number h = same_number p.0 n (both (p.0 == n) (nat_lt n 64) (both ((p.0 == n) && nat_lt n 64) (nat_lt k m) h).0).0 ∙ sym is.2 ∙ from_zero (length s.homes)
      where
        from_zero : (i : ℕ) → i ≡ 0 + i
        from_zero i = omega arith

told_wire : (n m : ℕ) (a b : Pid) (behind : Place) (s : Setting) (taken : List LineKind) → wired n m a b ≡ Standing behind → IsHeader s taken → length s.homes ≡ n → length s.wires ≡ m → IsToldAt behind (tells (line.Wire a b) s) (taken ++ line.Wire a b ∷ [])
told_wire n m a b behind s taken e is homes wires =
    let t = passed (nat_lt m 4096 && nat_lt a.0 n && nat_lt b.0 n) (Wires n (m + 1)) behind e in
    let within = both (nat_lt m 4096 && nat_lt a.0 n) (nat_lt b.0 n) t.0 in
    let first = both (nat_lt m 4096) (nat_lt a.0 n) within.0 in
    let few : m < 4096 = ltb-true m 4096 first.0 in
    let a_below : a.0 < n = ltb-true a.0 n first.1 in
    let b_below : b.0 < n = ltb-true b.0 n within.1 in
    subst (λ x. IsToldAt x new (taken ++ line.Wire a b ∷ [])) t.1 (
      record {
        valid = record {
          limits = record { version = limits.version; some_kernel = limits.some_kernel; kernels = limits.kernels; processes = limits.processes; wires = omega (arith, more, few, wires) };
          homes = is.valid.homes;
          wires = All-push (λ wire. (wire.0.0 < length s.homes) × (wire.1.0 < length s.homes)) s.wires (a, b) is.valid.wires (subst (λ i. a.0 < i) (sym homes) a_below, subst (λ i. b.0 < i) (sym homes) b_below);
        };
        shown = ap (λ l. l ++ line.Wire a b ∷ []) is.shown
            ∙ ap (λ l. line.First s.version ∷ line.Kernels s.kernels ∷ l) (append_assoc (process_kinds 0 s.homes) (wire_kinds s.wires) (line.Wire a b ∷ [])
            ∙ ap (λ l. process_kinds 0 s.homes ++ l) (sym (map-append (λ (w : Pid × Pid). line.Wire w.0 w.1) s.wires ((a, b) ∷ []))));
      },
      homes,
      more ∙ ap (λ i. i + 1) wires,
    )
  where
    new : Setting
    new = record s { wires = s.wires ++ (a, b) ∷ [] }

    limits : IsWithinLimits s
    limits = is.valid.limits

    more : length (s.wires ++ (a, b) ∷ []) ≡ length s.wires + 1
    more = length-append s.wires ((a, b) ∷ [])

-- a line of a header behind those before it
pub told-more : (place behind : Place) (k : LineKind) (s : Setting) (taken : List LineKind) → is_body k ≡ false → next place k ≡ Standing behind → IsToldAt place s taken → IsToldAt behind (tells k s) (taken ++ k ∷ [])
unfolding next
told-more Start behind (line.First v) s taken head e is = told_version v behind s taken e is
told-more Start behind (line.Kernels n) s taken head e is = failed Form behind e
told-more Start behind (line.Process q n) s taken head e is = failed Form behind e
told-more Start behind (line.Wire a b) s taken head e is = failed Form behind e
told-more Start behind (line.CallEntry i k q c) s taken head e is = absurd cc
told-more Start behind (line.PacketEntry i k from q) s taken head e is = absurd cc
told-more Start behind (line.Service x) s taken head e is = absurd cc
told-more Start behind (line.Note n) s taken head e is = absurd cc
told-more Start behind (line.End l) s taken head e is = absurd cc
told-more Version behind (line.First v) s taken head e is = failed Form behind e
told-more Version behind (line.Kernels n) s taken head e is = told_kernels n behind s taken e is
told-more Version behind (line.Process q n) s taken head e is = failed Form behind e
told-more Version behind (line.Wire a b) s taken head e is = failed Form behind e
told-more Version behind (line.CallEntry i k q c) s taken head e is = absurd cc
told-more Version behind (line.PacketEntry i k from q) s taken head e is = absurd cc
told-more Version behind (line.Service x) s taken head e is = absurd cc
told-more Version behind (line.Note n) s taken head e is = absurd cc
told-more Version behind (line.End l) s taken head e is = absurd cc
told-more (Processes m n) behind (line.First v) s taken head e is = failed Form behind e
told-more (Processes m n) behind (line.Kernels h) s taken head e is = failed Form behind e
told-more (Processes m n) behind (line.Process q h) s taken head e is = told_process m n q h behind s taken e is
told-more (Processes m n) behind (line.Wire a b) s taken head e is = told_wire n 0 a b behind s taken e is.0 is.2 (ap (λ l. length l) is.3)
told-more (Processes m n) behind (line.CallEntry i k q c) s taken head e is = absurd cc
told-more (Processes m n) behind (line.PacketEntry i k from q) s taken head e is = absurd cc
told-more (Processes m n) behind (line.Service x) s taken head e is = absurd cc
told-more (Processes m n) behind (line.Note note) s taken head e is = absurd cc
told-more (Processes m n) behind (line.End l) s taken head e is = absurd cc
told-more (Wires m n) behind (line.First v) s taken head e is = failed Form behind e
told-more (Wires m n) behind (line.Kernels h) s taken head e is = failed Form behind e
told-more (Wires m n) behind (line.Process q h) s taken head e is = failed Form behind e
told-more (Wires m n) behind (line.Wire a b) s taken head e is = told_wire m n a b behind s taken e is.0 is.1 is.2
told-more (Wires m n) behind (line.CallEntry i k q c) s taken head e is = absurd cc
told-more (Wires m n) behind (line.PacketEntry i k from q) s taken head e is = absurd cc
told-more (Wires m n) behind (line.Service x) s taken head e is = absurd cc
told-more (Wires m n) behind (line.Note note) s taken head e is = absurd cc
told-more (Wires m n) behind (line.End l) s taken head e is = absurd cc
told-more Entry behind k s taken head e is = absurd is
told-more (Noted m) behind k s taken head e is = absurd is
told-more Over behind k s taken head e is = absurd is
