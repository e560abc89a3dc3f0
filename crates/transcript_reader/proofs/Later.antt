-- Behind the first line no line tells a version, so all lines are of that of the first.
use Rattle.std.proofs.Common.{◌≡◌, ℕ, ◌+◌, ◌&&◌, ltb, leb, List, [], ◌∷◌, Ok, ap, subst, sym, refl}
use Rattle.charlotte_text.specs.declared.fault.Fault.TheVariants.{Form}
use Rattle.charlotte_text.proofs.Steps.{bind_ok, ok_is, not_ok, held}
use Rattle.transcript_lines.specs.declared.last.Last.TheVariants.{Quiet, Unsettled, Spent}
use Rattle.transcript_reading.specs.Order.{Place, Start, Version, Processes, Wires, Entry, Noted, Over, next, follows}
use Rattle.transcript_reading.specs.declared.line.LineKind.{LineKind}
use Rattle.transcript_reading.specs.declared.line.LineKind.TheVariants as kind
use Rattle.transcript_reader.specs.Lines.{version_after}
use Rattle.transcript_reader.specs.Text.{AreKinds}
use Rattle.transcript_reader.proofs.Told.{Each, placed_ok, is_wire, is_home}

-- some line was read
abbrev pub IsLater : Place → Type 0
IsLater Start = ⊥
IsLater Version = Unit {0}
IsLater (Processes kernels processes) = Unit {0}
IsLater (Wires processes wires) = Unit {0}
IsLater Entry = Unit {0}
IsLater (Noted line) = Unit {0}
IsLater Over = Unit {0}

-- a line leads to a later place, and tells no version
record Stays (k : LineKind) (q : Place) : Type 0 where
  later : IsLater q
  same : (v : ℕ) → version_after v k ≡ v

stays : {k : LineKind} (p q : Place) → placed_ok p ≡ placed_ok q → IsLater p → ((v : ℕ) → version_after v k ≡ v) → Stays k q
stays p q e is same = record { later = subst IsLater (ok_is p q e) is; same = same }

later_next : (p : Place) (k : LineKind) (q : Place) → IsLater p → next p k ≡ Ok q → Stays k q
unfolding next
later_next Start k q is e = absurd is
later_next Version (kind.First n) q is e = absurd (not_ok q Form e)
later_next Version (kind.Kernels n) q is e = let k = held (leb 1 n && leb n 8) (placed_ok (Processes n 0)) Form q e in stays (Processes n 0) q k.1 tt (λ v. refl)
later_next Version (kind.Process p home) q is e = absurd (not_ok q Form e)
later_next Version (kind.Wire first second) q is e = absurd (not_ok q Form e)
later_next Version (kind.CallEntry stamp kernel p c) q is e = absurd (not_ok q Form e)
later_next Version (kind.PacketEntry stamp kernel from picture) q is e = absurd (not_ok q Form e)
later_next Version (kind.Service s) q is e = absurd (not_ok q Form e)
later_next Version (kind.Note note) q is e = absurd (not_ok q Form e)
later_next Version (kind.End last) q is e = absurd (not_ok q Form e)
later_next (Processes kernels processes) (kind.First n) q is e = absurd (not_ok q Form e)
later_next (Processes kernels processes) (kind.Kernels n) q is e = absurd (not_ok q Form e)
later_next (Processes kernels processes) (kind.Process p home) q is e = let h = is_home kernels processes p home q e in stays (Processes kernels (processes + 1)) q (ap placed_ok h.stands) tt (λ v. refl)
later_next (Processes kernels processes) (kind.Wire first second) q is e = let h = is_wire processes 0 first second q e in stays (Wires processes (0 + 1)) q (ap placed_ok h.place) tt (λ v. refl)
later_next (Processes kernels processes) (kind.CallEntry stamp kernel p c) q is e = stays Entry q e tt (λ v. refl)
later_next (Processes kernels processes) (kind.PacketEntry stamp kernel from picture) q is e = stays Entry q e tt (λ v. refl)
later_next (Processes kernels processes) (kind.Service s) q is e = absurd (not_ok q Form e)
later_next (Processes kernels processes) (kind.Note note) q is e = stays (Noted note.line) q e tt (λ v. refl)
later_next (Processes kernels processes) (kind.End last) q is e = stays Over q e tt (λ v. refl)
later_next (Wires processes wires) (kind.First n) q is e = absurd (not_ok q Form e)
later_next (Wires processes wires) (kind.Kernels n) q is e = absurd (not_ok q Form e)
later_next (Wires processes wires) (kind.Process p home) q is e = absurd (not_ok q Form e)
later_next (Wires processes wires) (kind.Wire first second) q is e = let h = is_wire processes wires first second q e in stays (Wires processes (wires + 1)) q (ap placed_ok h.place) tt (λ v. refl)
later_next (Wires processes wires) (kind.CallEntry stamp kernel p c) q is e = stays Entry q e tt (λ v. refl)
later_next (Wires processes wires) (kind.PacketEntry stamp kernel from picture) q is e = stays Entry q e tt (λ v. refl)
later_next (Wires processes wires) (kind.Service s) q is e = absurd (not_ok q Form e)
later_next (Wires processes wires) (kind.Note note) q is e = stays (Noted note.line) q e tt (λ v. refl)
later_next (Wires processes wires) (kind.End last) q is e = stays Over q e tt (λ v. refl)
later_next Entry (kind.First n) q is e = absurd (not_ok q Form e)
later_next Entry (kind.Kernels n) q is e = absurd (not_ok q Form e)
later_next Entry (kind.Process p home) q is e = absurd (not_ok q Form e)
later_next Entry (kind.Wire first second) q is e = absurd (not_ok q Form e)
later_next Entry (kind.CallEntry stamp kernel p c) q is e = stays Entry q e tt (λ v. refl)
later_next Entry (kind.PacketEntry stamp kernel from picture) q is e = stays Entry q e tt (λ v. refl)
later_next Entry (kind.Service s) q is e = stays Entry q e tt (λ v. refl)
later_next Entry (kind.Note note) q is e = stays (Noted note.line) q e tt (λ v. refl)
later_next Entry (kind.End last) q is e = stays Over q e tt (λ v. refl)
later_next (Noted before) (kind.First n) q is e = absurd (not_ok q Form e)
later_next (Noted before) (kind.Kernels n) q is e = absurd (not_ok q Form e)
later_next (Noted before) (kind.Process p home) q is e = absurd (not_ok q Form e)
later_next (Noted before) (kind.Wire first second) q is e = absurd (not_ok q Form e)
later_next (Noted before) (kind.CallEntry stamp kernel p c) q is e = absurd (not_ok q Form e)
later_next (Noted before) (kind.PacketEntry stamp kernel from picture) q is e = absurd (not_ok q Form e)
later_next (Noted before) (kind.Service s) q is e = absurd (not_ok q Form e)
later_next (Noted before) (kind.Note note) q is e = let k = held (ltb before note.line) (placed_ok (Noted note.line)) Form q e in stays (Noted note.line) q k.1 tt (λ v. refl)
later_next (Noted before) (kind.End Quiet) q is e = stays Over q e tt (λ v. refl)
later_next (Noted before) (kind.End Unsettled) q is e = stays Over q e tt (λ v. refl)
later_next (Noted before) (kind.End (Spent m)) q is e = absurd (not_ok q Form e)
later_next Over (kind.First n) q is e = absurd (not_ok q Form e)
later_next Over (kind.Kernels n) q is e = absurd (not_ok q Form e)
later_next Over (kind.Process p home) q is e = absurd (not_ok q Form e)
later_next Over (kind.Wire first second) q is e = absurd (not_ok q Form e)
later_next Over (kind.CallEntry stamp kernel p c) q is e = absurd (not_ok q Form e)
later_next Over (kind.PacketEntry stamp kernel from picture) q is e = absurd (not_ok q Form e)
later_next Over (kind.Service s) q is e = absurd (not_ok q Form e)
later_next Over (kind.Note note) q is e = absurd (not_ok q Form e)
later_next Over (kind.End last) q is e = absurd (not_ok q Form e)

pub each_kinds : (v : ℕ) (p : Place) (ks : List LineKind) → IsLater p → follows ks p ≡ Ok Over → Each v ks → AreKinds v ks
unfolding follows
each_kinds v p [] is f each = tt
each_kinds v p (k ∷ ks) is f each =
    let a = bind_ok (next p k) (follows ks) Over f in
    let s = later_next p k a.0 is a.1 in
    (each.0, subst (λ (x : ℕ). AreKinds x ks) (sym (s.same v)) (each_kinds v a.0 ks s.later a.2 each.1))

pub kinds_each : (v : ℕ) (p : Place) (ks : List LineKind) → IsLater p → follows ks p ≡ Ok Over → AreKinds v ks → Each v ks
unfolding follows
kinds_each v p [] is f are = tt
kinds_each v p (k ∷ ks) is f are =
    let a = bind_ok (next p k) (follows ks) Over f in
    let s = later_next p k a.0 is a.1 in
    (are.0, kinds_each v a.0 ks s.later a.2 (subst (λ (x : ℕ). AreKinds x ks) (s.same v) are.1))
