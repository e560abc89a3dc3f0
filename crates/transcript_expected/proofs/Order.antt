-- Which forms may stand in a place, from the order of the lines.
use Rattle.std.proofs.Common.{◌≡◌, inl, inr, ℕ, ◌+◌, ◌<◌, ◌==◌, ◌&&◌, nat_lt, if◌then◌else◌, Bool, true, false, Result, Ok, Err, arith, refl, subst, ltb-true, lt-ltb}
use Rattle.std.proofs.lemmas.Bool.Decides.{eqb_tells}
use Rattle.charlotte_calls.specs.declared.calls.Call.TheVariants.{Make}
use Rattle.charlotte_calls.specs.declared.names.Pid.{Pid}
use Rattle.charlotte_calls.specs.declared.names.Side.TheVariants.{A}
use Rattle.charlotte_packets.specs.declared.picture.Picture.{Picture}
use Rattle.charlotte_packets.specs.declared.picture.PictureWhat.TheVariants.{GoneSeen}
use Rattle.charlotte_text.specs.declared.fault.Fault.{Fault}
use Rattle.charlotte_text.specs.declared.fault.Fault.TheVariants as fault
use Rattle.transcript_lines.specs.declared.last.Last.TheVariants.{Quiet, Unsettled, Spent}
use Rattle.transcript_expected.specs.Forms.{MayStand, form_of, may_stand}
use Rattle.transcript_expected.specs.declared.form.Form.{Form}
use Rattle.transcript_expected.specs.declared.form.Form.TheVariants as form
use Rattle.transcript_reading.specs.Order.{Place, Start, Version, Processes, Wires, Entry, Noted, Over, next, housed, wired}
use Rattle.transcript_reading.specs.declared.line.LineKind.{LineKind}
use Rattle.transcript_reading.specs.declared.line.LineKind.TheVariants as line
use Rattle.transcript_reading.specs.declared.line.ServiceLine.TheVariants as step

-- what passes where some tests do
abbrev checked : Bool → Place → Result Place Fault
checked b p = if b then Ok p else Err fault.Form

three : (a b c : Bool) (p q : Place) → checked (a && b && c) p ≡ Ok q → (a ≡ true) × (b ≡ true) × (c ≡ true)
three true true true p q e = (refl, refl, refl)
three true true false p q e = absurd cc
three true false c p q e = absurd cc
three false b c p q e = absurd cc

all_three : (a b c : Bool) (p : Place) → a ≡ true → b ≡ true → c ≡ true → checked (a && b && c) p ≡ Ok p
all_three true true true p e f g = refl
all_three true true false p e f g = absurd cc
all_three true false c p e f g = absurd cc
all_three false b c p e f g = absurd cc

one : (a : Bool) (p : Place) → a ≡ true → checked a p ≡ Ok p
one true p e = refl
one false p e = absurd cc

both : (a b : Bool) → (a && b) ≡ true → (a ≡ true) × (b ≡ true)
both true b e = (refl, e)
both false b e = absurd cc

both_true : (a b : Bool) → a ≡ true → b ≡ true → (a && b) ≡ true
both_true true b e f = f
both_true false b e f = absurd cc

positive : (n m : ℕ) → nat_lt n m ≡ true → nat_lt 0 m ≡ true
positive n m e = let less = ltb-true n m e in lt-ltb 0 m (omega (arith, less))

same : (n : ℕ) → (n == n) ≡ true
same n = elim (eqb_tells n n) [ inl x ↦ x.0 | inr x ↦ absurd (x.1 refl) ]

-- ---- a line that stands is of a form that may stand

next_process : (kernels processes : ℕ) (p : Pid) (n : ℕ) (behind : Place) → housed kernels processes p n ≡ Ok behind → (nat_lt 0 kernels && nat_lt processes 64) ≡ true
next_process kernels processes p n behind e =
    let t = three (p.0 == processes) (nat_lt processes 64) (nat_lt n kernels) (Processes kernels (processes + 1)) behind e in
    both_true (nat_lt 0 kernels) (nat_lt processes 64) (positive n kernels t.2) t.1

next_wire : (processes wires : ℕ) (p q : Pid) (behind : Place) → wired processes wires p q ≡ Ok behind → (nat_lt wires 4096 && nat_lt 0 processes) ≡ true
next_wire processes wires p q behind e =
    let t = three (nat_lt wires 4096) (nat_lt p.0 processes) (nat_lt q.0 processes) (Wires processes (wires + 1)) behind e in
    both_true (nat_lt wires 4096) (nat_lt 0 processes) t.0 (positive p.0 processes t.1)

first_wire : (processes : ℕ) (p q : Pid) (behind : Place) → wired processes 0 p q ≡ Ok behind → nat_lt 0 processes ≡ true
first_wire processes p q behind e = (both (nat_lt 0 4096) (nat_lt 0 processes) (next_wire processes 0 p q behind e)).1

told_start : (k : LineKind) (behind : Place) → next Start k ≡ Ok behind → may_stand Start (form_of k) ≡ true
unfolding next
told_start (line.First v) behind e = refl
told_start (line.Kernels n) behind e = absurd cc
told_start (line.Process p n) behind e = absurd cc
told_start (line.Wire p q) behind e = absurd cc
told_start (line.CallEntry i n p c) behind e = absurd cc
told_start (line.PacketEntry i n from what) behind e = absurd cc
told_start (line.Service s) behind e = absurd cc
told_start (line.Note note) behind e = absurd cc
told_start (line.End Quiet) behind e = absurd cc
told_start (line.End Unsettled) behind e = absurd cc
told_start (line.End (Spent n)) behind e = absurd cc

told_version : (k : LineKind) (behind : Place) → next Version k ≡ Ok behind → may_stand Version (form_of k) ≡ true
unfolding next
told_version (line.First v) behind e = absurd cc
told_version (line.Kernels n) behind e = refl
told_version (line.Process p n) behind e = absurd cc
told_version (line.Wire p q) behind e = absurd cc
told_version (line.CallEntry i n p c) behind e = absurd cc
told_version (line.PacketEntry i n from what) behind e = absurd cc
told_version (line.Service s) behind e = absurd cc
told_version (line.Note note) behind e = absurd cc
told_version (line.End Quiet) behind e = absurd cc
told_version (line.End Unsettled) behind e = absurd cc
told_version (line.End (Spent n)) behind e = absurd cc

told_processes : (kernels : ℕ) (processes : ℕ) (k : LineKind) (behind : Place) → next (Processes kernels processes) k ≡ Ok behind → may_stand (Processes kernels processes) (form_of k) ≡ true
unfolding next
told_processes kernels processes (line.First v) behind e = absurd cc
told_processes kernels processes (line.Kernels n) behind e = absurd cc
told_processes kernels processes (line.Process p n) behind e = next_process kernels processes p n behind e
told_processes kernels processes (line.Wire p q) behind e = first_wire processes p q behind e
told_processes kernels processes (line.CallEntry i n p c) behind e = refl
told_processes kernels processes (line.PacketEntry i n from what) behind e = refl
told_processes kernels processes (line.Service s) behind e = absurd cc
told_processes kernels processes (line.Note note) behind e = refl
told_processes kernels processes (line.End Quiet) behind e = refl
told_processes kernels processes (line.End Unsettled) behind e = refl
told_processes kernels processes (line.End (Spent n)) behind e = refl

told_wires : (processes : ℕ) (wires : ℕ) (k : LineKind) (behind : Place) → next (Wires processes wires) k ≡ Ok behind → may_stand (Wires processes wires) (form_of k) ≡ true
unfolding next
told_wires processes wires (line.First v) behind e = absurd cc
told_wires processes wires (line.Kernels n) behind e = absurd cc
told_wires processes wires (line.Process p n) behind e = absurd cc
told_wires processes wires (line.Wire p q) behind e = next_wire processes wires p q behind e
told_wires processes wires (line.CallEntry i n p c) behind e = refl
told_wires processes wires (line.PacketEntry i n from what) behind e = refl
told_wires processes wires (line.Service s) behind e = absurd cc
told_wires processes wires (line.Note note) behind e = refl
told_wires processes wires (line.End Quiet) behind e = refl
told_wires processes wires (line.End Unsettled) behind e = refl
told_wires processes wires (line.End (Spent n)) behind e = refl

told_entry : (k : LineKind) (behind : Place) → next Entry k ≡ Ok behind → may_stand Entry (form_of k) ≡ true
unfolding next
told_entry (line.First v) behind e = absurd cc
told_entry (line.Kernels n) behind e = absurd cc
told_entry (line.Process p n) behind e = absurd cc
told_entry (line.Wire p q) behind e = absurd cc
told_entry (line.CallEntry i n p c) behind e = refl
told_entry (line.PacketEntry i n from what) behind e = refl
told_entry (line.Service s) behind e = refl
told_entry (line.Note note) behind e = refl
told_entry (line.End Quiet) behind e = refl
told_entry (line.End Unsettled) behind e = refl
told_entry (line.End (Spent n)) behind e = refl

told_noted : (before : ℕ) (k : LineKind) (behind : Place) → next (Noted before) k ≡ Ok behind → may_stand (Noted before) (form_of k) ≡ true
unfolding next
told_noted before (line.First v) behind e = absurd cc
told_noted before (line.Kernels n) behind e = absurd cc
told_noted before (line.Process p n) behind e = absurd cc
told_noted before (line.Wire p q) behind e = absurd cc
told_noted before (line.CallEntry i n p c) behind e = absurd cc
told_noted before (line.PacketEntry i n from what) behind e = absurd cc
told_noted before (line.Service s) behind e = absurd cc
told_noted before (line.Note note) behind e = refl
told_noted before (line.End Quiet) behind e = refl
told_noted before (line.End Unsettled) behind e = refl
told_noted before (line.End (Spent n)) behind e = absurd cc

told_over : (k : LineKind) (behind : Place) → next Over k ≡ Ok behind → may_stand Over (form_of k) ≡ true
unfolding next
told_over (line.First v) behind e = absurd cc
told_over (line.Kernels n) behind e = absurd cc
told_over (line.Process p n) behind e = absurd cc
told_over (line.Wire p q) behind e = absurd cc
told_over (line.CallEntry i n p c) behind e = absurd cc
told_over (line.PacketEntry i n from what) behind e = absurd cc
told_over (line.Service s) behind e = absurd cc
told_over (line.Note note) behind e = absurd cc
told_over (line.End Quiet) behind e = absurd cc
told_over (line.End Unsettled) behind e = absurd cc
told_over (line.End (Spent n)) behind e = absurd cc

pub told : (place : Place) (k : LineKind) (behind : Place) → next place k ≡ Ok behind → may_stand place (form_of k) ≡ true
told Start k behind e = told_start k behind e
told Version k behind e = told_version k behind e
told (Processes kernels processes) k behind e = told_processes kernels processes k behind e
told (Wires processes wires) k behind e = told_wires processes wires k behind e
told Entry k behind e = told_entry k behind e
told (Noted before) k behind e = told_noted before k behind e
told Over k behind e = told_over k behind e

-- ---- a line of each form that may stand

abbrev first_process : Pid
first_process = record { 0 = 0 }

some_picture : Picture
some_picture = record { stamp = 0; what = GoneSeen (record { link = record { maker = 0; count = 0 }; side = A }) }

some_process : (kernels processes : ℕ) → (nat_lt 0 kernels && nat_lt processes 64) ≡ true → MayStand (Processes kernels processes) form.Process
unfolding next
some_process kernels processes e =
    let t = both (nat_lt 0 kernels) (nat_lt processes 64) e in
    record {
      shown = line.Process (record { 0 = processes }) 0;
      of_form = refl;
      behind = Processes kernels (processes + 1);
      stands = all_three (processes == processes) (nat_lt processes 64) (nat_lt 0 kernels) (Processes kernels (processes + 1)) (same processes) t.1 t.0;
    }

some_wire : (processes wires : ℕ) → (nat_lt wires 4096 && nat_lt 0 processes) ≡ true → MayStand (Wires processes wires) form.Wire
unfolding next
some_wire processes wires e =
    let t = both (nat_lt wires 4096) (nat_lt 0 processes) e in
    record {
      shown = line.Wire first_process first_process;
      of_form = refl;
      behind = Wires processes (wires + 1);
      stands = all_three (nat_lt wires 4096) (nat_lt first_process.0 processes) (nat_lt first_process.0 processes) (Wires processes (wires + 1)) t.0 t.1 t.1;
    }

some_first_wire : (kernels processes : ℕ) → nat_lt 0 processes ≡ true → MayStand (Processes kernels processes) form.Wire
unfolding next
some_first_wire kernels processes e =
    record {
      shown = line.Wire first_process first_process;
      of_form = refl;
      behind = Wires processes 1;
      stands = all_three true (nat_lt first_process.0 processes) (nat_lt first_process.0 processes) (Wires processes 1) refl e e;
    }

some_note : (before : ℕ) → MayStand (Noted before) form.Note
unfolding next
some_note before =
    record {
      shown = line.Note (record { line = before + 1; waits = false });
      of_form = refl;
      behind = Noted (before + 1);
      stands = one (nat_lt before (before + 1)) (Noted (before + 1)) (lt-ltb before (before + 1) (omega arith));
    }

stands_start : (f : Form) → may_stand Start f ≡ true → MayStand Start f
unfolding next
stands_start form.First e = record { shown = line.First 1; of_form = refl; behind = Version; stands = refl }
stands_start form.Kernels e = absurd cc
stands_start form.Process e = absurd cc
stands_start form.Wire e = absurd cc
stands_start form.Step e = absurd cc
stands_start form.Call e = absurd cc
stands_start form.Packet e = absurd cc
stands_start form.Note e = absurd cc
stands_start form.Quiet e = absurd cc
stands_start form.Open e = absurd cc
stands_start form.Spent e = absurd cc

stands_version : (f : Form) → may_stand Version f ≡ true → MayStand Version f
unfolding next
stands_version form.First e = absurd cc
stands_version form.Kernels e = record { shown = line.Kernels 1; of_form = refl; behind = Processes 1 0; stands = refl }
stands_version form.Process e = absurd cc
stands_version form.Wire e = absurd cc
stands_version form.Step e = absurd cc
stands_version form.Call e = absurd cc
stands_version form.Packet e = absurd cc
stands_version form.Note e = absurd cc
stands_version form.Quiet e = absurd cc
stands_version form.Open e = absurd cc
stands_version form.Spent e = absurd cc

stands_processes : (kernels : ℕ) (processes : ℕ) (f : Form) → may_stand (Processes kernels processes) f ≡ true → MayStand (Processes kernels processes) f
unfolding next
stands_processes kernels processes form.First e = absurd cc
stands_processes kernels processes form.Kernels e = absurd cc
stands_processes kernels processes form.Process e = some_process kernels processes e
stands_processes kernels processes form.Wire e = some_first_wire kernels processes e
stands_processes kernels processes form.Step e = absurd cc
stands_processes kernels processes form.Call e = record { shown = line.CallEntry 0 0 first_process Make; of_form = refl; behind = Entry; stands = refl }
stands_processes kernels processes form.Packet e = record { shown = line.PacketEntry 0 0 0 some_picture; of_form = refl; behind = Entry; stands = refl }
stands_processes kernels processes form.Note e = record { shown = line.Note (record { line = 0; waits = false }); of_form = refl; behind = Noted 0; stands = refl }
stands_processes kernels processes form.Quiet e = record { shown = line.End Quiet; of_form = refl; behind = Over; stands = refl }
stands_processes kernels processes form.Open e = record { shown = line.End Unsettled; of_form = refl; behind = Over; stands = refl }
stands_processes kernels processes form.Spent e = record { shown = line.End (Spent 0); of_form = refl; behind = Over; stands = refl }

stands_wires : (processes : ℕ) (wires : ℕ) (f : Form) → may_stand (Wires processes wires) f ≡ true → MayStand (Wires processes wires) f
unfolding next
stands_wires processes wires form.First e = absurd cc
stands_wires processes wires form.Kernels e = absurd cc
stands_wires processes wires form.Process e = absurd cc
stands_wires processes wires form.Wire e = some_wire processes wires e
stands_wires processes wires form.Step e = absurd cc
stands_wires processes wires form.Call e = record { shown = line.CallEntry 0 0 first_process Make; of_form = refl; behind = Entry; stands = refl }
stands_wires processes wires form.Packet e = record { shown = line.PacketEntry 0 0 0 some_picture; of_form = refl; behind = Entry; stands = refl }
stands_wires processes wires form.Note e = record { shown = line.Note (record { line = 0; waits = false }); of_form = refl; behind = Noted 0; stands = refl }
stands_wires processes wires form.Quiet e = record { shown = line.End Quiet; of_form = refl; behind = Over; stands = refl }
stands_wires processes wires form.Open e = record { shown = line.End Unsettled; of_form = refl; behind = Over; stands = refl }
stands_wires processes wires form.Spent e = record { shown = line.End (Spent 0); of_form = refl; behind = Over; stands = refl }

stands_entry : (f : Form) → may_stand Entry f ≡ true → MayStand Entry f
unfolding next
stands_entry form.First e = absurd cc
stands_entry form.Kernels e = absurd cc
stands_entry form.Process e = absurd cc
stands_entry form.Wire e = absurd cc
stands_entry form.Step e = record { shown = line.Service (step.Wait first_process); of_form = refl; behind = Entry; stands = refl }
stands_entry form.Call e = record { shown = line.CallEntry 0 0 first_process Make; of_form = refl; behind = Entry; stands = refl }
stands_entry form.Packet e = record { shown = line.PacketEntry 0 0 0 some_picture; of_form = refl; behind = Entry; stands = refl }
stands_entry form.Note e = record { shown = line.Note (record { line = 0; waits = false }); of_form = refl; behind = Noted 0; stands = refl }
stands_entry form.Quiet e = record { shown = line.End Quiet; of_form = refl; behind = Over; stands = refl }
stands_entry form.Open e = record { shown = line.End Unsettled; of_form = refl; behind = Over; stands = refl }
stands_entry form.Spent e = record { shown = line.End (Spent 0); of_form = refl; behind = Over; stands = refl }

stands_noted : (before : ℕ) (f : Form) → may_stand (Noted before) f ≡ true → MayStand (Noted before) f
unfolding next
stands_noted before form.First e = absurd cc
stands_noted before form.Kernels e = absurd cc
stands_noted before form.Process e = absurd cc
stands_noted before form.Wire e = absurd cc
stands_noted before form.Step e = absurd cc
stands_noted before form.Call e = absurd cc
stands_noted before form.Packet e = absurd cc
stands_noted before form.Note e = some_note before
stands_noted before form.Quiet e = record { shown = line.End Quiet; of_form = refl; behind = Over; stands = refl }
stands_noted before form.Open e = record { shown = line.End Unsettled; of_form = refl; behind = Over; stands = refl }
stands_noted before form.Spent e = absurd cc

stands_over : (f : Form) → may_stand Over f ≡ true → MayStand Over f
unfolding next
stands_over form.First e = absurd cc
stands_over form.Kernels e = absurd cc
stands_over form.Process e = absurd cc
stands_over form.Wire e = absurd cc
stands_over form.Step e = absurd cc
stands_over form.Call e = absurd cc
stands_over form.Packet e = absurd cc
stands_over form.Note e = absurd cc
stands_over form.Quiet e = absurd cc
stands_over form.Open e = absurd cc
stands_over form.Spent e = absurd cc

pub stands : (place : Place) (f : Form) → may_stand place f ≡ true → MayStand place f
stands Start f e = stands_start f e
stands Version f e = stands_version f e
stands (Processes kernels processes) f e = stands_processes kernels processes f e
stands (Wires processes wires) f e = stands_wires processes wires f e
stands Entry f e = stands_entry f e
stands (Noted before) f e = stands_noted before f e
stands Over f e = stands_over f e

pub of_line : (place : Place) (f : Form) → MayStand place f → may_stand place f ≡ true
of_line place f m = subst (λ (g : Form). may_stand place g ≡ true) m.of_form (told place m.shown m.behind m.stands)
