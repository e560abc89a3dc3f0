use Rattle.std.proofs.Common.{◌≡◌, ◌∙◌, ℕ, ◌+◌, List, ap, arith, length}
use Rattle.std.specs.List.{slice_range}
use Rattle.written_journal.proofs.Events.{one-of, part-of}
use Rattle.written_journal.proofs.written.Written.one.Goals as goal

pub slice_bounds-bytes-count : goal.slice_bounds-bytes-count
slice_bounds-bytes-count c =
    let at = part-of c.args.self.now c.requires.0 c.args.number c.index-event.result.now c.bytes_upto.result c.requires.1 c.requires.2 c.index-event.ensures (c.bytes_upto.ensures c.requires.0 c.requires.1 c.requires.2) in
    at.text_within.0

pub slice_bounds-bytes-start : goal.slice_bounds-bytes-start
slice_bounds-bytes-start c =
    let at = part-of c.args.self.now c.requires.0 c.args.number c.index-event.result.now c.bytes_upto.result c.requires.1 c.requires.2 c.index-event.ensures (c.bytes_upto.ensures c.requires.0 c.requires.1 c.requires.2) in
    let within = at.text_within.0 in
    let end = at.text_within.1 in
    omega (arith, within, end, ap length c.deref.ensures.value)

pub slice_bounds-bytes-end : goal.slice_bounds-bytes-end
slice_bounds-bytes-end c =
    let at = part-of c.args.self.now c.requires.0 c.args.number c.index-event.result.now c.bytes_upto.result c.requires.1 c.requires.2 c.index-event.ensures (c.bytes_upto.ensures c.requires.0 c.requires.1 c.requires.2) in
    let within = at.text_within.0 in
    let end = at.text_within.1 in
    omega (arith, within, end, ap length c.deref.ensures.value)

pub overflow_cast-notes : goal.overflow_cast-notes
overflow_cast-notes c =
    let at = part-of c.args.self.now c.requires.0 c.args.number c.index-event.result.now c.bytes_upto.result c.requires.1 c.requires.2 c.index-event.ensures (c.bytes_upto.ensures c.requires.0 c.requires.1 c.requires.2) in
    let end = at.notes_within in
    omega (arith, end)

pub overflow_add-notes : goal.overflow_add-notes
overflow_add-notes c =
    let at = part-of c.args.self.now c.requires.0 c.args.number c.index-event.result.now c.bytes_upto.result c.requires.1 c.requires.2 c.index-event.ensures (c.bytes_upto.ensures c.requires.0 c.requires.1 c.requires.2) in
    let end = at.notes_within in
    omega (arith, end)

pub offset_bounds-deref-event : goal.offset_bounds-deref-event
offset_bounds-deref-event c =
    let at = part-of c.args.self.now c.requires.0 c.args.number c.index-event.result.now c.bytes_upto.result c.requires.1 c.requires.2 c.index-event.ensures (c.bytes_upto.ensures c.requires.0 c.requires.1 c.requires.2) in
    let end = at.notes_within in
    omega (arith, end)

pub slice_bounds-notes-end : goal.slice_bounds-notes-end
slice_bounds-notes-end c =
    let at = part-of c.args.self.now c.requires.0 c.args.number c.index-event.result.now c.bytes_upto.result c.requires.1 c.requires.2 c.index-event.ensures (c.bytes_upto.ensures c.requires.0 c.requires.1 c.requires.2) in
    let end = at.notes_within in
    omega (arith, end, ap length c.deref-2.ensures.value)

pub returns : goal.returns
returns c =
    λ es kept below.
    let ev = c.index-event.result.now in
    one-of c.args.self.now _ es c.args.number ev c.bytes_upto.result kept below c.index-event.ensures (c.bytes_upto.ensures es kept below)
    (c.in_ok-from_slice.ensures.items ∙ ap (λ (t : List ℕ). slice_range t ev.bytes_before c.bytes_upto.result) c.deref.ensures.value)
    (c.in_ok-from_slice-2.ensures.items ∙ ap (λ (t : List ℕ). slice_range t ev.lines_before (ev.lines_before + ev.lines)) c.deref-2.ensures.value) c.in_ok-from_slice-3.ensures.items
