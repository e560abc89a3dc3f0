use Rattle.std.proofs.Common.{◌++◌, ◌∷◌, [], ap, refl, sym, ◌∙◌, List}
use Rattle.charlotte_packets.specs.Packets.{packet_picture}
use Rattle.charlotte_calls.specs.declared.calls.ServiceStep.{ServiceStep}
use Rattle.charlotte_packets.specs.declared.picture.Picture.{Picture}
use Rattle.kernel_world.specs.World.{Takes}
use Rattle.kernel_entries.specs.declared.entry.Entry.{Entry}
use Rattle.kernel_entries.specs.declared.entry.Happened.TheVariants.{Took}
use Rattle.script_run.specs.Recorded.{sent_from}
use Rattle.script_run.proofs.Events.{Goes-start, event-goes, first-is, none-first, noting, noting-later, some-first}
use Rattle.script_run.proofs.recorded.Recorded.take_first.Goals as goal

pub returns-in_default : goal.returns-in_default
returns-in_default c s n early ready to_there = (none-first (sent_from c.args.self.now c.args.from c.args.to) (c.in_default.ensures s), Goes-start s c.args.self.now ready.recorded)

pub take_first-requires : goal.take_first-requires
take_first-requires c = (c.requires.0, packet_picture c.in-Some.packet.now, c.requires.3.recorded.nodes, c.requires.4, c.requires.5, sym (c.in-Some.ensures c.requires.0))

pub note-emptied-requires-clause-after_last : goal.note-emptied-requires-clause-after_last
note-emptied-requires-clause-after_last c =
    let s = c.requires.0 in
    let ready = c.requires.3 in
    let did = c.in_ok-stamp.ensures s ready.recorded.nodes in
    let e = Takes c.args.to c.args.from in
    let is = noting s c.requires.1 c.args.self.now e c.args.to c.from.result c.index_mut-journal.result.now c.requires.2 ready (some-first (sent_from c.args.self.now c.args.from c.args.to) _ (c.in-Some.ensures s)) refl c.requires.5 c.from.ensures c.index_mut-journal.ensures.value in
    noting-later s c.requires.1 c.args.self.now e c.from.result c.index_mut-journal.result.now c.in_ok-stamp.field-0 c.took.new.self.entries is did.noted c.took.ensures.entries

pub returns : goal.returns
returns c s n early ready to_there =
    let did = c.in_ok-stamp.ensures s ready.recorded.nodes in
    let qs : List Picture = sent_from c.args.self.now c.args.from c.args.to in
    let some = some-first qs _ (c.in-Some.ensures s) in
    let is = noting s n c.args.self.now (Takes c.args.to c.args.from) c.args.to c.from.result c.index_mut-journal.result.now early ready some refl to_there c.from.ensures c.index_mut-journal.ensures.value in
    let q : Picture = packet_picture c.in-Some.packet.now in
    let entry : Picture → List ServiceStep → Entry = λ x steps. record { stamp = c.in_ok-stamp.field-0.stamp; what = Took c.args.from x; steps = steps } in
    let entries = c.note-emptied.ensures.entries (Took c.args.from q) c.in_ok-took.ensures.begun ∙ ap (λ (es : List Entry). es ++ entry q c.in_ok-stamp.field-0.steps.items ∷ []) c.took.ensures.entries
    ∙ ap (λ (x : Picture). c.index_mut-journal.result.now.entries ++ entry x c.in_ok-stamp.field-0.steps.items ∷ []) (first-is qs q (c.in-Some.ensures s)) in
    (some, event-goes s n c.args.self.now _ (Takes c.args.to c.args.from) c.from.result c.index_mut-journal.result.now c.note-emptied.new.self c.in_ok-stamp.field-0 c.take_first.new.self.nodes.items is did (c.reuse.ensures s did.nodes) refl entries c.note-emptied.ensures.in_range)
