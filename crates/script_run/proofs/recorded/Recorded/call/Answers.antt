use Rattle.std.proofs.Common.{◌≡◌, ◌++◌, ◌∷◌, [], ap, refl, ◌∙◌, List}
use Rattle.charlotte_calls.specs.declared.calls.ServiceStep.{ServiceStep}
use Rattle.kernel_world.specs.World.{Calls}
use Rattle.kernel_entries.specs.declared.entry.Entry.{Entry}
use Rattle.kernel_entries.specs.declared.entry.Happened.{Happened}
use Rattle.kernel_entries.specs.declared.entry.Happened.TheVariants.{Asked}
use Rattle.script_run.proofs.Events.{caller-allowed, event-goes, noting, noting-later}
use Rattle.script_run.proofs.recorded.Recorded.call.Goals as goal

pub note-emptied-requires-clause-after_last : goal.note-emptied-requires-clause-after_last
note-emptied-requires-clause-after_last c =
    let s = c.requires.0 in
    let ready = c.requires.3 in
    let caller = c.requires.4 in
    let did = c.in_ok-stamp.ensures s ready.recorded.nodes in
    let e = Calls c.args.kernel c.args.request.now.p c.args.request.now.call did.0 in
    let is = noting s c.requires.1 c.args.self.now e c.args.kernel c.from.result c.index_mut-journal.result.now c.requires.2 ready (caller-allowed s _ c.args.kernel c.args.request.now.p c.args.request.now.call did.0 caller did.1) refl caller.below c.from.ensures c.index_mut-journal.ensures.value in
    noting-later s c.requires.1 c.args.self.now e c.from.result c.index_mut-journal.result.now c.in_ok-stamp.field-0 c.asked.new.self.entries is did.2.noted c.asked.ensures.entries

pub returns : goal.returns
returns c s n early ready caller =
    let did = c.in_ok-stamp.ensures s ready.recorded.nodes in
    let e = Calls c.args.kernel c.args.request.now.p c.args.request.now.call did.0 in
    let is = noting s n c.args.self.now e c.args.kernel c.from.result c.index_mut-journal.result.now early ready (caller-allowed s _ c.args.kernel c.args.request.now.p c.args.request.now.call did.0 caller did.1) refl caller.below c.from.ensures c.index_mut-journal.ensures.value in
    let what : Happened = Asked c.args.request.now.p c.args.request.now.call in
    let entry : List ServiceStep → Entry = λ steps. record { stamp = c.in_ok-stamp.field-0.stamp; what = what; steps = steps } in
    let entries : c.note-emptied.new.self.entries ≡ c.index_mut-journal.result.now.entries ++ entry c.in_ok-stamp.field-0.steps.items ∷ [] =
    c.note-emptied.ensures.entries what c.in_ok-asked.ensures.begun ∙ ap (λ (es : List Entry). es ++ entry c.in_ok-stamp.field-0.steps.items ∷ []) c.asked.ensures.entries in
    (did.0, event-goes s n c.args.self.now _ e c.from.result c.index_mut-journal.result.now c.note-emptied.new.self c.in_ok-stamp.field-0 c.ask.new.self.nodes.items is did.2 (c.reuse.ensures s did.2.nodes) refl entries c.note-emptied.ensures.in_range)
