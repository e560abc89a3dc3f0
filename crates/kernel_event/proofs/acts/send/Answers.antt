-- The ends are held by the send, and it starts with copies of what the call has.
use Rattle.std.proofs.Common.{◌≡◌, false, sym, subst}
use Rattle.std.specs.List.{list_any}
use Rattle.end_table.specs.Place.{end_eq}
use Rattle.end_table.specs.Table.{entries, IfHere, IsHere}
use Rattle.kernel_event.proofs.ActsParts.{enclosed-after, on-after, sent-after}
use Rattle.kernel_sound.proofs.Needs.{send-apart, send-enclosed}
use Rattle.kernel_step.specs.Calls.{starts_send}
use Rattle.kernel_step.specs.Enclosed.{AreEnclosed}
use Rattle.kernel_step.specs.Progress.{progress}
use Rattle.kernel_event.proofs.acts.send.Goals as goal

pub enclose_each-requires : goal.enclose_each-requires
enclose_each-requires c =
    subst (AreEnclosed (entries c.args.table.now)) (sym c.as_slice.ensures.same)
    (send-enclosed c.args.p (entries c.args.table.now) c.args.on c.args.enclose.now c.requires.granted)

pub start_send-requires-clause-here : goal.start_send-requires-clause-here
start_send-requires-clause-here c =
    subst IsHere
    (sym (on-after c.args.p c.args.on c.args.enclose.now c.as_slice.result.now c.in-Some._living.now (entries c.args.table.now) (entries c.enclose_each.new.table) c.args.out.now c.enclose_each.new.out
    c.in-Some.ensures.here c.in-Some.ensures.owned c.requires.granted c.requires.own c.as_slice.ensures.same c.enclose_each.ensures.same c.enclose_each.ensures.part)) tt

pub start_send-requires-clause-enclosed : goal.start_send-requires-clause-enclosed
start_send-requires-clause-enclosed c =
    subst (AreEnclosed (entries c.enclose_each.new.table)) (sym c.copy-ends.ensures)
    (enclosed-after c.args.p c.args.on c.args.enclose.now c.as_slice.result.now c.in-Some._living.now (entries c.args.table.now) (entries c.enclose_each.new.table) c.args.out.now c.enclose_each.new.out
    c.in-Some.ensures.here c.in-Some.ensures.owned c.requires.granted c.requires.own c.as_slice.ensures.same c.enclose_each.ensures.same c.enclose_each.ensures.part)

pub start_send-requires-clause-apart : goal.start_send-requires-clause-apart
start_send-requires-clause-apart c =
    subst (λ xs. list_any (end_eq c.args.on) xs ≡ false) (sym c.copy-ends.ensures)
    (send-apart c.args.p (entries c.args.table.now) c.args.on c.args.enclose.now c.requires.granted)

pub returns-in-Some-clause-part : goal.returns-in-Some-clause-part
returns-in-Some-clause-part c =
    sent-after c.args.p c.args.on c.args.enclose.now c.as_slice.result.now c.in-Some._living.now (entries c.args.table.now) (entries c.enclose_each.new.table) c.args.out.now c.enclose_each.new.out
    c.in-Some.ensures.here c.in-Some.ensures.owned c.requires.granted c.requires.own c.as_slice.ensures.same c.enclose_each.ensures.same c.enclose_each.ensures.part
    c.args.table.now.kernel c.enclose_each.new.table.kernel c.args.bytes.now (progress (entries c.start_send.new.table) c.start_send.new.out) c.enclose_each.ensures.kernel
    (subst (λ xs. IfHere (entries c.enclose_each.new.table c.args.on) (λ v. progress (entries c.start_send.new.table) c.start_send.new.out ≡ starts_send c.enclose_each.new.table.kernel c.args.bytes.now xs v (progress (entries c.enclose_each.new.table) c.enclose_each.new.out))) c.copy-ends.ensures
    (subst (λ bytes. IfHere (entries c.enclose_each.new.table c.args.on)
    (λ v. progress (entries c.start_send.new.table) c.start_send.new.out ≡ starts_send c.enclose_each.new.table.kernel bytes c.copy-ends.result v (progress (entries c.enclose_each.new.table) c.enclose_each.new.out)))
    c.copy-message.ensures c.start_send.ensures.part))
