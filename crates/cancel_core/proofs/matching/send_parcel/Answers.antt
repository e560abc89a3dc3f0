use Rattle.std.proofs.Common.{◌≡◌, ◌++◌, ap, ◌∙◌}
use Rattle.kernel_step.proofs.EnclosedEnds.{AreEnclosed-others}
use Rattle.kernel_step.proofs.Steps.{IfHere-map}
use Rattle.cancel_core.proofs.Matches.{matches-made}
use Rattle.end_table.specs.Table.{entries}
use Rattle.charlotte_packets.specs.declared.work.Work.{Work}
use Rattle.end_table.specs.declared.entry.Entry.TheVariants.{Here}
use Rattle.end_table.specs.declared.entry.HereView.{HereView}
use Rattle.end_table.specs.declared.entry.Outward.{Outward}
use Rattle.end_table.specs.declared.entry.Outward.TheVariants.{Matched}
use Rattle.kernel_step.specs.Actions.{leave_each, matches, values_leaving}
use Rattle.kernel_step.specs.Progress.{keeps, progress}
use Rattle.cancel_core.proofs.matching.send_parcel.Goals as goal

pub leave_each-requires-clause-enclosed : goal.leave_each-requires-clause-enclosed
leave_each-requires-clause-enclosed c =
    rw c.as_slice.ensures.same (AreEnclosed-others _ _ c.args.on _ c.keep_sending.ensures.kept.others c.requires.apart c.requires.enclosed)

pub returns-clause-part : goal.returns-clause-part
returns-clause-part c =
    let left : progress (entries c.leave_each.new.table) c.args.out.now ≡ leave_each c.args.value.hint.0 c.args.message.enclosed (progress (entries c.keep_sending.new.table) c.args.out.now) =
    c.leave_each.ensures.part c.args.out.now ∙ ap (λ xs. leave_each c.args.value.hint.0 xs (progress (entries c.keep_sending.new.table) c.args.out.now)) c.as_slice.ensures.same in
    let values : c.leave_each.new.cargo ≡ values_leaving c.args.table.now.kernel (entries c.keep_sending.new.table) c.args.message.enclosed =
    c.leave_each.ensures.cargo
    ∙ ap (λ ms. ms ++ values_leaving c.keep_sending.new.table.kernel (entries c.keep_sending.new.table) c.as_slice.result.now) c.empty-moving.ensures
    ∙ ap (λ k. values_leaving k (entries c.keep_sending.new.table) c.as_slice.result.now) c.keep_sending.ensures.kept.kernel
    ∙ ap (λ xs. values_leaving c.args.table.now.kernel (entries c.keep_sending.new.table) xs) c.as_slice.ensures.same in
    let kept_is : HereView → Type 0 = λ v. (out : Work) → progress (entries c.keep_sending.new.table) out
    ≡ keeps c.args.on (Here (record v { value = record c.args.value { served = c.args.value.want; want = 0 }; outward = Matched c.args.message.n })) (progress (entries c.args.table.now) out) in
    let made_is : HereView → Type 0 = λ v. (o : Outward) → progress (entries c.leave_each.new.table) c.push_packet.new.out
    ≡ matches c.args.table.now.kernel (record v { value = c.args.value; outward = o }) c.args.message.n c.args.message.bytes c.args.message.enclosed (progress (entries c.args.table.now) c.args.out.now) in
    IfHere-map kept_is made_is _
    (λ v same kept o.
    matches-made c.args.table.now.kernel (record v { value = c.args.value; outward = o }) c.args.message.n c.args.message.bytes c.args.message.enclosed _ _ _ c.args.out.now _ _ c.args.on
    c.requires.same_end (kept c.args.out.now) left values
    (cc (c.push_packet.ensures.part (entries c.leave_each.new.table), c.push_step.ensures.part (entries c.leave_each.new.table))))
    c.keep_sending.ensures.part
