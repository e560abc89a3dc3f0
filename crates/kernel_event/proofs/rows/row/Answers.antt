-- Each packet is taken by the rule of its kind.
use Rattle.std.proofs.Common.{◌≡◌, ℕ, sym, ap, ◌∙◌}
use Rattle.charlotte_packets.specs.Packets.{what_picture}
use Rattle.charlotte_calls.specs.declared.names.EndId.{EndId}
use Rattle.charlotte_packets.specs.declared.packet.What.{What}
use Rattle.charlotte_packets.specs.declared.work.Work.{Work}
use Rattle.end_table.specs.Table.{entries}
use Rattle.end_table.specs.declared.entry.Entry.{Entry}
use Rattle.kernel_step.specs.Progress.{Progress, progress}
use Rattle.kernel_step.specs.Rows.{row}
use Rattle.kernel_event.proofs.rows.row.Goals as goal

-- a packet that is of a kind
of_kind : (k made from : ℕ) (t : EndId → Entry) (out : Work) (what kind : What) (after : Progress) → what ≡ kind → after ≡ row k made from (what_picture kind) (progress t out) → after ≡ row k made from (what_picture what) (progress t out)
of_kind k made from t out what kind after is taken = taken ∙ ap (λ w. row k made from (what_picture w) (progress t out)) (sym is)

pub returns-in-Want-clause-part : goal.returns-in-Want-clause-part
unfolding progress
returns-in-Want-clause-part c = of_kind _ _ _ (entries c.args.table.now) c.args.out.now _ _ _ c.in-Want.is c.want.ensures.part

pub returns-in-Unwant-clause-part : goal.returns-in-Unwant-clause-part
unfolding progress
returns-in-Unwant-clause-part c = of_kind _ _ _ (entries c.args.table.now) c.args.out.now _ _ _ c.in-Unwant.is c.unwant.ensures.part

pub returns-in-Unwanted-clause-part : goal.returns-in-Unwanted-clause-part
unfolding progress
returns-in-Unwanted-clause-part c = of_kind _ _ _ (entries c.args.table.now) c.args.out.now _ _ _ c.in-Unwanted.is c.unwanted.ensures.part

pub returns-in-Parcel-clause-part : goal.returns-in-Parcel-clause-part
unfolding progress
returns-in-Parcel-clause-part c = of_kind _ _ _ (entries c.args.table.now) c.args.out.now _ _ _ c.in-Parcel.is c.parcel.ensures.part

pub returns-in-Taken-clause-part : goal.returns-in-Taken-clause-part
unfolding progress
returns-in-Taken-clause-part c = of_kind _ _ _ (entries c.args.table.now) c.args.out.now _ _ _ c.in-Taken.is c.finished.ensures.part

pub returns-in-Back-clause-part : goal.returns-in-Back-clause-part
unfolding progress
returns-in-Back-clause-part c = of_kind _ _ _ (entries c.args.table.now) c.args.out.now _ _ _ c.in-Back.is c.back.ensures.part

pub returns-in-Gone-clause-part : goal.returns-in-Gone-clause-part
unfolding progress
returns-in-Gone-clause-part c = of_kind _ _ _ (entries c.args.table.now) c.args.out.now _ _ _ c.in-Gone.is c.gone.ensures.part

pub returns-in-Moved-clause-part : goal.returns-in-Moved-clause-part
unfolding progress
returns-in-Moved-clause-part c = of_kind _ _ _ (entries c.args.table.now) c.args.out.now _ _ _ c.in-Moved.is c.moved.ensures.part

pub returns-in-Known-clause-part : goal.returns-in-Known-clause-part
unfolding progress
returns-in-Known-clause-part c = of_kind _ _ _ (entries c.args.table.now) c.args.out.now _ _ _ c.in-Known.is c.known.ensures.part

pub returns-in-Forget-clause-part : goal.returns-in-Forget-clause-part
unfolding progress
returns-in-Forget-clause-part c = of_kind _ _ _ (entries c.args.table.now) c.args.out.now _ _ _ c.in-Forget.is c.forget.ensures.part

pub returns-in-GoneSeen-clause-part : goal.returns-in-GoneSeen-clause-part
unfolding progress
returns-in-GoneSeen-clause-part c = of_kind _ _ _ (entries c.args.table.now) c.args.out.now _ _ _ c.in-GoneSeen.is c.gone_seen.ensures.part
