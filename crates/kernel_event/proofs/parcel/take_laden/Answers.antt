-- The values that came are away and apart, and the parts of the parcel are put in order.
use Rattle.std.proofs.Common.{length, refl, ◌≡◌, ◌+◌, ◌≤◌, Option, Some, None, IsSome, IfSome, ap, ◌∙◌, arith}
use Rattle.end_table.specs.Table.{entries}
use Rattle.end_table.specs.declared.entry.HereView.{HereView}
use Rattle.end_table.specs.declared.entry.Holder.TheVariants.{EnclosedIn}
use Rattle.kernel_event.proofs.Brought.{came-away, came-apart, parcel-taken, parcel-behind, parcel-arrives, parcel-takes}
use Rattle.kernel_step.specs.Progress.{progress}
use Rattle.kernel_step.specs.Rows.{asks, parcel_row}
use Rattle.move_core.specs.Arriving.{AreApart}
use Rattle.kernel_event.proofs.parcel.take_laden.Goals as goal

pub arrive-requires-clause-away : goal.arrive-requires-clause-away
arrive-requires-clause-away c =
    came-away c.args.table.now c.args.made c.args.moving.now c.requires.placed (EnclosedIn c.args.head.to) c.arriving-came.result (c.arriving-came.ensures (EnclosedIn c.args.head.to))

pub arrive-requires-clause-apart : goal.arrive-requires-clause-apart
arrive-requires-clause-apart c = by (asks c.args.head.w (entries c.args.table.now c.args.head.to))
  where
    by : (o : Option HereView) → IfSome o (λ _. AreApart c.arriving-came.result)
    by None = tt
    by (Some v) = came-apart c.args.table.now.kernel c.args.made (entries c.args.table.now) c.args.moving.now v.holder c.arriving-came.result (c.arriving-came.ensures v.holder)

pub len-moves-requires : goal.len-moves-requires
len-moves-requires c = let none : length c.args.out.now.packets.items ≡ 0 = ap length c.requires.first in omega (arith, none, c.arrive.ensures.within.added.packets)

pub put_behind-requires-clause-few : goal.put_behind-requires-clause-few
put_behind-requires-clause-few c =
    let none : length c.args.out.now.packets.items ≡ 0 = ap length c.requires.first in omega (arith, none, c.len-moves.ensures, c.arrive.ensures.within.added.packets)

pub put_behind-requires-clause-upto : goal.put_behind-requires-clause-upto
put_behind-requires-clause-upto c = by (asks c.args.head.w (entries c.args.table.now c.args.head.to)) refl c.requires.asked
  where
    by : (o : Option HereView) → asks c.args.head.w (entries c.args.table.now c.args.head.to) ≡ o → IsSome o → c.len-moves.result + 1 ≤ length c.arrived.new.out.packets.items
    by None is some = cc
    by (Some v) is some =
        let enough = parcel-behind c.args.table.now.kernel c.args.head.n c.args.head.site.at c.args.head.site.hops c.copy.result c.arriving-came.result c.ends_in-ends.result v (entries c.args.table.now)
        (entries c.arrive.new.table) (entries c.arrived.new.table) c.args.out.now c.arrive.new.out c.arrived.new.out c.requires.first
        (parcel-arrives c.args.table.now c.arrive.new.table c.arrived.new.table c.args.made c.args.head.to c.args.head.n c.args.head.w c.args.head.site.at c.args.head.site.hops c.copy.result c.args.moving.now
        c.arriving-came.result c.ends_in-ends.result c.args.out.now c.arrive.new.out c.arrived.new.out v is c.requires.placed c.arriving-came.ensures c.arrive.ensures.part c.arrive.ensures.within.kernel
        c.arrived.ensures.part)
        (parcel-takes c.args.table.now c.arrive.new.table c.arrived.new.table c.args.made c.args.head.to c.args.head.n c.args.head.w c.args.head.site.at c.args.head.site.hops c.copy.result c.args.moving.now
        c.arriving-came.result c.ends_in-ends.result c.args.out.now c.arrive.new.out c.arrived.new.out v is c.requires.placed c.arriving-came.ensures c.arrive.ensures.part c.arrive.ensures.within.kernel
        c.arrived.ensures.part) in
        omega (arith, c.len-moves.ensures, enough)

pub returns-clause-part : goal.returns-clause-part
returns-clause-part c =
    by (asks c.args.head.w (entries c.args.table.now c.args.head.to)) refl c.requires.asked
    ∙ ap (λ bytes. parcel_row c.args.table.now.kernel c.args.made c.args.head.to c.args.head.n c.args.head.site.at c.args.head.site.hops bytes c.args.moving.now (asks c.args.head.w (entries c.args.table.now c.args.head.to)) (progress (entries c.args.table.now) c.args.out.now)) c.copy.ensures
  where
    by : (o : Option HereView) → asks c.args.head.w (entries c.args.table.now c.args.head.to) ≡ o → IsSome o
        → progress (entries c.arrived.new.table) c.put_behind.new.out ≡ parcel_row c.args.table.now.kernel c.args.made c.args.head.to c.args.head.n c.args.head.site.at c.args.head.site.hops c.copy.result c.args.moving.now o (progress (entries c.args.table.now) c.args.out.now)
    by None is some = cc
    by (Some v) is some =
        parcel-taken c.args.table.now.kernel c.args.head.n c.args.head.site.at c.args.head.site.hops c.copy.result c.arriving-came.result c.ends_in-ends.result v (entries c.args.table.now) (entries c.arrive.new.table)
        (entries c.arrived.new.table) c.args.out.now c.arrive.new.out c.arrived.new.out c.requires.first
        (parcel-arrives c.args.table.now c.arrive.new.table c.arrived.new.table c.args.made c.args.head.to c.args.head.n c.args.head.w c.args.head.site.at c.args.head.site.hops c.copy.result c.args.moving.now
        c.arriving-came.result c.ends_in-ends.result c.args.out.now c.arrive.new.out c.arrived.new.out v is c.requires.placed c.arriving-came.ensures c.arrive.ensures.part c.arrive.ensures.within.kernel
        c.arrived.ensures.part)
        (parcel-takes c.args.table.now c.arrive.new.table c.arrived.new.table c.args.made c.args.head.to c.args.head.n c.args.head.w c.args.head.site.at c.args.head.site.hops c.copy.result c.args.moving.now
        c.arriving-came.result c.ends_in-ends.result c.args.out.now c.arrive.new.out c.arrived.new.out v is c.requires.placed c.arriving-came.ensures c.arrive.ensures.part c.arrive.ensures.within.kernel
        c.arrived.ensures.part)
        c.args.made c.args.head.to c.args.moving.now c.put_behind.new.out c.len-moves.result (c.arriving-came.ensures v.holder) c.ends_in-ends.ensures
        c.len-moves.ensures
        (c.put_behind.ensures.part (entries c.arrived.new.table))
